use Rattle.std.proofs.Common.{◌≡◌, ◌≤◌, ◌<◌, ℕ, List, length, take, get_or, false, ap, sym, subst, ◌∙◌, arith}
use Rattle.std.specs.Prelude.{slice_index_or}
use Rattle.std.proofs.lemmas.List.{get_or_default}
use Rattle.rd_rules.specs.Exchange.{Open}
use Rattle.rd_reading.specs.Extents.{all_cut_back}
use Rattle.rd_reading.specs.Fronts.{IsFrontOf, longer}
use Rattle.rd_reading.specs.declared.growth.Extent.{Extent}
use Rattle.rd_reading.proofs.OneFront.{front_at, cut_at, length-cut, longer-front, longer-first, longer-second, front-of-longer, up_to}
use Rattle.rd_reading.proofs.links.longest_before.Goals as goal

pub loop-place-preserved : goal.loop-place-preserved
loop-place-preserved c =
    let i = c.loop-place.place in
    let es = c.args.extents.now in
    let os = c.args.opens.now in
    let olds = all_cut_back es os in
    let none : Extent = record { len = 0; is_ended = false } in
    let e : Extent = get_or es i none in
    let o = c.index-opens-place.result in
    let top = c.loop-place.top.now in
    let bytes = take e.len o.bytes in
    let below : i < length es = c.loop-place-test.true in
    let is : c.longer-top.result.now ≡ longer top bytes = c.longer-top.ensures ∙ ap (longer top) c.front.ensures in
    let there : e ≡ get_or es i e = get_or_default es i none e below in
    let first = longer-first top bytes in
    let second : length bytes ≤ length (longer top bytes) = longer-second top bytes in
    let P : Open → Type 0 = λ p. length p.bytes ≤ length (longer top bytes) in
    let before : (k : ℕ) (d : Open) → k < i → P (slice_index_or olds k d) = λ k d lt. let le = c.loop-place.invariant.most k d lt in omega (arith, le, first) in
    let here : (d : Open) → P (slice_index_or olds i d) = λ d. subst P (sym (cut_at es os i d e o c.requires below there c.index-opens-place.is)) second in
    record {
      front = λ whole all. subst (λ (xs : List ℕ). IsFrontOf xs whole) (sym is)
          (longer-front top bytes whole (c.loop-place.invariant.front whole all) (front_at whole es os i e o all c.requires below there c.index-opens-place.is));
      most = λ k d lt. subst (λ (xs : List ℕ). length (slice_index_or olds k d).bytes ≤ length xs) (sym is) (up_to P olds i before here k d lt);
    }

pub returns : goal.returns
returns c = λ whole all k d lt.
    let es = c.args.extents.now in
    let os = c.args.opens.now in
    let n = length-cut es os in
    front-of-longer (slice_index_or (all_cut_back es os) k d).bytes c.loop-place.top.now whole (all k d lt) (c.loop-place.invariant.front whole all)
    (c.loop-place.invariant.most k d (omega (arith, lt, n, c.requires, c.loop-place-test.false)))
