use Rattle.std.proofs.Common.{◌≡◌, ◌<◌, ℕ, List, length, take, get_or, false, sym, subst, arith}
use Rattle.std.specs.Prelude.{slice_index_or}
use Rattle.std.proofs.lemmas.List.{get_or_default, get_or_read}
use Rattle.rd_rules.specs.Exchange.{Open}
use Rattle.rd_reading.specs.Extents.{all_cut_back}
use Rattle.rd_reading.specs.Fronts.{IsFrontOf, AreFrontsOf, longer}
use Rattle.rd_reading.specs.declared.growth.Extent.{Extent}
use Rattle.rd_reading.proofs.OneFront.{front_at, front-trans, fronts-trans, fronts-top, longest_in, up_to}
use Rattle.rd_reading.proofs.links.stay_alike.Goals as goal

pub loop-place-init : goal.loop-place-init
loop-place-init c =
    let olds = all_cut_back c.args.extents.now c.args.opens.now in
    record {
      before = c.longest_before-top.ensures (longest_in olds) (fronts-top olds c.requires.fronts);
      after = λ k d lt. absurd (omega arith);
    }

pub loop-place-preserved : goal.loop-place-preserved
loop-place-preserved c =
    let i = c.loop-place.place in
    let es = c.args.extents.now in
    let os = c.args.opens.now in
    let none : Extent = record { len = 0; is_ended = false } in
    let e : Extent = get_or es i none in
    let o = c.index-opens-place.result in
    let top = c.loop-place.top.now in
    let bytes = c.bytes-bytes.result.now in
    let below : i < length es = c.loop-place-test.true in
    let there : e ≡ get_or es i e = get_or_default es i none e below in
    let same : bytes ≡ o.bytes = c.bytes-bytes.ensures.bytes in
    let front : IsFrontOf (take e.len bytes) top =
    subst (λ (xs : List ℕ). IsFrontOf (take e.len xs) top) (sym same) (front_at top es os i e o c.loop-place.invariant.before c.requires.count below there c.index-opens-place.is) in
    let goes : IsFrontOf bytes (longer top bytes) = c.go_on_alike.ensures.bytes c.if-not-go_on_alike.false front in
    let on : IsFrontOf top (longer top bytes) = c.go_on_alike.ensures.top c.if-not-go_on_alike.false front in
    let P : Open → Type 0 = λ p. IsFrontOf p.bytes (longer top bytes) in
    let before : (k : ℕ) (d : Open) → k < i → P (slice_index_or os k d) = λ k d lt. front-trans (slice_index_or os k d).bytes top (longer top bytes) (c.loop-place.invariant.after k d lt) on in
    let here : (d : Open) → P (slice_index_or os i d) =
    λ d. subst P (get_or_read os i o (omega (arith, below, c.requires.count)) c.index-opens-place.is d) (subst (λ (xs : List ℕ). IsFrontOf xs (longer top bytes)) same goes) in
    record {
      before = subst (λ (xs : List ℕ). AreFrontsOf xs (all_cut_back es os)) (sym c.longer-top.ensures) (fronts-trans top (longer top bytes) (all_cut_back es os) on c.loop-place.invariant.before);
      after = λ k d lt. subst (λ (xs : List ℕ). IsFrontOf (slice_index_or os k d).bytes xs) (sym c.longer-top.ensures) (up_to P os i before here k d lt);
    }
