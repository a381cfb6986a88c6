use Rattle.std.proofs.lemmas.List.{drop_all}
use Rattle.std.proofs.Common.{◌≡◌, ◌++◌, ◌-◌, [], length, map, take, drop, ap, ◌∙◌, arith, length-drop}
use Rattle.rd_stream_verdict.specs.Heads.{passed}
use Rattle.rd_stream_verdict.proofs.Sharing.{pass_sharing, refill_all, rest_changed, rest_size}
use Rattle.rd_stream_verdict.proofs.buffers.Buffers.pass_by_copies.Goals as goal

pub returns : goal.returns
returns c =
    let n = c.self.inside.sharers in
    let items = c.self.inside.kept.items in
    let all = c.as_mut_slice.result.now in
    let post = drop (length all - n) (drop n all) in
    let none : post ≡ [] = drop_all (length all - n) (drop n all) (omega (arith, length-drop n all)) in
    let whole = take n all ++ (c.pass_each.new.copies ++ post) in
    let is : whole ≡ take n items ++ map passed (drop n items) = rest_changed passed n items all c.pass_each.new.copies post c.as_mut_slice.ensures.value c.self.invariant.most c.pass_each.ensures none in
    let size : length whole ≡ length items = ap length is ∙ rest_size passed n items c.self.invariant.most in
    ap (λ m. take m (whole ++ drop (length whole) items)) (let e : c.self.inside.kept.len ≡ length items = omega arith in e)
    ∙ refill_all items whole size
    ∙ is
    ∙ pass_sharing n c.self.inside.shared items
    ∙ ap (map passed) c.self.view_is
