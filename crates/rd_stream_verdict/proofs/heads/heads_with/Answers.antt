use Rattle.std.proofs.Common.{◌≡◌, ap, ◌∙◌, arith, length, set, length-set, length-drop}
use Rattle.std.specs.Prelude.{slice_get}
use Rattle.std.proofs.lemmas.List.{take_rest, length-map}
use Rattle.rd_stream_verdict.specs.Kept.{CopyKept}
use Rattle.rd_stream_verdict.specs.Sharing.{sharing}
use Rattle.rd_stream_verdict.proofs.Sharing.{length-sharing, heads_made, shared_size, refill_all}
use Rattle.rd_stream_verdict.proofs.heads.heads_with.Goals as goal

pub push_heads-requires : goal.push_heads-requires
push_heads-requires c =
    let size = shared_size c.args.sharers c.args.shared.now c.new-heads.result.items c.push_shared.new.heads.items c.new-heads.ensures c.push_shared.ensures in
    let rest = ap length (take_rest c.args.copies.now c.args.sharers) in
    omega (arith, size, rest, length-drop c.args.sharers c.args.copies.now)

pub bounds-as_mut_slice-copy : goal.bounds-as_mut_slice-copy
bounds-as_mut_slice-copy c =
    let n = c.args.sharers in
    let t = c.args.shared.now in
    let copies = c.args.copies.now in
    let made = heads_made n t copies c.new-heads.result.items c.push_shared.new.heads.items c.push_heads.new.heads.items c.requires.most c.new-heads.ensures c.push_shared.ensures c.push_heads.ensures in
    omega (arith, ap length c.as_mut_slice.ensures.value, ap length made, length-map (sharing n t copies) (λ (d : CopyKept). slice_get d.waiting 0), length-sharing n t copies)

pub returns : goal.returns
returns c =
    let n = c.args.sharers in
    let t = c.args.shared.now in
    let copies = c.args.copies.now in
    let all = c.push_heads.new.heads.items in
    let now = c.as_mut_slice.result.now in
    let made = heads_made n t copies c.new-heads.result.items c.push_shared.new.heads.items all c.requires.most c.new-heads.ensures c.push_shared.ensures c.push_heads.ensures in
    let same : length (set now c.args.copy c.args.head) ≡ length all = omega (arith, length-set now c.args.copy c.args.head, ap length c.as_mut_slice.ensures.value) in
    refill_all all (set now c.args.copy c.args.head) same
    ∙ ap (λ xs. set xs c.args.copy c.args.head) (c.as_mut_slice.ensures.value ∙ made)
