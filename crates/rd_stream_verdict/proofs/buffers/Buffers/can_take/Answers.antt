use Rattle.std.proofs.Common.{List, ◌<◌, ◌≤◌, length, ap, sym, ◌∙◌, arith}
use Rattle.std.specs.Prelude.{slice_get}
use Rattle.std.proofs.lemmas.Bool.Decides.{nat_tests}
use Rattle.rd_stream_verdict.specs.Kept.{CopyKept, can_take}
use Rattle.rd_stream_verdict.specs.Sharing.{sharing}
use Rattle.rd_stream_verdict.proofs.Sharing.{take_there, take_past}
use Rattle.rd_stream_verdict.proofs.buffers.Buffers.can_take.Goals as goal

pub returns-in-Some : goal.returns-in-Some
returns-in-Some c =
    let there : c.args.copy < length c.as_slice.result.now = grind (arith, nat_tests, c.in-Some.ensures.lookup.0) in
    c.can_take.ensures
    ∙ sym (take_there c.self.inside.sharers c.self.inside.shared c.args.copy c.as_slice.result.now c.in-Some.kept.now there c.in-Some.ensures.lookup.1)
    ∙ ap (λ (xs : List CopyKept). can_take (slice_get (sharing c.self.inside.sharers c.self.inside.shared xs) c.args.copy)) c.as_slice.ensures.value
    ∙ ap (λ (xs : List CopyKept). can_take (slice_get xs c.args.copy)) c.self.view_is

pub returns-in-None : goal.returns-in-None
returns-in-None c =
    let past : length c.as_slice.result.now ≤ c.args.copy = grind (arith, nat_tests, c.in-None.ensures.lookup.0) in
    sym (take_past c.self.inside.sharers c.self.inside.shared c.args.copy c.as_slice.result.now past)
    ∙ ap (λ (xs : List CopyKept). can_take (slice_get (sharing c.self.inside.sharers c.self.inside.shared xs) c.args.copy)) c.as_slice.ensures.value
    ∙ ap (λ (xs : List CopyKept). can_take (slice_get xs c.args.copy)) c.self.view_is
