use Rattle.std.proofs.Common.{ap, length, sym, subst, arith, ◌<◌}
use Rattle.std.specs.Prelude.{slice_get}
use Rattle.rd_stream_verdict.specs.Kept.{Kept, waiting_bytes}
use Rattle.rd_stream_verdict.proofs.KeptBytes.{kept_have, kept_few, waiting_few}
use Rattle.rd_stream_verdict.proofs.stream.StreamVerdict.kept.Goals as goal

pub bytes_of-requires-clause-words : goal.bytes_of-requires-clause-words
bytes_of-requires-clause-words c =
    let seen : Kept = record { most = c.self.inside.most; found = c.self.inside.found; rows = c.self.inside.rows; copies = c.self.inside.copies } in
    let there : c.args.copy < length seen.copies = (let P : Kept → Type 0 = λ v. c.args.copy < length v.copies in subst P (sym c.self.view_is) c.requires) in
    kept_have c.args.copy seen c.self.invariant there

pub bytes_of-requires-clause-few : goal.bytes_of-requires-clause-few
bytes_of-requires-clause-few c = kept_few (record { most = c.self.inside.most; found = c.self.inside.found; rows = c.self.inside.rows; copies = c.self.inside.copies }) c.self.invariant

pub returns-clause-most : goal.returns-clause-most
returns-clause-most c = λ said at.
    let seen = ap (λ (v : Kept). waiting_bytes (slice_get v.copies c.args.copy)) c.self.view_is in
    omega (arith, c.bytes.ensures.bytes, seen, waiting_few c.args.copy c.args.self.now said at, c.bytes_of.ensures.most)
