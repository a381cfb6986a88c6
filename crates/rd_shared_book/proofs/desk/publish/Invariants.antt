use Rattle.std.proofs.Common.{◌≡◌}
use Rattle.left_right.specs.Handles.{published, pending}
use Rattle.rd_shared_book.proofs.desk.publish.Given as goal

abbrev pub invariant-loop : goal.invariant-loop
invariant-loop g l = (pending l.writer ≡ pending l.initial.writer) × (published l.writer ≡ published l.initial.writer)
