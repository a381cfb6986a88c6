use Rattle.std.proofs.Common.{◌≡◌, []}
use Rattle.left_right.specs.Handles.{published, pending}
use Rattle.rd_shared_book.proofs.desk.append.Given as goal

abbrev pub invariant-loop : goal.invariant-loop
invariant-loop g l = (pending l.writer ≡ []) × (published l.writer ≡ published l.initial.writer) × (l.operation ≡ l.initial.operation)
