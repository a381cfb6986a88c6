use Rattle.std.proofs.Common.{◌≤◌, length}
use Rattle.rddr.proofs.disk_files.read_file.Given as goal

abbrev pub invariant-reads : goal.invariant-reads
invariant-reads g l = length l.bytes ≤ l.most
