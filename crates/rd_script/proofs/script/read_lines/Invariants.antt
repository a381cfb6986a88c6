use Rattle.std.proofs.Common.{◌≡◌, ◌≤◌, ◌+◌, length}
use Rattle.rd_script.specs.Script.{read_lines, nothing_read, parts_of}
use Rattle.rd_script.proofs.script.read_lines.Given as goal

abbrev pub invariant-lines : goal.invariant-lines
invariant-lines l = record {
  reads : read_lines l.copies l.side 2 nothing_read (parts_of l.text) ≡ read_lines l.copies l.side l.number l.reading (parts_of l.rest);
  numbered : l.number + length l.rest ≤ length l.text + 2;
  waits : length l.reading.told + 2 ≤ l.number;
}

abbrev pub decreases-lines : goal.decreases-lines
decreases-lines l = length l.rest
