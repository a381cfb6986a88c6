use Rattle.std.proofs.Common.{◌≤◌}
use Rattle.std.specs.List.{position_or_len}
use Rattle.rd_board.specs.Notes.{is_unkept_of}
use Rattle.rd_board.proofs.latest.unkept_of.Given as goal

abbrev pub invariant-notes : goal.invariant-notes
invariant-notes l = l.place ≤ position_or_len (is_unkept_of l.id) l.notes.items
