use Rattle.std.proofs.Common.{◌≡◌, ℕ, ◌+◌, ◌-◌, ◌≤◌, length, drop}
use Rattle.rd_pg_frame.specs.Phases.{last_letter, last_letter_up_to}
use Rattle.rd_pg_frame.proofs.phase.last_letter.Given as goal

abbrev pub invariant-loop-message : goal.invariant-loop-message
invariant-loop-message l =
    record {
      within : l.at ≤ length l.bytes;
      left : (count : ℕ) × (length l.bytes ≤ l.at + count) × (last_letter l.bytes ≡ last_letter_up_to count l.letter (drop l.at l.bytes));
    }

abbrev pub decreases-loop-message : goal.decreases-loop-message
decreases-loop-message l = length l.bytes - l.at
