-- Toy: lines that begin with their kind, in two phases, with a log-in, a farewell, early lines, and replies that are
-- read until their link ends.
use Rattle.std.specs.Prelude.{ℕ, ◌+◌, ◌==◌, ◌&&◌, ◌||◌, not, Bool, true, false, if◌then◌else◌, List, [], ◌∷◌, length, drop, slice_index, codes}
use Rattle.std.specs.List.{list_any}
use Rattle.rd_base.specs.Scans.{behind}
use Rattle.rd_base.specs.declared.values.Scan.{Scan}
use Rattle.rd_base.specs.declared.values.Scan.TheVariants.{Whole, More, Bad, TooBig, Unsupported}
use Rattle.rd_dialect.specs.Grammar.{Grammar}
use Rattle.rd_dialect.specs.LineGrammar.{line, scan_line}

-- where nothing may come
abbrev pub scan_nothing : List ℕ → Scan
scan_nothing [] = More
scan_nothing (b ∷ bytes) = Bad

-- no line begins with this byte: `!` isn't supported, by this code, and `#` is past a limit
abbrev pub refused : ℕ → ℕ → Scan
refused code b = if b == 33 then Unsupported code else if b == 35 then TooBig else Bad

-- a line that begins with one of these kinds; another one is refused at its first byte
abbrev pub scan_kinds : List ℕ → ℕ → List ℕ → Scan
scan_kinds kinds code [] = More
scan_kinds kinds code (b ∷ bytes) =
    if list_any (λ kind. kind == b) kinds then scan_line (b ∷ bytes) else refused code b

-- in phase 0 a log-in; in phase 1 a query, a read of all there is, a farewell; later nothing
abbrev pub scan_request : ℕ → List ℕ → Scan
scan_request phase bytes =
    if phase == 0 then scan_kinds (codes "u") 7 bytes
    else if phase == 1 then scan_kinds (codes "qrx") 7 bytes
    else scan_nothing bytes

-- the number of bytes in front that are in early lines, which begin with `+`.
-- A byte is in one where one begins with it, or has begun before and not ended
abbrev pub early_len : Bool → List ℕ → ℕ
early_len has_begun [] = 0
early_len has_begun (b ∷ bytes) = if has_begun || b == 43 then early_len (not (b == 10)) bytes + 1 else 0

-- any number of early lines, and then one of these kinds
abbrev pub scan_answer : List ℕ → List ℕ → Scan
scan_answer kinds bytes = behind (early_len false bytes) (scan_kinds kinds 9 (drop (early_len false bytes) bytes))

-- all bytes until their link ends, and at least one
abbrev pub scan_until_end : List ℕ → Bool → Scan
scan_until_end [] ended = More
scan_until_end (b ∷ bytes) ended = if ended then Whole (length (b ∷ bytes)) else More

-- a log-in is accepted or not by `y` or `n`
abbrev pub answer_kinds : ℕ → List ℕ
answer_kinds phase = if phase == 0 then codes "yn" else codes "="

-- the note is 1 for a log-in and a query, 2 for a read, 3 for a farewell, which has no reply
abbrev pub scan_reply : ℕ → ℕ → List ℕ → Bool → Scan
scan_reply phase note bytes ended =
    if note == 1 then scan_answer (answer_kinds phase) bytes
    else if note == 2 then scan_until_end bytes ended
    else scan_nothing bytes

-- by the first byte of a request
abbrev pub note_for : ℕ → ℕ
note_for kind = if kind == 114 then 2 else if kind == 120 then 3 else 1

-- the early lines of an answer aren't shown
abbrev pub shown_from : ℕ → List ℕ → ℕ
shown_from note reply = if note == 1 then early_len false reply else 0

-- a farewell ends all; where a log-in's answer is shown with `y`, phase 1 begins
abbrev pub phase_after : ℕ → ℕ → List ℕ → ℕ
phase_after phase note reply =
    if note == 3 then 2
    else if phase == 0 && slice_index reply (shown_from note reply) == 121 then 1
    else phase

-- its flat form, its tokens and its swapped words are those of plain lines
abbrev pub toy : Grammar
toy =
    record {
      first_phase = record { 0 = 0 };
      scan_request = λ phase bytes. scan_request phase.0 bytes;
      scan_reply = λ phase note bytes ended. scan_reply phase.0 note.0 bytes ended;
      note_of = λ phase unit. record { 0 = note_for (slice_index unit 0) };
      phase_after = λ phase note reply. record { 0 = phase_after phase.0 note.0 reply };
      is_farewell = λ note. note.0 == 3;
      early_replies = true;
      learns_rows = true;
      shown_from = λ phase note reply. shown_from note.0 reply;
      flat = line.flat;
      tokens = line.tokens;
      closed = line.closed;
      first_cursor = line.first_cursor;
      left = line.left;
      asked = line.asked;
      to_copy = line.to_copy;
    }
