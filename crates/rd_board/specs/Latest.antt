-- What is true of the last notes as they are held.
use Rattle.std.specs.Prelude.{◌≡◌, ℕ, ◌≤◌, ◌<◌, ◌+◌, ◌-◌, ◌%◌, ◌==◌, Bool, true, false, List, Option, Some, None, length, set, slice_get, slice_index, count_by}
use Rattle.std.specs.List.{position_or_len}
use Rattle.circular_buffer.specs.Buffer.{Buffer}
use Rattle.rd_board.specs.declared.latest.BoardNote.{BoardNote}
use Rattle.rd_board.specs.Notes.{is_unkept}

abbrev pub is_in_bucket : ℕ → BoardNote → Bool
is_in_bucket bucket n = n.note.id % 16384 == bucket

-- each bucket has the number of notes whose id has its remainder
pub record CountsIds (notes : List BoardNote) (counts : List ℕ) : Type 0 where
  pub buckets : length counts ≡ 16384
  pub counted : (bucket : ℕ) → bucket < 16384 → slice_index counts bucket ≡ count_by (is_in_bucket bucket) notes

pub record KeepsLatest (notes : Buffer BoardNote) (counts : List ℕ) (first_unkept : ℕ) : Type 0 where
  pub capacity : notes.capacity ≡ 10000
  pub within : length notes.items ≤ 10000
  pub counts_ids : CountsIds notes.items counts
  pub first : first_unkept ≡ position_or_len is_unkept notes.items

-- the bucket of this id has one note more
abbrev pub raised : List ℕ → ℕ → List ℕ
raised counts id = set counts (id % 16384) (slice_index counts (id % 16384) + 1)

-- and one less
abbrev pub lowered : List ℕ → ℕ → List ℕ
lowered counts id = set counts (id % 16384) (slice_index counts (id % 16384) - 1)

abbrev pub passes : (BoardNote → Bool) → Option BoardNote → Bool
passes test None = false
passes test (Some n) = test n

-- a note stands there, and passes the test
abbrev pub passes_at : (BoardNote → Bool) → List BoardNote → ℕ → Bool
passes_at test notes place = passes test (slice_get notes place)

abbrev pub mark_found : List BoardNote → ℕ → Option BoardNote → List BoardNote
mark_found notes place None = notes
mark_found notes place (Some n) = set notes place (record n { is_kept = true })

-- the note that stands there is marked kept
abbrev pub mark_place : List BoardNote → ℕ → List BoardNote
mark_place notes place = mark_found notes place (slice_get notes place)
