-- The lines and the target of bytes that may become a head.
use Rattle.std.specs.Prelude.{◌≡◌, ℕ, suc, ◌+◌, ◌≤◌, ◌⊎◌, Bool, true, false, ◌&&◌, ◌||◌, not, List, [], ◌∷◌, ◌++◌, drop, slice_index, if◌then◌else◌, ◌==◌, nat_lt, IsTrue}
use Rattle.std.specs.List.{prefix_len, list_all}
use Rattle.httparse.specs.Grammar.{is_token_byte, RequestHead, ReadsRequest, HasNoRequest}

-- CR or LF
abbrev pub is_break : ℕ → Bool
is_break b = b == 13 || b == 10

-- CR and LF at the front
abbrev pub front_len : List ℕ → ℕ
front_len bytes = prefix_len is_break bytes

abbrev pub after_front : List ℕ → List ℕ
after_front bytes = drop (front_len bytes) bytes

-- where a reader of lines stands: within a line, at a line's beginning, or after one CR there
pub data Place : Type 0 where
  within fresh after_cr : Place

-- the line feeds before the first empty line
abbrev pub line_feeds : Place → List ℕ → ℕ
line_feeds within [] = 0
line_feeds within (b ∷ bytes) = if b == 10 then suc (line_feeds fresh bytes) else line_feeds within bytes
line_feeds fresh [] = 0
line_feeds fresh (b ∷ bytes) = if b == 10 then 0 else (if b == 13 then line_feeds after_cr bytes else line_feeds within bytes)
line_feeds after_cr [] = 0
line_feeds after_cr (b ∷ bytes) = if b == 10 then 0 else line_feeds within bytes

-- the same of a head, whose first line isn't empty
abbrev pub head_feeds : List ℕ → ℕ
head_feeds bytes = line_feeds within (after_front bytes)

-- a byte that may stand in a target
abbrev pub is_target_byte : ℕ → Bool
is_target_byte b = nat_lt 32 b && nat_lt b 127

-- no space, CR or LF
abbrev pub goes_on : ℕ → Bool
goes_on b = not (b == 32) && not (is_break b)

-- a method, one space, and no end of the target yet
abbrev pub is_in_target : List ℕ → Bool
is_in_target text =
    let n = prefix_len is_token_byte text in
    nat_lt 0 n && (slice_index text n == 32 && list_all goes_on (drop (n + 1) text))

abbrev pub target_so_far : List ℕ → List ℕ
target_so_far text = drop (prefix_len is_token_byte text + 1) text

abbrev pub most_bytes : ℕ
most_bytes = 65536

-- the bytes end in their target
abbrev pub InTarget : List ℕ → Type 0
InTarget bytes = IsTrue (is_in_target (after_front bytes))

abbrev pub NotInTarget : List ℕ → Type 0
NotInTarget bytes = is_in_target (after_front bytes) ≡ false

abbrev pub is_good_target : List ℕ → Bool
is_good_target bytes = list_all is_target_byte (target_so_far (after_front bytes))

-- some continuation begins with a head
abbrev pub MayBegin : List ℕ → Type 0
MayBegin bytes = (more : List ℕ) × (h : RequestHead) × (rest : List ℕ) × ReadsRequest (bytes ++ more) h rest

-- neither whole nor hopeless
abbrev pub IsOpen : List ℕ → Type 0
IsOpen bytes =
    (head_feeds bytes ≤ 101) × HasNoRequest bytes
    × ((InTarget bytes × IsTrue (is_good_target bytes)) ⊎ (NotInTarget bytes × MayBegin bytes))

-- the place that two flags tell
abbrev pub place_of : Bool → Bool → Place
place_of false c = within
place_of true false = fresh
place_of true true = after_cr

-- the bytes hold an empty line
abbrev pub has_empty : Place → List ℕ → Bool
has_empty within [] = false
has_empty within (b ∷ bytes) = if b == 10 then has_empty fresh bytes else has_empty within bytes
has_empty fresh [] = false
has_empty fresh (b ∷ bytes) = if b == 10 then true else (if b == 13 then has_empty after_cr bytes else has_empty within bytes)
has_empty after_cr [] = false
has_empty after_cr (b ∷ bytes) = if b == 10 then true else has_empty within bytes
