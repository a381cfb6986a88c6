-- The tokens of a body. Each byte begins a token or goes on with the one before it.
use Rattle.std.specs.Prelude.{ℕ, ◌≡◌, ◌≤◌, ◌<◌, ◌+◌, ◌==◌, ◌&&◌, ◌||◌, not, nat_le, nat_lt, Bool, true, false, if◌then◌else◌, List, [], ◌∷◌, ◌++◌, length, drop, slice_range}
use Rattle.std.specs.List.{flat_map}
use Rattle.rd_base.specs.Token.{Token, token_of}
use Rattle.rd_base.specs.WordCut.{is_word_byte}
use Rattle.rd_base.specs.declared.values.Beside.{Beside}
use Rattle.rd_base.specs.declared.values.Cursor.{Cursor}
use Rattle.rd_base.specs.declared.values.TokenSpan.{TokenSpan}
use Rattle.rd_base.specs.declared.values.TokenKind.{TokenKind}
use Rattle.rd_base.specs.declared.values.TokenKind.TheVariants.{Soft, Firm, Name}
use Rattle.rd_body_tokens.specs.declared.place.BodyKind.{BodyKind}
use Rattle.rd_body_tokens.specs.declared.place.BodyKind.TheVariants.{Words, Json, Form, Raw}
use Rattle.rd_body_tokens.specs.declared.place.Place.{Place}
use Rattle.rd_body_tokens.specs.declared.place.Place.TheVariants.{Fresh, Running, Opened, Inside, Escaped, Block}

-- ---- which byte begins a token

-- a letter, a digit or one of `+` `-` `.`
abbrev pub is_run_byte : ℕ → Bool
is_run_byte b =
    (nat_le 97 b && nat_le b 122) || (nat_le 65 b && nat_le b 90) || (nat_le 48 b && nat_le b 57)
    || b == 43 || b == 45 || b == 46

-- JSON outside a string: a `"` opens one
abbrev pub outside : ℕ → Place
outside b = if b == 34 then Opened else (if is_run_byte b then Running else Fresh)

-- JSON in a string: a `"` closes it, a `\` takes the next byte along
abbrev pub inside : ℕ → Place
inside b = if b == 34 then Fresh else (if b == 92 then Escaped else Inside)

-- a form's key: `=` ends it and begins a value, `&` ends the pair
abbrev pub in_key : ℕ → Place
in_key b = if b == 38 then Fresh else (if b == 61 then Opened else Running)

abbrev pub in_value : ℕ → Place
in_value b = if b == 38 then Fresh else Inside

-- a block ends behind 4,096 bytes
abbrev pub in_block : ℕ → Place
in_block count = if nat_lt count 4095 then Block (count + 1) else Fresh

-- where the reader stands behind a byte
abbrev pub next : BodyKind → Place → ℕ → Place
next Words place b = if is_word_byte b then Running else Fresh
next Json Fresh b = outside b
next Json Running b = outside b
next Json Opened b = inside b
next Json Inside b = inside b
next Json Escaped b = Inside
next Json (Block count) b = outside b
next Form Fresh b = in_key b
next Form Running b = in_key b
next Form Opened b = in_value b
next Form Inside b = in_value b
next Form Escaped b = in_key b
next Form (Block count) b = in_key b
next Raw Fresh b = Block 1
next Raw Running b = Block 1
next Raw Opened b = Block 1
next Raw Inside b = Block 1
next Raw Escaped b = Block 1
next Raw (Block count) b = in_block count

-- a token that ends here may still go on
abbrev pub is_open : Place → Bool
is_open Fresh = false
is_open Running = true
is_open Opened = false
is_open Inside = true
is_open Escaped = true
is_open (Block count) = true

-- the byte goes on with the token before it
abbrev pub joins : BodyKind → Place → ℕ → Bool
joins kind Fresh b = false
joins kind Opened b = false
joins Words Running b = is_word_byte b
joins Words Inside b = false
joins Words Escaped b = false
joins Words (Block count) b = false
joins Json Running b = is_run_byte b
joins Json Inside b = not (b == 34)
joins Json Escaped b = true
joins Json (Block count) b = false
joins Form Running b = not (b == 38) && not (b == 61)
joins Form Inside b = not (b == 38)
joins Form Escaped b = false
joins Form (Block count) b = false
joins Raw Running b = false
joins Raw Inside b = false
joins Raw Escaped b = false
joins Raw (Block count) b = true

abbrev pub soft_or_firm : Bool → TokenKind
soft_or_firm true = Soft
soft_or_firm false = Firm

-- the token that begins with this byte is Soft
abbrev pub is_soft : BodyKind → Place → ℕ → Bool
is_soft Words place b = is_word_byte b
is_soft Json Fresh b = is_run_byte b
is_soft Json Running b = is_run_byte b
is_soft Json Opened b = not (b == 34)
is_soft Json Inside b = not (b == 34)
is_soft Json Escaped b = true
is_soft Json (Block count) b = is_run_byte b
is_soft Form Fresh b = false
is_soft Form Running b = false
is_soft Form Opened b = not (b == 38)
is_soft Form Inside b = not (b == 38)
is_soft Form Escaped b = false
is_soft Form (Block count) b = false
is_soft Raw place b = false

abbrev pub kind_at : BodyKind → Place → ℕ → TokenKind
kind_at kind place b = soft_or_firm (is_soft kind place b)

-- ---- the tokens

-- how a token goes on behind a byte: it ends, it may still go on, or the next byte joins it
pub data Going : Type 0 where
  Ends Waits Joins : Going

abbrev pub going : BodyKind → Bool → Place → List ℕ → Going
going kind whole place [] = if not whole && is_open place then Waits else Ends
going kind whole place (b ∷ bytes) = if joins kind place b then Joins else Ends

-- a byte in front of the tokens behind it. A token that may still go on is none yet
abbrev pub onto : TokenKind → ℕ → Going → List Token → List Token
onto kind b Ends ts = record { kind = kind; text = b ∷ [] } ∷ ts
onto kind b Waits ts = []
onto kind b Joins [] = []
onto kind b Joins (t ∷ ts) = record { kind = kind; text = b ∷ t.text } ∷ ts

-- the tokens of a body from a place on; of a part of one those that are closed
abbrev pub tiles : BodyKind → Bool → Place → List ℕ → List Token
tiles kind whole place [] = []
tiles kind whole place (b ∷ bytes) =
    onto (kind_at kind place b) b (going kind whole (next kind place b) bytes) (tiles kind whole (next kind place b) bytes)

-- ---- cursors

abbrev pub place_by : ℕ → ℕ → Place
place_by mode count =
    if mode == 1 then Running
    else if mode == 2 then Opened
    else if mode == 3 then Inside
    else if mode == 4 then Escaped
    else if mode == 5 then Block count
    else Fresh

abbrev pub place_of : Cursor → Place
place_of cursor = place_by cursor.mode cursor.left

-- no list beside the tokens
abbrev pub nothing_beside : Beside
nothing_beside = record { from = 0; to = 0; at = 0; left = 0 }

abbrev pub cursor_at : ℕ → Place → Cursor
cursor_at at Fresh = record { at = at; mode = 0; left = 0; mark = 0; beside = nothing_beside }
cursor_at at Running = record { at = at; mode = 1; left = 0; mark = 0; beside = nothing_beside }
cursor_at at Opened = record { at = at; mode = 2; left = 0; mark = 0; beside = nothing_beside }
cursor_at at Inside = record { at = at; mode = 3; left = 0; mark = 0; beside = nothing_beside }
cursor_at at Escaped = record { at = at; mode = 4; left = 0; mark = 0; beside = nothing_beside }
cursor_at at (Block count) = record { at = at; mode = 5; left = count; mark = 0; beside = nothing_beside }

-- the tokens that a cursor has before it
abbrev pub body_left : BodyKind → Bool → Cursor → List ℕ → List Token
body_left kind whole cursor body = tiles kind whole (place_of cursor) (drop cursor.at body)

-- the call for the next token gave this span and this cursor. What it gave for a part it gives for all that the part
-- becomes
pub record IsNextBody (kind : BodyKind) (body : List ℕ) (whole : Bool) (cursor : Cursor) (span : TokenSpan) (after : Cursor) : Type 0 where
  pub from : span.start ≡ cursor.at
  pub past : span.start < span.end
  pub within : span.end ≤ length body
  pub behind : after.at ≡ span.end
  pub here : body_left kind whole cursor body ≡ token_of body span ∷ body_left kind whole after body
  pub on : whole ≡ false → (more : List ℕ) (all : Bool) → body_left kind all cursor (body ++ more) ≡ token_of body span ∷ body_left kind all after (body ++ more)

-- ---- the bytes that join

pub record Joined : Type 0 where
  pub text : List ℕ
  pub place : Place
  pub rest : List ℕ

abbrev pub one_more : ℕ → Joined → Joined
one_more b j = record { text = b ∷ j.text; place = j.place; rest = j.rest }

-- the bytes in front that go on with a token, where the reader then stands, and what is left
abbrev pub joined_front : BodyKind → Place → List ℕ → Joined
joined_front kind place [] = record { text = []; place = place; rest = [] }
joined_front kind place (b ∷ bytes) =
    if joins kind place b then one_more b (joined_front kind (next kind place b) bytes)
    else record { text = []; place = place; rest = b ∷ bytes }

-- from a place of the body on, bytes join up to this end
pub record IsRun (kind : BodyKind) (place : Place) (body : List ℕ) (from end : ℕ) (here : Place) : Type 0 where
  pub ordered : from ≤ end
  pub within : end ≤ length body
  pub is : joined_front kind place (drop from body) ≡ record { text = slice_range body from end; place = here; rest = drop end body }

-- ---- laws

pub record AreTiles (kind : BodyKind) : Type 0 where
  -- the tokens of a body are slices of it, in order, and joined they are the body
  pub joined : (body : List ℕ) → flat_map (λ t. t.text) (tiles kind true Fresh body) ≡ body
  -- the closed tokens of a part begin those of all that the part becomes
  pub online : (bytes more : List ℕ) (whole : Bool) → (rest : List Token) × (tiles kind false Fresh bytes ++ rest ≡ tiles kind whole Fresh (bytes ++ more))
  -- no more tokens than bytes
  pub few : (whole : Bool) (body : List ℕ) → length (tiles kind whole Fresh body) ≤ length body
