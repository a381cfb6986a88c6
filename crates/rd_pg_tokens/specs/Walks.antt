-- The tokens of a unit, and those that a cursor has before it.
use Rattle.std.specs.Prelude.{ℕ, zero, suc, ◌+◌, ◌==◌, ◌&&◌, nat_le, Bool, true, false, if◌then◌else◌, List, [], ◌∷◌, ◌++◌, length, take, drop, slice_range, Option, Some, None}
use Rattle.rd_base.specs.Token.{Token, token}
use Rattle.rd_base.specs.declared.names.NameRules.{NameRules}
use Rattle.rd_base.specs.declared.values.Beside.{Beside}
use Rattle.rd_base.specs.declared.values.Cursor.{Cursor}
use Rattle.rd_base.specs.declared.values.TokenKind.TheVariants.{Soft, Firm}
use Rattle.rd_pg_tokens.specs.declared.kind.Kind.{Kind}
use Rattle.rd_pg_tokens.specs.declared.frame.Frame.{Frame}
use Rattle.rd_pg_tokens.specs.declared.stage.Shown.{Shown}
use Rattle.rd_pg_tokens.specs.declared.stage.Shown.TheVariants.{AsSoft, AsFirm, Passed}
use Rattle.rd_pg_tokens.specs.declared.stage.Stage.{Stage}
use Rattle.rd_pg_tokens.specs.declared.stage.Stage.TheVariants.{ColumnCount}
use Rattle.rd_pg_tokens.specs.declared.piece.Piece.{Piece}
use Rattle.rd_pg_tokens.specs.Stages.{stage_of}
use Rattle.rd_pg_tokens.specs.Frames.{frame_at}
use Rattle.rd_pg_tokens.specs.Pieces.{Columns, no_columns, described, read_len, piece_at, columns_behind}

-- ---- a message's content

-- a token of these bytes, and those that follow
abbrev pub shown_before : Shown → List ℕ → List Token → List Token
shown_before AsSoft text ts = token Soft text ∷ ts
shown_before AsFirm text ts = token Firm text ∷ ts
shown_before Passed text ts = ts

abbrev pub piece_before : Option Piece → List ℕ → (Piece → List Token) → List Token
piece_before None bytes rest = []
piece_before (Some p) bytes rest = shown_before p.shown (slice_range bytes p.start p.end) (rest p)

-- the tokens of a content of at most so many pieces, from a stage on
abbrev pub content_up_to : ℕ → NameRules → Stage → Columns → List ℕ → List Token
content_up_to zero rules stage columns bytes = []
content_up_to (suc count) rules stage columns bytes =
    piece_before (piece_at rules stage columns bytes) bytes
    (λ p. content_up_to count rules p.next (columns_behind stage columns) (drop p.size bytes))

-- a piece has a byte or more
abbrev pub content : NameRules → Stage → Columns → List ℕ → List Token
content rules stage columns bytes = content_up_to (length bytes) rules stage columns bytes

-- ---- frames

abbrev pub is_description : Stage → Bool
is_description ColumnCount = true
is_description stage = false

abbrev pub content_of : Frame → List ℕ → List ℕ
content_of f bytes = slice_range bytes f.from f.to

-- as much of a row description as rows read
abbrev pub read_of : NameRules → List ℕ → List ℕ
read_of rules content = take (read_len rules content) content

-- the columns that rows behind a frame have
abbrev pub columns_after : NameRules → Columns → Frame → List ℕ → Columns
columns_after rules columns f bytes = if is_description f.stage then described (read_of rules (content_of f bytes)) else columns

abbrev pub letter_before : Bool → List ℕ → List Token → List Token
letter_before true bytes ts = token Firm (take 1 bytes) ∷ ts
letter_before false bytes ts = ts

abbrev pub frame_before : Option Frame → (Frame → List Token) → List Token
frame_before None rest = []
frame_before (Some f) rest = rest f

-- the tokens of the frames that stand one behind another, of at most so many
abbrev pub walk_up_to : ℕ → NameRules → Kind → Columns → List ℕ → List Token
walk_up_to zero rules kind columns bytes = []
walk_up_to (suc count) rules kind columns bytes =
    frame_before (frame_at kind bytes)
    (λ f. letter_before f.has_letter bytes
    (content rules f.stage columns (content_of f bytes) ++ walk_up_to count rules kind (columns_after rules columns f bytes) (drop f.to bytes)))

-- a frame has a byte or more
abbrev pub walk : NameRules → Kind → Columns → List ℕ → List Token
walk rules kind columns bytes = walk_up_to (length bytes) rules kind columns bytes

-- the tokens of a unit; of a part of one those of its whole frames
abbrev pub unit_tokens : NameRules → Kind → List ℕ → List Token
unit_tokens rules kind bytes = walk rules kind no_columns bytes

-- ---- cursors
-- Between frames `mode` is 0. In a frame, `mode` and `left` are the stage, and `mark` is where the frame begins.
-- `beside` is what rows read of the last row description, from its next column's name on

abbrev pub columns_of : List ℕ → Beside → Columns
columns_of flat beside = described (slice_range flat beside.from beside.to)

abbrev pub columns_now : List ℕ → Beside → Columns
columns_now flat beside = record { left = beside.left; names = slice_range flat beside.at beside.to }

abbrev pub left_in : NameRules → Kind → List ℕ → Cursor → Frame → List Token
left_in rules kind flat cursor f =
    if nat_le (cursor.mark + f.from) cursor.at && nat_le cursor.at (cursor.mark + f.to)
    then content rules (stage_of cursor.mode cursor.left) (columns_now flat cursor.beside) (slice_range flat cursor.at (cursor.mark + f.to))
    ++ walk rules kind (columns_after rules (columns_of flat cursor.beside) f (drop cursor.mark flat)) (drop (cursor.mark + f.to) flat)
    else []

-- a cursor that no walk gives has nothing before it
abbrev pub left_at : NameRules → Kind → List ℕ → Cursor → List Token
left_at rules kind flat cursor =
    if nat_le cursor.beside.to cursor.at
    then (if cursor.mode == 0 then walk rules kind (columns_of flat cursor.beside) (drop cursor.at flat)
    else frame_before (frame_at kind (drop cursor.mark flat)) (left_in rules kind flat cursor))
    else []
