-- A walk over a unit, one step further: what it gives on some bytes it gives on all that they become.
use Rattle.std.specs.Prelude.{◌≡◌, ℕ, ◌+◌, ◌-◌, ◌*◌, ◌≤◌, ◌<◌, ◌==◌, if◌then◌else◌, List, [], ◌∷◌, ◌++◌, length, slice_range}
use Rattle.rd_base.specs.Token.{token_of}
use Rattle.rd_base.specs.declared.names.NameRules.{NameRules}
use Rattle.rd_base.specs.declared.values.Beside.{Beside}
use Rattle.rd_base.specs.declared.values.Cursor.{Cursor}
use Rattle.rd_base.specs.declared.values.TokenSpan.{TokenSpan}
use Rattle.rd_base.specs.declared.values.TokenKind.TheVariants.{Soft, Firm}
use Rattle.rd_pg_tokens.specs.declared.kind.Kind.{Kind}
use Rattle.rd_pg_tokens.specs.declared.frame.Frame.{Frame}
use Rattle.rd_pg_tokens.specs.declared.stage.Shown.{Shown}
use Rattle.rd_pg_tokens.specs.declared.stage.Shown.TheVariants.{AsSoft, AsFirm, Passed}
use Rattle.rd_pg_tokens.specs.declared.stage.Stage.{Stage}
use Rattle.rd_pg_tokens.specs.declared.piece.Piece.{Piece}
use Rattle.rd_pg_tokens.specs.declared.step.Step.{Step}
use Rattle.rd_pg_tokens.specs.declared.step.Step.TheVariants.{Told, Passed as Untold, End}
use Rattle.rd_pg_tokens.specs.Stages.{mode_of, left_of}
use Rattle.rd_pg_tokens.specs.Pieces.{read_len, columns_behind}
use Rattle.rd_pg_tokens.specs.Walks.{columns_of, columns_now, is_description, left_at}

-- how far a walk has to go
abbrev pub distance : List ℕ → Cursor → ℕ
distance flat cursor = if cursor.mode == 0 then 2 * (length flat - cursor.at) else 2 * (length flat - cursor.at) + 1

pub record IsTold (rules : NameRules) (kind : Kind) (flat : List ℕ) (cursor : Cursor) (span : TokenSpan) (next : Cursor) : Type 0 where
  pub ordered : span.start ≤ span.end
  pub within : span.end ≤ length flat
  pub gives : (more : List ℕ) → left_at rules kind (flat ++ more) cursor ≡ token_of flat span ∷ left_at rules kind (flat ++ more) next

pub record IsPassed (rules : NameRules) (kind : Kind) (flat : List ℕ) (cursor next : Cursor) : Type 0 where
  pub nearer : distance flat next < distance flat cursor
  pub gives : (more : List ℕ) → left_at rules kind (flat ++ more) cursor ≡ left_at rules kind (flat ++ more) next

abbrev pub IsStep : NameRules → Kind → List ℕ → Cursor → Step → Type 0
IsStep rules kind flat cursor (Told span next) = IsTold rules kind flat cursor span next
IsStep rules kind flat cursor (Untold next) = IsPassed rules kind flat cursor next
IsStep rules kind flat cursor End = left_at rules kind flat cursor ≡ []

-- at the first of the columns
pub record IsOpened (flat : List ℕ) (beside next : Beside) : Type 0 where
  pub from : next.from ≡ beside.from
  pub to : next.to ≡ beside.to
  pub columns : (more : List ℕ) → columns_now (flat ++ more) next ≡ columns_of (flat ++ more) beside

-- at the beginning of a frame's content
pub record IsEntered (flat : List ℕ) (cursor : Cursor) (f : Frame) (next : Cursor) : Type 0 where
  pub at : next.at ≡ cursor.at + f.from
  pub mode : next.mode ≡ mode_of f.stage
  pub left : next.left ≡ left_of f.stage
  pub mark : next.mark ≡ cursor.at
  pub beside : IsOpened flat cursor.beside next.beside

-- behind a piece
pub record IsBehind (stage : Stage) (names : List ℕ) (cursor : Cursor) (p : Piece) (next : Cursor) : Type 0 where
  pub at : next.at ≡ cursor.at + p.size
  pub mode : next.mode ≡ mode_of p.next
  pub left : next.left ≡ left_of p.next
  pub mark : next.mark ≡ cursor.mark
  pub from : next.beside.from ≡ cursor.beside.from
  pub to : next.beside.to ≡ cursor.beside.to
  pub columns : (all : List ℕ) → slice_range all cursor.beside.at cursor.beside.to ≡ names → columns_now all next.beside ≡ columns_behind stage (columns_now all cursor.beside)

-- behind a frame with this content
pub record IsLeft (rules : NameRules) (content : List ℕ) (cursor : Cursor) (f : Frame) (next : Cursor) : Type 0 where
  pub at : next.at ≡ cursor.mark + f.to
  pub mode : next.mode ≡ 0
  pub from : next.beside.from ≡ (if is_description f.stage then cursor.mark + f.from else cursor.beside.from)
  pub to : next.beside.to ≡ (if is_description f.stage then cursor.mark + f.from + read_len rules content else cursor.beside.to)

-- the step over a piece
abbrev pub step_by : Shown → ℕ → ℕ → Cursor → Step
step_by AsSoft start end next = Told (record { kind = Soft; start = start; end = end }) next
step_by AsFirm start end next = Told (record { kind = Firm; start = start; end = end }) next
step_by Passed start end next = Untold next

abbrev pub shown_step : Cursor → Cursor → Piece → Step
shown_step cursor next p = step_by p.shown (cursor.at + p.start) (cursor.at + p.end) next
