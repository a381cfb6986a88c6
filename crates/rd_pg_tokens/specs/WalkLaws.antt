-- Tokens one piece and one frame further; those of a part begin those of all that it becomes.
use Rattle.std.proofs.Common.{◌≡◌, ℕ, zero, suc, ◌-◌, ◌<◌, ◌≤◌, Bool, true, false, cond, List, [], ◌∷◌, ◌++◌, length, take, drop, length-append, length-drop, length-take, append_assoc, Option, Some, None, refl, sym, ap, ◌∙◌, arith}
use Rattle.std.specs.Prelude.{slice_range}
use Rattle.std.proofs.Math.Nat.{min-le_left}
use Rattle.std.proofs.lemmas.List.{drop-append-le, take-append-le}
use Rattle.rd_base.proofs.Cutting.{same_range}
use Rattle.rd_base.specs.Token.{Token, token}
use Rattle.rd_base.specs.declared.names.NameRules.{NameRules}
use Rattle.rd_base.specs.declared.values.TokenKind.TheVariants.{Firm}
use Rattle.rd_dialect.specs.Laws.{IsFront}
use Rattle.rd_pg_tokens.specs.declared.kind.Kind.{Kind}
use Rattle.rd_pg_tokens.specs.declared.frame.Frame.{Frame}
use Rattle.rd_pg_tokens.specs.declared.stage.Shown.{Shown}
use Rattle.rd_pg_tokens.specs.declared.stage.Shown.TheVariants.{AsSoft, AsFirm, Passed}
use Rattle.rd_pg_tokens.specs.declared.stage.Stage.{Stage}
use Rattle.rd_pg_tokens.specs.declared.piece.Piece.{Piece}
use Rattle.rd_pg_tokens.specs.Frames.{frame_at}
use Rattle.rd_pg_tokens.specs.Pieces.{Columns, described, piece_at, columns_behind}
use Rattle.rd_pg_tokens.specs.PieceLaws.{piece_is}
use Rattle.rd_pg_tokens.specs.FrameLaws.{IsFrame, frame_is, frame_stays}
use Rattle.rd_pg_tokens.specs.Walks.{shown_before, piece_before, content_up_to, content, is_description, content_of, columns_after, read_of, letter_before, frame_before, walk_up_to, walk}

-- ---- contents

same_before : (shown : Shown) (text : List ℕ) (ts us : List Token) → ts ≡ us → shown_before shown text ts ≡ shown_before shown text us
same_before shown text ts us e = ap (shown_before shown text) e

-- the number of pieces doesn't matter where it is enough
content_enough : (n m : ℕ) (rules : NameRules) (stage : Stage) (columns : Columns) (bytes : List ℕ) → length bytes ≤ n → length bytes ≤ m
    → content_up_to n rules stage columns bytes ≡ content_up_to m rules stage columns bytes
content_enough zero zero rules stage columns bytes a b = refl
content_enough zero (suc m) rules stage columns bytes a b = by (piece_at rules stage columns bytes) refl
  where
    by : (r : Option Piece) → piece_at rules stage columns bytes ≡ r → [] ≡ piece_before r bytes (λ p. content_up_to m rules p.next (columns_behind stage columns) (drop p.size bytes))
    by None e = refl
    by (Some p) e = let is = piece_is rules stage columns bytes p e in absurd (omega (arith, is.some, is.within, a))
content_enough (suc n) zero rules stage columns bytes a b = by (piece_at rules stage columns bytes) refl
  where
    by : (r : Option Piece) → piece_at rules stage columns bytes ≡ r → piece_before r bytes (λ p. content_up_to n rules p.next (columns_behind stage columns) (drop p.size bytes)) ≡ []
    by None e = refl
    by (Some p) e = let is = piece_is rules stage columns bytes p e in absurd (omega (arith, is.some, is.within, b))
content_enough (suc n) (suc m) rules stage columns bytes a b =
    by (λ next rest u v. content_enough n m rules next (columns_behind stage columns) rest u v) (piece_at rules stage columns bytes) refl
  where
    by : ((next : Stage) (rest : List ℕ) → length rest ≤ n → length rest ≤ m → content_up_to n rules next (columns_behind stage columns) rest ≡ content_up_to m rules next (columns_behind stage columns) rest)
        → (r : Option Piece) → piece_at rules stage columns bytes ≡ r
        → piece_before r bytes (λ p. content_up_to n rules p.next (columns_behind stage columns) (drop p.size bytes)) ≡ piece_before r bytes (λ p. content_up_to m rules p.next (columns_behind stage columns) (drop p.size bytes))
    by later None e = refl
    by later (Some p) e =
        let is = piece_is rules stage columns bytes p e in
        let size = length-drop p.size bytes in
        ap (shown_before p.shown (slice_range bytes p.start p.end)) (later p.next (drop p.size bytes) (omega (arith, size, is.some, is.within, a)) (omega (arith, size, is.some, is.within, b)))

pub content_end : (rules : NameRules) (stage : Stage) (columns : Columns) (bytes : List ℕ) → piece_at rules stage columns bytes ≡ None → content rules stage columns bytes ≡ []
content_end rules stage columns bytes e =
    content_enough (length bytes) (suc (length bytes)) rules stage columns bytes (omega arith) (omega arith)
    ∙ ap (λ (r : Option Piece). piece_before r bytes (λ p. content_up_to (length bytes) rules p.next (columns_behind stage columns) (drop p.size bytes))) e

pub content_further : (rules : NameRules) (stage : Stage) (columns : Columns) (bytes : List ℕ) (p : Piece) → piece_at rules stage columns bytes ≡ Some p
    → content rules stage columns bytes ≡ shown_before p.shown (slice_range bytes p.start p.end) (content rules p.next (columns_behind stage columns) (drop p.size bytes))
content_further rules stage columns bytes p e =
    content_enough (length bytes) (suc (length bytes)) rules stage columns bytes (omega arith) (omega arith)
    ∙ ap (λ (r : Option Piece). piece_before r bytes (λ p. content_up_to (length bytes) rules p.next (columns_behind stage columns) (drop p.size bytes))) e
    ∙ ap (shown_before p.shown (slice_range bytes p.start p.end))
    (content_enough (length bytes) (length (drop p.size bytes)) rules p.next (columns_behind stage columns) (drop p.size bytes) (omega (arith, length-drop p.size bytes)) (omega arith))

shown_few : (shown : Shown) (text : List ℕ) (ts : List Token) → length (shown_before shown text ts) ≤ suc (length ts)
shown_few AsSoft text ts = omega arith
shown_few AsFirm text ts = omega arith
shown_few Passed text ts = omega arith

-- no more tokens than bytes
content_few : (n : ℕ) (rules : NameRules) (stage : Stage) (columns : Columns) (bytes : List ℕ) → length (content_up_to n rules stage columns bytes) ≤ length bytes
content_few zero rules stage columns bytes = omega arith
content_few (suc n) rules stage columns bytes = by (λ next rest. content_few n rules next (columns_behind stage columns) rest) (piece_at rules stage columns bytes) refl
  where
    by : ((next : Stage) (rest : List ℕ) → length (content_up_to n rules next (columns_behind stage columns) rest) ≤ length rest)
        → (r : Option Piece) → piece_at rules stage columns bytes ≡ r
        → length (piece_before r bytes (λ p. content_up_to n rules p.next (columns_behind stage columns) (drop p.size bytes))) ≤ length bytes
    by later None e = omega arith
    by later (Some p) e =
        let is = piece_is rules stage columns bytes p e in
        let rest = drop p.size bytes in
        omega (arith, shown_few p.shown (slice_range bytes p.start p.end) (content_up_to n rules p.next (columns_behind stage columns) rest), later p.next rest, length-drop p.size bytes, is.some, is.within)

-- ---- frames

walk_enough : (n m : ℕ) (rules : NameRules) (kind : Kind) (columns : Columns) (bytes : List ℕ) → length bytes ≤ n → length bytes ≤ m
    → walk_up_to n rules kind columns bytes ≡ walk_up_to m rules kind columns bytes
walk_enough zero zero rules kind columns bytes a b = refl
walk_enough zero (suc m) rules kind columns bytes a b = by (frame_at kind bytes) refl
  where
    by : (r : Option Frame) → frame_at kind bytes ≡ r
        → [] ≡ frame_before r (λ f. letter_before f.has_letter bytes (content rules f.stage columns (content_of f bytes) ++ walk_up_to m rules kind (columns_after rules columns f bytes) (drop f.to bytes)))
    by None e = refl
    by (Some f) e = let is = frame_is kind bytes f e in absurd (omega (arith, is.some, is.ordered, is.within, a))
walk_enough (suc n) zero rules kind columns bytes a b = by (frame_at kind bytes) refl
  where
    by : (r : Option Frame) → frame_at kind bytes ≡ r
        → frame_before r (λ f. letter_before f.has_letter bytes (content rules f.stage columns (content_of f bytes) ++ walk_up_to n rules kind (columns_after rules columns f bytes) (drop f.to bytes))) ≡ []
    by None e = refl
    by (Some f) e = let is = frame_is kind bytes f e in absurd (omega (arith, is.some, is.ordered, is.within, b))
walk_enough (suc n) (suc m) rules kind columns bytes a b = by (λ later rest u v. walk_enough n m rules kind later rest u v) (frame_at kind bytes) refl
  where
    by : ((later : Columns) (rest : List ℕ) → length rest ≤ n → length rest ≤ m → walk_up_to n rules kind later rest ≡ walk_up_to m rules kind later rest)
        → (r : Option Frame) → frame_at kind bytes ≡ r
        → frame_before r (λ f. letter_before f.has_letter bytes (content rules f.stage columns (content_of f bytes) ++ walk_up_to n rules kind (columns_after rules columns f bytes) (drop f.to bytes)))
        ≡ frame_before r (λ f. letter_before f.has_letter bytes (content rules f.stage columns (content_of f bytes) ++ walk_up_to m rules kind (columns_after rules columns f bytes) (drop f.to bytes)))
    by later None e = refl
    by later (Some f) e =
        let is = frame_is kind bytes f e in
        let size = length-drop f.to bytes in
        ap (λ ts. letter_before f.has_letter bytes (content rules f.stage columns (content_of f bytes) ++ ts))
        (later (columns_after rules columns f bytes) (drop f.to bytes) (omega (arith, size, is.some, is.ordered, is.within, a)) (omega (arith, size, is.some, is.ordered, is.within, b)))

pub walk_end : (rules : NameRules) (kind : Kind) (columns : Columns) (bytes : List ℕ) → frame_at kind bytes ≡ None → walk rules kind columns bytes ≡ []
walk_end rules kind columns bytes e =
    walk_enough (length bytes) (suc (length bytes)) rules kind columns bytes (omega arith) (omega arith)
    ∙ ap (λ (r : Option Frame). frame_before r (λ f. letter_before f.has_letter bytes (content rules f.stage columns (content_of f bytes) ++ walk_up_to (length bytes) rules kind (columns_after rules columns f bytes) (drop f.to bytes)))) e

pub walk_further : (rules : NameRules) (kind : Kind) (columns : Columns) (bytes : List ℕ) (f : Frame) → frame_at kind bytes ≡ Some f
    → walk rules kind columns bytes ≡ letter_before f.has_letter bytes (content rules f.stage columns (content_of f bytes) ++ walk rules kind (columns_after rules columns f bytes) (drop f.to bytes))
walk_further rules kind columns bytes f e =
    walk_enough (length bytes) (suc (length bytes)) rules kind columns bytes (omega arith) (omega arith)
    ∙ ap (λ (r : Option Frame). frame_before r (λ f. letter_before f.has_letter bytes (content rules f.stage columns (content_of f bytes) ++ walk_up_to (length bytes) rules kind (columns_after rules columns f bytes) (drop f.to bytes)))) e
    ∙ ap (λ ts. letter_before f.has_letter bytes (content rules f.stage columns (content_of f bytes) ++ ts))
    (walk_enough (length bytes) (length (drop f.to bytes)) rules kind (columns_after rules columns f bytes) (drop f.to bytes) (omega (arith, length-drop f.to bytes)) (omega arith))

letter_few : (has : Bool) (bytes : List ℕ) (ts : List Token) → length (letter_before has bytes ts) ≤ suc (length ts)
letter_few true bytes ts = omega arith
letter_few false bytes ts = omega arith

walk_few_up_to : (n : ℕ) (rules : NameRules) (kind : Kind) (columns : Columns) (bytes : List ℕ) → length (walk_up_to n rules kind columns bytes) ≤ length bytes
walk_few_up_to zero rules kind columns bytes = omega arith
walk_few_up_to (suc n) rules kind columns bytes = by (λ later rest. walk_few_up_to n rules kind later rest) (frame_at kind bytes) refl
  where
    by : ((later : Columns) (rest : List ℕ) → length (walk_up_to n rules kind later rest) ≤ length rest)
        → (r : Option Frame) → frame_at kind bytes ≡ r
        → length (frame_before r (λ f. letter_before f.has_letter bytes (content rules f.stage columns (content_of f bytes) ++ walk_up_to n rules kind (columns_after rules columns f bytes) (drop f.to bytes)))) ≤ length bytes
    by later None e = omega arith
    by later (Some f) e =
        let is = frame_is kind bytes f e in
        let here = content rules f.stage columns (content_of f bytes) in
        let rest = walk_up_to n rules kind (columns_after rules columns f bytes) (drop f.to bytes) in
        let most : length (content_of f bytes) ≤ f.to - f.from = omega (arith, length-take (f.to - f.from) (drop f.from bytes), min-le_left (f.to - f.from) (length (drop f.from bytes))) in
        omega (
          arith,
          letter_few f.has_letter bytes (here ++ rest),
          length-append here rest,
          content_few (length (content_of f bytes)) rules f.stage columns (content_of f bytes),
          most,
          later (columns_after rules columns f bytes) (drop f.to bytes),
          length-drop f.to bytes,
          is.some,
          is.ordered,
          is.within,
        )

pub walk_few : (rules : NameRules) (kind : Kind) (columns : Columns) (bytes : List ℕ) → length (walk rules kind columns bytes) ≤ length bytes
walk_few rules kind columns bytes = walk_few_up_to (length bytes) rules kind columns bytes

-- ---- more bytes

letter_front : (has : Bool) (bytes more : List ℕ) (here ts us : List Token) → 0 < length bytes → IsFront ts us
    → IsFront (letter_before has bytes (here ++ ts)) (letter_before has (bytes ++ more) (here ++ us))
letter_front true bytes more here ts us some front =
    record {
      rest = front.rest;
      is = ap (λ l. token Firm (take 1 bytes) ∷ l) (append_assoc here ts front.rest ∙ ap (λ l. here ++ l) front.is)
          ∙ ap (λ t. token Firm t ∷ (here ++ us)) (sym (take-append-le 1 bytes more (omega (arith, some))));
    }
letter_front false bytes more here ts us some front = record { rest = front.rest; is = append_assoc here ts front.rest ∙ ap (λ l. here ++ l) front.is }

front_end : (rules : NameRules) (kind : Kind) (columns : Columns) (bytes more : List ℕ) → frame_at kind bytes ≡ None → IsFront (walk rules kind columns bytes) (walk rules kind columns (bytes ++ more))
front_end rules kind columns bytes more e =
    record { rest = walk rules kind columns (bytes ++ more); is = ap (λ ts. ts ++ walk rules kind columns (bytes ++ more)) (walk_end rules kind columns bytes e) }

-- a frame as more bytes come: its content stays, and so do the columns behind it
pub content_stays : (bytes more : List ℕ) (f : Frame) → IsFrame bytes f → content_of f (bytes ++ more) ≡ content_of f bytes
content_stays bytes more f is = same_range bytes more f.from f.to is.ordered is.within

front_further : (rules : NameRules) (kind : Kind) (columns : Columns) (bytes more : List ℕ) (f : Frame) → frame_at kind bytes ≡ Some f
    → IsFront (walk rules kind (columns_after rules columns f bytes) (drop f.to bytes)) (walk rules kind (columns_after rules columns f bytes) (drop f.to bytes ++ more))
    → IsFront (walk rules kind columns bytes) (walk rules kind columns (bytes ++ more))
front_further rules kind columns bytes more f e later =
    let is = frame_is kind bytes f e in
    let here = content rules f.stage columns (content_of f bytes) in
    let cs = columns_after rules columns f bytes in
    let front = letter_front f.has_letter bytes more here (walk rules kind cs (drop f.to bytes)) (walk rules kind cs (drop f.to bytes ++ more)) (omega (arith, is.some, is.ordered, is.within)) later in
    record {
      rest = front.rest;
      is = ap (λ ts. ts ++ front.rest) (walk_further rules kind columns bytes f e)
          ∙ front.is
          ∙ sym (walk_further rules kind columns (bytes ++ more) f (frame_stays kind bytes more f e)
          ∙ ap (λ (c : List ℕ). letter_before f.has_letter (bytes ++ more) (content rules f.stage columns c ++ walk rules kind (cond (is_description f.stage) (described (read_of rules c)) columns) (drop f.to (bytes ++ more)))) (content_stays bytes more f is)
          ∙ ap (λ (r : List ℕ). letter_before f.has_letter (bytes ++ more) (here ++ walk rules kind cs r)) (drop-append-le f.to bytes more is.within));
    }

walk_front_up_to : (n : ℕ) (rules : NameRules) (kind : Kind) (columns : Columns) (bytes more : List ℕ) → length bytes ≤ n → IsFront (walk rules kind columns bytes) (walk rules kind columns (bytes ++ more))
walk_front_up_to zero rules kind columns bytes more le = by (frame_at kind bytes) refl
  where
    by : (r : Option Frame) → frame_at kind bytes ≡ r → IsFront (walk rules kind columns bytes) (walk rules kind columns (bytes ++ more))
    by None e = front_end rules kind columns bytes more e
    by (Some f) e = let is = frame_is kind bytes f e in absurd (omega (arith, is.some, is.ordered, is.within, le))
walk_front_up_to (suc n) rules kind columns bytes more le = by (λ later rest u. walk_front_up_to n rules kind later rest more u) (frame_at kind bytes) refl
  where
    by : ((later : Columns) (rest : List ℕ) → length rest ≤ n → IsFront (walk rules kind later rest) (walk rules kind later (rest ++ more)))
        → (r : Option Frame) → frame_at kind bytes ≡ r → IsFront (walk rules kind columns bytes) (walk rules kind columns (bytes ++ more))
    by ih None e = front_end rules kind columns bytes more e
    by ih (Some f) e =
        let is = frame_is kind bytes f e in
        front_further rules kind columns bytes more f e (ih (columns_after rules columns f bytes) (drop f.to bytes) (omega (arith, length-drop f.to bytes, is.some, is.ordered, is.within, le)))

-- the tokens of a part begin those of all that it becomes
pub walk_front : (rules : NameRules) (kind : Kind) (columns : Columns) (bytes more : List ℕ) → IsFront (walk rules kind columns bytes) (walk rules kind columns (bytes ++ more))
walk_front rules kind columns bytes more = walk_front_up_to (length bytes) rules kind columns bytes more (omega arith)
