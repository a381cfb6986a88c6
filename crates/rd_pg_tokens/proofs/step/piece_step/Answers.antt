use Rattle.std.proofs.Common.{◌≡◌, ◌+◌, ◌<◌, ℕ, false, leb, List, Option, subst, sym, ap, ◌∙◌, arith}
use Rattle.std.specs.Prelude.{slice_range, ◌&&◌}
use Rattle.std.proofs.lemmas.Bool.Decides.{nat_tests}
use Rattle.rd_base.specs.declared.names.NameRules.{NameRules}
use Rattle.rd_base.specs.declared.values.Cursor.{Cursor}
use Rattle.rd_pg_tokens.specs.declared.frame.Frame.{Frame}
use Rattle.rd_pg_tokens.specs.declared.piece.Piece.{Piece}
use Rattle.rd_pg_tokens.specs.declared.stage.Stage.{Stage}
use Rattle.rd_pg_tokens.specs.declared.step.Step.{Step}
use Rattle.rd_pg_tokens.specs.Stages.{stage_of}
use Rattle.rd_pg_tokens.specs.Pieces.{Columns, piece_at}
use Rattle.rd_pg_tokens.specs.Walks.{columns_now}
use Rattle.rd_pg_tokens.specs.Steps.{IsStep, IsBehind, IsLeft}
use Rattle.rd_pg_tokens.proofs.Further.{Inside, piece_step_is, frame_left_is, mode_not, nothing_outside, frame_there}
use Rattle.rd_pg_tokens.proofs.step.piece_step.Goals.{then-at-mark-via-then-at-mark, then-at-mark-via-else-at-mark+then-at-mark-2}
use Rattle.rd_pg_tokens.proofs.step.piece_step.Goals as goal

abbrev with : ℕ → List ℕ → Columns
with left names = record { left = left; names = names }

piece_eq : (rules : NameRules) (flat : List ℕ) (cursor : Cursor) (f : Frame) (stage : Stage) (names rest : List ℕ) (result out : Option Piece) → result ≡ piece_at rules stage (with cursor.beside.left names) rest
    → stage ≡ stage_of cursor.mode cursor.left → names ≡ slice_range flat cursor.beside.at cursor.beside.to → rest ≡ slice_range flat cursor.at (cursor.mark + f.to) → result ≡ out
    → piece_at rules (stage_of cursor.mode cursor.left) (columns_now flat cursor.beside) (slice_range flat cursor.at (cursor.mark + f.to)) ≡ out
piece_eq rules flat cursor f stage names rest result out value s n r is =
    let last = slice_range flat cursor.at (cursor.mark + f.to) in
    sym (value
    ∙ ap (λ (s : Stage). piece_at rules s (with cursor.beside.left names) rest) s
    ∙ ap (λ (n : List ℕ). piece_at rules (stage_of cursor.mode cursor.left) (with cursor.beside.left n) rest) n
    ∙ ap (λ (r : List ℕ). piece_at rules (stage_of cursor.mode cursor.left) (columns_now flat cursor.beside) r) r)
    ∙ is

before : (from at to : ℕ) → at < from → (leb from at && leb at to) ≡ false
before from at to lt = grind (arith, nat_tests, lt)

past : (from at to : ℕ) → to < at → (leb from at && leb at to) ≡ false
past from at to lt = grind (arith, nat_tests, lt)

pub returns-then-at-mark : goal.returns-then-at-mark
returns-then-at-mark c =
    let cursor = c.args.cursor in
    let f = c.in-Some.frame in
    let e = frame_there c.args.kind c.args.flat.now c.from.result.now cursor.mark c.frame_at.result f c.frame_at.ensures.value c.from.ensures c.in-Some.is in
    let nothing = nothing_outside c.args.rules.now c.args.kind c.args.flat.now cursor f c.requires.beside (mode_not cursor.mode c.requires.inside) e in
    elim c.then-at-mark.branch [
      | then-at-mark-via-then-at-mark w ↦ nothing (before (cursor.mark + f.from) cursor.at (cursor.mark + f.to) (omega (arith, w.if-at-mark.true)))
      | then-at-mark-via-else-at-mark+then-at-mark-2 w ↦ nothing (past (cursor.mark + f.from) cursor.at (cursor.mark + f.to) (omega (arith, w.if-at-mark-2.true)))
    ]

pub returns-in-None : goal.returns-in-None
returns-in-None c =
    let cursor = c.args.cursor in
    let f = c.in-Some.frame in
    let e = frame_there c.args.kind c.args.flat.now c.from.result.now cursor.mark c.frame_at.result f c.frame_at.ensures.value c.from.ensures c.in-Some.is in
    let inside : Inside c.args.kind c.args.flat.now cursor f = record { beside = c.requires.beside; mode = mode_not cursor.mode c.requires.inside; frame = e; begins = omega (arith, c.if-at-mark.false); ends = omega (arith, c.if-at-mark-2.false) } in
    let none = piece_eq c.args.rules.now c.args.flat.now cursor f c.of-stage.result c.range-names.result.now c.range-rest.result.now c.piece_at.result _ c.piece_at.ensures.value c.of-stage.ensures c.range-names.ensures c.range-rest.ensures c.in-None.is in
    frame_left_is c.args.rules.now c.args.kind c.args.flat.now cursor c.left_frame.result f inside none
    (subst (λ (content : List ℕ). IsLeft c.args.rules.now content cursor f c.left_frame.result) c.range-content.ensures c.left_frame.ensures)

pub returns-in-Some-piece_at : goal.returns-in-Some-piece_at
returns-in-Some-piece_at c =
    let rules = c.args.rules.now in
    let kind = c.args.kind in
    let flat = c.args.flat.now in
    let cursor = c.args.cursor in
    let f = c.in-Some.frame in
    let p = c.in-Some-piece_at.piece in
    let next = c.behind.result in
    let e = frame_there kind flat c.from.result.now cursor.mark c.frame_at.result f c.frame_at.ensures.value c.from.ensures c.in-Some.is in
    let inside : Inside kind flat cursor f = record { beside = c.requires.beside; mode = mode_not cursor.mode c.requires.inside; frame = e; begins = omega (arith, c.if-at-mark.false); ends = omega (arith, c.if-at-mark-2.false) } in
    let some = piece_eq rules flat cursor f c.of-stage.result c.range-names.result.now c.range-rest.result.now c.piece_at.result _ c.piece_at.ensures.value c.of-stage.ensures c.range-names.ensures c.range-rest.ensures c.in-Some-piece_at.is in
    let staged = subst (λ (s : Stage). IsBehind s c.range-names.result.now cursor p next) c.of-stage.ensures c.behind.ensures in
    let then = subst (λ (n : List ℕ). IsBehind (stage_of cursor.mode cursor.left) n cursor p next) c.range-names.ensures staged in
    subst (λ (s : Step). IsStep rules kind flat cursor s) (sym c.shown_step.ensures) (piece_step_is rules kind flat cursor next f p inside some then)
