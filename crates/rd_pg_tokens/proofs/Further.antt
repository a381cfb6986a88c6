-- A walk over a unit, one step further.
use Rattle.std.proofs.Common.{◌≡◌, ℕ, ◌+◌, ◌-◌, ◌*◌, ◌≤◌, ◌<◌, Bool, true, false, cond, eqb, leb, List, [], ◌∷◌, ◌++◌, length, take, drop, length-drop, drop-drop, Option, Some, None, refl, sym, ap, ◌∙◌, arith}
use Rattle.std.specs.Prelude.{slice_range, ◌&&◌}
use Rattle.std.proofs.lemmas.Bool.{le-leb, and_from}
use Rattle.std.proofs.lemmas.Bool.Decides.{nat_tests}
use Rattle.std.proofs.lemmas.List.{drop-append-le}
use Rattle.rd_base.specs.Token.{Token, token}
use Rattle.rd_base.specs.declared.names.NameRules.{NameRules}
use Rattle.rd_base.specs.declared.values.Beside.{Beside}
use Rattle.rd_base.specs.declared.values.Cursor.{Cursor}
use Rattle.rd_base.specs.declared.values.TokenKind.TheVariants.{Firm}
use Rattle.rd_pg_tokens.specs.declared.kind.Kind.{Kind}
use Rattle.rd_pg_tokens.specs.declared.frame.Frame.{Frame}
use Rattle.rd_pg_tokens.specs.declared.stage.Shown.{Shown}
use Rattle.rd_pg_tokens.specs.declared.stage.Shown.TheVariants.{AsSoft, AsFirm, Passed}
use Rattle.rd_pg_tokens.specs.declared.stage.Stage.{Stage}
use Rattle.rd_pg_tokens.specs.declared.stage.Stage.TheVariants.{Raw, AuthenticationCode, ParameterName, ParameterValue, Status, ColumnCount, ColumnName, ColumnPlace, ColumnType, ValueCount, Value, Tag, FieldCode, FieldText, Text, Words, StatementName, Portal, BoundStatement, Formats, Password, PacketCode, StartupName, StartupValue}
use Rattle.rd_pg_tokens.specs.declared.piece.Piece.{Piece}
use Rattle.rd_pg_tokens.specs.Stages.{stage_of, mode_of, left_of}
use Rattle.rd_pg_tokens.specs.Frames.{frame_at}
use Rattle.rd_pg_tokens.specs.Pieces.{Columns, described, read_len, piece_at, columns_behind}
use Rattle.rd_pg_tokens.specs.PieceLaws.{piece_is}
use Rattle.rd_pg_tokens.specs.FrameLaws.{IsFrame, frame_is, frame_stays}
use Rattle.rd_pg_tokens.specs.Walks.{shown_before, content, is_description, content_of, columns_after, read_of, letter_before, frame_before, walk, columns_of, columns_now, left_in, left_at}
use Rattle.rd_pg_tokens.specs.WalkLaws.{content_end, content_further, walk_end, walk_further}
use Rattle.rd_pg_tokens.specs.ColumnLaws.{read_within}
use Rattle.rd_pg_tokens.specs.Steps.{distance, IsTold, IsPassed, IsStep, IsEntered, IsBehind, IsLeft, step_by, shown_step}
use Rattle.rd_pg_tokens.proofs.Ranges.{range_front, range_stays, range_in, range_behind, range_inner, range_len}

-- ---- a stage and its numbers

stage_back : (stage : Stage) → stage_of (mode_of stage) (left_of stage) ≡ stage
stage_back Raw = refl
stage_back AuthenticationCode = refl
stage_back ParameterName = refl
stage_back (ParameterValue AsSoft) = refl
stage_back (ParameterValue AsFirm) = refl
stage_back (ParameterValue Passed) = refl
stage_back Status = refl
stage_back ColumnCount = refl
stage_back (ColumnName left) = refl
stage_back (ColumnPlace left) = refl
stage_back (ColumnType left) = refl
stage_back ValueCount = refl
stage_back (Value left) = refl
stage_back Tag = refl
stage_back FieldCode = refl
stage_back (FieldText AsSoft) = refl
stage_back (FieldText AsFirm) = refl
stage_back (FieldText Passed) = refl
stage_back Text = refl
stage_back (Words left) = refl
stage_back StatementName = refl
stage_back Portal = refl
stage_back BoundStatement = refl
stage_back Formats = refl
stage_back Password = refl
stage_back PacketCode = refl
stage_back StartupName = refl
stage_back StartupValue = refl

mode_inside : (stage : Stage) → eqb (mode_of stage) 0 ≡ false
mode_inside Raw = refl
mode_inside AuthenticationCode = refl
mode_inside ParameterName = refl
mode_inside (ParameterValue AsSoft) = refl
mode_inside (ParameterValue AsFirm) = refl
mode_inside (ParameterValue Passed) = refl
mode_inside Status = refl
mode_inside ColumnCount = refl
mode_inside (ColumnName left) = refl
mode_inside (ColumnPlace left) = refl
mode_inside (ColumnType left) = refl
mode_inside ValueCount = refl
mode_inside (Value left) = refl
mode_inside Tag = refl
mode_inside FieldCode = refl
mode_inside (FieldText AsSoft) = refl
mode_inside (FieldText AsFirm) = refl
mode_inside (FieldText Passed) = refl
mode_inside Text = refl
mode_inside (Words left) = refl
mode_inside StatementName = refl
mode_inside Portal = refl
mode_inside BoundStatement = refl
mode_inside Formats = refl
mode_inside Password = refl
mode_inside PacketCode = refl
mode_inside StartupName = refl
mode_inside StartupValue = refl

stage_again : (stage : Stage) (mode left : ℕ) → mode ≡ mode_of stage → left ≡ left_of stage → stage_of mode left ≡ stage
stage_again stage mode left m l = ap (λ n. stage_of n left) m ∙ ap (stage_of (mode_of stage)) l ∙ stage_back stage

-- ---- a cursor in a frame

pub record Inside (kind : Kind) (all : List ℕ) (cursor : Cursor) (f : Frame) : Type 0 where
  pub beside : cursor.beside.to ≤ cursor.at
  pub mode : eqb cursor.mode 0 ≡ false
  pub frame : frame_at kind (drop cursor.mark all) ≡ Some f
  pub begins : cursor.mark + f.from ≤ cursor.at
  pub ends : cursor.at ≤ cursor.mark + f.to

-- what a frame at a place has left from a stage on, and what stands behind it
abbrev left_by : NameRules → Kind → List ℕ → Frame → Stage → Columns → List ℕ → Columns → ℕ → List Token
left_by rules kind all f stage columns rest base mark = content rules stage columns rest ++ walk rules kind (columns_after rules base f (drop mark all)) (drop (mark + f.to) all)

inside_left : (rules : NameRules) (kind : Kind) (all : List ℕ) (cursor : Cursor) (f : Frame) → Inside kind all cursor f
    → left_at rules kind all cursor ≡ left_by rules kind all f (stage_of cursor.mode cursor.left) (columns_now all cursor.beside) (slice_range all cursor.at (cursor.mark + f.to)) (columns_of all cursor.beside) cursor.mark
inside_left rules kind all cursor f is =
    let some = left_by rules kind all f (stage_of cursor.mode cursor.left) (columns_now all cursor.beside) (slice_range all cursor.at (cursor.mark + f.to)) (columns_of all cursor.beside) cursor.mark in
    let found = frame_before (frame_at kind (drop cursor.mark all)) (left_in rules kind all cursor) in
    let between = walk rules kind (columns_of all cursor.beside) (drop cursor.at all) in
    ap (λ t. cond t (cond (eqb cursor.mode 0) between found) []) (le-leb cursor.beside.to cursor.at is.beside)
    ∙ ap (λ t. cond t between found) is.mode
    ∙ ap (λ (r : Option Frame). frame_before r (left_in rules kind all cursor)) is.frame
    ∙ ap (λ t. cond t some []) (and_from (leb (cursor.mark + f.from) cursor.at) (leb cursor.at (cursor.mark + f.to)) (le-leb (cursor.mark + f.from) cursor.at is.begins) (le-leb cursor.at (cursor.mark + f.to) is.ends))

between_left : (rules : NameRules) (kind : Kind) (all : List ℕ) (cursor : Cursor) → cursor.beside.to ≤ cursor.at → cursor.mode ≡ 0
    → left_at rules kind all cursor ≡ walk rules kind (columns_of all cursor.beside) (drop cursor.at all)
between_left rules kind all cursor beside mode =
    let found = frame_before (frame_at kind (drop cursor.mark all)) (left_in rules kind all cursor) in
    let between = walk rules kind (columns_of all cursor.beside) (drop cursor.at all) in
    ap (λ t. cond t (cond (eqb cursor.mode 0) between found) []) (le-leb cursor.beside.to cursor.at beside)
    ∙ ap (λ m. cond (eqb m 0) between found) mode

-- where a frame at a place ends
frame_ends : (kind : Kind) (flat : List ℕ) (mark : ℕ) (f : Frame) → frame_at kind (drop mark flat) ≡ Some f → (mark ≤ length flat) × (mark + f.to ≤ length flat) × (0 < f.from) × (f.from ≤ f.to)
frame_ends kind flat mark f e =
    let is = frame_is kind (drop mark flat) f e in
    let size = length-drop mark flat in
    (omega (arith, is.some, is.ordered, is.within, size), omega (arith, is.some, is.ordered, is.within, size), is.some, is.ordered)

frame_on : (kind : Kind) (flat more : List ℕ) (mark : ℕ) (f : Frame) → frame_at kind (drop mark flat) ≡ Some f → frame_at kind (drop mark (flat ++ more)) ≡ Some f
frame_on kind flat more mark f e =
    ap (frame_at kind) (drop-append-le mark flat more (frame_ends kind flat mark f e).0) ∙ frame_stays kind (drop mark flat) more f e

inside_on : (kind : Kind) (flat more : List ℕ) (cursor : Cursor) (f : Frame) → Inside kind flat cursor f → Inside kind (flat ++ more) cursor f
inside_on kind flat more cursor f is =
    record { beside = is.beside; mode = is.mode; frame = frame_on kind flat more cursor.mark f is.frame; begins = is.begins; ends = is.ends }

now_on : (flat more : List ℕ) (beside : Beside) → beside.to ≤ length flat → columns_now (flat ++ more) beside ≡ columns_now flat beside
now_on flat more beside le = ap (λ (names : List ℕ). with beside.left names) (range_stays flat more beside.at beside.to le)
  where
    with : ℕ → List ℕ → Columns
    with left names = record { left = left; names = names }

-- ---- over a piece

shown_joined : (shown : Shown) (text : List ℕ) (ts us : List Token) → shown_before shown text ts ++ us ≡ shown_before shown text (ts ++ us)
shown_joined AsSoft text ts us = refl
shown_joined AsFirm text ts us = refl
shown_joined Passed text ts us = refl

inside_next : (kind : Kind) (all : List ℕ) (cursor next : Cursor) (f : Frame) (stage : Stage) (names : List ℕ) (p : Piece) → Inside kind all cursor f → IsBehind stage names cursor p next → cursor.at + p.size ≤ cursor.mark + f.to
    → Inside kind all next f
inside_next kind all cursor next f stage names p is then le =
    record {
      beside = omega (arith, then.to, then.at, is.beside);
      mode = ap (λ m. eqb m 0) then.mode ∙ mode_inside p.next;
      frame = ap (λ m. frame_at kind (drop m all)) then.mark ∙ is.frame;
      begins = omega (arith, then.mark, then.at, is.begins);
      ends = omega (arith, then.mark, then.at, le);
    }

next_left : (rules : NameRules) (kind : Kind) (all : List ℕ) (cursor next : Cursor) (f : Frame) (stage : Stage) (p : Piece) → Inside kind all next f → IsBehind stage (slice_range all cursor.beside.at cursor.beside.to) cursor p next
    → left_at rules kind all next ≡ left_by rules kind all f p.next (columns_behind stage (columns_now all cursor.beside)) (drop p.size (slice_range all cursor.at (cursor.mark + f.to))) (columns_of all cursor.beside) cursor.mark
next_left rules kind all cursor next f stage p is then =
    let end = cursor.mark + f.to in
    let rest = slice_range all next.at (next.mark + f.to) in
    let base = columns_of all cursor.beside in
    let columns = columns_behind stage (columns_now all cursor.beside) in
    let rest_is : rest ≡ drop p.size (slice_range all cursor.at end) =
    ap (λ m. slice_range all next.at (m + f.to)) then.mark ∙ ap (λ a. slice_range all a end) then.at ∙ sym (range_behind all cursor.at end p.size) in
    inside_left rules kind all next f is
    ∙ ap (λ (s : Stage). left_by rules kind all f s (columns_now all next.beside) rest (columns_of all next.beside) next.mark) (stage_again p.next next.mode next.left then.mode then.left)
    ∙ ap (λ (cs : Columns). left_by rules kind all f p.next cs rest (columns_of all next.beside) next.mark) (then.columns all refl)
    ∙ ap (λ (r : List ℕ). left_by rules kind all f p.next columns r (columns_of all next.beside) next.mark) rest_is
    ∙ ap (λ a. left_by rules kind all f p.next columns (drop p.size (slice_range all cursor.at end)) (described (slice_range all a next.beside.to)) next.mark) then.from
    ∙ ap (λ b. left_by rules kind all f p.next columns (drop p.size (slice_range all cursor.at end)) (described (slice_range all cursor.beside.from b)) next.mark) then.to
    ∙ ap (λ m. left_by rules kind all f p.next columns (drop p.size (slice_range all cursor.at end)) base m) then.mark

piece_gives : (rules : NameRules) (kind : Kind) (flat more : List ℕ) (cursor next : Cursor) (f : Frame) (p : Piece) → Inside kind flat cursor f
    → piece_at rules (stage_of cursor.mode cursor.left) (columns_now flat cursor.beside) (slice_range flat cursor.at (cursor.mark + f.to)) ≡ Some p
    → IsBehind (stage_of cursor.mode cursor.left) (slice_range flat cursor.beside.at cursor.beside.to) cursor p next
    → left_at rules kind (flat ++ more) cursor ≡ shown_before p.shown (slice_range flat (cursor.at + p.start) (cursor.at + p.end)) (left_at rules kind (flat ++ more) next)
piece_gives rules kind flat more cursor next f p is e then =
    let all = flat ++ more in
    let stage = stage_of cursor.mode cursor.left in
    let end = cursor.mark + f.to in
    let fits = frame_ends kind flat cursor.mark f is.frame in
    let told : cursor.beside.to ≤ length flat = omega (arith, is.beside, is.ends, fits.1) in
    let rest_is = range_stays flat more cursor.at end fits.1 in
    let names_is = range_stays flat more cursor.beside.at cursor.beside.to told in
    let now_is = now_on flat more cursor.beside told in
    let piece = piece_is rules stage (columns_now flat cursor.beside) (slice_range flat cursor.at end) p e in
    let room : cursor.at + p.size ≤ end = omega (arith, piece.some, piece.within, range_len flat cursor.at end fits.1, is.ends) in
    let is_all = inside_on kind flat more cursor f is in
    let then_all : IsBehind stage (slice_range all cursor.beside.at cursor.beside.to) cursor p next =
    record { at = then.at; mode = then.mode; left = then.left; mark = then.mark; from = then.from; to = then.to; columns = λ text same. then.columns text (same ∙ names_is) } in
    let e_all = ap (λ (cs : Columns). piece_at rules stage cs (slice_range all cursor.at end)) now_is ∙ ap (piece_at rules stage (columns_now flat cursor.beside)) rest_is ∙ e in
    let behind = walk rules kind (columns_after rules (columns_of all cursor.beside) f (drop cursor.mark all)) (drop end all) in
    let later = content rules p.next (columns_behind stage (columns_now all cursor.beside)) (drop p.size (slice_range all cursor.at end)) in
    let text = slice_range (slice_range all cursor.at end) p.start p.end in
    let text_is : text ≡ slice_range flat (cursor.at + p.start) (cursor.at + p.end) =
    ap (λ (r : List ℕ). slice_range r p.start p.end) rest_is ∙ range_inner flat cursor.at end p.start p.end (omega (arith, piece.inside, room)) in
    inside_left rules kind all cursor f is_all
    ∙ ap (λ ts. ts ++ behind) (content_further rules stage (columns_now all cursor.beside) (slice_range all cursor.at end) p e_all)
    ∙ shown_joined p.shown text later behind
    ∙ ap (shown_before p.shown text) (sym (next_left rules kind all cursor next f stage p (inside_next kind all cursor next f stage (slice_range all cursor.beside.at cursor.beside.to) p is_all then_all room) then_all))
    ∙ ap (λ (t : List ℕ). shown_before p.shown t (left_at rules kind all next)) text_is

nearer_inside : (flat : List ℕ) (cursor next : Cursor) → eqb cursor.mode 0 ≡ false → eqb next.mode 0 ≡ false → cursor.at < next.at → next.at ≤ length flat → distance flat next < distance flat cursor
nearer_inside flat cursor next m n lt le =
    let here : distance flat cursor ≡ 2 * (length flat - cursor.at) + 1 = ap (λ t. cond t (2 * (length flat - cursor.at)) (2 * (length flat - cursor.at) + 1)) m in
    let there : distance flat next ≡ 2 * (length flat - next.at) + 1 = ap (λ t. cond t (2 * (length flat - next.at)) (2 * (length flat - next.at) + 1)) n in
    omega (arith, here, there, lt, le)

pub piece_step_is : (rules : NameRules) (kind : Kind) (flat : List ℕ) (cursor next : Cursor) (f : Frame) (p : Piece) → Inside kind flat cursor f
    → piece_at rules (stage_of cursor.mode cursor.left) (columns_now flat cursor.beside) (slice_range flat cursor.at (cursor.mark + f.to)) ≡ Some p
    → IsBehind (stage_of cursor.mode cursor.left) (slice_range flat cursor.beside.at cursor.beside.to) cursor p next
    → IsStep rules kind flat cursor (shown_step cursor next p)
piece_step_is rules kind flat cursor next f p is e then = by p.shown (λ more. piece_gives rules kind flat more cursor next f p is e then)
  where
    start : ℕ
    start = cursor.at + p.start

    end : ℕ
    end = cursor.at + p.end

    sizes : (start ≤ end) × (end ≤ length flat) × (cursor.at < next.at) × (next.at ≤ length flat)
    sizes =
        let fits = frame_ends kind flat cursor.mark f is.frame in
        let piece = piece_is rules (stage_of cursor.mode cursor.left) (columns_now flat cursor.beside) (slice_range flat cursor.at (cursor.mark + f.to)) p e in
        let size = range_len flat cursor.at (cursor.mark + f.to) fits.1 in (
          omega (arith, piece.ordered),
          omega (arith, piece.some, piece.within, piece.inside, size, fits.1, is.ends),
          omega (arith, then.at, piece.some),
          omega (arith, then.at, piece.some, piece.within, size, fits.1, is.ends),
        )

    by : (shown : Shown) → ((more : List ℕ) → left_at rules kind (flat ++ more) cursor ≡ shown_before shown (slice_range flat start end) (left_at rules kind (flat ++ more) next)) → IsStep rules kind flat cursor (step_by shown start end next)
    by AsSoft gives = record { ordered = sizes.0; within = sizes.1; gives = gives }
    by AsFirm gives = record { ordered = sizes.0; within = sizes.1; gives = gives }
    by Passed gives = record { nearer = nearer_inside flat cursor next is.mode (ap (λ m. eqb m 0) then.mode ∙ mode_inside p.next) sizes.2 sizes.3; gives = gives }

-- ---- behind a frame

-- as much of a description as rows read
read_in : (rules : NameRules) (flat more : List ℕ) (mark : ℕ) (f : Frame) → mark + f.to ≤ length flat
    → slice_range (flat ++ more) (mark + f.from) (mark + f.from + read_len rules (slice_range flat (mark + f.from) (mark + f.to))) ≡ read_of rules (content_of f (drop mark (flat ++ more)))
read_in rules flat more mark f within =
    let all = flat ++ more in
    let a = mark + f.from in
    let b = mark + f.to in
    let here = slice_range flat a b in
    let n = read_len rules here in
    let most : n ≤ b - a = omega (arith, read_within rules here, range_len flat a b within) in
    range_front all a b n most
    ∙ ap (λ (c : List ℕ). take n c) (range_stays flat more a b within)
    ∙ ap (read_of rules) (sym (range_stays flat more a b within) ∙ sym (range_in all mark f.from f.to))

left_columns : (rules : NameRules) (flat more : List ℕ) (cursor next : Cursor) (f : Frame) (t : Bool) → cursor.mark + f.to ≤ length flat
    → next.beside.from ≡ cond t (cursor.mark + f.from) cursor.beside.from
    → next.beside.to ≡ cond t (cursor.mark + f.from + read_len rules (slice_range flat (cursor.mark + f.from) (cursor.mark + f.to))) cursor.beside.to
    → columns_of (flat ++ more) next.beside ≡ cond t (described (read_of rules (content_of f (drop cursor.mark (flat ++ more))))) (columns_of (flat ++ more) cursor.beside)
left_columns rules flat more cursor next f true within from to =
    let all = flat ++ more in
    ap (λ a. described (slice_range all a next.beside.to)) from
    ∙ ap (λ b. described (slice_range all (cursor.mark + f.from) b)) to
    ∙ ap described (read_in rules flat more cursor.mark f within)
left_columns rules flat more cursor next f false within from to =
    let all = flat ++ more in
    ap (λ a. described (slice_range all a next.beside.to)) from ∙ ap (λ b. described (slice_range all cursor.beside.from b)) to

left_beside : (cursor next : Cursor) (f : Frame) (n : ℕ) (t : Bool) → next.beside.to ≡ cond t (cursor.mark + f.from + n) cursor.beside.to → n ≤ f.to - f.from → f.from ≤ f.to → next.at ≡ cursor.mark + f.to
    → cursor.beside.to ≤ cursor.at → cursor.at ≤ cursor.mark + f.to → next.beside.to ≤ next.at
left_beside cursor next f n true to most ordered at told le = omega (arith, to, most, ordered, at)
left_beside cursor next f n false to most ordered at told le = omega (arith, to, at, told, le)

pub frame_left_is : (rules : NameRules) (kind : Kind) (flat : List ℕ) (cursor next : Cursor) (f : Frame) → Inside kind flat cursor f
    → piece_at rules (stage_of cursor.mode cursor.left) (columns_now flat cursor.beside) (slice_range flat cursor.at (cursor.mark + f.to)) ≡ None
    → IsLeft rules (slice_range flat (cursor.mark + f.from) (cursor.mark + f.to)) cursor f next → IsPassed rules kind flat cursor next
frame_left_is rules kind flat cursor next f is e then =
    record {
      nearer =
          let here : distance flat cursor ≡ 2 * (length flat - cursor.at) + 1 = ap (λ t. cond t (2 * (length flat - cursor.at)) (2 * (length flat - cursor.at) + 1)) is.mode in
          let there : distance flat next ≡ 2 * (length flat - next.at) = ap (λ m. cond (eqb m 0) (2 * (length flat - next.at)) (2 * (length flat - next.at) + 1)) then.mode in
          omega (arith, here, there, then.at, is.ends);
      gives = gives;
    }
  where
    gives : (more : List ℕ) → left_at rules kind (flat ++ more) cursor ≡ left_at rules kind (flat ++ more) next
    gives more =
        let all = flat ++ more in
        let stage = stage_of cursor.mode cursor.left in
        let end = cursor.mark + f.to in
        let fits = frame_ends kind flat cursor.mark f is.frame in
        let told : cursor.beside.to ≤ length flat = omega (arith, is.beside, is.ends, fits.1) in
        let here = slice_range flat (cursor.mark + f.from) end in
        let now_is = now_on flat more cursor.beside told in
        let e_all = ap (λ (cs : Columns). piece_at rules stage cs (slice_range all cursor.at end)) now_is ∙ ap (piece_at rules stage (columns_now flat cursor.beside)) (range_stays flat more cursor.at end fits.1) ∙ e in
        let behind = columns_after rules (columns_of all cursor.beside) f (drop cursor.mark all) in
        inside_left rules kind all cursor f (inside_on kind flat more cursor f is)
        ∙ ap (λ ts. ts ++ walk rules kind behind (drop end all)) (content_end rules stage (columns_now all cursor.beside) (slice_range all cursor.at end) e_all)
        ∙ ap (λ (cs : Columns). walk rules kind cs (drop end all)) (sym (left_columns rules flat more cursor next f (is_description f.stage) fits.1 then.from then.to))
        ∙ ap (λ a. walk rules kind (columns_of all next.beside) (drop a all)) (sym then.at)
        ∙ sym (between_left rules kind all next (left_beside cursor next f (read_len rules here) (is_description f.stage) then.to (omega (arith, read_within rules here, range_len flat (cursor.mark + f.from) end fits.1)) fits.3 then.at is.beside is.ends) then.mode)

-- ---- into a frame

entered_inside : (kind : Kind) (all flat : List ℕ) (cursor next : Cursor) (f : Frame) → cursor.beside.to ≤ cursor.at → frame_at kind (drop cursor.at all) ≡ Some f → IsFrame (drop cursor.at all) f → IsEntered flat cursor f next
    → Inside kind all next f
entered_inside kind all flat cursor next f told e is then =
    let to = then.beside.to in
    record {
      beside = omega (arith, told, to, then.at);
      mode = ap (λ m. eqb m 0) then.mode ∙ mode_inside f.stage;
      frame = ap (λ m. frame_at kind (drop m all)) then.mark ∙ e;
      begins = omega (arith, then.mark, then.at);
      ends = omega (arith, then.mark, then.at, is.ordered);
    }

entered_gives : (rules : NameRules) (kind : Kind) (flat more : List ℕ) (cursor next : Cursor) (f : Frame) → cursor.beside.to ≤ cursor.at → cursor.mode ≡ 0 → frame_at kind (drop cursor.at flat) ≡ Some f → IsEntered flat cursor f next
    → left_at rules kind (flat ++ more) cursor ≡ letter_before f.has_letter (drop cursor.at (flat ++ more)) (left_at rules kind (flat ++ more) next)
entered_gives rules kind flat more cursor next f told mode e then =
    let all = flat ++ more in
    let here = drop cursor.at all in
    let base = columns_of all cursor.beside in
    let e_all = frame_on kind flat more cursor.at f e in
    let inside = entered_inside kind all flat cursor next f told e_all (frame_is kind here f e_all) then in
    let columns = then.beside.columns in
    let from = then.beside.from in
    let to = then.beside.to in
    let rest = slice_range all next.at (next.mark + f.to) in
    let rest_is : rest ≡ content_of f here = ap (λ m. slice_range all next.at (m + f.to)) then.mark ∙ ap (λ a. slice_range all a (cursor.at + f.to)) then.at ∙ sym (range_in all cursor.at f.from f.to) in
    let next_is : left_at rules kind all next ≡ left_by rules kind all f f.stage base (content_of f here) base cursor.at =
    inside_left rules kind all next f inside
    ∙ ap (λ (s : Stage). left_by rules kind all f s (columns_now all next.beside) rest (columns_of all next.beside) next.mark) (stage_again f.stage next.mode next.left then.mode then.left)
    ∙ ap (λ (cs : Columns). left_by rules kind all f f.stage cs rest (columns_of all next.beside) next.mark) (columns more)
    ∙ ap (λ (r : List ℕ). left_by rules kind all f f.stage base r (columns_of all next.beside) next.mark) rest_is
    ∙ ap (λ a. left_by rules kind all f f.stage base (content_of f here) (described (slice_range all a next.beside.to)) next.mark) from
    ∙ ap (λ b. left_by rules kind all f f.stage base (content_of f here) (described (slice_range all cursor.beside.from b)) next.mark) to
    ∙ ap (λ m. left_by rules kind all f f.stage base (content_of f here) base m) then.mark in
    between_left rules kind all cursor told mode
    ∙ walk_further rules kind base here f e_all
    ∙ ap (λ (r : List ℕ). letter_before f.has_letter here (content rules f.stage base (content_of f here) ++ walk rules kind (columns_after rules base f here) r)) (drop-drop f.to cursor.at all)
    ∙ ap (letter_before f.has_letter here) (sym next_is)

pub entered_letter : (rules : NameRules) (kind : Kind) (flat : List ℕ) (cursor next : Cursor) (f : Frame) → cursor.beside.to ≤ cursor.at → cursor.mode ≡ 0 → frame_at kind (drop cursor.at flat) ≡ Some f → IsEntered flat cursor f next
    → f.has_letter ≡ true → IsTold rules kind flat cursor (record { kind = Firm; start = cursor.at; end = cursor.at + 1 }) next
entered_letter rules kind flat cursor next f told mode e then letter =
    let fits = frame_ends kind flat cursor.at f e in
    record {
      ordered = omega arith;
      within = omega (arith, fits.1, fits.2, fits.3);
      gives = λ more.
          let size : 1 ≡ (cursor.at + 1) - cursor.at = omega arith in
          entered_gives rules kind flat more cursor next f told mode e then
          ∙ ap (λ t. letter_before t (drop cursor.at (flat ++ more)) (left_at rules kind (flat ++ more) next)) letter
          ∙ ap (λ n. token Firm (take n (drop cursor.at (flat ++ more))) ∷ left_at rules kind (flat ++ more) next) size
          ∙ ap (λ t. token Firm t ∷ left_at rules kind (flat ++ more) next) (range_stays flat more cursor.at (cursor.at + 1) (omega (arith, fits.1, fits.2, fits.3)));
    }

pub entered_passed : (rules : NameRules) (kind : Kind) (flat : List ℕ) (cursor next : Cursor) (f : Frame) → cursor.beside.to ≤ cursor.at → cursor.mode ≡ 0 → frame_at kind (drop cursor.at flat) ≡ Some f → IsEntered flat cursor f next
    → f.has_letter ≡ false → IsPassed rules kind flat cursor next
entered_passed rules kind flat cursor next f told mode e then letter =
    let fits = frame_ends kind flat cursor.at f e in
    record {
      nearer =
          let here : distance flat cursor ≡ 2 * (length flat - cursor.at) = ap (λ m. cond (eqb m 0) (2 * (length flat - cursor.at)) (2 * (length flat - cursor.at) + 1)) mode in
          let there : distance flat next ≡ 2 * (length flat - next.at) + 1 = ap (λ m. cond (eqb m 0) (2 * (length flat - next.at)) (2 * (length flat - next.at) + 1)) then.mode ∙ ap (λ t. cond t (2 * (length flat - next.at)) (2 * (length flat - next.at) + 1)) (mode_inside f.stage) in
          omega (arith, here, there, then.at, fits.1, fits.2, fits.3);
      gives = λ more.
          entered_gives rules kind flat more cursor next f told mode e then
          ∙ ap (λ t. letter_before t (drop cursor.at (flat ++ more)) (left_at rules kind (flat ++ more) next)) letter;
    }

-- ---- at the end

pub nothing_between : (rules : NameRules) (kind : Kind) (flat : List ℕ) (cursor : Cursor) → cursor.beside.to ≤ cursor.at → cursor.mode ≡ 0 → frame_at kind (drop cursor.at flat) ≡ None → left_at rules kind flat cursor ≡ []
nothing_between rules kind flat cursor told mode e =
    between_left rules kind flat cursor told mode ∙ walk_end rules kind (columns_of flat cursor.beside) (drop cursor.at flat) e

pub mode_not : (mode : ℕ) → (mode ≡ 0 → ⊥) → eqb mode 0 ≡ false
mode_not mode some = grind (arith, nat_tests, some)

in_frame : (rules : NameRules) (kind : Kind) (all : List ℕ) (cursor : Cursor) → cursor.beside.to ≤ cursor.at → eqb cursor.mode 0 ≡ false
    → left_at rules kind all cursor ≡ frame_before (frame_at kind (drop cursor.mark all)) (left_in rules kind all cursor)
in_frame rules kind all cursor told mode =
    let found = frame_before (frame_at kind (drop cursor.mark all)) (left_in rules kind all cursor) in
    let between = walk rules kind (columns_of all cursor.beside) (drop cursor.at all) in
    ap (λ t. cond t (cond (eqb cursor.mode 0) between found) []) (le-leb cursor.beside.to cursor.at told)
    ∙ ap (λ t. cond t between found) mode

-- a cursor that isn't in the frame at its mark
pub nothing_outside : (rules : NameRules) (kind : Kind) (flat : List ℕ) (cursor : Cursor) (f : Frame) → cursor.beside.to ≤ cursor.at → eqb cursor.mode 0 ≡ false → frame_at kind (drop cursor.mark flat) ≡ Some f
    → (leb (cursor.mark + f.from) cursor.at && leb cursor.at (cursor.mark + f.to)) ≡ false → left_at rules kind flat cursor ≡ []
nothing_outside rules kind flat cursor f told mode e out =
    let some = left_by rules kind flat f (stage_of cursor.mode cursor.left) (columns_now flat cursor.beside) (slice_range flat cursor.at (cursor.mark + f.to)) (columns_of flat cursor.beside) cursor.mark in
    in_frame rules kind flat cursor told mode
    ∙ ap (λ (r : Option Frame). frame_before r (left_in rules kind flat cursor)) e
    ∙ ap (λ t. cond t some []) out

pub nothing_in_frame : (rules : NameRules) (kind : Kind) (flat : List ℕ) (cursor : Cursor) → cursor.beside.to ≤ cursor.at → eqb cursor.mode 0 ≡ false → frame_at kind (drop cursor.mark flat) ≡ None → left_at rules kind flat cursor ≡ []
nothing_in_frame rules kind flat cursor told mode e =
    in_frame rules kind flat cursor told mode ∙ ap (λ (r : Option Frame). frame_before r (left_in rules kind flat cursor)) e

pub frame_there : (kind : Kind) (flat from : List ℕ) (mark : ℕ) (result : Option Frame) (f : Frame) → result ≡ frame_at kind from → from ≡ drop mark flat → result ≡ Some f → frame_at kind (drop mark flat) ≡ Some f
frame_there kind flat from mark result f value place is = sym (value ∙ ap (frame_at kind) place) ∙ is
