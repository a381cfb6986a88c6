-- A failed read stands in the history of a log only where the count of its source rose.
use Rattle.std.specs.Prelude.{◌≡◌, ℕ, zero, suc, ◌+◌, ◌<◌, ◌||◌, drop, Bool, true, false, List, [], ◌∷◌, length, ◌⊎◌}
use Rattle.std.specs.List.{list_any, AllByRecursion as Each}
use Rattle.std.proofs.Common.{refl, sym, ap, ◌∙◌, subst, arith, true≢false, inl, inr}
use Rattle.std.proofs.lemmas.Bool.{eqb-true}
use Rattle.std.proofs.lemmas.List.Folds.{list_any-append}
use Rattle.rd_base.specs.Outside.{Rose}
use Rattle.rd_base.specs.Sources.{SourceTold}
use Rattle.rd_base.specs.History.{Row, read_fails}
use Rattle.rd_base.specs.declared.values.Link.{Link}
use Rattle.rd_gate.specs.Items.{is_piece, IsFit}
use Rattle.rd_gate.specs.declared.item.Item.{Item}
use Rattle.rd_gate.specs.declared.item.Item.TheVariants as item
use Rattle.rd_turn.specs.declared.log.LogEntry.{LogEntry}
use Rattle.rd_turn.specs.declared.log.Act.{Act}
use Rattle.rd_turn.specs.declared.log.Act.TheVariants as act
use Rattle.rd_turn.specs.Drawn.{draw, left_by, first_heard, what_of, takes}
use Rattle.rd_run.specs.Links.{LinkDone, LinksDone}
use Rattle.rd_run.specs.Ran.{LinkRead}
use Rattle.rd_run_laws.specs.Causes.{source_at}

-- ---- what was drawn from the items that were taken

abbrev is_fail : Item → Bool
is_fail (item.Piece bytes) = false
is_fail item.End = false
is_fail item.ReadFail = true
is_fail item.NoMemory = false

abbrev pub has_fail : List Item → Bool
has_fail items = list_any is_fail items

heard_fails : (l : ℕ) (m : Link) (items : List Item) → read_fails l (first_heard m items) ≡ true → (l ≡ m.0) × (has_fail items ≡ true)
heard_fails l m [] fails = absurd (true≢false (sym fails))
heard_fails l m (item.Piece b ∷ more) fails = absurd (true≢false (sym fails))
heard_fails l m (item.End ∷ more) fails = absurd (true≢false (sym fails))
heard_fails l m (item.ReadFail ∷ more) fails = (eqb-true l m.0 fails, refl)
heard_fails l m (item.NoMemory ∷ more) fails = absurd (true≢false (sym fails))

act_fails : (l : ℕ) (left : ℕ → List Item) (a : Act) → read_fails l (what_of left a) ≡ true → has_fail (left l) ≡ true
act_fails l left (act.Took m) fails =
    let heard = heard_fails l m (left m.0) fails in
    ap (λ k. has_fail (left k)) heard.0 ∙ heard.1
act_fails l left act.Timer fails = absurd (true≢false (sym fails))
act_fails l left act.Stop fails = absurd (true≢false (sym fails))
act_fails l left (act.WriteFail m) fails = absurd (true≢false (sym fails))

pub or_true : (a b : Bool) → (a || b) ≡ true → (a ≡ true) ⊎ (b ≡ true)
or_true true b is = inl refl
or_true false b is = inr is

dropped_fails : (n : ℕ) (items : List Item) → has_fail (drop n items) ≡ true → has_fail items ≡ true
dropped_fails zero items fails = fails
dropped_fails (suc n) [] fails = fails
dropped_fails (suc n) (x ∷ items) fails = later (is_fail x) (dropped_fails n items fails)
  where
    later : (b : Bool) → has_fail items ≡ true → (b || has_fail items) ≡ true
    later true fails = refl
    later false fails = fails

pub drawn_fails : (l : ℕ) (log : List LogEntry) (left : ℕ → List Item) (told : List Row) → list_any (λ e. read_fails l e.what) (draw log left told) ≡ true → has_fail (left l) ≡ true
drawn_fails l [] left told fails = absurd (true≢false (sym fails))
drawn_fails l (e ∷ log) left told fails = elim (or_true (read_fails l (what_of left e.act)) (list_any (λ x. read_fails l x.what) (draw log (left_by e.act left) (drop e.told told))) fails) [
  | inl here ↦ act_fails l left e.act here
  | inr later ↦ dropped_fails (takes l e.act) (left l) (drawn_fails l log (left_by e.act left) (drop e.told told) later)
]

-- ---- what was read of a link

is_read_fail : (x : Item) → is_fail x ≡ true → x ≡ item.ReadFail
is_read_fail (item.Piece bytes) fails = absurd (true≢false (sym fails))
is_read_fail item.End fails = absurd (true≢false (sym fails))
is_read_fail item.ReadFail fails = refl
is_read_fail item.NoMemory fails = absurd (true≢false (sym fails))

piece_is_none : (x : Item) → is_piece x ≡ true → is_fail x ≡ false
piece_is_none (item.Piece bytes) piece = refl
piece_is_none item.End piece = absurd (true≢false (sym piece))
piece_is_none item.ReadFail piece = absurd (true≢false (sym piece))
piece_is_none item.NoMemory piece = absurd (true≢false (sym piece))

pieces_are_none : (pieces : List Item) → Each (λ x. IsFit x × (is_piece x ≡ true)) pieces → has_fail pieces ≡ false
pieces_are_none [] fit = refl
pieces_are_none (x ∷ pieces) fit = ap (λ b. b || has_fail pieces) (piece_is_none x fit.0.1) ∙ pieces_are_none pieces fit.1

pub read_rose : (items : List Item) (before after : SourceTold) → LinkRead items before after → has_fail items ≡ true → Rose before.faults after.faults
read_rose items before after read fails =
    let split : has_fail items ≡ (has_fail read.pieces || (is_fail read.last || false)) = ap has_fail read.are ∙ list_any-append is_fail read.pieces (read.last ∷ []) in
    let last : (is_fail read.last || false) ≡ true = sym (ap (λ b. b || (is_fail read.last || false)) (pieces_are_none read.pieces read.fit)) ∙ sym split ∙ fails in
    read.failed (is_read_fail read.last (alone (is_fail read.last) last))
  where
    alone : (b : Bool) → (b || false) ≡ true → b ≡ true
    alone true is = refl
    alone false is = is

pub link_at : (stays : Type 0) (taken : ℕ → List Item) (k j : ℕ) (xs ys : List SourceTold) → LinksDone stays taken k xs ys → j < length xs → LinkDone stays (taken (k + j)) (source_at xs j) (source_at ys j)
link_at stays taken k j [] ys done lt = absurd (omega (arith, lt))
link_at stays taken k j (x ∷ xs) [] done lt = absurd done
link_at stays taken k zero (x ∷ xs) (y ∷ ys) done lt = subst (λ n. LinkDone stays (taken n) x y) (let e : k ≡ k + 0 = omega arith in e) done.0
link_at stays taken k (suc j) (x ∷ xs) (y ∷ ys) done lt =
    subst (λ n. LinkDone stays (taken n) (source_at xs j) (source_at ys j)) (let e : suc k + j ≡ k + suc j = omega arith in e) (link_at stays taken (suc k) j xs ys done.1 (omega (arith, lt)))
