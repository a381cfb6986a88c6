-- What the turns of a session do to the count of its stopper and to the span of its clock.
use Rattle.std.specs.Prelude.{◌≡◌, ℕ, zero, suc, length, slice_get, unwrap_or, ◌+◌, ◌-◌, ◌^◌, ◌≤◌, ◌<◌, ◌||◌, min, max, fold, drop, Bool, true, false, if◌then◌else◌, List, [], ◌∷◌, ◌++◌, Option, Some, None, ◌⊎◌}
use Rattle.std.specs.List.{list_any, flat_map}
use Rattle.std.proofs.Common.{refl, sym, ap, ◌∙◌, subst, arith, true≢false, inl, inr}
use Rattle.std.proofs.lemmas.Bool.{cases_lt}
use Rattle.std.proofs.lemmas.List.Folds.{list_any-append}
use Rattle.rd_base.specs.Counts.{counted}
use Rattle.rd_base.specs.Clocks.{Reach, reach_with, width}
use Rattle.rd_base.specs.History.{History, Entry, Row, is_stop as stops}
use Rattle.rd_base.specs.declared.values.Link.{Link}
use Rattle.rd_gate.specs.declared.item.Item.TheVariants as item
use Rattle.rd_gate.specs.declared.item.Item.{Item}
use Rattle.rd_runner.specs.Counts.{RoseBy}
use Rattle.rd_turn.specs.declared.log.LogEntry.{LogEntry}
use Rattle.rd_turn.specs.Turns.{Did, Took, Looked, Stopped, Turn, Outside, after_turn, is_stop, stamp, step_of, failure, turn_entries, history_of, told_in}
use Rattle.rd_turn.specs.Drawn.{draw, left_by}
use Rattle.rd_run_session.specs.Left.{last_stamp}

-- ---- a stop among the entries is one among the turns

or_cases : (a b : Bool) → (a || b) ≡ true → (a ≡ true) ⊎ (b ≡ true)
or_cases true b p = inl refl
or_cases false b p = inr p

or_right : (a b : Bool) → b ≡ true → (a || b) ≡ true
or_right true b p = refl
or_right false b p = p

says : History → Bool
says h = list_any (λ e. stops e.what) h

step_says : (at : ℕ) (did : Did) (told : List Row) → says (step_of at did told) ≡ true → is_stop did ≡ true
unfolding says
step_says at (Took l (item.Piece b)) told p = p
step_says at (Took l item.End) told p = p
step_says at (Took l item.ReadFail) told p = p
step_says at (Took l item.NoMemory) told p = p
step_says at (Looked true) told p = p
step_says at (Looked false) told p = p
step_says at Stopped told p = refl

failure_says : (at : ℕ) (failed : Option Link) → says (failure at failed) ≡ true → false ≡ true
unfolding says
failure_says at None p = p
failure_says at (Some l) p = p

turn_says : (base : ℕ) (t : Turn) → says (turn_entries base t) ≡ true → is_stop t.did ≡ true
unfolding says
turn_says base t p =
    let step = step_of (stamp base t) t.did (told_in t) in
    let failed = failure (stamp base t) t.failed in
    elim (or_cases (says step) (says failed) (sym (list_any-append (λ e. stops e.what) step failed) ∙ p)) [
      | inl q ↦ step_says (stamp base t) t.did (told_in t) q
      | inr q ↦ absurd (true≢false (sym (failure_says (stamp base t) t.failed q)))
    ]

-- some turn was told to stop
pub any_stop : List Turn → Bool
any_stop turns = list_any (λ t. is_stop t.did) turns

pub turns_say : (base : ℕ) (turns : List Turn) → list_any (λ e. stops e.what) (history_of base turns) ≡ true → any_stop turns ≡ true
unfolding says any_stop
turns_say base [] p = p
turns_say base (t ∷ ts) p =
    elim (or_cases (says (turn_entries base t)) (says (history_of base ts)) (sym (list_any-append (λ e. stops e.what) (turn_entries base t) (history_of base ts)) ∙ p)) [
      | inl q ↦ ap (λ b. b || any_stop ts) (turn_says base t q)
      | inr q ↦ or_right (is_stop t.did) (any_stop ts) (turns_say base ts q)
    ]

-- ---- the count of yeses

pub record Asked (told : Bool) (before after : ℕ) : Type 0 where
  pub stays : before ≤ after
  pub most : after ≤ 2 ^ 64 - 1
  pub rose : told ≡ true → RoseBy 1 before after

asked_once : (b : Bool) (y : ℕ) → y ≤ 2 ^ 64 - 1 → Asked b y (if b then counted y else y)
asked_once true y most = record { stays = omega arith; most = omega arith; rose = λ p. elim (cases_lt y (2 ^ 64 - 1)) [ inl lt ↦ inl (omega arith) | inr le ↦ inr (omega arith) ] }
asked_once false y most = record { stays = omega arith; most = most; rose = λ p. absurd (true≢false (sym p)) }

rose_first : (y y' y'' : ℕ) → y' ≤ y'' → RoseBy 1 y y' → RoseBy 1 y y''
rose_first y y' y'' more (inl rose) = inl (omega arith)
rose_first y y' y'' more (inr last) = inr (omega arith)

rose_later : (y y' y'' : ℕ) → y ≤ y' → RoseBy 1 y' y'' → RoseBy 1 y y''
rose_later y y' y'' more (inl rose) = inl (omega arith)
rose_later y y' y'' more (inr last) = inr last

asked_both : (b c : Bool) (y y' y'' : ℕ) → Asked b y y' → Asked c y' y'' → Asked (b || c) y y''
asked_both true c y y' y'' first later = record {
  stays = let a = first.stays in let b = later.stays in omega arith;
  most = later.most;
  rose = λ p. rose_first y y' y'' later.stays (first.rose refl);
}
asked_both false c y y' y'' first later = record {
  stays = let a = first.stays in let b = later.stays in omega arith;
  most = later.most;
  rose = λ p. rose_later y y' y'' first.stays (later.rose p);
}

pub asked_by : (turns : List Turn) (o : Outside) → o.stopper.yeses ≤ 2 ^ 64 - 1 → Asked (any_stop turns) o.stopper.yeses (fold after_turn o turns).stopper.yeses
unfolding any_stop
asked_by [] o most = record { stays = omega arith; most = most; rose = λ p. absurd (true≢false (sym p)) }
asked_by (t ∷ ts) o most =
    let once = asked_once (is_stop t.did) o.stopper.yeses most in
    asked_both (is_stop t.did) (any_stop ts) o.stopper.yeses (after_turn o t).stopper.yeses (fold after_turn (after_turn o t) ts).stopper.yeses
    once (asked_by ts (after_turn o t) once.most)

-- ---- the span

-- the answers so far lie on both sides of the base
pub Covers : ℕ → Option Reach → Type 0
Covers base None = ⊥
Covers base (Some r) = (r.low ≤ base) × (base ≤ r.high)

covers_on : (base x : ℕ) (r : Option Reach) → Covers base r → Covers base (Some (reach_with r x))
unfolding Covers
covers_on base x None none = absurd none
covers_on base x (Some r) c = let low = c.0 in let high = c.1 in (omega arith, omega arith)

in_span : (base x s : ℕ) (r : Option Reach) → Covers base r → x - base ≤ max s (width (reach_with r x))
unfolding Covers
in_span base x s None none = absurd none
in_span base x s (Some r) c = let low = c.0 in let high = c.1 in omega arith

pub covers_base : (base : ℕ) (r : Option Reach) → Covers base (Some (reach_with r base))
unfolding Covers
covers_base base None = (omega arith, omega arith)
covers_base base (Some r) = (omega arith, omega arith)

-- each stamp of these turns is within
pub AreWithin : ℕ → ℕ → List Turn → Type 0
AreWithin base s [] = Unit {0}
AreWithin base s (t ∷ ts) = (stamp base t ≤ s) × AreWithin base s ts

-- so of the first of them
pub within_front : (base s : ℕ) (ts us : List Turn) → AreWithin base s (ts ++ us) → AreWithin base s ts
unfolding AreWithin
within_front base s [] us within = tt
within_front base s (t ∷ ts) us within = (within.0, within_front base s ts us within.1)

pub record Spans (base : ℕ) (turns : List Turn) (before after : ℕ) : Type 0 where
  pub stays : before ≤ after
  pub within : AreWithin base after turns

pub spans_by : (base : ℕ) (turns : List Turn) (o : Outside) → Covers base o.clock.reach → Spans base turns o.clock.span (fold after_turn o turns).clock.span
unfolding AreWithin
spans_by base [] o covers = record { stays = omega arith; within = tt }
spans_by base (t ∷ ts) o covers =
    let more = spans_by base ts (after_turn o t) (covers_on base t.answer o.clock.reach covers) in
    let here = in_span base t.answer o.clock.span o.clock.reach covers in
    let stays = more.stays in
    record { stays = omega arith; within = (omega arith, more.within) }

-- ---- the stamp of the last entry

pub each_entry : ℕ → History → Type 0
each_entry s [] = Unit {0}
each_entry s (e ∷ h) = (e.at ≤ s) × each_entry s h

each_both : (s : ℕ) (g h : History) → each_entry s g → each_entry s h → each_entry s (g ++ h)
unfolding each_entry
each_both s [] h first later = later
each_both s (e ∷ g) h first later = (first.0, each_both s g h first.1 later)

step_within : (s at : ℕ) (did : Did) (told : List Row) → at ≤ s → each_entry s (step_of at did told)
unfolding each_entry
step_within s at (Took l x) told le = (le, tt)
step_within s at (Looked true) told le = (le, tt)
step_within s at (Looked false) told le = tt
step_within s at Stopped told le = (le, tt)

failure_within : (s at : ℕ) (failed : Option Link) → at ≤ s → each_entry s (failure at failed)
unfolding each_entry
failure_within s at None le = tt
failure_within s at (Some l) le = (le, tt)

pub history_within : (base s : ℕ) (turns : List Turn) → AreWithin base s turns → each_entry s (history_of base turns)
unfolding each_entry AreWithin
history_within base s [] within = tt
history_within base s (t ∷ ts) within =
    each_both s (turn_entries base t) (history_of base ts)
    (each_both s (step_of (stamp base t) t.did (told_in t)) (failure (stamp base t) t.failed)
    (step_within s (stamp base t) t.did (told_in t) within.0) (failure_within s (stamp base t) t.failed within.0))
    (history_within base s ts within.1)

-- a log's entries have the stamps of its history
pub last_within : (s : ℕ) (log : List LogEntry) (left : ℕ → List Item) (told : List Row) → each_entry s (draw log left told) → last_stamp log ≤ s
unfolding each_entry
last_within s [] left told within = omega arith
last_within s (e ∷ []) left told within = within.0
last_within s (e ∷ f ∷ log) left told within = last_within s (f ∷ log) (left_by e.act left) (drop e.told told) within.1

-- what stands at the last place is the last entry
pub last_at : (log : List LogEntry) (e : LogEntry) (n : ℕ) → n + 1 ≡ length log → slice_get log n ≡ Some e → e.at ≡ last_stamp log
last_at [] e n is found = absurd (omega (arith, is))
last_at (x ∷ []) e zero is found = ap (λ (o : Option LogEntry). (unwrap_or o e).at) (sym found)
last_at (x ∷ []) e (suc n) is found = absurd (omega (arith, is))
last_at (x ∷ y ∷ more) e zero is found = absurd (omega (arith, is))
last_at (x ∷ y ∷ more) e (suc n) is found = last_at (y ∷ more) e n (omega (arith, is)) found
