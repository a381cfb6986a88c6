-- The stamps of a log's entries are within the clock's span.
use Rattle.std.specs.Prelude.{◌≡◌, ℕ, ◌-◌, ◌≤◌, max, fold, drop, true, false, List, [], ◌∷◌, ◌++◌, Option, Some, None}
use Rattle.std.specs.List.{AllByRecursion as Each}
use Rattle.std.proofs.Common.{sym, ap, subst, arith}
use Rattle.rd_base.specs.Clocks.{Reach, reach_with, width}
use Rattle.rd_base.specs.History.{History, Row}
use Rattle.rd_base.specs.declared.values.Link.{Link}
use Rattle.rd_gate.specs.declared.item.Item.{Item}
use Rattle.rd_gate.specs.Gate.{of}
use Rattle.rd_turn.specs.declared.log.LogEntry.{LogEntry}
use Rattle.rd_turn.specs.Turns.{Did, Took, Looked, Stopped, Turn, Outside, after_turn, stamp, step_of, failure, turn_entries, history_of, told_in}
use Rattle.rd_turn.specs.Drawn.{draw, left_by}
use Rattle.rd_run.specs.Ran.{with_base}
use Rattle.rd_run_laws.specs.Causes.{StampsAreWithin}

-- ---- the span

-- the answers so far lie on both sides of the base
Covers : ℕ → Option Reach → Type 0
Covers base None = ⊥
Covers base (Some r) = (r.low ≤ base) × (base ≤ r.high)

covers_on : (base x : ℕ) (r : Option Reach) → Covers base r → Covers base (Some (reach_with r x))
unfolding Covers
covers_on base x None none = absurd none
covers_on base x (Some r) c = let low = c.0 in let high = c.1 in (omega arith, omega arith)

in_span : (base x s : ℕ) (r : Option Reach) → Covers base r → x - base ≤ max s (width (reach_with r x))
unfolding Covers
in_span base x s None none = absurd none
in_span base x s (Some r) c = let low = c.0 in let high = c.1 in omega arith

covers_base : (base : ℕ) (r : Option Reach) → Covers base (Some (reach_with r base))
unfolding Covers
covers_base base None = (omega arith, omega arith)
covers_base base (Some r) = (omega arith, omega arith)

-- ---- stamps of turns

AreWithin : ℕ → ℕ → List Turn → Type 0
AreWithin base s [] = Unit {0}
AreWithin base s (t ∷ ts) = (stamp base t ≤ s) × AreWithin base s ts

within_front : (base s : ℕ) (ts us : List Turn) → AreWithin base s (ts ++ us) → AreWithin base s ts
unfolding AreWithin
within_front base s [] us within = tt
within_front base s (t ∷ ts) us within = (within.0, within_front base s ts us within.1)

record Spans (base : ℕ) (turns : List Turn) (before after : ℕ) : Type 0 where
  stays : before ≤ after
  within : AreWithin base after turns

spans_by : (base : ℕ) (turns : List Turn) (o : Outside) → Covers base o.clock.reach → Spans base turns o.clock.span (fold after_turn o turns).clock.span
unfolding AreWithin
spans_by base [] o covers = record { stays = omega arith; within = tt }
spans_by base (t ∷ ts) o covers =
    let more = spans_by base ts (after_turn o t) (covers_on base t.answer o.clock.reach covers) in
    let here = in_span base t.answer o.clock.span o.clock.reach covers in
    let stays = more.stays in
    record { stays = omega arith; within = (omega arith, more.within) }

-- ---- stamps of entries

each_entry : ℕ → History → Type 0
each_entry s [] = Unit {0}
each_entry s (e ∷ h) = (e.at ≤ s) × each_entry s h

each_both : (s : ℕ) (g h : History) → each_entry s g → each_entry s h → each_entry s (g ++ h)
unfolding each_entry
each_both s [] h first later = later
each_both s (e ∷ g) h first later = (first.0, each_both s g h first.1 later)

step_within : (s at : ℕ) (did : Did) (told : List Row) → at ≤ s → each_entry s (step_of at did told)
unfolding each_entry
step_within s at (Took l x) told le = (le, tt)
step_within s at (Looked true) told le = (le, tt)
step_within s at (Looked false) told le = tt
step_within s at Stopped told le = (le, tt)

failure_within : (s at : ℕ) (failed : Option Link) → at ≤ s → each_entry s (failure at failed)
unfolding each_entry
failure_within s at None le = tt
failure_within s at (Some l) le = (le, tt)

history_within : (base s : ℕ) (turns : List Turn) → AreWithin base s turns → each_entry s (history_of base turns)
unfolding each_entry AreWithin
history_within base s [] within = tt
history_within base s (t ∷ ts) within =
    each_both s (turn_entries base t) (history_of base ts)
    (each_both s (step_of (stamp base t) t.did (told_in t)) (failure (stamp base t) t.failed)
    (step_within s (stamp base t) t.did (told_in t) within.0) (failure_within s (stamp base t) t.failed within.0))
    (history_within base s ts within.1)

log_within : (s : ℕ) (log : List LogEntry) (left : ℕ → List Item) (told : List Row) → each_entry s (draw log left told) → Each (λ e. e.at ≤ s) log
unfolding each_entry
log_within s [] left told within = tt
log_within s (e ∷ log) left told within = (within.0, log_within s log (left_by e.act left) (drop e.told told) within.1)

pub stamps_are_within : StampsAreWithin
stamps_are_within r before after entries told result olds news ran =
    let h = ran.history in
    let start = with_base before ran.base in
    let all = h.turns ++ h.given_up in
    let spans = spans_by ran.base all start (covers_base ran.base before.clock.reach) in
    let same : (fold after_turn start all).clock.span ≡ after.clock.span = ap (λ (o : Outside). o.clock.span) (sym h.asks) in
    subst (λ n. Each (λ (e : LogEntry). e.at ≤ n) entries) same (log_within _ entries (λ l. of l after.gate.taken) told
    (subst (each_entry _) (sym h.is) (history_within ran.base _ h.turns (within_front ran.base _ h.turns h.given_up spans.within))))
