-- A failed write stands in a log only where the count of its sink rose.
use Rattle.std.specs.Prelude.{◌≡◌, ℕ, ◌≤◌, ◌||◌, ◌==◌, drop, Bool, true, false, List, [], ◌∷◌, Option, Some, None}
use Rattle.std.specs.List.{list_any}
use Rattle.std.proofs.Common.{refl, sym, ap, ◌∙◌, subst, arith, true≢false, inl, inr}
use Rattle.std.proofs.lemmas.Bool.{eqb-true}
use Rattle.std.proofs.lemmas.List.Folds.{list_any-append}
use Rattle.rd_base.specs.Outside.{SinkTold, Rose}
use Rattle.rd_base.specs.History.{History, Row, write_fails}
use Rattle.rd_base.specs.declared.values.Link.{Link}
use Rattle.rd_rules.specs.Exchange.{Rules}
use Rattle.rd_gate.specs.declared.item.Item.{Item}
use Rattle.rd_gate.specs.declared.item.Item.TheVariants as item
use Rattle.rd_gate.specs.Gate.{of}
use Rattle.rd_turn.specs.declared.log.LogEntry.{LogEntry}
use Rattle.rd_turn.specs.declared.log.Act.{Act}
use Rattle.rd_turn.specs.declared.log.Act.TheVariants as act
use Rattle.rd_turn.specs.Turns.{Did, Took, Looked, Stopped, Turn, stamp, step_of, failure, turn_entries, history_of, told_in}
use Rattle.rd_turn.specs.Drawn.{draw, left_by, first_heard, what_of}
use Rattle.rd_turn.specs.Sinks.{sink_at}
use Rattle.rd_turn.specs.Runs.{FailsLast, WroteSent}
use Rattle.rd_run.specs.Leaving.{AllClosed}
use Rattle.rd_run_laws.specs.Causes.{is_write_fail, has_write_fail, RoseToLast, WriteFailsHaveFaults}

-- ---- the failed writes of a log, of its history and of its turns

says : ℕ → History → Bool
says l h = list_any (λ e. write_fails l e.what) h

is_to : ℕ → Option Link → Bool
is_to l None = false
is_to l (Some w) = l == w.0

any_to : ℕ → List Turn → Bool
any_to l turns = list_any (λ t. is_to l t.failed) turns

heard_says : (l : ℕ) (m : Link) (items : List Item) → write_fails l (first_heard m items) ≡ false
heard_says l m [] = refl
heard_says l m (item.Piece b ∷ more) = refl
heard_says l m (item.End ∷ more) = refl
heard_says l m (item.ReadFail ∷ more) = refl
heard_says l m (item.NoMemory ∷ more) = refl

act_says : (l : ℕ) (left : ℕ → List Item) (a : Act) → write_fails l (what_of left a) ≡ is_write_fail l a
act_says l left (act.Took m) = heard_says l m (left m.0)
act_says l left act.Timer = refl
act_says l left act.Stop = refl
act_says l left (act.WriteFail m) = refl

both : (a b c d : Bool) → a ≡ c → b ≡ d → (a || b) ≡ (c || d)
both a b c d p q = ap (λ x. x || b) p ∙ ap (λ x. c || x) q

log_says : (l : ℕ) (log : List LogEntry) (left : ℕ → List Item) (told : List Row) → says l (draw log left told) ≡ has_write_fail l log
unfolding says
log_says l [] left told = refl
log_says l (e ∷ log) left told = both _ _ _ _ (act_says l left e.act) (log_says l log (left_by e.act left) (drop e.told told))

-- a failed write stands in the history that a log stands for where it stands in the log
pub drawn_says : (l : ℕ) (log : List LogEntry) (left : ℕ → List Item) (told : List Row) → list_any (λ e. write_fails l e.what) (draw log left told) ≡ has_write_fail l log
unfolding says
drawn_says l log left told = log_says l log left told

step_says : (l at : ℕ) (did : Did) (told : List Row) → says l (step_of at did told) ≡ false
unfolding says
step_says l at (Took m (item.Piece b)) told = refl
step_says l at (Took m item.End) told = refl
step_says l at (Took m item.ReadFail) told = refl
step_says l at (Took m item.NoMemory) told = refl
step_says l at (Looked true) told = refl
step_says l at (Looked false) told = refl
step_says l at Stopped told = refl

or_false : (a : Bool) → (a || false) ≡ a
or_false true = refl
or_false false = refl

failure_says : (l at : ℕ) (failed : Option Link) → says l (failure at failed) ≡ is_to l failed
unfolding says is_to
failure_says l at None = refl
failure_says l at (Some w) = or_false (l == w.0)

turn_says : (l base : ℕ) (t : Turn) → says l (turn_entries base t) ≡ is_to l t.failed
unfolding says
turn_says l base t =
    list_any-append (λ e. write_fails l e.what) (step_of (stamp base t) t.did (told_in t)) (failure (stamp base t) t.failed)
    ∙ both _ _ _ _ (step_says l (stamp base t) t.did (told_in t)) (failure_says l (stamp base t) t.failed)

turns_say : (l base : ℕ) (turns : List Turn) → says l (history_of base turns) ≡ any_to l turns
unfolding says any_to
turns_say l base [] = refl
turns_say l base (t ∷ ts) =
    list_any-append (λ e. write_fails l e.what) (turn_entries base t) (history_of base ts) ∙ both _ _ _ _ (turn_says l base t) (turns_say l base ts)

-- ---- only the last turn's write may have failed

last_to : (l : ℕ) (turns : List Turn) (failed : Option Link) → FailsLast turns failed → any_to l turns ≡ true → is_to l failed ≡ true
unfolding any_to is_to
last_to l [] failed fails any = absurd (true≢false (sym any))
last_to l (t ∷ []) failed fails any = sym (ap (is_to l) fails) ∙ sym (or_false (is_to l t.failed)) ∙ any
last_to l (t ∷ u ∷ turns) failed fails any =
    last_to l (u ∷ turns) failed fails.1 (sym (ap (λ o. is_to l o || any_to l (u ∷ turns)) fails.0) ∙ any)

rise : (a b c : ℕ) → Rose a b → b ≤ c → RoseToLast a c
rise a b c (inl lt) le = inl (omega (arith, le, lt))
rise a b c (inr last) le = inr (omega (arith, le, last))

fault_of : (r : Rules) (h : History) (l : ℕ) (failed : Option Link) (olds mids news : List SinkTold) → is_to l failed ≡ true
    → WroteSent r h failed olds mids → AllClosed mids news → RoseToLast (sink_at olds l).faults (sink_at news l).faults
unfolding is_to
fault_of r h l None olds mids news to wrote closed = absurd (true≢false (sym to))
fault_of r h l (Some w) olds mids news to wrote closed =
    let is : l ≡ w.0 = eqb-true l w.0 to in
    let size = wrote.same in
    let inside = wrote.is_link in
    let closes = closed.closed w.0 (omega (arith, size, inside)) in
    subst (λ n. RoseToLast (sink_at olds n).faults (sink_at news n).faults) (sym is)
    (rise (sink_at olds w.0).faults (sink_at mids w.0).faults (sink_at news w.0).faults wrote.fault closes.faults)

pub write_fails_have_faults : WriteFailsHaveFaults
write_fails_have_faults r before after entries told result olds news ran l has =
    let h = ran.history in
    let left : ℕ → List Item = λ m. of m after.gate.taken in
    let any : any_to l h.turns ≡ true = sym (turns_say l ran.base h.turns) ∙ ap (says l) (sym h.is) ∙ log_says l entries left told ∙ has in
    fault_of r _ l _ olds ran.mids news (last_to l h.turns _ h.truly.fails any) h.truly.wrote ran.closed
