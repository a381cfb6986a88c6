-- A Stop stands in a log exactly where the stopper's yeses rose.
use Rattle.std.specs.Prelude.{◌≡◌, ◌≢◌, ℕ, ◌-◌, ◌^◌, ◌≤◌, ◌||◌, fold, drop, Bool, true, false, if◌then◌else◌, List, [], ◌∷◌, ◌++◌, Option, Some, None, ◌⊎◌}
use Rattle.std.specs.List.{list_any}
use Rattle.std.proofs.Common.{refl, sym, ap, ◌∙◌, subst, arith, true≢false, inl, inr, append-nil}
use Rattle.std.proofs.lemmas.Bool.{cases_lt}
use Rattle.std.proofs.lemmas.List.Folds.{list_any-append}
use Rattle.rd_base.specs.Counts.{counted}
use Rattle.rd_base.specs.Outside.{Rose}
use Rattle.rd_base.specs.History.{History, Row, is_stop as stops}
use Rattle.rd_base.specs.declared.values.Link.{Link}
use Rattle.rd_base.specs.declared.values.Ending.TheVariants.{NoMemory}
use Rattle.rd_rules.specs.Exchange.{Rules}
use Rattle.rd_gate.specs.declared.item.Item.{Item}
use Rattle.rd_gate.specs.declared.item.Item.TheVariants as item
use Rattle.rd_gate.specs.Gate.{of}
use Rattle.rd_turn.specs.declared.log.LogEntry.{LogEntry}
use Rattle.rd_turn.specs.declared.log.Act.{Act}
use Rattle.rd_turn.specs.declared.log.Act.TheVariants as act
use Rattle.rd_turn.specs.declared.running.Over.{Over}
use Rattle.rd_turn.specs.Turns.{Did, Took, Looked, Stopped, Turn, Outside, after_turn, is_stop as told_to_stop, stamp, step_of, failure, turn_entries, history_of, told_in}
use Rattle.rd_turn.specs.Drawn.{draw, left_by, first_heard, what_of}
use Rattle.rd_turn.specs.Runs.{EndsBy}
use Rattle.rd_run.specs.Ran.{with_base, over_by}
use Rattle.rd_run_laws.specs.Causes.{is_stop, has_stop, StopsHaveYeses, YesesHaveStops}

-- ---- the stops of a log, of its history and of its turns

says : History → Bool
says h = list_any (λ e. stops e.what) h

any_stop : List Turn → Bool
any_stop turns = list_any (λ t. told_to_stop t.did) turns

heard_says : (l : Link) (items : List Item) → stops (first_heard l items) ≡ false
heard_says l [] = refl
heard_says l (item.Piece b ∷ more) = refl
heard_says l (item.End ∷ more) = refl
heard_says l (item.ReadFail ∷ more) = refl
heard_says l (item.NoMemory ∷ more) = refl

act_says : (left : ℕ → List Item) (a : Act) → stops (what_of left a) ≡ is_stop a
act_says left (act.Took l) = heard_says l (left l.0)
act_says left act.Timer = refl
act_says left act.Stop = refl
act_says left (act.WriteFail l) = refl

both : (a b c d : Bool) → a ≡ c → b ≡ d → (a || b) ≡ (c || d)
both a b c d p q = ap (λ x. x || b) p ∙ ap (λ x. c || x) q

log_says : (log : List LogEntry) (left : ℕ → List Item) (told : List Row) → says (draw log left told) ≡ has_stop log
unfolding says
log_says [] left told = refl
log_says (e ∷ log) left told = both _ _ _ _ (act_says left e.act) (log_says log (left_by e.act left) (drop e.told told))

step_says : (at : ℕ) (did : Did) (told : List Row) → says (step_of at did told) ≡ told_to_stop did
unfolding says
step_says at (Took l (item.Piece b)) told = refl
step_says at (Took l item.End) told = refl
step_says at (Took l item.ReadFail) told = refl
step_says at (Took l item.NoMemory) told = refl
step_says at (Looked true) told = refl
step_says at (Looked false) told = refl
step_says at Stopped told = refl

failure_says : (at : ℕ) (failed : Option Link) → says (failure at failed) ≡ false
unfolding says
failure_says at None = refl
failure_says at (Some l) = refl

or_false : (a : Bool) → (a || false) ≡ a
or_false true = refl
or_false false = refl

turn_says : (base : ℕ) (t : Turn) → says (turn_entries base t) ≡ told_to_stop t.did
unfolding says
turn_says base t =
    list_any-append (λ e. stops e.what) (step_of (stamp base t) t.did (told_in t)) (failure (stamp base t) t.failed)
    ∙ both _ _ _ _ (step_says (stamp base t) t.did (told_in t)) (failure_says (stamp base t) t.failed) ∙ or_false (told_to_stop t.did)

turns_say : (base : ℕ) (turns : List Turn) → says (history_of base turns) ≡ any_stop turns
unfolding says any_stop
turns_say base [] = refl
turns_say base (t ∷ ts) =
    list_any-append (λ e. stops e.what) (turn_entries base t) (history_of base ts) ∙ both _ _ _ _ (turn_says base t) (turns_say base ts)

-- ---- the count of yeses

record Asked (told : Bool) (before after : ℕ) : Type 0 where
  stays : before ≤ after
  most : after ≤ 2 ^ 64 - 1
  rose : told ≡ true → Rose before after

asked_once : (b : Bool) (y : ℕ) → y ≤ 2 ^ 64 - 1 → Asked b y (if b then counted y else y)
asked_once true y most = record { stays = omega arith; most = omega arith; rose = λ p. elim (cases_lt y (2 ^ 64 - 1)) [ inl lt ↦ inl (omega arith) | inr le ↦ inr (omega arith) ] }
asked_once false y most = record { stays = omega arith; most = most; rose = λ p. absurd (true≢false (sym p)) }

rose_first : (y y' y'' : ℕ) → y' ≤ y'' → y'' ≤ 2 ^ 64 - 1 → Rose y y' → Rose y y''
rose_first y y' y'' more most (inl rose) = inl (omega arith)
rose_first y y' y'' more most (inr last) = inr (omega arith)

rose_later : (y y' y'' : ℕ) → y ≤ y' → Rose y' y'' → Rose y y''
rose_later y y' y'' more (inl rose) = inl (omega arith)
rose_later y y' y'' more (inr last) = inr last

asked_both : (b c : Bool) (y y' y'' : ℕ) → Asked b y y' → Asked c y' y'' → Asked (b || c) y y''
asked_both true c y y' y'' first later = record {
  stays = let a = first.stays in let b = later.stays in omega arith;
  most = later.most;
  rose = λ p. rose_first y y' y'' later.stays later.most (first.rose refl);
}
asked_both false c y y' y'' first later = record {
  stays = let a = first.stays in let b = later.stays in omega arith;
  most = later.most;
  rose = λ p. rose_later y y' y'' first.stays (later.rose p);
}

asked_by : (turns : List Turn) (o : Outside) → o.stopper.yeses ≤ 2 ^ 64 - 1 → Asked (any_stop turns) o.stopper.yeses (fold after_turn o turns).stopper.yeses
unfolding any_stop
asked_by [] o most = record { stays = omega arith; most = most; rose = λ p. absurd (true≢false (sym p)) }
asked_by (t ∷ ts) o most =
    let once = asked_once (told_to_stop t.did) o.stopper.yeses most in
    asked_both (told_to_stop t.did) (any_stop ts) o.stopper.yeses (after_turn o t).stopper.yeses (fold after_turn (after_turn o t) ts).stopper.yeses
    once (asked_by ts (after_turn o t) once.most)

-- ---- where none was told to stop the count stands still

or_left_false : (a b : Bool) → (a || b) ≡ false → a ≡ false
or_left_false true b p = p
or_left_false false b p = refl

or_right_false : (a b : Bool) → (a || b) ≡ false → b ≡ false
or_right_false true b p = absurd (true≢false p)
or_right_false false b p = p

still_once : (b : Bool) (y : ℕ) → b ≡ false → (if b then counted y else y) ≡ y
still_once true y p = absurd (true≢false p)
still_once false y p = refl

still_by : (turns : List Turn) (o : Outside) → any_stop turns ≡ false → (fold after_turn o turns).stopper.yeses ≡ o.stopper.yeses
unfolding any_stop
still_by [] o none = refl
still_by (t ∷ ts) o none =
    still_by ts (after_turn o t) (or_right_false (told_to_stop t.did) (any_stop ts) none)
    ∙ still_once (told_to_stop t.did) o.stopper.yeses (or_left_false (told_to_stop t.did) (any_stop ts) none)

-- ---- both of a session that ran

any_both : (ts us : List Turn) → any_stop (ts ++ us) ≡ (any_stop ts || any_stop us)
unfolding any_stop
any_both ts us = list_any-append (λ t. told_to_stop t.did) ts us

or_true : (a b : Bool) → a ≡ true → (a || b) ≡ true
or_true true b p = refl
or_true false b p = absurd (true≢false (sym p))

pub stops_have_yeses : StopsHaveYeses
stops_have_yeses r before after entries told result olds news ran most has =
    let h = ran.history in
    let start = with_base before ran.base in
    let all = h.turns ++ h.given_up in
    let asked = asked_by all start most in
    let same : (fold after_turn start all).stopper.yeses ≡ after.stopper.yeses = ap (λ (o : Outside). o.stopper.yeses) (sym h.asks) in
    let drawn : says (draw entries (λ l. of l after.gate.taken) told) ≡ true = log_says entries (λ l. of l after.gate.taken) told ∙ has in
    let turned : any_stop h.turns ≡ true = sym (turns_say ran.base h.turns) ∙ ap says (sym h.is) ∙ drawn in
    subst (λ n. Rose before.stopper.yeses n) same (asked.rose (any_both h.turns h.given_up ∙ or_true (any_stop h.turns) (any_stop h.given_up) turned))

-- none was given up
none_given_up : (r : Rules) (base : ℕ) (turns given_up : List Turn) (over : Over) → EndsBy r base (history_of base turns) given_up over → over.ending ≢ NoMemory → given_up ≡ []
none_given_up r base turns [] over ends other = refl
none_given_up r base turns (t ∷ more) over ends other = absurd (other ends.0)

true_or : (b : Bool) → (b ≡ true) ⊎ (b ≡ false)
true_or true = inl refl
true_or false = inr refl

pub yeses_have_stops : YesesHaveStops
yeses_have_stops r before after entries told result olds news ran other rose =
    let h = ran.history in
    let start = with_base before ran.base in
    let none : h.given_up ≡ [] = none_given_up r ran.base h.turns h.given_up (over_by result ran.back) h.truly.ends other in
    let all : h.turns ++ h.given_up ≡ h.turns = ap (λ us. h.turns ++ us) none ∙ append-nil h.turns in
    let same : after.stopper.yeses ≡ (fold after_turn start h.turns).stopper.yeses =
    ap (λ (o : Outside). o.stopper.yeses) h.asks ∙ ap (λ ts. (fold after_turn start ts).stopper.yeses) all in
    let logged : has_stop entries ≡ any_stop h.turns =
    sym (log_says entries (λ l. of l after.gate.taken) told) ∙ ap says h.is ∙ turns_say ran.base h.turns in
    elim (true_or (any_stop h.turns)) [
      | inl told ↦ logged ∙ told
      | inr not_told ↦
          let still : (fold after_turn start h.turns).stopper.yeses ≡ before.stopper.yeses = still_by h.turns start not_told in
          absurd (omega (arith, rose, same, still))
    ]
