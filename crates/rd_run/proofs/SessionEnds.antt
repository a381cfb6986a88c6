-- A session from its first turn to its last item.
use Rattle.std.proofs.Common.{◌≡◌, ℕ, zero, suc, ◌+◌, ◌<◌, ◌≤◌, true, List, [], ◌∷◌, ◌++◌, length, map, fold, Option, Some, None, refl, sym, ap, ap₂, ◌∙◌, subst, append_assoc, append-nil, arith}
use Rattle.std.specs.Prelude.{slice_get}
use Rattle.rd_base.specs.Outside.{SinkTold}
use Rattle.rd_base.specs.Sources.{SourceTold}
use Rattle.rd_base.specs.Clocks.{ClockTold, Ticks}
use Rattle.rd_base.specs.History.{Row}
use Rattle.rd_base.specs.declared.values.Link.{Link}
use Rattle.rd_rules.specs.Exchange.{Rules}
use Rattle.rd_gate.specs.declared.item.Item.{Item}
use Rattle.rd_gate.specs.declared.gate.Ended.{Ended}
use Rattle.rd_gate.specs.declared.gate.View.{View}
use Rattle.rd_gate.specs.Gate.{Known, Whole, of, owner, reader, known}
use Rattle.rd_gate.specs.Items.{IsInTurn}
use Rattle.rd_start.specs.Back.{WasRead, with_ended}
use Rattle.atomic_table.specs.Seated.{TableId}
use Rattle.rd_turn.specs.declared.log.LogEntry.{LogEntry}
use Rattle.rd_turn.specs.declared.running.Over.{Over}
use Rattle.rd_turn.specs.Turns.{Turn, Did, Took, Looked, Stopped, Outside, after_turn, clock_after, view_after}
use Rattle.rd_turn.specs.Runs.{HasRun}
use Rattle.rd_run.specs.declared.items.LeftOver.{LeftOver}
use Rattle.rd_run.specs.declared.items.LeftOver.TheVariants.{All}
use Rattle.rd_run.specs.declared.session.Left.{Left}
use Rattle.rd_run.specs.Leaving.{Drains, plain, AllClosed, Keeps, given_back}
use Rattle.rd_run.specs.Ran.{LinkRead, HasHistory, SessionRan, with_base, with_gate, over_by}
use Rattle.rd_run.proofs.Leaves.{keeps_more, plain_append}
use Rattle.rd_run.proofs.Ended.{gate_in, link_read, reads_in_turn, has_history}

made_after : (v : View) (did : Did) → (view_after v did).made ≡ v.made
made_after v (Took l x) = refl
made_after v (Looked timer) = refl
made_after v Stopped = refl

made_in : (v : View) (turns : List Turn) → (fold (λ w (t : Turn). view_after w t.did) v turns).made ≡ v.made
made_in v [] = refl
made_in v (t ∷ turns) = made_in (view_after v t.did) turns ∙ made_after v t.did

get_some : {A : Type 0} (xs : List A) (k : ℕ) → k < length xs → (x : A) × (slice_get xs k ≡ Some x)
get_some [] k lt = absurd (omega (arith, lt))
get_some (x ∷ xs) zero lt = (x, refl)
get_some (x ∷ xs) (suc k) lt = get_some xs k (omega (arith, lt))

-- the owner's pass from the last turn to its end: items are taken, then the readers' passes are taken in, then items again
pub record Leaves (view v1 v2 v3 : View) (a b c d : LeftOver) : Type 0 where
  pub first : Drains view v1 a b
  pub joined : v2 ≡ with_ended v1 v2.ended
  pub last : Drains v2 v3 c d
  pub whole : Whole v3 []

pub taken_at_end : (view v1 v2 v3 : View) (a b c d : LeftOver) (l : Leaves view v1 v2 v3 a b c d) → v3.taken ≡ view.taken ++ (plain l.first.items ++ plain l.last.items)
taken_at_end view v1 v2 v3 a b c d l =
    ap (λ (v : View). v.taken) l.last.knows
    ∙ ap (λ (v : View). v.taken ++ plain l.last.items) l.joined
    ∙ ap (λ (v : View). v.taken ++ plain l.last.items) l.first.knows
    ∙ append_assoc view.taken (plain l.first.items) (plain l.last.items)

looks_at_end : (view v1 v2 v3 : View) (a b c d : LeftOver) (l : Leaves view v1 v2 v3 a b c d) → v3.looks ≡ view.looks ++ (l.first.looks ++ l.last.looks)
looks_at_end view v1 v2 v3 a b c d l =
    ap (λ (v : View). v.looks) l.last.knows
    ∙ ap (λ (v : View). v.looks ++ l.last.looks) l.joined
    ∙ ap (λ (v : View). v.looks ++ l.last.looks) l.first.knows
    ∙ append_assoc view.looks l.first.looks l.last.looks

made_at_end : (view v1 v2 v3 : View) (a b c d : LeftOver) (l : Leaves view v1 v2 v3 a b c d) → v3.made ≡ view.made
made_at_end view v1 v2 v3 a b c d l =
    ap (λ (v : View). v.made) l.last.knows ∙ ap (λ (v : View). v.made) l.joined ∙ ap (λ (v : View). v.made) l.first.knows

pub ended_at_end : (view v1 v2 v3 : View) (a b c d : LeftOver) (l : Leaves view v1 v2 v3 a b c d) → v3.ended ≡ v2.ended
ended_at_end view v1 v2 v3 a b c d l = ap (λ (v : View). v.ended) l.last.knows

pub link_back : {S : Type 0} (tells : S → SourceTold) (gate : TableId) (k : ℕ) (q : S × Known) (back : S) (view v1 v2 v3 : View) (a b c d : LeftOver)
    → Leaves view v1 v2 v3 a b c d → q.1 ≡ known gate (reader k []) → WasRead tells q.0 q.1 back v2.ended
    → LinkRead (of k v3.taken) (tells q.0) (tells back)
link_back tells gate k q back view v1 v2 v3 a b c d leaves fresh was =
    link_read tells gate k q.0 back v3
    (subst (λ (p : Known). WasRead tells q.0 p back v3.ended) fresh (subst (WasRead tells q.0 q.1 back) (sym (ended_at_end view v1 v2 v3 a b c d leaves)) was)) leaves.whole

pub ticked : (o : Outside) (c : ClockTold) (base : ℕ) → Ticks base o.clock c → record { gate = o.gate; clock = c; stopper = o.stopper; book = o.book } ≡ with_base o base
ticked o c base t =
    ap₂ (λ a x. record { gate = o.gate; clock = record { answers = a; reach = x; span = c.span }; stopper = o.stopper; book = o.book }) t.answers t.reach
    ∙ ap (λ s. record { gate = o.gate; clock = record (clock_after o.clock base) { span = s }; stopper = o.stopper; book = o.book }) t.span

pub session_ended : {S : Type 0} (tells : S → SourceTold) (r : Rules) (base : ℕ) (before after : Outside) (clock : ClockTold) (v1 v2 v3 : View) (b c : LeftOver)
    (entries : List LogEntry) (told : List Row) (back : Option (Link × Item)) (result : Left) (olds mids news : List SinkTold) (rs : List (S × Known)) (ss : List S)
    → before.gate ≡ owner (r.limits.copies + 1) [] [] [] → Ticks base before.clock clock
    → HasRun r base (record { gate = before.gate; clock = clock; stopper = before.stopper; book = before.book }) after entries told (over_by result back) olds mids
    → Leaves after.gate v1 v2 v3 b c c result.left
    → Keeps (All []) b (given_back back)
    → AllClosed mids news
    → length rs ≡ r.limits.copies + 1 → length ss ≡ r.limits.copies + 1
    → ((l : ℕ) (q : S × Known) (s : S) → slice_get rs l ≡ Some q → slice_get ss l ≡ Some s → LinkRead (of l v3.taken) (tells q.0) (tells s))
    → SessionRan r before (with_gate after v3) entries told result olds news
session_ended {S = S} tells r base before after clock v1 v2 v3 b c entries told back result olds mids news rs ss begins first run leaves gave closed size_r size_s reads =
    let run' : HasRun r base (with_base before base) after entries told (over_by result back) olds mids =
    subst (λ (o : Outside). HasRun r base o after entries told (over_by result back) olds mids) (ticked before clock base first) run in
    let all = run'.turns ++ run'.given_up in
    let made : v3.made ≡ r.limits.copies + 1 =
    made_at_end after.gate v1 v2 v3 b c c result.left leaves ∙ ap (λ (o : Outside). o.gate.made) run'.asks ∙ ap (λ (x : View). x.made) (gate_in (with_base before base) all)
    ∙ made_in before.gate all ∙ ap (λ (x : View). x.made) begins in
    let in_turns : (l : ℕ) → l ≤ r.limits.copies → IsInTurn (of l v3.taken) = λ l le.
    let q = get_some rs l (omega (arith, le, size_r)) in
    let s = get_some ss l (omega (arith, le, size_s)) in
    reads_in_turn (of l v3.taken) (tells q.0.0) (tells s.0) (reads l q.0 s.0 q.1 s.1) in
    record {
      base = base;
      back = back;
      mids = mids;
      view = after.gate;
      looks = leaves.first.looks ++ leaves.last.looks;
      rest = leaves.first.items ++ leaves.last.items;
      history = has_history r base (with_base before base) after v3 entries told (plain (leaves.first.items ++ leaves.last.items)) (over_by result back) olds mids run' begins
          (taken_at_end after.gate v1 v2 v3 b c c result.left leaves ∙ ap (λ l. after.gate.taken ++ l) (sym (plain_append leaves.first.items leaves.last.items))) made leaves.whole in_turns;
      looked = looks_at_end after.gate v1 v2 v3 b c c result.left leaves;
      kept = subst (Keeps (All []) result.left) (append_assoc (given_back back) leaves.first.items leaves.last.items)
          (keeps_more (All []) c result.left (given_back back ++ leaves.first.items) leaves.last.items (keeps_more (All []) b c (given_back back) leaves.first.items gave leaves.first.keeps) leaves.last.keeps);
      closed = closed;
    }
