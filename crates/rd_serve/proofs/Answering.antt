-- Answers that a clock gave in turn.
use Rattle.std.proofs.Common.{◌≡◌, ℕ, List, [], ◌∷◌, ◌++◌, fold, refl, sym, ap, ◌∙◌, subst}
use Rattle.std.proofs.lemmas.List.{append_assoc, append-nil}
use Rattle.std.proofs.lemmas.List.Sums.{fold-append}
use Rattle.rd_base.specs.Clocks.{ClockTold, Ticks}
use Rattle.rd_base.specs.Counts.{told_with}
use Rattle.rd_base.specs.Outside.{SinkTold}
use Rattle.rd_base.specs.Sources.{SourceTold}
use Rattle.rd_base.specs.declared.values.Side.{Side}
use Rattle.rd_desk.specs.Desk.{DeskView}
use Rattle.rd_doors.specs.Visits.{EndsTold}
use Rattle.rd_doors.specs.Calls.{DoorsTold}
use Rattle.rd_keeper.specs.Keeping.{KeeperTold}
use Rattle.rd_runner.specs.Runs.{Setup}
use Rattle.rd_run_session.specs.declared.left.SessionLeft.{SessionLeft}
use Rattle.rd_serve.specs.declared.session.Session.{Session}
use Rattle.rd_serve.specs.Operators.{Answering}
use Rattle.rd_serve.specs.Noting.{AreKept, AreServed, IsNext, NotesStay, NotesVisit, NotesServe}

-- one after another
pub then_answering : (P Q X : List ℕ → Type 0) (a b c : ClockTold) → ((xs ys : List ℕ) → P xs → Q ys → X (xs ++ ys)) → Answering P a b → Answering Q b c → Answering X a c
then_answering P Q X a b c both first second = record {
  more = first.more ++ second.more;
  are = second.are ∙ ap (λ l. fold told_with l second.more) first.are ∙ sym (fold-append told_with a.answers first.more second.more);
  holds = both first.more second.more first.holds second.holds;
}

-- one answer, and then others
pub ticks_then : (P X : List ℕ → Type 0) (answer : ℕ) (a b c : ClockTold) → Ticks answer a b → ((xs : List ℕ) → P xs → X (answer ∷ xs)) → Answering P b c → Answering X a c
ticks_then P X answer a b c ticks each rest = record {
  more = answer ∷ rest.more;
  are = rest.are ∙ ap (λ l. fold told_with l rest.more) ticks.answers;
  holds = each rest.more rest.holds;
}

-- one answer
pub ticked : (P : List ℕ → Type 0) (answer : ℕ) (a b : ClockTold) → Ticks answer a b → P (answer ∷ []) → Answering P a b
ticked P answer a b ticks holds = record { more = answer ∷ []; are = ticks.answers; holds = holds }

-- none
pub unasked : (P : List ℕ → Type 0) (a : ClockTold) → P [] → Answering P a a
unasked P a holds = record { more = []; are = refl; holds = holds }

pub by_answers : (P X : List ℕ → Type 0) (a b : ClockTold) → ((xs : List ℕ) → P xs → X xs) → Answering P a b → Answering X a b
by_answers P X a b each had = record { more = had.more; are = had.are; holds = each had.more had.holds }

pub answers_by : (P X : List ℕ → Type 0) (a b : ClockTold) → Answering P a b → ((xs : List ℕ) → P xs → X xs) → Answering X a b
answers_by P X a b had each = by_answers P X a b each had

module _ {S K P C T B R : Type 0} (source : S → SourceTold) (sink : K → SinkTold) (setup : Setup) where
  -- runs come back, and others behind them
  pub stay_then : (d d' d'' : DoorsTold (SessionLeft R)) (desk desk' desk'' : DeskView) (ss ss' ss'' : List (Session S K P C T B R)) (xs ys : List ℕ)
      → NotesStay setup d d' source sink desk desk' ss ss' xs → NotesStay setup d' d'' source sink desk' desk'' ss' ss'' ys → NotesStay setup d d'' source sink desk desk'' ss ss'' (xs ++ ys)
  stay_then d d' d'' desk desk' desk'' ss ss' ss'' xs ys first second start asked keeper count wait kept =
      subst (λ l. AreKept start setup d'' l desk'' keeper count wait source sink ss'') (append_assoc asked xs ys)
      (second start (asked ++ xs) keeper count wait (first start asked keeper count wait kept))

  -- nothing happens
  pub stay_none : (d : DoorsTold (SessionLeft R)) (desk : DeskView) (ss : List (Session S K P C T B R)) → NotesStay setup d d source sink desk desk ss ss []
  stay_none d desk ss start asked keeper count wait kept = subst (λ l. AreKept start setup d l desk keeper count wait source sink ss) (sym (append-nil asked)) kept

  pub serve_then : (d d' d'' : DoorsTold (SessionLeft R)) (desk desk' desk'' : DeskView) (k k' k'' : KeeperTold) (ss ss' ss'' : List (Session S K P C T B R)) (xs ys : List ℕ)
      → NotesServe setup d d' source sink desk desk' ss ss' k k' xs → NotesServe setup d' d'' source sink desk' desk'' ss' ss'' k' k'' ys → NotesServe setup d d'' source sink desk desk'' ss ss'' k k'' (xs ++ ys)
  serve_then d d' d'' desk desk' desk'' k k' k'' ss ss' ss'' xs ys first second start asked kept =
      subst (λ l. AreServed start setup d'' l desk'' k'' source sink ss'') (append_assoc asked xs ys)
      (second start (asked ++ xs) (first start asked kept))

  pub serve_none : (d : DoorsTold (SessionLeft R)) (desk : DeskView) (k : KeeperTold) (ss : List (Session S K P C T B R)) → NotesServe setup d d source sink desk desk ss ss k k []
  serve_none d desk k ss start asked kept = subst (λ l. AreServed start setup d l desk k source sink ss) (sym (append-nil asked)) kept

  -- runs come back behind it
  pub serve_stay : (d d' d'' : DoorsTold (SessionLeft R)) (desk desk' desk'' : DeskView) (k k' : KeeperTold) (ss ss' ss'' : List (Session S K P C T B R)) (xs ys : List ℕ)
      → NotesServe setup d d' source sink desk desk' ss ss' k k' xs → NotesStay setup d' d'' source sink desk' desk'' ss' ss'' ys → NotesServe setup d d'' source sink desk desk'' ss ss'' k k' (xs ++ ys)
  serve_stay d d' d'' desk desk' desk'' k k' ss ss' ss'' xs ys first second start asked kept =
      let had = first start asked kept in
      record {
        count = had.count;
        kept = subst (λ l. AreKept start setup d'' l desk'' k' had.count 0 source sink ss'') (append_assoc asked xs ys)
            (second start (asked ++ xs) k' had.count 0 had.kept);
      }

  -- a visit waits while runs come back, and is judged then
  pub visit_then : (d d' d'' : DoorsTold (SessionLeft R)) (desk desk' desk'' : DeskView) (ss ss' ss'' : List (Session S K P C T B R)) (side : Side) (ends : EndsTold) (xs ys : List ℕ)
      → ((count : ℕ) → IsNext d count side ends → IsNext d' count side ends)
      → NotesStay setup d d' source sink desk desk' ss ss' xs → NotesVisit setup d' d'' source sink desk' desk'' ss' ss'' side ends ys → NotesVisit setup d d'' source sink desk desk'' ss ss'' side ends (xs ++ ys)
  visit_then d d' d'' desk desk' desk'' ss ss' ss'' side ends xs ys still first second start asked keeper count kept next =
      subst (λ l. AreServed start setup d'' l desk'' keeper source sink ss'') (append_assoc asked xs ys)
      (second start (asked ++ xs) keeper count (first start asked keeper count 1 kept) (still count next))
