-- A run ends as a link's fault only where the count of that link's source or sink rose.
use Rattle.std.specs.Prelude.{◌≡◌, ℕ, ◌+◌, ◌<◌, ◌||◌, Bool, true, false, List, [], ◌∷◌, length, Option, Some, None, ◌⊎◌}
use Rattle.std.specs.List.{list_any}
use Rattle.std.proofs.Common.{refl, sym, ap, ◌∙◌, subst, arith, inl, inr}
use Rattle.rd_base.specs.Outside.{SinkTold}
use Rattle.rd_base.specs.Sources.{SourceTold}
use Rattle.rd_base.specs.History.{History, Row, read_fails, write_fails}
use Rattle.rd_base.specs.declared.values.Ending.TheVariants as ending
use Rattle.rd_base.specs.declared.values.Link.{Link}
use Rattle.rd_rules.specs.Exchange.{Rules}
use Rattle.rd_rules.specs.Sent.{final}
use Rattle.rd_rules.specs.Trouble.{fails}
use Rattle.rd_gate.specs.Gate.{of}
use Rattle.rd_gate.specs.declared.item.Item.{Item}
use Rattle.rd_gate.specs.declared.gate.View.{View}
use Rattle.rd_turn.specs.declared.log.LogEntry.{LogEntry}
use Rattle.rd_turn.specs.declared.running.Over.{Over}
use Rattle.rd_turn.specs.Turns.{Turn, Outside, history_of}
use Rattle.rd_turn.specs.Sinks.{sink_at}
use Rattle.rd_turn.specs.Runs.{EndsBy}
use Rattle.rd_run.specs.Ran.{SessionRan, LinkRead, over_by}
use Rattle.rd_run.specs.Links.{LinkDone, LinksDone}
use Rattle.rd_run.specs.Whole.{RunsWith, may_stay, taken_of, taken_in}
use Rattle.rd_run.specs.declared.run.Run.{Run}
use Rattle.rd_run.specs.declared.session.Left.{Left}
use Rattle.rd_run_laws.specs.Causes.{RoseToLast, LinkFailed, LinkFaultsHaveCauses, source_at}
use Rattle.rd_run_laws.proofs.Endings.{only_faults}
use Rattle.rd_run_laws.proofs.Faults.{drawn_says, write_fails_have_faults}
use Rattle.rd_run_laws.proofs.FailedReads.{has_fail, or_true, drawn_fails, read_rose, link_at}

-- ---- a session

-- its history ends as it does
ends_so : (r : Rules) (base : ℕ) (turns given_up : List Turn) (over : Over) → EndsBy r base (history_of base turns) given_up over → (l : Link) → over.ending ≡ ending.LinkFault l
    → final r (history_of base turns) ≡ Some (ending.LinkFault l)
ends_so r base turns [] over ends l is = ends.0 ∙ ap Some is
ends_so r base turns (t ∷ more) over ends l is = absurd (cc (sym ends.0 ∙ is))

either : (l : ℕ) (h : History) → list_any (λ e. fails l e.what) h ≡ true
    → (list_any (λ e. read_fails l e.what) h ≡ true) ⊎ (list_any (λ e. write_fails l e.what) h ≡ true)
either l [] any = inl any
either l (e ∷ h) any = elim (or_true (fails l e.what) (list_any (λ x. fails l x.what) h) any) [
  | inl here ↦ first (read_fails l e.what) (write_fails l e.what) here
  | inr later ↦ elim (either l h later) [
    | inl reads ↦ inl (behind (read_fails l e.what) (list_any (λ x. read_fails l x.what) h) reads)
    | inr writes ↦ inr (behind (write_fails l e.what) (list_any (λ x. write_fails l x.what) h) writes)
  ]
]
  where
    first : (a b : Bool) → (a || b) ≡ true → ((a || list_any (λ x. read_fails l x.what) h) ≡ true) ⊎ ((b || list_any (λ x. write_fails l x.what) h) ≡ true)
    first true b is = inl refl
    first false true is = inr refl
    first false false is = inl (absurd (cc is))

    behind : (a b : Bool) → b ≡ true → (a || b) ≡ true
    behind true b is = refl
    behind false b is = is

-- of the link at fault a failed read was taken, or the count of its sink rose
record AtFault (r : Rules) (taken : List Item) (olds news : List SinkTold) (l : ℕ) : Type 0 where
  pub is_link : l < r.limits.copies + 1
  pub cause : (has_fail taken ≡ true) ⊎ RoseToLast (sink_at olds l).faults (sink_at news l).faults

session_fault : (r : Rules) (before after : Outside) (entries : List LogEntry) (told : List Row) (result : Left) (olds news : List SinkTold)
    → SessionRan r before after entries told result olds news → (l : Link) → result.ending ≡ ending.LinkFault l → AtFault r (of l.0 after.gate.taken) olds news l.0
session_fault r before after entries told result olds news ran l is =
    let h = ran.history in
    let left : ℕ → List Item = λ m. of m after.gate.taken in
    let fault = only_faults r (history_of ran.base h.turns) l (ends_so r ran.base h.turns h.given_up (over_by result ran.back) h.truly.ends l is) in
    record {
      is_link = fault.0;
      cause = elim (either l.0 (history_of ran.base h.turns) fault.1) [
        | inl reads ↦ inl (drawn_fails l.0 entries left told (ap (list_any (λ e. read_fails l.0 e.what)) h.is ∙ reads))
        | inr writes ↦ inr (write_fails_have_faults r before after entries told result olds news ran l.0
            (sym (drawn_says l.0 entries left told) ∙ ap (list_any (λ e. write_fails l.0 e.what)) h.is ∙ writes))
      ];
    }

-- ---- a run

module _ {S R : Type 0} where
  read_of : (run : Run S R) (v : View) (l : Link) (xs ys : List SourceTold) → run.report.log.pass ≡ Some v → run.report.ending ≡ ending.LinkFault l
      → LinkDone (may_stay run) (taken_in run l.0) (source_at xs l.0) (source_at ys l.0) → LinkRead (of l.0 v.taken) (source_at xs l.0) (source_at ys l.0)
  read_of run v l xs ys pass is (inl read) = subst (λ items. LinkRead items (source_at xs l.0) (source_at ys l.0)) (ap (λ p. taken_of p l.0) pass) read
  read_of run v l xs ys pass is (inr (inl unstarted, none, same)) = absurd (cc (sym unstarted ∙ is))
  read_of run v l xs ys pass is (inr (inr unmade, none, same)) = absurd (cc (sym unmade ∙ pass))

  by_pass : (r : Rules) (before after : View → Outside) (refusals refusals' : ℕ) (p : Option View) (run : Run S R) (xs ys : List SourceTold) (olds news : List SinkTold)
      → ((v : View) → (after v).gate ≡ v) → length xs ≡ r.limits.copies + 1 → run.report.log.pass ≡ p
      → RunsWith r before after refusals refusals' p run olds news → LinksDone (may_stay run) (taken_in run) 0 xs ys
      → (l : Link) → run.report.ending ≡ ending.LinkFault l → LinkFailed l.0 xs ys olds news
  by_pass r before after refusals refusals' None run xs ys olds news gate size pass unmade done l is = absurd (cc (sym unmade.end ∙ is))
  by_pass r before after refusals refusals' (Some v) run xs ys olds news gate size pass (inl unstarted) done l is = absurd (cc (sym unstarted.end ∙ is))
  by_pass r before after refusals refusals' (Some v) run xs ys olds news gate size pass (inr through) done l is =
      let fault = session_fault r (before _) (after v) run.report.log.entries run.report.told _ olds news through.session l is in
      let inside = fault.is_link in
      let here = link_at (may_stay run) (taken_in run) 0 l.0 xs ys done (omega (arith, size, inside)) in
      let read = read_of run v l xs ys pass is
      (subst (λ n. LinkDone (may_stay run) (taken_in run n) (source_at xs l.0) (source_at ys l.0)) (let e : 0 + l.0 ≡ l.0 = omega arith in e) here) in
      elim fault.cause [
        | inl failed ↦ inl (read_rose (of l.0 v.taken) (source_at xs l.0) (source_at ys l.0) read (ap (λ (w : View). has_fail (of l.0 w.taken)) (sym (gate v)) ∙ failed))
        | inr rose ↦ inr rose
      ]

pub link_faults_have_causes : (S R : Type 0) → LinkFaultsHaveCauses S R
link_faults_have_causes S R r before after refusals refusals' run xs ys olds news gate size runs done =
    by_pass r before after refusals refusals' run.report.log.pass run xs ys olds news gate size refl runs done
