-- The runs that came back, beside the counts of who ran them.
use Rattle.std.proofs.Common.{◌≡◌, ℕ, ◌+◌, ◌-◌, ◌^◌, ◌≤◌, ◌<◌, min, List, [], ◌∷◌, ◌++◌, ◌⊎◌, inl, inr, Some, sym, ◌∙◌, subst, arith}
use Rattle.std.proofs.lemmas.Bool.{cases_lt}
use Rattle.rd_base.specs.Counts.{sum_counted}
use Rattle.rd_doors.specs.Visits.{RunTold, Entry, Gave, GaveOperator, CameBack, TurnedAway, CameFromOperator, entries_with}
use Rattle.rd_doors.specs.Calls.{DoorsTold}
use Rattle.rd_run_session.specs.declared.left.SessionLeft.{SessionLeft}
use Rattle.rd_run_session.specs.Left.{summary_of}
use Rattle.rd_runner.specs.Counts.{RunnerTold, RoseBy, Runs, TakesIn, stopped, unstarted, late}
use Rattle.rd_serve.specs.Counting.{CountedBy, EachRun, IsWithin, sum_runs, times_stopped, times_unstarted}
use Rattle.rd_serve.proofs.Telling.{told_more}

-- ---- sums and all runs, one entry more

sum_more : {L : Type 0} (f : L → ℕ) (t : List (Entry L)) (e : Entry L) → sum_runs f (t ++ e ∷ []) ≡ sum_runs f (e ∷ []) + sum_runs f t
sum_more f [] e = omega arith
sum_more f (Gave side ends ∷ t) e = sum_more f t e
sum_more f (GaveOperator source sink ∷ t) e = sum_more f t e
sum_more f (CameBack run ∷ t) e = let more = sum_more f t e in omega arith
sum_more f (TurnedAway ends ∷ t) e = sum_more f t e
sum_more f (CameFromOperator source sink end ∷ t) e = sum_more f t e

each_run_more : {L : Type 0} (P : L → Type 0) (t : List (Entry L)) (e : Entry L) → EachRun P t → EachRun P (e ∷ []) → EachRun P (t ++ e ∷ [])
each_run_more P [] e each last = last
each_run_more P (Gave side ends ∷ t) e each last = each_run_more P t e each last
each_run_more P (GaveOperator source sink ∷ t) e each last = each_run_more P t e each last
each_run_more P (CameBack run ∷ t) e each last = (each.0, each_run_more P t e each.1 last)
each_run_more P (TurnedAway ends ∷ t) e each last = each_run_more P t e each last
each_run_more P (CameFromOperator source sink end ∷ t) e each last = each_run_more P t e each last

pub each_run_kept : {L : Type 0} (P Q : L → Type 0) → ((l : L) → P l → Q l) → (t : List (Entry L)) → EachRun P t → EachRun Q t
each_run_kept P Q more [] each = tt
each_run_kept P Q more (Gave side ends ∷ t) each = each_run_kept P Q more t each
each_run_kept P Q more (GaveOperator source sink ∷ t) each = each_run_kept P Q more t each
each_run_kept P Q more (CameBack run ∷ t) each = (more run.left each.0, each_run_kept P Q more t each.1)
each_run_kept P Q more (TurnedAway ends ∷ t) each = each_run_kept P Q more t each
each_run_kept P Q more (CameFromOperator source sink end ∷ t) each = each_run_kept P Q more t each

-- ---- a count that rose again

capped_by : (a has : ℕ) → (a < 2 ^ 64 - 1) ⊎ (2 ^ 64 - 1 ≤ a) → has ≡ min a (2 ^ 64 - 1) → (has ≡ a) ⊎ (2 ^ 64 - 1 ≤ has)
capped_by a has (inl less) is = inl (omega arith)
capped_by a has (inr more) is = inr (omega arith)

capped : (a has : ℕ) → has ≡ min a (2 ^ 64 - 1) → (has ≡ a) ⊎ (2 ^ 64 - 1 ≤ has)
capped a has is = capped_by a has (cases_lt a (2 ^ 64 - 1)) is

joined_by : (n m base had other has : ℕ) → (has ≡ had + other) ⊎ (2 ^ 64 - 1 ≤ has) → RoseBy m 0 other → RoseBy n base had → RoseBy (m + n) base has
joined_by n m base had other has (inl is) (inl by) (inl fits) = inl (omega arith)
joined_by n m base had other has (inr last) by fits = inr last
joined_by n m base had other has (inl is) (inr last) fits = inr (omega arith)
joined_by n m base had other has (inl is) (inl by) (inr last) = inr (omega arith)

rose_again : (n m base had has : ℕ) → RoseBy m had has → RoseBy n base had → had ≤ has → RoseBy (m + n) base has
rose_again n m base had has (inl by) (inl fits) more = inl (omega arith)
rose_again n m base had has (inl by) (inr last) more = inr (omega arith)
rose_again n m base had has (inr last) fits more = inr last

-- ---- what was told, one run or one other entry more

run_sum : {L : Type 0} (f : L → ℕ) (run : RunTold L) (was : List (Entry L)) → sum_runs f (was ++ CameBack run ∷ []) ≡ f run.left + sum_runs f was
run_sum f run was = let more = sum_more f was (CameBack run) in omega arith

quiet_sum : {L : Type 0} (f : L → ℕ) (e : Entry L) (was : List (Entry L)) → sum_runs f (e ∷ []) ≡ 0 → sum_runs f (was ++ e ∷ []) ≡ sum_runs f was
quiet_sum f e was none = let more = sum_more f was e in omega arith

joined : (n m base had other has : ℕ) → RoseBy m 0 other → RoseBy n base had → has ≡ sum_counted had other → RoseBy (m + n) base has
joined n m base had other has by fits is = joined_by n m base had other has (capped (had + other) has is) by fits

joined_more : {L : Type 0} (f : L → ℕ) (run : RunTold L) (was : List (Entry L)) (base had other has : ℕ) → RoseBy (f run.left) 0 other
    → RoseBy (sum_runs f was) base had → has ≡ sum_counted had other → RoseBy (sum_runs f (was ++ CameBack run ∷ [])) base has
joined_more f run was base had other has by fits is =
    subst (λ n. RoseBy n base has) (sym (run_sum f run was))
    (joined (sum_runs f was) (f run.left) base had other has by fits is)

run_more : {L : Type 0} (f : L → ℕ) (run : RunTold L) (was : List (Entry L)) (base had has : ℕ) → RoseBy (f run.left) had has → had ≤ has
    → RoseBy (sum_runs f was) base had → RoseBy (sum_runs f (was ++ CameBack run ∷ [])) base has
run_more f run was base had has by more fits =
    subst (λ n. RoseBy n base has) (sym (run_sum f run was)) (rose_again (sum_runs f was) (f run.left) base had has by fits more)

quiet_more : {L : Type 0} (f : L → ℕ) (e : Entry L) (was : List (Entry L)) (base now : ℕ) → sum_runs f (e ∷ []) ≡ 0
    → RoseBy (sum_runs f was) base now → RoseBy (sum_runs f (was ++ e ∷ [])) base now
quiet_more f e was base now none fits = subst (λ n. RoseBy n base now) (sym (quiet_sum f e was none)) fits

module _ {R : Type 0} where
  -- a run more, by who ran it beside this one
  pub counted_joined : (first other before after : RunnerTold) (d d' : DoorsTold (SessionLeft R)) (run : RunTold (SessionLeft R))
      → CountedBy first before d → d'.told ≡ entries_with (Some (CameBack run)) d.told → TakesIn other before after
      → RoseBy (stopped (summary_of run.left.report).ending) 0 other.yeses
      → RoseBy (unstarted (summary_of run.left.report).ending) 0 other.refusals
      → late (summary_of run.left.report).last (summary_of run.left.report).ending ≤ other.span
      → CountedBy first after d'
  counted_joined first other before after d d' run had told takes yeses refusals span = record {
    setup = takes.setup ∙ had.setup;
    yeses = λ t is. told_more (λ t. RoseBy (times_stopped t) first.yeses after.yeses) (CameBack run) d.told t (sym told ∙ is)
        (λ was had_told. joined_more (λ (l : SessionLeft R). stopped (summary_of l.report).ending) run was first.yeses before.yeses other.yeses after.yeses yeses (had.yeses was had_told) takes.yeses);
    refusals = λ t is. told_more (λ t. RoseBy (times_unstarted t) first.refusals after.refusals) (CameBack run) d.told t (sym told ∙ is)
        (λ was had_told. joined_more (λ (l : SessionLeft R). unstarted (summary_of l.report).ending) run was first.refusals before.refusals other.refusals after.refusals refusals (had.refusals was had_told) takes.refusals);
    span = λ t is. told_more (λ t. EachRun (IsWithin after.span) t) (CameBack run) d.told t (sym told ∙ is)
        (λ was had_told. each_run_more (IsWithin after.span) was (CameBack run)
        (each_run_kept (IsWithin before.span) (IsWithin after.span) (λ l within. let now = takes.span in omega arith) was (had.span was had_told))
        (let now = takes.span in omega arith, tt));
  }

  -- a run more, by this one
  pub counted_run : (first before after : RunnerTold) (d d' : DoorsTold (SessionLeft R)) (run : RunTold (SessionLeft R))
      → CountedBy first before d → d'.told ≡ entries_with (Some (CameBack run)) d.told → Runs (summary_of run.left.report) before after
      → CountedBy first after d'
  counted_run first before after d d' run had told runs = record {
    setup = runs.setup ∙ had.setup;
    yeses = λ t is. told_more (λ t. RoseBy (times_stopped t) first.yeses after.yeses) (CameBack run) d.told t (sym told ∙ is)
        (λ was had_told. run_more (λ (l : SessionLeft R). stopped (summary_of l.report).ending) run was first.yeses before.yeses after.yeses runs.yeses runs.yeses_stay (had.yeses was had_told));
    refusals = λ t is. told_more (λ t. RoseBy (times_unstarted t) first.refusals after.refusals) (CameBack run) d.told t (sym told ∙ is)
        (λ was had_told. run_more (λ (l : SessionLeft R). unstarted (summary_of l.report).ending) run was first.refusals before.refusals after.refusals runs.refusals runs.refusals_stay (had.refusals was had_told));
    span = λ t is. told_more (λ t. EachRun (IsWithin after.span) t) (CameBack run) d.told t (sym told ∙ is)
        (λ was had_told. each_run_more (IsWithin after.span) was (CameBack run)
        (each_run_kept (IsWithin before.span) (IsWithin after.span) (λ l within. let now = runs.span in omega arith) was (had.span was had_told))
        (runs.latest, tt));
  }

  -- another entry than a run
  pub counted_quiet : (first now : RunnerTold) (d d' : DoorsTold (SessionLeft R)) (e : Entry (SessionLeft R))
      → CountedBy first now d → d'.told ≡ entries_with (Some e) d.told
      → ((f : SessionLeft R → ℕ) → sum_runs f (e ∷ []) ≡ 0) → ((P : SessionLeft R → Type 0) → EachRun P (e ∷ []))
      → CountedBy first now d'
  counted_quiet first now d d' e had told none no_run = record {
    setup = had.setup;
    yeses = λ t is. told_more (λ t. RoseBy (times_stopped t) first.yeses now.yeses) e d.told t (sym told ∙ is)
        (λ was had_told. quiet_more (λ (l : SessionLeft R). stopped (summary_of l.report).ending) e was first.yeses now.yeses (none (λ (l : SessionLeft R). stopped (summary_of l.report).ending)) (had.yeses was had_told));
    refusals = λ t is. told_more (λ t. RoseBy (times_unstarted t) first.refusals now.refusals) e d.told t (sym told ∙ is)
        (λ was had_told. quiet_more (λ (l : SessionLeft R). unstarted (summary_of l.report).ending) e was first.refusals now.refusals (none (λ (l : SessionLeft R). unstarted (summary_of l.report).ending)) (had.refusals was had_told));
    span = λ t is. told_more (λ t. EachRun (IsWithin now.span) t) e d.told t (sym told ∙ is)
        (λ was had_told. each_run_more (IsWithin now.span) was e (had.span was had_told) (no_run (IsWithin now.span)));
  }

  pub counted_same : (first now : RunnerTold) (d d' : DoorsTold (SessionLeft R)) → CountedBy first now d → d'.told ≡ d.told → CountedBy first now d'
  counted_same first now d d' had told = record {
    setup = had.setup;
    yeses = λ t is. had.yeses t (sym told ∙ is);
    refusals = λ t is. had.refusals t (sym told ∙ is);
    span = λ t is. had.span t (sym told ∙ is);
  }
