-- A run that came back as a link's fault is that of a visit whose link failed.
use Rattle.std.specs.Prelude.{◌≡◌, ℕ, zero, suc, ◌+◌, List, [], ◌∷◌, ◌++◌, length}
use Rattle.std.proofs.Common.{refl, sym, ap, ◌∙◌, subst, arith, inl, inr, length-append, append-nil, append_assoc}
use Rattle.std.proofs.lemmas.List.{length-map}
use Rattle.rd_base.specs.Words.{below}
use Rattle.rd_base.specs.Sources.{SourceTold}
use Rattle.rd_base.specs.declared.values.Side.{Side}
use Rattle.rd_doors.specs.Visits.{EndsTold, RunTold, Entry, Gave, CameBack, AreFresh}
use Rattle.rd_run.specs.Whole.{rules_on}
use Rattle.rd_run.specs.declared.run.Report.{Report}
use Rattle.rd_runner.specs.Runs.{Setup}
use Rattle.rd_run_session.specs.CameTo.{CameTo}
use Rattle.rd_run_session.specs.Dialects.{grammar_on}
use Rattle.rd_run_laws.specs.Causes.{LinkFaultsHaveCauses}
use Rattle.rd_serve.specs.Serving.{Has, IsRight, EachRight, IsServed}
use Rattle.rd_served_laws.specs.Causes.{VisitFaultsHaveCauses, ServedFaultsHaveCauses}

-- ---- the run of one visit

below_length : (n : ℕ) → length (below n) ≡ n
below_length zero = refl
below_length (suc n) = length-append (below n) (n ∷ []) ∙ (let e = below_length n in omega (arith, e))

sources_many : (copies : ℕ) (ends : EndsTold) → AreFresh copies ends → length ends.sources ≡ copies + 1
sources_many copies ends fresh =
    sym (length-map ends.sources (λ (s : SourceTold). s.mark)) ∙ ap length fresh.source_marks
    ∙ length-map (below (suc copies)) (λ l. record { first = ends.number; second = l }) ∙ below_length (suc copies) ∙ omega arith

pub visit_faults : (S R : Type 0) → LinkFaultsHaveCauses S R → VisitFaultsHaveCauses S R
visit_faults S R law setup side ends run l fresh ran is =
    let came = ran.came_to in
    law (rules_on side (grammar_on side setup) setup.limits) came.before came.after came.refusals came.refusals_after came.run
    ends.sources run.sources ends.sinks run.sinks came.gate (sources_many setup.limits.copies ends fresh) came.ran came.links l
    (ap (λ (r : Report R). r.ending) came.report ∙ is)

-- ---- the runs that came back from serving

module _ {L : Type 0} (by : Setup → Side → EndsTold → RunTold L → Type 0) (setup : Setup) where
  -- each visit was given unused
  given_fresh : (side : Side) (ends : EndsTold) (seen told : List (Entry L)) → EachRight by setup seen told → Has (Gave side ends) told → AreFresh setup.limits.copies ends
  given_fresh side ends seen [] right has = absurd has
  given_fresh side ends seen (e ∷ es) right (inl same) = (subst (IsRight by setup seen) same right.0).1
  given_fresh side ends seen (e ∷ es) right (inr later) = given_fresh side ends (seen ++ e ∷ []) es right.1 later

  -- what stands among the first stands among all
  has_more : (e : Entry L) (front more : List (Entry L)) → Has e front → Has e (front ++ more)
  has_more e [] more has = absurd has
  has_more e (x ∷ front) more (inl same) = inl same
  has_more e (x ∷ front) more (inr later) = inr (has_more e front more later)

  right_at : (seen front : List (Entry L)) (e : Entry L) (after : List (Entry L)) → EachRight by setup seen (front ++ e ∷ after) → IsRight by setup (seen ++ front) e
  right_at seen [] e after right = subst (λ es. IsRight by setup es e) (sym (append-nil seen)) right.0
  right_at seen (x ∷ front) e after right = subst (λ es. IsRight by setup es e) (append_assoc seen (x ∷ []) front) (right_at (seen ++ x ∷ []) front e after right.1)

pub served_faults : (S R : Type 0) → LinkFaultsHaveCauses S R → ServedFaultsHaveCauses S R
served_faults S R law setup told before after run l served split is =
    let right = subst (λ es. IsServed (CameTo S) setup es) split served in
    let visit = (right_at (CameTo S) setup [] before (CameBack run) after right).1 in
    record {
      visit = visit;
      failed = visit_faults S R law setup visit.side visit.ends run l
          (given_fresh (CameTo S) setup visit.side visit.ends [] (before ++ CameBack run ∷ after) right
          (has_more (CameTo S) setup (Gave visit.side visit.ends) before (CameBack run ∷ after) visit.given)) visit.ran is;
    }
