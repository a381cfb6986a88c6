-- Counts of a serving that are taken in, and a serving that gave no visit.
use Rattle.std.proofs.Common.{◌≡◌, ℕ, ◌+◌, ◌-◌, ◌^◌, ◌≤◌, ◌<◌, min, max, List, [], ◌⊎◌, inl, inr, refl, sym, ap, ◌∙◌, subst, arith}
use Rattle.std.proofs.lemmas.Bool.{cases_lt}
use Rattle.rd_base.specs.Clocks.{ClockTold}
use Rattle.rd_base.specs.Counts.{sum_counted}
use Rattle.rd_doors.specs.Visits.{Entry}
use Rattle.rd_keeper.specs.Keeping.{KeeperTold}
use Rattle.rd_desk.specs.Desk.{DeskView, Start, IsAt, Opens}
use Rattle.rd_desk.specs.Noted.{start_over}
use Rattle.rd_runner.specs.Counts.{RoseBy}
use Rattle.rd_runner.specs.Runs.{Setup}
use Rattle.rd_run_session.specs.CameTo.{CameTo}
use Rattle.rd_run_session.specs.Counted.{capped}
use Rattle.rd_run_session.specs.declared.left.SessionLeft.{SessionLeft}
use Rattle.rd_serve.specs.Counting.{EachRun, IsWithin, times_stopped, times_unstarted}
use Rattle.rd_serve.specs.Operators.{Answering, NotesAndAnswers, AllNoted}
use Rattle.rd_serve.specs.Serving.{IsServed, times_given, times_ended}
use Rattle.rd_serve.proofs.Counted.{each_run_kept}

-- ---- a count that another one's was added to

rose_by : (n had other has : ℕ) → (had + other < 2 ^ 64 - 1) ⊎ (2 ^ 64 - 1 ≤ had + other) → has ≡ min (had + other) (2 ^ 64 - 1) → RoseBy n 0 other → RoseBy n had has
rose_by n had other has (inl less) is (inl by) = inl (omega arith)
rose_by n had other has (inl less) is (inr last) = inr (omega arith)
rose_by n had other has (inr more) is by = inr (omega arith)

pub rose_with : (n had other has : ℕ) → RoseBy n 0 other → has ≡ sum_counted had other → RoseBy n had has
rose_with n had other has by is = rose_by n had other has (cases_lt (had + other) (2 ^ 64 - 1)) is by

uncapped_by : (n other : ℕ) → (other < 2 ^ 64 - 1) ⊎ (2 ^ 64 - 1 ≤ other) → RoseBy n 0 (capped other) → RoseBy n 0 other
uncapped_by n other (inl less) (inl by) = inl (omega arith)
uncapped_by n other (inl less) (inr last) = inr (omega arith)
uncapped_by n other (inr more) by = inr more

-- the same where the other one's is known up to its last value
pub rose_with_capped : (n had other has refusals : ℕ) → RoseBy n 0 refusals → capped other ≡ refusals → has ≡ sum_counted had other → RoseBy n had has
rose_with_capped n had other has refusals by told is =
    rose_with n had other has (uncapped_by n other (cases_lt other (2 ^ 64 - 1)) (subst (λ r. RoseBy n 0 r) (sym told) by)) is

module _ {R : Type 0} where
  -- a span that is no less
  pub late_with : (span more : ℕ) (told : List (Entry (SessionLeft R))) → span ≤ more → EachRun (IsWithin span) told → EachRun (IsWithin more) told
  late_with span more told less each = each_run_kept (IsWithin span) (IsWithin more) (λ l within. omega arith) told each

  -- ---- where nothing was told

  pub none_served : (S : Type 0) (setup : Setup) (told : List (Entry (SessionLeft R))) → told ≡ [] → IsServed (CameTo S) setup told
  none_served S setup told is = subst (λ t. IsServed (CameTo S) setup t) (sym is) tt

  pub none_ended : (told : List (Entry (SessionLeft R))) → told ≡ [] → (n : ℕ) → times_given n told ≡ times_ended n told
  none_ended told is n = subst (λ t. times_given n t ≡ times_ended n t) (sym is) refl

  pub none_stopped : (count : ℕ) (told : List (Entry (SessionLeft R))) → told ≡ [] → RoseBy (times_stopped told) count count
  none_stopped count told is = subst (λ t. RoseBy (times_stopped t) count count) (sym is) (inl (omega arith))

  pub none_unstarted : (count : ℕ) (told : List (Entry (SessionLeft R))) → told ≡ [] → RoseBy (times_unstarted told) count count
  none_unstarted count told is = subst (λ t. RoseBy (times_unstarted t) count count) (sym is) (inl (omega arith))

  pub none_late : (span : ℕ) (told : List (Entry (SessionLeft R))) → told ≡ [] → EachRun (IsWithin span) told
  none_late span told is = subst (λ t. EachRun (IsWithin span) t) (sym is) tt

  -- ---- notes over a keeper that tells its notes

  pub all_noted : (setup : Setup) (told : List (Entry (SessionLeft R))) (desk : DeskView) (clock served_by joined : ClockTold) (keeper opened ended : KeeperTold)
      → Opens desk keeper → IsAt (record { keeper = keeper; greatest = desk.board.drawn }) [] desk opened → joined.answers ≡ served_by.answers
      → ((start : Start) → IsAt start [] desk opened → Answering (λ asked. NotesAndAnswers setup start asked told ended) clock served_by)
      → AllNoted setup told clock joined keeper ended
  all_noted setup told desk clock served_by joined keeper opened ended opens at same serves notes has =
      let noted = serves (start_over keeper notes) (subst (λ n. IsAt (record { keeper = keeper; greatest = n }) [] desk opened) (opens.greatest notes has) at) in
      record { more = noted.more; are = same ∙ noted.are; holds = noted.holds }
