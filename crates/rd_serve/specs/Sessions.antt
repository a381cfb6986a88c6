-- Sessions that run on threads of their own, beside what the doors tell.
use Rattle.std.specs.Prelude.{◌≡◌, ℕ, ◌==◌, ◌+◌, ◌≤◌, List, [], ◌∷◌, ◌++◌, length, map, Option, Some, None, Vec, vec_len, vec_capacity}
use Rattle.rd_base.specs.Outside.{SinkTold}
use Rattle.rd_base.specs.Sources.{SourceTold}
use Rattle.rd_base.specs.declared.values.Side.{Side}
use Rattle.rd_doors.specs.declared.visit.Ends.{Ends}
use Rattle.rd_doors.specs.Visits.{EndsTold, RunTold, Entry, Gave, AreFresh, ends_told, run_told}
use Rattle.rd_doors.specs.Calls.{DoorsTold}
use Rattle.rd_runner.specs.Runs.{Setup, Ran}
use Rattle.rd_runner.specs.Counts.{RoseBy, stopped, unstarted, late}
use Rattle.rd_run_session.specs.declared.left.SessionLeft.{SessionLeft}
use Rattle.rd_run_session.specs.CameTo.{CameTo}
use Rattle.rd_run_session.specs.Left.{summary_of}
use Rattle.rd_serve.specs.declared.session.Served.{Served}
use Rattle.rd_serve.specs.declared.session.Session.{Session}
use Rattle.rd_serve.specs.Serving.{Has, one_if}

-- P holds of each
abbrev pub Each : {X : Type 0} → (X → Type 0) → List X → Type 0
Each P [] = Unit {0}
Each P (x ∷ xs) = P x × Each P xs

-- how often a number stands here
abbrev pub times : ℕ → List ℕ → ℕ
times n [] = 0
times n (m ∷ ms) = one_if (m == n) + times n ms

-- how often a number is that of a visit that waits to be judged
abbrev pub times_waits : ℕ → Option ℕ → ℕ
times_waits n None = 0
times_waits n (Some m) = one_if (m == n)

-- how many visits wait to be judged
abbrev pub waits : Option ℕ → ℕ
waits None = 0
waits (Some m) = 1

module _ {S K P C T B R : Type 0} (source : S → SourceTold) (sink : K → SinkTold) where
  -- what a session's thread promises of what it gives, in terms of what it was handed, where its runner counted from 0
  pub record Keeps (setup : Setup) (side : Side) (ends : Ends S K) (served : Served S K P C T B R) : Type 0 where
    pub ran : Ran (CameTo S) setup side (ends_told source sink ends) (run_told source sink ends.number served.ended.run served.ended.sinks.items)
    pub yeses : RoseBy (stopped (summary_of served.ended.run.left.report).ending) 0 served.runner.yeses
    pub refusals : RoseBy (unstarted (summary_of served.ended.run.left.report).ending) 0 served.runner.refusals
    pub span : late (summary_of served.ended.run.left.report).last (summary_of served.ended.run.left.report).ending ≤ served.runner.span

  -- a session runs over a visit that the doors have told
  pub record IsOut (setup : Setup) (doors : DoorsTold (SessionLeft R)) (s : Session S K P C T B R) : Type 0 where
    pub held_to : s.handle.promise.runner.value.setup ≡ setup
    pub side : s.handle.promise.side ≡ s.side
    pub ends : s.handle.promise.ends.value ≡ s.ends.value
    pub number : s.ends.value.number ≡ s.number
    pub fresh : AreFresh setup.limits.copies (ends_told source sink s.ends.value)
    pub given : (told : List (Entry (SessionLeft R))) → doors.told ≡ Some told → Has (Gave s.side (ends_told source sink s.ends.value)) told

  -- the visits that are out are those of these sessions, and the one that waits to be judged
  pub record AreOut (setup : Setup) (doors : DoorsTold (SessionLeft R)) (waiting : Option ℕ) (sessions : List (Session S K P C T B R)) : Type 0 where
    pub each : Each (λ s. IsOut setup doors s) sessions
    pub same : (n : ℕ) → times n doors.out ≡ times_waits n waiting + times n (map (λ s. s.number) sessions)
    pub count : length doors.out ≡ waits waiting + length sessions

-- what is told now is what was told before, and maybe more
pub record Goes {L : Type 0} (before : Option (List (Entry L))) (told : List (Entry L)) : Type 0 where
  pub was : List (Entry L)
  pub more : List (Entry L)
  pub had : before ≡ Some was
  pub is : was ++ more ≡ told

-- what was told is still told
abbrev pub KeepsTold : {L : Type 0} → DoorsTold L → DoorsTold L → Type 0
KeepsTold {L} before after = (told : List (Entry L)) → after.told ≡ Some told → Goes before.told told

-- 32 flags, each of a session or free
pub record HasRoom {X A Y B : Type 0} (sessions : Vec X A) (flags : Vec Y B) : Type 0 where
  pub count : vec_len sessions + vec_len flags ≡ 32
  pub sessions_room : 32 ≤ vec_capacity sessions
  pub flags_room : 32 ≤ vec_capacity flags
