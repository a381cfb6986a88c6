-- What a desk has of a serving that goes on.
use Rattle.std.specs.Prelude.{◌≡◌, ℕ, ◌+◌, ◌-◌, ◌^◌, ◌≤◌, min, max, List, [], ◌∷◌, ◌++◌, length, Option, Some, IfSome, option_to_list}
use Rattle.rd_base.specs.declared.session_note.SessionNote.{SessionNote}
use Rattle.rd_base.specs.declared.values.Side.{Side}
use Rattle.rd_base.specs.Outside.{SinkTold}
use Rattle.rd_base.specs.Sources.{SourceTold}
use Rattle.rd_doors.specs.Visits.{EndsTold, Entry, Holds, ends_told}
use Rattle.rd_doors.specs.Calls.{DoorsTold}
use Rattle.rd_keeper.specs.Keeping.{KeeperTold}
use Rattle.rd_desk.specs.declared.session.Begun.{Begun}
use Rattle.rd_desk.specs.Desk.{DeskView, Start}
use Rattle.rd_desk.specs.Noted.{HasNoted}
use Rattle.rd_runner.specs.Runs.{Setup}
use Rattle.rd_run_session.specs.declared.left.SessionLeft.{SessionLeft}
use Rattle.rd_serve.specs.declared.session.Session.{Session}
use Rattle.rd_serve.specs.Notes.{visits, turned, IsPlaced, HasIds, AreNotesOf, id_at}
use Rattle.rd_serve.specs.Operators.{AllAnswered}
use Rattle.rd_serve.specs.Sessions.{Each, times}

-- ---- ids of sessions that run

-- the ids of the sessions that have one
abbrev pub ids_of : {S K P C T B R : Type 0} → List (Session S K P C T B R) → List ℕ
ids_of [] = []
ids_of (s ∷ ss) = option_to_list s.begun.id ++ ids_of ss

-- an id can be kept
abbrev pub IsKeepable : Begun → Type 0
IsKeepable begun = IfSome begun.id (λ id. id ≤ 2 ^ 63 - 1)

-- the ids of a desk are those of these sessions
pub record AreLive {S K P C T B R : Type 0} (ids : List ℕ) (sessions : List (Session S K P C T B R)) : Type 0 where
  pub each : Each (λ s. IsKeepable s.begun) sessions
  pub same : (n : ℕ) → times n ids ≡ times n (ids_of sessions)
  pub count : length ids ≡ length (ids_of sessions)

-- ---- notes of those that ran

-- the session of this visit has the id of its visit's place
pub record HasId {L : Type 0} (start : Start) (id : Option ℕ) (side : Side) (ends : EndsTold) (told : List (Entry L)) : Type 0 where
  pub place : ℕ
  pub is : id ≡ id_at start.greatest place
  pub placed : IsPlaced place side ends told

-- the session of this visit has begun, at one of these answers of the clock
pub record IsBegun {L : Type 0} (start : Start) (doors : DoorsTold L) (asked : List ℕ) (begun : Begun) (side : Side) (ends : EndsTold) : Type 0 where
  pub id : (told : List (Entry L)) → doors.told ≡ Some told → HasId start begun.id side ends told
  pub at : Holds begun.at asked

-- the visit is the next one behind so many that weren't turned away
abbrev pub IsNext : {L : Type 0} → DoorsTold L → ℕ → Side → EndsTold → Type 0
IsNext {L} doors count side ends = (told : List (Entry L)) → doors.told ≡ Some told → IsPlaced (count + 1) side ends told

-- the id drawn last, once so many visits had theirs
abbrev pub last_drawn : ℕ → ℕ → ℕ
last_drawn greatest count = max greatest (min (greatest + count) (2 ^ 63 - 1))

module _ {R : Type 0} (start : Start) (setup : Setup) (doors : DoorsTold (SessionLeft R)) (asked : List ℕ) (desk : DeskView) (keeper : KeeperTold) (count wait : ℕ) where
  -- the desk's notes are what the runs that came back left; so many visits weren't turned away, and so many more wait
  pub record AreNoted : Type 0 where
    pub notes : List SessionNote
    pub has : HasNoted start notes desk keeper
    pub drawn : desk.board.drawn ≡ last_drawn start.greatest count
    pub counts : (told : List (Entry (SessionLeft R))) → doors.told ≡ Some told → count + turned told + wait ≡ visits told
    pub of_runs : (told : List (Entry (SessionLeft R))) → doors.told ≡ Some told → AreNotesOf setup start asked told notes
    pub operators : (told : List (Entry (SessionLeft R))) → doors.told ≡ Some told → HasIds start told
        → AllAnswered setup start asked desk.board.unkept told

  -- the desk's notes, and the sessions that have begun
  pub record AreKept {S K P C T B : Type 0} (source : S → SourceTold) (sink : K → SinkTold) (sessions : List (Session S K P C T B R)) : Type 0 where
    pub noted : AreNoted
    pub begun : Each (λ s. IsBegun start doors asked s.begun s.side (ends_told source sink s.ends.value)) sessions

-- the same, whatever the number of visits, where none waits
pub record AreServed {S K P C T B R : Type 0} (start : Start) (setup : Setup) (doors : DoorsTold (SessionLeft R)) (asked : List ℕ) (desk : DeskView) (keeper : KeeperTold) (source : S → SourceTold) (sink : K → SinkTold) (sessions : List (Session S K P C T B R)) : Type 0 where
  pub count : ℕ
  pub kept : AreKept start setup doors asked desk keeper count 0 source sink sessions

-- ---- what calls keep

module _ {R : Type 0} (setup : Setup) (before after : DoorsTold (SessionLeft R)) where
  -- the notes go on over the run of a visit whose session has begun, by further answers of the clock
  abbrev pub NotesRun : Begun → Side → EndsTold → DeskView → DeskView → List ℕ → Type 0
  NotesRun begun side ends desk desk_after more =
      (start : Start) (asked : List ℕ) (keeper : KeeperTold) (count wait : ℕ)
      → AreNoted start setup before asked desk keeper count wait → IsBegun start before asked begun side ends
      → AreNoted start setup after (asked ++ more) desk_after keeper count wait

  module _ {S K P C T B : Type 0} (source : S → SourceTold) (sink : K → SinkTold) (desk desk_after : DeskView) (sessions sessions_after : List (Session S K P C T B R)) where
    -- they go on while runs come back
    abbrev pub NotesStay : List ℕ → Type 0
    NotesStay more =
        (start : Start) (asked : List ℕ) (keeper : KeeperTold) (count wait : ℕ)
        → AreKept start setup before asked desk keeper count wait source sink sessions
        → AreKept start setup after (asked ++ more) desk_after keeper count wait source sink sessions_after

    -- they go on over a visit that waits to be judged
    abbrev pub NotesVisit : Side → EndsTold → List ℕ → Type 0
    NotesVisit side ends more =
        (start : Start) (asked : List ℕ) (keeper : KeeperTold) (count : ℕ)
        → AreKept start setup before asked desk keeper count 1 source sink sessions → IsNext before count side ends
        → AreServed start setup after (asked ++ more) desk_after keeper source sink sessions_after

    -- they go on, while notes are put and operators are answered
    abbrev pub NotesServe : KeeperTold → KeeperTold → List ℕ → Type 0
    NotesServe keeper keeper_after more =
        (start : Start) (asked : List ℕ) → AreServed start setup before asked desk keeper source sink sessions
        → AreServed start setup after (asked ++ more) desk_after keeper_after source sink sessions_after
