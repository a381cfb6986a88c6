-- What keepers tell, and what their calls leave.
use Rattle.std.specs.Prelude.{◌≡◌, ℕ, ◌≤◌, ◌==◌, ◌↔◌, Bool, true, List, Option, Some, None, Result, Err, option_map, is_ok, IfOk, if◌then◌else◌}
use Rattle.std.specs.List.{list_any}
use Rattle.rd_base.specs.declared.session_note.SessionNote.{SessionNote}
use Rattle.rd_base.specs.Counts.{counted}
use Rattle.rd_base.specs.Outside.{Rose}
use Rattle.rd_keeper.specs.declared.keeper.Put.{Put}
use Rattle.rd_keeper.specs.declared.keeper.Put.TheVariants.{Fresh, Repeat}
use Rattle.rd_keeper.specs.declared.keeper.KeepFail.{KeepFail}
use Rattle.rd_keeper.specs.declared.keeper.KeepFail.TheVariants.{Failed}
use Rattle.rd_keeper.specs.Notes.{is_kept, with_note}

-- its notes, where it tells them, and its count of faults
pub record KeeperTold : Type 0 where
  pub notes : Option (List SessionNote)
  pub faults : ℕ

-- Failed only where the count of faults rose
pub record HasCause {A : Type 0} (result : Result A KeepFail) (before after : KeeperTold) : Type 0 where
  pub failed : result ≡ Err Failed → Rose before.faults after.faults
  pub faults : before.faults ≤ after.faults

-- where a keeper answers, and tells its notes, the answer is this one of them
abbrev pub Answers : {A : Type 0} → Result A KeepFail → (List SessionNote → A) → KeeperTold → Type 0
Answers result answer_of told =
    (notes : List SessionNote) → told.notes ≡ Some notes → IfOk result (λ answer. answer ≡ answer_of notes)

-- a put that was answered leaves the note with the others; any other leaves all as it was. It is a repeat
-- exactly where the id was kept
abbrev pub put_answer : SessionNote → List SessionNote → Put
put_answer note notes = if is_kept note.id notes then Repeat else Fresh

pub record Puts (note : SessionNote) (result : Result Put KeepFail) (before after : KeeperTold) : Type 0 where
  pub notes : after.notes ≡ option_map (λ ns. if is_ok result then with_note ns note else ns) before.notes
  pub answer : Answers result (put_answer note) before

-- ---- a keeper in memory

-- its notes, its count of faults, the number of the next call, and those of the calls that are to fail
pub record MemKeeperView : Type 0 where
  pub notes : List SessionNote
  pub faults : ℕ
  pub calls : ℕ
  pub failing : List ℕ

abbrev pub mem_tells : MemKeeperView → KeeperTold
mem_tells k = record { notes = Some k.notes; faults = k.faults }

-- a call is listed
abbrev pub is_listed : ℕ → List ℕ → Bool
is_listed call failing = list_any (λ n. n == call) failing

-- exactly the calls that are listed are Failed, and each call counts
pub record FailsListed {A : Type 0} (result : Result A KeepFail) (before after : MemKeeperView) : Type 0 where
  pub failed : (result ≡ Err Failed) ↔ (is_listed before.calls before.failing ≡ true)
  pub calls : after.calls ≡ counted before.calls
  pub failing : after.failing ≡ before.failing

-- ---- a keeper in a database

-- whether its store was refused, and its count of faults
pub record SqlKeeperView : Type 0 where
  pub is_refused : Bool
  pub faults : ℕ

abbrev pub sql_tells : SqlKeeperView → KeeperTold
sql_tells k = record { notes = None; faults = k.faults }

-- where the store was refused every call is Failed, and it stays so
pub record FailsRefused {A : Type 0} (result : Result A KeepFail) (before after : SqlKeeperView) : Type 0 where
  pub failed : before.is_refused ≡ true → result ≡ Err Failed
  pub stays : after.is_refused ≡ before.is_refused
