-- Laws above the definitions of kept notes.
use Rattle.std.specs.Prelude.{ℕ, ◌≡◌, List, [], ◌∷◌, ◌++◌, Some, Result, is_ok, find, if◌then◌else◌}
use Rattle.rd_base.specs.declared.session_note.SessionNote.{SessionNote}
use Rattle.rd_keeper.specs.declared.keeper.Put.{Put}
use Rattle.rd_keeper.specs.declared.keeper.KeepFail.{KeepFail}
use Rattle.rd_keeper.specs.Keeping.{KeeperTold, Puts}
use Rattle.rd_keeper.specs.Notes.{AreRising, has_id, notes_after}

-- these notes are, by rising id, the first put note of each id
pub record AreFirsts (puts notes : List SessionNote) : Type 0 where
  pub rising : AreRising notes
  pub first : (id : ℕ) → find (has_id id) notes ≡ find (has_id id) puts

-- the notes after a list of puts are that
abbrev pub KeepsFirsts : Type 0
KeepsFirsts =
    (puts : List SessionNote) → AreFirsts puts (notes_after puts)

-- and no others are
abbrev pub KeepsNothingElse : Type 0
KeepsNothingElse =
    (puts notes : List SessionNote) → AreFirsts puts notes → notes ≡ notes_after puts

-- a put counts where it was answered
abbrev pub puts_with : List SessionNote → SessionNote → Result Put KeepFail → List SessionNote
puts_with puts note result = if is_ok result then puts ++ note ∷ [] else puts

-- a keeper whose notes are those after some puts has, after one more, those after these and this one
abbrev pub FollowsPuts : Type 0
FollowsPuts =
    (puts : List SessionNote) (note : SessionNote) (result : Result Put KeepFail)
    → (before after : KeeperTold) → before.notes ≡ Some (notes_after puts) → Puts note result before after
    → after.notes ≡ Some (notes_after (puts_with puts note result))
