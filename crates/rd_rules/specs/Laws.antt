-- Laws above the definitions of a session.
use Rattle.std.specs.Prelude.{ℕ, ◌≡◌, ◌+◌, ◌<◌, true, false, List, [], ◌∷◌, ◌++◌, take, filter, fold, not, Some, None, is_some}
use Rattle.std.specs.List.{list_any}
use Rattle.rd_base.specs.History.{History, Entry, Row, is_well_formed, is_stop}
use Rattle.rd_base.specs.OwnRows.{shown_of}
use Rattle.rd_base.specs.Swap.{shows}
use Rattle.rd_base.specs.declared.values.Link.{Link}
use Rattle.rd_base.specs.declared.values.What.TheVariants.{WriteFail}
use Rattle.rd_base.specs.declared.values.Ending.{Ending}
use Rattle.rd_base.specs.declared.values.Ending.TheVariants.{LinkFault, NoMemory, Stopped, Unsolicited, Unstarted}
use Rattle.rd_dialect.specs.Laws.{Lawful, IsFront}
use Rattle.rd_rules.specs.Exchange.{Rules, reading}
use Rattle.rd_rules.specs.Step.{read_further}
use Rattle.rd_rules.specs.Given.{learnt}
use Rattle.rd_rules.specs.Sent.{final, stop, sent, exchanges, masked}
use Rattle.rd_rules.specs.Trouble.{or_else, ends_by, unsolicited}

-- an ending stays, whatever is heard next
abbrev pub EndingsStay : Type 0
EndingsStay = (r : Rules) (h e : History) (end : Ending) → final r h ≡ Some end → final r (h ++ e) ≡ Some end

-- what is read of a whole history is what is read further from what was read of its front
abbrev pub ReadsOn : Type 0
ReadsOn = (r : Rules) → Lawful r.grammar → (h e : History) → is_well_formed r.limits.copies (h ++ e) ≡ true
    → reading r (h ++ e) ≡ read_further r (reading r h) e

-- what was sent to a link is never taken back, whatever is heard next
abbrev pub SentStays : Type 0
SentStays = (r : Rules) → Lawful r.grammar → (l : ℕ) (h e : History) → is_well_formed r.limits.copies (h ++ e) ≡ true
    → IsFront (sent r l h) (sent r l (h ++ e))

-- only a session that was told to stop is stopped
abbrev pub OnlyStops : Type 0
OnlyStops = (r : Rules) (h : History) → final r h ≡ Some Stopped → list_any (λ e. is_stop e.what) h ≡ true

-- no history says that its session wasn't started, or that memory was refused
abbrev pub NeverUnstarted : Type 0
NeverUnstarted = (r : Rules) (h : History) → final r h ≡ Some Unstarted → ⊥

abbrev pub NeverNoMemory : Type 0
NeverNoMemory = (r : Rules) (h : History) → final r h ≡ Some NoMemory → ⊥

-- a session that has heard nothing has sent nothing
abbrev pub SilenceIsSilent : Type 0
SilenceIsSilent = (r : Rules) → Lawful r.grammar → 0 < r.limits.copies → (l : ℕ) → sent r l [] ≡ []

-- a write of this link has failed
abbrev pub failed_write : ℕ → Link → Entry
failed_write at l = record { at = at; what = WriteFail l; told = [] }

-- a failed write ends a live session as its link's fault, and is nothing to one that has ended
abbrev pub FailedWritesEnd : Type 0
FailedWritesEnd = (r : Rules) (h : History) (at : ℕ) (l : Link) → l.0 < r.limits.copies + 1
    → final r (h ++ failed_write at l ∷ []) ≡ or_else (final r h) (Some (LinkFault l))

-- it changes nothing of what was sent, agreed and masked
abbrev pub FailedWritesSendNothing : Type 0
FailedWritesSendNothing = (r : Rules) (h : History) (at : ℕ) (l : Link) (k : ℕ)
    → sent r k (h ++ failed_write at l ∷ []) ≡ sent r k h

abbrev pub FailedWritesCountNothing : Type 0
FailedWritesCountNothing = (r : Rules) (h : History) (at : ℕ) (l : Link)
    → (exchanges r (h ++ failed_write at l ∷ []) ≡ exchanges r h)
    × (masked r (h ++ failed_write at l ∷ []) ≡ masked r h)

-- what the last piece would release is withheld exactly where the ending is Unsolicited
abbrev pub WithheldIsUnsolicited : Type 0
WithheldIsUnsolicited = (r : Rules) (h g : History) → stop r h ≡ Some g
    → is_some (unsolicited r g) ≡ true → final r h ≡ unsolicited r g

abbrev pub UnsolicitedIsWithheld : Type 0
UnsolicitedIsWithheld = (r : Rules) (h g : History) → stop r h ≡ Some g → (l : Link)
    → final r h ≡ Some (Unsolicited l) → is_some (unsolicited r g) ≡ true

-- nothing is out behind a farewell: the last done exchange is the last agreed one
abbrev pub FarewellsAreLast : Type 0
FarewellsAreLast = (r : Rules) → Lawful r.grammar → 0 < r.limits.copies → (h : History)
    → ends_by r.grammar false (reading r h).done ≡ true → (reading r h).out ≡ None

-- of rows, the newest first, those whose word no newer one shows
abbrev pub newest_rows : List Row → List Row
newest_rows [] = []
newest_rows (row ∷ older) = row ∷ filter (λ r. not (shows (shown_of row) r)) (newest_rows older)

-- rows in the other order
abbrev pub reversed : List Row → List Row
reversed rows = fold (λ rs row. row ∷ rs) [] rows

-- rows learnt one by one are the newest first, one per shown word, the first 256
abbrev pub OwnRowsAreNewest : Type 0
OwnRowsAreNewest = (rows : List Row) → learnt [] rows ≡ take 256 (newest_rows (reversed rows))
