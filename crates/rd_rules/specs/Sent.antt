-- The ending of a session, what each link has been sent, and the transcript.
use Rattle.std.specs.Prelude.{ℕ, zero, suc, ◌+◌, List, [], ◌∷◌, ◌++◌, length, take, drop, Option, Some, None, is_some, option_and_then, unwrap_or, if◌then◌else◌}
use Rattle.std.specs.List.{flat_map}
use Rattle.rd_base.specs.Words.{without_last}
use Rattle.rd_base.specs.Sent.{sends_to}
use Rattle.rd_base.specs.History.{History, Row, shortest}
use Rattle.rd_base.specs.declared.values.Ending.{Ending}
use Rattle.rd_base.specs.declared.sends.Send.{Send}
use Rattle.rd_rules.specs.Exchange.{Rules, reading}
use Rattle.rd_rules.specs.Given.{given, agreed_on, masked_on, exchange_rows}
use Rattle.rd_rules.specs.Trouble.{trouble, unsolicited}

-- the shortest prefix that has a trouble
abbrev pub stop : Rules → History → Option History
stop r h = shortest (λ g. is_some (trouble r g)) h

-- its trouble: how the session has ended
abbrev pub final : Rules → History → Option Ending
final r h = option_and_then (trouble r) (stop r h)

-- without the entry that an unsolicited piece withholds
abbrev pub held_back : Rules → History → History
held_back r g = if is_some (unsolicited r g) then without_last g else g

abbrev pub acted_of : Rules → History → Option History → History
acted_of r h None = h
acted_of r h (Some g) = held_back r g

-- the prefix up to which the session acts
abbrev pub acted : Rules → History → History
acted r h = acted_of r h (stop r h)

-- what a link has been sent
abbrev pub sent : Rules → ℕ → History → List ℕ
sent r l h = given r l (acted r h)

-- how many exchanges are agreed
abbrev pub exchanges : Rules → History → ℕ
exchanges r h = agreed_on r.side (reading r (acted r h))

-- how many places are masked in them
abbrev pub masked : Rules → History → ℕ
masked r h = masked_on r.side r (reading r (acted r h))

-- the history up to the entry that ended the session; all of it where none did
abbrev pub taken : Rules → History → History
taken r h = unwrap_or (stop r h) h

-- the rows of the exchanges that became agreed in the last entry that was taken
abbrev pub agreed_rows : Rules → History → List Row
agreed_rows r h =
    flat_map (exchange_rows r)
    (drop (length (reading r (acted r (without_last (taken r h)))).done) (reading r (acted r h)).done)

-- what a link has been sent by a later history past what it had been sent
abbrev pub sent_past : Rules → History → History → ℕ → List ℕ
sent_past r before now l = drop (length (sent r l before)) (sent r l now)

-- what a step sends, in the order of links
abbrev pub step_sends : Rules → History → History → List Send
step_sends r before now = sends_to (r.limits.copies + 1) (sent_past r before now)

-- what a step of a transcript sends; steps count from 1
pub record StepSends : Type 0 where
  pub step : ℕ
  pub sends : List Send

-- the steps of the first n entries
abbrev pub steps_of : Rules → History → ℕ → List StepSends
steps_of r h zero = []
steps_of r h (suc n) = steps_of r h n ++ record { step = suc n; sends = step_sends r (take n h) (take (suc n) h) } ∷ []

-- all that is sent, step by step, and how the session has ended
pub record Transcript : Type 0 where
  pub steps : List StepSends
  pub last : Option Ending

abbrev pub transcript : Rules → History → Transcript
transcript r h = record { steps = steps_of r h (length h); last = final r h }
