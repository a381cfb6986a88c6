-- The turns of a session's owner: each asks the clock and the stopper once, and takes from the gate at most once.
use Rattle.std.specs.Prelude.{◌≡◌, ◌<◌, ℕ, ◌+◌, ◌-◌, Bool, true, false, nat_le, max, if◌then◌else◌, List, [], ◌∷◌, ◌++◌, length, map, Option, Some, None, option_map}
use Rattle.std.specs.List.{flat_map}
use Rattle.rd_base.specs.History.{History, Entry, Row}
use Rattle.rd_base.specs.declared.values.Link.{Link}
use Rattle.rd_base.specs.declared.values.What.{What}
use Rattle.rd_base.specs.declared.values.What.TheVariants as what
use Rattle.rd_base.specs.Outside.{SinkTold}
use Rattle.rd_base.specs.Clocks.{ClockTold, StopperTold, reach_with, width}
use Rattle.rd_base.specs.Counts.{told_with, counted}
use Rattle.rd_dialect.specs.Grammar.{Grammar}
use Rattle.rd_rules.specs.Exchange.{Rules}
use Rattle.rd_rules.specs.Sent.{final}
use Rattle.rd_rules.specs.Wait.{due_moment}
use Rattle.rd_reading.specs.Seen.{rules_of}
use Rattle.rd_core.specs.Standing.{Seen}
use Rattle.rd_token_map.specs.BookCalls.{BookCall}
use Rattle.rd_gate.specs.declared.item.Item.{Item}
use Rattle.rd_gate.specs.declared.item.Item.TheVariants as item
use Rattle.rd_gate.specs.declared.gate.View.{View}
use Rattle.rd_gate.specs.Gate.{took, looked}
use Rattle.rd_turn.specs.declared.log.LogEntry.{LogEntry}
use Rattle.rd_turn.specs.declared.log.Act.{Act}
use Rattle.rd_turn.specs.declared.log.Act.TheVariants as act
use Rattle.rd_turn.specs.Drawn.{heard_of}
use Rattle.rd_turn.specs.Books.{Lookup, rows_of, calls_of, told_calls, AsksBook}

-- the rules that a session is run by
abbrev pub rules_by : {D : Type 0} → (D → Grammar) → Seen D → Rules
rules_by grammar s = rules_of (grammar s.dialect) s.setup

-- what a turn did
pub data Did : Type 0 where
  -- it took this item of this link
  Took : Link → Item → Did
  -- it found the gate empty; whether it made a Timer of it
  Looked : Bool → Did
  -- it was told to stop
  Stopped : Did

-- the clock's answer, what was done, what the book was asked and told, and whose write failed
pub record Turn : Type 0 where
  pub answer : ℕ
  pub did : Did
  pub found : List Lookup
  pub learnt : List Row
  pub failed : Option Link

-- a clock's answer less the base, 0 where it is less
abbrev pub stamp : ℕ → Turn → ℕ
stamp base t = t.answer - base

-- the rows that were told to a turn's step
abbrev pub told_in : Turn → List Row
told_in t = rows_of t.found

abbrev pub entry_at : ℕ → What → List Row → Entry
entry_at at w told = record { at = at; what = w; told = told }

abbrev pub step_of : ℕ → Did → List Row → History
step_of at (Took l x) told = entry_at at (heard_of l x) told ∷ []
step_of at (Looked true) told = entry_at at what.Timer told ∷ []
step_of at (Looked false) told = []
step_of at Stopped told = entry_at at what.Stop told ∷ []

-- a write that failed has an entry of its own, with the stamp of the entry before it
abbrev pub failure : ℕ → Option Link → History
failure at None = []
failure at (Some l) = entry_at at (what.WriteFail l) [] ∷ []

-- the step that a turn takes, at most one entry
abbrev pub turn_step : ℕ → Turn → History
turn_step base t = step_of (stamp base t) t.did (told_in t)

abbrev pub turn_entries : ℕ → Turn → History
turn_entries base t = turn_step base t ++ failure (stamp base t) t.failed

-- the history of these turns
abbrev pub history_of : ℕ → List Turn → History
history_of base turns = flat_map (turn_entries base) turns

-- the rows that were told to them
abbrev pub told_of : List Turn → List Row
told_of turns = flat_map told_in turns

-- an entry as the log has it
abbrev pub act_of : What → Act
act_of (what.Piece l bytes) = act.Took l
act_of (what.End l) = act.Took l
act_of (what.ReadFail l) = act.Took l
act_of (what.WriteFail l) = act.WriteFail l
act_of what.Timer = act.Timer
act_of what.Stop = act.Stop

abbrev pub logged : Entry → LogEntry
logged e = record { at = e.at; act = act_of e.what; told = length e.told }

-- ---- what the outside tells after a turn

-- what the owner of a session asks: its pass of the gate, the clock, the stopper, and the book
pub record Outside : Type 0 where
  pub gate : View
  pub clock : ClockTold
  pub stopper : StopperTold
  pub book : Option (List BookCall)

abbrev pub outside : View → ClockTold → StopperTold → Option (List BookCall) → Outside
outside gate clock stopper book = record { gate = gate; clock = clock; stopper = stopper; book = book }

-- what the owner's pass knows after a turn
abbrev pub view_after : View → Did → View
view_after v (Took l x) = took v (l.0, x)
view_after v (Looked timer) = looked v
view_after v Stopped = v

abbrev pub clock_after : ClockTold → ℕ → ClockTold
clock_after c answer = record {
  answers = told_with c.answers answer;
  reach = Some (reach_with c.reach answer);
  span = max c.span (width (reach_with c.reach answer));
}

abbrev pub is_stop : Did → Bool
is_stop Stopped = true
is_stop did = false

-- the stopper said yes exactly to the turn that stops
abbrev pub stopper_after : StopperTold → Did → StopperTold
stopper_after s did = record { asked = option_map counted s.asked; yeses = (if is_stop did then counted s.yeses else s.yeses) }

abbrev pub after_turn : Outside → Turn → Outside
after_turn o t = record {
  gate = view_after o.gate t.did;
  clock = clock_after o.clock t.answer;
  stopper = stopper_after o.stopper t.did;
  book = told_calls o.book (calls_of t.found t.learnt);
}

-- ---- which turns there may be

-- a look makes a Timer exactly where its stamp is at or past the due moment
abbrev pub IsTimely : Rules → History → ℕ → Did → Type 0
IsTimely r h at (Took l x) = Unit {0}
IsTimely r h at (Looked timer) = timer ≡ nat_le (due_moment r h) at
IsTimely r h at Stopped = Unit {0}

-- a turn comes while the session is live, and asks the book what its step wants
pub record IsInTime (r : Rules) (base : ℕ) (h : History) (t : Turn) : Type 0 where
  pub live : final r h ≡ None
  pub timely : IsTimely r h (stamp base t) t.did
  pub asks : AsksBook r h (turn_step base t) t.found t.learnt

abbrev pub AreTimely : Rules → ℕ → History → List Turn → Type 0
AreTimely r base h [] = Unit {0}
AreTimely r base h (t ∷ turns) = IsInTime r base h t × AreTimely r base (h ++ turn_entries base t) turns

-- no write failed but to one of these links
abbrev pub IsAmong : ℕ → Option Link → Type 0
IsAmong n None = Unit {0}
IsAmong n (Some w) = w.0 < n

abbrev pub AreAmong : ℕ → List Turn → Type 0
AreAmong n [] = Unit {0}
AreAmong n (t ∷ turns) = IsAmong n t.failed × AreAmong n turns

-- ---- the items of turns

-- the item that a turn took
abbrev pub item_taken : Did → Option (Link × Item)
item_taken (Took l x) = Some (l, x)
item_taken (Looked timer) = None
item_taken Stopped = None

abbrev pub taken_by : Did → List (ℕ × Item)
taken_by (Took l x) = (l.0, x) ∷ []
taken_by (Looked timer) = []
taken_by Stopped = []

-- the items that turns took, in order
abbrev pub items_of : List Turn → List (ℕ × Item)
items_of turns = flat_map (λ t. taken_by t.did) turns
