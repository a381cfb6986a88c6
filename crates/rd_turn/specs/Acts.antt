-- What one act of a session's owner does, and one turn.
use Rattle.std.specs.Prelude.{◌≡◌, ℕ, ◌-◌, ◌+◌, true, nat_le, Bool, false, List, [], ◌∷◌, ◌++◌, length, map, Option, Some, None, Result, Ok, Err}
use Rattle.rd_base.specs.History.{History, Entry, Row, is_well_formed}
use Rattle.rd_base.specs.Outside.{SinkTold}
use Rattle.rd_base.specs.Clocks.{ClockTold, StopperTold, Ticks, Asks}
use Rattle.rd_base.specs.declared.bytes.NoMemory.{NoMemory}
use Rattle.rd_base.specs.declared.values.Link.{Link}
use Rattle.rd_base.specs.declared.values.Happening.{Happening}
use Rattle.rd_base.specs.declared.values.What.{What}
use Rattle.rd_base.specs.declared.values.What.TheVariants as what
use Rattle.rd_rules.specs.Exchange.{Rules}
use Rattle.rd_rules.specs.Sent.{sent, sent_past}
use Rattle.rd_core.specs.Clocks.{entry_of}
use Rattle.rd_token_map.specs.BookCalls.{BookCall}
use Rattle.rd_gate.specs.declared.item.Item.{Item}
use Rattle.rd_gate.specs.declared.item.Item.TheVariants as item
use Rattle.rd_gate.specs.declared.gate.View.{View}
use Rattle.rd_turn.specs.declared.log.LogEntry.{LogEntry}
use Rattle.rd_turn.specs.declared.log.Act.{Act}
use Rattle.rd_turn.specs.declared.log.Act.TheVariants as act
use Rattle.rd_turn.specs.declared.hearing.Heard.{Heard}
use Rattle.rd_turn.specs.declared.hearing.Heard.TheVariants as heard
use Rattle.rd_turn.specs.declared.turn.Turned.{Turned}
use Rattle.rd_turn.specs.declared.turn.Turned.TheVariants as turned
use Rattle.rd_turn.specs.Sinks.{WroteUpTo}
use Rattle.rd_turn.specs.Books.{Lookup, rows_of, words_of, calls_of, told_calls, AsksBook, BeginsBook}
use Rattle.rd_turn.specs.Turns.{Did, Took, Looked, Stopped, Turn, turn_step, turn_entries, told_in, logged, view_after, is_stop, IsInTime, IsAmong, item_taken}

-- ---- what a turn hears

abbrev pub is_past : Option ℕ → ℕ → Bool
is_past None at = false
is_past (Some due) at = nat_le due at

abbrev pub heard_item : ℕ → Link → Item → Heard
heard_item at l (item.Piece bytes) = heard.Step (act.Took l) (record { at = at; what = what.Piece l bytes })
heard_item at l item.End = heard.Step (act.Took l) (record { at = at; what = what.End l })
heard_item at l item.ReadFail = heard.Step (act.Took l) (record { at = at; what = what.ReadFail l })
heard_item at l item.NoMemory = heard.NoMemory l

abbrev pub heard_by : ℕ → Did → Heard
heard_by at (Took l x) = heard_item at l x
heard_by at (Looked true) = heard.Step act.Timer (record { at = at; what = what.Timer })
heard_by at (Looked false) = heard.Quiet
heard_by at Stopped = heard.Step act.Stop (record { at = at; what = what.Stop })

abbrev pub LooksBy : Option ℕ → ℕ → Did → Type 0
LooksBy due at (Took l x) = Unit {0}
LooksBy due at (Looked timer) = timer ≡ is_past due at
LooksBy due at Stopped = Unit {0}

-- the clock and the stopper were asked once, and the gate at most once; this was heard
pub record Hears (base : ℕ) (due : Option ℕ) (gate gate' : View) (clock clock' : ClockTold) (stopper stopper' : StopperTold) (result : Heard) : Type 0 where
  pub answer : ℕ
  pub did : Did
  pub ticks : Ticks answer clock clock'
  pub asks : Asks (is_stop did) stopper stopper'
  pub knows : gate' ≡ view_after gate did
  pub is : result ≡ heard_by (answer - base) did
  pub looks : LooksBy due (answer - base) did

-- ---- what an act does

-- a write that failed has an entry of its own, with the stamp of the entry before it
abbrev pub failed_entry : ℕ → Option Link → List LogEntry
failed_entry at None = []
failed_entry at (Some l) = record { at = at; act = act.WriteFail l; told = 0 } ∷ []

-- the sinks were written what the step of e sends, up to the write that failed
abbrev pub WroteStep : Rules → History → Entry → Option Link → List SinkTold → List SinkTold → Type 0
WroteStep r h e failed olds news = WroteUpTo failed (sent_past r h (h ++ e ∷ [])) olds news

-- after h a session goes on by the entry e: it stands further on, and the sinks are written what e sends
pub record GoesBy (r : Rules) (h : History) (e : Entry) (found : List Lookup) (learnt : List Row) (at : History → Type 0) (failed : Option Link) (olds news : List SinkTold) : Type 0 where
  pub stands : at (h ++ e ∷ [])
  pub adds : (l : ℕ) → sent r l (h ++ e ∷ []) ≡ sent r l h ++ sent_past r h (h ++ e ∷ []) l
  pub wrote : WroteStep r h e failed olds news
  pub asks : AsksBook r h (e ∷ []) found learnt

-- an act was logged behind what was, with the rows told to it, and wherever the session stood, it goes on by it
pub record Acts (r : Rules) (happening : Happening) (did : Act) (at_old at_new : History → Type 0) (book book' : Option (List BookCall)) (before after : List LogEntry) (told told' : List Row) (olds news : List SinkTold) (failed : Option Link) : Type 0 where
  pub found : List Lookup
  pub learnt : List Row
  pub calls : book' ≡ told_calls book (calls_of found learnt)
  pub log : after ≡ (before ++ record { at = happening.at; act = did; told = length (rows_of found) } ∷ []) ++ failed_entry happening.at failed
  pub rows : told' ≡ told ++ rows_of found
  pub goes : (h : History) → is_well_formed r.limits.copies (h ++ entry_of happening (rows_of found) ∷ []) ≡ true → at_old h
      → GoesBy r h (entry_of happening (rows_of found)) found learnt at_new failed olds news

-- an act that met want of memory: nothing is logged or written
pub record Stays (r : Rules) (happening : Happening) (at_old : History → Type 0) (book book' : Option (List BookCall)) (before after : List LogEntry) (told told' : List Row) (olds news : List SinkTold) : Type 0 where
  pub found : List Lookup
  pub learnt : List Row
  pub calls : book' ≡ told_calls book (calls_of found learnt)
  pub log : after ≡ before
  pub rows : told' ≡ told
  pub sinks : news ≡ olds
  pub begins : (h : History) → is_well_formed r.limits.copies (h ++ entry_of happening (rows_of found) ∷ []) ≡ true → at_old h
      → BeginsBook r h (entry_of happening (rows_of found) ∷ []) found learnt

-- ---- what a turn does

abbrev pub WroteTurn : Rules → History → History → Option Link → List SinkTold → List SinkTold → Type 0
WroteTurn r h [] failed olds news = (news ≡ olds) × (failed ≡ None)
WroteTurn r h (e ∷ more) failed olds news = WroteStep r h e failed olds news

-- after h, which led to where the session stood, a turn leads on by its step, and the sinks are written what it sends
pub record Goes (r : Rules) (base : ℕ) (h : History) (t : Turn) (at : History → Type 0) (olds news : List SinkTold) : Type 0 where
  pub stands : at (h ++ turn_step base t)
  pub adds : (l : ℕ) → sent r l (h ++ turn_step base t) ≡ sent r l h ++ sent_past r h (h ++ turn_step base t) l
  pub timely : IsInTime r base h t
  pub wrote : WroteTurn r h (turn_step base t) t.failed olds news

-- after a turn the log has its entries behind, and wherever the session stood, it stands further on
pub record Went (r : Rules) (base : ℕ) (at_old at_new : History → Type 0) (before after : List LogEntry) (told told' : List Row) (olds news : List SinkTold) (t : Turn) : Type 0 where
  pub log : after ≡ before ++ map logged (turn_entries base t)
  pub rows : told' ≡ told ++ told_in t
  pub among : IsAmong (r.limits.copies + 1) t.failed
  pub goes : (h : History) → is_well_formed r.limits.copies (h ++ turn_step base t) ≡ true → at_old h → Goes r base h t at_new olds news

-- a turn that met want of memory logged and wrote nothing, and gives back what it took
pub record GaveUp (r : Rules) (base : ℕ) (at_old : History → Type 0) (before after : List LogEntry) (told told' : List Row) (olds news : List SinkTold) (given : Option (Link × Item)) (t : Turn) : Type 0 where
  pub log : after ≡ before
  pub rows : told' ≡ told
  pub sinks : news ≡ olds
  pub back : given ≡ item_taken t.did
  pub failed : t.failed ≡ None
  pub begins : (h : History) → is_well_formed r.limits.copies (h ++ turn_step base t) ≡ true → at_old h → BeginsBook r h (turn_step base t) t.found t.learnt

abbrev pub TurnsOut : Turned → (Turn → Type 0) → (Option (Link × Item) → Turn → Type 0) → Turn → Type 0
TurnsOut turned.Going went gave_up t = went t × (t.failed ≡ None)
TurnsOut (turned.WriteFailed l) went gave_up t = went t × (t.failed ≡ Some l)
TurnsOut (turned.GaveUp back) went gave_up t = gave_up back t

-- an item of a happening
abbrev pub back_of : What → Option (Link × Item)
back_of (what.Piece l bytes) = Some (l, item.Piece bytes)
back_of (what.End l) = Some (l, item.End)
back_of (what.ReadFail l) = Some (l, item.ReadFail)
back_of (what.WriteFail l) = None
back_of what.Timer = None
back_of what.Stop = None
