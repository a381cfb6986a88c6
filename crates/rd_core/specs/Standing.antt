-- What a session keeps, and one step of it.
use Rattle.std.specs.Prelude.{◌≡◌, ℕ, ◌+◌, ◌-◌, ◌^◌, ◌&&◌, Bool, List, [], ◌∷◌, ◌++◌, length, sum_by, min, max, nat_le, Option, Some, None, is_some, if◌then◌else◌}
use Rattle.std.specs.List.{flat_map}
use Rattle.rd_base.specs.declared.values.Side.{Side}
use Rattle.rd_base.specs.declared.values.Ending.{Ending}
use Rattle.rd_base.specs.declared.values.Ending.TheVariants.{Late}
use Rattle.rd_base.specs.declared.values.Limits.{Limits}
use Rattle.rd_base.specs.declared.sends.Send.{Send}
use Rattle.rd_base.specs.History.{History, Entry, Row, is_timer, moment}
use Rattle.rd_base.specs.Sent.{sends_to}
use Rattle.rd_rules.specs.Exchange as rule
use Rattle.rd_rules.specs.Exchange.{Rules, reading, read}
use Rattle.rd_rules.specs.Given.{own_after, exchange_rows}
use Rattle.rd_rules.specs.Step.{grow_front_by, given_now, masked_now}
use Rattle.rd_rules.specs.Wait.{Wait, wait, which_on, same_wait, some_open, limit_of, began_by}
use Rattle.rd_rules.specs.Trouble.{Now, now_of, ends_by, trouble_of, unsolicited_by, or_else, full_log_at}
use Rattle.rd_rules.specs.Sent.{acted, final, sent, sent_past, step_sends, masked, agreed_rows}
use Rattle.rd_reading.specs.declared.setup.Setup.{Setup}
use Rattle.rd_core.specs.Faults.{fault_by}

-- where a session stands, and when: the entries so far, their moment, and the moment at which what it waits for began
pub record Standing : Type 0 where
  pub stage : Now
  pub entries : ℕ
  pub moment : ℕ
  pub began : ℕ

-- how many places were masked in all that is agreed, and the rows that the last entry learnt
pub record Tally : Type 0 where
  pub masked : ℕ
  pub rows : List Row

-- what contracts see of a session
pub record Seen (D : Type 0) : Type 0 where
  pub dialect : D
  pub setup : Setup
  pub at : Standing
  pub tally : Tally
  pub ending : Option Ending

-- the clock of a live session is that of its history
pub record IsTimed (r : Rules) (s : Standing) (h : History) : Type 0 where
  pub count : s.entries ≡ length h
  pub latest : s.moment ≡ moment h
  pub since : s.began ≡ moment (began_by (wait r) h)

-- a session stands where this history leads
pub record IsAt {D : Type 0} (r : Rules) (s : Seen D) (h : History) : Type 0 where
  pub stage : s.at.stage ≡ now_of r (reading r (acted r h))
  pub tally : s.tally ≡ record { masked = masked r h; rows = agreed_rows r h }
  pub ending : s.ending ≡ final r h
  pub timed : s.ending ≡ None → IsTimed r s.at h

-- how many bytes are open, of all links
abbrev pub open_len : Now → ℕ
open_len now = sum_by (λ o. length o.bytes) now.left.asking + sum_by (λ o. length o.bytes) now.left.answering

-- ---- one step

-- what is read of what was open, with a happening behind it
abbrev pub next_reading : Rules → Now → Entry → rule.Reading
next_reading r now e = read r.grammar r.limits.mask (r.limits.exchanges_max - now.count) (grow_front_by e.what now.left)

-- where a session stands after further exchanges
abbrev pub now_from : Rules → ℕ → Bool → List Row → rule.Reading → Now
now_from r count bye own next = record {
  count = count + length next.done;
  bye = ends_by r.grammar bye next.done;
  own = own_after r own next.done;
  left = next.left;
  out = next.out;
}

abbrev pub now_after : Rules → Now → rule.Reading → Now
now_after r before next = now_from r before.count before.bye before.own next

-- what it waits for
abbrev pub wait_at : Side → Now → Wait
wait_at side now = record { which = which_on side (is_some now.out) (some_open now.left.asking); number = now.count }

-- a wait that goes on has begun when it had; another begins now
abbrev pub began_at : Side → Standing → Now → ℕ → ℕ
began_at side before now at = if same_wait (wait_at side before.stage) (wait_at side now) then before.began else at

abbrev pub standing_by : Side → Standing → Now → ℕ → Standing
standing_by side before now at = record { stage = now; entries = before.entries + 1; moment = at; began = began_at side before now at }

abbrev pub standing_after : Rules → Standing → Entry → Standing
standing_after r before e = standing_by r.side before (now_after r before.stage (next_reading r before.stage e)) (max before.moment e.at)

-- when the wait ends
abbrev pub due_at : Side → Limits → Standing → ℕ
due_at side limits s = min (s.began + limit_of limits (wait_at side s.stage).which) (2 ^ 64 - 1)

-- a look at the clock at or past that moment
abbrev pub late_at : Side → Limits → Bool → Standing → Option Ending
late_at side limits looks s = if looks && nat_le (due_at side limits s) s.moment then Some (Late (wait_at side s.stage).which) else None

-- how a session has ended that stands there after an entry that withholds nothing
abbrev pub ending_at : Rules → Entry → Standing → Option Ending
ending_at r e s =
    or_else (or_else (fault_by r.limits.copies e.what) (late_at r.side r.limits (is_timer e.what) s))
    (or_else (trouble_of r s.stage) (full_log_at s.entries))

-- one step of a session that hasn't ended
pub record Goes (r : Rules) (old : Standing) (e : Entry) (new : Standing) (end : Option Ending) (sends : List Send) : Type 0 where
  pub at : new ≡ standing_after r old e
  pub ending : end ≡ ending_at r e new
  pub sent : sends ≡ sends_to (r.limits.copies + 1) (λ l. given_now r l old.stage.own e.told (is_some old.stage.out) (next_reading r old.stage e))

-- one step of a session that hasn't ended: a piece that goes past what is due is withheld, with all that it would release
pub record Steps (r : Rules) (old : Standing) (e : Entry) (new : Standing) (end : Option Ending) (sends : List Send) : Type 0 where
  pub on : unsolicited_by r.grammar old.stage e.what ≡ None → Goes r old e new end sends
  pub held : (x : Ending) → unsolicited_by r.grammar old.stage e.what ≡ Some x → (new.stage ≡ old.stage) × (end ≡ Some x) × (sends ≡ [])

-- what is masked and learnt after further exchanges
abbrev pub tally_after : Rules → Now → rule.Reading → Tally → Tally
tally_after r before next tally = record {
  masked = tally.masked + masked_now r.side r (is_some before.out) next;
  rows = flat_map (exchange_rows r) next.done;
}

-- the same of one step of a session that hasn't ended
pub record Counts (r : Rules) (old : Now) (e : Entry) (before after : Tally) : Type 0 where
  pub on : unsolicited_by r.grammar old e.what ≡ None → after ≡ tally_after r old (next_reading r old e) before
  pub held : (x : Ending) → unsolicited_by r.grammar old e.what ≡ Some x → after ≡ record { masked = before.masked; rows = [] }

-- what a step sends: what each link has been sent with the entry past what it had been sent, in the order of links
pub record SendsMore (r : Rules) (h : History) (e : Entry) (sends : List Send) : Type 0 where
  pub adds : (l : ℕ) → sent r l (h ++ e ∷ []) ≡ sent r l h ++ sent_past r h (h ++ e ∷ []) l
  pub are : sends ≡ step_sends r h (h ++ e ∷ [])

-- a session of this side
abbrev pub IsOn : {D : Type 0} → Side → Seen D → Type 0
IsOn side s = s.setup.side ≡ side
