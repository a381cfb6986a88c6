-- What ends a session.
use Rattle.std.specs.Prelude.{ℕ, ◌+◌, Bool, true, false, List, [], ◌∷◌, ◌++◌, map, length, Option, Some, None, is_some, if◌then◌else◌, ◌==◌, ◌&&◌, ◌||◌, not, nat_lt, nat_le, option_map, find}
use Rattle.std.specs.List.{list_any, list_all}
use Rattle.rd_base.specs.Words.{is_empty, last_of_list, without_last, below}
use Rattle.rd_base.specs.History.{History, Entry, Row, read_fails, write_fails, is_stop, is_timer, moment}
use Rattle.rd_base.specs.declared.values.Link.{Link}
use Rattle.rd_base.specs.declared.values.Phase.{Phase}
use Rattle.rd_base.specs.declared.values.MaskLimits.{MaskLimits}
use Rattle.rd_base.specs.declared.values.Side.{Side}
use Rattle.rd_base.specs.declared.values.Side.TheVariants.{Incoming, Outgoing}
use Rattle.rd_base.specs.declared.values.What.{What}
use Rattle.rd_base.specs.declared.values.What.TheVariants.{Piece, End, ReadFail, WriteFail, Timer, Stop}
use Rattle.rd_base.specs.declared.values.Scan.{Scan}
use Rattle.rd_base.specs.declared.values.Scan.TheVariants.{Whole, More, Bad, TooBig, Unsupported}
use Rattle.rd_base.specs.declared.values.Ending.{Ending}
use Rattle.rd_base.specs.declared.values.Ending.TheVariants as ending
use Rattle.rd_base.specs.declared.verdict.Verdict.{Verdict}
use Rattle.rd_base.specs.declared.verdict.Verdict.TheVariants.{Agreed, Disagree, Noise}
use Rattle.rd_dialect.specs.declared.due.Due.{Due}
use Rattle.rd_dialect.specs.Grammar.{Grammar}
use Rattle.rd_dialect.specs.Due.{request_due, reply_due, scan_due}
use Rattle.rd_rules.specs.Exchange.{Rules, Reading, Front, Open, reading, Exchange, Ask, note, scan_open, past}
use Rattle.rd_base.specs.Heard.{Heard, early_verdict}
use Rattle.rd_rules.specs.Early.{heard}
use Rattle.rd_rules.specs.Given.{own_after}
use Rattle.rd_rules.specs.Wait.{wait, due_moment, some_open}

-- where a session stands: what is kept of a reading
pub record Now : Type 0 where
  pub count : ℕ  -- how many exchanges are done
  pub bye : Bool  -- whether the last of them is a farewell
  pub own : List Row  -- the own rows after them
  pub left : Front
  pub out : Option Ask

-- whether the last exchange is a farewell; of none, what was so before
abbrev pub ends_by : Grammar → Bool → List Exchange → Bool
ends_by g before [] = before
ends_by g before (x ∷ xs) = ends_by g (g.is_farewell (note g x.ask)) xs

abbrev pub now_of : Rules → Reading → Now
now_of r now = record {
  count = length now.done;
  bye = ends_by r.grammar false now.done;
  own = own_after r [] now.done;
  left = now.left;
  out = now.out;
}

-- what is due: a reply where something is out, else a request
abbrev pub due_after : Grammar → Phase → Option Ask → Due
due_after g phase None = request_due phase
due_after g phase (Some ask) = reply_due ask.phase (note g ask)

abbrev pub due_of : Grammar → Now → Due
due_of g now = due_after g now.left.phase now.out

-- the due links, with what is open there
abbrev pub due_opens : Now → List Open
due_opens now = if is_some now.out then now.left.answering else now.left.asking

abbrev pub is_whole : Scan → Bool
is_whole (Whole len) = true
is_whole More = false
is_whole Bad = false
is_whole TooBig = false
is_whole (Unsupported code) = false

abbrev pub is_bad : Scan → Bool
is_bad (Whole len) = false
is_bad More = false
is_bad Bad = true
is_bad TooBig = false
is_bad (Unsupported code) = false

abbrev pub is_too_big : Scan → Bool
is_too_big (Whole len) = false
is_too_big More = false
is_too_big Bad = false
is_too_big TooBig = true
is_too_big (Unsupported code) = false

abbrev pub link_of : ℕ → Link
link_of l = record { 0 = l }

abbrev pub code_of : ℕ → Scan → Option Ending
code_of link (Whole len) = None
code_of link More = None
code_of link Bad = None
code_of link TooBig = None
code_of link (Unsupported code) = Some (ending.Unsupported (link_of link) code)

-- the first of these links, in their order, of which the test holds
abbrev pub least_open : (Link → Ending) → (Open → Bool) → List Open → Option Ending
least_open end test opens = option_map (λ o. end (link_of o.link)) (find test opens)

abbrev pub or_else : Option Ending → Option Ending → Option Ending
or_else None next = next
or_else (Some e) next = Some e

-- the links in their order: incoming those that answer come first, outgoing those that ask
abbrev pub by_links : Side → Option Ending → Option Ending → Option Ending
by_links Incoming answering asking = or_else answering asking
by_links Outgoing answering asking = or_else asking answering

-- the due unit of a link is hopeless
abbrev pub malformed : Grammar → Now → Option Ending
malformed g now = least_open ending.Malformed (λ o. is_bad (scan_open g (due_of g now) o)) (due_opens now)

-- what is open of those that ask: incoming a request that is out still counts, outgoing it doesn't
abbrev pub past_out : List Open → Option Ask → List Open
past_out opens None = opens
past_out opens (Some ask) = past opens ask.units

abbrev pub open_asking : Side → List Open → Option Ask → List Open
open_asking Incoming opens out = opens
open_asking Outgoing opens out = past_out opens out

-- a link has too many open bytes, or the head or trailer of its due unit is past its limit
abbrev pub is_big : Grammar → ℕ → Bool → Due → Open → Bool
is_big g most is_due due o = nat_lt most (length o.bytes) || (is_due && is_too_big (scan_open g due o))

abbrev pub big_among : Grammar → ℕ → Bool → Due → List Open → Option Ending
big_among g most is_due due opens = least_open ending.TooBig (is_big g most is_due due) opens

abbrev pub too_big : Rules → Now → Option Ending
too_big r now = by_links r.side
    (big_among r.grammar r.limits.unit_max (is_some now.out) (due_of r.grammar now) now.left.answering)
    (big_among r.grammar r.limits.unit_max (not (is_some now.out)) (due_of r.grammar now) (open_asking r.side now.left.asking now.out))

-- the due unit of a link asks for what isn't supported
abbrev pub unsupported_in : Grammar → Due → List Open → Option Ending
unsupported_in g due [] = None
unsupported_in g due (o ∷ os) = or_else (code_of o.link (scan_open g due o)) (unsupported_in g due os)

abbrev pub unsupported : Grammar → Now → Option Ending
unsupported g now = unsupported_in g (due_of g now) (due_opens now)

abbrev pub blamed : ℕ → Verdict → Option Ending
blamed exchange (Agreed masked) = None
blamed exchange (Disagree copy place) = Some (ending.Disagree exchange copy place)
blamed exchange (Noise place) = Some (ending.Noise exchange place)

abbrev pub judge_by : MaskLimits → ℕ → List Heard → Option Ending
judge_by most exchange [] = None
judge_by most exchange (a ∷ []) = None
judge_by most exchange (a ∷ b ∷ []) = None
judge_by most exchange (a ∷ b ∷ c ∷ more) = blamed exchange (early_verdict most (a ∷ b ∷ c ∷ more))

-- some judged place of the due exchange has a fault
abbrev pub disagreed : Rules → Now → Option Ending
disagreed r now = judge_by r.limits.mask (now.count + 1) (map (heard r.grammar (due_of r.grammar now)) (due_opens now))

-- the link has ended, and its open bytes don't begin with a whole unit
abbrev pub is_cut : Grammar → Due → Open → Bool
is_cut g due o = o.is_ended && not (is_whole (scan_open g due o))

-- the link has ended, and bytes of it are open
abbrev pub is_left : Open → Bool
is_left o = o.is_ended && not (is_empty o.bytes)

-- a link has ended inside a unit or an exchange: where something is out, one that answers, without a whole reply;
-- else one that answers with open bytes, or one that asks, without a whole request, while some that ask have open bytes
abbrev pub broken_on : Side → Grammar → Due → Bool → List Open → List Open → Option Ending
broken_on side g due true asking answering = least_open ending.Broken (is_cut g due) answering
broken_on side g due false asking answering = by_links side
    (least_open ending.Broken is_left answering)
    (if some_open asking then least_open ending.Broken (is_cut g due) asking else None)

abbrev pub broken : Rules → Now → Option Ending
broken r now = broken_on r.side r.grammar (due_of r.grammar now) (is_some now.out) now.left.asking now.left.answering

abbrev pub is_over : Open → Bool
is_over o = o.is_ended && is_empty o.bytes

-- nothing is out, and a link that answers has ended without open bytes
abbrev pub closed : Now → Option Ending
closed now = if is_some now.out then None else least_open ending.Closed is_over now.left.answering

-- nothing is out and all that ask have ended without open bytes, or the last exchange is a farewell
abbrev pub all_done : Now → Option Ending
all_done now = if (not (is_some now.out) && list_all is_over now.left.asking) || now.bye then Some ending.Done else None

abbrev pub retired_at : ℕ → ℕ → Option Ending
retired_at most count = if count == most then Some ending.Retired else None

-- as many exchanges are done as a session may have
abbrev pub retired : Rules → Now → Option Ending
retired r now = retired_at r.limits.exchanges_max now.count

-- what scans and sizes say
abbrev pub scan_trouble : Rules → Now → Option Ending
scan_trouble r now = or_else (malformed r.grammar now) (or_else (too_big r now) (unsupported r.grammar now))

-- what ends and counts say
abbrev pub end_trouble : Rules → Now → Option Ending
end_trouble r now = or_else (broken r now) (or_else (closed now) (or_else (all_done now) (retired r now)))

-- the troubles of where a session stands, in their order
abbrev pub trouble_of : Rules → Now → Option Ending
trouble_of r now = or_else (scan_trouble r now) (or_else (disagreed r now) (end_trouble r now))

-- a whole unit, and bytes behind it
abbrev pub is_past : Scan → ℕ → Bool
is_past (Whole len) n = nat_lt len n
is_past More n = false
is_past Bad n = false
is_past TooBig n = false
is_past (Unsupported code) n = false

-- these bytes of a link that answers go past the reply that is out
abbrev pub goes_past : Grammar → Option Ask → List ℕ → Bool
goes_past g None bytes = true
goes_past g (Some ask) bytes = is_past (scan_due g (reply_due ask.phase (note g ask)) bytes false) (length bytes)

abbrev pub unsolicited_among : Grammar → Option Ask → ℕ → List ℕ → List Open → Option Ending
unsolicited_among g out l piece opens = least_open ending.Unsolicited (λ o. (o.link == l) && goes_past g out (o.bytes ++ piece)) opens

-- a piece goes past the reply that was out before it; where replies may come early it may
abbrev pub unsolicited_by : Grammar → Now → What → Option Ending
unsolicited_by g now (Piece l bytes) = if g.early_replies then None else unsolicited_among g now.out l.0 bytes now.left.answering
unsolicited_by g now (End l) = None
unsolicited_by g now (ReadFail l) = None
unsolicited_by g now (WriteFail l) = None
unsolicited_by g now Timer = None
unsolicited_by g now Stop = None

abbrev pub unsolicited_at : Rules → Option Entry → Reading → Option Ending
unsolicited_at r None before = None
unsolicited_at r (Some e) before = unsolicited_by r.grammar (now_of r before) e.what

abbrev pub unsolicited : Rules → History → Option Ending
unsolicited r h = unsolicited_at r (last_of_list h) (reading r (without_last h))

-- a happening fails this link
abbrev pub fails : ℕ → What → Bool
fails l w = read_fails l w || write_fails l w

abbrev pub link_fault_at : Option ℕ → Option Ending
link_fault_at l = option_map (λ k. ending.LinkFault (link_of k)) l

-- a read or a write of a link has failed
abbrev pub link_fault : ℕ → History → Option Ending
link_fault n h = link_fault_at (find (λ l. list_any (λ e. fails l e.what) h) (below (n + 1)))

abbrev pub stopped_at : Bool → Option Ending
stopped_at b = if b then Some ending.Stopped else None

-- the operator has stopped the session
abbrev pub stopped : History → Option Ending
stopped h = stopped_at (list_any (λ e. is_stop e.what) h)

abbrev pub is_timer_entry : Option Entry → Bool
is_timer_entry None = false
is_timer_entry (Some e) = is_timer e.what

-- the last happening is a look at the clock, at or past the due moment
abbrev pub late : Rules → History → Option Ending
late r h = if is_timer_entry (last_of_list h) && nat_le (due_moment r h) (moment h) then Some (ending.Late (wait r h).which) else None

-- a log has no more room
abbrev pub full_log_at : ℕ → Option Ending
full_log_at count = if count == 1048576 then Some ending.FullLog else None

-- what the happenings alone say
abbrev pub first_trouble : Rules → History → Option Ending
first_trouble r h = or_else (link_fault r.limits.copies h) (or_else (stopped h) (late r h))

-- the first that holds of the whole history
abbrev pub trouble : Rules → History → Option Ending
trouble r h =
    or_else (first_trouble r h)
    (or_else (unsolicited r h)
    (or_else (trouble_of r (now_of r (reading r h))) (full_log_at (length h))))
