-- What is read once more has been heard, from what was read before.
use Rattle.std.specs.Prelude.{ℕ, ◌-◌, ◌||◌, Bool, true, false, List, ◌++◌, length, map, sum_by, drop, if◌then◌else◌}
use Rattle.std.specs.List.{flat_map}
use Rattle.rd_base.specs.declared.values.What.{What}
use Rattle.rd_base.specs.declared.values.Side.{Side}
use Rattle.rd_base.specs.declared.values.Side.TheVariants.{Incoming, Outgoing}
use Rattle.rd_base.specs.History.{History, Row, stream, ended, piece_of, ends}
use Rattle.rd_rules.specs.Exchange.{Rules, Open, Front, Reading, Exchange, read, released}
use Rattle.rd_rules.specs.Given.{forwarded, handed_back, is_asker, releases, replies_masked, ask_masked}

-- what more has come of a link
abbrev pub grow : History → Open → Open
grow e o = record { link = o.link; bytes = o.bytes ++ stream o.link e; is_ended = o.is_ended || ended o.link e }

abbrev pub grow_front : History → Front → Front
grow_front e p = record { phase = p.phase; asking = map (grow e) p.asking; answering = map (grow e) p.answering }

-- the same of one happening
abbrev pub grow_by : What → Open → Open
grow_by w o = record { link = o.link; bytes = o.bytes ++ piece_of o.link w; is_ended = o.is_ended || ends o.link w }

abbrev pub grow_front_by : What → Front → Front
grow_front_by w p = record { phase = p.phase; asking = map (grow_by w) p.asking; answering = map (grow_by w) p.answering }

-- exchanges that were done before, in front
abbrev pub with_done : List Exchange → Reading → Reading
with_done xs r = record r { done = xs ++ r.done }

abbrev pub read_further : Rules → Reading → History → Reading
read_further r now e = with_done now.done
    (read r.grammar r.limits.mask (r.limits.exchanges_max - length now.done) (grow_front e now.left))

-- the requests that were sent before a step: the one that was out
abbrev pub sent_before : Bool → ℕ
sent_before true = 1
sent_before false = 0

-- what link l is given of what a step reads: replies, or the requests that weren't sent before, by the own rows and those told to the step
abbrev pub given_now : Rules → ℕ → List Row → List Row → Bool → Reading → List ℕ
given_now r l own told was_out now =
    if is_asker r l
    then flat_map (handed_back r) now.done
    else flat_map (forwarded r l told) (drop (sent_before was_out) (releases r own now.done now.out))

-- how many places are masked in what a step agrees on: in replies, or in the requests that weren't sent before
abbrev pub masked_now : Side → Rules → Bool → Reading → ℕ
masked_now Incoming r was_out now = sum_by (replies_masked r) now.done
masked_now Outgoing r was_out now = sum_by (ask_masked r) (drop (sent_before was_out) (released now))
