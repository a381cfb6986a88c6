-- The note of a session that has ended.
use Rattle.std.specs.Prelude.{ℕ, ◌-◌, ◌^◌, min}
use Rattle.rd_base.specs.declared.session_note.SessionNote.{SessionNote}
use Rattle.rd_base.specs.declared.values.Ending.{Ending}
use Rattle.rd_base.specs.declared.values.Ending.TheVariants.{Done, Closed, Retired, Disagree, Noise, Malformed, TooBig, Unsupported, Unsolicited, Broken, Late, LinkFault, Stopped, FullLog, NoMemory, Unstarted}
use Rattle.rd_base.specs.declared.values.Link.{Link}
use Rattle.rd_base.specs.declared.values.Side.{Side}
use Rattle.rd_base.specs.declared.values.Side.TheVariants.{Incoming, Outgoing}
use Rattle.rd_base.specs.declared.values.Which.{Which}
use Rattle.rd_base.specs.declared.values.Which.TheVariants.{Idle, Request, Gather, Reply}
use Rattle.rd_conf.specs.declared.settings.DialectName.{DialectName}
use Rattle.rd_conf.specs.declared.settings.DialectName.TheVariants.{Line, Http, Pg}
use Rattle.rd_runner.specs.declared.session.Summary.{Summary}
use Rattle.rd_desk.specs.declared.note.EndingNumbers.{EndingNumbers}

abbrev pub dialect_number : DialectName → ℕ
dialect_number Line = 0
dialect_number Http = 1
dialect_number Pg = 2

abbrev pub side_number : Side → ℕ
side_number Incoming = 0
side_number Outgoing = 1

abbrev pub which_number : Which → ℕ
which_number Idle = 0
which_number Request = 1
which_number Gather = 2
which_number Reply = 3

-- what an ending doesn't have is 0
abbrev pub only : ℕ → EndingNumbers
only code = record { code = code; link = 0; exchange = 0; place = 0; detail = 0 }

abbrev pub with_link : ℕ → Link → EndingNumbers
with_link code link = record (only code) { link = link.0 }

abbrev pub ending_numbers : Ending → EndingNumbers
ending_numbers Done = only 0
ending_numbers (Closed link) = with_link 1 link
ending_numbers Retired = only 2
ending_numbers (Disagree exchange copy place) = record (only 3) { link = copy; exchange = exchange; place = place }
ending_numbers (Noise exchange place) = record (only 4) { exchange = exchange; place = place }
ending_numbers (Malformed link) = with_link 5 link
ending_numbers (TooBig link) = with_link 6 link
ending_numbers (Unsupported link code) = record (with_link 7 link) { detail = code }
ending_numbers (Unsolicited link) = with_link 8 link
ending_numbers (Broken link) = with_link 9 link
ending_numbers (Late which) = record (only 10) { detail = which_number which }
ending_numbers (LinkFault link) = with_link 11 link
ending_numbers Stopped = only 12
ending_numbers FullLog = only 13
ending_numbers NoMemory = only 14
ending_numbers Unstarted = only 15

-- a moment of the clock as a note has it: at most 2^63-1
abbrev pub moment_of : ℕ → ℕ
moment_of at = min at (2 ^ 63 - 1)

-- the note of a session of this id, side and dialect that began and ended at these moments, and came to this
abbrev pub note_of : ℕ → Side → ℕ → ℕ → ℕ → Summary → SessionNote
note_of id side dialect began ended s =
    let numbers = ending_numbers s.ending in
    record {
      id = id;
      side = side_number side;
      dialect = dialect;
      began = moment_of began;
      ended = moment_of ended;
      events = s.events;
      exchanges = s.exchanges;
      masked = s.masked;
      code = numbers.code;
      link = numbers.link;
      exchange = numbers.exchange;
      place = numbers.place;
      detail = numbers.detail;
      dropped = 0;
    }
