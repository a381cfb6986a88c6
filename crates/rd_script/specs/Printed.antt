-- The lines of a transcript.
use Rattle.std.specs.Prelude.{ℕ, List, ◌++◌, codes, Option, Some, None}
use Rattle.std.specs.Fmt.{decimal}
use Rattle.hex.specs.Hex.{encode_lower}
use Rattle.rd_base.specs.declared.values.Ending.{Ending}
use Rattle.rd_base.specs.declared.values.Ending.TheVariants.{Done, Closed, Retired, Disagree, Noise, Malformed, TooBig, Unsupported, Unsolicited, Broken, Late, LinkFault, Stopped, FullLog, NoMemory, Unstarted}
use Rattle.rd_base.specs.declared.values.Which.{Which}
use Rattle.rd_base.specs.declared.values.Which.TheVariants.{Idle, Request, Gather, Reply}

-- step `step` sends these bytes to a link
abbrev pub send_line : ℕ → ℕ → List ℕ → List ℕ
send_line step link bytes = decimal step ++ codes " to " ++ decimal link ++ codes " " ++ encode_lower bytes ++ codes "\n"

abbrev pub which_text : Which → List ℕ
which_text Idle = codes "Idle"
which_text Request = codes "Request"
which_text Gather = codes "Gather"
which_text Reply = codes "Reply"

abbrev pub ending_text : Ending → List ℕ
ending_text Done = codes "Done"
ending_text (Closed link) = codes "Closed link " ++ decimal link.0
ending_text Retired = codes "Retired"
ending_text (Disagree exchange copy place) = codes "Disagree exchange " ++ decimal exchange ++ codes " copy " ++ decimal copy ++ codes " place " ++ decimal place
ending_text (Noise exchange place) = codes "Noise exchange " ++ decimal exchange ++ codes " place " ++ decimal place
ending_text (Malformed link) = codes "Malformed link " ++ decimal link.0
ending_text (TooBig link) = codes "TooBig link " ++ decimal link.0
ending_text (Unsupported link code) = codes "Unsupported link " ++ decimal link.0 ++ codes " code " ++ decimal code
ending_text (Unsolicited link) = codes "Unsolicited link " ++ decimal link.0
ending_text (Broken link) = codes "Broken link " ++ decimal link.0
ending_text (Late which) = codes "Late " ++ which_text which
ending_text (LinkFault link) = codes "LinkFault link " ++ decimal link.0
ending_text Stopped = codes "Stopped"
ending_text FullLog = codes "FullLog"
ending_text NoMemory = codes "NoMemory"
ending_text Unstarted = codes "Unstarted"

-- the last line: the session is live, or its ending
abbrev pub last_line : Option Ending → List ℕ
last_line None = codes "live\n"
last_line (Some ending) = codes "end " ++ ending_text ending ++ codes "\n"
