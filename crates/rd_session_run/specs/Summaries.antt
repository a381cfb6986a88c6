-- What a session came to, in numbers.
use Rattle.std.specs.Prelude.{ℕ, List, ◌++◌, length, codes, sum_by}
use Rattle.std.specs.Fmt.{decimal}
use Rattle.rd_base.specs.Words.{below}
use Rattle.rd_base.specs.History.{History}
use Rattle.rd_rules.specs.Exchange.{Rules}
use Rattle.rd_rules.specs.Sent.{exchanges, masked, taken, sent, final}
use Rattle.rd_script.specs.Printed.{last_line}
use Rattle.rd_session_run.specs.declared.summary.Summary.{Summary}

-- the bytes that the copies have been sent, all together
abbrev pub sent_to_copies : Rules → History → ℕ
sent_to_copies r h = sum_by (λ copy. length (sent r copy h)) (below r.limits.copies)

-- how many copies there are, exchanges agreed, happenings taken, bytes sent to the single link and to all copies, and
-- places masked; and the ending
unfoldable pub summary : Rules → History → Summary
summary r h = record {
  copies = r.limits.copies;
  exchanges = exchanges r h;
  events = length (taken r h);
  to_client = length (sent r r.limits.copies h);
  to_instances = sent_to_copies r h;
  masked = masked r h;
  ending = final r h;
}

unfoldable pub count_line : List ℕ → ℕ → List ℕ
count_line name number = name ++ codes " " ++ decimal number ++ codes "\n"

abbrev pub session_lines : Summary → List ℕ
session_lines s =
    count_line (codes "copies") s.copies ++ count_line (codes "exchanges") s.exchanges ++ count_line (codes "events") s.events

abbrev pub bytes_lines : Summary → List ℕ
bytes_lines s =
    count_line (codes "to client") s.to_client ++ count_line (codes "to instances") s.to_instances ++ count_line (codes "masked") s.masked

-- a line for each number, and the last line of the transcript
abbrev pub summary_text : Summary → List ℕ
summary_text s = session_lines s ++ bytes_lines s ++ last_line s.ending
