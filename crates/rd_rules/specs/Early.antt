-- What copies say together while some of their units are not yet whole.
use Rattle.std.specs.Prelude.{ℕ, true, false, List, [], take}
use Rattle.rd_base.specs.declared.values.Scan.{Scan}
use Rattle.rd_base.specs.declared.values.Scan.TheVariants.{Whole, More, Bad, TooBig, Unsupported}
use Rattle.rd_base.specs.Heard.{Heard}
use Rattle.rd_dialect.specs.declared.due.Due.{Due}
use Rattle.rd_dialect.specs.Grammar.{Grammar}
use Rattle.rd_dialect.specs.Due.{tokens_due}
use Rattle.rd_rules.specs.Exchange.{Open, scan_open}

-- the tokens of a due unit that is whole, or of a part of one
abbrev pub heard_by : Grammar → Due → List ℕ → Scan → Heard
heard_by g due bytes (Whole len) = record { tokens = tokens_due g due (take len bytes) true; is_whole = true }
heard_by g due bytes More = record { tokens = tokens_due g due bytes false; is_whole = false }
heard_by g due bytes Bad = record { tokens = []; is_whole = false }
heard_by g due bytes TooBig = record { tokens = []; is_whole = false }
heard_by g due bytes (Unsupported code) = record { tokens = []; is_whole = false }

abbrev pub heard : Grammar → Due → Open → Heard
heard g due o = heard_by g due o.bytes (scan_open g due o)
