-- What contracts see of an outgoing session.
use Rattle.rd_base.specs.History.{History}
use Rattle.rd_base.specs.declared.values.Side.TheVariants.{Outgoing}
use Rattle.rd_dialect.specs.Grammar.{Grammar}
use Rattle.rd_rules.specs.Exchange.{Rules}
use Rattle.rd_core.specs.Faces.{Face, rules_on, StandsAt}

-- what the session is run by
abbrev pub session_rules : {D : Type 0} → Grammar → Face D → Rules
session_rules g s = rules_on Outgoing g s

-- the session stands where this history leads
abbrev pub IsAt : {D : Type 0} → Rules → Face D → History → Type 0
IsAt r s h = StandsAt Outgoing r s h
