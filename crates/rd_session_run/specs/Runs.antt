-- The rules that a script is run by.
use Rattle.rd_base.specs.declared.values.Limits.{Limits}
use Rattle.rd_base.specs.declared.values.Side.{Side}
use Rattle.rd_dialect.specs.Grammar.{Grammar}
use Rattle.rd_rules.specs.Exchange.{Rules}

-- a session of this side, in a dialect of this grammar, held to these limits
abbrev pub rules_for : Side → Grammar → Limits → Rules
rules_for side grammar limits = record { side = side; grammar = grammar; limits = limits }
