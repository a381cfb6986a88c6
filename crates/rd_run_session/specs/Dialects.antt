-- The dialect that settings name for a side.
use Rattle.rd_base.specs.declared.values.Limits.{Limits}
use Rattle.rd_base.specs.declared.values.Side.{Side}
use Rattle.rd_base.specs.declared.values.Side.TheVariants.{Incoming, Outgoing}
use Rattle.rd_base.specs.declared.names.NameRules.{NameRules}
use Rattle.rd_conf.specs.declared.settings.DialectName.{DialectName}
use Rattle.rd_conf.specs.declared.settings.DialectName.TheVariants.{Line, Http, Pg}
use Rattle.rd_dialect.specs.Grammar.{Grammar}
use Rattle.rd_dialect.specs.LineGrammar.{line}
use Rattle.rd_http_tokens.specs.HttpOn.{http_on}
use Rattle.rd_pg_tokens.specs.PgGrammar.{pg}
use Rattle.rd_runner.specs.Runs.{Setup}

-- what each dialect's name stands for, on a side and under rules of names; plain lines have no names
unfoldable pub grammar_of : DialectName → Side → NameRules → Grammar
grammar_of Line side names = line
grammar_of Http side names = http_on side names
grammar_of Pg side names = pg side names

abbrev pub dialect_on : Side → Setup → DialectName
dialect_on Incoming s = s.incoming
dialect_on Outgoing s = s.outgoing

-- the grammar of a session of this side
abbrev pub grammar_on : Side → Setup → Grammar
grammar_on side s = grammar_of (dialect_on side s) side s.rules
