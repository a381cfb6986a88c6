-- HTTP as a side of the proxy reads it.
use Rattle.std.specs.Prelude.{Bool, true, false}
use Rattle.rd_base.specs.declared.names.NameRules.{NameRules}
use Rattle.rd_base.specs.declared.values.Side.{Side}
use Rattle.rd_base.specs.declared.values.Side.TheVariants.{Incoming, Outgoing}
use Rattle.rd_dialect.specs.Grammar.{Grammar}
use Rattle.rd_http_tokens.specs.HttpGrammar.{http}
use Rattle.rd_http_tokens.specs.Copied.{asked, copied}

-- what an `Http` was made with
pub record HttpView : Type 0 where
  pub side : Side
  pub rules : NameRules

-- a client is shown copy 0's words, so rows are learnt of replies to clients alone
abbrev pub learns_on : Side → Bool
learns_on Incoming = true
learns_on Outgoing = false

-- a side's HTTP, under these rules of names
abbrev pub http_on : Side → NameRules → Grammar
http_on side rules = http rules (learns_on side) asked copied
