-- What the engine keeps, as the definitions see it.
use Rattle.std.specs.Prelude.{◌≡◌, List, map, Option, option_map, unwrap_or}
use Rattle.rd_dialect.specs.Grammar.{Grammar}
use Rattle.rd_rules.specs.Exchange as rule
use Rattle.rd_rules.specs.Given.{exchange_rows, ask_masked, replies_masked}
use Rattle.rd_reading.specs.declared.setup.Setup.{Setup}
use Rattle.rd_reading.specs.declared.exchange.Request.{Request}
use Rattle.rd_reading.specs.declared.exchange.DoneExchange.{DoneExchange}
use Rattle.rd_reading.specs.declared.exchange.Front.{Front}
use Rattle.rd_reading.specs.declared.exchange.Reading.{Reading}

abbrev pub seen_request : Request → rule.Ask
seen_request r = record { phase = r.phase; units = r.units.items }

abbrev pub seen_exchange : DoneExchange → rule.Exchange
seen_exchange x = record { ask = seen_request x.request; replies = x.replies.units.items }

abbrev pub seen_front : Front → rule.Front
seen_front f = record { phase = f.phase; asking = f.asking.opens.items; answering = f.answering.opens.items }

-- what is open: past what was read, else as before
abbrev pub latest_front : Front → Option Front → Front
latest_front front later = unwrap_or later front

abbrev pub seen_reading : Reading → rule.Reading
seen_reading r = record { done = map seen_exchange r.done.items; left = seen_front (latest_front r.from.now r.left); out = option_map seen_request r.out }

abbrev pub rules_of : Grammar → Setup → rule.Rules
rules_of g setup = record { side = setup.side; grammar = g; limits = setup.limits }

-- the rows that exchanges keep are theirs
abbrev pub rows_are : rule.Rules → List DoneExchange → Type 0
rows_are r xs = map (λ x. x.replies.rows) xs ≡ map (λ x. exchange_rows r (seen_exchange x)) xs

-- a request's count of masked places is its own
abbrev pub IsMasked : rule.Rules → Request → Type 0
IsMasked r request = request.masked ≡ ask_masked r (seen_request request)

-- so are those of exchanges, of their requests and of their replies
pub record AreMasked (r : rule.Rules) (x : DoneExchange) : Type 0 where
  pub asked : IsMasked r x.request
  pub answered : x.replies.masked ≡ replies_masked r (seen_exchange x)
