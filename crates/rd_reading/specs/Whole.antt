-- Requests and replies that are whole units.
use Rattle.std.specs.Prelude.{List}
use Rattle.rd_dialect.specs.Grammar.{Grammar, IsRequest, IsReply}
use Rattle.rd_rules.specs.Exchange.{Ask, Exchange, LinkUnit, note, first_bytes}

-- the first request is whole
abbrev pub IsAsked : Grammar → Ask → Type 0
IsAsked g ask = IsRequest g ask.phase (first_bytes ask.units)

-- the first reply to it is whole; the empty one to a farewell is
abbrev pub IsAnswered : Grammar → Ask → List LinkUnit → Type 0
IsAnswered g ask replies = IsReply g ask.phase (note g ask) (first_bytes replies)

pub record IsDone (g : Grammar) (x : Exchange) : Type 0 where
  pub asked : IsAsked g x.ask
  pub answered : IsAnswered g x.ask x.replies
