-- What contracts see of a session whose side is known.
use Rattle.std.specs.Prelude.{Option}
use Rattle.rd_base.specs.History.{History}
use Rattle.rd_base.specs.declared.values.Side.{Side}
use Rattle.rd_base.specs.declared.values.Limits.{Limits}
use Rattle.rd_base.specs.declared.values.Ending.{Ending}
use Rattle.rd_dialect.specs.Grammar.{Grammar}
use Rattle.rd_rules.specs.Exchange.{Rules}
use Rattle.rd_core.specs.Standing.{Standing, Tally, Seen, IsAt}

pub record Face (D : Type 0) : Type 0 where
  pub dialect : D
  pub limits : Limits
  pub at : Standing
  pub tally : Tally
  pub ending : Option Ending

-- of an engine's session
abbrev pub face_of : {D : Type 0} → Seen D → Face D
face_of s = record { dialect = s.dialect; limits = s.setup.limits; at = s.at; tally = s.tally; ending = s.ending }

-- what a session on this side is run by
abbrev pub rules_on : {D : Type 0} → Side → Grammar → Face D → Rules
rules_on side g s = record { side = side; grammar = g; limits = s.limits }

-- the session stands where this history leads
abbrev pub StandsAt : {D : Type 0} → Side → Rules → Face D → History → Type 0
StandsAt side r s h =
    IsAt r (record { dialect = s.dialect; setup = record { side = side; limits = s.limits }; at = s.at; tally = s.tally; ending = s.ending }) h
