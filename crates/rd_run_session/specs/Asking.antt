-- What a session asked of a book, and told it.
use Rattle.std.specs.Prelude.{◌≡◌, List, Option}
use Rattle.rd_base.specs.declared.values.Limits.{Limits}
use Rattle.rd_base.specs.declared.values.Side.{Side}
use Rattle.rd_base.specs.declared.values.Side.TheVariants.{Incoming, Outgoing}
use Rattle.rd_dialect.specs.Grammar.{Grammar}
use Rattle.rd_doors.specs.Visits.{EndsTold, RunTold}
use Rattle.rd_gate.specs.declared.gate.View.{View}
use Rattle.rd_token_map.specs.BookCalls.{BookCall}
use Rattle.rd_turn.specs.Turns.{Outside}
use Rattle.rd_runner.specs.Runs.{Setup}
use Rattle.rd_run_session.specs.CameTo.{CameBy}
use Rattle.rd_run_session.specs.Dialects.{grammar_on}
use Rattle.rd_run_session.specs.declared.left.SessionLeft.{SessionLeft}

-- the session of a client asked a book that told this before and after; that of callers asked none
abbrev pub AsksOn : Side → (View → Outside) → (View → Outside) → Option (List BookCall) → Option (List BookCall) → Type 0
AsksOn Incoming before after book book' = (v : View) → ((before v).book ≡ book) × ((after v).book ≡ book')
AsksOn Outgoing before after book book' = book' ≡ book

-- a session ran, and its book told this before and after
pub record CameAsking (S : Type 0) {R : Type 0} (g : Grammar) (limits : Limits) (side : Side) (ends : EndsTold) (told : RunTold (SessionLeft R)) (book book' : Option (List BookCall)) : Type 0 where
  pub came : CameBy S g limits side ends told
  pub asks : AsksOn side came.before came.after book book'

-- a session of this setup
abbrev pub CameWith : (S : Type 0) → {R : Type 0} → Setup → Side → EndsTold → RunTold (SessionLeft R) → Option (List BookCall) → Option (List BookCall) → Type 0
CameWith S setup side ends told book book' = CameAsking S (grammar_on side setup) setup.limits side ends told book book'
