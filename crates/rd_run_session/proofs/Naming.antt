-- A session in the dialect of a name.
use Rattle.std.proofs.Common.{◌≡◌, List, refl, sym, ap, subst, ◌∙◌}
use Rattle.std.specs.Prelude.{Option}
use Rattle.rd_base.specs.declared.values.Limits.{Limits}
use Rattle.rd_base.specs.declared.values.Side.{Side}
use Rattle.rd_base.specs.declared.names.NameRules.{NameRules}
use Rattle.rd_conf.specs.declared.settings.DialectName.{DialectName}
use Rattle.rd_conf.specs.declared.settings.DialectName.TheVariants.{Line, Http, Pg}
use Rattle.rd_dialect.specs.Grammar.{Grammar}
use Rattle.rd_dialect.specs.LineGrammar.{line}
use Rattle.rd_http_tokens.specs.HttpOn.{http_on}
use Rattle.rd_pg_tokens.specs.PgGrammar.{pg}
use Rattle.rd_doors.specs.Visits.{EndsTold, RunTold}
use Rattle.rd_token_map.specs.BookCalls.{BookCall}
use Rattle.rd_runner.specs.Runs.{Setup}
use Rattle.rd_run_session.specs.Asking.{CameAsking, CameWith}
use Rattle.rd_run_session.specs.Dialects.{grammar_of, dialect_on}
use Rattle.rd_run_session.specs.declared.left.SessionLeft.{SessionLeft}

module _ {S R : Type 0} (limits : Limits) (rules : NameRules) (side : Side) (ends : EndsTold) (told : RunTold (SessionLeft R)) (book book' : Option (List BookCall)) where
  named : (name at : DialectName) (g : Grammar) → at ≡ name → g ≡ grammar_of name side rules
      → CameAsking S g limits side ends told book book' → CameAsking S (grammar_of at side rules) limits side ends told book book'
  named name at g is means came =
      subst (λ (x : Grammar). CameAsking S x limits side ends told book book') (means ∙ ap (λ (d : DialectName). grammar_of d side rules) (sym is)) came

  pub named_line : (at : DialectName) → at ≡ Line → CameAsking S line limits side ends told book book' → CameAsking S (grammar_of at side rules) limits side ends told book book'
  unfolding grammar_of
  named_line at is came = named Line at line is refl came

  pub named_http : (at : DialectName) (g : Grammar) → at ≡ Http → g ≡ http_on side rules → CameAsking S g limits side ends told book book'
      → CameAsking S (grammar_of at side rules) limits side ends told book book'
  unfolding grammar_of
  named_http at g is means came = named Http at g is means came

  pub named_pg : (at : DialectName) (g : Grammar) → at ≡ Pg → g ≡ pg side rules → CameAsking S g limits side ends told book book'
      → CameAsking S (grammar_of at side rules) limits side ends told book book'
  unfolding grammar_of
  named_pg at g is means came = named Pg at g is means came

-- a session in the dialect that a setup names
pub came_with : {S R : Type 0} (setup : Setup) (side : Side) (ends : EndsTold) (told : RunTold (SessionLeft R)) (book book' : Option (List BookCall)) (name : DialectName) → name ≡ dialect_on side setup
    → CameAsking S (grammar_of name side setup.rules) setup.limits side ends told book book' → CameWith S setup side ends told book book'
came_with {S = S} setup side ends told book book' name is came =
    subst (λ (n : DialectName). CameAsking S (grammar_of n side setup.rules) setup.limits side ends told book book') is came
