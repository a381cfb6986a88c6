-- The rules of a session in the dialect of a name.
use Rattle.std.proofs.Common.{◌≡◌, refl, sym, ap, ◌∙◌}
use Rattle.rd_base.specs.declared.names.NameRules.{NameRules}
use Rattle.rd_base.specs.declared.values.Limits.{Limits}
use Rattle.rd_base.specs.declared.values.Side.{Side}
use Rattle.rd_conf.specs.declared.settings.DialectName.{DialectName}
use Rattle.rd_conf.specs.declared.settings.DialectName.TheVariants.{Line, Http, Pg}
use Rattle.rd_dialect.specs.Grammar.{Grammar}
use Rattle.rd_dialect.specs.LineGrammar.{line}
use Rattle.rd_http_tokens.specs.HttpOn.{http_on}
use Rattle.rd_pg_tokens.specs.PgGrammar.{pg}
use Rattle.rd_session_run.specs.Runs.{rules_for}
use Rattle.rddr.specs.Outcome.{grammar_of, session_rules}

named : (name : DialectName) (names : NameRules) (limits : Limits) (side given : Side) (grammar : Grammar) → grammar ≡ grammar_of name given names → given ≡ side
    → rules_for given grammar limits ≡ session_rules name names limits side
named name names limits side given grammar is same =
    ap (λ (g : Grammar). rules_for given g limits) is ∙ ap (session_rules name names limits) same

pub named_line : (name : DialectName) (names : NameRules) (limits : Limits) (side given : Side) (grammar : Grammar) → name ≡ Line → grammar ≡ line → given ≡ side
    → rules_for given grammar limits ≡ session_rules name names limits side
unfolding grammar_of
named_line name names limits side given grammar is means same =
    named name names limits side given grammar (means ∙ sym (ap (λ (d : DialectName). grammar_of d given names) is)) same

pub named_http : (name : DialectName) (names : NameRules) (limits : Limits) (side given : Side) (grammar : Grammar) → name ≡ Http → grammar ≡ http_on given names → given ≡ side
    → rules_for given grammar limits ≡ session_rules name names limits side
unfolding grammar_of
named_http name names limits side given grammar is means same =
    named name names limits side given grammar (means ∙ sym (ap (λ (d : DialectName). grammar_of d given names) is)) same

pub named_pg : (name : DialectName) (names : NameRules) (limits : Limits) (side given : Side) (grammar : Grammar) → name ≡ Pg → grammar ≡ pg given names → given ≡ side
    → rules_for given grammar limits ≡ session_rules name names limits side
unfolding grammar_of
named_pg name names limits side given grammar is means same =
    named name names limits side given grammar (means ∙ sym (ap (λ (d : DialectName). grammar_of d given names) is)) same
