use Rattle.std.proofs.Common.{[], ◌∷◌, ap, sym, ◌∙◌}
use Rattle.std.specs.Prelude.{take, drop, fold}
use Rattle.std.specs.List.{flat_map}
use Rattle.std.proofs.lemmas.List.{take_all}
use Rattle.rd_rules.specs.Step.{sent_before}
use Rattle.rd_rules.specs.Wanted.{add_word, unknown_words}
use Rattle.rd_reading.specs.Seen.{seen_request, rules_of}
use Rattle.rd_core.proofs.wanted.push_fresh.Goals as goal

pub returns-then-skips : goal.returns-then-skips
returns-then-skips g c =
    let rules = rules_of (g.D.Dialect.grammar c.args.dialect.now) c.args.setup.now in
    sym (ap (λ b. take 4096 (fold add_word c.args.words.now (flat_map (unknown_words rules) (drop (sent_before b) (record { ask = seen_request c.args.request.now; own = c.args.own.now } ∷ []))))) c.if-skips.true
    ∙ take_all 4096 c.args.words.now c.requires.most)
