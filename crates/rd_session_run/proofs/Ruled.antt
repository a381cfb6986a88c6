-- The rules that a session goes by.
use Rattle.std.proofs.Common.{◌≡◌, ap, ◌∙◌}
use Rattle.rd_dialect.specs.Grammar.{Grammar}
use Rattle.rd_reading.specs.declared.setup.Setup.{Setup}
use Rattle.rd_reading.specs.Seen.{rules_of}
use Rattle.rd_core.specs.Standing.{Seen}

-- sessions of one dialect and the same setup go by the same rules
pub same_rules : {D : Type 0} (grammar : D → Grammar) (s t : Seen D) → s.dialect ≡ t.dialect → s.setup ≡ t.setup → rules_of (grammar s.dialect) s.setup ≡ rules_of (grammar t.dialect) t.setup
same_rules {D} grammar s t dialects setups =
    ap (λ (d : D). rules_of (grammar d) s.setup) dialects ∙ ap (rules_of (grammar t.dialect)) setups

-- and these are those that it was made with
pub made_rules : {D : Type 0} (grammar : D → Grammar) (s : Seen D) (dialect : D) (setup : Setup) → s.dialect ≡ dialect → s.setup ≡ setup → rules_of (grammar s.dialect) s.setup ≡ rules_of (grammar dialect) setup
made_rules {D} grammar s dialect setup dialects setups =
    ap (λ (d : D). rules_of (grammar d) s.setup) dialects ∙ ap (rules_of (grammar dialect)) setups
