-- Troubles of the links on which a unit is due, by what is seen of them.
use Rattle.std.specs.Prelude.{ℕ, Bool, List, [], ◌∷◌, map, Option, None, option_map, find, nat_lt, not, ◌&&◌, ◌||◌}
use Rattle.rd_base.specs.declared.values.Link.{Link}
use Rattle.rd_base.specs.declared.values.Ending.{Ending}
use Rattle.rd_dialect.specs.Grammar.{Grammar}
use Rattle.rd_rules.specs.Trouble.{due_of, due_opens, or_else, code_of, is_too_big, is_whole}
use Rattle.rd_reading.specs.declared.looks.Look.{Look}
use Rattle.rd_reading.specs.Looks.{look_of}
use Rattle.rd_core.specs.declared.stage.Stage.{Stage}
use Rattle.rd_core.specs.Stages.{seen_stage}

-- what is seen of the links on which a unit is due
abbrev pub looks_at : Grammar → Stage → List Look
looks_at g s = map (look_of g (due_of g (seen_stage s []))) (due_opens (seen_stage s []))

-- the first of these of which the test holds
abbrev pub least_look : (Link → Ending) → (Look → Bool) → List Look → Option Ending
least_look end test looks = option_map (λ l. end l.link) (find test looks)

abbrev pub looks_big : ℕ → Look → Bool
looks_big most l = nat_lt most l.len || is_too_big l.scan

abbrev pub looks_cut : Look → Bool
looks_cut l = l.is_ended && not (is_whole l.scan)

abbrev pub unsupported_look : List Look → Option Ending
unsupported_look [] = None
unsupported_look (l ∷ ls) = or_else (code_of l.link.0 l.scan) (unsupported_look ls)
