use Rattle.std.proofs.Common.{sym}
use Rattle.std.specs.Prelude.{◌==◌}
use Rattle.rd_token_map.proofs.Pairs.{place_some, place_none}
use Rattle.rd_token_map.proofs.form.first_or_len.Goals as goal

pub returns-in-Some-clause-place : goal.returns-in-Some-clause-place
returns-in-Some-clause-place c = sym (place_some (λ b. b == c.args.byte) c.args.text.now c.in-Some.place (sym c.in-Some.ensures.place))

pub returns-in-None-clause-place : goal.returns-in-None-clause-place
returns-in-None-clause-place c = sym (place_none (λ b. b == c.args.byte) c.args.text.now (sym c.in-None.ensures.place))
