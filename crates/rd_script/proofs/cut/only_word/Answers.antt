use Rattle.std.proofs.Common.{◌==◌, length, ap, arith}
use Rattle.rd_script.proofs.Parts.{some_part}
use Rattle.rd_script.proofs.cut.only_word.Goals as goal

pub returns-in-Some : goal.returns-in-Some
returns-in-Some c =
    let parts = c.in-Some.field-0 in
    omega (arith, ap length c.in-Some.ensures.cut, some_part (λ b. b == 32) parts.1.now)
