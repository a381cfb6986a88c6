use Rattle.std.proofs.Common.{◌≡◌, ◌++◌, ◌-◌, length, false, append_assoc, arith, ◌∙◌}
use Rattle.std.specs.Prelude.{◌==◌, codes, replicate, string_bytes}
use Rattle.std.specs.Fmt.{decimal}
use Rattle.std.proofs.lemmas.Bool.Decides.{nat_tests}
use Rattle.std.proofs.lemmas.Result.{IfOk-weaker}
use Rattle.rd_script.specs.Generator.{request_line}
use Rattle.rd_script.proofs.Sixteen.{sixteen, later_request}
use Rattle.rd_script.proofs.generator.request_line.Goals as goal

pub returns-else-exchange-eq1 : goal.returns-else-exchange-eq1
returns-else-exchange-eq1 c =
    let made = rw c.laid_out.ensures at c.format.ensures.ok in
    let later : (c.args.exchange == 1) ≡ false = grind (arith, nat_tests) in
    IfOk-weaker c.format.result (λ text. string_bytes text ≡ codes "get " ++ (decimal c.args.exchange ++ (codes " " ++ (replicate (16 - length (decimal c.args.before)) 48 ++ (decimal c.args.before ++ codes "\n"))))) (λ text. string_bytes text ≡ request_line c.args.exchange c.args.before) (λ text same. same ∙ later_request c.args.exchange c.args.before later) (simp (sixteen, append_assoc) at made)
