use Rattle.std.proofs.Common.{sym, arith}
use Rattle.std.proofs.lemmas.List.Sums.{prefix_len_is}
use Rattle.std.proofs.lemmas.Bool.Decides.{nat_tests}
use Rattle.rd_http_frame.specs.Fronts.{is_break}
use Rattle.rd_operator.proofs.asked.front_len.Goals as goal

pub returns-then-bytes-i-ne10-clause-value : goal.returns-then-bytes-i-ne10-clause-value
returns-then-bytes-i-ne10-clause-value c =
    sym (prefix_len_is is_break c.args.bytes.now c.bytes.i 0 (omega (arith, c.bytes-test.true)) c.bytes.invariant
    (λ _. grind (arith, nat_tests, c.if-bytes-i-ne10.true, c.if-bytes-i-ne13.true)))

pub returns-clause-value : goal.returns-clause-value
returns-clause-value c =
    sym (prefix_len_is is_break c.args.bytes.now _ 0 (omega arith)
    (λ k below. c.bytes.invariant k (omega (arith, c.bytes-test.false))) (λ h. absurd (omega (arith, h))))
