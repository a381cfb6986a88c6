use Rattle.std.proofs.Common.{sym, arith}
use Rattle.std.proofs.lemmas.List.Sums.{prefix_len_is}
use Rattle.std.proofs.lemmas.Bool.Decides.{nat_tests}
use Rattle.std.specs.Char.{is_ascii_hexdigit}
use Rattle.rd_http_frame.proofs.chunk.digits_len.Goals as goal

pub returns-then-not-is_ascii_hexdigit-clause-value : goal.returns-then-not-is_ascii_hexdigit-clause-value
returns-then-not-is_ascii_hexdigit-clause-value c =
    sym (prefix_len_is is_ascii_hexdigit c.args.bytes.now c.bytes.i 0 (omega (arith, c.bytes-test.true)) c.bytes.invariant
    (λ _. grind (arith, nat_tests, c.if-not-is_ascii_hexdigit.true, c.is_ascii_hexdigit.ensures.value)))

pub returns-clause-value : goal.returns-clause-value
returns-clause-value c =
    sym (prefix_len_is is_ascii_hexdigit c.args.bytes.now _ 0 (omega arith)
    (λ k below. c.bytes.invariant k (omega (arith, c.bytes-test.false))) (λ h. absurd (omega (arith, h))))
