use Rattle.std.proofs.Common.{sym, ◌∙◌, arith}
use Rattle.std.proofs.lemmas.List.Sums.{prefix_len_is}
use Rattle.httparse.specs.Grammar.{is_token_byte}
use Rattle.rd_http_frame.proofs.target.method_len.Goals as goal

pub returns-then-not-is_method_token-clause-value : goal.returns-then-not-is_method_token-clause-value
returns-then-not-is_method_token-clause-value c =
    sym (prefix_len_is is_token_byte c.args.text.now c.bytes.i 0 (omega (arith, c.bytes-test.true)) c.bytes.invariant
    (λ _. sym c.is_method_token.ensures ∙ c.if-not-is_method_token.true))

pub returns-clause-value : goal.returns-clause-value
returns-clause-value c =
    sym (prefix_len_is is_token_byte c.args.text.now _ 0 (omega arith)
    (λ k below. c.bytes.invariant k (omega (arith, c.bytes-test.false))) (λ h. absurd (omega (arith, h))))
