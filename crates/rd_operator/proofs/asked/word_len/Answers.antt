use Rattle.std.proofs.Common.{sym, ◌∙◌, arith}
use Rattle.std.proofs.lemmas.List.Sums.{prefix_len_is}
use Rattle.rd_operator.specs.Asked.{is_word_byte}
use Rattle.rd_operator.proofs.asked.word_len.Goals as goal

pub returns-then-not-is_word_byte-clause-value : goal.returns-then-not-is_word_byte-clause-value
returns-then-not-is_word_byte-clause-value c =
    sym (prefix_len_is is_word_byte c.args.text.now c.bytes.i 0 (omega (arith, c.bytes-test.true)) c.bytes.invariant
    (λ _. sym c.is_word_byte.ensures ∙ c.if-not-is_word_byte.true))

pub returns-clause-value : goal.returns-clause-value
returns-clause-value c =
    sym (prefix_len_is is_word_byte c.args.text.now _ 0 (omega arith)
    (λ k below. c.bytes.invariant k (omega (arith, c.bytes-test.false))) (λ h. absurd (omega (arith, h))))
