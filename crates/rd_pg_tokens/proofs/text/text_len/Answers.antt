use Rattle.std.proofs.Common.{◌≡◌, Bool, true, false, refl, sym, arith}
use Rattle.std.proofs.lemmas.List.Sums.{position_or_len_is}
use Rattle.rd_pg_tokens.proofs.text.text_len.Goals as goal

is_false : (t : Bool) → (t ≡ true → ⊥) → t ≡ false
is_false true isnt = absurd (isnt refl)
is_false false isnt = refl

pub returns-in-Some-clause-len : goal.returns-in-Some-clause-len
returns-in-Some-clause-len c =
    let first = c.in-Some.ensures.0 in
    sym (position_or_len_is _ c.args.bytes.now c.in-Some.at 0 (omega (arith, first.high)) (λ k lt. is_false _ (first.before k (omega arith) lt)) (λ lt. c.in-Some.ensures.1))

pub returns-in-None-clause-len : goal.returns-in-None-clause-len
returns-in-None-clause-len c =
    sym (position_or_len_is _ c.args.bytes.now _ 0 (omega arith) (λ k lt. is_false _ (c.in-None.ensures k (omega arith) lt)) (λ lt. absurd (omega (arith, lt))))
