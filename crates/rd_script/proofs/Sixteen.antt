-- A number in 16 digits.
use Rattle.std.proofs.Common.{◌≡◌, ◌+◌, ◌-◌, ℕ, false, append_assoc, sym, [], ◌++◌, length, ap, ◌∙◌, arith, append-nil}
use Rattle.std.specs.Prelude.{◌==◌, codes, replicate}
use Rattle.std.specs.Fmt.{decimal, padded_integral, format_spec, char_count}
use Rattle.rd_script.specs.Generator.{sixteen_digits, request_line}

-- what `{:016}` writes
pub sixteen : (number : ℕ) → padded_integral (format_spec 32 0 4 16 18446744073709551615) false [] (decimal number) ≡ sixteen_digits number
unfolding padded_integral char_count
sixteen number =
    let short : 16 - length (decimal number) - 0 - 0 ≡ 16 - length (decimal number) = omega arith in
    ap (λ k. replicate k 48 ++ (decimal number ++ [])) short ∙ ap (λ ds. replicate (16 - length (decimal number)) 48 ++ ds) (append-nil (decimal number))

-- a request behind another exchange, piece by piece
pub later_request : (j number : ℕ) → (j == 1) ≡ false → codes "get " ++ (decimal j ++ (codes " " ++ (replicate (16 - length (decimal number)) 48 ++ (decimal number ++ codes "\n")))) ≡ request_line j number
later_request j number later =
    let own : number + 0 ≡ number = omega arith in
    let word = append_assoc (replicate (16 - length (decimal number)) 48) (decimal number) (codes "\n") in
    let line = append_assoc (decimal j ++ codes " ") (sixteen_digits number) (codes "\n") ∙ append_assoc (decimal j) (codes " ") (sixteen_digits number ++ codes "\n") in
    rw (later, own) (ap (λ x. codes "get " ++ x) (ap (λ x. decimal j ++ (codes " " ++ x)) (sym word) ∙ sym line))
