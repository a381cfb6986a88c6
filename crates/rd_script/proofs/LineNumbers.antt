-- The number of a bad line is no larger than the text lets it be.
use Rattle.std.proofs.Common.{◌≡◌, ℕ, ◌+◌, ◌-◌, ◌^◌, ◌≤◌, ◌<◌, Bool, true, false, List, [], ◌∷◌, length, Option, Some, None, Result, Ok, Err, refl, ap, arith}
use Rattle.std.specs.Prelude.{if◌then◌else◌, ◌==◌, min, IsErrAnd}
use Rattle.std.proofs.lemmas.List.Splits.{length-slice_split}
use Rattle.std.proofs.lemmas.List.Sums.{count_by-le-length}
use Rattle.rd_base.specs.History.{History}
use Rattle.rd_base.specs.declared.values.Side.{Side}
use Rattle.rd_script.specs.Script.{ScriptState, LinesRead, nothing_read, script_of, read_parts, read_lines, with_side, with_entries, with_line, go_on, side_of, words_of, parts_of}

-- a bad line has at most this number
abbrev Within : {R : Type 0} → ℕ → Result R ℕ → Type 0
Within {R} most r = (line : ℕ) → r ≡ Err line → line ≤ most

here : {R : Type 0} (number most : ℕ) → number ≤ most → Within {R = R} most (Err number)
here {R} number most le line is = let same : ◌≡◌ {A = Result R ℕ} (Err number) (Err line) = is in let e : number ≡ line = cc in omega arith

fine : {R : Type 0} (r : R) (most : ℕ) → Within {R = R} most (Ok r)
fine {R} r most line is = let no : ◌≡◌ {A = Result R ℕ} (Ok r) (Err line) = is in cc

at_last : (number most waiting : ℕ) (entries : History) (b c : Bool) → number ≤ most → Within most (if b then (if c then Ok entries else Err (number - waiting)) else Err number)
at_last number most waiting entries true true le = fine entries most
at_last number most waiting entries true false le = here (number - waiting) most (omega arith)
at_last number most waiting entries false c le = here number most le

on_go : (number most : ℕ) (o : Option LinesRead) (go : LinesRead → Result History ℕ) → number ≤ most → ((r : LinesRead) → Within most (go r)) → Within most (go_on o number go)
on_go number most None go le on = here number most le
on_go number most (Some r) go le on = on r

within : (n : ℕ) (side : Side) (number : ℕ) (read : LinesRead) (parts : List (List ℕ)) (most : ℕ) → number + length parts ≤ most → Within most (read_lines n side number read parts)
within n side number read [] most le = here number most (omega arith)
within n side number read (rest ∷ []) most le = at_last number most (length read.told) read.entries (length rest == 0) (length read.told == 0) (omega arith)
within n side number read (line ∷ next ∷ more) most le =
    on_go number most (with_line n side read (words_of line)) (λ r. read_lines n side (number + 1) r (next ∷ more)) (omega arith) (λ r. within n side (number + 1) r (next ∷ more) most (omega arith))

of_entries : (side : Side) (r : Result History ℕ) (most : ℕ) → Within most r → Within most (with_entries side r)
of_entries side (Err number) most all = here number most (all number refl)
of_entries side (Ok entries) most all = fine _ most

of_side : (n : ℕ) (side : Option Side) (parts : List (List ℕ)) (most : ℕ) → 2 + length parts ≤ most → Within most (with_side n side parts)
of_side n None parts most le = here 1 most (omega arith)
of_side n (Some side) parts most le = of_entries side (read_lines n side 2 nothing_read parts) most (within n side 2 nothing_read parts most le)

of_parts : (n : ℕ) (parts : List (List ℕ)) (most : ℕ) → 1 + length parts ≤ most → Within most (read_parts n parts)
of_parts n [] most le = here 1 most (omega arith)
of_parts n (first ∷ []) most le = here 1 most (omega arith)
of_parts n (first ∷ next ∷ more) most le = of_side n (side_of (words_of first)) (next ∷ more) most (omega arith)

least : (r : Result ScriptState ℕ) (number most : ℕ) → Within most r → most ≤ 2 ^ 32 - 1 → IsErrAnd r (λ line. number ≡ min line (2 ^ 32 - 1)) → r ≡ Err number
least (Err line) number most all le is =
    let few : line ≤ most = all line refl in
    let same : line ≡ number = omega arith in
    ap Err same
least (Ok script) number most all le is = absurd is

-- in a text of less than 2^31 bytes the refusal names the first bad line itself
pub first_bad_line : (n number : ℕ) (text : List ℕ) → length text < 2 ^ 31 → IsErrAnd (script_of n text) (λ line. number ≡ min line (2 ^ 32 - 1)) → script_of n text ≡ Err number
first_bad_line n number text few is =
    least (script_of n text) number (length text + 2) (of_parts n (parts_of text) (length text + 2) (omega (arith, length-slice_split (λ b. b == 10) text, count_by-le-length (λ b. b == 10) text))) (omega arith) is
