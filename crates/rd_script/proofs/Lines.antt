-- One more line of a script.
use Rattle.std.proofs.Common.{◌≡◌, ◌==◌, ℕ, ◌+◌, ◌-◌, ◌^◌, ◌≤◌, Bool, true, false, List, [], ◌∷◌, length, Option, Some, None, option_map, Result, Ok, Err, refl, sym, ap, subst, ◌∙◌, arith, length-append}
use Rattle.std.specs.Prelude.{if◌then◌else◌, min, IsErrAnd}
use Rattle.rd_base.specs.History.{Row, History}
use Rattle.rd_base.specs.declared.values.Happening.{Happening}
use Rattle.rd_base.specs.declared.values.Side.{Side}
use Rattle.rd_script.specs.Script.{ScriptState, LinesRead, nothing_read, script_of, with_entries, read_parts, with_side, side_of, read_lines, at_end, go_on, with_line, with_row, with_happening, is_told, told_row, admitted, happening_of, parts_of, words_of}
use Rattle.rd_script.proofs.Parts.{some_part}

-- what lines come to, by what they come to with the first of them
abbrev comes_to : ℕ → Side → ℕ → List (List ℕ) → Option LinesRead → Result History ℕ
comes_to n side number parts read = go_on read number (λ r. read_lines n side (number + 1) r parts)

on_line : (n : ℕ) (side : Side) (number : ℕ) (read : LinesRead) (line : List ℕ) (parts : List (List ℕ)) → 1 ≤ length parts → read_lines n side number read (line ∷ parts) ≡ comes_to n side number parts (with_line n side read (words_of line))
on_line n side number read line [] some = absurd (omega arith)
on_line n side number read line (part ∷ parts) some = refl

on_text : (n : ℕ) (side : Side) (number : ℕ) (read : LinesRead) (line rest more : List ℕ) → parts_of rest ≡ line ∷ parts_of more → read_lines n side number read (parts_of rest) ≡ comes_to n side number (parts_of more) (with_line n side read (words_of line))
on_text n side number read line rest more cut =
    ap (read_lines n side number read) cut ∙ on_line n side number read line (parts_of more) (some_part (λ b. b == 10) more)

-- a bad line
pub refused : (n : ℕ) (side : Side) (number : ℕ) (read : LinesRead) (line rest more : List ℕ) → parts_of rest ≡ line ∷ parts_of more → with_line n side read (words_of line) ≡ None → read_lines n side number read (parts_of rest) ≡ Err number
refused n side number read line rest more cut none =
    on_text n side number read line rest more cut ∙ ap (comes_to n side number (parts_of more)) none

-- a good line
pub taken : (n : ℕ) (side : Side) (number : ℕ) (read next : LinesRead) (line rest more : List ℕ) → parts_of rest ≡ line ∷ parts_of more → with_line n side read (words_of line) ≡ Some next → read_lines n side number read (parts_of rest) ≡ read_lines n side (number + 1) next (parts_of more)
taken n side number read next line rest more cut some =
    on_text n side number read line rest more cut ∙ ap (comes_to n side number (parts_of more)) some

-- what stands behind the last line feed
pub last_part : (n : ℕ) (side : Side) (number : ℕ) (read : LinesRead) (rest : List ℕ) (is_empty : Bool) → (length rest == 0) ≡ is_empty → parts_of rest ≡ rest ∷ [] → read_lines n side number read (parts_of rest) ≡ (if is_empty then at_end number read else Err number)
last_part n side number read rest is_empty is one =
    ap (read_lines n side number read) one ∙ ap (λ b. if b then at_end number read else Err number) is

fewer_rows : (read next : LinesRead) (told : Bool) (row : Option Row) (happening : Option Happening) → (if told then option_map (with_row read) row else option_map (with_happening read) happening) ≡ Some next → length next.told ≤ length read.told + 1
fewer_rows read next true None happening is = let no : None ≡ Some next = is in cc
fewer_rows read next true (Some row) happening is =
    let same : Some (with_row read row) ≡ Some next = is in
    let here : with_row read row ≡ next = cc in
    subst (λ (r : LinesRead). length r.told ≤ length read.told + 1) here (omega (arith, length-append read.told (row ∷ [])))
fewer_rows read next false row None is = let no : None ≡ Some next = is in cc
fewer_rows read next false row (Some happening) is =
    let same : Some (with_happening read happening) ≡ Some next = is in
    let here : with_happening read happening ≡ next = cc in
    subst (λ (r : LinesRead). length r.told ≤ length read.told + 1) here (omega arith)

-- a line tells one row at most
pub one_row : (n : ℕ) (side : Side) (read next : LinesRead) (words : List (List ℕ)) → with_line n side read words ≡ Some next → length next.told ≤ length read.told + 1
one_row n side read next words is =
    fewer_rows read next (is_told words) (told_row n side words) (admitted n read.entries (happening_of n words)) is

-- the least of a line's number and the greatest number that names a line names it
pub named : {R : Type 0} (r : Result R ℕ) (line number : ℕ) → r ≡ Err line → number ≡ min line (2 ^ 32 - 1) → IsErrAnd r (λ l. number ≡ min l (2 ^ 32 - 1))
named {R} r line number is same = subst (λ (s : Result R ℕ). IsErrAnd s (λ l. number ≡ min l (2 ^ 32 - 1))) (sym is) same

on_first : (n : ℕ) (text first rest : List ℕ) → parts_of text ≡ first ∷ parts_of rest → read_parts n (parts_of text) ≡ with_side n (side_of (words_of first)) (parts_of rest)
on_first n text first rest cut = ap (read_parts n) cut ∙ first_of n first (parts_of rest) (some_part (λ b. b == 10) rest) where
  first_of : (n : ℕ) (first : List ℕ) (parts : List (List ℕ)) → 1 ≤ length parts → read_parts n (first ∷ parts) ≡ with_side n (side_of (words_of first)) parts
  first_of n first [] some = absurd (omega arith)
  first_of n first (part ∷ parts) some = refl

at_err : (P : ℕ → Type 0) (side : Side) (entries : Result History ℕ) → IsErrAnd entries P → IsErrAnd (with_entries side entries) P
at_err P side (Err number) bad = bad
at_err P side (Ok entries) bad = bad

-- behind a good first line, what the others come to is the script's
pub script_is : (n : ℕ) (side : Side) (text first rest : List ℕ) → parts_of text ≡ first ∷ parts_of rest → Some side ≡ side_of (words_of first) → script_of n text ≡ with_entries side (read_lines n side 2 nothing_read (parts_of rest))
script_is n side text first rest cut some =
    on_first n text first rest cut ∙ ap (λ s. with_side n s (parts_of rest)) (sym some)

-- so is the first bad one of them
pub bad_script : (n : ℕ) (P : ℕ → Type 0) (side : Side) (text first rest : List ℕ) → parts_of text ≡ first ∷ parts_of rest → Some side ≡ side_of (words_of first) → IsErrAnd (read_lines n side 2 nothing_read (parts_of rest)) P → IsErrAnd (script_of n text) P
bad_script n P side text first rest cut some bad =
    subst (λ (r : Result ScriptState ℕ). IsErrAnd r P) (sym (script_is n side text first rest cut some)) (at_err P side (read_lines n side 2 nothing_read (parts_of rest)) bad)
