-- What holds of the entries that lines are read to.
use Rattle.std.proofs.Common.{◌≡◌, ℕ, ◌+◌, ◌≤◌, ◌<◌, Bool, true, false, List, [], ◌∷◌, ◌++◌, length, Option, Some, None, option_map, Result, Ok, Err, refl, subst, arith, append_assoc, append-nil, length-append}
use Rattle.std.specs.Prelude.{if◌then◌else◌, ◌==◌, nat_lt}
use Rattle.std.proofs.lemmas.Bool.{and_parts, and_from}
use Rattle.std.proofs.lemmas.Bool.Decides.{nat_tests}
use Rattle.rd_base.specs.History.{Row, Entry, History, may_follow, follows_well, is_well_formed}
use Rattle.rd_base.specs.declared.values.Happening.{Happening}
use Rattle.rd_base.specs.declared.values.Side.{Side}
use Rattle.rd_base.specs.declared.values.What.{What}
use Rattle.rd_script.specs.Script.{LinesRead, nothing_read, read_lines, words_of, at_end, go_on, with_line, with_row, with_happening, entry_of, is_told, told_row, happening_of, admitted, may_stand}

no_entries : (number : ℕ) (h : History) → ◌≡◌ {A = Result History ℕ} (Err number) (Ok h) → ⊥
no_entries number h is = cc

-- what each entry that may stand keeps
record Keeps (n : ℕ) (P : History → Type 0) : Type 0 where
  keeps : (seen : History) (e : Entry) → may_stand n seen e.what ≡ true → P seen → P (seen ++ e ∷ [])

by_test : (n : ℕ) (P : History → Type 0) → Keeps n P → (read next : LinesRead) (h : Happening) (b : Bool) → may_stand n read.entries h.what ≡ b → option_map (with_happening read) (if b then Some h else None) ≡ Some next → P read.entries → P next.entries
by_test n P k read next h true stands is p =
    let same : Some (with_happening read h) ≡ Some next = is in
    let here : with_happening read h ≡ next = cc in
    subst (λ (r : LinesRead). P r.entries) here (k.keeps read.entries (entry_of h read.told) stands p)
by_test n P k read next h false stands is p = let no : None ≡ Some next = is in cc

by_happening : (n : ℕ) (P : History → Type 0) → Keeps n P → (read next : LinesRead) (o : Option Happening) → option_map (with_happening read) (admitted n read.entries o) ≡ Some next → P read.entries → P next.entries
by_happening n P k read next None is p = let no : None ≡ Some next = is in cc
by_happening n P k read next (Some h) is p = by_test n P k read next h (may_stand n read.entries h.what) refl is p

by_row : (P : History → Type 0) (read next : LinesRead) (o : Option Row) → option_map (with_row read) o ≡ Some next → P read.entries → P next.entries
by_row P read next None is p = let no : None ≡ Some next = is in cc
by_row P read next (Some row) is p =
    let same : Some (with_row read row) ≡ Some next = is in
    let here : with_row read row ≡ next = cc in
    subst (λ (r : LinesRead). P r.entries) here p

by_line : (n : ℕ) (P : History → Type 0) → Keeps n P → (read next : LinesRead) (told : Bool) (row : Option Row) (o : Option Happening) → (if told then option_map (with_row read) row else option_map (with_happening read) (admitted n read.entries o)) ≡ Some next → P read.entries → P next.entries
by_line n P k read next true row o is p = by_row P read next row is p
by_line n P k read next false row o is p = by_happening n P k read next o is p

-- a good line, and what lines come to behind it
record GoesOn (o : Option LinesRead) (go : LinesRead → Result History ℕ) (h : History) : Type 0 where
  next : LinesRead
  is : o ≡ Some next
  goes : go next ≡ Ok h

goes_on : (number : ℕ) (o : Option LinesRead) (go : LinesRead → Result History ℕ) (h : History) → go_on o number go ≡ Ok h → GoesOn o go h
goes_on number None go h is = absurd (no_entries number h is)
goes_on number (Some next) go h is = record { next = next; is = refl; goes = is }

none_waits : (number : ℕ) (seen h : History) (line : ℕ) (b : Bool) → (if b then Ok seen else Err line) ≡ Ok h → seen ≡ h
none_waits number seen h line true is = let same : ◌≡◌ {A = Result History ℕ} (Ok seen) (Ok h) = is in cc
none_waits number seen h line false is = absurd (no_entries line h is)

ends_so : (number : ℕ) (read : LinesRead) (h : History) (b : Bool) → (if b then at_end number read else Err number) ≡ Ok h → read.entries ≡ h
ends_so number read h true is = none_waits number read.entries h _ (length read.told == 0) is
ends_so number read h false is = absurd (no_entries number h is)

-- what each entry keeps holds at the end
kept : (n : ℕ) (P : History → Type 0) → Keeps n P → (side : Side) (number : ℕ) (read : LinesRead) (parts : List (List ℕ)) (h : History) → read_lines n side number read parts ≡ Ok h → P read.entries → P h
kept n P k side number read [] h is p = absurd (no_entries number h is)
kept n P k side number read (rest ∷ []) h is p = subst P (ends_so number read h (length rest == 0) is) p
kept n P k side number read (line ∷ next ∷ more) h is p =
    let on = goes_on number (with_line n side read (words_of line)) (λ r. read_lines n side (number + 1) r (next ∷ more)) h is in
    kept n P k side (number + 1) on.next (next ∷ more) h on.goes (by_line n P k read on.next (is_told (words_of line)) (told_row n side (words_of line)) (happening_of n (words_of line)) on.is p)

more_follows : (n : ℕ) (seen xs : History) (e : Entry) → follows_well n seen xs ≡ true → may_follow n (seen ++ xs) e.what ≡ true → follows_well n seen (xs ++ e ∷ []) ≡ true
more_follows n seen [] e well may = and_from _ _ (rw append-nil at may) refl
more_follows n seen (x ∷ xs) e well may =
    let parts = and_parts (may_follow n seen x.what) (follows_well n (seen ++ x ∷ []) xs) well in
    and_from _ _ parts.0 (more_follows n (seen ++ x ∷ []) xs e parts.1 (rw append_assoc may))

-- one entry more that may follow
pub more_well_formed : (n : ℕ) (h : History) (e : Entry) → is_well_formed n h ≡ true → may_follow n h e.what ≡ true → is_well_formed n (h ++ e ∷ []) ≡ true
more_well_formed n h e well may = more_follows n [] h e well may

pub well_formed : (n : ℕ) (side : Side) (number : ℕ) (parts : List (List ℕ)) (h : History) → read_lines n side number nothing_read parts ≡ Ok h → is_well_formed n h ≡ true
well_formed n side number parts h is =
    kept n (λ g. is_well_formed n g ≡ true) (record { keeps = λ seen e stands well. more_well_formed n seen e well (and_parts (nat_lt (length seen) 1048576) (may_follow n seen e.what) stands).1 }) side number nothing_read parts h is refl

room : (n : ℕ) (seen : History) (what : What) → may_stand n seen what ≡ true → length seen < 1048576
room n seen what stands = grind (arith, nat_tests)

pub few : (n : ℕ) (side : Side) (number : ℕ) (parts : List (List ℕ)) (h : History) → read_lines n side number nothing_read parts ≡ Ok h → length h ≤ 1048576
few n side number parts h is =
    kept n (λ g. length g ≤ 1048576) (record { keeps = λ seen e stands _. let here = room n seen e.what stands in omega (arith, length-append seen (e ∷ [])) }) side number nothing_read parts h is (omega arith)
