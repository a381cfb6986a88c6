-- What a book is asked and told, call by call.
use Rattle.std.proofs.Common.{◌≡◌, ℕ, zero, suc, ◌+◌, ◌<◌, ◌≤◌, List, [], ◌∷◌, ◌++◌, length, map, take, drop, get_or, Option, Some, None, refl, sym, ap, ap₂, subst, ◌∙◌, append_assoc, append-nil, arith, ⊎_elim, ◌⊎◌, inl, inr}
use Rattle.std.specs.Prelude.{min, true, Result, Ok, Err, OnErr}
use Rattle.std.specs.List.{flat_map}
use Rattle.std.proofs.lemmas.List.{take-append-drop, take-take}
use Rattle.std.proofs.lemmas.List.Concat.{flat_map-append}
use Rattle.rd_base.specs.History.{History, Entry, Row, is_well_formed}
use Rattle.rd_base.specs.declared.values.Happening.{Happening}
use Rattle.rd_core.specs.Clocks.{entry_of}
use Rattle.rd_rules.specs.Exchange.{Rules}
use Rattle.rd_rules.specs.Wanted.{wanted, distinct, unknown_words, released_past}
use Rattle.rd_base.specs.Outside.{IsPrefixOf}
use Rattle.rd_token_map.specs.BookCalls.{BookCall, Found, Learned, told_call}
use Rattle.rd_turn.specs.Books.{Lookup, FindsAll, LooksUp, row_of, rows_of, words_of, calls_of, told_calls}

pub map_snoc : {A B : Type 0} (f : A → B) (xs : List A) (x : A) → map f (xs ++ x ∷ []) ≡ map f xs ++ f x ∷ []
map_snoc f [] x = refl
map_snoc f (y ∷ xs) x = ap (λ l. f y ∷ l) (map_snoc f xs x)

pub length_snoc : {A : Type 0} (xs : List A) (x : A) → length (xs ++ x ∷ []) ≡ length xs + 1
length_snoc [] x = refl
length_snoc (y ∷ xs) x = let e = length_snoc xs x in omega (arith, e)

pub take_snoc : {A : Type 0} (xs : List A) (n : ℕ) (x : A) → n < length xs → x ≡ get_or xs n x → take n xs ++ x ∷ [] ≡ take (n + 1) xs
take_snoc [] n x lt is = absurd (omega (arith, lt))
take_snoc (y ∷ xs) zero x lt is = ap (λ z. z ∷ []) is
take_snoc (y ∷ xs) (suc n) x lt is =
    ap (λ l. y ∷ l) (take_snoc xs n x (omega (arith, lt)) is) ∙ ap (λ m. take m (y ∷ xs)) (let e : suc (n + 1) ≡ suc n + 1 = omega arith in e)

pub take_prefix : {A : Type 0} (n : ℕ) (xs : List A) → IsPrefixOf (take n xs) xs
take_prefix n xs = record { rest = drop n xs; is = take-append-drop n xs }

pub nil_prefix : {A : Type 0} (xs : List A) → IsPrefixOf [] xs
nil_prefix xs = record { rest = xs; is = refl }

pub take_whole : {A : Type 0} (n : ℕ) (xs : List A) → length xs ≤ n → take n xs ≡ xs
take_whole zero [] le = refl
take_whole zero (x ∷ xs) le = absurd (omega (arith, le))
take_whole (suc n) [] le = refl
take_whole (suc n) (x ∷ xs) le = ap (λ l. x ∷ l) (take_whole n xs (omega (arith, le)))

pub whole_prefix : {A : Type 0} (xs ys : List A) → xs ≡ ys → IsPrefixOf xs ys
whole_prefix xs ys same = record { rest = []; is = append-nil xs ∙ same }

pub take_least : {A : Type 0} (n : ℕ) (xs : List A) (place : ℕ) → place ≤ length xs → place ≤ n → (length xs ≤ place) ⊎ (n ≤ place) → take place xs ≡ take n xs
take_least n xs place within most (inl all) = take_whole place xs all ∙ sym (take_whole n xs (omega (arith, all, most)))
take_least n xs place within most (inr full) = ap (λ m. take m xs) (let e : place ≡ n = omega (arith, full, most) in e)

pub least_end : (len n place : ℕ) → min len n ≤ place → (len ≤ place) ⊎ (n ≤ place)
least_end zero n place le = inl (omega arith)
least_end (suc len) zero place le = inr (omega arith)
least_end (suc len) (suc n) zero le = absurd (omega (arith, le))
least_end (suc len) (suc n) (suc place) le = ⊎_elim (λ t. inl (omega (arith, t))) (λ t. inr (omega (arith, t))) (least_end len n place (omega (arith, le)))

pub rows_few : (found : List Lookup) → length (rows_of found) ≤ length found
rows_few [] = omega arith
rows_few (l ∷ found) = by l.row (rows_few found)
  where
    by : (o : Option Row) → length (rows_of found) ≤ length found → length (row_of o ++ rows_of found) ≤ suc (length found)
    by None le = omega (arith, le)
    by (Some row) le = let more : length (row ∷ rows_of found) ≡ suc (length (rows_of found)) = refl in omega (arith, le, more)

-- ---- calls

pub calls_none : (b : Option (List BookCall)) → told_calls b [] ≡ b
calls_none None = refl
calls_none (Some had) = ap Some (append-nil had)

pub calls_join : (b : Option (List BookCall)) (xs ys : List BookCall) → told_calls (told_calls b xs) ys ≡ told_calls b (xs ++ ys)
calls_join None xs ys = refl
calls_join (Some had) xs ys = ap Some (append_assoc had xs ys)

abbrev found_call : Lookup → BookCall
found_call l = Found l.word l.row

pub found_more : (b b1 b2 : Option (List BookCall)) (found : List Lookup) (word : List ℕ) (answer : Option Row)
    → b1 ≡ told_calls b (calls_of found []) → b2 ≡ told_call b1 (Found word answer)
    → b2 ≡ told_calls b (calls_of (found ++ record { word = word; row = answer } ∷ []) [])
found_more b b1 b2 found word answer first then =
    let l : Lookup = record { word = word; row = answer } in
    let lists : calls_of found [] ++ found_call l ∷ [] ≡ calls_of (found ++ l ∷ []) [] =
    ap (λ x. x ++ found_call l ∷ []) (append-nil (map found_call found)) ∙ sym (map_snoc found_call found l) ∙ sym (append-nil (map found_call (found ++ l ∷ []))) in
    then ∙ ap (λ x. told_calls x (found_call l ∷ [])) first ∙ calls_join b (calls_of found []) (found_call l ∷ []) ∙ ap (told_calls b) lists

pub learn_more : (b b1 b2 : Option (List BookCall)) (learnt : List Row) (row : Row)
    → b1 ≡ told_calls b (calls_of [] learnt) → b2 ≡ told_call b1 (Learned row)
    → b2 ≡ told_calls b (calls_of [] (learnt ++ row ∷ []))
learn_more b b1 b2 learnt row first then =
    then ∙ ap (λ x. told_calls x (Learned row ∷ [])) first ∙ calls_join b (map Learned learnt) (Learned row ∷ []) ∙ ap (told_calls b) (sym (map_snoc Learned learnt row))

pub calls_both : (b b1 b2 : Option (List BookCall)) (found : List Lookup) (learnt : List Row)
    → b1 ≡ told_calls b (calls_of found []) → b2 ≡ told_calls b1 (calls_of [] learnt) → b2 ≡ told_calls b (calls_of found learnt)
calls_both b b1 b2 found learnt first then =
    then ∙ ap (λ x. told_calls x (map Learned learnt)) first ∙ calls_join b (calls_of found []) (map Learned learnt)
    ∙ ap (λ x. told_calls b (x ++ map Learned learnt)) (append-nil (map found_call found))

pub rows_more : (found : List Lookup) (word : List ℕ) (row : Row) → rows_of (found ++ record { word = word; row = Some row } ∷ []) ≡ rows_of found ++ row ∷ []
rows_more found word row = flat_map-append (λ (l : Lookup). row_of l.row) found (record { word = word; row = Some row } ∷ [])

pub rows_same : (found : List Lookup) (word : List ℕ) → rows_of (found ++ record { word = word; row = None } ∷ []) ≡ rows_of found
rows_same found word = flat_map-append (λ (l : Lookup). row_of l.row) found (record { word = word; row = None } ∷ []) ∙ append-nil (rows_of found)

pub words_more : (found : List Lookup) (word : List ℕ) (answer : Option Row) (words : List (List ℕ)) (n : ℕ) → n < length words → word ≡ get_or words n word
    → words_of found ≡ take n words → words_of (found ++ record { word = word; row = answer } ∷ []) ≡ take (n + 1) words
words_more found word answer words n lt is so_far =
    map_snoc (λ (l : Lookup). l.word) found (record { word = word; row = answer }) ∙ ap (λ x. x ++ word ∷ []) so_far ∙ take_snoc words n word lt is

-- ---- what a happening wants

wanted_whole : (r : Rules) (h : History) (e : Entry) → take 4096 (wanted r h e) ≡ wanted r h e
wanted_whole r h e = take-take 4096 4096 (distinct (flat_map (unknown_words r) (released_past r h (h ++ e ∷ [])))) (omega arith)

pub looked_up : {E : Type 0} (r : Rules) (at : History → Type 0) (happening : Happening) (book book' : Option (List BookCall)) (words : List (List ℕ)) (result : Result (List Row) E)
    → ((h : History) → is_well_formed r.limits.copies (h ++ entry_of happening [] ∷ []) ≡ true → at h → words ≡ wanted r h (entry_of happening []))
    → FindsAll words book book' result
    → LooksUp r at happening book book' result
looked_up r at happening book book' words (Ok rows) wants x = record {
  found = x.found;
  calls = x.calls;
  few = x.few;
  rows = x.ok.0;
  ok = λ h well at_h. x.ok.1 ∙ ap (take 4096) (wants h well at_h) ∙ wanted_whole r h (entry_of happening []);
  err = tt;
}
looked_up r at happening book book' words (Err e) wants x = record {
  found = x.found;
  calls = x.calls;
  few = x.few;
  rows = tt;
  ok = tt;
  err = λ h well at_h. subst (IsPrefixOf (words_of x.found)) (wants h well at_h) x.err;
}

pub at_error : {T E P : Type 0} (r : Result T E) → P → OnErr r P
at_error (Ok x) p = tt
at_error (Err e) p = p
