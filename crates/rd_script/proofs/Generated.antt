-- A generated history is well formed, and made of one exchange after the other.
use Rattle.std.proofs.Common.{◌≡◌, ℕ, zero, suc, ◌+◌, ◌%◌, ◌^◌, ◌≤◌, ◌<◌, Bool, true, false, List, [], ◌∷◌, ◌++◌, length, take, drop, refl, sym, ap, subst, ◌∙◌, arith, append_assoc, append-nil, length-append, length-drop}
use Rattle.std.specs.Prelude.{◌==◌, ◌||◌, nat_le, if◌then◌else◌, codes}
use Rattle.std.specs.List.{flat_map}
use Rattle.std.specs.Fmt.{decimal}
use Rattle.std.proofs.lemmas.List.Concat.{flat_map-append}
use Rattle.std.proofs.lemmas.Bool.Decides.{nat_tests}
use Rattle.std.proofs.lemmas.Fmt.{length-decimal-le}
use Rattle.std.proofs.lemmas.List.{length-replicate, length-take-le}
use Rattle.rd_base.specs.History.{Entry, History, may_follow, is_over, ends, read_fails, is_well_formed}
use Rattle.rd_base.specs.Words.{below}
use Rattle.rd_base.specs.declared.values.What.TheVariants.{Piece, End}
use Rattle.rd_script.specs.Generator.{drawn, sixteen_digits, last_word, request_line, reply_line, piece, reply_pieces, one_exchange, exchange_at, generated, at_zero}
use Rattle.rd_script.proofs.Kept.{more_well_formed}

-- the exchanges below one more
pub one_more : (f : ℕ → History) (m : ℕ) → flat_map f (below (m + 1)) ≡ flat_map f (below m) ++ f m
one_more f m =
    let next : m + 1 ≡ suc m = omega arith in
    ap (λ k. flat_map f (below k)) next ∙ flat_map-append f (below m) (m ∷ []) ∙ ap (λ h. flat_map f (below m) ++ h) (append-nil (f m))

pub drawn_small : (first i : ℕ) → first < 2 ^ 31 → drawn first i < 2 ^ 31
drawn_small first zero small = small
drawn_small first (suc i) small = omega arith

-- a piece that a link may give to any session of n copies
record IsGiven (n : ℕ) (link : ℕ) (bytes : List ℕ) : Type 0 where
  there : link ≤ n
  least : 1 ≤ length bytes
  most : length bytes ≤ 16384

-- a well-formed history without an end or a failed read
record IsOpen (n : ℕ) (h : History) : Type 0 where
  well : is_well_formed n h ≡ true
  reads : (l : ℕ) → is_over l h ≡ false

by_first : (first had has : Bool) → (first || had) ≡ false → (had ≡ false → has ≡ false) → (first || has) ≡ false
by_first true had has none on = none
by_first false had has none on = on none

still_reads : (l link : ℕ) (bytes : List ℕ) (h : History) → is_over l h ≡ false → is_over l (h ++ piece link bytes ∷ []) ≡ false
still_reads l link bytes [] none = refl
still_reads l link bytes (e ∷ h) none = by_first (ends l e.what || read_fails l e.what) (is_over l h) (is_over l (h ++ piece link bytes ∷ [])) none (still_reads l link bytes h)

-- a piece may follow there
piece_follows : (n link : ℕ) (bytes : List ℕ) (h : History) → IsGiven n link bytes → is_over link h ≡ false → may_follow n h (Piece (record { 0 = link }) bytes) ≡ true
piece_follows n link bytes h given none =
    let there : nat_le link n ≡ true = grind (arith, nat_tests) in
    let least : nat_le 1 (length bytes) ≡ true = grind (arith, nat_tests) in
    let most : nat_le (length bytes) 16384 ≡ true = grind (arith, nat_tests) in
    rw (there, least, most, none) refl

-- behind any such history these entries make such a history
abbrev GoOn : ℕ → History → Type 0
GoOn n xs = (h : History) → IsOpen n h → IsOpen n (h ++ xs)

none_more : (n : ℕ) → GoOn n []
none_more n h is = subst (IsOpen n) (sym (append-nil h)) is

both_more : (n : ℕ) (xs ys : History) → GoOn n xs → GoOn n ys → GoOn n (xs ++ ys)
both_more n xs ys on next h is = subst (IsOpen n) (append_assoc h xs ys) (next (h ++ xs) (on h is))

piece_more : (n link : ℕ) (bytes : List ℕ) → IsGiven n link bytes → GoOn n (piece link bytes ∷ [])
piece_more n link bytes given h is = record {
  well = more_well_formed n h (piece link bytes) is.well (piece_follows n link bytes h given (is.reads link));
  reads = λ l. still_reads l link bytes h (is.reads l);
}

each_more : (n : ℕ) (f : ℕ → History) (m : ℕ) → ((i : ℕ) → i < m → GoOn n (f i)) → GoOn n (flat_map f (below m))
each_more n f zero on = none_more n
each_more n f (suc m) on =
    subst (GoOn n) (sym (flat_map-append f (below m) (m ∷ []) ∙ ap (λ h. flat_map f (below m) ++ h) (append-nil (f m)))) (both_more n (flat_map f (below m)) (f m) (each_more n f m (λ i lt. on i (omega arith))) (on m (omega arith)))

-- the replies up to one more
pub more_replies : (before now new : History) (request : Entry) (f : ℕ → History) (m : ℕ) → now ≡ before ++ request ∷ flat_map f (below m) → new ≡ now ++ f m → new ≡ before ++ request ∷ flat_map f (below (m + 1))
more_replies before now new request f m had is =
    is ∙ ap (λ h. h ++ f m) had ∙ append_assoc before (request ∷ flat_map f (below m)) (f m) ∙ ap (λ h. before ++ request ∷ h) (sym (one_more f m))

-- a text of a line, in its length
record IsShort (text : List ℕ) : Type 0 where
  least : 1 ≤ length text
  most : length text ≤ 16384

few_digits : (number : ℕ) → number < 2 ^ 32 → length (decimal number) ≤ 10
few_digits number small = length-decimal-le 10 number (omega arith) (omega arith) (omega arith)

sixteen_few : (number : ℕ) → number < 2 ^ 32 → length (sixteen_digits number) ≤ 26
sixteen_few number small =
    let few = few_digits number small in
    simp (length-append, length-replicate) (omega arith)

reply_text_short : (turn shown word : List ℕ) → length turn ≤ 10 → length shown ≤ 10 → length word ≤ 26 → IsShort (turn ++ codes " " ++ shown ++ codes " " ++ word ++ codes "\n")
reply_text_short turn shown word a b c = record { least = simp length-append (omega arith); most = simp length-append (omega arith) }

request_text_short : (turn word : List ℕ) → length turn ≤ 10 → length word ≤ 26 → IsShort (codes "get " ++ turn ++ codes " " ++ word ++ codes "\n")
request_text_short turn word a b = record { least = simp length-append (omega arith); most = simp length-append (omega arith) }

reply_short : (j number k : ℕ) → j < 2 ^ 32 → number < 2 ^ 31 → k ≤ 8 → IsShort (reply_line j number k)
reply_short j number k turn small copy =
    reply_text_short (decimal j) (decimal number) (last_word number k) (few_digits j turn) (few_digits number (omega arith)) (sixteen_few (number + k) (omega arith))

request_short : (j before : ℕ) (first : Bool) → j < 2 ^ 32 → before < 2 ^ 31 → IsShort (if first then codes "get 1\n" else codes "get " ++ decimal j ++ codes " " ++ last_word before 0 ++ codes "\n")
request_short j before true turn small = record { least = omega arith; most = omega arith }
request_short j before false turn small =
    request_text_short (decimal j) (last_word before 0) (few_digits j turn) (sixteen_few (before + 0) (omega arith))

pieces_more : (n link place : ℕ) (text : List ℕ) (whole : Bool) → (place == 0) ≡ whole → link ≤ n → IsShort text → place < length text → GoOn n (if whole then piece link text ∷ [] else piece link (take place text) ∷ piece link (drop place text) ∷ [])
pieces_more n link place text true is there short within = piece_more n link text (record { there = there; least = short.least; most = short.most })
pieces_more n link place text false is there short within =
    let some : 1 ≤ place = grind (arith, nat_tests) in
    let taken = length-take-le place text (omega arith) in
    let most = short.most in
    let front : IsGiven n link (take place text) = record { there = there; least = omega arith; most = omega arith } in
    let left = length-drop place text in
    let rest : IsGiven n link (drop place text) = record { there = there; least = omega arith; most = omega arith } in
    both_more n (piece link (take place text) ∷ []) (piece link (drop place text) ∷ []) (piece_more n link (take place text) front) (piece_more n link (drop place text) rest)

reply_more : (n j number k : ℕ) → j < 2 ^ 32 → number < 2 ^ 31 → k ≤ n → n ≤ 8 → GoOn n (reply_pieces j number k)
reply_more n j number k turn small copy most =
    let short = reply_short j number k turn small (omega arith) in
    let text = reply_line j number k in
    let some : 1 ≤ length text = short.least in
    let within : number % length text < length text = omega arith in
    pieces_more n k (number % length text) text (number % length text == 0) refl copy short within

exchange_more : (n j before number : ℕ) → 3 ≤ n → n ≤ 8 → j < 2 ^ 32 → before < 2 ^ 31 → number < 2 ^ 31 → GoOn n (one_exchange n j before number)
exchange_more n j before number least most turn had shows =
    let short = request_short j before (j == 1) turn had in
    both_more n (piece n (request_line j before) ∷ []) (flat_map (λ i. reply_pieces j number ((j + i) % n)) (below n)) (piece_more n n (request_line j before) (record { there = omega arith; least = short.least; most = short.most })) (each_more n (λ i. reply_pieces j number ((j + i) % n)) n (λ i lt. reply_more n j number ((j + i) % n) turn shows (omega arith) most))

-- the client's end may follow there
end_follows : (n : ℕ) (h : History) → is_over n h ≡ false → may_follow n h (End (record { 0 = n })) ≡ true
end_follows n h none =
    let there : nat_le n n ≡ true = grind (arith, nat_tests) in
    rw (there, none) refl

pub generated_well_formed : (n number : ℕ) → 3 ≤ n → n ≤ 8 → number ≤ 9999 → is_well_formed n (generated n number).entries ≡ true
generated_well_formed n number least most few =
    let empty : IsOpen n [] = record { well = refl; reads = λ l. refl } in
    let all = each_more n (exchange_at n number) number (λ i lt. exchange_more n (i + 1) (drawn number i) (drawn number (i + 1)) least most (omega arith) (drawn_small number i (omega arith)) (drawn_small number (i + 1) (omega arith))) in
    let open_so = all [] empty in
    more_well_formed n (flat_map (exchange_at n number) (below number)) (at_zero (End (record { 0 = n }))) open_so.well (end_follows n (flat_map (exchange_at n number) (below number)) (open_so.reads n))
