-- A request that ends inside its target, and what follows.
use Rattle.std.proofs.Common.{◌≡◌, ℕ, zero, suc, ◌+◌, ◌<◌, Bool, true, false, List, [], ◌∷◌, ◌++◌, length, drop, ap, sym, ◌∙◌, refl, arith, length-drop, ◌&&◌, ◌==◌, nat_lt, cond, eqb, slice_index}
use Rattle.std.specs.List.{prefix_len, list_all}
use Rattle.std.proofs.lemmas.Bool.{false≢true, and_parts}
use Rattle.std.proofs.lemmas.Bool.Decides.{nat_tests}
use Rattle.std.proofs.lemmas.List.Folds.{prefix_len-append}
use Rattle.std.proofs.lemmas.List.{drop-append-le}
use Rattle.httparse.specs.Grammar.{is_token_byte, RequestHead, ReadsRequest, print_end}
use Rattle.rd_http_frame.specs.Fronts.{is_break, front_len, after_front, is_in_target, is_target_byte, goes_on, target_so_far, is_good_target, InTarget}
use Rattle.rd_http_frame.proofs.HeadLines.{head_front, from_version, prefix_len-token, drop-word}

-- what a test stops at is where it stops, whatever follows
prefix_stays : (p : ℕ → Bool) (xs ys : List ℕ) → prefix_len p xs < length xs → prefix_len p (xs ++ ys) ≡ prefix_len p xs
prefix_stays p xs ys short =
    let other : eqb (prefix_len p xs) (length xs) ≡ false = grind (arith, nat_tests, short) in
    prefix_len-append p xs ys ∙ ap (λ (t : Bool). cond t (length xs + prefix_len p ys) (prefix_len p xs)) other

front_stays : (xs ys : List ℕ) → 0 < length (after_front xs) → after_front (xs ++ ys) ≡ after_front xs ++ ys
front_stays xs ys some =
    let short : front_len xs < length xs = omega (arith, some, length-drop (front_len xs) xs) in
    ap (λ (n : ℕ). drop n (xs ++ ys)) (prefix_stays is_break xs ys short) ∙ drop-append-le (front_len xs) xs ys (omega (arith, short))

-- a method and a space are there
space_there : (text : List ℕ) → is_in_target text ≡ true → (prefix_len is_token_byte text < length text) × (list_all goes_on (target_so_far text) ≡ true)
space_there text h =
    let outer = and_parts (nat_lt 0 (prefix_len is_token_byte text)) (slice_index text (prefix_len is_token_byte text) == 32 && list_all goes_on (drop (prefix_len is_token_byte text + 1) text)) h in
    let inner = and_parts (slice_index text (prefix_len is_token_byte text) == 32) (list_all goes_on (drop (prefix_len is_token_byte text + 1) text)) outer.1 in
    (there text (prefix_len is_token_byte text) inner.0, inner.1)
  where
    there : (xs : List ℕ) (n : ℕ) → (slice_index xs n == 32) ≡ true → n < length xs
    there [] n e = absurd (false≢true e)
    there (x ∷ xs) zero e = omega arith
    there (x ∷ xs) (suc n) e = let more = there xs n e in omega (arith, more)

target_stays : (xs ys : List ℕ) → is_in_target xs ≡ true → target_so_far (xs ++ ys) ≡ target_so_far xs ++ ys
target_stays xs ys h =
    let short = (space_there xs h).0 in
    ap (λ (n : ℕ). drop (n + 1) (xs ++ ys)) (prefix_stays is_token_byte xs ys short) ∙ drop-append-le (prefix_len is_token_byte xs + 1) xs ys (omega (arith, short))

good_front : (t more u v : List ℕ) → t ++ more ≡ u ++ 32 ∷ v → list_all goes_on t ≡ true → list_all is_target_byte u ≡ true → list_all is_target_byte t ≡ true
good_front [] more u v e go good = refl
good_front (x ∷ t) more [] v e go good =
    let is : x ≡ 32 = cc e in
    let here : goes_on x ≡ true = (and_parts (goes_on x) (list_all goes_on t) go).0 in
    absurd (false≢true (ap goes_on (sym is) ∙ here))
good_front (x ∷ t) more (y ∷ u) v e go good =
    let is : x ≡ y = cc e in
    let rest : t ++ more ≡ u ++ 32 ∷ v = cc e in
    let parts = and_parts (is_target_byte y) (list_all is_target_byte u) good in
    let here : is_target_byte x ≡ true = ap is_target_byte is ∙ parts.0 in
    rw here (good_front t more u v rest (and_parts (goes_on x) (list_all goes_on t) go).1 parts.1)

-- the target of a head that goes on from these bytes has theirs
pub target_good : (buf more : List ℕ) (h : RequestHead) (rest : List ℕ) → InTarget buf → ReadsRequest (buf ++ more) h rest → list_all is_target_byte h.target ≡ true → is_good_target buf ≡ true
target_good buf more h rest inside reads good =
    let text = after_front buf in
    let some = (space_there text inside).0 in
    let behind : List ℕ = from_version h (print_end h.last ++ rest) in
    let front : after_front (buf ++ more) ≡ text ++ more = front_stays buf more (omega (arith, some)) in
    let head : target_so_far (after_front (buf ++ more)) ≡ h.target ++ 32 ∷ behind =
    ap (λ (t : List ℕ). target_so_far t) (head_front (buf ++ more) h rest reads)
    ∙ ap (λ (n : ℕ). drop (n + 1) (h.method ++ 32 ∷ (h.target ++ 32 ∷ behind))) (prefix_len-token h.method (h.target ++ 32 ∷ behind) reads.0.method.1)
    ∙ drop-word h.method (h.target ++ 32 ∷ behind) 32 in
    good_front (target_so_far text) more h.target behind
    (sym (target_stays text more inside) ∙ ap (λ (t : List ℕ). target_so_far t) (sym front) ∙ head) (space_there text inside).1 good
