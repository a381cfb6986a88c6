-- What is kept of the copies, with a token more or an end.
use Rattle.std.proofs.Common.{◌≡◌, ℕ, zero, suc, ◌+◌, ◌<◌, Bool, true, false, not, List, [], ◌∷◌, ◌++◌, length, map, get_or, set, drop, Some, None, refl, ap, sym, subst, ◌∙◌, arith}
use Rattle.std.specs.Prelude.{slice_get, IfSome}
use Rattle.std.proofs.lemmas.List.{length_push, drop_all, drop-drop, drop-append-le}
use Rattle.std.proofs.lemmas.Option.{slice_get_past}
use Rattle.rd_base.specs.Token.{Token}
use Rattle.rd_base.specs.Heard.{Heard, lists_of}
use Rattle.rd_stream_verdict.specs.Said.{at_place, with_token, with_end}
use Rattle.rd_stream_verdict.specs.Kept.{CopyKept, kept_of}
use Rattle.rd_stream_verdict.specs.Heads.{is_behind, none_behind, only_behind, counted, waits, closed, passed, cleared, heads_with}
use Rattle.rd_stream_verdict.proofs.Reached.{Reaches, IsOpen, and_parts, behind_open}
use Rattle.rd_stream_verdict.proofs.ByHeads.{heads_at}
use Rattle.rd_stream_verdict.proofs.Same.{AreSame}

-- ---- one list's tokens

get_drop : (q : ℕ) (xs : List Token) → slice_get (drop q xs) 0 ≡ slice_get xs q
get_drop zero xs = refl
get_drop (suc q) [] = refl
get_drop (suc q) (x ∷ xs) = get_drop q xs

get_push : (xs : List Token) (t : Token) (q : ℕ) → length xs ≡ q → slice_get (xs ++ t ∷ []) q ≡ Some t
get_push [] t zero e = refl
get_push [] t (suc q) e = absurd (omega arith)
get_push (x ∷ xs) t zero e = absurd (omega arith)
get_push (x ∷ xs) t (suc q) e = get_push xs t q (omega arith)

get_front : (xs : List Token) (t : Token) (p : ℕ) → p < length xs → slice_get xs p ≡ slice_get (xs ++ t ∷ []) p
get_front [] t p lt = absurd (omega arith)
get_front (x ∷ xs) t zero lt = refl
get_front (x ∷ xs) t (suc p) lt = get_front xs t p (omega arith)

-- ---- the tokens at a place

pub heads_rest : (q : ℕ) (h : List Heard) → map (λ c. slice_get c.waiting 0) (map (kept_of true q) h) ≡ heads_at (lists_of h) q
heads_rest q [] = refl
heads_rest q (c ∷ h) =
    ap (λ o. o ∷ map (λ c. slice_get c.waiting 0) (map (kept_of true q) h)) (get_drop q c.tokens)
    ∙ ap (λ os. slice_get c.tokens q ∷ os) (heads_rest q h)

pub heads_token : (k q : ℕ) (t : Token) (h : List Heard) → only_behind k (map (kept_of true q) h) ≡ true → Reaches q h → heads_with k (Some t) (map (kept_of true q) h) ≡ heads_at (lists_of (with_token k t h)) q
heads_token k q t [] only reaches = absurd (cc only)
heads_token zero q t (c ∷ h) only reaches =
    let here = behind_open q c (and_parts (is_behind (kept_of true q c)) (none_behind (map (kept_of true q) h)) only).0 in
    let size : length c.tokens ≡ q = omega (arith, here.1, reaches.0 here.0) in
    ap (λ o. o ∷ map (λ c. slice_get c.waiting 0) (map (kept_of true q) h)) (sym (get_push c.tokens t q size))
    ∙ ap (λ os. slice_get (c.tokens ++ t ∷ []) q ∷ os) (heads_rest q h)
heads_token (suc k) q t (c ∷ h) only reaches =
    ap (λ o. o ∷ heads_with k (Some t) (map (kept_of true q) h)) (get_drop q c.tokens)
    ∙ ap (λ os. slice_get c.tokens q ∷ os) (heads_token k q t h (and_parts (not (is_behind (kept_of true q c))) (only_behind k (map (kept_of true q) h)) only).1 reaches.1)

pub heads_end : (k q : ℕ) (h : List Heard) → only_behind k (map (kept_of true q) h) ≡ true → heads_with k None (map (kept_of true q) h) ≡ heads_at (lists_of h) q
heads_end k q [] only = absurd (cc only)
heads_end zero q (c ∷ h) only =
    let here = behind_open q c (and_parts (is_behind (kept_of true q c)) (none_behind (map (kept_of true q) h)) only).0 in
    ap (λ o. o ∷ map (λ c. slice_get c.waiting 0) (map (kept_of true q) h)) (sym (slice_get_past c.tokens q here.1))
    ∙ ap (λ os. slice_get c.tokens q ∷ os) (heads_rest q h)
heads_end (suc k) q (c ∷ h) only =
    ap (λ o. o ∷ heads_with k None (map (kept_of true q) h)) (get_drop q c.tokens)
    ∙ ap (λ os. slice_get c.tokens q ∷ os) (heads_end k q h (and_parts (not (is_behind (kept_of true q c))) (only_behind k (map (kept_of true q) h)) only).1)

heads_front : (k q p : ℕ) (t : Token) (h : List Heard) → IsOpen k h → Reaches q h → p < q → heads_at (lists_of h) p ≡ heads_at (lists_of (with_token k t h)) p
heads_front k q p t [] may reaches lt = refl
heads_front zero q p t (c ∷ h) may reaches lt =
    ap (λ o. o ∷ heads_at (lists_of h) p) (get_front c.tokens t p (omega (arith, reaches.0 may)))
heads_front (suc k) q p t (c ∷ h) may reaches lt = ap (λ os. slice_get c.tokens p ∷ os) (heads_front k q p t h may reaches.1 lt)

pub same_token : (k q : ℕ) (t : Token) (h : List Heard) → IsOpen k h → Reaches q h → AreSame q (lists_of h) (lists_of (with_token k t h))
same_token k q t h may reaches = record { heads = λ p lt. heads_front k q p t h may reaches lt }

-- ---- what is kept

kept_same : (m n : ℕ) (xs ys : List Token) (b : Bool) → m ≡ n → xs ≡ ys → ◌≡◌ {A = CopyKept} (record { fed = m; waiting = xs; is_whole = b }) (record { fed = n; waiting = ys; is_whole = b })
kept_same m n xs ys b e f =
    let one : ℕ → CopyKept = λ i. record { fed = i; waiting = xs; is_whole = b } in
    let two : List Token → CopyKept = λ zs. record { fed = n; waiting = zs; is_whole = b } in
    ap one e ∙ ap two f

pub kept_wait : (k q : ℕ) (t : Token) (h : List Heard) → IsOpen k h → Reaches q h → at_place (waits t) k (map (kept_of true q) h) ≡ map (kept_of true q) (with_token k t h)
kept_wait k q t [] may reaches = refl
kept_wait zero q t (c ∷ h) may reaches =
    ap (λ x. x ∷ map (kept_of true q) h) (kept_same (length c.tokens + 1) (length (c.tokens ++ t ∷ [])) (drop q c.tokens ++ t ∷ []) (drop q (c.tokens ++ t ∷ [])) c.is_whole (sym (length_push c.tokens t)) (sym (drop-append-le q c.tokens (t ∷ []) (reaches.0 may))))
kept_wait (suc k) q t (c ∷ h) may reaches = ap (λ xs. kept_of true q c ∷ xs) (kept_wait k q t h may reaches.1)

passed_rest : (q : ℕ) (h : List Heard) → map passed (map (kept_of true q) h) ≡ map (kept_of true (q + 1)) h
passed_rest q [] = refl
passed_rest q (c ∷ h) =
    ap (λ x. x ∷ map passed (map (kept_of true q) h)) (kept_same (length c.tokens) (length c.tokens) (drop 1 (drop q c.tokens)) (drop (q + 1) c.tokens) c.is_whole refl (drop-drop 1 q c.tokens))
    ∙ ap (λ xs. kept_of true (q + 1) c ∷ xs) (passed_rest q h)

pub kept_pass : (k q : ℕ) (t : Token) (h : List Heard) → only_behind k (map (kept_of true q) h) ≡ true → at_place counted k (map passed (map (kept_of true q) h)) ≡ map (kept_of true (q + 1)) (with_token k t h)
kept_pass k q t [] only = refl
kept_pass zero q t (c ∷ h) only =
    let here = behind_open q c (and_parts (is_behind (kept_of true q c)) (none_behind (map (kept_of true q) h)) only).0 in
    let size : length (c.tokens ++ t ∷ []) ≡ length c.tokens + 1 = length_push c.tokens t in
    let none : drop 1 (drop q c.tokens) ≡ drop (q + 1) (c.tokens ++ t ∷ []) = drop-drop 1 q c.tokens ∙ drop_all (q + 1) c.tokens (omega (arith, here.1)) ∙ sym (drop_all (q + 1) (c.tokens ++ t ∷ []) (omega (arith, here.1))) in
    ap (λ x. x ∷ map passed (map (kept_of true q) h)) (kept_same (length c.tokens + 1) (length (c.tokens ++ t ∷ [])) (drop 1 (drop q c.tokens)) (drop (q + 1) (c.tokens ++ t ∷ [])) c.is_whole (sym size) none)
    ∙ ap (λ xs. kept_of true (q + 1) (record { tokens = c.tokens ++ t ∷ []; is_whole = c.is_whole }) ∷ xs) (passed_rest q h)
kept_pass (suc k) q t (c ∷ h) only =
    ap (λ x. x ∷ at_place counted k (map passed (map (kept_of true q) h))) (kept_same (length c.tokens) (length c.tokens) (drop 1 (drop q c.tokens)) (drop (q + 1) c.tokens) c.is_whole refl (drop-drop 1 q c.tokens))
    ∙ ap (λ xs. kept_of true (q + 1) c ∷ xs) (kept_pass k q t h (and_parts (not (is_behind (kept_of true q c))) (only_behind k (map (kept_of true q) h)) only).1)

cleared_rest : (b : Bool) (q m : ℕ) (h : List Heard) → map cleared (map (kept_of b q) h) ≡ map (kept_of false m) h
cleared_rest b q m [] = refl
cleared_rest b q m (c ∷ h) = ap (λ xs. kept_of false m c ∷ xs) (cleared_rest b q m h)

pub kept_clear : (k q m : ℕ) (t : Token) (h : List Heard) → at_place counted k (map cleared (map (kept_of true q) h)) ≡ map (kept_of false m) (with_token k t h)
kept_clear k q m t [] = refl
kept_clear zero q m t (c ∷ h) =
    ap (λ x. x ∷ map cleared (map (kept_of true q) h)) (kept_same (length c.tokens + 1) (length (c.tokens ++ t ∷ [])) [] [] c.is_whole (sym (length_push c.tokens t)) refl)
    ∙ ap (λ xs. kept_of false m (record { tokens = c.tokens ++ t ∷ []; is_whole = c.is_whole }) ∷ xs) (cleared_rest true q m h)
kept_clear (suc k) q m t (c ∷ h) = ap (λ xs. kept_of false m c ∷ xs) (kept_clear k q m t h)

pub kept_skip : (k q m : ℕ) (t : Token) (h : List Heard) → at_place counted k (map (kept_of false q) h) ≡ map (kept_of false m) (with_token k t h)
kept_skip k q m t [] = refl
kept_skip zero q m t (c ∷ h) = ap (λ x. x ∷ map (kept_of false q) h) (kept_same (length c.tokens + 1) (length (c.tokens ++ t ∷ [])) [] [] c.is_whole (sym (length_push c.tokens t)) refl)
kept_skip (suc k) q m t (c ∷ h) = ap (λ xs. kept_of false m c ∷ xs) (kept_skip k q m t h)

pub kept_close : (b : Bool) (k q : ℕ) (h : List Heard) → at_place closed k (map (kept_of b q) h) ≡ map (kept_of b q) (with_end k h)
kept_close b k q [] = refl
kept_close b zero q (c ∷ h) = refl
kept_close b (suc k) q (c ∷ h) = ap (λ xs. kept_of b q c ∷ xs) (kept_close b k q h)

pub kept_close_clear : (k q m : ℕ) (h : List Heard) → at_place closed k (map cleared (map (kept_of true q) h)) ≡ map (kept_of false m) (with_end k h)
kept_close_clear k q m [] = refl
kept_close_clear zero q m (c ∷ h) = ap (λ xs. kept_of false m (record { tokens = c.tokens; is_whole = true }) ∷ xs) (cleared_rest true q m h)
kept_close_clear (suc k) q m (c ∷ h) = ap (λ xs. kept_of false m c ∷ xs) (kept_close_clear k q m h)

-- ---- the copy that is spoken of

pub open_of : (b : Bool) (k q : ℕ) (h : List Heard) → k < length (map (kept_of b q) h) → IfSome (slice_get (map (kept_of b q) h) k) (λ c. c.is_whole ≡ false) → IsOpen k h
open_of b k q [] lt may = absurd (omega arith)
open_of b zero q (c ∷ h) lt may = may
open_of b (suc k) q (c ∷ h) lt may = open_of b k q h (omega arith) may

-- the copy that alone is behind has been fed as many tokens as there are judged places
pub place_of : (k q : ℕ) (h : List Heard) (d : CopyKept) → only_behind k (map (kept_of true q) h) ≡ true → Reaches q h → (get_or (map (kept_of true q) h) k d).fed ≡ q
place_of k q [] d only reaches = absurd (cc only)
place_of zero q (c ∷ h) d only reaches =
    let here = behind_open q c (and_parts (is_behind (kept_of true q c)) (none_behind (map (kept_of true q) h)) only).0 in
    omega (arith, here.1, reaches.0 here.0)
place_of (suc k) q (c ∷ h) d only reaches = place_of k q h d (and_parts (not (is_behind (kept_of true q c))) (only_behind k (map (kept_of true q) h)) only).1 reaches.1

-- a write of what a change makes of the element there
pub set_place : (change : CopyKept → CopyKept) (k : ℕ) (xs : List CopyKept) (x : CopyKept) → k < length xs → x ≡ get_or xs k x → set xs k (change x) ≡ at_place change k xs
set_place change k [] x lt is = absurd (omega arith)
set_place change zero (y ∷ xs) x lt is = ap (λ z. change z ∷ xs) is
set_place change (suc k) (y ∷ xs) x lt is = ap (λ zs. y ∷ zs) (set_place change k xs x (omega arith) is)

pub length-place : {A : Type 0} (change : A → A) (k : ℕ) (xs : List A) → length (at_place change k xs) ≡ length xs
length-place change k [] = refl
length-place change zero (x ∷ xs) = refl
length-place change (suc k) (x ∷ xs) = ap (λ n. suc n) (length-place change k xs)

-- what is known of an element that is there
pub some_at : (P : CopyKept → Type 0) (k : ℕ) (xs : List CopyKept) (x : CopyKept) → k < length xs → x ≡ get_or xs k x → IfSome (slice_get xs k) P → P x
some_at P k [] x lt is p = absurd (omega arith)
some_at P zero (y ∷ xs) x lt is p = subst P (sym is) p
some_at P (suc k) (y ∷ xs) x lt is p = some_at P k xs x (omega arith) is p

pub few_mapped : (f : CopyKept → CopyKept) → ((c : CopyKept) → (f c).fed ≡ c.fed) → (m k : ℕ) (xs : List CopyKept) → IfSome (slice_get xs k) (λ c. c.fed < m) → IfSome (slice_get (map f xs) k) (λ c. c.fed < m)
few_mapped f same m k [] p = p
few_mapped f same m zero (x ∷ xs) p = omega (arith, same x, p)
few_mapped f same m (suc k) (x ∷ xs) p = few_mapped f same m k xs p
