-- How far all copies have come, and how far after a token more or an end.
use Rattle.std.proofs.Common.{◌≡◌, ℕ, zero, suc, ◌+◌, ◌≤◌, min, Bool, true, false, cond, not, ◌&&◌, List, [], ◌∷◌, length, map, drop, refl, ap, ◌∙◌, arith, inl, inr}
use Rattle.std.proofs.lemmas.Bool.{cases_lt}
use Rattle.std.proofs.lemmas.List.{length_push}
use Rattle.rd_base.specs.Token.{Token}
use Rattle.rd_base.specs.Words.{is_empty}
use Rattle.rd_base.specs.Heard.{Heard, judged_of, judged_places, lists_of}
use Rattle.rd_base.specs.Verdicts.{longest}
use Rattle.rd_stream_verdict.specs.Said.{with_token, with_end}
use Rattle.rd_stream_verdict.specs.Kept.{kept_of}
use Rattle.rd_stream_verdict.specs.Heads.{is_behind, none_behind, only_behind}

-- each copy is whole or has so many tokens
abbrev pub Reaches : ℕ → List Heard → Type 0
Reaches q [] = Unit {0}
Reaches q (c ∷ h) = (c.is_whole ≡ false → q ≤ length c.tokens) × Reaches q h

-- the copy is there and may have more tokens
abbrev pub IsOpen : ℕ → List Heard → Type 0
IsOpen k [] = ⊥
IsOpen zero (c ∷ h) = c.is_whole ≡ false
IsOpen (suc k) (c ∷ h) = IsOpen k h

step_least : (w : Bool) (m n : ℕ) → cond w m (min m n) ≤ m
step_least true m n = omega arith
step_least false m n = omega arith

step_in : (w : Bool) (m n : ℕ) → w ≡ false → cond w m (min m n) ≤ n
step_in true m n e = absurd (cc e)
step_in false m n e = omega arith

step_most : (w : Bool) (m n q : ℕ) → q ≤ m → (w ≡ false → q ≤ n) → q ≤ cond w m (min m n)
step_most true m n q most here = most
step_most false m n q most here = let n_most : q ≤ n = here refl in omega arith

pub judged_least : (m : ℕ) (h : List Heard) → judged_of m h ≤ m
judged_least m [] = omega arith
judged_least m (c ∷ h) =
    let next = cond c.is_whole m (min m (length c.tokens)) in
    omega (arith, judged_least next h, step_least c.is_whole m (length c.tokens))

pub judged_in : (m : ℕ) (h : List Heard) → Reaches (judged_of m h) h
judged_in m [] = tt
judged_in m (c ∷ h) =
    let next = cond c.is_whole m (min m (length c.tokens)) in
    (λ may. omega (arith, judged_least next h, step_in c.is_whole m (length c.tokens) may), judged_in next h)

pub judged_most : (m : ℕ) (h : List Heard) (q : ℕ) → q ≤ m → Reaches q h → q ≤ judged_of m h
judged_most m [] q most reaches = most
judged_most m (c ∷ h) q most reaches =
    judged_most (cond c.is_whole m (min m (length c.tokens))) h q (step_most c.is_whole m (length c.tokens) q most reaches.0) reaches.1

pub reaches_less : (p q : ℕ) (h : List Heard) → p ≤ q → Reaches q h → Reaches p h
reaches_less p q [] le reaches = tt
reaches_less p q (c ∷ h) le reaches = (λ may. omega (arith, reaches.0 may), reaches_less p q h le reaches.1)

pub longest_open : (k q : ℕ) (h : List Heard) → IsOpen k h → Reaches q h → q ≤ longest (lists_of h)
longest_open k q [] may reaches = absurd may
longest_open zero q (c ∷ h) may reaches = omega (arith, reaches.0 may)
longest_open (suc k) q (c ∷ h) may reaches = omega (arith, longest_open k q h may reaches.1)

-- ---- a copy's tokens past a place

pub waits_none : (q : ℕ) (xs : List Token) → is_empty (drop q xs) ≡ true → length xs ≤ q
waits_none zero [] e = omega arith
waits_none zero (x ∷ xs) e = absurd (cc e)
waits_none (suc q) [] e = omega arith
waits_none (suc q) (x ∷ xs) e = omega (arith, waits_none q xs e)

pub waits_some : (q : ℕ) (xs : List Token) → is_empty (drop q xs) ≡ false → q + 1 ≤ length xs
waits_some zero [] e = absurd (cc e)
waits_some zero (x ∷ xs) e = omega arith
waits_some (suc q) [] e = absurd (cc e)
waits_some (suc q) (x ∷ xs) e = omega (arith, waits_some q xs e)

pub some_waits : (q : ℕ) (xs : List Token) → q + 1 ≤ length xs → is_empty (drop q xs) ≡ false
some_waits zero [] le = absurd (omega arith)
some_waits zero (x ∷ xs) le = refl
some_waits (suc q) [] le = absurd (omega arith)
some_waits (suc q) (x ∷ xs) le = some_waits q xs (omega arith)

-- ---- copies that are behind a place

pub and_parts : (a b : Bool) → a && b ≡ true → (a ≡ true) × (b ≡ true)
and_parts true true e = (refl, refl)
and_parts true false e = absurd (cc e)
and_parts false b e = absurd (cc e)

pub behind_open : (q : ℕ) (c : Heard) → is_behind (kept_of true q c) ≡ true → (c.is_whole ≡ false) × (length c.tokens ≤ q)
behind_open q c e =
    let parts = and_parts (not c.is_whole) (is_empty (drop q c.tokens)) e in
    (go c.is_whole parts.0, waits_none q c.tokens parts.1)
  where
    go : (w : Bool) → not w ≡ true → w ≡ false
    go true e = absurd (cc e)
    go false e = refl

ahead_far : (w e : Bool) → not (not w && e) ≡ true → w ≡ false → e ≡ false
ahead_far true e p q = absurd (cc q)
ahead_far false true p q = absurd (cc p)
ahead_far false false p q = refl

far_ahead : (w e : Bool) → (w ≡ false → e ≡ false) → not (not w && e) ≡ true
far_ahead true e f = refl
far_ahead false true f = absurd (cc (f refl))
far_ahead false false f = refl

pub ahead_reaches : (q : ℕ) (c : Heard) → not (is_behind (kept_of true q c)) ≡ true → c.is_whole ≡ false → q + 1 ≤ length c.tokens
ahead_reaches q c e may = waits_some q c.tokens (ahead_far c.is_whole (is_empty (drop q c.tokens)) e may)

pub reaches_ahead : (q : ℕ) (c : Heard) → (c.is_whole ≡ false → q + 1 ≤ length c.tokens) → not (is_behind (kept_of true q c)) ≡ true
reaches_ahead q c far = far_ahead c.is_whole (is_empty (drop q c.tokens)) (λ may. some_waits q c.tokens (far may))

pub none_reaches : (q : ℕ) (h : List Heard) → none_behind (map (kept_of true q) h) ≡ true → Reaches (q + 1) h
none_reaches q [] e = tt
none_reaches q (c ∷ h) e =
    let parts = and_parts (not (is_behind (kept_of true q c))) (none_behind (map (kept_of true q) h)) e in
    (ahead_reaches q c parts.0, none_reaches q h parts.1)

pub reaches_none : (q : ℕ) (h : List Heard) → Reaches (q + 1) h → none_behind (map (kept_of true q) h) ≡ true
reaches_none q [] reaches = refl
reaches_none q (c ∷ h) reaches =
    ap (λ b. b && none_behind (map (kept_of true q) h)) (reaches_ahead q c reaches.0) ∙ reaches_none q h reaches.1

-- ---- a token more

pub token_open : (k : ℕ) (t : Token) (h : List Heard) → IsOpen k h → IsOpen k (with_token k t h)
token_open k t [] may = may
token_open zero t (c ∷ h) may = may
token_open (suc k) t (c ∷ h) may = token_open k t h may

pub token_reaches : (k q : ℕ) (t : Token) (h : List Heard) → Reaches q h → Reaches q (with_token k t h)
token_reaches k q t [] reaches = reaches
token_reaches zero q t (c ∷ h) reaches = (λ may. omega (arith, length_push c.tokens t, reaches.0 may), reaches.1)
token_reaches (suc k) q t (c ∷ h) reaches = (reaches.0, token_reaches k q t h reaches.1)

-- the copy that was behind has come past the place, and no further
pub behind_token : (k q : ℕ) (t : Token) (h : List Heard) → only_behind k (map (kept_of true q) h) ≡ true → Reaches q h → Reaches (q + 1) (with_token k t h)
behind_token k q t [] only reaches = absurd (cc only)
behind_token zero q t (c ∷ h) only reaches =
    let parts = and_parts (is_behind (kept_of true q c)) (none_behind (map (kept_of true q) h)) only in
    (λ may. omega (arith, length_push c.tokens t, reaches.0 may), none_reaches q h parts.1)
behind_token (suc k) q t (c ∷ h) only reaches =
    let parts = and_parts (not (is_behind (kept_of true q c))) (only_behind k (map (kept_of true q) h)) only in
    (ahead_reaches q c parts.0, behind_token k q t h parts.1 reaches.1)

pub behind_token_most : (k q p : ℕ) (t : Token) (h : List Heard) → only_behind k (map (kept_of true q) h) ≡ true → Reaches p (with_token k t h) → p ≤ q + 1
behind_token_most k q p t [] only reaches = absurd (cc only)
behind_token_most zero q p t (c ∷ h) only reaches =
    let parts = and_parts (is_behind (kept_of true q c)) (none_behind (map (kept_of true q) h)) only in
    let here = behind_open q c parts.0 in
    omega (arith, length_push c.tokens t, reaches.0 here.0, here.1)
behind_token_most (suc k) q p t (c ∷ h) only reaches =
    let parts = and_parts (not (is_behind (kept_of true q c))) (only_behind k (map (kept_of true q) h)) only in
    behind_token_most k q p t h parts.1 reaches.1

not_and : (a b : Bool) → a && b ≡ false → b ≡ true → not a ≡ true
not_and true true e p = absurd (cc e)
not_and true false e p = absurd (cc p)
not_and false b e p = refl

and_rest : (a b : Bool) → a && b ≡ false → a ≡ true → b ≡ false
and_rest true b e p = e
and_rest false b e p = absurd (cc p)

-- another copy is behind, or this one isn't
pub other_token : (k q : ℕ) (t : Token) (h : List Heard) → only_behind k (map (kept_of true q) h) ≡ false → IsOpen k h → Reaches (q + 1) (with_token k t h) → Reaches (q + 1) h
other_token k q t [] only may reaches = tt
other_token zero q t (c ∷ h) only may reaches =
    (ahead_reaches q c (not_and (is_behind (kept_of true q c)) (none_behind (map (kept_of true q) h)) only (reaches_none q h reaches.1)), reaches.1)
other_token (suc k) q t (c ∷ h) only may reaches =
    (reaches.0, other_token k q t h (and_rest (not (is_behind (kept_of true q c))) (only_behind k (map (kept_of true q) h)) only (reaches_ahead q c reaches.0)) may reaches.1)

longer_token : (k : ℕ) (t : Token) (h : List Heard) → longest (lists_of h) ≤ longest (lists_of (with_token k t h))
longer_token k t [] = omega arith
longer_token zero t (c ∷ h) = omega (arith, length_push c.tokens t)
longer_token (suc k) t (c ∷ h) = omega (arith, longer_token k t h)

-- no place more is lost by a token
pub token_more : (k : ℕ) (t : Token) (h : List Heard) → judged_places h ≤ judged_places (with_token k t h)
token_more k t h =
    let less = judged_least (longest (lists_of h)) h in
    judged_most (longest (lists_of (with_token k t h))) (with_token k t h) (judged_places h) (omega (arith, longer_token k t h, less)) (token_reaches k (judged_places h) t h (judged_in (longest (lists_of h)) h))

-- one place more is judged where this copy alone was behind
pub judged_behind : (k : ℕ) (t : Token) (h : List Heard) → only_behind k (map (kept_of true (judged_places h)) h) ≡ true → IsOpen k h → judged_places (with_token k t h) ≡ judged_places h + 1
judged_behind k t h only may =
    let q = judged_places h in
    let after = with_token k t h in
    let reaches = behind_token k q t h only (judged_in (longest (lists_of h)) h) in
    let least : q + 1 ≤ judged_places after = judged_most (longest (lists_of after)) after (q + 1) (longest_open k (q + 1) after (token_open k t h may) reaches) reaches in
    let most : judged_places after ≤ q + 1 = behind_token_most k q (judged_places after) t h only (judged_in (longest (lists_of after)) after) in
    omega arith

-- else none is
pub judged_other : (k : ℕ) (t : Token) (h : List Heard) → only_behind k (map (kept_of true (judged_places h)) h) ≡ false → IsOpen k h → judged_places (with_token k t h) ≡ judged_places h
judged_other k t h only may =
    let q = judged_places h in
    let after = with_token k t h in
    let more : q ≤ judged_places after = token_more k t h in
    let none : q + 1 ≤ judged_places after → ⊥ = λ far.
    let reaches = other_token k q t h only may (reaches_less (q + 1) (judged_places after) after far (judged_in (longest (lists_of after)) after)) in
    let too_far = judged_most (longest (lists_of h)) h (q + 1) (longest_open k (q + 1) h may reaches) reaches in
    absurd (omega (arith, too_far)) in
    go q (judged_places after) more none
  where
    go : (a b : ℕ) → a ≤ b → (a + 1 ≤ b → ⊥) → b ≡ a
    go a b le not_more = elim (cases_lt b (a + 1)) [ inl near ↦ omega arith | inr far ↦ absurd (not_more far) ]

-- ---- an end

pub end_lists : (k : ℕ) (h : List Heard) → lists_of (with_end k h) ≡ lists_of h
end_lists k [] = refl
end_lists zero (c ∷ h) = refl
end_lists (suc k) (c ∷ h) = ap (λ ls. c.tokens ∷ ls) (end_lists k h)

pub end_reaches : (k q : ℕ) (h : List Heard) → Reaches q h → Reaches q (with_end k h)
end_reaches k q [] reaches = reaches
end_reaches zero q (c ∷ h) reaches = (λ may. absurd (cc may), reaches.1)
end_reaches (suc k) q (c ∷ h) reaches = (reaches.0, end_reaches k q h reaches.1)

pub behind_end : (k q : ℕ) (h : List Heard) → only_behind k (map (kept_of true q) h) ≡ true → Reaches (q + 1) (with_end k h)
behind_end k q [] only = absurd (cc only)
behind_end zero q (c ∷ h) only =
    let parts = and_parts (is_behind (kept_of true q c)) (none_behind (map (kept_of true q) h)) only in
    (λ may. absurd (cc may), none_reaches q h parts.1)
behind_end (suc k) q (c ∷ h) only =
    let parts = and_parts (not (is_behind (kept_of true q c))) (only_behind k (map (kept_of true q) h)) only in
    (ahead_reaches q c parts.0, behind_end k q h parts.1)

other_end : (k q : ℕ) (h : List Heard) → only_behind k (map (kept_of true q) h) ≡ false → IsOpen k h → Reaches (q + 1) (with_end k h) → Reaches (q + 1) h
other_end k q [] only may reaches = tt
other_end zero q (c ∷ h) only may reaches =
    (ahead_reaches q c (not_and (is_behind (kept_of true q c)) (none_behind (map (kept_of true q) h)) only (reaches_none q h reaches.1)), reaches.1)
other_end (suc k) q (c ∷ h) only may reaches =
    (reaches.0, other_end k q h (and_rest (not (is_behind (kept_of true q c))) (only_behind k (map (kept_of true q) h)) only (reaches_ahead q c reaches.0)) may reaches.1)

pub end_more : (k : ℕ) (h : List Heard) → judged_places h ≤ judged_places (with_end k h)
end_more k h =
    let less = judged_least (longest (lists_of h)) h in
    let same_longest = ap longest (end_lists k h) in
    judged_most (longest (lists_of (with_end k h))) (with_end k h) (judged_places h) (omega (arith, same_longest, less)) (end_reaches k (judged_places h) h (judged_in (longest (lists_of h)) h))

pub judged_other_end : (k : ℕ) (h : List Heard) → only_behind k (map (kept_of true (judged_places h)) h) ≡ false → IsOpen k h → judged_places (with_end k h) ≡ judged_places h
judged_other_end k h only may =
    let q = judged_places h in
    let after = with_end k h in
    let more : q ≤ judged_places after = end_more k h in
    let none : q + 1 ≤ judged_places after → ⊥ = λ far.
    let reaches = other_end k q h only may (reaches_less (q + 1) (judged_places after) after far (judged_in (longest (lists_of after)) after)) in
    let too_far = judged_most (longest (lists_of h)) h (q + 1) (longest_open k (q + 1) h may reaches) reaches in
    absurd (omega (arith, too_far)) in
    go q (judged_places after) more none
  where
    go : (a b : ℕ) → a ≤ b → (a + 1 ≤ b → ⊥) → b ≡ a
    go a b le not_more = elim (cases_lt b (a + 1)) [ inl near ↦ omega arith | inr far ↦ absurd (not_more far) ]
