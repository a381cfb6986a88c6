-- Copies of which the first so many share the first token that waits.
use Rattle.std.proofs.Common.{◌≡◌, ℕ, zero, suc, ◌+◌, ◌-◌, ◌<◌, ◌≤◌, Bool, true, false, not, ◌&&◌, List, [], ◌∷◌, ◌++◌, length, map, get_or, take, drop, replicate, Option, Some, refl, ap, sym, subst, ◌∙◌, arith, length-append, length-take, length-drop}
use Rattle.std.specs.Prelude.{slice_get, IfSome}
use Rattle.std.specs.List.{list_all}
use Rattle.std.proofs.lemmas.Bool.{and_parts, and_right}
use Rattle.std.proofs.lemmas.Option.{slice_get-get_or}
use Rattle.std.proofs.lemmas.List.{append-nil, drop_all, take_all, take_rest, length-map, length-replicate}
use Rattle.rd_base.specs.Token.{Token}
use Rattle.rd_base.specs.Words.{is_empty}
use Rattle.rd_base.specs.Verdicts.{same_token}
use Rattle.rd_verdict.proofs.Alike.{same_is}
use Rattle.rd_stream_verdict.specs.Queue.{bytes_in}
use Rattle.rd_stream_verdict.specs.Said.{at_place}
use Rattle.rd_stream_verdict.specs.Kept.{CopyKept, can_take, waiting_bytes}
use Rattle.rd_stream_verdict.specs.Heads.{is_behind, none_behind, only_behind, counted, waits, closed, passed, cleared, heads_with}
use Rattle.rd_stream_verdict.specs.Sharing.{with_first, sharing, all_behind}

empty_is : (ts : List Token) → is_empty ts ≡ true → ts ≡ []
empty_is [] e = refl
empty_is (t ∷ ts) e = absurd (cc e)

-- nothing waits of a copy that is behind
behind_none : (c : CopyKept) → is_behind c ≡ true → c.waiting ≡ []
behind_none c e = empty_is c.waiting (and_parts (not c.is_whole) (is_empty c.waiting) e).1

-- a copy that shares a token isn't behind
shared_ahead : (t : Token) (c : CopyKept) → is_behind (with_first t c) ≡ false
shared_ahead t c = and_right (not c.is_whole) false refl

-- ---- the copies, one by one

pub length-sharing : (n : ℕ) (t : Token) (cs : List CopyKept) → length (sharing n t cs) ≡ length cs
length-sharing zero t cs = refl
length-sharing (suc n) t [] = refl
length-sharing (suc n) t (c ∷ cs) = ap (λ k. suc k) (length-sharing n t cs)

pub whole_sharing : (n : ℕ) (t : Token) (cs : List CopyKept) → list_all (λ (c : CopyKept). c.is_whole) (sharing n t cs) ≡ list_all (λ (c : CopyKept). c.is_whole) cs
whole_sharing zero t cs = refl
whole_sharing (suc n) t [] = refl
whole_sharing (suc n) t (c ∷ cs) = ap (λ b. c.is_whole && b) (whole_sharing n t cs)

-- what doesn't read the waiting tokens holds of a copy by what is kept of it
pub fed_sharing : (n : ℕ) (t : Token) (k : ℕ) (cs : List CopyKept) (P : ℕ → Bool → Type 0) → IfSome (slice_get cs k) (λ c. P c.fed c.is_whole) → IfSome (slice_get (sharing n t cs) k) (λ c. P c.fed c.is_whole)
fed_sharing zero t k cs P p = p
fed_sharing (suc n) t k [] P p = p
fed_sharing (suc n) t zero (c ∷ cs) P p = p
fed_sharing (suc n) t (suc k) (c ∷ cs) P p = fed_sharing n t k cs P p

pub fed_kept : (n : ℕ) (t : Token) (k : ℕ) (cs : List CopyKept) (P : ℕ → Bool → Type 0) → IfSome (slice_get (sharing n t cs) k) (λ c. P c.fed c.is_whole) → IfSome (slice_get cs k) (λ c. P c.fed c.is_whole)
fed_kept zero t k cs P p = p
fed_kept (suc n) t k [] P p = p
fed_kept (suc n) t zero (c ∷ cs) P p = p
fed_kept (suc n) t (suc k) (c ∷ cs) P p = fed_kept n t k cs P p

-- what is known of the copy that is there
pub at_kept : (n : ℕ) (t : Token) (k : ℕ) (cs : List CopyKept) (c : CopyKept) (P : ℕ → Bool → Type 0) → k < length cs → c ≡ get_or cs k c → IfSome (slice_get (sharing n t cs) k) (λ d. P d.fed d.is_whole) → P c.fed c.is_whole
at_kept n t k cs c P lt is p = go k cs lt is (fed_kept n t k cs P p)
  where
    go : (k : ℕ) (cs : List CopyKept) → k < length cs → c ≡ get_or cs k c → IfSome (slice_get cs k) (λ d. P d.fed d.is_whole) → P c.fed c.is_whole
    go k [] lt is p = absurd (omega arith)
    go zero (x ∷ cs) lt is p = let Q : CopyKept → Type 0 = λ d. P d.fed d.is_whole in subst Q (sym is) p
    go (suc k) (x ∷ cs) lt is p = go k cs (omega arith) is p

pub some_kept : (n : ℕ) (t : Token) (k : ℕ) (cs : List CopyKept) (c : CopyKept) (P : ℕ → Bool → Type 0) → k < length cs → c ≡ get_or cs k c → P c.fed c.is_whole → IfSome (slice_get (sharing n t cs) k) (λ d. P d.fed d.is_whole)
some_kept n t k cs c P lt is p = fed_sharing n t k cs P (go k cs lt is)
  where
    go : (k : ℕ) (cs : List CopyKept) → k < length cs → c ≡ get_or cs k c → IfSome (slice_get cs k) (λ d. P d.fed d.is_whole)
    go k [] lt is = absurd (omega arith)
    go zero (x ∷ cs) lt is = let Q : CopyKept → Type 0 = λ d. P d.fed d.is_whole in subst Q is p
    go (suc k) (x ∷ cs) lt is = go k cs (omega arith) is

-- ---- bytes

pub bytes_shared : (n : ℕ) (t : Token) (k : ℕ) (cs : List CopyKept) (c : CopyKept) → k < n → k < length cs → c ≡ get_or cs k c → waiting_bytes (slice_get (sharing n t cs) k) ≡ length t.text + bytes_in c.waiting
bytes_shared n t k [] c lt within is = absurd (omega arith)
bytes_shared zero t k (x ∷ cs) c lt within is = absurd (omega arith)
bytes_shared (suc n) t zero (x ∷ cs) c lt within is = ap (λ (d : CopyKept). length t.text + bytes_in d.waiting) (sym is)
bytes_shared (suc n) t (suc k) (x ∷ cs) c lt within is = bytes_shared n t k cs c (omega arith) (omega arith) is

pub bytes_apart : (n : ℕ) (t : Token) (k : ℕ) (cs : List CopyKept) (c : CopyKept) → n ≤ k → k < length cs → c ≡ get_or cs k c → waiting_bytes (slice_get (sharing n t cs) k) ≡ bytes_in c.waiting
bytes_apart n t k [] c le within is = absurd (omega arith)
bytes_apart zero t zero (x ∷ cs) c le within is = ap (λ (d : CopyKept). bytes_in d.waiting) (sym is)
bytes_apart zero t (suc k) (x ∷ cs) c le within is = bytes_apart zero t k cs c (omega arith) (omega arith) is
bytes_apart (suc n) t zero (x ∷ cs) c le within is = absurd (omega arith)
bytes_apart (suc n) t (suc k) (x ∷ cs) c le within is = bytes_apart n t k cs c (omega arith) (omega arith) is

-- ---- changes

pub count_sharing : (n : ℕ) (t : Token) (k : ℕ) (cs : List CopyKept) → sharing n t (at_place counted k cs) ≡ at_place counted k (sharing n t cs)
count_sharing zero t k cs = refl
count_sharing (suc n) t k [] = refl
count_sharing (suc n) t zero (c ∷ cs) = refl
count_sharing (suc n) t (suc k) (c ∷ cs) = ap (λ xs. with_first t c ∷ xs) (count_sharing n t k cs)

pub close_sharing : (n : ℕ) (t : Token) (k : ℕ) (cs : List CopyKept) → sharing n t (at_place closed k cs) ≡ at_place closed k (sharing n t cs)
close_sharing zero t k cs = refl
close_sharing (suc n) t k [] = refl
close_sharing (suc n) t zero (c ∷ cs) = refl
close_sharing (suc n) t (suc k) (c ∷ cs) = ap (λ xs. with_first t c ∷ xs) (close_sharing n t k cs)

pub wait_sharing : (n : ℕ) (t s : Token) (k : ℕ) (cs : List CopyKept) → sharing n t (at_place (waits s) k cs) ≡ at_place (waits s) k (sharing n t cs)
wait_sharing zero t s k cs = refl
wait_sharing (suc n) t s k [] = refl
wait_sharing (suc n) t s zero (c ∷ cs) = refl
wait_sharing (suc n) t s (suc k) (c ∷ cs) = ap (λ xs. with_first t c ∷ xs) (wait_sharing n t s k cs)

pub clear_sharing : (n : ℕ) (t : Token) (cs : List CopyKept) → map cleared cs ≡ map cleared (sharing n t cs)
clear_sharing zero t cs = refl
clear_sharing (suc n) t [] = refl
clear_sharing (suc n) t (c ∷ cs) = ap (λ xs. cleared c ∷ xs) (clear_sharing n t cs)

pub pass_sharing : (n : ℕ) (t : Token) (cs : List CopyKept) → take n cs ++ map passed (drop n cs) ≡ map passed (sharing n t cs)
pass_sharing zero t cs = refl
pass_sharing (suc n) t [] = refl
pass_sharing (suc n) t (c ∷ cs) = ap (λ xs. c ∷ xs) (pass_sharing n t cs)

pass_behind : (c : CopyKept) → is_behind c ≡ true → c ≡ passed c
pass_behind c e =
    let made : List Token → CopyKept = λ ts. record { fed = c.fed; waiting = ts; is_whole = c.is_whole } in
    let none = behind_none c e in
    ap made (none ∙ ap (drop 1) (sym none))

pass_all_behind : (cs : List CopyKept) → all_behind cs ≡ true → cs ≡ map passed cs
pass_all_behind [] e = refl
pass_all_behind (c ∷ cs) e =
    let parts = and_parts (is_behind c) (all_behind cs) e in
    ap (λ x. x ∷ cs) (pass_behind c parts.0) ∙ ap (λ xs. passed c ∷ xs) (pass_all_behind cs parts.1)

pub pass_shared : (n : ℕ) (t : Token) (cs : List CopyKept) → all_behind cs ≡ true → cs ≡ map passed (sharing n t cs)
pass_shared zero t cs e = pass_all_behind cs e
pass_shared (suc n) t [] e = refl
pass_shared (suc n) t (c ∷ cs) e = ap (λ xs. c ∷ xs) (pass_shared n t cs (and_parts (is_behind c) (all_behind cs) e).1)

pub behind_counted : (k : ℕ) (cs : List CopyKept) → all_behind cs ≡ true → all_behind (at_place counted k cs) ≡ true
behind_counted k [] e = refl
behind_counted zero (c ∷ cs) e = e
behind_counted (suc k) (c ∷ cs) e =
    let parts = and_parts (is_behind c) (all_behind cs) e in
    ap (λ b. b && all_behind (at_place counted k cs)) parts.0 ∙ behind_counted k cs parts.1

-- the next copy shares the token
pub one_more : (n : ℕ) (t : Token) (cs : List CopyKept) → n < length cs → all_behind cs ≡ true → sharing (suc n) t (at_place counted n cs) ≡ at_place (waits t) n (sharing n t cs)
one_more n t [] lt e = absurd (omega arith)
one_more zero t (c ∷ cs) lt e =
    let none = behind_none c (and_parts (is_behind c) (all_behind cs) e).0 in
    let made : List Token → List CopyKept = λ ts. record { fed = c.fed + 1; waiting = ts; is_whole = c.is_whole } ∷ cs in
    ap made (ap (λ ts. t ∷ ts) none ∙ ap (λ ts. ts ++ t ∷ []) (sym none))
one_more (suc n) t (c ∷ cs) lt e = ap (λ xs. with_first t c ∷ xs) (one_more n t cs (omega arith) (and_parts (is_behind c) (all_behind cs) e).1)

-- ---- which copies are behind

not_behind : (t : Token) (c : CopyKept) (b : Bool) → b ≡ not (is_behind (with_first t c)) && b
not_behind t c b = ap (λ x. not x && b) (sym (shared_ahead t c))

pub only_past : (n : ℕ) (t : Token) (k m : ℕ) (cs : List CopyKept) → k ≡ n + m → only_behind m (drop n cs) ≡ only_behind k (sharing n t cs)
only_past zero t k m cs e = ap (λ i. only_behind i cs) (let same : m ≡ k = omega arith in same)
only_past (suc n) t k m [] e = refl
only_past (suc n) t zero m (c ∷ cs) e = absurd (omega arith)
only_past (suc n) t (suc k) m (c ∷ cs) e = only_past n t k m cs (omega arith) ∙ not_behind t c (only_behind k (sharing n t cs))

pub only_sharer : (n : ℕ) (t : Token) (k : ℕ) (cs : List CopyKept) → k < n → only_behind k (sharing n t cs) ≡ false
only_sharer zero t k cs lt = absurd (omega arith)
only_sharer (suc n) t k [] lt = refl
only_sharer (suc n) t zero (c ∷ cs) lt = ap (λ b. b && none_behind (sharing n t cs)) (shared_ahead t c)
only_sharer (suc n) t (suc k) (c ∷ cs) lt = sym (not_behind t c (only_behind k (sharing n t cs))) ∙ only_sharer n t k cs (omega arith)

pub only_last : (k : ℕ) (t : Token) (cs : List CopyKept) → all_behind cs ≡ true → k + 1 ≡ length cs → only_behind k (sharing k t cs) ≡ true
only_last k t [] e is = absurd (omega arith)
only_last zero t (c ∷ []) e is = e
only_last zero t (c ∷ d ∷ cs) e is = absurd (omega arith)
only_last (suc k) t (c ∷ cs) e is =
    sym (not_behind t c (only_behind k (sharing k t cs))) ∙ only_last k t cs (and_parts (is_behind c) (all_behind cs) e).1 (omega arith)

record IsLast (n k count : ℕ) : Type 0 where
  at : k ≡ n
  end : k + 1 ≡ count

none_of_one : (c : CopyKept) (cs : List CopyKept) → is_behind c ≡ true → none_behind (c ∷ cs) ≡ true → ⊥
none_of_one c cs e none = let here = (and_parts (not (is_behind c)) (none_behind cs) none).0 in let same = ap not e in cc

last_only : (n : ℕ) (t : Token) (k : ℕ) (cs : List CopyKept) → all_behind cs ≡ true → only_behind k (sharing n t cs) ≡ true → IsLast n k (length cs)
last_only n t k [] e only = absurd (nothing n only)
  where
    nothing : (n : ℕ) → only_behind k (sharing n t []) ≡ true → ⊥
    nothing zero only = cc only
    nothing (suc n) only = cc only
last_only zero t zero (c ∷ []) e only = record { at = refl; end = refl }
last_only zero t zero (c ∷ d ∷ cs) e only =
    absurd (none_of_one d cs (and_parts (is_behind d) (all_behind cs) (and_parts (is_behind c) (all_behind (d ∷ cs)) e).1).0 (and_parts (is_behind c) (none_behind (d ∷ cs)) only).1)
last_only zero t (suc k) (c ∷ cs) e only =
    let here = (and_parts (is_behind c) (all_behind cs) e).0 in
    absurd (let same = ap not here in let there = (and_parts (not (is_behind c)) (only_behind k cs) only).0 in cc)
last_only (suc n) t zero (c ∷ cs) e only =
    absurd (let there = (and_parts (is_behind (with_first t c)) (none_behind (sharing n t cs)) only).0 in let same = shared_ahead t c in cc)
last_only (suc n) t (suc k) (c ∷ cs) e only =
    let rest = last_only n t k cs (and_parts (is_behind c) (all_behind cs) e).1 (not_behind t c (only_behind k (sharing n t cs)) ∙ only) in
    record { at = omega (arith, rest.at); end = omega (arith, rest.end) }

pub last_is : (b : Bool) (n : ℕ) (t : Token) (k : ℕ) (cs : List CopyKept) → all_behind cs ≡ true → (b ≡ true → (k ≡ n) × (k + 1 ≡ length cs)) → ((k ≡ n) × (k + 1 ≡ length cs) → b ≡ true) → b ≡ only_behind k (sharing n t cs)
last_is true n t k cs e to from =
    let is = to refl in
    sym (ap (λ i. only_behind k (sharing i t cs)) (sym is.0) ∙ only_last k t cs e is.1)
last_is false n t k cs e to from = go (only_behind k (sharing n t cs)) refl
  where
    go : (b : Bool) → only_behind k (sharing n t cs) ≡ b → false ≡ b
    go false is = refl
    go true is = let last = last_only n t k cs e is in from (last.at, last.end)

-- ---- the copies' next tokens

pub heads_sharing : (n : ℕ) (t : Token) (cs : List CopyKept) → n ≤ length cs → replicate n (Some t) ++ map (λ c. slice_get c.waiting 0) (drop n cs) ≡ map (λ c. slice_get c.waiting 0) (sharing n t cs)
heads_sharing zero t cs le = refl
heads_sharing (suc n) t [] le = absurd (omega arith)
heads_sharing (suc n) t (c ∷ cs) le = ap (λ hs. Some t ∷ hs) (heads_sharing n t cs (omega arith))

pub all_share : (k : ℕ) (t : Token) (cs : List CopyKept) → k + 1 ≡ length cs → heads_with k (Some t) (sharing k t cs) ≡ replicate (length cs) (Some t)
all_share k t [] e = absurd (omega arith)
all_share zero t (c ∷ []) e = refl
all_share zero t (c ∷ d ∷ cs) e = absurd (omega arith)
all_share (suc k) t (c ∷ cs) e = ap (λ hs. Some t ∷ hs) (all_share k t cs (omega arith))

same_to : (a b : Token) → same_token a b ≡ true → a ≡ b
same_to a b e = let is = same_is (Some a) (Some b) e in cc

-- the last copy has the token that all others share
pub shared_by_all : (n k : ℕ) (t s : Token) (cs : List CopyKept) → k ≡ n → k + 1 ≡ length cs → same_token t s ≡ true → heads_with k (Some s) (sharing n t cs) ≡ replicate (length (sharing n t cs)) (Some s)
shared_by_all n k t s cs at end e =
    ap (λ m. heads_with k (Some s) (sharing m t cs)) (sym at)
    ∙ ap (λ u. heads_with k (Some s) (sharing k u cs)) (same_to t s e)
    ∙ all_share k s cs end
    ∙ ap (λ m. replicate m (Some s)) (sym (length-sharing n t cs))

-- one copy more has the token that those before it share
pub shares_too : (n k : ℕ) (t s : Token) (cs : List CopyKept) → k ≡ n → k < length cs → all_behind cs ≡ true → same_token t s ≡ true → sharing (k + 1) t (at_place counted k cs) ≡ at_place (waits s) k (sharing n t cs)
shares_too n k t s cs at lt e same =
    ap (λ m. sharing m t (at_place counted k cs)) (let more : k + 1 ≡ suc k = omega arith in more)
    ∙ one_more k t cs lt e
    ∙ ap (λ u. at_place (waits u) k (sharing k t cs)) (same_to t s same)
    ∙ ap (λ m. at_place (waits s) k (sharing m t cs)) at

pub silent_behind : (n : ℕ) → all_behind (replicate n (record { fed = 0; waiting = []; is_whole = false })) ≡ true
silent_behind zero = refl
silent_behind (suc n) = silent_behind n

-- ---- writes of a whole buffer

pub refill_all : {A : Type 0} (xs ws : List A) → length ws ≡ length xs → take (length xs) (ws ++ drop (length ws) xs) ≡ ws
refill_all xs ws e =
    ap (λ d. take (length xs) (ws ++ d)) (drop_all (length ws) xs (omega (arith, e)))
    ∙ ap (take (length xs)) (append-nil ws)
    ∙ take_all (length xs) ws (omega (arith, e))

pub mapped_all : {A : Type 0} (f : A → A) (xs ys : List A) (i : ℕ) → length xs ≤ i → ys ≡ map f (take i xs) ++ drop i xs → ys ≡ map f xs
mapped_all f xs ys i le is =
    is
    ∙ ap (λ d. map f (take i xs) ++ d) (drop_all i xs le)
    ∙ append-nil (map f (take i xs))
    ∙ ap (map f) (take_all i xs le)

-- the copies' next tokens, put together
pub heads_made : (n : ℕ) (t : Token) (cs : List CopyKept) (none shared all : List (Option Token)) → n ≤ length cs → none ≡ [] → shared ≡ none ++ replicate n (Some t) → all ≡ shared ++ map (λ (c : CopyKept). slice_get c.waiting 0) (take (length cs - n) (drop n cs)) → all ≡ map (λ (c : CopyKept). slice_get c.waiting 0) (sharing n t cs)
heads_made n t cs none shared all le nothing some is =
    let heads : List CopyKept → List (Option Token) = λ xs. map (λ (c : CopyKept). slice_get c.waiting 0) xs in
    is
    ∙ ap (λ xs. shared ++ heads xs) (take_rest cs n)
    ∙ ap (λ xs. xs ++ heads (drop n cs)) (some ∙ ap (λ xs. xs ++ replicate n (Some t)) nothing)
    ∙ heads_sharing n t cs le

pub shared_size : (n : ℕ) (t : Token) (none shared : List (Option Token)) → none ≡ [] → shared ≡ none ++ replicate n (Some t) → length shared ≡ n
shared_size n t none shared nothing some = ap length (some ∙ ap (λ xs. xs ++ replicate n (Some t)) nothing) ∙ length-replicate n (Some t)

-- the copies past the sharers, with a change
pub rest_changed : (f : CopyKept → CopyKept) (n : ℕ) (xs all new post : List CopyKept) → all ≡ xs → n ≤ length xs → new ≡ map f (take (length all - n) (drop n all)) → post ≡ [] → take n all ++ (new ++ post) ≡ take n xs ++ map f (drop n xs)
rest_changed f n xs all new post same le is none =
    ap (λ ys. take n all ++ (new ++ ys)) none
    ∙ ap (λ ys. take n all ++ ys) (append-nil new ∙ is ∙ ap (map f) (take_rest all n))
    ∙ ap (λ ys. take n ys ++ map f (drop n ys)) same

pub rest_size : (f : CopyKept → CopyKept) (n : ℕ) (xs : List CopyKept) → n ≤ length xs → length (take n xs ++ map f (drop n xs)) ≡ length xs
rest_size f n xs le = omega (arith, length-append (take n xs) (map f (drop n xs)), length-map (drop n xs) f, length-take n xs, length-drop n xs)

-- ---- whether a copy may be fed

same_take : (n : ℕ) (t : Token) (k : ℕ) (cs : List CopyKept) → can_take (slice_get (sharing n t cs) k) ≡ can_take (slice_get cs k)
same_take zero t k cs = refl
same_take (suc n) t k [] = refl
same_take (suc n) t zero (x ∷ cs) = refl
same_take (suc n) t (suc k) (x ∷ cs) = same_take n t k cs

pub take_there : (n : ℕ) (t : Token) (k : ℕ) (cs : List CopyKept) (c : CopyKept) → k < length cs → c ≡ get_or cs k c → can_take (slice_get (sharing n t cs) k) ≡ can_take (Some c)
take_there n t k cs c lt is = same_take n t k cs ∙ ap can_take (slice_get-get_or cs k c lt ∙ ap Some (sym is))

pub take_past : (n : ℕ) (t : Token) (k : ℕ) (cs : List CopyKept) → length cs ≤ k → can_take (slice_get (sharing n t cs) k) ≡ false
take_past n t k cs past = same_take n t k cs ∙ go k cs past
  where
    go : (k : ℕ) (cs : List CopyKept) → length cs ≤ k → can_take (slice_get cs k) ≡ false
    go k [] past = refl
    go zero (x ∷ cs) past = absurd (omega arith)
    go (suc k) (x ∷ cs) past = go k cs (omega arith)
