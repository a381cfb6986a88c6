-- How links add up, those whose readers were started and those whose weren't.
use Rattle.std.proofs.Common.{◌≡◌, ℕ, zero, suc, ◌+◌, ◌<◌, ◌≤◌, List, [], ◌∷◌, ◌++◌, length, map, fold, Option, Some, None, refl, sym, ap, ap₂, ◌∙◌, subst, ◌⊎◌, inl, inr, append_assoc, append-nil, arith}
use Rattle.std.specs.Prelude.{slice_get, unwrap_or}
use Rattle.std.specs.List.{AllByRecursion as Each}
use Rattle.rd_base.specs.Sources.{SourceTold}
use Rattle.atomic_table.specs.Seated.{TableId}
use Rattle.rd_gate.specs.declared.item.Item.{Item}
use Rattle.rd_gate.specs.declared.gate.Ended.{Ended}
use Rattle.rd_gate.specs.declared.gate.View.{View}
use Rattle.rd_gate.specs.Gate.{Known, Whole, known, reader, fresh, joined, of}
use Rattle.rd_start.specs.Back.{IsIn, WasRead, with_ended}
use Rattle.rd_run.specs.Ran.{LinkRead}
use Rattle.rd_run.specs.Links.{LinkDone, LinksDone, AreFresh}
use Rattle.rd_run.proofs.Ended.{each_in}

-- ---- passes of a new gate

fresh_snoc : (gate : TableId) (k : ℕ) (ps : List Known) (p : Known) → AreFresh gate k ps → p ≡ known gate (reader (k + length ps) []) → AreFresh gate k (ps ++ p ∷ [])
fresh_snoc gate k [] p all is = (is ∙ ap (λ n. known gate (reader n [])) (let e : k + 0 ≡ k = omega arith in e), tt)
fresh_snoc gate k (q ∷ ps) p all is =
    (all.0, fresh_snoc gate (suc k) ps p all.1 (is ∙ ap (λ n. known gate (reader n [])) (let e : k + suc (length ps) ≡ suc k + length ps = omega arith in e)))

length_snoc : (ps : List Known) (p : Known) → length (ps ++ p ∷ []) ≡ suc (length ps)
length_snoc [] p = refl
length_snoc (q ∷ ps) p = ap suc (length_snoc ps p)

pub fresh_length : (gate : TableId) (n : ℕ) → length (fresh gate n) ≡ n
fresh_length gate zero = refl
fresh_length gate (suc n) = length_snoc (fresh gate n) (known gate (reader n [])) ∙ ap suc (fresh_length gate n)

pub fresh_are : (gate : TableId) (n : ℕ) → AreFresh gate 0 (fresh gate n)
fresh_are gate zero = tt
fresh_are gate (suc n) =
    let size = fresh_length gate n in
    fresh_snoc gate 0 (fresh gate n) (known gate (reader n [])) (fresh_are gate n) (ap (λ m. known gate (reader m [])) (let e : n ≡ 0 + length (fresh gate n) = omega (arith, size) in e))

pub fresh_front : (gate : TableId) (k : ℕ) (xs ys : List Known) → AreFresh gate k (xs ++ ys) → AreFresh gate k xs
fresh_front gate k [] ys all = tt
fresh_front gate k (x ∷ xs) ys all = (all.0, fresh_front gate (suc k) xs ys all.1)

pub fresh_rest : (gate : TableId) (k : ℕ) (xs ys : List Known) → AreFresh gate k (xs ++ ys) → AreFresh gate (k + length xs) ys
fresh_rest gate k [] ys all = subst (λ n. AreFresh gate n ys) (let e : k ≡ k + 0 = omega arith in e) all
fresh_rest gate k (x ∷ xs) ys all = subst (λ n. AreFresh gate n ys) (let e : suc k + length xs ≡ k + suc (length xs) = omega arith in e) (fresh_rest gate (suc k) xs ys all.1)

pub fresh_at : {X : Type 0} (pass : X → Known) (gate : TableId) (k : ℕ) (xs : List X) → AreFresh gate k (map pass xs) → (j : ℕ) (x : X) → slice_get xs j ≡ Some x → pass x ≡ known gate (reader (k + j) [])
fresh_at pass gate k [] all j x e = absurd (cc e)
fresh_at pass gate k (y ∷ xs) all zero x e =
    ap pass (sym (ap (λ o. unwrap_or o y) e)) ∙ all.0 ∙ ap (λ n. known gate (reader n [])) (let e : k ≡ k + 0 = omega arith in e)
fresh_at pass gate k (y ∷ xs) all (suc j) x e =
    fresh_at pass gate (suc k) xs all.1 j x e ∙ ap (λ n. known gate (reader n [])) (let e : suc k + j ≡ k + suc j = omega arith in e)

-- ---- passes that were taken in

pub joined_all : (v : View) (ws : List View) → fold joined v ws ≡ with_ended v (fold joined v ws).ended
joined_all v [] = refl
joined_all v (w ∷ ws) = joined_all (joined v w) ws

pub is_in_more : (e : Ended) (v : View) (ws : List View) → IsIn e v.ended → IsIn e (fold joined v ws).ended
is_in_more e v [] here = here
is_in_more e v (w ∷ ws) here = is_in_more e (joined v w) ws (inr here)

pub is_in_joined : (v : View) (ws : List View) (j : ℕ) (w : View) → slice_get ws j ≡ Some w → IsIn (record { link = w.link; pushed = w.pushed }) (fold joined v ws).ended
is_in_joined v [] j w e = absurd (cc e)
is_in_joined v (x ∷ ws) zero w e =
    is_in_more (record { link = w.link; pushed = w.pushed }) (joined v x) ws (inl (ap (λ (y : View). record { link = y.link; pushed = y.pushed }) (ap (λ o. unwrap_or o x) e)))
is_in_joined v (x ∷ ws) (suc j) w e = is_in_joined (joined v x) ws j w e

pub read_more : {S : Type 0} (tells : S → SourceTold) (source back : S) (pass : Known) (v : View) (ws : List View) → WasRead tells source pass back v.ended → WasRead tells source pass back (fold joined v ws).ended
read_more tells source back pass v ws was = record {
  view = was.view;
  reads = was.reads;
  is_in = is_in_more (record { link = was.view.link; pushed = was.view.pushed }) v ws was.is_in;
}

get_map : {X Y : Type 0} (f : X → Y) (xs : List X) (j : ℕ) → j < length xs → (x : X) × (slice_get xs j ≡ Some x) × (slice_get (map f xs) j ≡ Some (f x))
get_map f [] j lt = absurd (omega (arith, lt))
get_map f (x ∷ xs) zero lt = (x, refl, refl)
get_map f (x ∷ xs) (suc j) lt = get_map f xs j (omega (arith, lt))

-- of a link whose reader wasn't started, nothing was taken
pub none_taken : {X : Type 0} (pass : X → Known) (gate : TableId) (k : ℕ) (xs : List X) (v w : View) → AreFresh gate k (map pass xs)
    → w.ended ≡ (fold joined v (map (λ x. (pass x).knows) xs)).ended → Whole w []
    → (j : ℕ) → j < length xs → of (k + j) w.taken ≡ []
none_taken pass gate k xs v w all same whole j lt =
    let x = get_map (λ y. (pass y).knows) xs j lt in
    let fresh_one = fresh_at pass gate k xs all j x.0 x.1 in
    let link : (pass x.0).knows.link ≡ k + j = ap (λ (p : Known). p.knows.link) fresh_one in
    let pushed : (pass x.0).knows.pushed ≡ [] = ap (λ (p : Known). p.knows.pushed) fresh_one in
    let ended : Ended = record { link = (pass x.0).knows.link; pushed = (pass x.0).knows.pushed } in
    let here : IsIn ended w.ended = subst (IsIn ended) (sym same) (is_in_joined v (map (λ y. (pass y).knows) xs) j (pass x.0).knows x.2) in
    ap (of (k + j)) (sym (append-nil w.taken)) ∙ ap (λ l. of l (w.taken ++ [])) (sym link) ∙ each_in (λ e. of e.link (w.taken ++ []) ≡ e.pushed) w.ended ended whole.ended here ∙ pushed

-- ---- links

pub links_read : {S : Type 0} (stays : Type 0) (tells : S → SourceTold) (f : ℕ → List Item) (k : ℕ) (rs : List (S × Known)) (ss : List S) → length ss ≡ length rs
    → ((j : ℕ) (r : S × Known) (s : S) → slice_get rs j ≡ Some r → slice_get ss j ≡ Some s → LinkRead (f (k + j)) (tells r.0) (tells s))
    → LinksDone stays f k (map tells (map (λ r. r.0) rs)) (map tells ss)
links_read stays tells f k [] [] size all = tt
links_read stays tells f k [] (s ∷ ss) size all = absurd (cc size)
links_read stays tells f k (r ∷ rs) [] size all = absurd (cc size)
links_read stays tells f k (r ∷ rs) (s ∷ ss) size all = (
  inl (subst (λ n. LinkRead (f n) (tells r.0) (tells s)) (let e : k + 0 ≡ k = omega arith in e) (all 0 r s refl refl)),
  links_read stays tells f (suc k) rs ss (let e : length ss ≡ length rs = omega (arith, size) in e)
      (λ j q t at_q at_t. subst (λ n. LinkRead (f n) (tells q.0) (tells t)) (let e : k + suc j ≡ suc k + j = omega arith in e) (all (suc j) q t at_q at_t)),
)

pub links_stay : {S : Type 0} (stays : Type 0) (tells : S → SourceTold) (f : ℕ → List Item) (k : ℕ) (ss : List S) → stays → ((j : ℕ) → j < length ss → f (k + j) ≡ []) → LinksDone stays f k (map tells ss) (map tells ss)
links_stay stays tells f k [] why none = tt
links_stay stays tells f k (s ∷ ss) why none = (
  inr (why, ap f (let e : k ≡ k + 0 = omega arith in e) ∙ none 0 (omega arith), refl),
  links_stay stays tells f (suc k) ss why (λ j lt. ap f (let e : suc k + j ≡ k + suc j = omega arith in e) ∙ none (suc j) (omega (arith, lt))),
)

pub links_join : (stays : Type 0) (f : ℕ → List Item) (k : ℕ) (os bs cs ds : List SourceTold) → LinksDone stays f k os bs → LinksDone stays f (k + length os) cs ds → LinksDone stays f k (os ++ cs) (bs ++ ds)
links_join stays f k [] [] cs ds p q = subst (λ n. LinksDone stays f n cs ds) (let e : k + 0 ≡ k = omega arith in e) q
links_join stays f k [] (b ∷ bs) cs ds p q = absurd p
links_join stays f k (a ∷ os) [] cs ds p q = absurd p
links_join stays f k (a ∷ os) (b ∷ bs) cs ds p q =
    (p.0, links_join stays f (suc k) os bs cs ds p.1 (subst (λ n. LinksDone stays f n cs ds) (let e : k + suc (length os) ≡ suc k + length os = omega arith in e) q))

pub links_weaker : (stays stays' : Type 0) (f g : ℕ → List Item) (k : ℕ) (os bs : List SourceTold) → (stays → stays') → ((l : ℕ) → g l ≡ f l) → LinksDone stays f k os bs → LinksDone stays' g k os bs
links_weaker stays stays' f g k [] [] weaker same p = tt
links_weaker stays stays' f g k [] (b ∷ bs) weaker same p = absurd p
links_weaker stays stays' f g k (a ∷ os) [] weaker same p = absurd p
links_weaker stays stays' f g k (a ∷ os) (b ∷ bs) weaker same p = (one p.0, links_weaker stays stays' f g (suc k) os bs weaker same p.1)
  where
    one : LinkDone stays (f k) a b → LinkDone stays' (g k) a b
    one (inl q) = inl (subst (λ xs. LinkRead xs a b) (sym (same k)) q)
    one (inr q) = inr (weaker q.0, same k ∙ q.1, q.2)
