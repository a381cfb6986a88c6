-- How joined readers add up.
use Rattle.std.proofs.Common.{◌≡◌, ℕ, zero, suc, ◌<◌, List, [], ◌∷◌, ◌++◌, length, map, Some, refl, sym, ap, subst, ⊎_elim, ◌⊎◌, inl, inr, arith}
use Rattle.std.specs.Prelude.{slice_get, unwrap_or}
use Rattle.rd_base.specs.Sources.{SourceTold}
use Rattle.rd_gate.specs.declared.gate.View.{View}
use Rattle.rd_gate.specs.Gate.{Known, joined}
use Rattle.rd_gate.specs.Reads.{Reads}
use Rattle.rd_start.specs.Back.{IsIn, WasRead}

get_snoc : {A : Type 0} (xs : List A) (x y : A) (k : ℕ) → slice_get (xs ++ x ∷ []) k ≡ Some y → (slice_get xs k ≡ Some y) ⊎ ((k ≡ length xs) × (x ≡ y))
get_snoc [] x y zero e = inr (refl, ap (λ o. unwrap_or o x) e)
get_snoc [] x y (suc k) e = absurd (cc e)
get_snoc (a ∷ xs) x y zero e = inl e
get_snoc (a ∷ xs) x y (suc k) e = ⊎_elim (λ t. inl t) (λ t. inr (ap suc t.0, t.1)) (get_snoc xs x y k e)

get_inside : {A : Type 0} (xs : List A) (y : A) (k : ℕ) → slice_get xs k ≡ Some y → k < length xs
get_inside [] y k e = absurd (cc e)
get_inside (x ∷ xs) y zero e = omega arith
get_inside (x ∷ xs) y (suc k) e = let le = get_inside xs y k e in omega (arith, le)

pub backs_more : {S : Type 0} (tells : S → SourceTold) (rs : List (S × Known)) (ss : List S) (v w : View) (r : S × Known) (s : S) (pass : View)
    → length rs ≡ length ss
    → ((k : ℕ) (q : S × Known) (t : S) → slice_get rs k ≡ Some q → slice_get ss k ≡ Some t → WasRead tells q.0 q.1 t v.ended)
    → Reads (tells r.0) (tells s) r.1.knows pass → w ≡ joined v pass
    → (k : ℕ) (q : S × Known) (t : S) → slice_get (rs ++ r ∷ []) k ≡ Some q → slice_get (ss ++ s ∷ []) k ≡ Some t → WasRead tells q.0 q.1 t w.ended
backs_more {S = S} tells rs ss v w r s pass size all reads is k q t at_r at_s =
    ⊎_elim
    (λ (a : slice_get rs k ≡ Some q). ⊎_elim
    (λ (b : slice_get ss k ≡ Some t). let was = all k q t a b in record {
      view = was.view;
      reads = was.reads;
      is_in = subst (IsIn (record { link = was.view.link; pushed = was.view.pushed })) (sym (ap (λ (x : View). x.ended) is)) (inr was.is_in);
    })
    (λ (b : (k ≡ length ss) × (s ≡ t)). absurd (let lt = get_inside rs q k a in let e = b.0 in omega (arith, lt, e, size)))
    (get_snoc ss s t k at_s))
    (λ (a : (k ≡ length rs) × (r ≡ q)). ⊎_elim
    (λ (b : slice_get ss k ≡ Some t). absurd (let lt = get_inside ss t k b in let e = a.0 in omega (arith, lt, e, size)))
    (λ (b : (k ≡ length ss) × (s ≡ t)).
    subst (λ (x : S × Known). WasRead tells x.0 x.1 t w.ended) a.1
    (subst (λ y. WasRead tells r.0 r.1 y w.ended) b.1 (record {
      view = pass;
      reads = reads;
      is_in = subst (IsIn (record { link = pass.link; pushed = pass.pushed })) (sym (ap (λ (x : View). x.ended) is)) (inl refl);
    })))
    (get_snoc ss s t k at_s))
    (get_snoc rs r q k at_r)

pub map_same : {A : Type 0} (xs : List A) → map (λ y. y) xs ≡ xs
map_same [] = refl
map_same (x ∷ xs) = ap (λ l. x ∷ l) (map_same xs)
