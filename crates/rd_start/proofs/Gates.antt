-- Passes of a new gate are of that gate.
use Rattle.std.proofs.Common.{◌≡◌, ℕ, zero, suc, List, [], ◌∷◌, ◌++◌, map, refl, sym, subst, All}
use Rattle.std.specs.List.{AllByRecursion as Each}
use Rattle.std.proofs.lemmas.List.Elements.{All-from_recursion}
use Rattle.rd_gate.specs.Gate.{Known, known, reader, fresh}

each_snoc : {X : Type 0} (P : X → Type 0) (xs : List X) (y : X) → Each P xs → P y → Each P (xs ++ y ∷ [])
each_snoc P [] y h p = (p, tt)
each_snoc P (x ∷ xs) y h p = (h.0, each_snoc P xs y h.1 p)

each_front : {X : Type 0} (P : X → Type 0) (xs ys : List X) → Each P (xs ++ ys) → Each P xs
each_front P [] ys h = tt
each_front P (x ∷ xs) ys h = (h.0, each_front P xs ys h.1)

each_rest : {X : Type 0} (P : X → Type 0) (xs ys : List X) → Each P (xs ++ ys) → Each P ys
each_rest P [] ys h = h
each_rest P (x ∷ xs) ys h = each_rest P xs ys h.1

each_map : {X Y : Type 0} (P : X → Type 0) (f : Y → X) (ys : List Y) → Each P (map f ys) → Each (λ y. P (f y)) ys
each_map P f [] h = tt
each_map P f (y ∷ ys) h = (h.0, each_map P f ys h.1)

abbrev IsWith : Known → Known → Type 0
IsWith owner k = k.gate ≡ owner.gate

fresh_gates : (owner : Known) (n : ℕ) → Each (IsWith owner) (fresh owner.gate n)
fresh_gates owner zero = tt
fresh_gates owner (suc n) = each_snoc (IsWith owner) (fresh owner.gate n) (known owner.gate (reader n [])) (fresh_gates owner n) refl

-- an owner's gate is what it was when the passes were made: those that readers were started with are of it
pub gates_started : {X Y : Type 0} (started : X → Known) (unread : Y → Known) (owner first : Known) (n : ℕ) (xs : List X) (ys : List Y) (left : List Known)
    → first.gate ≡ owner.gate → map started xs ++ map unread ys ++ left ≡ fresh first.gate n → All (λ x. (started x).gate ≡ owner.gate) xs
gates_started started unread owner first n xs ys left same e =
    let all = each_front (IsWith first) (map started xs ++ map unread ys) left (subst (Each (IsWith first)) (sym e) (fresh_gates first n)) in
    let these = each_map (IsWith first) started xs (each_front (IsWith first) (map started xs) (map unread ys) all) in
    All-from_recursion (λ x. (started x).gate ≡ owner.gate) xs (subst (λ t. Each (λ x. (started x).gate ≡ t) xs) same these)

-- and those that come back
pub gates_unread : {X Y : Type 0} (started : X → Known) (unread : Y → Known) (owner first : Known) (n : ℕ) (xs : List X) (ys : List Y) (left : List Known)
    → first.gate ≡ owner.gate → map started xs ++ map unread ys ++ left ≡ fresh first.gate n → All (λ y. (unread y).gate ≡ owner.gate) ys
gates_unread started unread owner first n xs ys left same e =
    let all = each_front (IsWith first) (map started xs ++ map unread ys) left (subst (Each (IsWith first)) (sym e) (fresh_gates first n)) in
    let these = each_map (IsWith first) unread ys (each_rest (IsWith first) (map started xs) (map unread ys) all) in
    All-from_recursion (λ y. (unread y).gate ≡ owner.gate) ys (subst (λ t. Each (λ y. (unread y).gate ≡ t) ys) same these)
