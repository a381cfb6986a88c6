-- Links whose readers have ended.
use Rattle.std.proofs.Common.{◌≡◌, true, not, ◌||◌, List, [], ◌∷◌, ◌++◌, sym, ap, ◌∙◌, append-nil}
use Rattle.std.specs.List.{AllByRecursion as Each}
use Rattle.rd_gate.specs.declared.item.Item.{Item}
use Rattle.rd_gate.specs.Gate.{of}
use Rattle.rd_gate.specs.Items.{is_piece}
use Rattle.rd_gate.specs.Ends.{has_last, BeginsEnded, TakesEnded}
use Rattle.rd_gate.proofs.Steps.{of-append}

-- behind the last item nothing stands
nothing_behind : (xs rest pieces : List Item) (last : Item) → xs ++ rest ≡ pieces ++ last ∷ [] → Each (λ x. is_piece x ≡ true) pieces → has_last xs ≡ true → rest ≡ []
nothing_behind [] rest pieces last e h has = absurd (cc has)
nothing_behind (x ∷ []) rest [] last e h has = cc e
nothing_behind (x ∷ y ∷ xs) rest [] last e h has = absurd (cc e)
nothing_behind (x ∷ xs) rest (p ∷ pieces) last e h has =
    let same : x ≡ p = cc e in
    let more : xs ++ rest ≡ pieces ++ last ∷ [] = cc e in
    let is : is_piece x ≡ true = ap is_piece same ∙ h.0 in
    nothing_behind xs rest pieces last more h.1 (sym (ap (λ b. not b || has_last xs) is) ∙ has)

pub begins_ended : BeginsEnded
begins_ended v items link pushed e = record { rest = of link items; is = sym (of-append link v.taken items) ∙ e }

pub takes_ended : TakesEnded
takes_ended v items link pieces last e h none has =
    let all = sym (of-append link v.taken items) ∙ e in
    let nothing = nothing_behind (of link v.taken) (of link items) pieces last all h has in
    sym (append-nil (of link v.taken)) ∙ sym (ap (λ l. of link v.taken ++ l) nothing) ∙ all
