-- Which copies are behind.
use Rattle.std.proofs.Common.{◌≡◌, ℕ, zero, suc, ◌+◌, ◌<◌, Bool, true, false, not, ◌&&◌, List, [], ◌∷◌, length, get_or, take, drop, refl, ap, sym, ◌∙◌, add-one, arith}
use Rattle.rd_stream_verdict.specs.Kept.{CopyKept}
use Rattle.rd_stream_verdict.specs.Heads.{is_behind, none_behind, only_behind}

and-true : (a : Bool) → a ≡ a && true
and-true true = refl
and-true false = refl

and_swap : (b x z : Bool) → b && (x && z) ≡ x && (b && z)
and_swap true true z = refl
and_swap true false z = refl
and_swap false true z = refl
and_swap false false z = refl

only_split : (copy : ℕ) (copies : List CopyKept) (d : CopyKept) → copy < length copies → only_behind copy copies ≡ (is_behind (get_or copies copy d) && none_behind (drop (suc copy) copies)) && none_behind (take copy copies)
only_split copy [] d lt = absurd (omega arith)
only_split zero (c ∷ copies) d lt = and-true (is_behind c && none_behind copies)
only_split (suc copy) (c ∷ copies) d lt =
    ap (λ b. not (is_behind c) && b) (only_split copy copies d (omega arith))
    ∙ and_swap (not (is_behind c)) (is_behind (get_or copies copy d) && none_behind (drop (suc copy) copies)) (none_behind (take copy copies))

-- a list's element in one place, and those behind and before it
pub only_by : (copy : ℕ) (copies : List CopyKept) (c : CopyKept) → copy < length copies → c ≡ get_or copies copy c → only_behind copy copies ≡ (is_behind c && none_behind (drop (copy + 1) copies)) && none_behind (take copy copies)
only_by copy copies c lt is =
    rw add-one (only_split copy copies c lt ∙ ap (λ x. (is_behind x && none_behind (drop (suc copy) copies)) && none_behind (take copy copies)) (sym is))
