-- What the owner knows of a link whose reader has ended.
use Rattle.std.specs.Prelude.{◌≡◌, ℕ, Bool, true, false, not, ◌||◌, List, [], ◌∷◌, ◌++◌}
use Rattle.std.specs.List.{AllByRecursion as Each}
use Rattle.rd_base.specs.Outside.{IsPrefixOf}
use Rattle.rd_gate.specs.declared.item.Item.{Item}
use Rattle.rd_gate.specs.declared.gate.View.{View}
use Rattle.rd_gate.specs.Gate.{of}
use Rattle.rd_gate.specs.Items.{is_piece}

-- an item that is no piece is among these
abbrev pub has_last : List Item → Bool
has_last [] = false
has_last (x ∷ xs) = not (is_piece x) || has_last xs

-- what was taken of a link, and then what is held of it, is what was pushed of it: so what was taken begins that
abbrev pub BeginsEnded : Type 0
BeginsEnded = (v : View) (items : List (ℕ × Item)) (link : ℕ) (pushed : List Item) → of link (v.taken ++ items) ≡ pushed → IsPrefixOf (of link v.taken) pushed

-- and where pieces were pushed and then one item that is none, and that one was taken, all was taken
abbrev pub TakesEnded : Type 0
TakesEnded = (v : View) (items : List (ℕ × Item)) (link : ℕ) (pieces : List Item) (last : Item)
    → of link (v.taken ++ items) ≡ pieces ++ last ∷ [] → Each (λ x. is_piece x ≡ true) pieces → is_piece last ≡ false
    → has_last (of link v.taken) ≡ true → of link v.taken ≡ pieces ++ last ∷ []
