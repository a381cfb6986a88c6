-- What a reader does from its start to its end.
use Rattle.std.specs.Prelude.{◌≡◌, ◌≤◌, ℕ, ◌⊎◌, true, false, List, [], ◌∷◌, ◌++◌, length, map, fold, Option}
use Rattle.std.specs.List.{AllByRecursion as Each}
use Rattle.rd_base.specs.Counts.{told_with}
use Rattle.rd_base.specs.Outside.{Rose}
use Rattle.rd_base.specs.Sources.{SourceTold}
use Rattle.rd_base.specs.declared.source.Give.{Give}
use Rattle.rd_gate.specs.declared.item.Item.{Item}
use Rattle.rd_gate.specs.declared.item.Item.TheVariants.{End, ReadFail}
use Rattle.rd_gate.specs.Items.{is_piece, item_of, IsFit}
use Rattle.rd_gate.specs.declared.gate.View.{View}

-- what was told, and then these answers, in order; what tells nothing goes on so
abbrev pub told_all : {A : Type 0} → Option (List A) → List A → Option (List A)
told_all told xs = fold told_with told xs

-- a reader's view, once it has pushed these too
abbrev pub pushes : View → List Item → View
pushes v xs = record v { pushed = v.pushed ++ xs }

-- the items are these answers; where there are 2^20 pieces, the End behind them is no answer
abbrev pub AreAnswers : List Item → List Give → Type 0
AreAnswers items answers = (items ≡ map item_of answers) ⊎ ((items ≡ map item_of answers ++ End ∷ []) × (length answers ≡ 1048576))

-- the reader pushed fit pieces, and then one item that is none: the source's answers, in order. It pushed that a read
-- failed only where the source's count of faults rose, and the source keeps its mark
pub record Reads (before after : SourceTold) (v w : View) : Type 0 where
  pub pieces : List Item
  pub last : Item
  pub answers : List Give
  pub pushed : w ≡ pushes v (pieces ++ last ∷ [])
  pub fit : Each (λ x. IsFit x × (is_piece x ≡ true)) pieces
  pub ends : is_piece last ≡ false
  pub told : after.given ≡ told_all before.given answers
  pub are : AreAnswers (pieces ++ last ∷ []) answers
  pub faults : before.faults ≤ after.faults
  pub failed : last ≡ ReadFail → Rose before.faults after.faults
  pub mark : after.mark ≡ before.mark

-- the reader has pushed these pieces, so many
pub record Reading (before after : SourceTold) (v w : View) (many : ℕ) : Type 0 where
  pub answers : List Give
  pub pushed : w ≡ pushes v (map item_of answers)
  pub fit : Each (λ x. IsFit x × (is_piece x ≡ true)) (map item_of answers)
  pub count : length answers ≡ many
  pub told : after.given ≡ told_all before.given answers
  pub faults : before.faults ≤ after.faults
  pub mark : after.mark ≡ before.mark
