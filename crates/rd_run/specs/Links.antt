-- What was taken of each link.
use Rattle.std.specs.Prelude.{◌≡◌, ◌⊎◌, ℕ, zero, suc, List, [], ◌∷◌}
use Rattle.rd_base.specs.Sources.{SourceTold}
use Rattle.rd_base.specs.declared.values.Link.{Link}
use Rattle.atomic_table.specs.Seated.{TableId}
use Rattle.rd_gate.specs.declared.item.Item.{Item}
use Rattle.rd_gate.specs.declared.gate.View.{View}
use Rattle.rd_gate.specs.Gate.{Known, known, reader}
use Rattle.rd_run.specs.declared.items.LeftOver.{LeftOver}
use Rattle.rd_run.specs.declared.items.LeftOver.TheVariants.{All}
use Rattle.rd_run.specs.Leaving.{Keeps, plain}
use Rattle.rd_run.specs.Ran.{LinkRead}

-- what was taken of a link is what its source answered, up to its last answer; or its source was never asked
abbrev pub LinkDone : Type 0 → List Item → SourceTold → SourceTold → Type 0
LinkDone stays items before after = LinkRead items before after ⊎ (stays × (items ≡ []) × (after ≡ before))

-- so of each link, from this number on
abbrev pub LinksDone : Type 0 → (ℕ → List Item) → ℕ → List SourceTold → List SourceTold → Type 0
LinksDone stays taken k [] [] = Unit {0}
LinksDone stays taken k (x ∷ xs) (y ∷ ys) = LinkDone stays (taken k) x y × LinksDone stays taken (suc k) xs ys
LinksDone stays taken k [] (y ∷ ys) = ⊥
LinksDone stays taken k (x ∷ xs) [] = ⊥

-- passes of readers that have pushed nothing, of the links from this number on
abbrev pub AreFresh : TableId → ℕ → List Known → Type 0
AreFresh gate k [] = Unit {0}
AreFresh gate k (p ∷ ps) = (p ≡ known gate (reader k [])) × AreFresh gate (suc k) ps

-- all that the owner took is left over
pub record TakesAll (v : View) (left : LeftOver) : Type 0 where
  pub items : List (Link × Item)
  pub taken : v.taken ≡ plain items
  pub keeps : Keeps (All []) left items
