-- What a session leaves: items that no step took, and closed sinks.
use Rattle.std.specs.Prelude.{◌≡◌, ◌⊎◌, ℕ, ◌<◌, ◌≤◌, List, [], ◌∷◌, ◌++◌, length, map, Option, Some, None}
use Rattle.rd_base.specs.Outside.{SinkTold, Closes}
use Rattle.rd_base.specs.declared.values.Link.{Link}
use Rattle.rd_gate.specs.declared.item.Item.{Item}
use Rattle.rd_gate.specs.declared.gate.View.{View}
use Rattle.rd_turn.specs.Sinks.{sink_at}
use Rattle.rd_run.specs.declared.items.LeftOver.{LeftOver}
use Rattle.rd_run.specs.declared.items.LeftOver.TheVariants.{All, NoMemory}

-- these items are kept behind those that were, unless memory ran out
abbrev pub Keeps : LeftOver → LeftOver → List (Link × Item) → Type 0
Keeps (All kept) after more = (after ≡ All (kept ++ more)) ⊎ (after ≡ NoMemory)
Keeps NoMemory after more = after ≡ NoMemory

-- items as the gate has them
abbrev pub plain : List (Link × Item) → List (ℕ × Item)
plain items = map (λ x. (x.0.0, x.1)) items

abbrev pub given_back : Option (Link × Item) → List (Link × Item)
given_back None = []
given_back (Some x) = x ∷ []

-- the owner took these further items, and kept them
pub record Drains (v w : View) (before after : LeftOver) : Type 0 where
  pub items : List (Link × Item)
  pub looks : List ℕ
  pub knows : w ≡ record v { taken = v.taken ++ plain items; looks = v.looks ++ looks }
  pub keeps : Keeps before after items

-- the first sinks were closed, and the others left
pub record ClosedFirst (count : ℕ) (olds news : List SinkTold) : Type 0 where
  pub same : length news ≡ length olds
  pub closed : (l : ℕ) → l < count → Closes (sink_at olds l) (sink_at news l)
  pub others : (l : ℕ) → count ≤ l → sink_at news l ≡ sink_at olds l

pub record AllClosed (olds news : List SinkTold) : Type 0 where
  pub same : length news ≡ length olds
  pub closed : (l : ℕ) → l < length olds → Closes (sink_at olds l) (sink_at news l)
