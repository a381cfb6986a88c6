-- The rule of the gate: what its queue holds, beside what the owner and each link's reader know.
use Rattle.std.specs.Prelude.{◌≡◌, ℕ, zero, suc, ◌+◌, ◌<◌, ◌≤◌, ◌==◌, true, false, cond, List, [], ◌∷◌, ◌++◌, length}
use mathlib.Core.Option.{Option, some, none}
use lib.ListN.{get_elem?}
use Rattle.std.specs.List.{AllByRecursion as Each}
use Rattle.atomic_table.specs.Seated.{TableId}
use Rattle.crossbeam_queue.specs.Fifo.{Held}
use Rattle.rd_gate.specs.declared.item.Item.{Item}
use Rattle.rd_gate.specs.declared.gate.Ended.{Ended}
use Rattle.rd_gate.specs.declared.gate.View.{View}

-- the items of link p, in order
abbrev pub of : ℕ → List (ℕ × Item) → List Item
of p [] = []
of p (x ∷ xs) = cond (x.0 == p) (x.1 ∷ of p xs) (of p xs)

-- a spent pass
abbrev pub nobody : View
nobody = record { owns = false; made = 0; ended = []; taken = []; looks = []; reads = false; link = 0; pushed = [] }

-- the owner's pass
abbrev pub owner : ℕ → List Ended → List (ℕ × Item) → List ℕ → View
owner made ended taken looks = record { owns = true; made = made; ended = ended; taken = taken; looks = looks; reads = false; link = 0; pushed = [] }

-- a reader's pass
abbrev pub reader : ℕ → List Item → View
reader link pushed = record { owns = false; made = 0; ended = []; taken = []; looks = []; reads = true; link = link; pushed = pushed }

-- an unspent reader's pass has its link's pushed list, and no other has it
abbrev pub FitsReader : (ℕ → Option ℕ) → (ℕ → List Item) → ℕ → View → Type 0
FitsReader seat sent pass v = v.reads ≡ true → (seat v.link ≡ some pass) × (v.pushed ≡ sent v.link)

-- a list that was taken in is all that its link pushed, and no reader's pass has that link
abbrev pub FitsEnded : (ℕ → Option ℕ) → (ℕ → List Item) → Ended → Type 0
FitsEnded seat sent e = (seat e.link ≡ none) × (e.pushed ≡ sent e.link)

-- the one owner knows what was taken, which links there are, and the looks that it had
abbrev pub FitsOwner : ℕ → (ℕ → Option ℕ) → (ℕ → List Item) → List (ℕ × Item) → ℕ → View → Type 0
FitsOwner owner seat sent taken pass v =
    v.owns ≡ true
    → (pass ≡ owner)
    × (v.taken ≡ taken)
    × ((p : ℕ) → v.made ≤ p → (seat p ≡ none) × (sent p ≡ []))
    × Each (λ e. (e.link < v.made) × FitsEnded seat sent e) v.ended
    × Each (λ n. n ≤ length taken) v.looks

-- of each link, what was taken of it and then what is held of it is what was pushed
abbrev pub Kept : List (ℕ × Item) → List View → Type 0
Kept items views =
    (owner : ℕ) × (seat : ℕ → Option ℕ) × (sent : ℕ → List Item) × (taken : List (ℕ × Item))
    × ((p : ℕ) → of p (taken ++ items) ≡ sent p)
    × ((pass : ℕ) (v : View) → get_elem? views pass ≡ some v → FitsReader seat sent pass v × FitsOwner owner seat sent taken pass v)

-- the owner's view after a take, and after a look at an empty gate
abbrev pub took : View → ℕ × Item → View
took v x = record v { taken = v.taken ++ x ∷ [] }

abbrev pub looked : View → View
looked v = record v { looks = v.looks ++ length v.taken ∷ [] }

abbrev pub pushed : View → Item → View
pushed v x = record v { pushed = v.pushed ++ x ∷ [] }

abbrev pub named : View → View
named v = record v { made = v.made + 1 }

abbrev pub joined : View → View → View
joined v w = record v { ended = record { link = w.link; pushed = w.pushed } ∷ v.ended }

-- what a gate holds of this reader's link is the last of what the reader pushed
pub record HoldsLast (v : View) (items : List (ℕ × Item)) : Type 0 where
  pub front : List Item
  pub last : front ++ of v.link items ≡ v.pushed

-- at one moment of the call the gate held 64 items
abbrev pub WasFull : View → Type 0
WasFull v = Held 64 (HoldsLast v)

-- of each link whose reader ended, what was taken of it and then what is held of it is what it pushed; of a link that no
-- reader has, there is none
pub record Whole (v : View) (items : List (ℕ × Item)) : Type 0 where
  pub ended : Each (λ e. of e.link (v.taken ++ items) ≡ e.pushed) v.ended
  pub others : (p : ℕ) → v.made ≤ p → of p (v.taken ++ items) ≡ []

-- a pass, as contracts see it
pub record Known : Type 0 where
  pub gate : TableId
  pub knows : View

abbrev pub known : TableId → View → Known
known gate v = record { gate = gate; knows = v }

-- the readers' passes of a new gate
abbrev pub fresh : TableId → ℕ → List Known
fresh gate zero = []
fresh gate (suc n) = fresh gate n ++ known gate (reader n []) ∷ []
