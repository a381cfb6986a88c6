-- What is known of readers that were joined.
use Rattle.std.specs.Prelude.{◌≡◌, ◌⊎◌, List, [], ◌∷◌}
use Rattle.rd_base.specs.Sources.{SourceTold}
use Rattle.rd_gate.specs.declared.gate.Ended.{Ended}
use Rattle.rd_gate.specs.declared.gate.View.{View}
use Rattle.rd_gate.specs.Gate.{Known}
use Rattle.rd_gate.specs.Reads.{Reads}

-- it stands in the list
abbrev pub IsIn : Ended → List Ended → Type 0
IsIn e [] = ⊥
IsIn e (x ∷ xs) = (x ≡ e) ⊎ IsIn e xs

-- a source came back from its reader, whose pass was taken in among these
pub record WasRead {S : Type 0} (tells : S → SourceTold) (source : S) (pass : Known) (back : S) (ended : List Ended) : Type 0 where
  pub view : View
  pub reads : Reads (tells source) (tells back) pass.knows view
  pub is_in : IsIn (record { link = view.link; pushed = view.pushed }) ended

-- an owner's view with these lists of readers that have ended
abbrev pub with_ended : View → List Ended → View
with_ended v ended = record v { ended = ended }
