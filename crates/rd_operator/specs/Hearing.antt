-- What is heard of a source until its bytes are no longer a part of a head.
use Rattle.std.specs.Prelude.{◌≡◌, ℕ, ◌≤◌, ◌⊎◌, Bool, true, false, List, [], ◌∷◌, ◌++◌, fold, MatchBool}
use Rattle.rd_base.specs.declared.values.Scan.{Scan}
use Rattle.rd_base.specs.declared.values.Scan.TheVariants.{Whole, More, Bad, TooBig, Unsupported}
use Rattle.rd_base.specs.declared.values.Part.TheVariants.{Request}
use Rattle.rd_base.specs.declared.source.Give.{Give}
use Rattle.rd_base.specs.declared.source.Give.TheVariants as give
use Rattle.rd_base.specs.Counts.{told_with}
use Rattle.rd_base.specs.Outside.{Rose}
use Rattle.rd_base.specs.Sources.{SourceTold}
use Rattle.rd_http_scan.specs.Scans.{head_scan}
use Rattle.rd_operator.specs.declared.hearing.Heard.{Heard}
use Rattle.rd_operator.specs.declared.hearing.Heard.TheVariants.{Bytes, Nothing, ReadFail, NoMemory}

abbrev pub is_more : Scan → Bool
is_more (Whole len) = false
is_more More = true
is_more Bad = false
is_more TooBig = false
is_more (Unsupported code) = false

-- these bytes are a part of a head, and more may come
abbrev pub is_part : List ℕ → Bool
is_part bytes = is_more (head_scan Request bytes)

-- what was heard where the source ends behind these bytes
abbrev pub ended_with : List ℕ → Heard
ended_with [] = Nothing
ended_with (b ∷ bytes) = Bytes (b ∷ bytes)

-- what these answers of a source come to behind these bytes: its pieces are joined until they are no longer a part
-- of a head, and no further answer is taken
abbrev pub Hears : List ℕ → List Give → Heard → Type 0
Hears bytes [] heard = ⊥
Hears bytes (give.Piece piece ∷ gives) heard =
    MatchBool (is_part (bytes ++ piece)) (Hears (bytes ++ piece) gives heard) ((gives ≡ []) × (heard ≡ Bytes (bytes ++ piece)))
Hears bytes (give.End ∷ gives) heard = (gives ≡ []) × (heard ≡ ended_with bytes)
Hears bytes (give.Failed ∷ gives) heard = (gives ≡ []) × (heard ≡ ReadFail)
Hears bytes (give.NoMemory ∷ gives) heard = (gives ≡ []) × (heard ≡ NoMemory)

-- a call that takes so many answers of a source. Want of memory may come behind any of them
pub record Takes (heard : Heard) (before after : SourceTold) : Type 0 where
  pub gives : List Give
  pub given : after.given ≡ fold told_with before.given gives
  pub hears : (heard ≡ NoMemory) ⊎ Hears [] gives heard
  pub failed : heard ≡ ReadFail → Rose before.faults after.faults
  pub faults : before.faults ≤ after.faults
  pub mark : after.mark ≡ before.mark
