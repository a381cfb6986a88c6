-- Visits, what comes back, and the list that is told of both. L is what a session leaves behind beside its links.
use Rattle.std.specs.Prelude.{◌≡◌, ℕ, suc, ◌==◌, false, if◌then◌else◌, List, [], ◌∷◌, ◌++◌, ◌⊎◌, map, Option, Some, None, option_map, All}
use Rattle.rd_base.specs.Words.{below}
use Rattle.rd_base.specs.Outside.{Mark, SinkTold}
use Rattle.rd_base.specs.Sources.{SourceTold}
use Rattle.rd_base.specs.declared.source.Give.{Give}
use Rattle.rd_base.specs.declared.values.Side.{Side}
use Rattle.rd_base.specs.declared.values.Side.TheVariants.{Incoming, Outgoing}
use Rattle.rd_base.specs.declared.session_note.OperatorEnd.{OperatorEnd}
use Rattle.rd_doors.specs.declared.visit.Ends.{Ends}
use Rattle.rd_doors.specs.declared.visit.Run.{Run}
use Rattle.rd_doors.specs.declared.visit.Visit.{Visit}
use Rattle.rd_doors.specs.declared.visit.Visit.TheVariants.{Client, Callers, Operator, Quiet, Over, Failed, NoMemory}

-- the links of a visit, with its number
pub record EndsTold : Type 0 where
  pub number : ℕ
  pub sources : List SourceTold
  pub sinks : List SinkTold

-- a run that has ended, with the number of its visit
pub record RunTold (L : Type 0) : Type 0 where
  pub number : ℕ
  pub left : L
  pub sources : List SourceTold
  pub sinks : List SinkTold

-- what is told: visits as they were given, runs as they came back, visits turned away, operators' visits and their ends
pub data Entry (L : Type 0) : Type 0 where
  Gave : Side → EndsTold → Entry L
  GaveOperator : SourceTold → SinkTold → Entry L
  CameBack : RunTold L → Entry L
  TurnedAway : EndsTold → Entry L
  CameFromOperator : SourceTold → SinkTold → OperatorEnd → Entry L

-- the number is among these
abbrev pub Holds : ℕ → List ℕ → Type 0
Holds n [] = ⊥
Holds n (m ∷ ms) = (m ≡ n) ⊎ Holds n ms

-- the numbers without the first that is this one
abbrev pub without : ℕ → List ℕ → List ℕ
without n [] = []
without n (m ∷ ms) = if m == n then ms else m ∷ without n ms

-- the visits that are out once this is told too
abbrev pub out_after : {L : Type 0} → Entry L → List ℕ → List ℕ
out_after (Gave side ends) out = out ++ ends.number ∷ []
out_after (GaveOperator source sink) out = out
out_after (CameBack run) out = without run.number out
out_after (TurnedAway ends) out = without ends.number out
out_after (CameFromOperator source sink end) out = out

abbrev pub out_from : {L : Type 0} → List ℕ → List (Entry L) → List ℕ
out_from out [] = out
out_from out (e ∷ es) = out_from (out_after e out) es

-- the numbers of the visits that are out
abbrev pub out_of : {L : Type 0} → List (Entry L) → List ℕ
out_of told = out_from [] told

-- what was told, and then this; what tells nothing goes on so
abbrev pub entries_with : {L : Type 0} → Option (Entry L) → Option (List (Entry L)) → Option (List (Entry L))
entries_with None told = told
entries_with (Some e) told = option_map (λ es. es ++ e ∷ []) told

abbrev pub out_with : {L : Type 0} → Option (Entry L) → List ℕ → List ℕ
out_with None out = out
out_with (Some e) out = out_after e out

module _ {S K : Type 0} (source : S → SourceTold) (sink : K → SinkTold) where
  abbrev pub ends_told : Ends S K → EndsTold
  ends_told ends = record { number = ends.number; sources = map source ends.sources.items; sinks = map sink ends.sinks.items }

  abbrev pub run_told : {L : Type 0} → ℕ → Run S L → List K → RunTold L
  run_told number run sinks = record { number = number; left = run.left; sources = map source run.sources.items; sinks = map sink sinks }

  -- what is told of a visit that is given
  abbrev pub given_entry : {L : Type 0} → Visit S K → Option (Entry L)
  given_entry (Client ends) = Some (Gave Incoming (ends_told ends))
  given_entry (Callers ends) = Some (Gave Outgoing (ends_told ends))
  given_entry (Operator s k) = Some (GaveOperator (source s) (sink k))
  given_entry Quiet = None
  given_entry Over = None
  given_entry Failed = None
  given_entry NoMemory = None

-- the marks of the links of this visit, in the order of links
abbrev pub marks_of : ℕ → ℕ → List Mark
marks_of copies number = map (λ l. record { first = number; second = l }) (below (suc copies))

-- it has given no answer, as far as it tells
abbrev pub is_unasked : SourceTold → Type 0
is_unasked s = (given : List Give) → s.given ≡ Some given → given ≡ []

-- it holds nothing, as far as it tells
abbrev pub is_empty : SinkTold → Type 0
is_empty k = (held : List ℕ) → k.held ≡ Some held → held ≡ []

-- the links of a visit as they are given: a source and a sink for each, by their marks, that were not used
pub record AreFresh (copies : ℕ) (ends : EndsTold) : Type 0 where
  pub source_marks : map (λ s. s.mark) ends.sources ≡ marks_of copies ends.number
  pub sink_marks : map (λ k. k.mark) ends.sinks ≡ marks_of copies ends.number
  pub unasked : All is_unasked ends.sources
  pub empty : All is_empty ends.sinks
  pub open_sinks : All (λ k. k.is_closed ≡ false) ends.sinks

-- the source and the sink of the operators' visit of this place, that were not used
pub record IsFreshOperator (place : ℕ) (s : SourceTold) (k : SinkTold) : Type 0 where
  pub mark : s.mark ≡ record { first = 0; second = place }
  pub same : k.mark ≡ s.mark
  pub unasked : is_unasked s
  pub empty : is_empty k
  pub is_open : k.is_closed ≡ false
