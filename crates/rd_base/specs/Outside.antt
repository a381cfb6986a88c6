-- What objects of the outside tell.
use Rattle.std.specs.Prelude.{◌≡◌, ℕ, ◌<◌, ◌≤◌, ◌⊎◌, ◌^◌, ◌-◌, ◌==◌, Bool, false, true, List, ◌++◌, Option, option_map, find, bytes_eq, Result, Err, OnOk, OnErr}
use Rattle.std.specs.List.{list_any}
use Rattle.rd_base.specs.declared.outside.Failed.{Failed}

-- a count of faults rose, or stands at its last value
abbrev pub Rose : ℕ → ℕ → Type 0
Rose before after = (before < after) ⊎ (after ≡ 2 ^ 64 - 1)

-- two numbers that a source or sink is made with and keeps
pub record Mark : Type 0 where
  pub first : ℕ
  pub second : ℕ

-- ys begins with xs
pub record IsPrefixOf {A : Type 0} (xs ys : List A) : Type 0 where
  pub rest : List A
  pub is : xs ++ rest ≡ ys

-- what a sink tells that it holds: the bytes that it held, and then these; one that tells nothing goes on so
abbrev pub held_with : Option (List ℕ) → List ℕ → Option (List ℕ)
held_with held bytes = option_map (λ had. had ++ bytes) held

-- a sink holds what it held and behind it a prefix of these bytes
pub record HoldsPrefix (before after : Option (List ℕ)) (bytes : List ℕ) : Type 0 where
  pub part : List ℕ
  pub begins : IsPrefixOf part bytes
  pub holds : after ≡ held_with before part

-- what a sink tells: its mark, its count of faults, what it holds, where it tells that, and whether it was closed
pub record SinkTold : Type 0 where
  pub mark : Mark
  pub faults : ℕ
  pub held : Option (List ℕ)
  pub is_closed : Bool

-- a sink is still there to be written to
pub record StaysOpen (before after : SinkTold) : Type 0 where
  pub faults : before.faults ≤ after.faults
  pub stays_open : after.is_closed ≡ false
  pub mark : after.mark ≡ before.mark

-- a call that writes these bytes to a sink: all of them, and a prefix where it answers an error; where it answers
-- this error, the sink has failed
pub record Writes {A E : Type 0} (bytes : List ℕ) (fail : E) (result : Result A E) (before after : SinkTold) : Type 0 where
  pub all : OnOk result (after.held ≡ held_with before.held bytes)
  pub part : OnErr result (HoldsPrefix before.held after.held bytes)
  pub failed : result ≡ Err fail → Rose before.faults after.faults
  pub stays : StaysOpen before after

-- the answer of a sink that has failed
abbrev pub failed : Failed
failed = record {}

-- a sink that is closed, and holds what it held
pub record Closes (before after : SinkTold) : Type 0 where
  pub closed : after.is_closed ≡ true
  pub held : after.held ≡ before.held
  pub faults : before.faults ≤ after.faults
  pub mark : after.mark ≡ before.mark

-- the number of a call is among these
abbrev pub is_listed : ℕ → List ℕ → Bool
is_listed call listed = list_any (λ number. number == call) listed

-- a file and what is in it
pub record NamedFile : Type 0 where
  pub name : List ℕ
  pub bytes : List ℕ

-- what is in the file of this name
abbrev pub file_of : List ℕ → List NamedFile → Option (List ℕ)
file_of name files = option_map (λ f. f.bytes) (find (λ f. bytes_eq f.name name) files)

-- what files tell: what they have, where they tell that, and their count of faults
pub record FilesTold : Type 0 where
  pub files : Option (List NamedFile)
  pub faults : ℕ

-- files were only read: they have what they had, and their count doesn't fall
pub record StaysRead (before after : FilesTold) : Type 0 where
  pub files : after.files ≡ before.files
  pub faults : before.faults ≤ after.faults
