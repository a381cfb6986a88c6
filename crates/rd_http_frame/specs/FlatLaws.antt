-- What flat forms have in common.
use Rattle.std.specs.Prelude.{◌≡◌, ℕ, ◌+◌, ◌*◌, ◌≤◌, Bool, false, List, ◌++◌, length}
use Rattle.rd_base.specs.Outside.{IsPrefixOf}
use Rattle.rd_base.specs.declared.values.Part.{Part}
use Rattle.rd_http_frame.specs.Flats.{IsFlat}

pub record AreFlatForms (part : Part) (head_request : Bool) : Type 0 where
  -- bytes have one flat form, as a whole and as a part
  pub once : (bytes : List ℕ) (whole : Bool) (flat other : List ℕ) → IsFlat part head_request bytes whole flat → IsFlat part head_request bytes whole other → flat ≡ other
  -- a part's flat form begins that of all that begins with the part
  pub begins : (bytes more : List ℕ) (whole : Bool) (flat later : List ℕ) → IsFlat part head_request bytes false flat → IsFlat part head_request (bytes ++ more) whole later → IsPrefixOf flat later
  pub size : (bytes : List ℕ) (whole : Bool) (flat : List ℕ) → IsFlat part head_request bytes whole flat → length flat ≤ 3 * length bytes + 4
