-- How many ports settings name.
use Rattle.std.specs.Prelude.{◌≡◌, ℕ, ◌||◌, ◌==◌, Bool, true, List, length}
use Rattle.rd_conf.specs.declared.settings.Ports.{Ports}

-- none, or one for each copy
abbrev pub is_none_or_each : ℕ → List (List ℕ) → Bool
is_none_or_each copies texts = (length texts == 0) || (length texts == copies)

pub record ArePorts (copies : ℕ) (ports : Ports) : Type 0 where
  pub instances : is_none_or_each copies ports.instances ≡ true
  pub callers : is_none_or_each copies ports.callers ≡ true
