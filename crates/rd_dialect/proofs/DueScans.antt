-- What the laws say of the scan of what is due.
use Rattle.std.proofs.Common.{◌≡◌, ℕ, ◌<◌, ◌≤◌, Bool, true, false, List, length, take, refl, sym, ◌∙◌}
use Rattle.rd_base.specs.declared.values.Scan.{Scan}
use Rattle.rd_base.specs.declared.values.Scan.TheVariants.{Whole, More}
use Rattle.rd_dialect.specs.declared.due.Due.{Due}
use Rattle.rd_dialect.specs.Grammar.{Grammar}
use Rattle.rd_dialect.specs.Laws.{Lawful}
use Rattle.rd_dialect.specs.Due.{scan_due, IsDue}

module _ (g : Grammar) (laws : Lawful g) (due : Due) (bytes : List ℕ) (ended : Bool) (s : Scan) (is : s ≡ scan_due g due bytes ended) where
  pub due_within : (len : ℕ) → s ≡ Whole len → len ≤ length bytes
  due_within len whole = laws.within due.part due.phase due.note bytes ended len (sym is ∙ whole)

  pub due_some : (len : ℕ) → s ≡ Whole len → 0 < len
  due_some len whole = laws.some_bytes due.part due.phase due.note bytes ended len (sym is ∙ whole)

  pub due_unit : (len : ℕ) → s ≡ Whole len → IsDue g due (take len bytes) true
  due_unit len whole = record { ended = ended; scan = laws.itself due.part due.phase due.note bytes ended len (sym is ∙ whole) }

  pub due_part : s ≡ More → IsDue g due bytes false
  due_part more = record { ended = ended; scan = sym is ∙ more }
