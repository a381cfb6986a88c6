-- A row that shows a word has its key.
use Rattle.std.proofs.Common.{◌≡◌, ℕ, Bool, true, false, List, [], ◌∷◌, refl, ap}
use Rattle.std.proofs.lemmas.Slice.Eq.{bytes_eq-Decides}
use Rattle.rd_base.specs.History.{Row}
use Rattle.rd_base.specs.OwnRows.{shown_of}
use Rattle.rd_base.specs.Swap.{shows}
use Rattle.rd_shared_book.specs.Keys.{key_of}

same_key : (word : List ℕ) (row : Row) → shows word row ≡ true → key_of (shown_of row) ≡ key_of word
same_key word [] h = absurd (cc h)
same_key word (shown ∷ texts) h = ap key_of ((bytes_eq-Decides shown word).0 h)

pub other_key : (word : List ℕ) (row : Row) → (key_of (shown_of row) ≡ key_of word → ⊥) → shows word row ≡ false
other_key word row differs = go (shows word row) refl
  where
    go : (t : Bool) → shows word row ≡ t → shows word row ≡ false
    go true e = absurd (differs (same_key word row e))
    go false e = e
