-- Rows hold words of 16 to 128 bytes, so no row shows a word of another length.
use Rattle.std.proofs.Common.{◌≡◌, ℕ, Bool, true, false, List, [], ◌∷◌, None, find, refl, subst}
use Rattle.std.specs.List.{All}
use Rattle.std.specs.Str.{bytes_eq}
use Rattle.std.proofs.lemmas.List.Elements.{All-head, All-tail}
use Rattle.std.proofs.lemmas.Slice.Eq.{bytes_eq-Decides}
use Rattle.rd_base.specs.Swap.{IsRowWord, AreRowWords, shows}

not_shown : (word : List ℕ) → (IsRowWord word → ⊥) → (row : List (List ℕ)) → All IsRowWord row → shows word row ≡ false
not_shown word not_row [] all = refl
not_shown word not_row (shown ∷ texts) all = go (bytes_eq shown word) refl
  where
    go : (t : Bool) → bytes_eq shown word ≡ t → bytes_eq shown word ≡ false
    go true e = absurd (not_row (subst IsRowWord ((bytes_eq-Decides shown word).0 e) (All-head IsRowWord shown texts all)))
    go false e = e

pub none_shown : (word : List ℕ) (rows : List (List (List ℕ))) → (IsRowWord word → ⊥) → AreRowWords rows → find (shows word) rows ≡ None
none_shown word [] not_row all = refl
none_shown word (r ∷ rs) not_row all =
    rw (not_shown word not_row r (All-head (λ row. All IsRowWord row) r rs all))
    (none_shown word rs not_row (All-tail (λ row. All IsRowWord row) r rs all))
