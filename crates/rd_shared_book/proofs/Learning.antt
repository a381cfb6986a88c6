-- A row that is learnt, and the book behind it.
use Rattle.std.proofs.Common.{◌≡◌, ℕ, ◌+◌, ◌<◌, Bool, true, false, cond, not, List, [], ◌∷◌, ◌++◌, length, set, get_or, take, find, Some, refl, sym, ap, ◌∙◌, subst}
use Rattle.std.specs.Prelude.{filter}
use Rattle.std.specs.List.{slice_get}
use Rattle.std.proofs.lemmas.Option.{slice_get_read}
use Rattle.rd_base.specs.History.{Row}
use Rattle.rd_base.specs.OwnRows.{learn_row, shown_of}
use Rattle.rd_base.specs.Swap.{shows}
use Rattle.rd_history.specs.declared.learn.Learn.{Learn}
use Rattle.rd_history.specs.Learns.{entry, of_seat, AreBelow}
use Rattle.rd_lent_book.specs.Books.{book_after}
use Rattle.rd_shared_book.specs.Books.{AreCounts, IsBook, EndsIn}
use Rattle.rd_shared_book.proofs.Appended.{book_after-more, below-more, ends_alike}
use Rattle.rd_shared_book.proofs.Counting.{counts-more}

-- ---- the rows

pub learn_row-made : (row : Row) (items kept cut new : List Row) (word : List ℕ) → word ≡ shown_of row
    → kept ≡ filter (λ r. not (shows word r)) items → cut ≡ take 4095 kept → new ≡ row ∷ cut
    → new ≡ learn_row 4096 items row
learn_row-made row items kept cut new word shown kept_is cut_is new_is =
    new_is
    ∙ ap (λ rs. row ∷ rs) (cut_is ∙ ap (take 4095) (kept_is ∙ ap (λ w. filter (λ r. not (shows w r)) items) shown))

-- ---- the book

pub counted_at : (seats seat n : ℕ) (counts : List ℕ) (learns : List Learn) → AreCounts seats counts learns → seat < seats
    → n ≡ get_or counts seat n → n ≡ length (of_seat seat learns)
counted_at seats seat n counts learns are below read =
    let within : seat < length counts = subst (λ (k : ℕ). seat < k) (sym are.count) below in
    let here : slice_get counts seat ≡ Some n = slice_get_read counts (length counts) seat n refl within read in
    cc (here, are.each seat below)

pub book-more : (seats seat n : ℕ) (row : Row) (rows : List Row) (counts : List ℕ) (learns after : List Learn)
    → IsBook seats rows counts learns → (x : Learn) → after ≡ learns ++ x ∷ [] → EndsIn seats seat row after
    → n ≡ length (of_seat seat learns) → IsBook seats (learn_row 4096 rows row) (set counts seat (n + 1)) after
book-more seats seat n row rows counts learns after book x next ends is =
    let alike = ends_alike learns ends.before x (entry seat ends.number row) (sym next ∙ ends.is) in
    let last : after ≡ learns ++ entry seat ends.number row ∷ [] = ends.is ∙ ap (λ (ls : List Learn). ls ++ entry seat ends.number row ∷ []) (sym alike.0) in
    record {
      kept = ap (λ rs. learn_row 4096 rs row) book.kept ∙ sym (book_after-more learns (entry seat ends.number row)) ∙ ap book_after (sym last);
      counted = subst (AreCounts seats (set counts seat (n + 1))) (sym last) (counts-more seats seat ends.number n row counts learns ends.below book.counted is);
      below = subst (AreBelow seats) (sym last) (below-more seats learns (entry seat ends.number row) book.below ends.below);
    }

-- ---- what is found

pub find_passes : (test : Row → Bool) (rows : List Row) (row : Row) → find test rows ≡ Some row → test row ≡ true
find_passes test [] row e = absurd (cc e)
find_passes test (r ∷ rs) row e = go (test r) refl e (find_passes test rs row)
  where
    go : (t : Bool) → test r ≡ t → cond t (Some r) (find test rs) ≡ Some row → (find test rs ≡ Some row → test row ≡ true) → test row ≡ true
    go true is e' more = subst (λ (x : Row). test x ≡ true) (cc e') is
    go false is e' more = more e'
