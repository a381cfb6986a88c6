-- What one more learn is to a list of them.
use Rattle.std.proofs.Common.{◌≡◌, ℕ, suc, ◌+◌, ◌<◌, ◌≤◌, ◌==◌, Bool, true, false, cond, List, [], ◌∷◌, ◌++◌, length, map, refl, sym, ap, ◌∙◌, arith, length-append}
use Rattle.std.specs.List.{fold}
use Rattle.std.proofs.lemmas.Bool.{eqb-true}
use Rattle.std.proofs.lemmas.List.{map-append, append-nil}
use Rattle.std.proofs.lemmas.List.Elements.{filter-append, All-append, All-cons, All-nil}
use Rattle.std.proofs.lemmas.List.Sums.{fold-append}
use mathlib.Core.List.{IsPrefix}
use Rattle.rd_base.specs.History.{Row}
use Rattle.rd_base.specs.OwnRows.{learn_row}
use Rattle.rd_history.specs.declared.learn.Learn.{Learn}
use Rattle.rd_history.specs.Learns.{entry, is_of, of_seat, with_row, learns_by, AreBelow}
use Rattle.rd_lent_book.specs.Books.{book_after}

-- ---- the book

pub book_after-more : (learns : List Learn) (learn : Learn) → book_after (learns ++ learn ∷ []) ≡ learn_row 4096 (book_after learns) learn.row
book_after-more learns learn =
    ap (fold (learn_row 4096) []) (map-append (λ (l : Learn). l.row) learns (learn ∷ []))
    ∙ fold-append (learn_row 4096) [] (map (λ (l : Learn). l.row) learns) (learn.row ∷ [])

-- ---- one seat's learns

pub of_seat-own : (seat number : ℕ) (row : Row) (learns : List Learn) → of_seat seat (learns ++ entry seat number row ∷ []) ≡ of_seat seat learns ++ entry seat number row ∷ []
of_seat-own seat number row learns =
    filter-append (is_of seat) learns (entry seat number row ∷ []) ∙ rw (same seat) refl
  where
    same : (n : ℕ) → (n == n) ≡ true
    same n = grind arith

pub of_seat-other : (seat other number : ℕ) (row : Row) (learns : List Learn) → (other ≡ seat → ⊥) → of_seat seat (learns ++ entry other number row ∷ []) ≡ of_seat seat learns
of_seat-other seat other number row learns differs =
    filter-append (is_of seat) learns (entry other number row ∷ []) ∙ rw (not_same (other == seat) refl) (append-nil (of_seat seat learns))
  where
    not_same : (t : Bool) → (other == seat) ≡ t → (other == seat) ≡ false
    not_same true e = absurd (differs (eqb-true other seat e))
    not_same false e = e

none_more : {A : Type 0} (xs ys : List A) → length (xs ++ ys) ≡ length xs → xs ++ ys ≡ xs
none_more xs [] e = append-nil xs
none_more xs (y ∷ ys) e = absurd (omega (arith, e, length-append xs (y ∷ ys)))

-- a list that goes on from another and has as many learns of the seat has the same ones
pub of_seat-same : (seat : ℕ) (before after : List Learn) → IsPrefix before after → length (of_seat seat after) ≡ length (of_seat seat before) → of_seat seat after ≡ of_seat seat before
of_seat-same seat before after p e =
    let parts : of_seat seat after ≡ of_seat seat before ++ of_seat seat p.0 = ap (of_seat seat) (sym p.1) ∙ filter-append (is_of seat) before p.0 in
    parts ∙ none_more (of_seat seat before) (of_seat seat p.0) (sym (ap length parts) ∙ e)

pub of_seat-fewer : (seat : ℕ) (learns : List Learn) → length (of_seat seat learns) ≤ length learns
of_seat-fewer seat [] = omega arith
of_seat-fewer seat (l ∷ ls) = go (is_of seat l) (of_seat-fewer seat ls)
  where
    go : (t : Bool) → length (of_seat seat ls) ≤ length ls → length (cond t (l ∷ of_seat seat ls) (of_seat seat ls)) ≤ suc (length ls)
    go true h = omega (arith, h)
    go false h = omega (arith, h)

pub learns_by-more : (seat : ℕ) (rows : List Row) (row : Row) → learns_by seat (rows ++ row ∷ []) ≡ with_row seat (learns_by seat rows) row
learns_by-more seat rows row = fold-append (with_row seat) [] rows (row ∷ [])

by_from : (seat : ℕ) (learns : List Learn) (rows : List Row) → length (fold (with_row seat) learns rows) ≡ length learns + length rows
by_from seat learns [] = omega arith
by_from seat learns (row ∷ rows) =
    by_from seat (with_row seat learns row) rows
    ∙ omega (arith, length-append learns (entry seat (length learns) row ∷ []))

pub length-learns_by : (seat : ℕ) (rows : List Row) → length (learns_by seat rows) ≡ length rows
length-learns_by seat rows = by_from seat [] rows ∙ omega arith

pub below-more : (seats : ℕ) (learns : List Learn) (learn : Learn) → AreBelow seats learns → learn.seat < seats → AreBelow seats (learns ++ learn ∷ [])
below-more seats learns learn all here =
    let P : Learn → Type 0 = λ l. l.seat < seats in
    All-append P learns (learn ∷ []) all (All-cons P learn [] here (All-nil P))

-- ---- lists that end alike

pub ends_alike : {A : Type 0} (xs ys : List A) (x y : A) → xs ++ x ∷ [] ≡ ys ++ y ∷ [] → (xs ≡ ys) × (x ≡ y)
ends_alike [] [] x y e = (refl, cc e)
ends_alike [] (z ∷ []) x y e = absurd (cc e)
ends_alike [] (z ∷ w ∷ ys) x y e = absurd (cc e)
ends_alike (z ∷ []) [] x y e = absurd (cc e)
ends_alike (z ∷ w ∷ xs) [] x y e = absurd (cc e)
ends_alike (z ∷ xs) (w ∷ ys) x y e =
    let rest = ends_alike xs ys x y (cc e) in (cc (e, rest.0), rest.1)
