-- The seats of a book that are lent, each at the place of its number.
use Rattle.std.proofs.Common.{◌≡◌, ℕ, zero, suc, ◌≤◌, ◌<◌, ◌+◌, ◌-◌, ◌==◌, Bool, true, false, ◌++◌, ◌∷◌, [], List, map, set, get_or, slice_get, length, Option, Some, None, refl, sym, ap, ◌∙◌, subst, arith, length-append}
use Rattle.std.specs.Prelude.{IfSome}
use Rattle.std.proofs.lemmas.Bool.{eqb-true}
use Rattle.std.proofs.lemmas.Bool.Decides.{nat_tests}
use Rattle.std.proofs.lemmas.List.Elements.{filter-append}
use mathlib.Core.List.{IsPrefix}
use Rattle.rd_history.specs.declared.learn.Learn.{Learn}
use Rattle.rd_history.specs.Learns.{is_of, of_seat, learns_by}
use Rattle.rd_history.proofs.Beginnings.{prefix_trans}
use Rattle.rd_lent_book.specs.Lending.{BookView, new_book}
use Rattle.rd_lent_book.specs.Seats.{SeatView, learned, new_seat, new_seats}
use Rattle.rd_shared_book.proofs.Appended.{ends_alike}

-- what of a beginning is one seat's begins what of the whole is
pub of_seat_begins : (seat : ℕ) (xs ys : List Learn) → IsPrefix xs ys → IsPrefix (of_seat seat xs) (of_seat seat ys)
of_seat_begins seat xs ys p = (of_seat seat p.0, sym (filter-append (is_of seat) xs p.0) ∙ ap (of_seat seat) p.1)

pub some_within : {X : Type 0} (xs : List X) (n : ℕ) (x : X) → slice_get xs n ≡ Some x → n < length xs
some_within [] n x at = absurd (cc at)
some_within (y ∷ xs) zero x at = omega arith
some_within (y ∷ xs) (suc n) x at = let more = some_within xs n x at in omega arith

read_at : {X : Type 0} (xs : List X) (n : ℕ) (x d : X) → slice_get xs n ≡ Some x → get_or xs n d ≡ x
read_at [] n x d at = absurd (cc at)
read_at (y ∷ xs) zero x d at = cc at
read_at (y ∷ xs) (suc n) x d at = read_at xs n x d at

pub set_later : {X : Type 0} (xs : List X) (i n : ℕ) (y : X) → i < n → slice_get (set xs i y) n ≡ slice_get xs n
set_later [] i n y lt = refl
set_later (x ∷ xs) zero zero y lt = absurd (omega arith)
set_later (x ∷ xs) zero (suc n) y lt = refl
set_later (x ∷ xs) (suc i) zero y lt = absurd (omega arith)
set_later (x ∷ xs) (suc i) (suc n) y lt = set_later xs i n y (omega arith)

-- a seat has heeded all that was seen before
pub heard_at : (first now : List Learn) (slots : List (Option SeatView)) (place : ℕ) (was : Option SeatView) (seat : SeatView) → IsPrefix first now → was ≡ get_or slots place was
    → slice_get slots place ≡ Some (Some seat) → IfSome was (λ s. IsPrefix (of_seat s.number now) (learns_by s.number (learned s.calls)))
    → IsPrefix (of_seat seat.number first) (learns_by seat.number (learned seat.calls))
heard_at first now slots place was seat goes_on reads at heard =
    let is : was ≡ Some seat = reads ∙ read_at slots place (Some seat) was at in
    let here : IsPrefix (of_seat seat.number now) (learns_by seat.number (learned seat.calls)) =
    subst (λ (o : Option SeatView). IfSome o (λ s. IsPrefix (of_seat s.number now) (learns_by s.number (learned s.calls)))) is heard in
    prefix_trans (of_seat seat.number first) (of_seat seat.number now) (learns_by seat.number (learned seat.calls)) (of_seat_begins seat.number first now goes_on) here

-- the same of all seats up to this place
pub heard_more : (first now : List Learn) (slots slots' : List (Option SeatView)) (place : ℕ) (was : Option SeatView) → IsPrefix first now → was ≡ get_or slots' place was
    → slice_get slots' place ≡ slice_get slots place → IfSome was (λ s. IsPrefix (of_seat s.number now) (learns_by s.number (learned s.calls)))
    → ((n : ℕ) (seat : SeatView) → n < place → slice_get slots n ≡ Some (Some seat) → IsPrefix (of_seat seat.number first) (learns_by seat.number (learned seat.calls)))
    → (n : ℕ) (seat : SeatView) → n < place + 1 → slice_get slots n ≡ Some (Some seat) → IsPrefix (of_seat seat.number first) (learns_by seat.number (learned seat.calls))
heard_more first now slots slots' place was goes_on reads still heard sooner n seat lt at = go (n == place) refl
  where
    go : (t : Bool) → (n == place) ≡ t → IsPrefix (of_seat seat.number first) (learns_by seat.number (learned seat.calls))
    go true e =
        let here : place ≡ n = sym (eqb-true n place e) in
        heard_at first now slots' place was seat goes_on reads (still ∙ ap (slice_get slots) here ∙ at) heard
    go false e = sooner n seat (grind (arith, nat_tests)) at

pub count_of_seats : (count : ℕ) → length (new_seats count) ≡ count
count_of_seats zero = refl
count_of_seats (suc count) = omega (arith, length-append (new_seats count) (new_seat count ∷ []), count_of_seats count)

abbrev pub view_with : ℕ → SeatView → List (Option SeatView) → BookView
view_with seats own spare = record { seats = seats; own = own; spare = spare }

-- of so many seats the last has the greatest number, and the others may be lent
pub last_lends : (seats count : ℕ) → seats ≡ count → 1 ≤ count → (others : List SeatView) (last : SeatView) (spare : List (Option SeatView)) → new_seats count ≡ others ++ last ∷ []
    → spare ≡ map (λ seat. Some seat) others → view_with seats last spare ≡ new_book (count - 1)
last_lends seats zero same some others last spare is are = absurd (omega arith)
last_lends seats (suc count) same some others last spare is are =
    let parts = ends_alike (new_seats count) others (new_seat count) last is in
    let before : count ≡ suc count - 1 = omega arith in
    let many : seats ≡ count + 1 = omega (arith, same) in
    cc (many, sym parts.1, are ∙ ap (map (λ seat. Some seat)) (sym parts.0)) ∙ ap new_book before
