-- What one more call is to those of a seat.
use Rattle.std.proofs.Common.{◌≡◌, ℕ, suc, ◌+◌, List, [], ◌∷◌, ◌++◌, length, find, Option, Some, refl, sym, ap, ◌∙◌, arith, length-append}
use mathlib.Core.List.{IsPrefix}
use Rattle.rd_base.specs.History.{Row}
use Rattle.rd_token_map.specs.BookCalls.{BookCall, Found, Learned, Finds}
use Rattle.rd_base.specs.Swap.{shows}
use Rattle.rd_history.proofs.Beginnings.{prefix_trans}
use Rattle.rd_history.specs.declared.learn.Learn.{Learn}
use Rattle.rd_history.specs.Learns.{entry, of_seat, learns_by, AreBelow}
use Rattle.rd_lent_book.specs.Seats.{SeatView, learned, HoldsOwn, IsFresh, new_seat, new_seats}
use Rattle.rd_shared_book.proofs.Appended.{of_seat-own, of_seat-same, learns_by-more, length-learns_by, below-more}
use Rattle.rd_shared_book.proofs.Learning.{find_passes}

pub learned-found : (calls : List BookCall) (word : List ℕ) (answer : Option Row) → learned (calls ++ Found word answer ∷ []) ≡ learned calls
learned-found [] word answer = refl
learned-found (Found w a ∷ calls) word answer = learned-found calls word answer
learned-found (Learned r ∷ calls) word answer = ap (λ rows. r ∷ rows) (learned-found calls word answer)

pub learned-more : (calls : List BookCall) (row : Row) → learned (calls ++ Learned row ∷ []) ≡ learned calls ++ row ∷ []
learned-more [] row = refl
learned-more (Found w a ∷ calls) row = learned-more calls row
learned-more (Learned r ∷ calls) row = ap (λ rows. r ∷ rows) (learned-more calls row)

abbrev pub seat_with : ℕ → List Learn → List BookCall → SeatView
seat_with number learns calls = record { number = number; learns = learns; calls = calls }

-- a list that goes on from the one that a seat saw, and has as many of its learns as it made
pub agrees_is_fresh : (seats number learnt : ℕ) (learns after : List Learn) (calls : List BookCall)
    → HoldsOwn seats (seat_with number learns calls) → learnt ≡ length (learned calls)
    → IsPrefix learns after → length (of_seat number after) ≡ learnt → AreBelow seats after
    → IsFresh seats (seat_with number learns calls) (seat_with number after calls)
agrees_is_fresh seats number learnt learns after calls holds count goes_on many below =
    let made : length (of_seat number learns) ≡ learnt = ap length holds.own ∙ length-learns_by number (learned calls) ∙ sym count in
    let same = of_seat-same number learns after goes_on (many ∙ sym made) in
    record { number = refl; goes_on = goes_on; holds = record { own = same ∙ holds.own; below = below; number = holds.number } }

pub found_holds : (seats number : ℕ) (learns : List Learn) (calls : List BookCall) (word : List ℕ) (answer : Option Row)
    → HoldsOwn seats (seat_with number learns calls) → HoldsOwn seats (seat_with number learns (calls ++ Found word answer ∷ []))
found_holds seats number learns calls word answer holds =
    record { own = holds.own ∙ ap (learns_by number) (sym (learned-found calls word answer)); below = holds.below; number = holds.number }

-- a seat that appends its next learn holds it too
pub learned_holds : (seats number learnt : ℕ) (learns : List Learn) (calls : List BookCall) (row : Row)
    → HoldsOwn seats (seat_with number learns calls) → learnt ≡ length (learned calls)
    → HoldsOwn seats (seat_with number (learns ++ entry number learnt row ∷ []) (calls ++ Learned row ∷ []))
learned_holds seats number learnt learns calls row holds count =
    let rows = learned calls in
    let last : learnt ≡ length (learns_by number rows) = count ∙ sym (length-learns_by number rows) in
    record {
      own =
          of_seat-own number learnt row learns
          ∙ ap (λ ls. ls ++ entry number learnt row ∷ []) holds.own
          ∙ ap (λ n. learns_by number rows ++ entry number n row ∷ []) last
          ∙ sym (learns_by-more number rows row)
          ∙ ap (learns_by number) (sym (learned-more calls row));
      below = below-more seats learns (entry number learnt row) holds.below holds.number;
      number = holds.number;
    }

-- ---- a seat's calls

pub found_told : (word : List ℕ) (rows : List Row) (answer : Option Row) (calls : List BookCall) → answer ≡ find (shows word) rows
    → Finds word answer (Some calls) (Some (calls ++ Found word answer ∷ []))
found_told word rows answer calls is =
    record { shown = λ row e. find_passes (shows word) rows row (sym is ∙ e); told = refl }

pub found_is_fresh : (seats : ℕ) (before : SeatView) (learns : List Learn) (word : List ℕ) (answer : Option Row)
    → IsFresh seats before (record before { learns = learns })
    → IsFresh seats before (record before { learns = learns; calls = before.calls ++ Found word answer ∷ [] })
found_is_fresh seats before learns word answer fresh =
    record { number = refl; goes_on = fresh.goes_on; holds = found_holds seats before.number learns before.calls word answer fresh.holds }

pub learned_is_fresh : (seats learnt : ℕ) (before : SeatView) (after : List Learn) (row : Row)
    → IsFresh seats before (record before { learns = after }) → learnt ≡ length (learned before.calls)
    → IsFresh seats before (seat_with before.number (after ++ entry before.number learnt row ∷ []) (before.calls ++ Learned row ∷ []))
learned_is_fresh seats learnt before after row fresh count =
    record {
      number = refl;
      goes_on = prefix_trans before.learns after (after ++ entry before.number learnt row ∷ []) fresh.goes_on (entry before.number learnt row ∷ [], refl);
      holds = learned_holds seats before.number learnt after before.calls row fresh.holds count;
    }

pub learned-count : (calls : List BookCall) (row : Row) (learnt : ℕ) → learnt ≡ length (learned calls) → learnt + 1 ≡ length (learned (calls ++ Learned row ∷ []))
learned-count calls row learnt count =
    omega (arith, count, ap length (learned-more calls row), length-append (learned calls) (row ∷ []))

-- ---- new seats

pub new_seats-more : (count : ℕ) → new_seats (count + 1) ≡ new_seats count ++ new_seat count ∷ []
new_seats-more count =
    let next : count + 1 ≡ suc count = omega arith in ap new_seats next
