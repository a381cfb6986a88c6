-- The book of a serving, step by step.
use Rattle.std.proofs.Common.{inl, inr, ◌≡◌, ℕ, zero, suc, ◌+◌, ◌-◌, ◌<◌, ◌≤◌, ◌==◌, Bool, true, false, if◌then◌else◌, List, [], ◌∷◌, ◌++◌, length, map, set, take, drop, get_or, slice_get, nat_lt, cond, add-one, Option, Some, None, refl, sym, ap, ◌∙◌, subst, arith, length-append}
use Rattle.std.specs.Prelude.{IfSome}
use Rattle.std.specs.List.{fold}
use Rattle.std.proofs.lemmas.Bool.{eqb-true, ltb-true, ltb-false}
use Rattle.std.proofs.lemmas.Bool.Decides.{nat_tests}
use Rattle.std.proofs.lemmas.List.{append_assoc, append-nil, map-append}
use Rattle.std.proofs.lemmas.List.Elements.{filter-append, All-nil, All-head, All-tail}
use Rattle.std.proofs.lemmas.List.Sums.{fold-append}
use mathlib.Core.List.{IsPrefix}
use Rattle.rd_base.specs.History.{Row}
use Rattle.rd_base.specs.declared.values.Side.{Side}
use Rattle.rd_doors.specs.Visits.{EndsTold, RunTold, Entry, Gave, CameBack, entries_with, ends_told, run_told}
use Rattle.rd_doors.specs.Calls.{DoorsTold}
use Rattle.rd_token_map.specs.BookCalls.{BookCall}
use Rattle.rd_history.specs.declared.learn.Learn.{Learn}
use Rattle.rd_history.specs.Learns.{entry, is_of, of_seat, with_row, learns_by, AreBelow}
use Rattle.rd_history.proofs.Beginnings.{prefix_self, prefix_trans}
use Rattle.rd_lent_book.specs.Answers.{WasAsked, AreAnswers}
use Rattle.rd_lent_book.specs.Lending.{BookView, Asked, Lends, TakesBack, IsHeard, Moves, MovesWith, calls_told, new_book}
use Rattle.rd_lent_book.specs.Seats.{SeatView, HoldsOwn, learned, new_seat, new_seats}
use Rattle.rd_base.specs.Outside.{SinkTold}
use Rattle.rd_base.specs.Sources.{SourceTold}
use Rattle.rd_runner.specs.Counts.{RunnerTold}
use Rattle.rd_runner.specs.Runs.{Setup}
use Rattle.rd_run_session.specs.Asking.{CameWith}
use Rattle.rd_run_session.specs.declared.left.SessionLeft.{SessionLeft}
use Rattle.rd_run_session.proofs.Answered.{answers_within, learned-append}
use Rattle.rd_serve.specs.Booking.{Lent, IsLent, StandsBy, AreSeats, Booked, AreBooked, KeepsBook, seat_in, seat_lent}
use Rattle.rd_serve.specs.Books.{SeatRun, IsBooked, ServedBook, HoldsRuns, HoldsOnly, rows_by, rows_on}
use Rattle.rd_serve.specs.Notes.{Pairs, runs}
use Rattle.rd_serve.specs.Serving.{Has, one_if}
use Rattle.rd_serve.specs.Counting.{CountedBy}
use Rattle.rd_serve.specs.Sessions.{Each, IsOut, times}
use Rattle.rd_serve.specs.declared.session.Served.{Served}
use Rattle.rd_serve.specs.declared.session.Session.{Session}
use Rattle.rd_serve.proofs.Outs.{all_kept, all_left, each_at, each_snoc, times_split}
use Rattle.rd_serve.proofs.Telling.{some_is, told_more}
use Rattle.rd_serve.proofs.Times.{times_snoc, same_times}
use Rattle.rd_serve.proofs.Visits.{pairs_kept, pairs_snoc, runs-append}

-- ---- rows and learns

rows_on-append : (n : ℕ) (xs ys : List SeatRun) → rows_on n (xs ++ ys) ≡ rows_on n xs ++ rows_on n ys
rows_on-append n [] ys = refl
rows_on-append n (x ∷ xs) ys = ap (λ rs. rows_by n x ++ rs) (rows_on-append n xs ys) ∙ sym (append_assoc (rows_by n x) (rows_on n xs) (rows_on n ys))

fold_begins : (s : ℕ) (acc : List Learn) (rows : List Row) → IsPrefix acc (fold (with_row s) acc rows)
fold_begins s acc [] = prefix_self acc
fold_begins s acc (r ∷ rows) =
    prefix_trans acc (with_row s acc r) (fold (with_row s) (with_row s acc r) rows) (entry s (length acc) r ∷ [], refl) (fold_begins s (with_row s acc r) rows)

learns_begin : (s : ℕ) (xs ys : List Row) → IsPrefix (learns_by s xs) (learns_by s (xs ++ ys))
learns_begin s xs ys = subst (IsPrefix (learns_by s xs)) (sym (fold-append (with_row s) [] xs ys)) (fold_begins s (learns_by s xs) ys)

of_begins : (s : ℕ) (xs ys : List Learn) → IsPrefix xs ys → IsPrefix (of_seat s xs) (of_seat s ys)
of_begins s xs ys p = (of_seat s p.0, sym (filter-append (is_of s) xs p.0) ∙ ap (of_seat s) p.1)

prefix_same : {A : Type 0} (xs ys : List A) → xs ≡ ys → IsPrefix xs ys
prefix_same xs ys is = subst (IsPrefix xs) is (prefix_self xs)

holds_on : (all : List SeatRun) (list list' : List Learn) → IsPrefix list list' → HoldsRuns all list → HoldsRuns all list'
holds_on all list list' p holds = λ s. prefix_trans (learns_by s (rows_on s all)) (of_seat s list) (of_seat s list') (holds s) (of_begins s list list' p)

holds_first : (first second : List SeatRun) (list : List Learn) → HoldsRuns (first ++ second) list → HoldsRuns first list
holds_first first second list holds = λ s.
    prefix_trans (learns_by s (rows_on s first)) (learns_by s (rows_on s (first ++ second))) (of_seat s list)
    (subst (λ rs. IsPrefix (learns_by s (rows_on s first)) (learns_by s rs)) (sym (rows_on-append s first second)) (learns_begin s (rows_on s first) (rows_on s second))) (holds s)

not_same : (n m : ℕ) → (n ≡ m → ⊥) → (n == m) ≡ false
not_same n m differs = go (n == m) refl
  where
    go : (t : Bool) → (n == m) ≡ t → (n == m) ≡ false
    go true e = absurd (differs (eqb-true n m e))
    go false e = e

rows_own : (n : ℕ) (calls : List BookCall) → rows_by n (record { seat = n; calls = calls }) ≡ learned calls
rows_own n calls = ap (λ t. if t then learned calls else []) (go n)
  where
    go : (k : ℕ) → (k == k) ≡ true
    go k = grind arith

rows_other : (n : ℕ) (run : SeatRun) → (run.seat ≡ n → ⊥) → rows_by n run ≡ []
rows_other n run differs = ap (λ t. if t then learned run.calls else []) (not_same run.seat n differs)

-- the rows on a seat behind one run more
rows_back : (n : ℕ) (all : List SeatRun) (calls : List BookCall) → rows_on n (all ++ record { seat = n; calls = calls } ∷ []) ≡ rows_on n all ++ learned calls
rows_back n all calls = rows_on-append n all (record { seat = n; calls = calls } ∷ []) ∙ ap (λ rs. rows_on n all ++ rs) (append-nil (rows_by n (record { seat = n; calls = calls })) ∙ rows_own n calls)

rows_still : (n : ℕ) (all : List SeatRun) (run : SeatRun) → (run.seat ≡ n → ⊥) → rows_on n (all ++ run ∷ []) ≡ rows_on n all
rows_still n all run differs =
    rows_on-append n all (run ∷ []) ∙ ap (λ rs. rows_on n all ++ (rs ++ [])) (rows_other n run differs) ∙ append-nil (rows_on n all)

-- ---- places of a list

pub none_left : {X : Type 0} (xs : List X) → length xs ≡ 0 → xs ≡ []
none_left [] none = refl
none_left (x ∷ xs) none = absurd (omega (arith, none))

within_some : {X : Type 0} (xs : List X) (n : ℕ) (x : X) → slice_get xs n ≡ Some x → n < length xs
within_some [] n x at = absurd (cc at)
within_some (y ∷ xs) zero x at = omega arith
within_some (y ∷ xs) (suc n) x at = let more = within_some xs n x at in omega arith

some_at : {X : Type 0} (xs : List X) (n : ℕ) → n < length xs → (x : X) × (slice_get xs n ≡ Some x)
some_at [] n lt = absurd (omega arith)
some_at (x ∷ xs) zero lt = (x, refl)
some_at (x ∷ xs) (suc n) lt = some_at xs n (omega arith)

set_at : {X : Type 0} (xs : List X) (n : ℕ) (y : X) → n < length xs → slice_get (set xs n y) n ≡ Some y
set_at [] n y lt = absurd (omega arith)
set_at (x ∷ xs) zero y lt = refl
set_at (x ∷ xs) (suc n) y lt = set_at xs n y (omega arith)

set_besides : {X : Type 0} (xs : List X) (k j : ℕ) (y : X) → (j ≡ k → ⊥) → slice_get (set xs k y) j ≡ slice_get xs j
set_besides [] k j y differs = refl
set_besides (x ∷ xs) zero zero y differs = absurd (differs refl)
set_besides (x ∷ xs) zero (suc j) y differs = refl
set_besides (x ∷ xs) (suc k) zero y differs = refl
set_besides (x ∷ xs) (suc k) (suc j) y differs = set_besides xs k j y (λ e. differs (ap suc e))

set_count : {X : Type 0} (xs : List X) (k : ℕ) (y : X) → length (set xs k y) ≡ length xs
set_count [] k y = refl
set_count (x ∷ xs) zero y = refl
set_count (x ∷ xs) (suc k) y = ap suc (set_count xs k y)

take_then_drop : {X : Type 0} (xs : List X) (n : ℕ) → take n xs ++ drop n xs ≡ xs
take_then_drop [] zero = refl
take_then_drop [] (suc n) = refl
take_then_drop (x ∷ xs) zero = refl
take_then_drop (x ∷ xs) (suc n) = ap (λ ys. x ∷ ys) (take_then_drop xs n)

take_count : {X : Type 0} (xs : List X) (n : ℕ) → n ≤ length xs → length (take n xs) ≡ n
take_count [] zero le = refl
take_count [] (suc n) le = absurd (omega arith)
take_count (x ∷ xs) zero le = refl
take_count (x ∷ xs) (suc n) le = ap suc (take_count xs n (omega arith))

pairs_count : {A B : Type 0} (P : A → B → Type 0) (xs : List A) (ys : List B) → Pairs P xs ys → length xs ≡ length ys
pairs_count P [] [] all = refl
pairs_count P [] (y ∷ ys) all = absurd all
pairs_count P (x ∷ xs) [] all = absurd all
pairs_count P (x ∷ xs) (y ∷ ys) all = ap suc (pairs_count P xs ys all.1)

split_of : {L : Type 0} (e : Entry L) (told : List (Entry L)) → Has e told → (before : List (Entry L)) × (after : List (Entry L)) × (before ++ e ∷ after ≡ told)
split_of e [] has = absurd has
split_of e (x ∷ told) (inl is) = ([], told, ap (λ y. y ∷ told) (sym is))
split_of e (x ∷ told) (inr has) = let more = split_of e told has in (x ∷ more.0, more.1, ap (λ l. x ∷ l) more.2)

others_differ : (n : ℕ) (out : List Lent) → times n (map seat_lent out) ≡ 0 → Each (λ l. n ≡ seat_lent l → ⊥) out
others_differ n [] none = tt
others_differ n (l ∷ out) none = (
  (λ e. let one : one_if (seat_lent l == n) ≡ 1 = ap (λ k. one_if (k == n)) (sym e) ∙ same_times n in let all : one_if (seat_lent l == n) + times n (map seat_lent out) ≡ 0 = none in omega (arith, one, all)),
  (let all : one_if (seat_lent l == n) + times n (map seat_lent out) ≡ 0 = none in others_differ n out (omega (arith, all))),
)

-- all that was learnt so far is in a list that goes on from that of the seat that came back, and from the one before
holds_back : (seats : ℕ) (all : List SeatRun) (s s' : SeatView) (whole whole' : List Learn) → (was : WasAsked seats s s') → HoldsOwn seats s' → learned s.calls ≡ rows_on s.number all → HoldsRuns all whole
    → IsPrefix whole whole' → IsPrefix s'.learns whole' → HoldsRuns (all ++ record { seat = s.number; calls = was.calls } ∷ []) whole'
holds_back seats all s s' whole whole' was own rows holds p q n = go (s.number == n) refl
  where
    asked : SeatRun
    asked = record { seat = s.number; calls = was.calls }

    go : (t : Bool) → (s.number == n) ≡ t → IsPrefix (learns_by n (rows_on n (all ++ record { seat = s.number; calls = was.calls } ∷ []))) (of_seat n whole')
    go true e =
        let here : s.number ≡ n = eqb-true s.number n e in
        let these : rows_on s.number (all ++ record { seat = s.number; calls = was.calls } ∷ []) ≡ learned s'.calls =
        rows_back s.number all was.calls ∙ ap (λ rs. rs ++ learned was.calls) (sym rows) ∙ sym (ap learned was.are ∙ learned-append s.calls was.calls) in
        let mine : of_seat s.number s'.learns ≡ learns_by s.number (learned s'.calls) = subst (λ k. of_seat k s'.learns ≡ learns_by k (learned s'.calls)) was.number own.own in
        subst (λ k. IsPrefix (learns_by k (rows_on k (all ++ record { seat = s.number; calls = was.calls } ∷ []))) (of_seat k whole')) here
        (prefix_trans (learns_by s.number (rows_on s.number (all ++ record { seat = s.number; calls = was.calls } ∷ []))) (of_seat s.number s'.learns) (of_seat s.number whole')
        (prefix_same _ _ (ap (learns_by s.number) these ∙ sym mine)) (of_begins s.number s'.learns whole' q))
    go false e =
        subst (λ rs. IsPrefix (learns_by n rs) (of_seat n whole')) (sym (rows_still n all (record { seat = s.number; calls = was.calls }) (λ same. absurd (grind (arith, nat_tests)))))
        (prefix_trans (learns_by n (rows_on n all)) (of_seat n whole) (of_seat n whole') (holds n) (of_begins n whole whole' p))

moved_to : (P : BookView → BookView → Type 0) (a : BookView) (o : Option BookView) → Moves P (Some a) o → (b : BookView) × (o ≡ Some b) × P a b
moved_to P a None moves = absurd moves
moved_to P a (Some b) moves = (b, refl, moves)

moved_with : (P : BookView → BookView → BookView → Type 0) (a : BookView) (o o' : Option BookView) → MovesWith P (Some a) o o' → (b : BookView) × (c : BookView) × (o ≡ Some b) × (o' ≡ Some c) × P a b c
moved_with P a None o' moves = absurd moves
moved_with P a (Some b) None moves = absurd moves
moved_with P a (Some b) (Some c) moves = (b, c, refl, refl, moves)

none_is : {X : Type 0} (x : X) → Some None ≡ Some (Some x) → ⊥
none_is x is = absurd (cc is)

times_none : (n : ℕ) (out : List Lent) → Each (λ l. n ≡ seat_lent l → ⊥) out → times n (map seat_lent out) ≡ 0
times_none n [] differ = refl
times_none n (l ∷ out) differ =
    let zero_here : one_if (seat_lent l == n) ≡ 0 = ap one_if (not_same (seat_lent l) n (λ e. differ.0 (sym e))) in
    let more = times_none n out differ.1 in
    omega (arith, zero_here, more)

set_none : {X : Type 0} (xs : List (Option X)) (k n : ℕ) → slice_get xs n ≡ Some None → slice_get (set xs k None) n ≡ Some None
set_none [] k n at = at
set_none (x ∷ xs) zero zero at = refl
set_none (x ∷ xs) zero (suc n) at = at
set_none (x ∷ xs) (suc k) zero at = at
set_none (x ∷ xs) (suc k) (suc n) at = set_none xs k n at

each_of_map : {X : Type 0} (f : X → Lent) (P : Lent → Type 0) (xs : List X) → Each P (map f xs) → Each (λ x. P (f x)) xs
each_of_map f P [] each = tt
each_of_map f P (x ∷ xs) each = (each.0, each_of_map f P xs each.1)

each_to_map : {X : Type 0} (f : X → Lent) (P : Lent → Type 0) (xs : List X) → Each (λ x. P (f x)) xs → Each P (map f xs)
each_to_map f P [] each = tt
each_to_map f P (x ∷ xs) each = (each.0, each_to_map f P xs each.1)

map_twice : {X : Type 0} (f : X → Lent) (xs : List X) → map seat_lent (map f xs) ≡ map (λ x. seat_lent (f x)) xs
map_twice f [] = refl
map_twice f (x ∷ xs) = ap (λ ns. seat_lent (f x) ∷ ns) (map_twice f xs)

new_count : (count : ℕ) → length (new_seats count) ≡ count
new_count zero = refl
new_count (suc count) = omega (arith, length-append (new_seats count) (new_seat count ∷ []), new_count count)

map_count : {X Y : Type 0} (f : X → Y) (xs : List X) → length (map f xs) ≡ length xs
map_count f [] = refl
map_count f (x ∷ xs) = ap suc (map_count f xs)

get_map : {X Y : Type 0} (f : X → Y) (xs : List X) (n : ℕ) (y : Y) → slice_get (map f xs) n ≡ Some y → (x : X) × (slice_get xs n ≡ Some x) × (f x ≡ y)
get_map f [] n y at = absurd (cc at)
get_map f (x ∷ xs) zero y at = (x, refl, cc at)
get_map f (x ∷ xs) (suc n) y at = get_map f xs n y at

get_front : {X : Type 0} (xs : List X) (y : X) (n : ℕ) → n < length xs → slice_get (xs ++ y ∷ []) n ≡ slice_get xs n
get_front [] y n lt = absurd (omega arith)
get_front (x ∷ xs) y zero lt = refl
get_front (x ∷ xs) y (suc n) lt = get_front xs y n (omega arith)

get_last : {X : Type 0} (xs : List X) (y : X) (n : ℕ) → n ≡ length xs → slice_get (xs ++ y ∷ []) n ≡ Some y
get_last [] y zero is = refl
get_last [] y (suc n) is = absurd (omega (arith, is))
get_last (x ∷ xs) y zero is = absurd (omega (arith, is))
get_last (x ∷ xs) y (suc n) is = get_last xs y n (omega (arith, is))

below_next : (n count : ℕ) → n < count + 1 → (n ≡ count → ⊥) → n < count
below_next n count lt differs = go (nat_lt n count) refl
  where
    go : (t : Bool) → nat_lt n count ≡ t → n < count
    go true e = ltb-true n count e
    go false e = let le = ltb-false n count e in absurd (differs (omega (arith, le, lt)))

new_at : (count n : ℕ) (seat : SeatView) → slice_get (new_seats count) n ≡ Some seat → seat ≡ new_seat n
new_at zero n seat at = absurd (cc at)
new_at (suc count) n seat at = go (n == count) refl (new_at count n seat)
  where
    size : length (new_seats count) ≡ count
    size = new_count count

    within : n < count + 1
    within = let lt = within_some (new_seats count ++ new_seat count ∷ []) n seat at in omega (arith, lt, length-append (new_seats count) (new_seat count ∷ []), size)

    go : (t : Bool) → (n == count) ≡ t → (slice_get (new_seats count) n ≡ Some seat → seat ≡ new_seat n) → seat ≡ new_seat n
    go true e more =
        let here : n ≡ count = eqb-true n count e in
        some_is seat (new_seat n) (sym at ∙ get_last (new_seats count) (new_seat count) n (here ∙ sym size) ∙ ap (λ k. Some (new_seat k)) (sym here))
    go false e more =
        let lt : n < count + 1 = within in
        let differs : n ≡ count → ⊥ = λ same. absurd (grind (arith, nat_tests)) in
        let sooner : n < count = below_next n count lt differs in
        more (sym (get_front (new_seats count) (new_seat count) n (omega (arith, sooner, size))) ∙ at)

none_below : (seats s : ℕ) → seats ≤ s → (learns : List Learn) → AreBelow seats learns → of_seat s learns ≡ []
none_below seats s le [] below = refl
none_below seats s le (l ∷ learns) below =
    let head : l.seat < seats = All-head (λ (x : Learn). x.seat < seats) l learns below in
    let rest = none_below seats s le learns (All-tail (λ (x : Learn). x.seat < seats) l learns below) in
    ap (λ t. cond t (l ∷ of_seat s learns) (of_seat s learns)) (not_same l.seat s (λ e. omega (arith, e, head, le))) ∙ rest

-- the session that began last, before the others
each_last : (P : Lent → Type 0) (xs : List Lent) (y : Lent) → Each P (xs ++ y ∷ []) → Each P (y ∷ xs)
each_last P [] y each = each
each_last P (x ∷ xs) y each = let more = each_last P xs y each.1 in (more.0, (each.0, more.1))

module _ (S : Type 0) {R : Type 0} (setup : Setup) where
  -- ---- runs

  booked_more : (told more : List (Entry (SessionLeft R))) (whole whole' : List Learn) (all others : List SeatRun) (run : RunTold (SessionLeft R)) (asked : SeatRun) → IsPrefix whole whole'
      → IsBooked S setup told whole all run asked → IsBooked S setup (told ++ more) whole' (all ++ others) run asked
  booked_more told more whole whole' all others run asked p b = record {
    side = b.side;
    ends = b.ends;
    number = b.number;
    before = b.before;
    between = b.between;
    after = b.after ++ more;
    place = sym (append_assoc (b.before ++ Gave b.side b.ends ∷ b.between) (CameBack run ∷ b.after) more) ∙ ap (λ l. l ++ more) b.place;
    first = b.first;
    second = b.second;
    others = b.others ++ others;
    are = sym (append_assoc (b.first ++ b.second) (asked ∷ b.others) others) ∙ ap (λ l. l ++ others) b.are;
    first_count = b.first_count;
    second_count = b.second_count;
    had = b.had;
    came = b.came;
    from = b.from;
    holds = b.holds;
    answers = answers_within asked.seat whole whole' p (rows_on asked.seat (b.first ++ b.second)) b.from asked.calls b.answers;
  }

  -- a run that comes back
  booked_back : (told : List (Entry (SessionLeft R))) (whole' : List Learn) (all : List SeatRun) (run : RunTold (SessionLeft R)) (side : Side) (ends : EndsTold) (seats : ℕ) (s s' : SeatView)
      → (was : WasAsked seats s s') → ends.number ≡ run.number → StandsBy told all side ends s → CameWith S setup side ends run (Some s.calls) (Some s'.calls) → IsPrefix s'.learns whole'
      → IsBooked S setup (told ++ CameBack run ∷ []) whole' (all ++ record { seat = s.number; calls = was.calls } ∷ []) run (record { seat = s.number; calls = was.calls })
  booked_back told whole' all run side ends seats s s' was number st came p =
      let asked : SeatRun = record { seat = s.number; calls = was.calls } in
      record {
        side = side;
        ends = ends;
        number = number;
        before = st.before;
        between = st.between;
        after = [];
        place = ap (λ l. l ++ CameBack run ∷ []) st.place;
        first = st.first;
        second = st.second;
        others = [];
        are = ap (λ l. l ++ asked ∷ []) st.are;
        first_count = st.first_count;
        second_count = st.second_count;
        had = s.calls;
        came = subst (λ cs. CameWith S setup side ends run (Some s.calls) (Some cs)) was.are came;
        from = s.learns;
        holds = st.holds;
        answers = subst (λ rs. AreAnswers s.number whole' rs s.learns was.calls) (st.rows ∙ ap (rows_on s.number) (sym st.are))
            (answers_within s.number s'.learns whole' p (learned s.calls) s.learns was.calls was.answers);
      }

  -- what stands by a session, behind one entry more
  stands_more : (told : List (Entry (SessionLeft R))) (e : Entry (SessionLeft R)) (all : List SeatRun) (side : Side) (ends : EndsTold) (s : SeatView) → runs (e ∷ []) ≡ []
      → StandsBy told all side ends s → StandsBy (told ++ e ∷ []) all side ends s
  stands_more told e all side ends s none st = record {
    rows = st.rows;
    before = st.before;
    between = st.between ++ e ∷ [];
    place = sym (append_assoc st.before (Gave side ends ∷ st.between) (e ∷ [])) ∙ ap (λ l. l ++ e ∷ []) st.place;
    first = st.first;
    second = st.second;
    are = st.are;
    first_count = st.first_count;
    second_count = st.second_count ∙ ap length (sym (runs-append st.between (e ∷ []) ∙ ap (λ l. runs st.between ++ l) none ∙ append-nil (runs st.between)));
    holds = st.holds;
  }

  stands_back : (told : List (Entry (SessionLeft R))) (run : RunTold (SessionLeft R)) (all : List SeatRun) (asked : SeatRun) (side : Side) (ends : EndsTold) (s : SeatView) → (asked.seat ≡ s.number → ⊥)
      → StandsBy told all side ends s → StandsBy (told ++ CameBack run ∷ []) (all ++ asked ∷ []) side ends s
  stands_back told run all asked side ends s differs st = record {
    rows = st.rows ∙ sym (rows_still s.number all asked differs);
    before = st.before;
    between = st.between ++ CameBack run ∷ [];
    place = sym (append_assoc st.before (Gave side ends ∷ st.between) (CameBack run ∷ [])) ∙ ap (λ l. l ++ CameBack run ∷ []) st.place;
    first = st.first;
    second = st.second ++ asked ∷ [];
    are = sym (append_assoc st.first st.second (asked ∷ [])) ∙ ap (λ l. l ++ asked ∷ []) st.are;
    first_count = st.first_count;
    second_count = length-append st.second (asked ∷ []) ∙ ap (λ k. k + 1) st.second_count ∙ sym (length-append (runs st.between) (run ∷ [])) ∙ ap length (sym (runs-append st.between (CameBack run ∷ [])));
    holds = st.holds;
  }

  runs_split : (before after : List (Entry (SessionLeft R))) (side : Side) (ends : EndsTold) → runs (before ++ Gave side ends ∷ after) ≡ runs before ++ runs after
  runs_split before after side ends = runs-append before (Gave side ends ∷ after)

  -- a session that begins has seen what was learnt so far
  stands_new : (told : List (Entry (SessionLeft R))) (all : List SeatRun) (side : Side) (ends : EndsTold) (s : SeatView) → Has (Gave side ends) told → length (runs told) ≡ length all
      → HoldsRuns all s.learns → learned s.calls ≡ rows_on s.number all → StandsBy told all side ends s
  stands_new told all side ends s has count holds rows =
      let split = split_of (Gave side ends) told has in
      let n = length (runs split.0) in
      let many : length (runs told) ≡ n + length (runs split.1) =
      ap (λ t. length (runs t)) (sym split.2) ∙ ap length (runs_split split.0 split.1 side ends) ∙ length-append (runs split.0) (runs split.1) in
      let le : n ≤ length all = omega (arith, many, count) in
      let both : take n all ++ drop n all ≡ all = take_then_drop all n in
      let size = ap length both ∙ refl in
      let parts = length-append (take n all) (drop n all) in
      record {
        rows = rows;
        before = split.0;
        between = split.1;
        place = split.2;
        first = take n all;
        second = drop n all;
        are = both;
        first_count = take_count all n le;
        second_count = omega (arith, parts, size, take_count all n le, many, count);
        holds = holds_first (take n all) (drop n all) s.learns (subst (λ a. HoldsRuns a s.learns) (sym both) holds);
      }

  -- ---- sessions that run

  lents_more : (told : List (Entry (SessionLeft R))) (e : Entry (SessionLeft R)) (all : List SeatRun) (book : BookView) (out : List Lent) → runs (e ∷ []) ≡ []
      → Each (IsLent told all book) out → Each (IsLent (told ++ e ∷ []) all book) out
  lents_more told e all book out none each =
      all_kept (IsLent told all book) (IsLent (told ++ e ∷ []) all book) (λ l is. record { view = is.view; is = is.is; out = is.out; own = is.own; stands = stands_more told e all l.side l.ends is.view.own none is.stands }) out each

  lents_back : (told : List (Entry (SessionLeft R))) (run : RunTold (SessionLeft R)) (all : List SeatRun) (asked : SeatRun) (book book' : BookView) (out : List Lent)
      → ((n : ℕ) → (asked.seat ≡ n → ⊥) → slice_get book.spare n ≡ Some None → slice_get book'.spare n ≡ Some None)
      → Each (λ l. asked.seat ≡ seat_lent l → ⊥) out → Each (IsLent told all book) out → Each (IsLent (told ++ CameBack run ∷ []) (all ++ asked ∷ []) book') out
  lents_back told run all asked book book' [] still differ each = tt
  lents_back told run all asked book book' (l ∷ out) still differ each =
      let is = each.0 in
      let differs : asked.seat ≡ is.view.own.number → ⊥ = λ e. differ.0 (e ∙ sym (ap seat_in is.is)) in (
        record { view = is.view; is = is.is; out = still is.view.own.number differs is.out; own = is.own; stands = stands_back told run all asked l.side l.ends is.view.own differs is.stands },
        lents_back told run all asked book book' out still differ.1 each.1,
      )

  -- those that are lent aren't the book's own
  own_differs : (told : List (Entry (SessionLeft R))) (all : List SeatRun) (book : BookView) (out : List Lent) → book.own.number ≡ length book.spare → Each (IsLent told all book) out
      → Each (λ l. book.own.number ≡ seat_lent l → ⊥) out
  own_differs told all book out number each =
      all_kept (IsLent told all book) (λ l. book.own.number ≡ seat_lent l → ⊥)
      (λ l is e. let within = within_some book.spare is.view.own.number None is.out in let same : book.own.number ≡ is.view.own.number = e ∙ ap seat_in is.is in omega (arith, within, same, number)) out each

  -- an entry that is no run
  pub booked_quiet : (told : List (Entry (SessionLeft R))) (e : Entry (SessionLeft R)) (now : Option BookView) (out : List Lent) → runs (e ∷ []) ≡ [] → Booked S setup told now out
      → Booked S setup (told ++ e ∷ []) now out
  booked_quiet told e now out none b = record {
    book = b.book;
    is = b.is;
    all = b.all;
    each = subst (λ rs. Pairs (IsBooked S setup (told ++ e ∷ []) b.book.own.learns b.all) rs b.all) (sym (runs-append told (e ∷ []) ∙ ap (λ l. runs told ++ l) none ∙ append-nil (runs told)))
        (pairs_kept (IsBooked S setup told b.book.own.learns b.all) (IsBooked S setup (told ++ e ∷ []) b.book.own.learns b.all)
        (λ run asked is. subst (λ a. IsBooked S setup (told ++ e ∷ []) b.book.own.learns a run asked) (append-nil b.all) (booked_more told (e ∷ []) b.book.own.learns b.book.own.learns b.all [] run asked (prefix_self b.book.own.learns) is)) (runs told) b.all b.each);
    holds = b.holds;
    seats = b.seats;
    lent = lents_more told e b.all b.book out none b.lent;
    once = b.once;
  }

  pairs_back : (told : List (Entry (SessionLeft R))) (whole whole' : List Learn) (all : List SeatRun) (run : RunTold (SessionLeft R)) (asked : SeatRun) → IsPrefix whole whole'
      → Pairs (IsBooked S setup told whole all) (runs told) all → IsBooked S setup (told ++ CameBack run ∷ []) whole' (all ++ asked ∷ []) run asked
      → Pairs (IsBooked S setup (told ++ CameBack run ∷ []) whole' (all ++ asked ∷ [])) (runs (told ++ CameBack run ∷ [])) (all ++ asked ∷ [])
  pairs_back told whole whole' all run asked p each last =
      let P = IsBooked S setup (told ++ CameBack run ∷ []) whole' (all ++ asked ∷ []) in
      subst (λ rs. Pairs P rs (all ++ asked ∷ [])) (sym (runs-append told (CameBack run ∷ [])))
      (pairs_snoc P (runs told) all run asked
      (pairs_kept (IsBooked S setup told whole all) P (λ r a is. booked_more told (CameBack run ∷ []) whole whole' all (asked ∷ []) r a p is) (runs told) all each) last)

  -- ---- what moves a book that tells

  -- a session's seat that comes back, once its run has
  pub booked_join : (told : List (Entry (SessionLeft R))) (run : RunTold (SessionLeft R)) (now now' back : Option BookView) (lent : Lent) (rest : List Lent) → lent.ends.number ≡ run.number
      → KeepsBook S setup lent.side lent.ends run lent.book back → MovesWith TakesBack now back now' → Booked S setup told now (lent ∷ rest) → Booked S setup (told ++ CameBack run ∷ []) now' rest
  booked_join told run now now' back lent rest number keeps takes b =
      let book = b.book in
      let all = b.all in
      let one = b.lent.0 in
      let view = one.view in
      let v = view.own.number in
      let m = moved_to Asked view back (subst (λ o. Moves Asked o back) one.is keeps.asked) in
      let after = m.0 in
      let was = m.2.own in
      let t = moved_with TakesBack book back now' (subst (λ o. MovesWith TakesBack o back now') b.is takes) in
      let same : t.0 ≡ after = some_is t.0 after (sym t.2 ∙ m.1) in
      let tb : TakesBack book after t.1 = subst (λ o. TakesBack book o t.1) same t.4 in
      let asked : SeatRun = record { seat = v; calls = was.calls } in
      let came : CameWith S setup lent.side lent.ends run (Some view.own.calls) (Some after.own.calls) =
      subst (λ o. CameWith S setup lent.side lent.ends run (Some view.own.calls) (calls_told o)) m.1
      (subst (λ o. CameWith S setup lent.side lent.ends run (calls_told o) (calls_told back)) one.is keeps.came) in
      let spare : t.1.spare ≡ set book.spare v (Some tb.seat) = ap (λ (x : BookView). x.spare) tb.is ∙ ap (λ k. set book.spare k (Some tb.seat)) was.number in
      let size : length t.1.spare ≡ length book.spare = ap length spare ∙ set_count book.spare v (Some tb.seat) in
      let inside : v < length book.spare = within_some book.spare v None one.out in
      let own_seat : seat_lent lent ≡ v = ap seat_in one.is in
      let not_own : v ≡ book.own.number → ⊥ = λ e. let n = b.seats.number in omega (arith, e, inside, n) in
      let seats : t.1.seats ≡ book.seats = ap (λ (x : BookView). x.seats) tb.is in
      let once : one_if (seat_lent lent == v) + times v (map seat_lent rest) ≡ 1 = b.once v one.out in
      let first : one_if (seat_lent lent == v) ≡ 1 = ap (λ k. one_if (k == v)) own_seat ∙ same_times v in
      let still : (n : ℕ) → (v ≡ n → ⊥) → slice_get book.spare n ≡ Some None → slice_get t.1.spare n ≡ Some None =
      λ n differs at. ap (λ xs. slice_get xs n) spare ∙ set_besides book.spare v n (Some tb.seat) (λ e. differs (sym e)) ∙ at in
      record {
        book = t.1;
        is = t.3;
        all = all ++ asked ∷ [];
        each = pairs_back told book.own.learns t.1.own.learns all run asked tb.own.goes_on b.each
            (booked_back told t.1.own.learns all run lent.side lent.ends view.seats view.own after.own was number one.stands came tb.back);
        holds = holds_back view.seats all view.own after.own book.own.learns t.1.own.learns was (was.holds one.own) one.stands.rows b.holds tb.own.goes_on tb.back;
        seats = record {
          seats = seats ∙ b.seats.seats ∙ ap (λ k. k + 1) (sym size);
          number = tb.own.number ∙ b.seats.number ∙ sym size;
          own = subst (λ n. HoldsOwn n t.1.own) (sym seats) tb.own.holds;
          rows = ap learned tb.own_calls ∙ b.seats.rows ∙ sym (rows_still book.own.number all asked not_own) ∙ ap (λ n. rows_on n (all ++ asked ∷ [])) (sym tb.own.number);
          spare = λ n seat at. joined book all view after.own was tb.seat (tb.fresh.number ∙ was.number) tb.calls one.stands.rows inside b.seats n seat (sym (ap (λ xs. slice_get xs n) spare) ∙ at) (v == n) refl;
        };
        lent = lents_back told run all asked book t.1 rest still (others_differ v rest (omega (arith, once, first))) b.lent.1;
        once = λ n at. left_once book all v tb.seat lent rest own_seat inside b.once n (sym (ap (λ xs. slice_get xs n) spare) ∙ at) (v == n) refl;
      }
    where
      joined : (book : BookView) (all : List SeatRun) (view : BookView) (s' : SeatView) → (was : WasAsked view.seats view.own s') → (seat' : SeatView) → seat'.number ≡ view.own.number → seat'.calls ≡ s'.calls
          → learned view.own.calls ≡ rows_on view.own.number all → view.own.number < length book.spare → AreSeats all book → (n : ℕ) (seat : SeatView)
          → slice_get (set book.spare view.own.number (Some seat')) n ≡ Some (Some seat) → (t : Bool) → (view.own.number == n) ≡ t
          → (seat.number ≡ n) × (learned seat.calls ≡ rows_on n (all ++ record { seat = view.own.number; calls = was.calls } ∷ []))
      joined book all view s' was seat' number calls rows inside seats n seat at true e =
          let here : view.own.number ≡ n = eqb-true view.own.number n e in
          let is : seat' ≡ seat = cc (sym (set_at book.spare view.own.number (Some seat') inside) ∙ ap (slice_get (set book.spare view.own.number (Some seat'))) here ∙ at) in (
            ap (λ (s : SeatView). s.number) (sym is) ∙ number ∙ here,
            ap (λ (s : SeatView). learned s.calls) (sym is) ∙ ap learned calls ∙ ap learned was.are ∙ learned-append view.own.calls was.calls ∙ ap (λ rs. rs ++ learned was.calls) rows
                ∙ sym (rows_back view.own.number all was.calls) ∙ ap (λ k. rows_on k (all ++ record { seat = view.own.number; calls = was.calls } ∷ [])) here,
          )
      joined book all view s' was seat' number calls rows inside seats n seat at false e =
          let differs : view.own.number ≡ n → ⊥ = λ same. absurd (grind (arith, nat_tests)) in
          let had = seats.spare n seat (sym (set_besides book.spare view.own.number n (Some seat') (λ same. differs (sym same))) ∙ at) in
          (had.0, had.1 ∙ sym (rows_still n all (record { seat = view.own.number; calls = was.calls }) differs))

      left_once : (book : BookView) (all : List SeatRun) (v : ℕ) (seat' : SeatView) (lent : Lent) (rest : List Lent) → seat_lent lent ≡ v → v < length book.spare
          → ((n : ℕ) → slice_get book.spare n ≡ Some None → times n (map seat_lent (lent ∷ rest)) ≡ 1) → (n : ℕ) → slice_get (set book.spare v (Some seat')) n ≡ Some None
          → (t : Bool) → (v == n) ≡ t → times n (map seat_lent rest) ≡ 1
      left_once book all v seat' lent rest is inside once n at true e =
          let here : v ≡ n = eqb-true v n e in
          absurd (none_is seat' (sym at ∙ ap (slice_get (set book.spare v (Some seat'))) (sym here) ∙ set_at book.spare v (Some seat') inside))
      left_once book all v seat' lent rest is inside once n at false e =
          let differs : v ≡ n → ⊥ = λ same. absurd (grind (arith, nat_tests)) in
          let had : one_if (seat_lent lent == n) + times n (map seat_lent rest) ≡ 1 = once n (sym (set_besides book.spare v n (Some seat') (λ same. differs (sym same))) ∙ at) in
          let none : one_if (seat_lent lent == n) ≡ 0 = ap (λ k. one_if (k == n)) is ∙ ap one_if e in
          omega (arith, had, none)

  -- a session that ran on the book's own seat
  pub booked_here : (told : List (Entry (SessionLeft R))) (run : RunTold (SessionLeft R)) (now now' : Option BookView) (side : Side) (ends : EndsTold) (rest : List Lent) → ends.number ≡ run.number
      → Has (Gave side ends) told → KeepsBook S setup side ends run now now' → Booked S setup told now rest → Booked S setup (told ++ CameBack run ∷ []) now' rest
  booked_here told run now now' side ends rest number has keeps b =
      let book = b.book in
      let all = b.all in
      let o = book.own.number in
      let m = moved_to Asked book now' (subst (λ x. Moves Asked x now') b.is keeps.asked) in
      let was = m.2.own in
      let asked : SeatRun = record { seat = o; calls = was.calls } in
      let came : CameWith S setup side ends run (Some book.own.calls) (Some m.0.own.calls) =
      subst (λ x. CameWith S setup side ends run (Some book.own.calls) (calls_told x)) m.1 (subst (λ x. CameWith S setup side ends run (calls_told x) (calls_told now')) b.is keeps.came) in
      let stands = stands_new told all side ends book.own has (pairs_count (IsBooked S setup told book.own.learns all) (runs told) all b.each) b.holds b.seats.rows in
      let spare : m.0.spare ≡ book.spare = ap (λ (x : BookView). x.spare) m.2.others in
      let seats : m.0.seats ≡ book.seats = ap (λ (x : BookView). x.seats) m.2.others in
      record {
        book = m.0;
        is = m.1;
        all = all ++ asked ∷ [];
        each = pairs_back told book.own.learns m.0.own.learns all run asked was.goes_on b.each
            (booked_back told m.0.own.learns all run side ends book.seats book.own m.0.own was number stands came (prefix_self m.0.own.learns));
        holds = holds_back book.seats all book.own m.0.own book.own.learns m.0.own.learns was (was.holds b.seats.own) b.seats.rows b.holds was.goes_on (prefix_self m.0.own.learns);
        seats = record {
          seats = seats ∙ b.seats.seats ∙ ap (λ (xs : List (Option SeatView)). length xs + 1) (sym spare);
          number = was.number ∙ b.seats.number ∙ ap length (sym spare);
          own = subst (λ n. HoldsOwn n m.0.own) (sym seats) (was.holds b.seats.own);
          rows = ap learned was.are ∙ learned-append book.own.calls was.calls ∙ ap (λ rs. rs ++ learned was.calls) b.seats.rows ∙ sym (rows_back o all was.calls) ∙ ap (λ n. rows_on n (all ++ asked ∷ [])) (sym was.number);
          spare = λ n seat at.
              let at' : slice_get book.spare n ≡ Some (Some seat) = ap (λ xs. slice_get xs n) (sym spare) ∙ at in
              let had = b.seats.spare n seat at' in
              let inside = within_some book.spare n (Some seat) at' in
              let own = b.seats.number in
              (had.0, had.1 ∙ sym (rows_still n all asked (λ same. omega (arith, same, inside, own))));
        };
        lent = lents_back told run all asked book m.0 rest (λ n differs at. ap (λ xs. slice_get xs n) spare ∙ at) (own_differs told all book rest b.seats.number b.lent) b.lent;
        once = λ n at. b.once n (ap (λ xs. slice_get xs n) (sym spare) ∙ at);
      }

  booked_within : (told : List (Entry (SessionLeft R))) (whole whole' : List Learn) (all : List SeatRun) (run : RunTold (SessionLeft R)) (asked : SeatRun) → IsPrefix whole whole'
      → IsBooked S setup told whole all run asked → IsBooked S setup told whole' all run asked
  booked_within told whole whole' all run asked p b =
      subst (λ a. IsBooked S setup told whole' a run asked) (append-nil all) (subst (λ t. IsBooked S setup t whole' (all ++ []) run asked) (append-nil told) (booked_more told [] whole whole' all [] run asked p b))

  -- a session that begins on a seat that was lent
  pub booked_lent : (told : List (Entry (SessionLeft R))) (now now' : Option BookView) (lent : Lent) (rest : List Lent) → Has (Gave lent.side lent.ends) told → MovesWith Lends now lent.book now'
      → Booked S setup told now rest → Booked S setup told now' (rest ++ lent ∷ [])
  booked_lent told now now' lent rest has lends b =
      let book = b.book in
      let all = b.all in
      let m = moved_with Lends book lent.book now' (subst (λ x. MovesWith Lends x lent.book now') b.is lends) in
      let other = m.0 in
      let after = m.1 in
      let l = m.4 in
      let had = b.seats.spare l.place l.seat l.had in
      let number : other.own.number ≡ l.place = l.fresh.number ∙ had.0 in
      let inside : l.place < length book.spare = within_some book.spare l.place (Some l.seat) l.had in
      let spare : after.spare ≡ set book.spare l.place None = ap (λ (x : BookView). x.spare) l.left in
      let size : length after.spare ≡ length book.spare = ap length spare ∙ set_count book.spare l.place None in
      let seats : after.seats ≡ book.seats = ap (λ (x : BookView). x.seats) l.left in
      let whole = book.own.learns in
      let whole' = after.own.learns in
      record {
        book = after;
        is = m.3;
        all = all;
        each = pairs_kept (IsBooked S setup told whole all) (IsBooked S setup told whole' all) (λ r a is. booked_within told whole whole' all r a l.own.goes_on is) (runs told) all b.each;
        holds = holds_on all whole whole' l.own.goes_on b.holds;
        seats = record {
          seats = seats ∙ b.seats.seats ∙ ap (λ k. k + 1) (sym size);
          number = l.own.number ∙ b.seats.number ∙ sym size;
          own = subst (λ n. HoldsOwn n after.own) (sym seats) l.own.holds;
          rows = ap learned l.own_calls ∙ b.seats.rows ∙ ap (λ n. rows_on n all) (sym l.own.number);
          spare = λ n seat at. kept_seat book all l.place inside b.seats n seat (sym (ap (λ xs. slice_get xs n) spare) ∙ at) (n == l.place) refl;
        };
        lent = each_snoc (IsLent told all after) rest lent
            (all_kept (IsLent told all book) (IsLent told all after) (λ x is. record { view = is.view; is = is.is; out = ap (λ xs. slice_get xs is.view.own.number) spare ∙ set_none book.spare l.place is.view.own.number is.out; own = is.own; stands = is.stands }) rest b.lent)
            (record {
              view = other;
              is = m.2;
              out = ap (λ xs. slice_get xs other.own.number) spare ∙ ap (slice_get (set book.spare l.place None)) number ∙ set_at book.spare l.place None inside;
              own = subst (λ n. HoldsOwn n other.own) (sym (ap (λ (x : BookView). x.seats) l.is)) l.fresh.holds;
              stands = stands_new told all lent.side lent.ends other.own has (pairs_count (IsBooked S setup told whole all) (runs told) all b.each) (holds_on all whole other.own.learns l.heeds b.holds)
                  (ap learned l.calls ∙ had.1 ∙ ap (λ n. rows_on n all) (sym number));
            });
        once = λ n at. lent_once book l.place l.seat lent rest l.had (ap seat_in m.2 ∙ number)
            (all_kept (IsLent told all book) (λ x. l.place ≡ seat_lent x → ⊥) (λ x is e. none_is l.seat (sym is.out ∙ ap (slice_get book.spare) (sym (e ∙ ap seat_in is.is)) ∙ l.had)) rest b.lent)
            b.once n (sym (ap (λ xs. slice_get xs n) spare) ∙ at) (n == l.place) refl;
      }
    where
      kept_seat : (book : BookView) (all : List SeatRun) (place : ℕ) → place < length book.spare → AreSeats all book → (n : ℕ) (seat : SeatView) → slice_get (set book.spare place None) n ≡ Some (Some seat)
          → (t : Bool) → (n == place) ≡ t → (seat.number ≡ n) × (learned seat.calls ≡ rows_on n all)
      kept_seat book all place inside seats n seat at true e =
          absurd (none_is seat (sym (set_at book.spare place None inside) ∙ ap (slice_get (set book.spare place None)) (sym (eqb-true n place e)) ∙ at))
      kept_seat book all place inside seats n seat at false e =
          seats.spare n seat (sym (set_besides book.spare place n None (λ same. absurd (grind (arith, nat_tests)))) ∙ at)

      lent_once : (book : BookView) (place : ℕ) (seat : SeatView) (lent : Lent) (rest : List Lent) → slice_get book.spare place ≡ Some (Some seat) → seat_lent lent ≡ place → Each (λ x. place ≡ seat_lent x → ⊥) rest
          → ((n : ℕ) → slice_get book.spare n ≡ Some None → times n (map seat_lent rest) ≡ 1) → (n : ℕ) → slice_get (set book.spare place None) n ≡ Some None → (t : Bool) → (n == place) ≡ t
          → times n (map seat_lent (rest ++ lent ∷ [])) ≡ 1
      lent_once book place seat lent rest had is differ once n at true e =
          let here : n ≡ place = eqb-true n place e in
          let last = times_snoc n (seat_lent lent) (map seat_lent rest) in
          let all : times n (map seat_lent (rest ++ lent ∷ [])) ≡ times n (map seat_lent rest ++ seat_lent lent ∷ []) = ap (times n) (map-append seat_lent rest (lent ∷ [])) in
          let none : times n (map seat_lent rest) ≡ 0 = ap (λ k. times k (map seat_lent rest)) here ∙ times_none place rest differ in
          let one : one_if (seat_lent lent == n) ≡ 1 = ap (λ k. one_if (k == n)) (is ∙ sym here) ∙ same_times n in
          omega (arith, last, all, none, one)
      lent_once book place seat lent rest had is differ once n at false e =
          let last = times_snoc n (seat_lent lent) (map seat_lent rest) in
          let all : times n (map seat_lent (rest ++ lent ∷ [])) ≡ times n (map seat_lent rest ++ seat_lent lent ∷ []) = ap (times n) (map-append seat_lent rest (lent ∷ [])) in
          let besides : n ≡ place → ⊥ = λ same. absurd (grind (arith, nat_tests)) in
          let some = once n (sym (set_besides book.spare place n None besides) ∙ at) in
          let none : one_if (seat_lent lent == n) ≡ 0 = ap (λ k. one_if (k == n)) is ∙ ap one_if (not_same place n (λ same. besides (sym same))) in
          omega (arith, last, all, some, none)

  -- a session that has ended, before the others
  pub booked_taken : {X : Type 0} (f : X → Lent) (told : List (Entry (SessionLeft R))) (now : Option BookView) (xs rest : List X) (i : ℕ) (x : X) → i < length xs → x ≡ get_or xs i x → rest ≡ take i xs ++ drop (i + 1) xs
      → Booked S setup told now (map f xs) → Booked S setup told now (f x ∷ map f rest)
  booked_taken f told now xs rest i x within at left b =
      let left' : rest ≡ take i xs ++ drop (suc i) xs = left ∙ ap (λ j. take i xs ++ drop j xs) (add-one i) in
      let P : Lent → Type 0 = IsLent told b.all b.book in
      let each = each_of_map f P xs b.lent in
      record {
        book = b.book;
        is = b.is;
        all = b.all;
        each = b.each;
        holds = b.holds;
        seats = b.seats;
        lent = (subst (λ y. P (f y)) (sym at) (each_at (λ y. P (f y)) xs i x within each), each_to_map f P rest (subst (Each (λ y. P (f y))) (sym left') (all_left (λ y. P (f y)) xs i each)));
        once = λ n free.
            let had = b.once n free in
            let all : times n (map seat_lent (map f xs)) ≡ times n (map (λ y. seat_lent (f y)) xs) = ap (times n) (map_twice f xs) in
            let split = times_split (λ y. seat_lent (f y)) n xs i x within in
            let one : one_if (seat_lent (f (get_or xs i x)) == n) ≡ one_if (seat_lent (f x) == n) = ap (λ y. one_if (seat_lent (f y) == n)) (sym at) in
            let these : times n (map seat_lent (map f rest)) ≡ times n (map (λ y. seat_lent (f y)) (take i xs ++ drop (suc i) xs)) = ap (times n) (map_twice f rest) ∙ ap (λ ys. times n (map (λ y. seat_lent (f y)) ys)) left' in
            omega (arith, had, all, split, one, these);
      }

  -- ---- the beginning and the end

  pub booked_start : (others : ℕ) → Booked S {R = R} setup [] (Some (new_book others)) []
  booked_start others = record {
    book = new_book others;
    is = refl;
    all = [];
    each = tt;
    holds = λ s. ([], refl);
    seats = record {
      seats = ap (λ k. k + 1) (sym (map_count (λ (s : SeatView). Some s) (new_seats others) ∙ new_count others));
      number = sym (map_count (λ (s : SeatView). Some s) (new_seats others) ∙ new_count others);
      own = record { own = refl; below = All-nil (λ (x : Learn). x.seat < others + 1); number = omega arith };
      rows = refl;
      spare = λ n seat at.
          let found = get_map (λ (s : SeatView). Some s) (new_seats others) n (Some seat) at in
          let is : seat ≡ new_seat n = sym (some_is found.0 seat found.2) ∙ new_at others n found.0 found.1 in
          (ap (λ (s : SeatView). s.number) is, ap (λ (s : SeatView). learned s.calls) is);
    };
    lent = tt;
    once = λ n at. let found = get_map (λ (s : SeatView). Some s) (new_seats others) n None at in absurd (cc (found.2));
  }

  -- no session runs, and each other seat has heeded the book's own
  pub booked_served : (told : List (Entry (SessionLeft R))) (now : Option BookView) → IfSome now IsHeard → Booked S setup told now [] → ServedBook S setup told
  booked_served told now heard b = record {
    all = b.all;
    whole = b.book.own.learns;
    each = b.each;
    only = λ n. go n (nat_lt n (length b.book.spare)) refl;
  }
    where
      book : BookView
      book = b.book

      heeded : IsHeard book
      heeded = subst (λ o. IfSome o IsHeard) b.is heard

      lent_out : (n : ℕ) → (o : Option SeatView) → slice_get book.spare n ≡ Some o → IsPrefix (of_seat n book.own.learns) (learns_by n (rows_on n b.all))
      lent_out n None at = let none : 0 ≡ 1 = b.once n at in absurd (omega (arith, none))
      lent_out n (Some seat) at =
          let had = b.seats.spare n seat at in
          subst (λ rs. IsPrefix (of_seat n book.own.learns) (learns_by n rs)) had.1 (subst (λ k. IsPrefix (of_seat k book.own.learns) (learns_by k (learned seat.calls))) had.0 (heeded n seat at))

      own : IsPrefix (of_seat book.own.number book.own.learns) (learns_by book.own.number (rows_on book.own.number b.all))
      own = prefix_same _ _ (b.seats.own.own ∙ ap (learns_by book.own.number) b.seats.rows)

      past : (n : ℕ) → length book.spare ≤ n → (t : Bool) → (n == book.own.number) ≡ t → IsPrefix (of_seat n book.own.learns) (learns_by n (rows_on n b.all))
      past n le true e = subst (λ k. IsPrefix (of_seat k book.own.learns) (learns_by k (rows_on k b.all))) (sym (eqb-true n book.own.number e)) own
      past n le false e =
          let seats = b.seats.seats in
          let number = b.seats.number in
          let more : book.seats ≤ n = grind (arith, nat_tests) in
          subst (λ ls. IsPrefix ls (learns_by n (rows_on n b.all))) (sym (none_below book.seats n more book.own.learns b.seats.own.below)) (learns_by n (rows_on n b.all), refl)

      go : (n : ℕ) → (t : Bool) → nat_lt n (length book.spare) ≡ t → IsPrefix (of_seat n book.own.learns) (learns_by n (rows_on n b.all))
      go n true e = let at = some_at book.spare n (ltb-true n (length book.spare) e) in lent_out n at.0 at.1
      go n false e = past n (ltb-false n (length book.spare) e) (n == book.own.number) refl

  module _ (first : Option BookView) (d d' : DoorsTold (SessionLeft R)) where
    pub are_quiet : (e : Entry (SessionLeft R)) (now : Option BookView) (out : List Lent) → d'.told ≡ entries_with (Some e) d.told → runs (e ∷ []) ≡ []
        → AreBooked S setup first d now out → AreBooked S setup first d' now out
    are_quiet e now out told none are others new t is =
        told_more (λ t. Booked S setup t now out) e d.told t (sym told ∙ is) (λ before was. booked_quiet before e now out none (are others new before was))

    pub are_same : (now : Option BookView) (out : List Lent) → d'.told ≡ d.told → AreBooked S setup first d now out → AreBooked S setup first d' now out
    are_same now out told are others new t is = are others new t (sym told ∙ is)

    pub are_joined : (run : RunTold (SessionLeft R)) (now now' back : Option BookView) (lent : Lent) (rest : List Lent) → d'.told ≡ entries_with (Some (CameBack run)) d.told → lent.ends.number ≡ run.number
        → KeepsBook S setup lent.side lent.ends run lent.book back → MovesWith TakesBack now back now' → AreBooked S setup first d now (lent ∷ rest) → AreBooked S setup first d' now' rest
    are_joined run now now' back lent rest told number keeps takes are others new t is =
        told_more (λ t. Booked S setup t now' rest) (CameBack run) d.told t (sym told ∙ is) (λ before was. booked_join before run now now' back lent rest number keeps takes (are others new before was))

    pub are_here : (run : RunTold (SessionLeft R)) (now now' : Option BookView) (side : Side) (ends : EndsTold) (rest : List Lent) → d'.told ≡ entries_with (Some (CameBack run)) d.told → ends.number ≡ run.number
        → ((t : List (Entry (SessionLeft R))) → d.told ≡ Some t → Has (Gave side ends) t) → KeepsBook S setup side ends run now now' → AreBooked S setup first d now rest → AreBooked S setup first d' now' rest
    are_here run now now' side ends rest told number has keeps are others new t is =
        told_more (λ t. Booked S setup t now' rest) (CameBack run) d.told t (sym told ∙ is) (λ before was. booked_here before run now now' side ends rest number (has before was) keeps (are others new before was))

  -- ---- beside what the doors tell

  pub are_lent : (first : Option BookView) (d : DoorsTold (SessionLeft R)) (now now' : Option BookView) (lent : Lent) (rest : List Lent)
      → ((t : List (Entry (SessionLeft R))) → d.told ≡ Some t → Has (Gave lent.side lent.ends) t) → MovesWith Lends now lent.book now'
      → AreBooked S setup first d now rest → AreBooked S setup first d now' (rest ++ lent ∷ [])
  are_lent first d now now' lent rest has lends are others new t is = booked_lent t now now' lent rest (has t is) lends (are others new t is)

  pub are_taken : {X : Type 0} (f : X → Lent) (first : Option BookView) (d : DoorsTold (SessionLeft R)) (now : Option BookView) (xs rest : List X) (i : ℕ) (x : X) → i < length xs → x ≡ get_or xs i x
      → rest ≡ take i xs ++ drop (i + 1) xs → AreBooked S setup first d now (map f xs) → AreBooked S setup first d now (f x ∷ map f rest)
  are_taken f first d now xs rest i x within at left are others new t is = booked_taken f t now xs rest i x within at left (are others new t is)

  pub are_first : (first : Option BookView) (d : DoorsTold (SessionLeft R)) (now : Option BookView) (lent : Lent) (rest : List Lent) → AreBooked S setup first d now (rest ++ lent ∷ [])
      → AreBooked S setup first d now (lent ∷ rest)
  are_first first d now lent rest are others new t is =
      let b = are others new t is in
      record {
        book = b.book;
        is = b.is;
        all = b.all;
        each = b.each;
        holds = b.holds;
        seats = b.seats;
        lent = each_last (IsLent t b.all b.book) rest lent b.lent;
        once = λ n free.
            let had = b.once n free in
            let last = times_snoc n (seat_lent lent) (map seat_lent rest) in
            let these : times n (map seat_lent (rest ++ lent ∷ [])) ≡ times n (map seat_lent rest ++ seat_lent lent ∷ []) = ap (times n) (map-append seat_lent rest (lent ∷ [])) in
            omega (arith, had, last, these);
      }

  pub are_pushed : {X : Type 0} (f : X → Lent) (first : Option BookView) (d : DoorsTold (SessionLeft R)) (now : Option BookView) (xs all : List X) (x : X) → all ≡ xs ++ x ∷ []
      → AreBooked S setup first d now (map f xs ++ f x ∷ []) → AreBooked S setup first d now (map f all)
  are_pushed f first d now xs all x is are =
      subst (λ ls. AreBooked S setup first d now ls) (sym (ap (map f) is ∙ map-append f xs (x ∷ []))) are

  -- no visit was told before
  pub are_started : (first : Option BookView) (d : DoorsTold (SessionLeft R)) → ((t : List (Entry (SessionLeft R))) → d.told ≡ Some t → t ≡ []) → AreBooked S setup first d first []
  are_started first d untold others new t is =
      subst (λ u. Booked S {R = R} setup u first []) (sym (untold t is)) (subst (λ o. Booked S {R = R} setup [] o []) (sym new) (booked_start others))

-- counts stay, whatever the book
pub counted_book : {R : Type 0} (first now now' : RunnerTold) (d : DoorsTold (SessionLeft R)) → now' ≡ record now { book = now'.book } → CountedBy first now d → CountedBy first now' d
counted_book first now now' d is c = subst (λ r. CountedBy first r d) (sym is) (record { setup = c.setup; yeses = c.yeses; refusals = c.refusals; span = c.span })

-- what the thread of a session that is out promised of its book
pub keeps_book : {S K P C T B R : Type 0} (source : S → SourceTold) (sink : K → SinkTold) (setup : Setup) (doors : DoorsTold (SessionLeft R)) (s : Session S K P C T B R) (served : Served S K P C T B R) → IsOut source sink setup doors s
    → KeepsBook S s.handle.promise.runner.value.setup s.handle.promise.side (ends_told source sink s.handle.promise.ends.value)
    (run_told source sink s.handle.promise.ends.value.number served.ended.run served.ended.sinks.items) s.handle.promise.runner.value.book served.runner.book
    → KeepsBook S setup s.side (ends_told source sink s.ends.value) (run_told source sink s.ends.value.number served.ended.run served.ended.sinks.items) s.handle.promise.runner.value.book served.runner.book
keeps_book {S} source sink setup doors s served is keeps =
    subst (λ e. KeepsBook S setup s.side (ends_told source sink e) (run_told source sink e.number served.ended.run served.ended.sinks.items) s.handle.promise.runner.value.book served.runner.book) is.ends
    (subst (λ side. KeepsBook S setup side (ends_told source sink s.handle.promise.ends.value) (run_told source sink s.handle.promise.ends.value.number served.ended.run served.ended.sinks.items) s.handle.promise.runner.value.book served.runner.book) is.side
    (subst (λ u. KeepsBook S u s.handle.promise.side (ends_told source sink s.handle.promise.ends.value) (run_told source sink s.handle.promise.ends.value.number served.ended.run served.ended.sinks.items) s.handle.promise.runner.value.book served.runner.book) is.held_to keeps))
