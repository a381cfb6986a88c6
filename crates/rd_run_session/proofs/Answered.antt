-- The answers of a book, call by call.
use Rattle.std.proofs.Common.{◌≡◌, ℕ, List, [], ◌∷◌, ◌++◌, Option, Some, None, Result, Ok, Err, OnOk, OnErr, refl, sym, ap, ◌∙◌, subst}
use Rattle.std.proofs.lemmas.List.{append_assoc, append-nil}
use mathlib.Core.List.{IsPrefix}
use Rattle.rd_base.specs.History.{Row}
use Rattle.rd_base.specs.declared.values.Side.{Side}
use Rattle.rd_base.specs.declared.values.Side.TheVariants.{Incoming, Outgoing}
use Rattle.rd_gate.specs.declared.gate.View.{View}
use Rattle.rd_token_map.specs.BookCalls.{BookCall, Found, Learned, told_call}
use Rattle.rd_turn.specs.Turns.{Outside, outside}
use Rattle.rd_history.specs.declared.learn.Learn.{Learn}
use Rattle.rd_history.specs.Learns.{of_seat, learns_by}
use Rattle.rd_history.proofs.Beginnings.{prefix_self, prefix_trans}
use Rattle.rd_lent_book.specs.Answers.{AreAnswers, IsAnswer, WasAsked}
use Rattle.rd_lent_book.specs.Books.{found}
use Rattle.rd_lent_book.specs.Lending.{BookView, Asked, Looked, Learnt, Moves, calls_told}
use Rattle.rd_lent_book.specs.Seats.{SeatView, learned, HoldsOwn, IsFresh}
use Rattle.rd_run_session.specs.Asking.{AsksOn}

pub learned-append : (xs ys : List BookCall) → learned (xs ++ ys) ≡ learned xs ++ learned ys
learned-append [] ys = refl
learned-append (Found w a ∷ xs) ys = learned-append xs ys
learned-append (Learned r ∷ xs) ys = ap (λ (rows : List Row). r ∷ rows) (learned-append xs ys)

-- answers within a list are so within a longer one
pub answers_within : (seat : ℕ) (whole whole' : List Learn) → IsPrefix whole whole' → (had : List Row) (from : List Learn) (calls : List BookCall)
    → AreAnswers seat whole had from calls → AreAnswers seat whole' had from calls
answers_within seat whole whole' pre had from [] all = tt
answers_within seat whole whole' pre had from (Learned row ∷ calls) all = answers_within seat whole whole' pre (had ++ row ∷ []) from calls all
answers_within seat whole whole' pre had from (Found word answer ∷ calls) all = (
  all.0,
  record { is = all.1.is; own = all.1.own; goes_on = all.1.goes_on; within = prefix_trans all.0 whole whole' all.1.within pre },
  answers_within seat whole whole' pre had all.0 calls all.2,
)

-- an answer more
answers_found : (seat : ℕ) (whole whole' : List Learn) → IsPrefix whole whole' → (had : List Row) (from : List Learn) (calls : List BookCall) (word : List ℕ) (answer : Option Row)
    → IsPrefix from whole → AreAnswers seat whole had from calls → answer ≡ found word whole' → of_seat seat whole' ≡ learns_by seat (had ++ learned calls)
    → AreAnswers seat whole' had from (calls ++ Found word answer ∷ [])
answers_found seat whole whole' pre had from [] word answer within all is own = (
  whole',
  record {
    is = is;
    own = own ∙ ap (learns_by seat) (append-nil had);
    goes_on = prefix_trans from whole whole' within pre;
    within = prefix_self whole';
  },
  tt,
)
answers_found seat whole whole' pre had from (Learned row ∷ calls) word answer within all is own =
    answers_found seat whole whole' pre (had ++ row ∷ []) from calls word answer within all is (own ∙ ap (learns_by seat) (sym (append_assoc had (row ∷ []) (learned calls))))
answers_found seat whole whole' pre had from (Found w a ∷ calls) word answer within all is own = (
  all.0,
  record { is = all.1.is; own = all.1.own; goes_on = all.1.goes_on; within = prefix_trans all.0 whole whole' all.1.within pre },
  answers_found seat whole whole' pre had all.0 calls word answer all.1.within all.2 is own,
)

-- a row more
answers_learnt : (seat : ℕ) (whole whole' : List Learn) → IsPrefix whole whole' → (had : List Row) (from : List Learn) (calls : List BookCall) (row : Row)
    → AreAnswers seat whole had from calls → AreAnswers seat whole' had from (calls ++ Learned row ∷ [])
answers_learnt seat whole whole' pre had from [] row all = tt
answers_learnt seat whole whole' pre had from (Learned r ∷ calls) row all = answers_learnt seat whole whole' pre (had ++ r ∷ []) from calls row all
answers_learnt seat whole whole' pre had from (Found w a ∷ calls) row all = (
  all.0,
  record { is = all.1.is; own = all.1.own; goes_on = all.1.goes_on; within = prefix_trans all.0 whole whole' all.1.within pre },
  answers_learnt seat whole whole' pre had all.0 calls row all.2,
)

-- ---- a book

unasked_seat : (seats : ℕ) (s : SeatView) → WasAsked seats s s
unasked_seat seats s = record {
  number = refl;
  calls = [];
  are = sym (append-nil s.calls);
  answers = tt;
  goes_on = prefix_self s.learns;
  holds = λ h. h;
}

found_seat : (seats : ℕ) (a b c : SeatView) (word : List ℕ) (answer : Option Row) → WasAsked seats a b → IsFresh seats b c → c.calls ≡ b.calls ++ Found word answer ∷ []
    → answer ≡ found word c.learns → WasAsked seats a c
found_seat seats a b c word answer was fresh calls is =
    let number : c.number ≡ a.number = fresh.number ∙ was.number in
    let all : c.calls ≡ a.calls ++ (was.calls ++ Found word answer ∷ []) = calls ∙ ap (λ cs. cs ++ Found word answer ∷ []) was.are ∙ append_assoc a.calls was.calls (Found word answer ∷ []) in
    let rows : learned c.calls ≡ learned a.calls ++ learned was.calls =
    ap learned all ∙ learned-append a.calls (was.calls ++ Found word answer ∷ []) ∙ ap (λ rs. learned a.calls ++ rs) (learned-append was.calls (Found word answer ∷ []) ∙ append-nil (learned was.calls)) in
    record {
      number = number;
      calls = was.calls ++ Found word answer ∷ [];
      are = all;
      answers = answers_found a.number b.learns c.learns fresh.goes_on (learned a.calls) a.learns was.calls word answer was.goes_on was.answers is
          (subst (λ n. of_seat n c.learns ≡ learns_by n (learned a.calls ++ learned was.calls)) number (fresh.holds.own ∙ ap (learns_by c.number) rows));
      goes_on = prefix_trans a.learns b.learns c.learns was.goes_on fresh.goes_on;
      holds = λ h. fresh.holds;
    }

learnt_seat : (seats : ℕ) (a b c : SeatView) (row : Row) → WasAsked seats a b → IsFresh seats b c → c.calls ≡ b.calls ++ Learned row ∷ [] → WasAsked seats a c
learnt_seat seats a b c row was fresh calls = record {
  number = fresh.number ∙ was.number;
  calls = was.calls ++ Learned row ∷ [];
  are = calls ∙ ap (λ cs. cs ++ Learned row ∷ []) was.are ∙ append_assoc a.calls was.calls (Learned row ∷ []);
  answers = answers_learnt a.number b.learns c.learns fresh.goes_on (learned a.calls) a.learns was.calls row was.answers;
  goes_on = prefix_trans a.learns b.learns c.learns was.goes_on fresh.goes_on;
  holds = λ h. fresh.holds;
}

pub unasked_book : (told : Option BookView) → Moves Asked told told
unasked_book None = tt
unasked_book (Some b) = record { others = refl; own = unasked_seat b.seats b.own }

pub found_book : (a b c : Option BookView) (word : List ℕ) (answer : Option Row) → Moves Asked a b → Moves (Looked word answer) b c → Moves Asked a c
found_book None None None word answer was looked = tt
found_book None None (Some c) word answer was looked = absurd looked
found_book None (Some b) c word answer was looked = absurd was
found_book (Some a) None c word answer was looked = absurd was
found_book (Some a) (Some b) None word answer was looked = absurd looked
found_book (Some a) (Some b) (Some c) word answer was looked = record {
  others = looked.others ∙ ap (λ (v : BookView). record v { own = c.own }) was.others;
  own = found_seat a.seats a.own b.own c.own word answer was.own (subst (λ n. IsFresh n b.own c.own) (ap (λ (v : BookView). v.seats) was.others) looked.fresh) looked.calls looked.found_by;
}

pub learnt_book : (a b c : Option BookView) (row : Row) → Moves Asked a b → Moves (Learnt row) b c → Moves Asked a c
learnt_book None None None row was learnt = tt
learnt_book None None (Some c) row was learnt = absurd learnt
learnt_book None (Some b) c row was learnt = absurd was
learnt_book (Some a) None c row was learnt = absurd was
learnt_book (Some a) (Some b) None row was learnt = absurd learnt
learnt_book (Some a) (Some b) (Some c) row was learnt = record {
  others = learnt.others ∙ ap (λ (v : BookView). record v { own = c.own }) was.others;
  own = learnt_seat a.seats a.own b.own c.own row was.own (subst (λ n. IsFresh n b.own c.own) (ap (λ (v : BookView). v.seats) was.others) learnt.fresh) learnt.calls;
}

pub found_told : (a b : Option BookView) (word : List ℕ) (answer : Option Row) → Moves (Looked word answer) a b → calls_told b ≡ told_call (calls_told a) (Found word answer)
found_told None None word answer looked = refl
found_told None (Some b) word answer looked = absurd looked
found_told (Some a) None word answer looked = absurd looked
found_told (Some a) (Some b) word answer looked = ap (λ cs. Some cs) looked.calls

pub learnt_told : (a b : Option BookView) (row : Row) → Moves (Learnt row) a b → calls_told b ≡ told_call (calls_told a) (Learned row)
learnt_told None None row learnt = refl
learnt_told None (Some b) row learnt = absurd learnt
learnt_told (Some a) None row learnt = absurd learnt
learnt_told (Some a) (Some b) row learnt = ap (λ cs. Some cs) learnt.calls

-- a session that asked nothing
pub asks_nothing : (side : Side) (asks : View → Outside) (book : Option (List BookCall)) → ((v : View) → (asks v).book ≡ book) → AsksOn side asks asks book book
asks_nothing Incoming asks book is = λ v. (is v, is v)
asks_nothing Outgoing asks book is = refl

-- outside objects of which a book alone tells
abbrev pub book_alone : Option (List BookCall) → View → Outside
book_alone book v = outside v (record { answers = None; reach = None; span = 0 }) (record { asked = None; yeses = 0 }) book

-- a row that was learnt, or refused
pub learnt_or_same : {B E : Type 0} (told : B → Option BookView) (a : Option BookView) (b c : B) (row : Row) (result : Result (Unit {0}) E) → Moves Asked a (told b)
    → OnOk result (Moves (Learnt row) (told b) (told c)) → OnErr result (c ≡ b) → Moves Asked a (told c)
learnt_or_same told a b c row (Ok x) was ok err = learnt_book a (told b) (told c) row was ok
learnt_or_same told a b c row (Err e) was ok err = subst (λ o. Moves Asked a (told o)) (sym err) was
