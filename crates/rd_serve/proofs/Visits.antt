-- Counts, runs, places and answers: of what was told, and more.
use Rattle.std.proofs.Common.{inl, inr, ◌≡◌, true, false, Bool, ℕ, ◌+◌, ◌-◌, ◌^◌, ◌<◌, ◌≤◌, List, [], ◌∷◌, ◌++◌, length, Some, None, refl, sym, ap, ◌∙◌, subst, arith}
use Rattle.std.specs.Prelude.{Option, option_to_list, nat_lt, if◌then◌else◌}
use Rattle.std.proofs.lemmas.Bool.{lt-ltb, le-ltb}
use Rattle.std.proofs.lemmas.List.{append_assoc, append-nil}
use Rattle.rd_base.specs.declared.session_note.SessionNote.{SessionNote}
use Rattle.rd_base.specs.declared.values.Side.{Side}
use Rattle.rd_doors.specs.Visits.{EndsTold, Entry, Gave, GaveOperator, CameBack, TurnedAway, CameFromOperator, Holds}
use Rattle.rd_desk.specs.Desk.{Start}
use Rattle.rd_serve.specs.Notes.{visits, turned, runs, IsPlaced, Pairs, HasIds, InOrder, id_at, noted}
use Rattle.rd_serve.specs.Operators.{asked_for, answered}

-- ---- counts and runs of what was told, and more

pub visits-append : {L : Type 0} (t more : List (Entry L)) → visits (t ++ more) ≡ visits t + visits more
visits-append [] more = omega arith
visits-append (Gave side ends ∷ t) more = let rest = visits-append t more in omega arith
visits-append (GaveOperator source sink ∷ t) more = visits-append t more
visits-append (CameBack run ∷ t) more = visits-append t more
visits-append (TurnedAway ends ∷ t) more = visits-append t more
visits-append (CameFromOperator source sink end ∷ t) more = visits-append t more

pub turned-append : {L : Type 0} (t more : List (Entry L)) → turned (t ++ more) ≡ turned t + turned more
turned-append [] more = omega arith
turned-append (Gave side ends ∷ t) more = turned-append t more
turned-append (GaveOperator source sink ∷ t) more = turned-append t more
turned-append (CameBack run ∷ t) more = turned-append t more
turned-append (TurnedAway ends ∷ t) more = let rest = turned-append t more in omega arith
turned-append (CameFromOperator source sink end ∷ t) more = turned-append t more

pub runs-append : {L : Type 0} (t more : List (Entry L)) → runs (t ++ more) ≡ runs t ++ runs more
runs-append [] more = refl
runs-append (Gave side ends ∷ t) more = runs-append t more
runs-append (GaveOperator source sink ∷ t) more = runs-append t more
runs-append (CameBack run ∷ t) more = ap (λ l. run ∷ l) (runs-append t more)
runs-append (TurnedAway ends ∷ t) more = runs-append t more
runs-append (CameFromOperator source sink end ∷ t) more = runs-append t more

pub asked_for-append : {L : Type 0} (t more : List (Entry L)) → asked_for (t ++ more) ≡ asked_for t + asked_for more
asked_for-append [] more = omega arith
asked_for-append (Gave side ends ∷ t) more = asked_for-append t more
asked_for-append (GaveOperator source sink ∷ t) more = let rest = asked_for-append t more in omega arith
asked_for-append (CameBack run ∷ t) more = asked_for-append t more
asked_for-append (TurnedAway ends ∷ t) more = asked_for-append t more
asked_for-append (CameFromOperator source sink end ∷ t) more = asked_for-append t more

pub answered-append : {L : Type 0} (t more : List (Entry L)) → answered (t ++ more) ≡ answered t + answered more
answered-append [] more = omega arith
answered-append (Gave side ends ∷ t) more = answered-append t more
answered-append (GaveOperator source sink ∷ t) more = answered-append t more
answered-append (CameBack run ∷ t) more = answered-append t more
answered-append (TurnedAway ends ∷ t) more = answered-append t more
answered-append (CameFromOperator source sink end ∷ t) more = let rest = answered-append t more in omega arith

pub ids_before : {L : Type 0} (start : Start) (t more : List (Entry L)) → HasIds start (t ++ more) → HasIds start t
ids_before start t more ids = let all = visits-append t more in omega arith

pub placed_more : {L : Type 0} (place : ℕ) (side : Side) (ends : EndsTold) (t more : List (Entry L)) → IsPlaced place side ends t → IsPlaced place side ends (t ++ more)
placed_more place side ends t more p = record {
  before = p.before;
  after = p.after ++ more;
  is = sym (append_assoc p.before (Gave side ends ∷ p.after) more) ∙ ap (λ l. l ++ more) p.is;
  counts = p.counts;
}

-- the place of a visit is no more than the number of visits
pub placed_within : {L : Type 0} (place : ℕ) (side : Side) (ends : EndsTold) (t : List (Entry L)) → IsPlaced place side ends t → place ≤ visits t
placed_within place side ends t p =
    let split = visits-append p.before (Gave side ends ∷ p.after) in
    let all : visits t ≡ visits (p.before ++ Gave side ends ∷ p.after) = sym (ap visits p.is) in
    let counts = p.counts in
    omega arith

-- ---- ids

pub id_none : (greatest place : ℕ) → 2 ^ 63 - 1 < greatest + place → id_at greatest place ≡ None
id_none greatest place past = ap (λ b. if b then None else Some (greatest + place)) (lt-ltb (2 ^ 63 - 1) (greatest + place) past)

pub id_some : (greatest place : ℕ) → greatest + place ≤ 2 ^ 63 - 1 → id_at greatest place ≡ Some (greatest + place)
id_some greatest place within = ap (λ b. if b then None else Some (greatest + place)) (le-ltb (2 ^ 63 - 1) (greatest + place) within)

-- ---- answers of the clock

pub holds_more : (n : ℕ) (xs more : List ℕ) → Holds n xs → Holds n (xs ++ more)
holds_more n [] more holds = absurd holds
holds_more n (x ∷ xs) more (inl is) = inl is
holds_more n (x ∷ xs) more (inr holds) = inr (holds_more n xs more holds)

pub order_more : (first second : ℕ) (xs more : List ℕ) → InOrder first second xs → InOrder first second (xs ++ more)
order_more first second xs more o = record {
  before = o.before;
  between = o.between;
  after = o.after ++ more;
  is = sym (append_assoc (o.before ++ first ∷ o.between) (second ∷ o.after) more) ∙ ap (λ l. l ++ more) o.is;
}

pub order_last : (first second : ℕ) (xs : List ℕ) → Holds first xs → InOrder first second (xs ++ second ∷ [])
order_last first second [] holds = absurd holds
order_last first second (x ∷ xs) (inl is) = record { before = []; between = xs; after = []; is = ap (λ y. y ∷ xs ++ second ∷ []) (sym is) }
order_last first second (x ∷ xs) (inr holds) =
    let o = order_last first second xs holds in
    record { before = x ∷ o.before; between = o.between; after = o.after; is = ap (λ l. x ∷ l) o.is }

-- ---- pairs

pub pairs_kept : {A B : Type 0} (P Q : A → B → Type 0) → ((x : A) (y : B) → P x y → Q x y) → (xs : List A) (ys : List B) → Pairs P xs ys → Pairs Q xs ys
pairs_kept P Q more [] [] all = tt
pairs_kept P Q more [] (y ∷ ys) all = absurd all
pairs_kept P Q more (x ∷ xs) [] all = absurd all
pairs_kept P Q more (x ∷ xs) (y ∷ ys) all = (more x y all.0, pairs_kept P Q more xs ys all.1)

pub pairs_snoc : {A B : Type 0} (P : A → B → Type 0) (xs : List A) (ys : List B) (x : A) (y : B) → Pairs P xs ys → P x y → Pairs P (xs ++ x ∷ []) (ys ++ y ∷ [])
pairs_snoc P [] [] x y all last = (last, tt)
pairs_snoc P [] (z ∷ ys) x y all last = absurd all
pairs_snoc P (z ∷ xs) [] x y all last = absurd all
pairs_snoc P (w ∷ xs) (z ∷ ys) x y all last = (all.0, pairs_snoc P xs ys x y all.1 last)

pub noted-snoc : (left : List (Option SessionNote)) (l : Option SessionNote) → noted (left ++ l ∷ []) ≡ noted left ++ option_to_list l
noted-snoc [] l = append-nil (option_to_list l)
noted-snoc (x ∷ left) l = ap (λ ns. option_to_list x ++ ns) (noted-snoc left l) ∙ sym (append_assoc (option_to_list x) (noted left) (option_to_list l))
