-- What holds of each desk, after each of its calls.
use Rattle.std.proofs.Common.{◌≡◌, ℕ, ◌+◌, ◌-◌, ◌^◌, ◌<◌, ◌≤◌, Bool, true, false, cond, List, [], ◌∷◌, ◌++◌, inl, inr, length, Some, None, refl, sym, ap, ◌∙◌, subst, arith, length-append, length-drop}
use Rattle.std.specs.Prelude.{◌==◌, find, Option, option_map}
use Rattle.std.proofs.lemmas.Bool.{cases_lt}
use Rattle.std.specs.List.{list_any}
use Rattle.rd_base.specs.declared.session_note.SessionNote.{SessionNote}
use Rattle.rd_board.specs.declared.latest.BoardNote.{BoardNote}
use Rattle.rd_board.specs.Notes.{fresh, has_id, is_unkept, latest, mark_first}
use Rattle.rd_board.specs.Board.{BoardView, Accepts, empty}
use Rattle.rd_board.proofs.Marks.{length-mark_first}
use Rattle.rd_doors.specs.Visits.{Holds, without}
use Rattle.rd_desk.specs.Desk.{IsOrderly, AreInOrder, HaveMoments, uses}
use Rattle.rd_desk.proofs.Ids.{ids-push, ids-without, length-without, held_counts, notes-fresh, notes-drop, notes-mark_first, unused}
use Rattle.rd_desk.proofs.Notes.{order-fresh, order-drop, order-marked, pending_used, pending_moments, moments-append, moments-drop, moments-mark_first}

pub orderly_empty : (drawn : ℕ) → IsOrderly (empty drawn) []
orderly_empty drawn = record {
  live = refl;
  few = omega arith;
  long = omega arith;
  once = λ id. omega arith;
  within = λ id past. refl;
  moments = tt;
  in_order = tt;
}

-- ---- a session begins

one_more : (drawn id used : ℕ) (t : Bool) → (drawn + 1 == id) ≡ t → used ≤ 1 → (drawn < id → used ≡ 0) → used + cond t 1 0 ≤ 1
one_more drawn id used true is once past =
    let same : drawn + 1 ≡ id = grind arith in
    let none = past (omega arith) in omega arith
one_more drawn id used false is once past = omega arith

none_past : (drawn id used : ℕ) (t : Bool) → (drawn + 1 == id) ≡ t → drawn + 1 < id → used ≡ 0 → used + cond t 1 0 ≡ 0
none_past drawn id used true is past none = let same : drawn + 1 ≡ id = grind arith in absurd (omega arith)
none_past drawn id used false is past none = omega arith

pub orderly_began : (board : BoardView) (ids : List ℕ) → IsOrderly board ids → length ids < 32 → board.drawn < 2 ^ 63 - 1
    → IsOrderly (record board { drawn = board.drawn + 1; live = board.live + 1 }) (ids ++ (board.drawn + 1) ∷ [])
orderly_began board ids h room below = record {
  live = let more = length-append ids ((board.drawn + 1) ∷ []) in let live = h.live in omega arith;
  few = let more = length-append ids ((board.drawn + 1) ∷ []) in omega arith;
  long = h.long;
  once = λ id.
      let more = ids-push id (board.drawn + 1) ids in
      let one = one_more board.drawn id (uses id ids board.latest) (board.drawn + 1 == id) refl (h.once id) (λ past. h.within id (omega arith)) in
      omega arith;
  within = λ id past.
      let more = ids-push id (board.drawn + 1) ids in
      let none = none_past board.drawn id (uses id ids board.latest) (board.drawn + 1 == id) refl (omega arith) (h.within id (omega arith)) in
      omega arith;
  moments = h.moments;
  in_order = h.in_order;
}

-- ---- a session ends

-- its id isn't among the notes
pub is_new : (board : BoardView) (ids : List ℕ) (id : ℕ) → IsOrderly board ids → Holds id ids → list_any (has_id id) board.latest ≡ false
is_new board ids id h held =
    let once = h.once id in
    let some = held_counts id ids held in
    unused id board.latest (omega arith)

-- one of its uses goes from the ids to the notes
moved : (id : ℕ) (ids : List ℕ) (notes : List BoardNote) (note : SessionNote) → Holds note.id ids → uses id (without note.id ids) (latest (notes ++ fresh note ∷ [])) ≤ uses id ids notes
moved id ids notes note held =
    let less = ids-without id note.id ids held in
    let more = notes-fresh id note notes in
    let last = notes-drop id (length (notes ++ fresh note ∷ []) - 10000) (notes ++ fresh note ∷ []) in
    omega arith

orderly_after : (before after : BoardView) (ids : List ℕ) (note : SessionNote) → IsOrderly before ids → Holds note.id ids
    → note.began ≤ 2 ^ 63 - 1 → note.ended ≤ 2 ^ 63 - 1 → after.drawn ≡ before.drawn → after.live + 1 ≡ before.live → after.latest ≡ latest (before.latest ++ fresh note ∷ [])
    → IsOrderly after (without note.id ids)
orderly_after before after ids note h held began ended drawn live last = record {
  live = let less = length-without note.id ids held in let lived = h.live in omega arith;
  few = let less = length-without note.id ids held in let few = h.few in omega arith;
  long = let cut = ap length last ∙ length-drop (length (before.latest ++ fresh note ∷ []) - 10000) (before.latest ++ fresh note ∷ []) in omega arith;
  once = λ id.
      let once = h.once id in
      let fewer = moved id ids before.latest note held in
      let now = ap (λ l. uses id (without note.id ids) l) last in omega arith;
  within = λ id past.
      let none = h.within id (omega arith) in
      let fewer = moved id ids before.latest note held in
      let now = ap (λ l. uses id (without note.id ids) l) last in omega arith;
  moments = subst HaveMoments (sym last) (moments-drop (length (before.latest ++ fresh note ∷ []) - 10000) (before.latest ++ fresh note ∷ []) (moments-append before.latest (fresh note ∷ []) h.moments (began, ended, tt)));
  in_order = subst AreInOrder (sym last) (order-drop (length (before.latest ++ fresh note ∷ []) - 10000) (before.latest ++ fresh note ∷ []) (order-fresh note before.latest h.in_order));
}

pub orderly_ended : (before after : BoardView) (ids : List ℕ) (note : SessionNote) → IsOrderly before ids → Holds note.id ids
    → note.began ≤ 2 ^ 63 - 1 → note.ended ≤ 2 ^ 63 - 1 → Accepts before note after
    → IsOrderly after (without note.id ids)
orderly_ended before after ids note h held began ended a = orderly_after before after ids note h held began ended a.drawn a.live a.latest

-- ---- a note is kept

pub orderly_marked : (board : BoardView) (ids : List ℕ) (p : BoardNote) → IsOrderly board ids → find is_unkept board.latest ≡ Some p
    → IsOrderly (record board { latest = mark_first p.note.id board.latest }) ids
orderly_marked board ids p h found = record {
  live = h.live;
  few = h.few;
  long = let long = length-mark_first p.note.id board.latest in let was = h.long in omega arith;
  once = λ id. let once = h.once id in let same = notes-mark_first id p.note.id board.latest in omega arith;
  within = λ id past. let none = h.within id past in let same = notes-mark_first id p.note.id board.latest in omega arith;
  moments = moments-mark_first p.note.id board.latest h.moments;
  in_order = order-marked board.latest p found h.in_order;
}

-- ---- the oldest pending note

pub oldest_of : (o : Option BoardNote) (note : SessionNote) → Some note ≡ option_map (λ n. n.note) o → (p : BoardNote) × (o ≡ Some p) × (p.note ≡ note)
oldest_of None note e = absurd (cc e)
oldest_of (Some p) note e = (p, refl, cc e)

pub none_of : (o : Option BoardNote) → None ≡ option_map (λ n. n.note) o → o ≡ None
none_of None e = refl
none_of (Some p) e = absurd (cc e)

id_fits : (board : BoardView) (ids : List ℕ) (p : BoardNote) → IsOrderly board ids → find is_unkept board.latest ≡ Some p → p.note.id ≤ 2 ^ 63 - 1
id_fits board ids p h found = elim (cases_lt (2 ^ 63 - 1) p.note.id) [
  | inl past ↦ (
      let none = h.within p.note.id (omega arith) in
      let used = pending_used board.latest p found in
      absurd (omega arith))
  | inr fits ↦ fits
]

-- a keeper can be asked to put it
pub record Fits (note : SessionNote) : Type 0 where
  pub id : note.id ≤ 2 ^ 63 - 1
  pub began : note.began ≤ 2 ^ 63 - 1
  pub ended : note.ended ≤ 2 ^ 63 - 1

pub fits : (board : BoardView) (ids : List ℕ) (note : SessionNote) → IsOrderly board ids → Some note ≡ option_map (λ n. n.note) (find is_unkept board.latest) → Fits note
fits board ids note h e =
    let (p, found, same) = oldest_of (find is_unkept board.latest) note e in
    let moments = pending_moments board.latest p found h.moments in
    subst Fits same (record { id = id_fits board ids p h found; began = moments.0; ended = moments.1 })

pub orderly_kept : (board after : BoardView) (ids : List ℕ) (note : SessionNote) → IsOrderly board ids → Some note ≡ option_map (λ n. n.note) (find is_unkept board.latest)
    → after ≡ record board { latest = mark_first note.id board.latest } → IsOrderly after ids
orderly_kept board after ids note h e is =
    let (p, found, same) = oldest_of (find is_unkept board.latest) note e in
    let marked = orderly_marked board ids p h found in
    subst (λ b. IsOrderly b ids) (sym is) (subst (λ n. IsOrderly (record board { latest = mark_first n.id board.latest }) ids) same marked)

-- ---- the same, as a session begins

pub orderly_begun : (board drawn after : BoardView) (ids ids' : List ℕ) (id : ℕ) → IsOrderly board ids → length ids < 32
    → board.drawn < 2 ^ 63 - 1 → id ≡ board.drawn + 1 → drawn ≡ record board { drawn = id } → after ≡ record drawn { live = drawn.live + 1 } → ids' ≡ ids ++ id ∷ []
    → IsOrderly after ids'
orderly_begun board drawn after ids ids' id h room below next was is more =
    let whole : after ≡ record board { drawn = board.drawn + 1; live = board.live + 1 } =
    is ∙ ap {A = BoardView} (λ b. record b { live = b.live + 1 }) was ∙ ap {A = ℕ} (λ i. record board { drawn = i; live = board.live + 1 }) next in
    subst (λ b. IsOrderly b ids') (sym whole)
    (subst (λ l. IsOrderly (record board { drawn = board.drawn + 1; live = board.live + 1 }) l) (sym (more ∙ ap (λ i. ids ++ i ∷ []) next)) (orderly_began board ids h room below))

-- the id of a live session can be kept
pub id_held : (board : BoardView) (ids : List ℕ) (id : ℕ) → IsOrderly board ids → Holds id ids → id ≤ 2 ^ 63 - 1
id_held board ids id h held = elim (cases_lt (2 ^ 63 - 1) id) [
  | inl past ↦ (
      let none = h.within id (omega arith) in
      let used = held_counts id ids held in
      absurd (omega arith))
  | inr within ↦ within
]
