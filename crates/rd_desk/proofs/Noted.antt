-- What sessions leave on a desk.
use Rattle.std.proofs.Common.{inl, inr, ◌≡◌, ℕ, ◌+◌, ◌-◌, ◌⊎◌, Bool, true, false, cond, not, List, [], ◌∷◌, ◌++◌, length, Some, None, refl, sym, ap, ◌∙◌, subst, arith}
use Rattle.std.specs.Prelude.{Option, IfSome, map, filter, fold, count_by}
use Rattle.std.specs.List.{list_any}
use Rattle.std.proofs.lemmas.List.{map-append, append-nil, take-append-drop, length-map}
use Rattle.std.proofs.lemmas.List.Sums.{fold_push, fold-append, sum_by_push, sum_by-cons, length-filter}
use Rattle.rd_base.specs.Outside.{Rose}
use Rattle.rd_base.specs.declared.session_note.SessionNote.{SessionNote}
use Rattle.rd_board.specs.declared.latest.BoardNote.{BoardNote}
use Rattle.rd_board.specs.Notes.{fresh, has_id, is_unkept, latest, before_latest, mark_first}
use Rattle.rd_board.specs.Calls.{Call, Began, Noted, MarkedKept, is_began, accepted_with, accepted, begun}
use Rattle.rd_board.specs.Board.{Accepts}
use Rattle.rd_keeper.specs.Keeping.{KeeperTold}
use Rattle.rd_desk.specs.Desk.{DeskView, Start, IsAt, Begins, Keeps, FollowsWith, pending, kept_notes}
use Rattle.rd_desk.specs.Noted.{HasNoted, Adds, AddsNone, EndsKept}
use Rattle.rd_desk.proofs.Notes.{kept_notes-append, notes-mark_first}

accepted-more : (calls : List Call) (call : Call) → accepted (calls ++ call ∷ []) ≡ accepted_with (accepted calls) call
accepted-more calls call = fold_push accepted_with [] calls call

-- ---- a session begins

pub begun_adds : (before after : DeskView) (id : Option ℕ) → Begins before id after → IfSome id (λ n. FollowsWith (Began ∷ []) before after) → AddsNone before after
begun_adds before after None begins follows start notes keeper has = subst (λ d. HasNoted start notes d keeper) (sym begins.1) has
begun_adds before after (Some n) begins follows start notes keeper has = record {
  calls = has.calls ++ Began ∷ [];
  at = follows start has.calls keeper has.at;
  are = ap (map (λ n. n.note)) (accepted-more has.calls Began) ∙ has.are;
}

-- ---- a session ends

one_longer : (had all : List BoardNote) (n : BoardNote) (b : Bool) → all ≡ cond b had (had ++ n ∷ []) → length all ≡ length had + 1 → all ≡ had ++ n ∷ []
one_longer had all n true is more = let same : length all ≡ length had = ap length is in absurd (omega arith)
one_longer had all n false is more = is

pub ended_adds : (before after : DeskView) (note : SessionNote) → Accepts before.board note after.board → FollowsWith (Noted note ∷ []) before after → Adds (note ∷ []) before after
ended_adds before after note accepts follows start notes keeper has =
    let at = follows start has.calls keeper has.at in
    let live = has.at.board.live in
    let now = at.board.live in
    let less = accepts.live in
    let began : begun (has.calls ++ Noted note ∷ []) ≡ begun has.calls + 0 = sum_by_push (λ c. cond (is_began c) 1 0) has.calls (Noted note) in
    let all : accepted (has.calls ++ Noted note ∷ []) ≡ accepted has.calls ++ fresh note ∷ [] =
    one_longer (accepted has.calls) (accepted (has.calls ++ Noted note ∷ [])) (fresh note) (list_any (has_id note.id) (latest (accepted has.calls))) (accepted-more has.calls (Noted note)) (omega arith) in
    record {
      calls = has.calls ++ Noted note ∷ [];
      at = at;
      are = ap (map (λ n. n.note)) all ∙ map-append (λ n. n.note) (accepted has.calls) (fresh note ∷ []) ∙ ap (λ l. l ++ note ∷ []) has.are;
    }

pub adds_nothing : (desk : DeskView) → Adds [] desk desk
adds_nothing desk start notes keeper has = subst (λ l. HasNoted start l desk keeper) (sym (append-nil notes)) has

-- ---- notes are put

marked_same : (had : List BoardNote) (id : ℕ) → map (λ n. n.note) (accepted_with had (MarkedKept id)) ≡ map (λ n. n.note) had
marked_same had id =
    map-append (λ n. n.note) (before_latest had) (mark_first id (latest had))
    ∙ ap (λ l. map (λ n. n.note) (before_latest had) ++ l) (notes-mark_first id (latest had))
    ∙ sym (map-append (λ n. n.note) (before_latest had) (latest had))
    ∙ ap (map (λ n. n.note)) (take-append-drop (length had - 10000) had)

all_marked : (had : List BoardNote) (puts : List SessionNote) → map (λ n. n.note) (fold accepted_with had (map (λ n. MarkedKept n.id) puts)) ≡ map (λ n. n.note) had
all_marked had [] = refl
all_marked had (n ∷ puts) = all_marked (accepted_with had (MarkedKept n.id)) puts ∙ marked_same had n.id

pub keeps_noted : (most : ℕ) (before after : DeskView) (keeper keeper_after : KeeperTold) → Keeps most before after keeper keeper_after
    → (start : Start) (notes : List SessionNote) → HasNoted start notes before keeper → HasNoted start notes after keeper_after
keeps_noted most before after keeper keeper_after keeps start notes has = record {
  calls = has.calls ++ map (λ n. MarkedKept n.id) keeps.puts;
  at = keeps.at start has.calls has.at;
  are = ap (map (λ n. n.note)) (fold-append accepted_with [] has.calls (map (λ n. MarkedKept n.id) keeps.puts)) ∙ all_marked (accepted has.calls) keeps.puts ∙ has.are;
}

-- a desk as it is opened
pub opens_noted : (start : Start) (desk : DeskView) (keeper : KeeperTold) → IsAt start [] desk keeper → HasNoted start [] desk keeper
opens_noted start desk keeper at = record { calls = []; at = at; are = refl }

-- ---- the end

kept_all : (ns : List BoardNote) → count_by is_unkept ns ≡ 0 → kept_notes ns ≡ map (λ n. n.note) ns
kept_all [] none = refl
kept_all (n ∷ ns) none = go n.is_kept refl (sum_by-cons (λ m. cond (is_unkept m) 1 0) n ns) (kept_all ns)
  where
    go : (k : Bool) → n.is_kept ≡ k → count_by is_unkept (n ∷ ns) ≡ cond (not k) 1 0 + count_by is_unkept ns
        → (count_by is_unkept ns ≡ 0 → kept_notes ns ≡ map (λ n. n.note) ns)
        → map (λ n. n.note) (cond k (n ∷ filter (λ n. n.is_kept) ns) (filter (λ n. n.is_kept) ns)) ≡ n.note ∷ map (λ n. n.note) ns
    go true is count rest = ap (λ l. n.note ∷ l) (rest (omega arith))
    go false is count rest = absurd (omega arith)

none_pending : (ns : List BoardNote) → pending ns ≡ [] → count_by is_unkept ns ≡ 0
none_pending ns none =
    let one = length-map (filter is_unkept ns) (λ n. n.note) in
    let two = length-filter is_unkept ns in
    let three : length (pending ns) ≡ 0 = ap length none in
    omega arith

pub ends_kept : (start : Start) (notes : List SessionNote) (desk : DeskView) (keeper : KeeperTold) → HasNoted start notes desk keeper
    → pending desk.board.latest ≡ [] → (desk.board.unkept ≡ 0) ⊎ (desk.had_fault ≡ true) → EndsKept start notes keeper
ends_kept start notes desk keeper has none unkept =
    let last : pending (latest (accepted has.calls)) ≡ [] = ap pending (sym has.at.board.latest) ∙ none in
    record {
      marked = accepted has.calls;
      are = has.are;
      kept = has.at.notes;
      last = last;
      all = go last unkept;
    }
  where
    go : pending (latest (accepted has.calls)) ≡ [] → (desk.board.unkept ≡ 0) ⊎ (desk.had_fault ≡ true)
        → (kept_notes (accepted has.calls) ≡ notes) ⊎ Rose start.keeper.faults keeper.faults
    go last (inr fault) = inr (has.at.had_fault fault)
    go last (inl zero) =
        let early = has.at.board.unkept in
        inl (ap kept_notes (sym (take-append-drop (length (accepted has.calls) - 10000) (accepted has.calls)))
        ∙ kept_notes-append (before_latest (accepted has.calls)) (latest (accepted has.calls))
        ∙ ap (λ l. l ++ kept_notes (latest (accepted has.calls))) (kept_all (before_latest (accepted has.calls)) (omega arith))
        ∙ ap (λ l. map (λ n. n.note) (before_latest (accepted has.calls)) ++ l) (kept_all (latest (accepted has.calls)) (none_pending (latest (accepted has.calls)) last))
        ∙ sym (map-append (λ n. n.note) (before_latest (accepted has.calls)) (latest (accepted has.calls)))
        ∙ ap (map (λ n. n.note)) (take-append-drop (length (accepted has.calls) - 10000) (accepted has.calls))
        ∙ has.are)
