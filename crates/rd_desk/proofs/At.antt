-- What the calls of a desk come to.
use Rattle.std.proofs.Common.{inl, inr, ◌≡◌, ℕ, ◌+◌, ◌-◌, ◌^◌, ◌≤◌, ◌⊎◌, Bool, true, false, cond, List, [], ◌∷◌, ◌++◌, length, Some, None, refl, sym, ap, ◌∙◌, subst, arith, length-append}
use Rattle.std.specs.Prelude.{Option, option_map, map, filter, fold, find}
use Rattle.std.specs.List.{list_any}
use Rattle.std.proofs.lemmas.Bool.{cases_lt}
use Rattle.std.proofs.lemmas.List.{map-append, append_assoc, append-nil, take-append-drop, length-map}
use Rattle.std.proofs.lemmas.List.Sums.{fold_push, fold-append, sum_by_push, length-filter, count_by-le-length}
use Rattle.rd_base.specs.Outside.{Rose}
use Rattle.rd_base.specs.declared.session_note.SessionNote.{SessionNote}
use Rattle.rd_board.specs.declared.latest.BoardNote.{BoardNote}
use Rattle.rd_board.specs.Notes.{fresh, has_id, is_unkept, latest, before_latest, mark_first}
use Rattle.rd_board.specs.Calls.{Call, Began, Noted, MarkedKept, is_began, accepted_with, accepted, begun}
use Rattle.rd_board.specs.Board.{BoardView, IsAfter, Accepts}
use Rattle.rd_board.proofs.Calls.{after_began, after_accepted, after_marked}
use Rattle.rd_keeper.specs.Keeping.{KeeperTold}
use Rattle.rd_keeper.specs.Notes.{with_note}
use Rattle.rd_desk.specs.Desk.{DeskView, Start, IsAt, Keeps, IsOrderly, AreInOrder, pending, kept_notes, with_session}
use Rattle.rd_desk.proofs.Orderly.{oldest_of}
use Rattle.rd_desk.proofs.Notes.{kept_notes-append, kept-marked, pending-marked, notes-mark_first}

-- ---- counts

pub rose_later : (a b c : ℕ) → a ≤ b → b ≤ c → Rose a b → Rose a c
rose_later a b c le more (inl lt) = inl (omega arith)
rose_later a b c le more (inr last) = elim (cases_lt (2 ^ 64 - 1) c) [ inl lt ↦ inl (omega arith) | inr ge ↦ inr (omega arith) ]

pub rose_sooner : (a b c : ℕ) → a ≤ b → Rose b c → Rose a c
rose_sooner a b c le (inl lt) = inl (omega arith)
rose_sooner a b c le (inr last) = inr last

accepted-call : (calls : List Call) (call : Call) → accepted (calls ++ call ∷ []) ≡ accepted_with (accepted calls) call
accepted-call calls call = fold_push accepted_with [] calls call

begun-call : (calls : List Call) (call : Call) → begun (calls ++ call ∷ []) ≡ begun calls + cond (is_began call) 1 0
begun-call calls call = sum_by_push (λ c. cond (is_began c) 1 0) calls call

-- ---- a session begins

pub at_began : (start : Start) (calls : List Call) (before : DeskView) (keeper : KeeperTold) (id : ℕ) → id ≡ before.board.drawn + 1
    → IsAt start calls before keeper → IsAt start (calls ++ Began ∷ []) (with_session before id) keeper
at_began start calls before keeper id next h =
    let mid : BoardView = record before.board { drawn = id } in
    let was : IsAfter mid calls = record { live = h.board.live; sessions = h.board.sessions; exchanges = h.board.exchanges; masked = h.board.masked; unkept = h.board.unkept; latest = h.board.latest } in
    let more = begun-call calls Began in
    let drawn = h.drawn in
    record {
      board = after_began mid calls was;
      drawn = omega arith;
      notes = h.notes ∙ ap (λ l. option_map (λ ns. fold with_note ns (kept_notes l)) start.keeper.notes) (sym (accepted-call calls Began));
      faults = h.faults;
      had_fault = h.had_fault;
    }

-- ---- a session ends

pub at_ended : (start : Start) (calls : List Call) (before after : DeskView) (keeper : KeeperTold) (note : SessionNote)
    → list_any (has_id note.id) before.board.latest ≡ false → Accepts before.board note after.board → after.had_fault ≡ before.had_fault
    → IsAt start calls before keeper → IsAt start (calls ++ Noted note ∷ []) after keeper
at_ended start calls before after keeper note new a fault h =
    let is_new = ap (list_any (has_id note.id)) (sym h.board.latest) ∙ new in
    let more : accepted (calls ++ Noted note ∷ []) ≡ accepted calls ++ fresh note ∷ [] = accepted-call calls (Noted note) ∙ ap (λ t. cond t (accepted calls) (accepted calls ++ fresh note ∷ [])) is_new in
    let same : kept_notes (accepted (calls ++ Noted note ∷ [])) ≡ kept_notes (accepted calls) = ap kept_notes more ∙ kept_notes-append (accepted calls) (fresh note ∷ []) ∙ append-nil (kept_notes (accepted calls)) in
    let none = begun-call calls (Noted note) in
    let drawn = h.drawn in
    let still = a.drawn in
    record {
      board = after_accepted before.board after.board note calls new a h.board;
      drawn = omega arith;
      notes = h.notes ∙ ap (λ l. option_map (λ ns. fold with_note ns l) start.keeper.notes) (sym same);
      faults = h.faults;
      had_fault = λ is. h.had_fault (sym fault ∙ is);
    }

-- ---- a note is put

-- notes are put, and then one more
put_more : (kept : Option (List SessionNote)) (notes : List SessionNote) (note : SessionNote)
    → option_map (λ ns. with_note ns note) (option_map (λ ns. fold with_note ns notes) kept) ≡ option_map (λ ns. fold with_note ns (notes ++ note ∷ [])) kept
put_more None notes note = refl
put_more (Some ns) notes note = ap Some (sym (fold_push with_note ns notes note))

-- of all notes so far, those that are kept are one more
kept_more : (calls : List Call) (p : BoardNote) → find is_unkept (latest (accepted calls)) ≡ Some p → AreInOrder (latest (accepted calls))
    → kept_notes (accepted (calls ++ MarkedKept p.note.id ∷ [])) ≡ kept_notes (accepted calls) ++ p.note ∷ []
kept_more calls p found order =
    let old = before_latest (accepted calls) in
    let last = latest (accepted calls) in
    ap kept_notes (accepted-call calls (MarkedKept p.note.id))
    ∙ kept_notes-append (before_latest (accepted calls)) (mark_first p.note.id (latest (accepted calls)))
    ∙ ap (λ l. kept_notes (before_latest (accepted calls)) ++ l) (kept-marked (latest (accepted calls)) p found order)
    ∙ sym (append_assoc (kept_notes (before_latest (accepted calls))) (kept_notes (latest (accepted calls))) (p.note ∷ []))
    ∙ ap (λ l. l ++ p.note ∷ []) (sym (kept_notes-append (before_latest (accepted calls)) (latest (accepted calls))) ∙ ap kept_notes (take-append-drop (length (accepted calls) - 10000) (accepted calls)))

abbrev pub with_kept : DeskView → ℕ → DeskView
with_kept desk id = record desk { board = record desk.board { latest = mark_first id desk.board.latest } }

at_put : (start : Start) (calls : List Call) (before : DeskView) (keeper keeper_after : KeeperTold) (p : BoardNote)
    → find is_unkept before.board.latest ≡ Some p → AreInOrder before.board.latest
    → keeper_after.notes ≡ option_map (λ ns. with_note ns p.note) keeper.notes → keeper.faults ≤ keeper_after.faults
    → IsAt start calls before keeper → IsAt start (calls ++ MarkedKept p.note.id ∷ []) (with_kept before p.note.id) keeper_after
at_put start calls before keeper keeper_after p found order put le h =
    let last = h.board.latest in
    let more = kept_more calls p (ap (find is_unkept) (sym last) ∙ found) (subst AreInOrder last order) in
    let none = begun-call calls (MarkedKept p.note.id) in
    let drawn = h.drawn in
    let faults = h.faults in
    record {
      board = after_marked before.board p.note.id calls h.board;
      drawn = omega arith;
      notes = put ∙ ap (option_map (λ ns. with_note ns p.note)) h.notes ∙ put_more start.keeper.notes (kept_notes (accepted calls)) p.note ∙ ap (λ l. option_map (λ ns. fold with_note ns l) start.keeper.notes) (sym more);
      faults = omega arith;
      had_fault = λ is. rose_later start.keeper.faults keeper.faults keeper_after.faults h.faults le (h.had_fault is);
    }

-- the keeper kept what it kept, and a put may have been Failed
pub at_still : (start : Start) (calls : List Call) (before after : DeskView) (keeper keeper_after : KeeperTold)
    → after.board ≡ before.board → keeper_after.notes ≡ keeper.notes → keeper.faults ≤ keeper_after.faults
    → (after.had_fault ≡ true → (before.had_fault ≡ true) ⊎ Rose keeper.faults keeper_after.faults)
    → IsAt start calls before keeper → IsAt start calls after keeper_after
at_still start calls before after keeper keeper_after board notes le fault h = record {
  board = subst (λ b. IsAfter b calls) (sym board) h.board;
  drawn = ap (λ b. b.drawn) board ∙ h.drawn;
  notes = notes ∙ h.notes;
  faults = let faults = h.faults in omega arith;
  had_fault = λ is. elim (fault is) [
    | inl was ↦ rose_later start.keeper.faults keeper.faults keeper_after.faults h.faults le (h.had_fault was)
    | inr rose ↦ rose_sooner start.keeper.faults keeper.faults keeper_after.faults h.faults rose
  ];
}

-- ---- some are put

fold_none : (kept : Option (List SessionNote)) → kept ≡ option_map (λ ns. fold with_note ns []) kept
fold_none None = refl
fold_none (Some ns) = refl

pub keeps_none : (most : ℕ) (before after : DeskView) (keeper keeper_after : KeeperTold)
    → after.board ≡ before.board → after.ids ≡ before.ids → keeper_after.notes ≡ keeper.notes → keeper.faults ≤ keeper_after.faults
    → (after.had_fault ≡ true → (before.had_fault ≡ true) ⊎ Rose keeper.faults keeper_after.faults)
    → (before.had_fault ≡ true → after.had_fault ≡ true)
    → Keeps most before after keeper keeper_after
keeps_none most before after keeper keeper_after board ids notes le fault stays = record {
  puts = [];
  few = omega arith;
  oldest = ap (λ b. pending b.latest) board;
  board = board ∙ ap (λ l. record before.board { latest = l }) (sym (ap (λ b. b.latest) board));
  notes = ap (λ b. map (λ n. n.note) b.latest) board;
  ids = ids;
  had_fault = stays;
  kept = notes ∙ fold_none keeper.notes;
  faults = le;
  at = λ start calls h. subst (λ l. IsAt start l after keeper_after) (sym (append-nil calls)) (at_still start calls before after keeper keeper_after board notes le fault h);
}

pub keeps_one : (before after : DeskView) (keeper keeper_after : KeeperTold) (p : BoardNote)
    → after ≡ with_kept before p.note.id → find is_unkept before.board.latest ≡ Some p → AreInOrder before.board.latest
    → keeper_after.notes ≡ option_map (λ ns. with_note ns p.note) keeper.notes → keeper.faults ≤ keeper_after.faults
    → Keeps 1 before after keeper keeper_after
keeps_one before after keeper keeper_after p is found order put le = record {
  puts = p.note ∷ [];
  few = omega arith;
  oldest = ap (λ d. p.note ∷ pending d.board.latest) is ∙ sym (pending-marked before.board.latest p found);
  board = ap (λ d. d.board) is ∙ ap (λ l. record before.board { latest = l }) (sym (ap (λ d. d.board.latest) is));
  notes = ap (λ d. map (λ n. n.note) d.board.latest) is ∙ notes-mark_first p.note.id before.board.latest;
  ids = ap (λ d. d.ids) is;
  had_fault = λ was. ap (λ d. d.had_fault) is ∙ was;
  kept = put;
  faults = le;
  at = λ start calls h. subst (λ d. IsAt start (calls ++ MarkedKept p.note.id ∷ []) d keeper_after) (sym is) (at_put start calls before keeper keeper_after p found order put le h);
}

fold_both : (kept : Option (List SessionNote)) (first more : List SessionNote)
    → option_map (λ ns. fold with_note ns more) (option_map (λ ns. fold with_note ns first) kept) ≡ option_map (λ ns. fold with_note ns (first ++ more)) kept
fold_both None first more = refl
fold_both (Some ns) first more = ap Some (sym (fold-append with_note ns first more))

pub keeps_then : (most a b : ℕ) (x y z : DeskView) (k l m : KeeperTold) → a + b ≤ most → Keeps a x y k l → Keeps b y z l m → Keeps most x z k m
keeps_then most a b x y z k l m le f g = record {
  puts = f.puts ++ g.puts;
  few = let both = length-append f.puts g.puts in let one = f.few in let two = g.few in omega arith;
  oldest = append_assoc f.puts g.puts (pending z.board.latest) ∙ ap (λ l. f.puts ++ l) g.oldest ∙ f.oldest;
  board = g.board ∙ ap {A = BoardView} (λ v. record v { latest = z.board.latest }) f.board;
  notes = g.notes ∙ f.notes;
  ids = g.ids ∙ f.ids;
  had_fault = λ was. g.had_fault (f.had_fault was);
  kept = g.kept ∙ ap (option_map (λ ns. fold with_note ns g.puts)) f.kept ∙ fold_both k.notes f.puts g.puts;
  faults = let one = f.faults in let two = g.faults in omega arith;
  at = λ start calls h. subst (λ l. IsAt start l z m)
      (append_assoc calls (map (λ n. MarkedKept n.id) f.puts) (map (λ n. MarkedKept n.id) g.puts) ∙ ap (λ l. calls ++ l) (sym (map-append (λ n. MarkedKept n.id) f.puts g.puts)))
      (g.at start (calls ++ map (λ n. MarkedKept n.id) f.puts) (f.at start calls h));
}

-- ---- one put, by the keeper's answer

pub put_one : (before after : DeskView) (ids : List ℕ) (note : SessionNote) (keeper keeper_after : KeeperTold)
    → after ≡ with_kept before note.id → IsOrderly before.board ids → Some note ≡ option_map (λ n. n.note) (find is_unkept before.board.latest)
    → keeper_after.notes ≡ option_map (λ ns. with_note ns note) keeper.notes → keeper.faults ≤ keeper_after.faults
    → Keeps 1 before after keeper keeper_after
put_one before after ids note keeper keeper_after is h e put le =
    let (p, found, same) = oldest_of (find is_unkept before.board.latest) note e in
    keeps_one before after keeper keeper_after p
    (is ∙ ap (λ n. with_kept before n.id) (sym same)) found h.in_order (put ∙ ap (λ n. option_map (λ ns. with_note ns n) keeper.notes) (sym same)) le

-- one note fewer is pending
pub one_fewer : (board after : BoardView) (note : SessionNote) → Some note ≡ option_map (λ n. n.note) (find is_unkept board.latest)
    → after ≡ record board { latest = mark_first note.id board.latest } → 1 + length (pending after.latest) ≡ length (pending board.latest)
one_fewer board after note e is =
    let (p, found, same) = oldest_of (find is_unkept board.latest) note e in
    let less = ap length (pending-marked board.latest p found) in
    let now : length (pending after.latest) ≡ length (pending (mark_first p.note.id board.latest)) = ap (λ b. length (pending b.latest)) is ∙ ap (λ n. length (pending (mark_first n.id board.latest))) (sym same) in
    omega arith

-- no more are pending than a board keeps
pub pending_few : (notes : List BoardNote) → length (pending notes) ≤ length notes
pending_few notes =
    let one = length-map (filter is_unkept notes) (λ n. n.note) in
    let two = length-filter is_unkept notes in
    let three = count_by-le-length is_unkept notes in
    omega arith

pub same_length : (notes notes' : List BoardNote) → map (λ n. n.note) notes' ≡ map (λ n. n.note) notes → length notes' ≡ length notes
same_length notes notes' same = sym (length-map notes' (λ n. n.note)) ∙ ap length same ∙ length-map notes (λ n. n.note)

pub no_notes : (notes : List SessionNote) → length notes ≡ 0 → notes ≡ []
no_notes [] none = refl
no_notes (n ∷ ns) none = absurd (omega arith)

pub put_done : (board board' : BoardView) (ids : List ℕ) (fault : Bool) (before : DeskView) (note : SessionNote) (keeper keeper_after : KeeperTold)
    → record { board = board; ids = ids; had_fault = fault } ≡ before → board' ≡ record board { latest = mark_first note.id board.latest }
    → IsOrderly board ids → Some note ≡ option_map (λ n. n.note) (find is_unkept board.latest)
    → keeper_after.notes ≡ option_map (λ ns. with_note ns note) keeper.notes → keeper.faults ≤ keeper_after.faults
    → Keeps 1 before (record { board = board'; ids = ids; had_fault = fault }) keeper keeper_after
put_done board board' ids fault before note keeper keeper_after view is h e put le =
    subst (λ d. Keeps 1 d (record { board = board'; ids = ids; had_fault = fault }) keeper keeper_after) view
    (put_one (record { board = board; ids = ids; had_fault = fault }) (record { board = board'; ids = ids; had_fault = fault }) ids note keeper keeper_after
    (ap {A = BoardView} {B = DeskView} (λ b. record { board = b; ids = ids; had_fault = fault }) is) h e put le)

-- where as many were put as a board keeps, none is pending
pub none_left : (before after : DeskView) (keeper keeper_after : KeeperTold) → Keeps 10000 before after keeper keeper_after → length after.board.latest ≤ 10000
    → (pending after.board.latest ≡ []) ⊎ (10000 + length (pending after.board.latest) ≡ length (pending before.board.latest))
    → pending after.board.latest ≡ []
none_left before after keeper keeper_after keeps long (inl none) = none
none_left before after keeper keeper_after keeps long (inr all) =
    let few = pending_few before.board.latest in
    let same = same_length before.board.latest after.board.latest keeps.notes in
    no_notes (pending after.board.latest) (omega arith)
