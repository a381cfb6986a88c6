-- The desk's notes beside what the doors and the clock tell.
use Rattle.std.proofs.Common.{inl, inr, ◌≡◌, ◌⊎◌, true, ℕ, suc, ◌+◌, ◌-◌, ◌^◌, ◌<◌, ◌≤◌, min, max, List, [], ◌∷◌, ◌++◌, length, Some, None, refl, sym, ap, ◌∙◌, subst, arith}
use Rattle.std.specs.Prelude.{Option, map, option_map, option_to_list, Result, Ok, Err, OnOk, nat_lt, if◌then◌else◌}
use Rattle.std.proofs.lemmas.Bool.{cases_lt, lt-ltb, le-ltb}
use Rattle.std.proofs.lemmas.List.{append_assoc, append-nil, length-map}
use Rattle.rd_base.specs.Clocks.{ClockTold}
use Rattle.rd_base.specs.Outside.{SinkTold}
use Rattle.rd_base.specs.Sources.{SourceTold}
use Rattle.rd_base.specs.declared.session_note.OperatorEnd.{OperatorEnd}
use Rattle.rd_base.specs.declared.session_note.SessionNote.{SessionNote}
use Rattle.rd_base.specs.declared.values.Side.{Side}
use Rattle.rd_doors.specs.Visits.{EndsTold, RunTold, Entry, Gave, GaveOperator, CameBack, TurnedAway, CameFromOperator, Holds, entries_with, out_of}
use Rattle.rd_doors.specs.Calls.{DoorsTold}
use Rattle.rd_keeper.specs.Keeping.{KeeperTold}
use Rattle.rd_desk.specs.declared.session.Begun.{Begun}
use Rattle.rd_desk.specs.Desk.{DeskView, Start, IsAt, Begins, Keeps, pending}
use Rattle.rd_desk.specs.Noted.{HasNoted, Adds, AddsNone, StillUnkept}
use Rattle.rd_desk.specs.Notes.{note_of, dialect_number}
use Rattle.rd_desk.proofs.At.{at_still}
use Rattle.rd_desk.proofs.Noted.{keeps_noted, opens_noted, ends_kept}
use Rattle.rd_board.specs.Calls.{accepted}
use Rattle.rd_operator.specs.Calls.{Operates}
use Rattle.rd_operator.specs.Replies.{StaysKept}
use Rattle.rd_runner.specs.Runs.{Setup}
use Rattle.rd_runner.specs.declared.session.Summary.{Summary}
use Rattle.rd_run_session.specs.declared.left.SessionLeft.{SessionLeft}
use Rattle.rd_run_session.specs.Dialects.{dialect_on}
use Rattle.rd_run_session.specs.Left.{summary_of}
use Rattle.rd_serve.specs.Notes.{visits, turned, runs, IsPlaced, Pairs, IsLeftBy, HasIds, AreNotesOf, InOrder, id_at, noted}
use Rattle.rd_serve.specs.Operators.{IsRightAnswer, EachAnswered, AllAnswered, NotesAndAnswers, asked_for, answered}
use Rattle.rd_serve.specs.Noting.{HasId, IsBegun, IsNext, AreNoted, last_drawn}
use Rattle.rd_serve.specs.Sessions.{KeepsTold}
use Rattle.rd_serve.proofs.Telling.{told_more, has_last, out_from_more}
use Rattle.rd_serve.proofs.Visits.{visits-append, turned-append, runs-append, asked_for-append, answered-append, ids_before, placed_more, placed_within, holds_more, order_more, order_last, id_none, id_some, pairs_kept, pairs_snoc, noted-snoc}

-- what a session leaves that has this id, or none
abbrev left_by : Side → ℕ → ℕ → ℕ → Summary → Option ℕ → Option SessionNote
left_by side dialect began ended summary id = option_map (λ i. note_of i side dialect began ended summary) id

-- what the session leaves that began so and came to this run
abbrev left_run : {R : Type 0} → Setup → Begun → Side → ℕ → RunTold (SessionLeft R) → Option SessionNote
left_run setup begun side ended run = left_by side (dialect_number (dialect_on side setup)) begun.at ended (summary_of run.left.report) begun.id

-- ---- a session's id, and when it began

pub begun_kept : {L : Type 0} (start : Start) (d d' : DoorsTold L) (asked more : List ℕ) (begun : Begun) (side : Side) (ends : EndsTold) → KeepsTold d d' → IsBegun start d asked begun side ends → IsBegun start d' (asked ++ more) begun side ends
begun_kept start d d' asked more begun side ends keeps is = record {
  id = λ t told.
      let goes = keeps t told in
      let had = is.id goes.was goes.had in
      record {
        place = had.place;
        is = had.is;
        placed = subst (IsPlaced had.place side ends) goes.is (placed_more had.place side ends goes.was goes.more had.placed);
      };
  at = holds_more begun.at asked more is.at;
}

pub next_kept : {L : Type 0} (d d' : DoorsTold L) (count : ℕ) (side : Side) (ends : EndsTold) → KeepsTold d d' → IsNext d count side ends → IsNext d' count side ends
next_kept d d' count side ends keeps next t told =
    let goes = keeps t told in
    subst (IsPlaced (count + 1) side ends) goes.is (placed_more (count + 1) side ends goes.was goes.more (next goes.was goes.had))

-- ---- the next id

next_drawn : (start : Start) (count : ℕ) (desk desk' : DeskView) (id : Option ℕ) → Begins desk id desk' → desk.board.drawn ≡ last_drawn start.greatest count → desk'.board.drawn ≡ last_drawn start.greatest (count + 1)
next_drawn start count desk desk' None begins drawn =
    let last = begins.0 in
    let now : desk'.board.drawn ≡ desk.board.drawn = ap (λ (v : DeskView). v.board.drawn) begins.1 in
    omega arith
next_drawn start count desk desk' (Some i) begins drawn =
    let less = begins.0 in
    let next = begins.1 in
    let now : desk'.board.drawn ≡ i = ap (λ (v : DeskView). v.board.drawn) begins.2 in
    omega arith

same_unkept : (desk desk' : DeskView) (id : Option ℕ) → Begins desk id desk' → desk'.board.unkept ≡ desk.board.unkept
same_unkept desk desk' None begins = ap (λ (v : DeskView). v.board.unkept) begins.1
same_unkept desk desk' (Some i) begins = ap (λ (v : DeskView). v.board.unkept) begins.2

next_id : (start : Start) (count : ℕ) (desk desk' : DeskView) (id : Option ℕ) → Begins desk id desk' → desk.board.drawn ≡ last_drawn start.greatest count → id ≡ id_at start.greatest (count + 1)
next_id start count desk desk' None begins drawn = let last = begins.0 in sym (id_none start.greatest (count + 1) (omega arith))
next_id start count desk desk' (Some i) begins drawn =
    let less = begins.0 in
    let next = begins.1 in
    let is : i ≡ start.greatest + (count + 1) = omega arith in
    ap Some is ∙ sym (id_some start.greatest (count + 1) (omega arith))

module _ {R : Type 0} (start : Start) (setup : Setup) where
  -- ---- notes of more that was told, and of more answers

  left_told : (asked : List ℕ) (t more : List (Entry (SessionLeft R))) (run : RunTold (SessionLeft R)) (left : Option SessionNote) → IsLeftBy setup start.greatest asked t run left → IsLeftBy setup start.greatest asked (t ++ more) run left
  left_told asked t more run left l = record {
    side = l.side;
    ends = l.ends;
    place = l.place;
    began = l.began;
    ended = l.ended;
    placed = placed_more l.place l.side l.ends t more l.placed;
    number = l.number;
    order = l.order;
    is = l.is;
  }

  left_asked : (asked more : List ℕ) (t : List (Entry (SessionLeft R))) (run : RunTold (SessionLeft R)) (left : Option SessionNote) → IsLeftBy setup start.greatest asked t run left → IsLeftBy setup start.greatest (asked ++ more) t run left
  left_asked asked more t run left l = record {
    side = l.side;
    ends = l.ends;
    place = l.place;
    began = l.began;
    ended = l.ended;
    placed = l.placed;
    number = l.number;
    order = order_more l.began l.ended asked more l.order;
    is = l.is;
  }

  pub notes_told : (asked : List ℕ) (t : List (Entry (SessionLeft R))) (e : Entry (SessionLeft R)) (notes : List SessionNote) → runs (e ∷ []) ≡ [] → AreNotesOf setup start asked t notes → AreNotesOf setup start asked (t ++ e ∷ []) notes
  notes_told asked t e notes none n = record {
    left = n.left;
    each =
        let same : runs (t ++ e ∷ []) ≡ runs t = runs-append t (e ∷ []) ∙ ap (λ l. runs t ++ l) none ∙ append-nil (runs t) in
        subst (λ rs. Pairs (IsLeftBy setup start.greatest asked (t ++ e ∷ [])) rs n.left) (sym same)
        (pairs_kept (IsLeftBy setup start.greatest asked t) (IsLeftBy setup start.greatest asked (t ++ e ∷ [])) (left_told asked t (e ∷ [])) (runs t) n.left n.each);
    are = n.are;
  }

  pub notes_asked : (asked more : List ℕ) (t : List (Entry (SessionLeft R))) (notes : List SessionNote) → AreNotesOf setup start asked t notes → AreNotesOf setup start (asked ++ more) t notes
  notes_asked asked more t notes n = record {
    left = n.left;
    each = pairs_kept (IsLeftBy setup start.greatest asked t) (IsLeftBy setup start.greatest (asked ++ more) t) (left_asked asked more t) (runs t) n.left n.each;
    are = n.are;
  }

  -- with an id for each visit each run has left a note
  all_left : (asked : List ℕ) (t : List (Entry (SessionLeft R))) (rs : List (RunTold (SessionLeft R))) (left : List (Option SessionNote)) → HasIds start t → Pairs (IsLeftBy setup start.greatest asked t) rs left → length (noted left) ≡ length rs
  all_left asked t [] [] ids each = refl
  all_left asked t [] (l ∷ left) ids each = absurd each
  all_left asked t (r ∷ rs) [] ids each = absurd each
  all_left asked t (r ∷ rs) (l ∷ left) ids each =
      let one = each.0 in
      let within = placed_within one.place one.side one.ends t one.placed in
      let is : l ≡ Some (note_of (start.greatest + one.place) one.side (dialect_number (dialect_on one.side setup)) one.began one.ended (summary_of r.left.report)) =
      one.is ∙ ap (left_by one.side (dialect_number (dialect_on one.side setup)) one.began one.ended (summary_of r.left.report)) (id_some start.greatest one.place (omega arith)) in
      let rest = all_left asked t rs left ids each.1 in
      let first : length (noted (l ∷ left)) ≡ suc (length (noted left)) = ap (λ o. length (option_to_list o ++ noted left)) is in
      omega arith

  notes_count : (asked : List ℕ) (t : List (Entry (SessionLeft R))) (notes : List SessionNote) → HasIds start t → AreNotesOf setup start asked t notes → length notes ≡ length (runs t)
  notes_count asked t notes ids n = sym (ap length n.are) ∙ all_left asked t (runs t) n.left ids n.each

  -- ---- operators that were answered

  right_kept : (asked more : List ℕ) (u u' : ℕ) → u ≤ u' → (before : List (Entry (SessionLeft R))) (e : Entry (SessionLeft R)) → IsRightAnswer setup start asked u before e → IsRightAnswer setup start (asked ++ more) u' before e
  right_kept asked more u u' most before (Gave side ends) right = tt
  right_kept asked more u u' most before (GaveOperator source sink) right = tt
  right_kept asked more u u' most before (CameBack run) right = tt
  right_kept asked more u u' most before (TurnedAway ends) right = tt
  right_kept asked more u u' most before (CameFromOperator source sink end) a = record {
    source_before = a.source_before;
    sink_before = a.sink_before;
    given = a.given;
    board = a.board;
    keeper = a.keeper;
    keeper_after = a.keeper_after;
    answers = a.answers;
    live = a.live;
    let_go = (let least = a.let_go in omega arith);
    marked = a.marked;
    are = notes_asked asked more before _ a.are;
    sessions = a.sessions;
    exchanges = a.exchanges;
    masked = a.masked;
    kept = a.kept;
  }

  each_kept : (asked more : List ℕ) (u u' : ℕ) → u ≤ u' → (before es : List (Entry (SessionLeft R))) → EachAnswered setup start asked u before es → EachAnswered setup start (asked ++ more) u' before es
  each_kept asked more u u' most before [] each = tt
  each_kept asked more u u' most before (e ∷ es) each = (right_kept asked more u u' most before e each.0, each_kept asked more u u' most (before ++ e ∷ []) es each.1)

  pub answers_kept : (asked more : List ℕ) (u u' : ℕ) (t : List (Entry (SessionLeft R))) → u ≤ u' → AllAnswered setup start asked u t → AllAnswered setup start (asked ++ more) u' t
  answers_kept asked more u u' t most all = record { each = each_kept asked more u u' most [] t all.each; all = all.all }

  answered_more : (asked : List ℕ) (u : ℕ) (before es : List (Entry (SessionLeft R))) (e : Entry (SessionLeft R)) → EachAnswered setup start asked u before es → IsRightAnswer setup start asked u (before ++ es) e → EachAnswered setup start asked u before (es ++ e ∷ [])
  answered_more asked u before [] e each right = (subst (λ b. IsRightAnswer setup start asked u b e) (append-nil before) right, tt)
  answered_more asked u before (x ∷ es) e each right =
      (each.0, answered_more asked u (before ++ x ∷ []) es e each.1 (subst (λ b. IsRightAnswer setup start asked u b e) (sym (append_assoc before (x ∷ []) es)) right))

  all_more : (asked : List ℕ) (u : ℕ) (t : List (Entry (SessionLeft R))) (e : Entry (SessionLeft R)) → AllAnswered setup start asked u t → IsRightAnswer setup start asked u t e → asked_for (e ∷ []) ≡ answered (e ∷ []) → AllAnswered setup start asked u (t ++ e ∷ [])
  all_more asked u t e all right even = record {
    each = answered_more asked u [] t e all.each right;
    all =
        let had = all.all in
        let one = asked_for-append t (e ∷ []) in
        let two = answered-append t (e ∷ []) in
        omega arith;
  }

  -- ---- entries that are no runs

  pub noted_quiet : (d d' : DoorsTold (SessionLeft R)) (e : Entry (SessionLeft R)) (asked : List ℕ) (desk : DeskView) (keeper : KeeperTold) (count w w' : ℕ)
      → d'.told ≡ entries_with (Some e) d.told → runs (e ∷ []) ≡ [] → turned (e ∷ []) + w' ≡ visits (e ∷ []) + w
      → ((before : List (Entry (SessionLeft R))) → IsRightAnswer setup start asked desk.board.unkept before e) → asked_for (e ∷ []) ≡ answered (e ∷ [])
      → AreNoted start setup d asked desk keeper count w → AreNoted start setup d' asked desk keeper count w'
  noted_quiet d d' e asked desk keeper count w w' told none counts right even n = record {
    notes = n.notes;
    has = n.has;
    drawn = n.drawn;
    counts = λ t is. told_more (λ t. count + turned t + w' ≡ visits t) e d.told t (sym told ∙ is) (λ before was.
        let had = n.counts before was in
        let given = visits-append before (e ∷ []) in
        let away = turned-append before (e ∷ []) in
        omega arith);
    of_runs = λ t is. told_more (λ t. AreNotesOf setup start asked t n.notes) e d.told t (sym told ∙ is) (λ before was. notes_told asked before e n.notes none (n.of_runs before was));
    operators = λ t is ids. told_more (λ t. HasIds start t → AllAnswered setup start asked desk.board.unkept t) e d.told t (sym told ∙ is) (λ before was ids.
        all_more asked desk.board.unkept before e (n.operators before was (ids_before start before (e ∷ []) ids)) (right before) even) ids;
  }

  pub noted_same : (d d' : DoorsTold (SessionLeft R)) (asked : List ℕ) (desk : DeskView) (keeper : KeeperTold) (count w : ℕ) → d'.told ≡ d.told → AreNoted start setup d asked desk keeper count w → AreNoted start setup d' asked desk keeper count w
  noted_same d d' asked desk keeper count w told n = record {
    notes = n.notes;
    has = n.has;
    drawn = n.drawn;
    counts = λ t is. n.counts t (sym told ∙ is);
    of_runs = λ t is. n.of_runs t (sym told ∙ is);
    operators = λ t is ids. n.operators t (sym told ∙ is) ids;
  }

  -- a visit comes, behind those that weren't turned away
  pub came_next : (d d' : DoorsTold (SessionLeft R)) (side : Side) (ends : EndsTold) (asked : List ℕ) (desk : DeskView) (keeper : KeeperTold) (count : ℕ)
      → d'.told ≡ entries_with (Some (Gave side ends)) d.told → AreNoted start setup d asked desk keeper count 0 → IsNext d' count side ends
  came_next d d' side ends asked desk keeper count told n t is =
      told_more (λ t. IsPlaced (count + 1) side ends t) (Gave side ends) d.told t (sym told ∙ is) (λ before was.
      let had = n.counts before was in
      record { before = before; after = []; is = refl; counts = omega arith })

  -- ---- an operator comes, and is answered

  -- the visits that are out are live
  live_out : (d : DoorsTold (SessionLeft R)) (asked : List ℕ) (desk : DeskView) (keeper : KeeperTold) (count : ℕ) (t : List (Entry (SessionLeft R))) → AreNoted start setup d asked desk keeper count 0
      → d.told ≡ Some t → HasIds start t → visits t ≡ length (runs t) + turned t + length (out_of t) → desk.board.live ≡ length (out_of t)
  live_out d asked desk keeper count t n is ids counts =
      let live = n.has.at.board.live in
      let drawn = n.has.at.drawn in
      let last = n.drawn in
      let given = n.counts t is in
      let same = notes_count asked t n.notes ids (n.of_runs t is) in
      let as_many : length (accepted n.has.calls) ≡ length n.notes = sym (length-map (accepted n.has.calls) (λ m. m.note)) ∙ ap length n.has.are in
      omega arith

  pub noted_operator : (d d' d'' : DoorsTold (SessionLeft R)) (source source' : SourceTold) (sink sink' : SinkTold) (end : OperatorEnd) (asked : List ℕ) (desk : DeskView) (keeper keeper' : KeeperTold) (count : ℕ)
      → d'.told ≡ entries_with (Some (GaveOperator source sink)) d.told → d''.told ≡ entries_with (Some (CameFromOperator source' sink' end)) d'.told
      → Operates desk.board end source source' sink sink' keeper keeper' → StaysKept keeper keeper'
      → ((t : List (Entry (SessionLeft R))) → d.told ≡ Some t → visits t ≡ length (runs t) + turned t + length (out_of t))
      → AreNoted start setup d asked desk keeper count 0 → AreNoted start setup d'' asked desk keeper' count 0
  noted_operator d d' d'' source source' sink sink' end asked desk keeper keeper' count came back operates stays counts n = record {
    notes = n.notes;
    has = record {
      calls = n.has.calls;
      at = at_still start n.has.calls desk desk keeper keeper' refl stays.notes stays.faults (λ is. inl is) n.has.at;
      are = n.has.are;
    };
    drawn = n.drawn;
    counts = λ t is. twice (λ t. count + turned t + 0 ≡ visits t) t is (λ before was.
        let had = n.counts before was in
        let given = visits-append (before ++ GaveOperator source sink ∷ []) (CameFromOperator source' sink' end ∷ []) in
        let away = turned-append (before ++ GaveOperator source sink ∷ []) (CameFromOperator source' sink' end ∷ []) in
        let given' = visits-append before (GaveOperator source sink ∷ []) in
        let away' = turned-append before (GaveOperator source sink ∷ []) in
        omega arith);
    of_runs = λ t is. twice (λ t. AreNotesOf setup start asked t n.notes) t is (λ before was.
        notes_told asked (before ++ GaveOperator source sink ∷ []) (CameFromOperator source' sink' end) n.notes refl (notes_first before was));
    operators = λ t is ids. twice (λ t. HasIds start t → AllAnswered setup start asked desk.board.unkept t) t is (λ before was ids. operators before was ids) ids;
  }
    where
      twice : (P : List (Entry (SessionLeft R)) → Type 0) (t : List (Entry (SessionLeft R))) → d''.told ≡ Some t
          → ((before : List (Entry (SessionLeft R))) → d.told ≡ Some before → P ((before ++ GaveOperator source sink ∷ []) ++ CameFromOperator source' sink' end ∷ [])) → P t
      twice P t is right = told_more P (CameFromOperator source' sink' end) d'.told t (sym back ∙ is) (λ mid was.
          told_more (λ m. P (m ++ CameFromOperator source' sink' end ∷ [])) (GaveOperator source sink) d.told mid (sym came ∙ was) right)

      fewer : (before : List (Entry (SessionLeft R))) → HasIds start ((before ++ GaveOperator source sink ∷ []) ++ CameFromOperator source' sink' end ∷ []) → HasIds start before
      fewer before ids = ids_before start before (GaveOperator source sink ∷ []) (ids_before start (before ++ GaveOperator source sink ∷ []) (CameFromOperator source' sink' end ∷ []) ids)

      notes_first : (before : List (Entry (SessionLeft R))) → d.told ≡ Some before → AreNotesOf setup start asked (before ++ GaveOperator source sink ∷ []) n.notes
      notes_first before was = notes_told asked before (GaveOperator source sink) n.notes refl (n.of_runs before was)

      operators : (before : List (Entry (SessionLeft R))) → d.told ≡ Some before → HasIds start ((before ++ GaveOperator source sink ∷ []) ++ CameFromOperator source' sink' end ∷ [])
          → AllAnswered setup start asked desk.board.unkept ((before ++ GaveOperator source sink ∷ []) ++ CameFromOperator source' sink' end ∷ [])
      operators before was ids =
          let had = n.operators before was (fewer before ids) in
          record {
            each = answered_more asked desk.board.unkept [] (before ++ GaveOperator source sink ∷ []) (CameFromOperator source' sink' end) (answered_more asked desk.board.unkept [] before (GaveOperator source sink) had.each tt) (record {
              source_before = source;
              sink_before = sink;
              given = has_last (GaveOperator source sink) before;
              board = desk.board;
              keeper = keeper;
              keeper_after = keeper';
              answers = operates;
              live = live_out d asked desk keeper count before n was (fewer before ids) (counts before was) ∙ ap length (sym (out_from_more [] before (GaveOperator source sink)));
              let_go = omega arith;
              marked = accepted n.has.calls;
              are = subst (λ ns. AreNotesOf setup start asked (before ++ GaveOperator source sink ∷ []) ns) (sym n.has.are) (notes_first before was);
              sessions = n.has.at.board.sessions;
              exchanges = n.has.at.board.exchanges;
              masked = n.has.at.board.masked;
              kept = n.has.at.notes;
            });
            all =
                let even = had.all in
                let one = asked_for-append before (GaveOperator source sink ∷ []) in
                let two = answered-append before (GaveOperator source sink ∷ []) in
                let three = asked_for-append (before ++ GaveOperator source sink ∷ []) (CameFromOperator source' sink' end ∷ []) in
                let four = answered-append (before ++ GaveOperator source sink ∷ []) (CameFromOperator source' sink' end ∷ []) in
                omega arith;
          }

  -- ---- a session begins

  pub noted_begun : (d : DoorsTold (SessionLeft R)) (asked more : List ℕ) (desk desk' : DeskView) (id : Option ℕ) (keeper : KeeperTold) (count : ℕ) → Begins desk id desk' → AddsNone desk desk'
      → AreNoted start setup d asked desk keeper count 1 → AreNoted start setup d (asked ++ more) desk' keeper (count + 1) 0
  noted_begun d asked more desk desk' id keeper count begins adds n = record {
    notes = n.notes;
    has = adds start n.notes keeper n.has;
    drawn = next_drawn start count desk desk' id begins n.drawn;
    counts = λ t is. let had = n.counts t is in omega arith;
    of_runs = λ t is. notes_asked asked more t n.notes (n.of_runs t is);
    operators = λ t is ids. let same = same_unkept desk desk' id begins in answers_kept asked more desk.board.unkept desk'.board.unkept t (omega arith) (n.operators t is ids);
  }

  pub begun_next : (d : DoorsTold (SessionLeft R)) (asked : List ℕ) (desk desk' : DeskView) (begun : Begun) (keeper : KeeperTold) (count : ℕ) (side : Side) (ends : EndsTold) → Begins desk begun.id desk'
      → AreNoted start setup d asked desk keeper count 1 → IsNext d count side ends → IsBegun start d (asked ++ begun.at ∷ []) begun side ends
  begun_next d asked desk desk' begun keeper count side ends begins n next = record {
    id = λ t is. record { place = count + 1; is = next_id start count desk desk' begun.id begins n.drawn; placed = next t is };
    at = holds_last begun.at asked;
  }
    where
      holds_last : (x : ℕ) (xs : List ℕ) → Holds x (xs ++ x ∷ [])
      holds_last x [] = inl refl
      holds_last x (y ∷ xs) = inr (holds_last x xs)

  -- ---- a run comes back

  pub noted_back : (d d' : DoorsTold (SessionLeft R)) (asked : List ℕ) (desk desk' : DeskView) (begun : Begun) (side : Side) (ends : EndsTold) (ended : ℕ) (run : RunTold (SessionLeft R))
      → d'.told ≡ entries_with (Some (CameBack run)) d.told → ends.number ≡ run.number → desk'.board.drawn ≡ desk.board.drawn → StillUnkept desk desk'
      → Adds (option_to_list (left_by side (dialect_number (dialect_on side setup)) begun.at ended (summary_of run.left.report) begun.id)) desk desk'
      → (keeper : KeeperTold) (count w : ℕ) → AreNoted start setup d asked desk keeper count w → IsBegun start d asked begun side ends → AreNoted start setup d' (asked ++ ended ∷ []) desk' keeper count w
  noted_back d d' asked desk desk' begun side ends ended run told number drawn let_go adds keeper count w n is_begun = record {
    notes = n.notes ++ option_to_list (left_run setup begun side ended run);
    has = adds start n.notes keeper n.has;
    drawn = drawn ∙ n.drawn;
    counts = λ t is. told_more (λ t. count + turned t + w ≡ visits t) (CameBack run) d.told t (sym told ∙ is) (λ before was.
        let had = n.counts before was in
        let given = visits-append before (CameBack run ∷ []) in
        let away = turned-append before (CameBack run ∷ []) in
        omega arith);
    of_runs = λ t is. told_more (λ t. AreNotesOf setup start (asked ++ ended ∷ []) t (n.notes ++ option_to_list (left_run setup begun side ended run))) (CameBack run) d.told t (sym told ∙ is) (λ before was.
        let had = n.of_runs before was in
        let has = is_begun.id before was in
        record {
          left = had.left ++ left_run setup begun side ended run ∷ [];
          each = subst (λ rs. Pairs (IsLeftBy setup start.greatest (asked ++ ended ∷ []) (before ++ CameBack run ∷ [])) rs (had.left ++ left_run setup begun side ended run ∷ [])) (sym (runs-append before (CameBack run ∷ [])))
              (pairs_snoc (IsLeftBy setup start.greatest (asked ++ ended ∷ []) (before ++ CameBack run ∷ [])) (runs before) had.left run (left_run setup begun side ended run)
              (pairs_kept (IsLeftBy setup start.greatest asked before) (IsLeftBy setup start.greatest (asked ++ ended ∷ []) (before ++ CameBack run ∷ []))
              (λ r l is. left_asked asked (ended ∷ []) (before ++ CameBack run ∷ []) r l (left_told asked before (CameBack run ∷ []) r l is)) (runs before) had.left had.each)
              (record {
                side = side;
                ends = ends;
                place = has.place;
                began = begun.at;
                ended = ended;
                placed = placed_more has.place side ends before (CameBack run ∷ []) has.placed;
                number = number;
                order = order_last begun.at ended asked is_begun.at;
                is = ap (left_by side (dialect_number (dialect_on side setup)) begun.at ended (summary_of run.left.report)) has.is;
              }));
          are = noted-snoc had.left (left_run setup begun side ended run) ∙ ap (λ l. l ++ option_to_list (left_run setup begun side ended run)) had.are;
        });
    operators = λ t is ids. told_more (λ t. HasIds start t → AllAnswered setup start (asked ++ ended ∷ []) desk'.board.unkept t) (CameBack run) d.told t (sym told ∙ is) (λ before was ids.
        answers_kept asked (ended ∷ []) desk.board.unkept desk'.board.unkept (before ++ CameBack run ∷ []) (let capped = n.has.at.board.unkept in omega arith)
        (all_more asked desk.board.unkept before (CameBack run) (n.operators before was (ids_before start before (CameBack run ∷ []) ids)) tt refl)) ids;
  }

  -- ---- notes are put

  pub noted_kept : (most : ℕ) (d : DoorsTold (SessionLeft R)) (asked : List ℕ) (desk desk' : DeskView) (keeper keeper' : KeeperTold) (count w : ℕ) → Keeps most desk desk' keeper keeper'
      → AreNoted start setup d asked desk keeper count w → AreNoted start setup d asked desk' keeper' count w
  noted_kept most d asked desk desk' keeper keeper' count w keeps n = record {
    notes = n.notes;
    has = keeps_noted most desk desk' keeper keeper' keeps start n.notes n.has;
    drawn = ap (λ b. b.drawn) keeps.board ∙ n.drawn;
    counts = n.counts;
    of_runs = n.of_runs;
    operators = λ t is ids. subst (λ u. AllAnswered setup start asked u t) (sym (ap (λ b. b.unkept) keeps.board)) (n.operators t is ids);
  }

  -- ---- the beginning

  pub noted_first : (d : DoorsTold (SessionLeft R)) (desk : DeskView) (keeper : KeeperTold) → IsAt start [] desk keeper
      → ((t : List (Entry (SessionLeft R))) → d.told ≡ Some t → t ≡ []) → AreNoted start setup d [] desk keeper 0 0
  noted_first d desk keeper at none = record {
    notes = [];
    has = opens_noted start desk keeper at;
    drawn = let drawn = at.drawn in omega arith;
    counts = λ t is. subst (λ t. 0 + turned t + 0 ≡ visits t) (sym (none t is)) refl;
    of_runs = λ t is. subst (λ t. AreNotesOf setup start [] t []) (sym (none t is)) (record { left = []; each = tt; are = refl });
    operators = λ t is ids. subst (λ t. AllAnswered setup start [] desk.board.unkept t) (sym (none t is)) (record { each = tt; all = refl });
  }

  -- ---- the end

  pub noted_ends : (d : DoorsTold (SessionLeft R)) (asked : List ℕ) (desk desk' : DeskView) (keeper keeper' : KeeperTold) (count : ℕ) → AreNoted start setup d asked desk keeper count 0 → Keeps 10000 desk desk' keeper keeper'
      → pending desk'.board.latest ≡ [] → (desk'.board.unkept ≡ 0) ⊎ (desk'.had_fault ≡ true)
      → (t : List (Entry (SessionLeft R))) → d.told ≡ Some t → NotesAndAnswers setup start asked t keeper'
  noted_ends d asked desk desk' keeper keeper' count n keeps none unkept t is =
      let has = keeps_noted 10000 desk desk' keeper keeper' keeps start n.notes n.has in
      record {
        notes = record {
          notes = n.notes;
          are = n.of_runs t is;
          kept = ends_kept start n.notes desk' keeper' has none unkept;
        };
        unkept = desk'.board.unkept;
        answers = λ ids. subst (λ u. AllAnswered setup start asked u t) (sym (ap (λ b. b.unkept) keeps.board)) (n.operators t is ids);
        all_kept = fault_rose unkept has.at.had_fault;
      }
    where
      fault_rose : {P Q S : Type 0} → P ⊎ Q → (Q → S) → P ⊎ S
      fault_rose (inl p) rose = inl p
      fault_rose (inr q) rose = inr (rose q)

-- what follows from two facts of an answer
pub on_both : {A E : Type 0} (result : Result A E) (P Q X : Type 0) → (P → Q → X) → OnOk result P → OnOk result Q → OnOk result X
on_both (Ok a) P Q X both p q = both p q
on_both (Err e) P Q X both p q = tt

-- what holds whatever the answer
pub on_ok : {A E : Type 0} (result : Result A E) (X : Type 0) → X → OnOk result X
on_ok (Ok a) X x = x
on_ok (Err e) X x = tt
