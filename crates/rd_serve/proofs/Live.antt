-- The ids of sessions that run, beside those of the desk, and their notes.
use Rattle.std.proofs.Common.{◌≡◌, ℕ, zero, suc, ◌+◌, ◌-◌, ◌^◌, ◌<◌, ◌≤◌, ◌==◌, List, [], ◌∷◌, ◌++◌, length, take, drop, get_or, Some, None, refl, sym, ap, ◌∙◌, subst, arith, add-one, length-append}
use Rattle.std.specs.Prelude.{Option, IfSome, option_to_list}
use Rattle.std.proofs.lemmas.List.{append_assoc, append-nil}
use Rattle.rd_base.specs.Outside.{SinkTold}
use Rattle.rd_base.specs.Sources.{SourceTold}
use Rattle.rd_doors.specs.Visits.{Holds, ends_told}
use Rattle.rd_doors.specs.Calls.{DoorsTold}
use Rattle.rd_keeper.specs.Keeping.{KeeperTold}
use Rattle.rd_desk.specs.declared.session.Begun.{Begun}
use Rattle.rd_desk.specs.Desk.{DeskView, Start, Begins, Keeps, with_session}
use Rattle.rd_desk.specs.Noted.{without_id}
use Rattle.rd_runner.specs.Runs.{Setup}
use Rattle.rd_run_session.specs.declared.left.SessionLeft.{SessionLeft}
use Rattle.rd_serve.specs.declared.session.Session.{Session}
use Rattle.rd_serve.specs.Serving.{one_if}
use Rattle.rd_serve.specs.Sessions.{Each, KeepsTold, times}
use Rattle.rd_serve.specs.Noting.{IsKeepable, AreLive, AreNoted, AreKept, IsBegun, NotesServe, ids_of}
use Rattle.rd_serve.proofs.Noting.{begun_kept, noted_kept}
use Rattle.rd_serve.proofs.Telling.{keeps_same}
use Rattle.rd_serve.proofs.Outs.{all_left, all_kept, each_at, each_snoc}
use Rattle.rd_serve.proofs.Times.{times_append, times_snoc, times_without, length_without, holds_of_times, same_times}

-- the ids behind a session that begins
pub ids_begun : (before after : DeskView) (id : Option ℕ) → Begins before id after → after.ids ≡ before.ids ++ option_to_list id
ids_begun before after None begins = ap (λ (d : DeskView). d.ids) begins.1 ∙ sym (append-nil before.ids)
ids_begun before after (Some i) begins = ap (λ (d : DeskView). d.ids) begins.2

-- one that has begun is live
pub begun_holds : (before after : DeskView) (id : Option ℕ) → Begins before id after → IfSome id (λ i. Holds i after.ids)
begun_holds before after None begins = tt
begun_holds before after (Some i) begins =
    let ids = ap (times i) (ids_begun before after (Some i) begins) in
    let last = times_snoc i i before.ids in
    let one = same_times i in
    holds_of_times i after.ids (omega arith)

-- its id, given back
times_back : (n : ℕ) (id : Option ℕ) (ids : List ℕ) → IfSome id (λ i. Holds i ids) → times n ids ≡ times n (option_to_list id) + times n (without_id id ids)
times_back n None ids holds = omega arith
times_back n (Some i) ids holds = let less = times_without i n ids holds in omega arith

length_back : (id : Option ℕ) (ids : List ℕ) → IfSome id (λ i. Holds i ids) → length ids ≡ length (option_to_list id) + length (without_id id ids)
length_back None ids holds = omega arith
length_back (Some i) ids holds = let less = length_without i ids holds in omega arith

holds_by : (id : Option ℕ) (ids : List ℕ) → ((n : ℕ) → times n (option_to_list id) ≤ times n ids) → IfSome id (λ i. Holds i ids)
holds_by None ids some = tt
holds_by (Some i) ids some = let at = some i in let one = same_times i in holds_of_times i ids (omega arith)

option_few : (id : Option ℕ) → length (option_to_list id) ≤ 1
option_few None = omega arith
option_few (Some i) = omega arith

module _ {S K P C T B R : Type 0} where
  ids_split : (n : ℕ) (ss : List (Session S K P C T B R)) (i : ℕ) (d : Session S K P C T B R) → i < length ss
      → times n (ids_of ss) ≡ times n (option_to_list (get_or ss i d).begun.id) + times n (ids_of (take i ss ++ drop (suc i) ss))
  ids_split n [] i d within = absurd (omega arith)
  ids_split n (s ∷ ss) zero d within = times_append n (option_to_list s.begun.id) (ids_of ss)
  ids_split n (s ∷ ss) (suc i) d within =
      let more = ids_split n ss i d (omega arith) in
      let one = times_append n (option_to_list s.begun.id) (ids_of ss) in
      let two = times_append n (option_to_list s.begun.id) (ids_of (take i ss ++ drop (suc i) ss)) in
      omega arith

  ids_length : (ss : List (Session S K P C T B R)) (i : ℕ) (d : Session S K P C T B R) → i < length ss
      → length (ids_of ss) ≡ length (option_to_list (get_or ss i d).begun.id) + length (ids_of (take i ss ++ drop (suc i) ss))
  ids_length [] i d within = absurd (omega arith)
  ids_length (s ∷ ss) zero d within = length-append (option_to_list s.begun.id) (ids_of ss)
  ids_length (s ∷ ss) (suc i) d within =
      let more = ids_length ss i d (omega arith) in
      let one = length-append (option_to_list s.begun.id) (ids_of ss) in
      let two = length-append (option_to_list s.begun.id) (ids_of (take i ss ++ drop (suc i) ss)) in
      omega arith

  ids_few : (ss : List (Session S K P C T B R)) → length (ids_of ss) ≤ length ss
  ids_few [] = omega arith
  ids_few (s ∷ ss) =
      let more = ids_few ss in
      let one = length-append (option_to_list s.begun.id) (ids_of ss) in
      let few = option_few s.begun.id in
      omega arith

  ids_snoc : (ss : List (Session S K P C T B R)) (s : Session S K P C T B R) → ids_of (ss ++ s ∷ []) ≡ ids_of ss ++ option_to_list s.begun.id
  ids_snoc [] s = append-nil (option_to_list s.begun.id)
  ids_snoc (x ∷ ss) s = ap (λ l. option_to_list x.begun.id ++ l) (ids_snoc ss s) ∙ sym (append_assoc (option_to_list x.begun.id) (ids_of ss) (option_to_list s.begun.id))

  -- fewer are live than sessions may run
  pub live_few : (ids : List ℕ) (ss : List (Session S K P C T B R)) → AreLive ids ss → length ids ≤ length ss
  live_few ids ss live = let count = live.count in let few = ids_few ss in omega arith

  pub live_holds : (ids : List ℕ) (ss : List (Session S K P C T B R)) (i : ℕ) (s : Session S K P C T B R) → AreLive ids ss → i < length ss → s ≡ get_or ss i s → IfSome s.begun.id (λ n. Holds n ids)
  live_holds ids ss i s live within at =
      holds_by s.begun.id ids (λ n.
      let split = ids_split n ss i s within in
      let is : times n (option_to_list (get_or ss i s).begun.id) ≡ times n (option_to_list s.begun.id) = ap (λ (x : Session S K P C T B R). times n (option_to_list x.begun.id)) (sym at) in
      let same = live.same n in
      omega arith)

  pub live_keepable : (ids : List ℕ) (ss : List (Session S K P C T B R)) (i : ℕ) (s : Session S K P C T B R) → AreLive ids ss → i < length ss → s ≡ get_or ss i s → IsKeepable s.begun
  live_keepable ids ss i s live within at = subst (λ (x : Session S K P C T B R). IsKeepable x.begun) (sym at) (each_at (λ (x : Session S K P C T B R). IsKeepable x.begun) ss i s within live.each)

  pub live_left : (ids ids' : List ℕ) (ss rest : List (Session S K P C T B R)) (i : ℕ) (s : Session S K P C T B R) → AreLive ids ss → i < length ss → s ≡ get_or ss i s
      → rest ≡ take i ss ++ drop (i + 1) ss → ids' ≡ without_id s.begun.id ids → AreLive ids' rest
  live_left ids ids' ss rest i s live within at left is =
      let left' : rest ≡ take i ss ++ drop (suc i) ss = left ∙ ap (λ j. take i ss ++ drop j ss) (add-one i) in
      let holds = live_holds ids ss i s live within at in
      record {
        each = subst (Each (λ (x : Session S K P C T B R). IsKeepable x.begun)) (sym left') (all_left (λ (x : Session S K P C T B R). IsKeepable x.begun) ss i live.each);
        same = λ n.
            let split = ids_split n ss i s within in
            let own : times n (option_to_list (get_or ss i s).begun.id) ≡ times n (option_to_list s.begun.id) = ap (λ (x : Session S K P C T B R). times n (option_to_list x.begun.id)) (sym at) in
            let had = live.same n in
            let less = times_back n s.begun.id ids holds in
            let now : times n ids' ≡ times n (without_id s.begun.id ids) = ap (times n) is in
            let these : times n (ids_of rest) ≡ times n (ids_of (take i ss ++ drop (suc i) ss)) = ap (λ (l : List (Session S K P C T B R)). times n (ids_of l)) left' in
            omega arith;
        count =
            let split = ids_length ss i s within in
            let own : length (option_to_list (get_or ss i s).begun.id) ≡ length (option_to_list s.begun.id) = ap (λ (x : Session S K P C T B R). length (option_to_list x.begun.id)) (sym at) in
            let had = live.count in
            let less = length_back s.begun.id ids holds in
            let now : length ids' ≡ length (without_id s.begun.id ids) = ap length is in
            let these : length (ids_of rest) ≡ length (ids_of (take i ss ++ drop (suc i) ss)) = ap (λ (l : List (Session S K P C T B R)). length (ids_of l)) left' in
            omega arith;
      }

  pub live_begun : (before after : DeskView) (begun : Begun) (ss more : List (Session S K P C T B R)) (s : Session S K P C T B R) → AreLive before.ids ss → Begins before begun.id after
      → IsKeepable begun → s.begun ≡ begun → more ≡ ss ++ s ∷ [] → AreLive after.ids more
  live_begun before after begun ss more s live begins keepable own at =
      let ids = ids_begun before after begun.id begins in
      let more_ids : ids_of more ≡ ids_of ss ++ option_to_list begun.id = ap ids_of at ∙ ids_snoc ss s ∙ ap (λ (b : Begun). ids_of ss ++ option_to_list b.id) own in
      record {
        each = subst (Each (λ (x : Session S K P C T B R). IsKeepable x.begun)) (sym at) (each_snoc (λ (x : Session S K P C T B R). IsKeepable x.begun) ss s live.each (subst IsKeepable (sym own) keepable));
        same = λ n.
            let had = live.same n in
            let one = ap (times n) ids ∙ times_append n before.ids (option_to_list begun.id) in
            let two = ap (times n) more_ids ∙ times_append n (ids_of ss) (option_to_list begun.id) in
            omega arith;
        count =
            let had = live.count in
            let one = ap length ids ∙ length-append before.ids (option_to_list begun.id) in
            let two = ap length more_ids ∙ length-append (ids_of ss) (option_to_list begun.id) in
            omega arith;
      }

  -- one that began has ended at once
  pub live_back : (before after : DeskView) (id : Option ℕ) (ids' : List ℕ) (ss : List (Session S K P C T B R)) → AreLive before.ids ss → Begins before id after
      → ids' ≡ without_id id after.ids → AreLive ids' ss
  live_back before after id ids' ss live begins is =
      let ids = ids_begun before after id begins in
      let holds = begun_holds before after id begins in
      record {
        each = live.each;
        same = λ n.
            let had = live.same n in
            let one = ap (times n) ids ∙ times_append n before.ids (option_to_list id) in
            let two = times_back n id after.ids holds in
            let now : times n ids' ≡ times n (without_id id after.ids) = ap (times n) is in
            omega arith;
        count =
            let had = live.count in
            let one = ap length ids ∙ length-append before.ids (option_to_list id) in
            let two = length_back id after.ids holds in
            let now : length ids' ≡ length (without_id id after.ids) = ap length is in
            omega arith;
      }

  -- ---- notes and sessions

  module _ (source : S → SourceTold) (sink : K → SinkTold) (start : Start) (setup : Setup) where
    abbrev IsOne : DoorsTold (SessionLeft R) → List ℕ → Session S K P C T B R → Type 0
    IsOne d asked s = IsBegun start d asked s.begun s.side (ends_told source sink s.ends.value)

    one_of : (d : DoorsTold (SessionLeft R)) (asked : List ℕ) (ss : List (Session S K P C T B R)) (i : ℕ) (s : Session S K P C T B R) → Each (IsOne d asked) ss → i < length ss → s ≡ get_or ss i s → IsOne d asked s
    one_of d asked ss i s all within at = subst (IsOne d asked) (sym at) (each_at (IsOne d asked) ss i s within all)

    ones_kept : (d d' : DoorsTold (SessionLeft R)) (asked more : List ℕ) (ss : List (Session S K P C T B R)) → KeepsTold d d' → Each (IsOne d asked) ss → Each (IsOne d' (asked ++ more)) ss
    ones_kept d d' asked more ss keeps all =
        all_kept (IsOne d asked) (IsOne d' (asked ++ more)) (λ x is. begun_kept start d d' asked more x.begun x.side (ends_told source sink x.ends.value) keeps is) ss all

    -- a session has ended, and its run came back
    pub kept_left : (d d' : DoorsTold (SessionLeft R)) (asked more : List ℕ) (desk desk' : DeskView) (keeper : KeeperTold) (count w : ℕ) (ss rest : List (Session S K P C T B R)) (i : ℕ) (s : Session S K P C T B R)
        → i < length ss → s ≡ get_or ss i s → rest ≡ take i ss ++ drop (i + 1) ss → KeepsTold d d'
        → (AreNoted start setup d asked desk keeper count w → IsBegun start d asked s.begun s.side (ends_told source sink s.ends.value) → AreNoted start setup d' (asked ++ more) desk' keeper count w)
        → AreKept start setup d asked desk keeper count w source sink ss → AreKept start setup d' (asked ++ more) desk' keeper count w source sink rest
    kept_left d d' asked more desk desk' keeper count w ss rest i s within at left keeps back k =
        let left' : rest ≡ take i ss ++ drop (suc i) ss = left ∙ ap (λ j. take i ss ++ drop j ss) (add-one i) in
        record {
          noted = back k.noted (one_of d asked ss i s k.begun within at);
          begun = ones_kept d d' asked more rest keeps (subst (Each (IsOne d asked)) (sym left') (all_left (IsOne d asked) ss i k.begun));
        }

    -- the sessions stay as they are
    pub kept_on : (d d' : DoorsTold (SessionLeft R)) (asked more : List ℕ) (desk desk' : DeskView) (keeper keeper' : KeeperTold) (count count' w w' : ℕ) (ss : List (Session S K P C T B R)) → KeepsTold d d'
        → AreNoted start setup d' (asked ++ more) desk' keeper' count' w' → AreKept start setup d asked desk keeper count w source sink ss → AreKept start setup d' (asked ++ more) desk' keeper' count' w' source sink ss
    kept_on d d' asked more desk desk' keeper keeper' count count' w w' ss keeps noted k = record { noted = noted; begun = ones_kept d d' asked more ss keeps k.begun }

    -- the same, where the clock wasn't asked
    pub kept_still : (d d' : DoorsTold (SessionLeft R)) (asked : List ℕ) (desk desk' : DeskView) (keeper keeper' : KeeperTold) (count count' w w' : ℕ) (ss : List (Session S K P C T B R)) → KeepsTold d d'
        → AreNoted start setup d' asked desk' keeper' count' w' → AreKept start setup d asked desk keeper count w source sink ss → AreKept start setup d' asked desk' keeper' count' w' source sink ss
    kept_still d d' asked desk desk' keeper keeper' count count' w w' ss keeps noted k = record {
      noted = noted;
      begun = subst (λ l. Each (IsOne d' l) ss) (append-nil asked) (ones_kept d d' asked [] ss keeps k.begun);
    }

    -- a session more
    pub kept_more : (d : DoorsTold (SessionLeft R)) (asked more : List ℕ) (desk desk' : DeskView) (keeper : KeeperTold) (count count' w w' : ℕ) (ss all : List (Session S K P C T B R)) (s : Session S K P C T B R)
        → all ≡ ss ++ s ∷ [] → IsBegun start d (asked ++ more) s.begun s.side (ends_told source sink s.ends.value) → AreNoted start setup d (asked ++ more) desk' keeper count' w'
        → AreKept start setup d asked desk keeper count w source sink ss → AreKept start setup d (asked ++ more) desk' keeper count' w' source sink all
    kept_more d asked more desk desk' keeper count count' w w' ss all s at is noted k = record {
      noted = noted;
      begun = subst (Each (IsOne d (asked ++ more))) (sym at)
          (each_snoc (IsOne d (asked ++ more)) ss s (ones_kept d d asked more ss (keeps_same d d refl) k.begun) is);
    }

  -- the doors tell of what is no run, and the clock isn't asked
  pub serve_quiet : (source : S → SourceTold) (sink : K → SinkTold) (setup : Setup) (d d' : DoorsTold (SessionLeft R)) (desk desk' : DeskView) (keeper keeper' : KeeperTold) (ss : List (Session S K P C T B R)) → KeepsTold d d'
      → ((start : Start) (asked : List ℕ) (count : ℕ) → AreNoted start setup d asked desk keeper count 0 → AreNoted start setup d' asked desk' keeper' count 0)
      → NotesServe setup d d' source sink desk desk' ss ss keeper keeper' []
  serve_quiet source sink setup d d' desk desk' keeper keeper' ss keeps each start asked had = record {
    count = had.count;
    kept = subst (λ l. AreKept start setup d' l desk' keeper' had.count 0 source sink ss) (sym (append-nil asked))
        (kept_still source sink start setup d d' asked desk desk' keeper keeper' had.count had.count 0 0 ss keeps (each start asked had.count had.kept.noted) had.kept);
  }

  -- notes are put
  pub serve_put : (source : S → SourceTold) (sink : K → SinkTold) (setup : Setup) (most : ℕ) (d d' : DoorsTold (SessionLeft R)) (desk desk' desk'' : DeskView) (k k' k'' : KeeperTold) (ss ss' : List (Session S K P C T B R)) (more : List ℕ)
      → Keeps most desk' desk'' k' k'' → NotesServe setup d d' source sink desk desk' ss ss' k k' more → NotesServe setup d d' source sink desk desk'' ss ss' k k'' more
  serve_put source sink setup most d d' desk desk' desk'' k k' k'' ss ss' more keeps serves start asked had =
      let now = serves start asked had in
      record {
        count = now.count;
        kept = record {
          noted = noted_kept start setup most d' (asked ++ more) desk' desk'' k' k'' now.count 0 keeps now.kept.noted;
          begun = now.kept.begun;
        };
      }
