-- What a turn comes to, by what it heard.
use Rattle.std.proofs.Common.{◌≡◌, ℕ, ◌+◌, ◌-◌, Bool, true, false, List, [], ◌∷◌, ◌++◌, Option, Some, None, refl, sym, ap, ap₂, ◌∙◌, subst, append_assoc, append-nil, map, drop, length}
use Rattle.std.specs.Prelude.{nat_le, ◌&&◌}
use Rattle.rd_base.specs.declared.values.Link.{Link}
use Rattle.rd_base.specs.declared.values.Happening.{Happening}
use Rattle.rd_base.specs.declared.values.What.TheVariants as what
use Rattle.rd_base.specs.History.{History, Entry, Row, is_well_formed, follows_well, may_follow}
use Rattle.rd_base.specs.Clocks.{ClockTold, StopperTold, Ticks, Asks}
use Rattle.rd_base.specs.Outside.{SinkTold}
use Rattle.rd_core.specs.Clocks.{entry_of}
use Rattle.rd_rules.specs.Exchange.{Rules}
use Rattle.rd_rules.specs.Sent.{final, sent, sent_past}
use Rattle.rd_rules.specs.Wait.{due_moment}
use Rattle.rd_token_map.specs.BookCalls.{BookCall}
use Rattle.rd_gate.specs.declared.item.Item.{Item}
use Rattle.rd_gate.specs.declared.item.Item.TheVariants as item
use Rattle.rd_gate.specs.declared.gate.View.{View}
use Rattle.rd_turn.specs.declared.log.LogEntry.{LogEntry}
use Rattle.rd_turn.specs.declared.log.Act.{Act}
use Rattle.rd_turn.specs.declared.log.Act.TheVariants as act
use Rattle.rd_turn.specs.declared.hearing.Heard.{Heard}
use Rattle.rd_turn.specs.declared.hearing.Heard.TheVariants as heard
use Rattle.rd_turn.specs.Acts.{WroteStep, failed_entry, heard_by, is_past, LooksBy, Hears, GoesBy, Acts, Stays, WroteTurn, Goes, Went, GaveUp, back_of}
use Rattle.rd_turn.specs.Books.{Lookup, rows_of, words_of, calls_of, told_calls, AsksBook, BeginsBook}
use Rattle.rd_turn.specs.Turns.{Turn, Did, Took, Looked, Stopped, Outside, outside, after_turn, clock_after, stopper_after, is_stop, view_after, stamp, entry_at, step_of, failure, turn_step, turn_entries, logged, act_of, IsTimely, item_taken, IsAmong}
use Rattle.rd_turn.proofs.Asked.{calls_none, nil_prefix}

-- ---- what a step is that was heard

pub record IsStep (moment : ℕ) (did : Did) (a : Act) (happening : Happening) : Type 0 where
  pub step : (told : List Row) → step_of moment did told ≡ entry_of happening told ∷ []
  pub act : act_of happening.what ≡ a
  pub at : happening.at ≡ moment
  pub back : back_of happening.what ≡ item_taken did

abbrev act_in : Heard → Act → Act
act_in (heard.Step a e) d = a
act_in heard.Quiet d = d
act_in (heard.NoMemory l) d = d

abbrev happening_in : Heard → Happening → Happening
happening_in (heard.Step a e) d = e
happening_in heard.Quiet d = d
happening_in (heard.NoMemory l) d = d

of_parts : (at : ℕ) (did : Did) (a b : Act) (e f : Happening) → heard.Step a e ≡ heard.Step b f → IsStep at did b f → IsStep at did a e
of_parts at did a b e f same is =
    let acts : a ≡ b = ap (λ h. act_in h a) same in
    let happenings : e ≡ f = ap (λ h. happening_in h e) same in
    subst (λ (x : Act). IsStep at did x e) (sym acts) (subst (λ (y : Happening). IsStep at did b y) (sym happenings) is)

pub step_heard : (at : ℕ) (did : Did) (a : Act) (e : Happening) → heard.Step a e ≡ heard_by at did → IsStep at did a e
step_heard at (Took l (item.Piece bytes)) a e same = of_parts at (Took l (item.Piece bytes)) a (act.Took l) e (record { at = at; what = what.Piece l bytes }) same (record { step = λ told. refl; act = refl; at = refl; back = refl })
step_heard at (Took l item.End) a e same = of_parts at (Took l item.End) a (act.Took l) e (record { at = at; what = what.End l }) same (record { step = λ told. refl; act = refl; at = refl; back = refl })
step_heard at (Took l item.ReadFail) a e same = of_parts at (Took l item.ReadFail) a (act.Took l) e (record { at = at; what = what.ReadFail l }) same (record { step = λ told. refl; act = refl; at = refl; back = refl })
step_heard at (Took l item.NoMemory) a e same = absurd (cc same)
step_heard at (Looked true) a e same = of_parts at (Looked true) a act.Timer e (record { at = at; what = what.Timer }) same (record { step = λ told. refl; act = refl; at = refl; back = refl })
step_heard at (Looked false) a e same = absurd (cc same)
step_heard at Stopped a e same = of_parts at Stopped a act.Stop e (record { at = at; what = what.Stop }) same (record { step = λ told. refl; act = refl; at = refl; back = refl })

pub quiet_heard : (at : ℕ) (did : Did) → heard.Quiet ≡ heard_by at did → did ≡ Looked false
quiet_heard at (Took l (item.Piece bytes)) same = absurd (cc same)
quiet_heard at (Took l item.End) same = absurd (cc same)
quiet_heard at (Took l item.ReadFail) same = absurd (cc same)
quiet_heard at (Took l item.NoMemory) same = absurd (cc same)
quiet_heard at (Looked true) same = absurd (cc same)
quiet_heard at (Looked false) same = refl
quiet_heard at Stopped same = absurd (cc same)

abbrev link_in : Heard → Link → Link
link_in (heard.Step a e) d = d
link_in heard.Quiet d = d
link_in (heard.NoMemory l) d = l

want_heard : (at : ℕ) (did : Did) (l : Link) → heard.NoMemory l ≡ heard_by at did → did ≡ Took l item.NoMemory
want_heard at (Took m (item.Piece bytes)) l same = absurd (cc same)
want_heard at (Took m item.End) l same = absurd (cc same)
want_heard at (Took m item.ReadFail) l same = absurd (cc same)
want_heard at (Took m item.NoMemory) l same = ap (λ k. Took k item.NoMemory) (sym (ap (λ h. link_in h l) same))
want_heard at (Looked true) l same = absurd (cc same)
want_heard at (Looked false) l same = absurd (cc same)
want_heard at Stopped l same = absurd (cc same)

-- a look is timely by the due moment that the session told
timely : (r : Rules) (h : History) (at : ℕ) (did : Did) (due : Option ℕ) → due ≡ Some (due_moment r h) → LooksBy due at did → IsTimely r h at did
timely r h at (Took l x) due is looks = tt
timely r h at (Looked timer) due is looks = looks ∙ ap (λ d. is_past d at) is
timely r h at Stopped due is looks = tt

-- ---- what the outside tells

clock_is : (answer : ℕ) (c d : ClockTold) → Ticks answer c d → d ≡ clock_after c answer
clock_is answer c d t =
    ap₂ (λ a r. record { answers = a; reach = r; span = d.span }) t.answers t.reach
    ∙ ap (λ s. record (clock_after c answer) { span = s }) t.span

stopper_is : (did : Did) (s t : StopperTold) → Asks (is_stop did) s t → t ≡ stopper_after s did
stopper_is did s t a = ap₂ (λ asked yeses. record { asked = asked; yeses = yeses }) a.asked a.yeses

pub outside_is : (base : ℕ) (due : Option ℕ) (g g' : View) (c c' : ClockTold) (s s' : StopperTold) (b b' : Option (List BookCall)) (heard : Heard) (x : Hears base due g g' c c' s s' heard)
    (found : List Lookup) (learnt : List Row) (failed : Option Link) → b' ≡ told_calls b (calls_of found learnt)
    → outside g' c' s' b' ≡ after_turn (outside g c s b) (record { answer = x.answer; did = x.did; found = found; learnt = learnt; failed = failed })
outside_is base due g g' c c' s s' b b' heard x found learnt failed book =
    ap₂ (λ k l. outside k l s' b') x.knows (clock_is x.answer c c' x.ticks)
    ∙ ap₂ (λ t l. outside (view_after g x.did) (clock_after c x.answer) t l) (stopper_is x.did s s' x.asks) book

-- ---- the turn

log_goes : (log : List LogEntry) (e : Entry) (x : LogEntry) (at : ℕ) (failed : Option Link) → logged e ≡ x → (log ++ x ∷ []) ++ failed_entry at failed ≡ log ++ map logged ((e ∷ []) ++ failure at failed)
log_goes log e x at None is = append-nil (log ++ x ∷ []) ∙ ap (λ y. log ++ y ∷ []) (sym is)
log_goes log e x at (Some l) is = append_assoc log (x ∷ []) (failed_entry at (Some l)) ∙ ap (λ y. log ++ y ∷ failed_entry at (Some l)) (sym is)

abbrev pub turn_by : ℕ → Did → List Lookup → List Row → Option Link → Turn
turn_by answer did found learnt failed = record { answer = answer; did = did; found = found; learnt = learnt; failed = failed }

pub went : (r : Rules) (base answer : ℕ) (did : Did) (at_old at_new : History → Type 0) (book book' : Option (List BookCall)) (before after : List LogEntry) (told told' : List Row) (olds news : List SinkTold) (failed : Option Link) (due : Option ℕ) (a : Act) (e : Happening)
    → heard.Step a e ≡ heard_by (answer - base) did
    → LooksBy due (answer - base) did
    → ((h : History) → at_old h → due ≡ Some (due_moment r h))
    → ((h : History) → at_old h → final r h ≡ None)
    → (x : Acts r e a at_old at_new book book' before after told told' olds news failed)
    → IsAmong (r.limits.copies + 1) failed
    → Went r base at_old at_new before after told told' olds news (turn_by answer did x.found x.learnt failed)
went r base answer did at_old at_new book book' before after told told' olds news failed due a e same looks says live x among =
    let at : ℕ = answer - base in
    let is = step_heard at did a e same in
    let rows : List Row = rows_of x.found in
    let step : step_of at did rows ≡ entry_of e rows ∷ [] = is.step rows in
    record {
      log = x.log
          ∙ log_goes before (entry_of e rows) (record { at = e.at; act = a; told = length rows }) e.at failed (ap (λ y. record { at = e.at; act = y; told = length rows }) is.act)
          ∙ ap (λ n. before ++ map logged ((entry_of e rows ∷ []) ++ failure n failed)) is.at
          ∙ ap (λ s. before ++ map logged (s ++ failure at failed)) (sym step);
      rows = x.rows;
      among = among;
      goes = λ h well at_h.
          let goes = x.goes h (ap (λ s. is_well_formed r.limits.copies (h ++ s)) (sym step) ∙ well) at_h in
          record {
            stands = subst (λ s. at_new (h ++ s)) (sym step) goes.stands;
            adds = subst (λ s. (l : ℕ) → sent r l (h ++ s) ≡ sent r l h ++ sent_past r h (h ++ s) l) (sym step) goes.adds;
            timely = record {
              live = live h at_h;
              timely = timely r h at did due (says h at_h) looks;
              asks = subst (λ s. AsksBook r h s x.found x.learnt) (sym step) goes.asks;
            };
            wrote = subst (λ s. WroteTurn r h s failed olds news) (sym step) goes.wrote;
          };
    }

drop_whole : (xs : List ℕ) → drop (length xs) xs ≡ []
drop_whole [] = refl
drop_whole (x ∷ xs) = drop_whole xs

nothing_past : (xs ys : List ℕ) → ys ≡ xs → ys ≡ xs ++ drop (length xs) ys
nothing_past xs ys same = same ∙ sym (append-nil xs) ∙ ap (λ d. xs ++ d) (sym (ap (drop (length xs)) same ∙ drop_whole xs))

pub stayed : (r : Rules) (base answer : ℕ) (did : Did) (at : History → Type 0) (log : List LogEntry) (told : List Row) (sinks : List SinkTold) (due : Option ℕ)
    → heard.Quiet ≡ heard_by (answer - base) did
    → LooksBy due (answer - base) did
    → ((h : History) → at h → due ≡ Some (due_moment r h))
    → ((h : History) → at h → final r h ≡ None)
    → Went r base at at log log told told sinks sinks (turn_by answer did [] [] None)
stayed r base answer did at log told sinks due same looks says live =
    let is = quiet_heard (answer - base) did same in
    let none : step_of (answer - base) did [] ≡ [] = ap (λ d. step_of (answer - base) d []) is in
    let no_entries : step_of (answer - base) did [] ++ [] ≡ [] = ap (λ s. s ++ []) none in
    record {
      log = sym (ap (λ s. log ++ map logged s) no_entries ∙ append-nil log);
      rows = sym (append-nil told);
      among = tt;
      goes = λ h well at_h. record {
        stands = subst (λ s. at (h ++ s)) (sym none) (subst at (sym (append-nil h)) at_h);
        adds = subst (λ s. (l : ℕ) → sent r l (h ++ s) ≡ sent r l h ++ sent_past r h (h ++ s) l) (sym none) (λ l. nothing_past (sent r l h) (sent r l (h ++ [])) (ap (sent r l) (append-nil h)));
        timely = record {
          live = live h at_h;
          timely = timely r h (answer - base) did due (says h at_h) looks;
          asks = subst (λ s. AsksBook r h s [] []) (sym none) (refl, refl);
        };
        wrote = subst (λ s. WroteTurn r h s None sinks sinks) (sym none) (refl, refl);
      };
    }

pub wanted_memory : (r : Rules) (base answer : ℕ) (did : Did) (at : History → Type 0) (log : List LogEntry) (told : List Row) (sinks : List SinkTold) (l : Link)
    → heard.NoMemory l ≡ heard_by (answer - base) did
    → GaveUp r base at log log told told sinks sinks (Some (l, item.NoMemory)) (turn_by answer did [] [] None)
wanted_memory r base answer did at log told sinks l same =
    let is = want_heard (answer - base) did l same in
    record {
      log = refl;
      rows = refl;
      sinks = refl;
      back = ap item_taken (sym is);
      failed = refl;
      begins = λ h well at_h. subst (λ d. BeginsBook r h (step_of (answer - base) d []) [] []) (sym is) (nil_prefix _, nil_prefix _);
    }

pub gave_up : (r : Rules) (base answer : ℕ) (did : Did) (at : History → Type 0) (book book' : Option (List BookCall)) (before after : List LogEntry) (told told' : List Row) (olds news : List SinkTold) (a : Act) (e : Happening) (back : Option (Link × Item))
    → heard.Step a e ≡ heard_by (answer - base) did → back ≡ back_of e.what
    → (x : Stays r e at book book' before after told told' olds news)
    → GaveUp r base at before after told told' olds news back (turn_by answer did x.found x.learnt None)
gave_up r base answer did at book book' before after told told' olds news a e back same given x =
    let is = step_heard (answer - base) did a e same in
    let step : step_of (answer - base) did (rows_of x.found) ≡ entry_of e (rows_of x.found) ∷ [] = is.step (rows_of x.found) in
    record {
      log = x.log;
      rows = x.rows;
      sinks = x.sinks;
      back = given ∙ is.back;
      failed = refl;
      begins = λ h well at_h. subst (λ s. BeginsBook r h s x.found x.learnt) (sym step) (x.begins h (ap (λ s. is_well_formed r.limits.copies (h ++ s)) (sym step) ∙ well) at_h);
    }

-- ---- the rows told to an entry say nothing of whether it may follow

and_more : (a b c : Bool) → (b ≡ true → c ≡ true) → (a && b) ≡ true → (a && c) ≡ true
and_more true b c k e = k e
and_more false b c k e = absurd (cc e)

pub told_follows : (n : ℕ) (seen h : History) (e : Happening) (told told' : List Row) → follows_well n seen (h ++ entry_of e told ∷ []) ≡ true → follows_well n seen (h ++ entry_of e told' ∷ []) ≡ true
told_follows n seen [] e told told' well = well
told_follows n seen (x ∷ h) e told told' well =
    and_more (may_follow n seen x.what) (follows_well n (seen ++ x ∷ []) (h ++ entry_of e told ∷ [])) (follows_well n (seen ++ x ∷ []) (h ++ entry_of e told' ∷ []))
    (told_follows n (seen ++ x ∷ []) h e told told') well
