-- One step of a session, over histories.
use Rattle.std.proofs.Common.{◌≡◌, ℕ, zero, suc, ◌+◌, ◌-◌, Bool, true, false, List, [], ◌∷◌, ◌++◌, length, drop, map, max, min, Option, Some, None, refl, sym, ap, ap₂, ◌∙◌, length-append, cond, append-nil, Result, Ok, Err}
use Rattle.std.specs.Prelude.{is_some, option_and_then, IfOk, OnOk, unwrap_or, ◌||◌, ◌&&◌, nat_le, ◌^◌}
use Rattle.std.proofs.lemmas.List.{drop_at, length-map}
use Rattle.rd_base.specs.declared.values.What.{What}
use Rattle.rd_base.specs.declared.values.What.TheVariants.{Piece, End, ReadFail, WriteFail, Timer, Stop}
use Rattle.rd_base.specs.declared.values.Ending.{Ending}
use Rattle.rd_base.specs.declared.values.Ending.TheVariants as ending
use Rattle.rd_base.specs.declared.bytes.NoMemory.{NoMemory}
use Rattle.rd_base.specs.declared.sends.Send.{Send}
use Rattle.rd_base.specs.Sent.{send_of, sends_to}
use Rattle.rd_base.specs.Words.{without_last}
use Rattle.rd_base.specs.History.{History, Entry, is_well_formed, piece_of, ends, moment, is_timer}
use Rattle.rd_dialect.specs.Grammar.{Grammar}
use Rattle.rd_dialect.specs.Laws.{Lawful}
use Rattle.rd_rules.specs.Exchange.{Rules, Exchange, Front, Open, Reading, reading, read, note, out_list}
use Rattle.rd_rules.specs.Given.{given, own_after, masked_on, agreed_on}
use Rattle.rd_base.specs.declared.values.Side.TheVariants.{Incoming, Outgoing}
use Rattle.rd_rules.specs.Step.{grow, grow_by, grow_front, grow_front_by, with_done, given_now}
use Rattle.rd_rules.specs.Wait.{Wait, wait, same_wait, began_by, due_moment, limit_of}
use Rattle.rd_rules.specs.Trouble.{Now, now_of, ends_by, trouble_of, trouble, or_else, unsolicited, unsolicited_at, unsolicited_by, first_trouble, link_fault, stopped, late, is_timer_entry, full_log_at}
use Rattle.rd_rules.specs.Sent.{final, acted, acted_of, sent, sent_past}
use Rattle.rd_rules.proofs.Steps.{reading-append}
use Rattle.rd_rules.proofs.Acted.{not_both, no_stop, no_trouble, stop_next, last_of, front_of, acted_live, acted_by, acted_next, some_stop, front_follows}
use Rattle.rd_rules.proofs.GivenSteps.{given_next, own_after-append}
use Rattle.rd_rules.proofs.Moments.{began_next, moment_next}
use Rattle.rd_core.proofs.Tallied.{tally_of, tally_on, tally_held, tally_over, tally_start}
use Rattle.rd_core.proofs.LinkSends.{sends_to-more}
use Rattle.rd_core.proofs.Faulty.{fault_next, no_fault, nothing_fails}
use Rattle.rd_core.specs.Faults.{fault_by}
use Rattle.rd_core.specs.Standing.{Standing, Seen, Tally, tally_after, Counts, IsTimed, IsAt, next_reading, now_after, wait_at, began_at, standing_after, due_at, late_at, ending_at, Goes, Steps, SendsMore}

-- ---- the reading, one happening further

or_false : (b : Bool) → (b || false) ≡ b
or_false true = refl
or_false false = refl

grow_one : (e : Entry) (o : Open) → grow (e ∷ []) o ≡ grow_by e.what o
grow_one e o = ap₂ (λ bs b. record { link = o.link; bytes = o.bytes ++ bs; is_ended = o.is_ended || b }) (append-nil (piece_of o.link e.what)) (or_false (ends o.link e.what))

grow_all : (e : Entry) (os : List Open) → map (grow (e ∷ [])) os ≡ map (grow_by e.what) os
grow_all e [] = refl
grow_all e (o ∷ os) = ap₂ (λ x xs. x ∷ xs) (grow_one e o) (grow_all e os)

grow_front_one : (e : Entry) (p : Front) → grow_front (e ∷ []) p ≡ grow_front_by e.what p
grow_front_one e p = ap₂ (λ os ps. record { phase = p.phase; asking = os; answering = ps }) (grow_all e p.asking) (grow_all e p.answering)

pub reading_next : (r : Rules) → Lawful r.grammar → (h : History) (e : Entry) → is_well_formed r.limits.copies (h ++ e ∷ []) ≡ true
    → reading r (h ++ e ∷ []) ≡ with_done (reading r h).done (next_reading r (now_of r (reading r h)) e)
reading_next r laws h e w =
    reading-append r laws h (e ∷ []) w
    ∙ ap (λ p. with_done (reading r h).done (read r.grammar r.limits.mask (r.limits.exchanges_max - length (reading r h).done) p)) (grow_front_one e (reading r h).left)

ends_by-append : (g : Grammar) (b : Bool) (xs ys : List Exchange) → ends_by g b (xs ++ ys) ≡ ends_by g (ends_by g b xs) ys
ends_by-append g b [] ys = refl
ends_by-append g b (x ∷ xs) ys = ends_by-append g (g.is_farewell (note g x.ask)) xs ys

now_next : (r : Rules) (now next : Reading) → now_of r (with_done now.done next) ≡ now_after r (now_of r now) next
now_next r now next =
    ap₂ (λ (n : ℕ) (f : Bool). record { count = n; bye = f; own = own_after r [] (now.done ++ next.done); left = next.left; out = next.out })
    (length-append now.done next.done) (ends_by-append r.grammar false now.done next.done)
    ∙ ap (λ rows. record { count = length now.done + length next.done; bye = ends_by r.grammar (ends_by r.grammar false now.done) next.done; own = rows; left = next.left; out = next.out })
    (own_after-append r [] now.done next.done)

-- ---- the ending, one happening further

or_else_none : (a b : Option Ending) → or_else a b ≡ None → a ≡ None
or_else_none None b e = refl
or_else_none (Some x) b e = cc

final_by : (f : History → Option Ending) (h : History) (o : Option Ending) → f h ≡ o → option_and_then f (cond (is_some o) (Some h) None) ≡ o
final_by f h None is = refl
final_by f h (Some t) is = is

pub unsolicited_next : (r : Rules) (h : History) (e : Entry) → unsolicited r (h ++ e ∷ []) ≡ unsolicited_by r.grammar (now_of r (reading r h)) e.what
unsolicited_next r h e = ap₂ (unsolicited_at r) (last_of h e) (ap (reading r) (front_of h e))

pub final_next : (r : Rules) (h : History) (e : Entry) → final r h ≡ None → final r (h ++ e ∷ []) ≡ trouble r (h ++ e ∷ [])
final_next r h e q = ap (option_and_then (trouble r)) (stop_next r h e (no_stop r h q)) ∙ final_by (trouble r) (h ++ e ∷ []) (trouble r (h ++ e ∷ [])) refl

-- what comes after the first troubles
abbrev rest_of : Rules → History → Option Ending
rest_of r h = or_else (trouble_of r (now_of r (reading r h))) (full_log_at (length h))

or_else_assoc : (a b c : Option Ending) → or_else a (or_else b c) ≡ or_else (or_else a b) c
or_else_assoc None b c = refl
or_else_assoc (Some x) b c = refl

abbrev failed : Rules → History → Option Ending
failed r h = or_else (link_fault r.limits.copies h) (stopped h)

first_is : (r : Rules) (h : History) → first_trouble r h ≡ or_else (failed r h) (late r h)
first_is r h = or_else_assoc (link_fault r.limits.copies h) (stopped h) (late r h)

nothing_failed : (r : Rules) (h : History) → final r h ≡ None → failed r h ≡ None
nothing_failed r h q =
    or_else_none (failed r h) (late r h) (sym (first_is r h) ∙ or_else_none (first_trouble r h) (or_else (unsolicited r h) (rest_of r h)) (no_trouble r h q))

-- nothing fails up to h, so what fails now is what this entry fails
first_next : (r : Rules) (h : History) (e : Entry) → final r h ≡ None → first_trouble r (h ++ e ∷ []) ≡ or_else (fault_by r.limits.copies e.what) (late r (h ++ e ∷ []))
first_next r h e q = first_is r (h ++ e ∷ []) ∙ ap (λ f. or_else f (late r (h ++ e ∷ []))) (fault_next r.limits.copies h e (nothing_failed r h q))

trouble_on : (r : Rules) (h : History) (e : Entry) → final r h ≡ None → unsolicited r (h ++ e ∷ []) ≡ None
    → trouble r (h ++ e ∷ []) ≡ or_else (or_else (fault_by r.limits.copies e.what) (late r (h ++ e ∷ []))) (rest_of r (h ++ e ∷ []))
trouble_on r h e q u = ap₂ (λ f o. or_else f (or_else o (rest_of r (h ++ e ∷ [])))) (first_next r h e q) u

-- only a look at the clock is late
late_look : (r : Rules) (h : History) (e : Entry) → late r (h ++ e ∷ []) ≡ cond (is_timer e.what && nat_le (due_moment r (h ++ e ∷ [])) (moment (h ++ e ∷ []))) (Some (ending.Late (wait r (h ++ e ∷ [])).which)) None
late_look r h e = ap (λ o. cond (is_timer_entry o && nat_le (due_moment r (h ++ e ∷ [])) (moment (h ++ e ∷ []))) (Some (ending.Late (wait r (h ++ e ∷ [])).which)) None) (last_of h e)

no_look : (g : Grammar) (now : Now) (w : What) (x : Ending) → unsolicited_by g now w ≡ Some x → is_timer w ≡ false
no_look g now (Piece l bytes) x u = refl
no_look g now (End l) x u = refl
no_look g now (ReadFail l) x u = refl
no_look g now (WriteFail l) x u = refl
no_look g now Timer x u = cc
no_look g now Stop x u = refl

trouble_held : (r : Rules) (h : History) (e : Entry) (x : Ending) → final r h ≡ None → unsolicited r (h ++ e ∷ []) ≡ Some x → trouble r (h ++ e ∷ []) ≡ Some x
trouble_held r h e x q u =
    let by : unsolicited_by r.grammar (now_of r (reading r h)) e.what ≡ Some x = sym (unsolicited_next r h e) ∙ u in
    let quiet : fault_by r.limits.copies e.what ≡ None = no_fault r.limits.copies r.grammar (now_of r (reading r h)) e.what x by in
    let on_time : late r (h ++ e ∷ []) ≡ None = late_look r h e ∙ ap (λ b. cond (b && nat_le (due_moment r (h ++ e ∷ [])) (moment (h ++ e ∷ []))) (Some (ending.Late (wait r (h ++ e ∷ [])).which)) None) (no_look r.grammar (now_of r (reading r h)) e.what x by) in
    ap₂ (λ f o. or_else f (or_else o (rest_of r (h ++ e ∷ [])))) (first_next r h e q ∙ ap₂ or_else quiet on_time) u

-- the entry is withheld
pub acted_held : (r : Rules) (h : History) (e : Entry) (x : Ending) → final r h ≡ None → unsolicited r (h ++ e ∷ []) ≡ Some x → acted r (h ++ e ∷ []) ≡ h
acted_held r h e x q u =
    ap (acted_of r (h ++ e ∷ [])) (stop_next r h e (no_stop r h q))
    ∙ ap (λ o. acted_of r (h ++ e ∷ []) (cond (is_some o) (Some (h ++ e ∷ [])) None)) (trouble_held r h e x q u)
    ∙ ap (λ o. cond (is_some o) (without_last (h ++ e ∷ [])) (h ++ e ∷ [])) u
    ∙ front_of h e

-- ---- a step of a session

sends_same : (f g : ℕ → List ℕ) → ((l : ℕ) → f l ≡ g l) → (n : ℕ) → sends_to n f ≡ sends_to n g
sends_same f g same zero = refl
sends_same f g same (suc n) = sends_to-more n f ∙ ap₂ (λ s bs. s ++ send_of n bs) (sends_same f g same n) (same n) ∙ sym (sends_to-more n g)

abbrev wait_same : (r : Rules) (h : History) → wait_at r.side (now_of r (reading r h)) ≡ wait r h
wait_same r h = refl

module _ {D : Type 0} (r : Rules) (laws : Lawful r.grammar) (old : Seen D) (h : History) (at : IsAt r old h) (e : Entry) (w : is_well_formed r.limits.copies (h ++ e ∷ []) ≡ true) where
  none : old.ending ≡ None → final r h ≡ None
  none live = sym at.ending ∙ live

  live_stage : old.ending ≡ None → old.at.stage ≡ now_of r (reading r h)
  live_stage live = at.stage ∙ ap (λ g. now_of r (reading r g)) (acted_live r h (none live))

  next_stage : old.ending ≡ None → now_after r old.at.stage (next_reading r old.at.stage e) ≡ now_of r (reading r (h ++ e ∷ []))
  next_stage live =
      ap (λ (s : Now). now_after r s (next_reading r s e)) (live_stage live)
      ∙ sym (now_next r (reading r h) (next_reading r (now_of r (reading r h)) e))
      ∙ ap (now_of r) (sym (reading_next r laws h e w))

  -- what the step finds to be withheld is what the definition withholds
  unsolicited_is : old.ending ≡ None → unsolicited r (h ++ e ∷ []) ≡ unsolicited_by r.grammar old.at.stage e.what
  unsolicited_is live = unsolicited_next r h e ∙ ap (λ s. unsolicited_by r.grammar s e.what) (sym (live_stage live))

  next_moment : old.ending ≡ None → max old.at.moment e.at ≡ moment (h ++ e ∷ [])
  next_moment live = ap (λ m. max m e.at) (at.timed live).latest ∙ sym (moment_next h e)

  next_began : (new : Now) → old.ending ≡ None → new ≡ now_of r (reading r (h ++ e ∷ [])) → began_at r.side old.at new (max old.at.moment e.at) ≡ moment (began_by (wait r) (h ++ e ∷ []))
  next_began new live is =
      ap₂ (λ (s t : Now). cond (same_wait (wait_at r.side s) (wait_at r.side t)) old.at.began (max old.at.moment e.at)) (live_stage live) is
      ∙ ap₂ (λ m n. cond (same_wait (wait r h) (wait r (h ++ e ∷ []))) m n) (at.timed live).since (next_moment live)
      ∙ sym (began_next r h e)

  standing_is : (new : Standing) → old.ending ≡ None → new ≡ standing_after r old.at e → (new.stage ≡ now_of r (reading r (h ++ e ∷ []))) × IsTimed r new (h ++ e ∷ [])
  standing_is new live is =
      let stage : new.stage ≡ now_of r (reading r (h ++ e ∷ [])) = ap (λ s. s.stage) is ∙ next_stage live in (
        stage,
        record {
          count = ap (λ s. s.entries) is ∙ ap (λ n. n + 1) (at.timed live).count ∙ sym (length-append h (e ∷ []));
          latest = ap (λ s. s.moment) is ∙ next_moment live;
          since = ap (λ s. s.began) is ∙ next_began (now_after r old.at.stage (next_reading r old.at.stage e)) live (next_stage live);
        },
      )

  late_is : (new : Standing) → new.stage ≡ now_of r (reading r (h ++ e ∷ [])) → IsTimed r new (h ++ e ∷ []) → late_at r.side r.limits (is_timer e.what) new ≡ late r (h ++ e ∷ [])
  late_is new stage timed =
      let waits : wait_at r.side new.stage ≡ wait r (h ++ e ∷ []) = ap (wait_at r.side) stage in
      let due : due_at r.side r.limits new ≡ due_moment r (h ++ e ∷ []) = ap₂ (λ b (v : Wait). min (b + limit_of r.limits v.which) (2 ^ 64 - 1)) timed.since waits in
      ap₂ (λ b (v : Wait). cond (is_timer e.what && b) (Some (ending.Late v.which)) None) (ap₂ nat_le due timed.latest) waits
      ∙ sym (late_look r h e)

  ending_is : (new : Standing) → old.ending ≡ None → unsolicited r (h ++ e ∷ []) ≡ None → new ≡ standing_after r old.at e → ending_at r e new ≡ final r (h ++ e ∷ [])
  ending_is new live u is =
      let stands = standing_is new live is in
      ap₂ (λ a b. or_else (or_else (fault_by r.limits.copies e.what) a) b) (late_is new stands.0 stands.1) (ap₂ (λ (s : Now) n. or_else (trouble_of r s) (full_log_at n)) stands.0 stands.1.count)
      ∙ sym (trouble_on r h e (none live) u)
      ∙ sym (final_next r h e (none live))

  counts_on : (new : Tally) → old.ending ≡ None → unsolicited r (h ++ e ∷ []) ≡ None → new ≡ tally_after r old.at.stage (next_reading r old.at.stage e) old.tally → new ≡ tally_of r (h ++ e ∷ [])
  counts_on new live u is =
      is
      ∙ ap₂ (λ (s : Now) (t : Tally). tally_after r s (next_reading r s e) t) (live_stage live) at.tally
      ∙ sym (tally_on r laws h e (next_reading r (now_of r (reading r h)) e) w (none live) (acted_next r h e (none live) u) (reading_next r laws h e w))

  goes_at : (new : Seen D) (sends : List Send) → old.ending ≡ None → unsolicited r (h ++ e ∷ []) ≡ None → Goes r old.at e new.at new.ending sends → new.tally ≡ tally_after r old.at.stage (next_reading r old.at.stage e) old.tally → IsAt r new (h ++ e ∷ [])
  goes_at new sends live u goes counts =
      let stands = standing_is new.at live goes.at in
      record {
        stage = stands.0 ∙ ap (λ g. now_of r (reading r g)) (sym (acted_next r h e (none live) u));
        tally = counts_on new.tally live u counts;
        ending = goes.ending ∙ ending_is new.at live u goes.at;
        timed = λ still. stands.1;
      }

  goes_sent : (sends : List Send) (new : Standing) (end : Option Ending) (l : ℕ) → old.ending ≡ None → unsolicited r (h ++ e ∷ []) ≡ None → Goes r old.at e new end sends
      → sent r l (h ++ e ∷ []) ≡ sent r l h ++ given_now r l old.at.stage.own e.told (is_some old.at.stage.out) (next_reading r old.at.stage e)
  goes_sent sends new end l live u goes =
      ap (given r l) (acted_next r h e (none live) u)
      ∙ given_next r laws l h e (next_reading r (now_of r (reading r h)) e) (front_follows r.limits.copies [] h (e ∷ []) w) w (reading_next r laws h e w)
      ∙ ap (λ (s : Now). given r l h ++ given_now r l s.own e.told (is_some s.out) (next_reading r s e)) (sym (live_stage live))
      ∙ ap (λ g. given r l g ++ given_now r l old.at.stage.own e.told (is_some old.at.stage.out) (next_reading r old.at.stage e)) (sym (acted_live r h (none live)))

  held_at : (new : Seen D) (x : Ending) → old.ending ≡ None → unsolicited r (h ++ e ∷ []) ≡ Some x → new.at.stage ≡ old.at.stage → new.ending ≡ Some x → new.tally ≡ record { masked = old.tally.masked; rows = [] } → IsAt r new (h ++ e ∷ [])
  held_at new x live u same end counts =
      record {
        stage = same ∙ live_stage live ∙ ap (λ g. now_of r (reading r g)) (sym (acted_held r h e x (none live) u));
        tally = counts ∙ ap (λ (t : Tally). record { masked = t.masked; rows = [] }) at.tally ∙ sym (tally_held r h e (none live) (acted_held r h e x (none live) u));
        ending = end ∙ sym (trouble_held r h e x (none live) u) ∙ sym (final_next r h e (none live));
        timed = λ still. absurd (cc (end, still));
      }

  steps_at_by : (new : Seen D) (sends : List Send) (o : Option Ending) → old.ending ≡ None → unsolicited_by r.grammar old.at.stage e.what ≡ o → Steps r old.at e new.at new.ending sends → Counts r old.at.stage e old.tally new.tally → IsAt r new (h ++ e ∷ [])
  steps_at_by new sends None live u steps counts = goes_at new sends live (unsolicited_is live ∙ u) (steps.on u) (counts.on u)
  steps_at_by new sends (Some x) live u steps counts = let held = steps.held x u in held_at new x live (unsolicited_is live ∙ u) held.0 held.1 (counts.held x u)

  pub steps_at : (new : Seen D) (sends : List Send) → old.ending ≡ None → Steps r old.at e new.at new.ending sends → Counts r old.at.stage e old.tally new.tally → IsAt r new (h ++ e ∷ [])
  steps_at new sends live steps counts = steps_at_by new sends (unsolicited_by r.grammar old.at.stage e.what) live refl steps counts

  -- what each link is sent by the step, and that these are the sends
  sends_more : (sends : List Send) (more : ℕ → List ℕ) → ((l : ℕ) → sent r l (h ++ e ∷ []) ≡ sent r l h ++ more l) → sends ≡ sends_to (r.limits.copies + 1) more → SendsMore r h e sends
  sends_more sends more adds are =
      let past : (l : ℕ) → more l ≡ sent_past r h (h ++ e ∷ []) l = λ l. sym (drop_at (sent r l h) (more l) (length (sent r l h)) refl) ∙ sym (ap (drop (length (sent r l h))) (adds l)) in
      record {
        adds = λ l. adds l ∙ ap (λ bs. sent r l h ++ bs) (past l);
        are = are ∙ sends_same more (sent_past r h (h ++ e ∷ [])) past (r.limits.copies + 1);
      }

  quiet_sends : (n : ℕ) → sends_to n (λ l. []) ≡ []
  quiet_sends zero = refl
  quiet_sends (suc n) = sends_to-more n (λ l. []) ∙ ap (λ s. s ++ []) (quiet_sends n)

  nothing_more : (sends : List Send) → sends ≡ [] → acted r (h ++ e ∷ []) ≡ acted r h → SendsMore r h e sends
  nothing_more sends quiet same =
      sends_more sends (λ l. []) (λ l. ap (given r l) same ∙ sym (append-nil (sent r l h))) (quiet ∙ sym (quiet_sends (r.limits.copies + 1)))

  steps_sent_by : (new : Standing) (end : Option Ending) (sends : List Send) (o : Option Ending) → old.ending ≡ None → unsolicited_by r.grammar old.at.stage e.what ≡ o → Steps r old.at e new end sends → SendsMore r h e sends
  steps_sent_by new end sends None live u steps =
      let goes = steps.on u in
      sends_more sends (λ l. given_now r l old.at.stage.own e.told (is_some old.at.stage.out) (next_reading r old.at.stage e)) (λ l. goes_sent sends new end l live (unsolicited_is live ∙ u) goes) goes.sent
  steps_sent_by new end sends (Some x) live u steps =
      let held = steps.held x u in
      nothing_more sends held.2 (acted_held r h e x (none live) (unsolicited_is live ∙ u) ∙ sym (acted_live r h (none live)))

  pub steps_sent : (new : Standing) (end : Option Ending) (sends : List Send) → old.ending ≡ None → Steps r old.at e new end sends → SendsMore r h e sends
  steps_sent new end sends live steps = steps_sent_by new end sends (unsolicited_by r.grammar old.at.stage e.what) live refl steps

  pub over_at : is_some old.ending ≡ true → IsAt r old (h ++ e ∷ [])
  over_at over =
      let same = some_stop r h e (ap is_some (sym at.ending) ∙ over) in
      record {
        stage = at.stage ∙ ap (λ g. now_of r (reading r g)) (sym same.0);
        tally = at.tally ∙ sym (tally_over r h e (ap is_some (sym at.ending) ∙ over) same.0);
        ending = at.ending ∙ sym same.1;
        timed = λ still. absurd (not_both old.ending over still);
      }

  pub over_sent : (sends : List Send) → is_some old.ending ≡ true → sends ≡ [] → SendsMore r h e sends
  over_sent sends over quiet = nothing_more sends quiet (some_stop r h e (ap is_some (sym at.ending) ∙ over)).0

pub none_of : (o : Option Ending) → is_some o ≡ false → o ≡ None
none_of None e = refl
none_of (Some x) e = cc

-- ---- the start

pub start_at : {D : Type 0} (r : Rules) (s : Seen D) → s.at.stage ≡ now_of r (reading r []) → s.at.entries ≡ 0 → s.at.moment ≡ 0 → s.at.began ≡ 0 → s.tally.masked ≡ masked_on r.side r (reading r []) → s.tally.rows ≡ [] → s.ending ≡ trouble_of r s.at.stage → IsAt r s []
start_at r s stage entries latest since sum rows end =
    let t = trouble r [] in
    let a : acted r [] ≡ [] = acted_by r [] (is_some t) refl in
    record {
      stage = stage ∙ ap (λ g. now_of r (reading r g)) (sym a);
      tally = ap (λ rs. record { masked = s.tally.masked; rows = rs }) rows ∙ tally_start r s.tally.masked sum a (none_taken (is_some t));
      ending = end ∙ ap (trouble_of r) stage ∙ sym (right_none (trouble_of r (now_of r (reading r []))))
          ∙ sym (ap (λ f. or_else f (or_else (trouble_of r (now_of r (reading r []))) None)) (nothing_fails r)) ∙ sym (final_by (trouble r) [] t refl);
      timed = λ live. record { count = entries; latest = latest; since = since };
    }
  where
    nothing : History
    nothing = []

    none_taken : (b : Bool) → unwrap_or (cond b (Some nothing) None) nothing ≡ nothing
    none_taken true = refl
    none_taken false = refl

    right_none : (o : Option Ending) → or_else o None ≡ o
    right_none None = refl
    right_none (Some x) = refl

pub result_at : {D : Type 0} (r : Rules) → Lawful r.grammar → (old new : Seen D) (e : Entry) (res : Result (List Send) NoMemory) → old.ending ≡ None
    → IfOk res (λ sends. Steps r old.at e new.at new.ending sends)
    → OnOk res (Counts r old.at.stage e old.tally new.tally)
    → OnOk res ((h : History) → is_well_formed r.limits.copies (h ++ e ∷ []) ≡ true → IsAt r old h → IsAt r new (h ++ e ∷ []))
result_at r laws old new e (Ok sends) live steps counts = λ h w at. steps_at r laws old h at e w new sends live steps counts
result_at r laws old new e (Err fail) live steps counts = tt

pub result_sent : {D : Type 0} (r : Rules) → Lawful r.grammar → (old new : Seen D) (e : Entry) (res : Result (List Send) NoMemory) → old.ending ≡ None
    → IfOk res (λ sends. Steps r old.at e new.at new.ending sends)
    → IfOk res (λ sends. (h : History) → is_well_formed r.limits.copies (h ++ e ∷ []) ≡ true → IsAt r old h → SendsMore r h e sends)
result_sent r laws old new e (Ok sends) live steps = λ h w at. steps_sent r laws old h at e w new.at new.ending sends live steps
result_sent r laws old new e (Err fail) live steps = tt

-- what a live session waits for, and until when
pub due_is : {D : Type 0} (r : Rules) (s : Seen D) (h : History) → IsAt r s h → s.ending ≡ None
    → (due_at r.side r.limits s.at ≡ due_moment r h) × ((wait_at r.side s.at.stage).which ≡ (wait r h).which)
due_is r s h at live =
    let stage : s.at.stage ≡ now_of r (reading r h) = at.stage ∙ ap (λ g. now_of r (reading r g)) (acted_live r h (sym at.ending ∙ live)) in
    let waits : wait_at r.side s.at.stage ≡ wait r h = ap (wait_at r.side) stage in
    (ap₂ (λ b (v : Wait). min (b + limit_of r.limits v.which) (2 ^ 64 - 1)) (at.timed live).since waits, ap (λ (v : Wait). v.which) waits)

-- how many exchanges are agreed, by where a session stands
pub agreed_in : (r : Rules) (now : Now) (read : Reading) → now ≡ now_of r read → agreed_on Incoming read ≡ now.count
agreed_in r now read is = sym (ap (λ (n : Now). n.count) is)

pub agreed_out : (r : Rules) (now : Now) (read : Reading) → now ≡ now_of r read → agreed_on Outgoing read ≡ now.count + length (out_list now.out)
agreed_out r now read is =
    length-append (map (λ (x : Exchange). x.ask) read.done) (out_list read.out)
    ∙ ap (λ n. n + length (out_list read.out)) (length-map read.done (λ (x : Exchange). x.ask))
    ∙ sym (ap (λ (n : Now). n.count + length (out_list n.out)) is)
