-- How a session's run goes on, turn by turn.
use Rattle.std.proofs.Common.{◌≡◌, ℕ, zero, suc, ◌+◌, ◌-◌, ◌<◌, ◌≤◌, Bool, true, false, cond, List, [], ◌∷◌, ◌++◌, length, map, fold, Option, Some, None, refl, sym, ap, ap₂, ◌∙◌, subst, ⊎_elim, ◌⊎◌, inl, inr, append_assoc, append-nil, arith, le_refl, drop}
use Rattle.std.specs.Prelude.{is_some, unwrap_or}
use Rattle.std.specs.List.{flat_map}
use Rattle.std.proofs.lemmas.List.Concat.{flat_map-append}
use Rattle.rd_base.specs.Outside.{SinkTold, Rose, HoldsPrefix, held_with}
use Rattle.rd_base.specs.History.{History, Entry, Row, is_well_formed}
use Rattle.rd_base.specs.declared.values.Link.{Link}
use Rattle.rd_base.specs.declared.values.Ending.{Ending}
use Rattle.rd_base.specs.declared.values.Ending.TheVariants.{LinkFault, NoMemory}
use Rattle.rd_base.specs.declared.values.What.TheVariants as what
use Rattle.rd_dialect.specs.Grammar.{Grammar}
use Rattle.rd_reading.specs.Seen.{rules_of}
use Rattle.rd_reading.specs.declared.setup.Setup.{Setup}
use Rattle.rd_core.specs.Standing.{Seen}
use Rattle.rd_rules.specs.Exchange.{Rules}
use Rattle.rd_rules.specs.Trouble.{or_else}
use Rattle.rd_rules.specs.Sent.{final, sent, sent_past}
use Rattle.rd_rules.proofs.Acted.{front_follows}
use Rattle.rd_turn.specs.declared.log.LogEntry.{LogEntry}
use Rattle.rd_turn.specs.declared.running.Over.{Over}
use Rattle.rd_turn.specs.declared.running.Counts.{Counts}
use Rattle.rd_turn.specs.Sinks.{AreOpen, sink_at, Wrote, Broke, AllWrote, WroteTo}
use Rattle.rd_turn.specs.Acts.{WroteStep, WroteTurn, Goes, Went, GaveUp}
use Rattle.rd_turn.specs.Turns.{Turn, Did, Took, Looked, Stopped, Outside, after_turn, stamp, entry_at, step_of, failure, told_in, turn_entries, turn_step, history_of, told_of, logged, rules_by, IsInTime, AreTimely, IsAmong, AreAmong, item_taken}
use Rattle.rd_turn.specs.Runs.{AreCounts, BrokeOff, FailsLast, WroteSent, EndsBy, Truly, HasRun, Runs, RunsTruly}
use Rattle.rd_turn.proofs.Asked.{map_snoc}
use Rattle.rd_rules.proofs.FailedWrites.{failed_final}
use Rattle.rd_rules.proofs.QuietWrites.{sent_same, exchanges_same, masked_same}
use Rattle.rd_turn.proofs.Writes.{wrote_nothing}

pub wrote_at_start : (f : ℕ → List ℕ) (sinks : List SinkTold) → AreOpen sinks → ((l : ℕ) → f l ≡ []) → AllWrote f sinks sinks
wrote_at_start f sinks writable none = record { same = refl; wrote = λ l lt. wrote_nothing (f l) _ (writable l lt) (none l) }

fold_snoc : {A B : Type 0} (f : B → A → B) (b : B) (xs : List A) (x : A) → fold f b (xs ++ x ∷ []) ≡ f (fold f b xs) x
fold_snoc f b [] x = refl
fold_snoc f b (y ∷ xs) x = fold_snoc f (f b y) xs x

map_append : {A B : Type 0} (f : A → B) (xs ys : List A) → map f (xs ++ ys) ≡ map f xs ++ map f ys
map_append f [] ys = refl
map_append f (x ∷ xs) ys = ap (λ l. f x ∷ l) (map_append f xs ys)

pub history_snoc : (base : ℕ) (turns : List Turn) (t : Turn) → history_of base (turns ++ t ∷ []) ≡ history_of base turns ++ turn_entries base t
history_snoc base turns t = flat_map-append (turn_entries base) turns (t ∷ []) ∙ ap (λ s. history_of base turns ++ s) (append-nil (turn_entries base t))

-- ---- what is asked

asks_more : (o1 o2 o3 : Outside) (turns : List Turn) (t : Turn) → o2 ≡ fold after_turn o1 turns → o3 ≡ after_turn o2 t → o3 ≡ fold after_turn o1 (turns ++ t ∷ [])
asks_more o1 o2 o3 turns t all one = one ∙ ap (λ o. after_turn o t) all ∙ sym (fold_snoc after_turn o1 turns t)

-- ---- what is logged

pub log_more : (base : ℕ) (turns : List Turn) (t : Turn) (log later : List LogEntry) → log ≡ map logged (history_of base turns) → later ≡ log ++ map logged (turn_entries base t) → later ≡ map logged (history_of base (turns ++ t ∷ []))
log_more base turns t log later is more = more ∙ ap (λ l. l ++ map logged (turn_entries base t)) is ∙ sym (map_append logged (history_of base turns) (turn_entries base t)) ∙ ap (map logged) (sym (history_snoc base turns t))

told_more : (turns : List Turn) (t : Turn) (told later : List Row) → told ≡ told_of turns → later ≡ told ++ told_in t → later ≡ told_of (turns ++ t ∷ [])
told_more turns t told later is more = more ∙ ap (λ l. l ++ told_in t) is ∙ sym (flat_map-append told_in turns (t ∷ []) ∙ ap (λ s. told_of turns ++ s) (append-nil (told_in t)))

-- ---- what is timely

timely_snoc : (r : Rules) (base : ℕ) (h : History) (turns : List Turn) (t : Turn) → AreTimely r base h turns → IsInTime r base (h ++ history_of base turns) t → AreTimely r base h (turns ++ t ∷ [])
timely_snoc r base h [] t all one = (subst (λ g. IsInTime r base g t) (append-nil h) one, tt)
timely_snoc r base h (s ∷ turns) t all one = (
  all.0,
  timely_snoc r base (h ++ turn_entries base s) turns t all.1
      (subst (λ g. IsInTime r base g t) (sym (append_assoc h (turn_entries base s) (history_of base turns))) one),
)

among_snoc : (n : ℕ) (turns : List Turn) (t : Turn) → AreAmong n turns → IsAmong n t.failed → AreAmong n (turns ++ t ∷ [])
among_snoc n [] t all one = (one, tt)
among_snoc n (s ∷ turns) t all one = (all.0, among_snoc n turns t all.1 one)

fails_snoc : (turns : List Turn) (t : Turn) (failed : Option Link) → FailsLast turns None → t.failed ≡ failed → FailsLast (turns ++ t ∷ []) failed
fails_snoc [] t failed none last = last
fails_snoc (s ∷ []) t failed none last = (none, last)
fails_snoc (s ∷ u ∷ turns) t failed none last = (none.0, fails_snoc (u ∷ turns) t failed none.1 last)

-- ---- what is written

le_trans : (a b c : ℕ) → a ≤ b → b ≤ c → a ≤ c
le_trans a b c p q = omega (arith, p, q)

held_twice : (held : Option (List ℕ)) (xs ys : List ℕ) → held_with (held_with held xs) ys ≡ held_with held (xs ++ ys)
held_twice None xs ys = refl
held_twice (Some had) xs ys = ap Some (append_assoc had xs ys)

wrote_join : (xs ys zs : List ℕ) (a b c : SinkTold) → zs ≡ xs ++ ys → Wrote xs a b → Wrote ys b c → Wrote zs a c
wrote_join xs ys zs a b c is p q = record {
  held = q.held ∙ ap (λ o. held_with o ys) p.held ∙ held_twice a.held xs ys ∙ ap (held_with a.held) (sym is);
  stays = record {
    faults = le_trans a.faults b.faults c.faults p.stays.faults q.stays.faults;
    stays_open = q.stays.stays_open;
    mark = q.stays.mark ∙ p.stays.mark;
  };
}

all_join : (f m k : ℕ → List ℕ) (olds mids news : List SinkTold) → ((l : ℕ) → k l ≡ f l ++ m l) → AllWrote f olds mids → AllWrote m mids news → AllWrote k olds news
all_join f m k olds mids news is p q = record {
  same = q.same ∙ p.same;
  wrote = λ l lt. wrote_join (f l) (m l) (k l) (sink_at olds l) (sink_at mids l) (sink_at news l) (is l) (p.wrote l lt) (q.wrote l (let e = p.same in omega (arith, e, lt)));
}

all_same : (f k : ℕ → List ℕ) (olds mids news : List SinkTold) → ((l : ℕ) → k l ≡ f l) → news ≡ mids → AllWrote f olds mids → AllWrote k olds news
all_same f k olds mids news is same p = subst (AllWrote k olds) (sym same) (record {
  same = p.same;
  wrote = λ l lt. subst (λ bytes. Wrote bytes (sink_at olds l) (sink_at mids l)) (sym (is l)) (p.wrote l lt);
})

-- a step has one entry at most
pub record IsOne (at : ℕ) (did : Did) (told : List Row) : Type 0 where
  pub entry : Entry
  pub is : step_of at did told ≡ entry ∷ []
  pub moment : entry.at ≡ at

pub at_most_one : (at : ℕ) (did : Did) (told : List Row) → (step_of at did told ≡ []) ⊎ IsOne at did told
at_most_one at (Took l x) told = inr (record { entry = _; is = refl; moment = refl })
at_most_one at (Looked true) told = inr (record { entry = _; is = refl; moment = refl })
at_most_one at (Looked false) told = inl refl
at_most_one at Stopped told = inr (record { entry = _; is = refl; moment = refl })

wrote_on : (r : Rules) (h : History) (at : ℕ) (did : Did) (told : List Row) (olds mids news : List SinkTold) → AllWrote (λ l. sent r l h) olds mids
    → WroteTurn r h (step_of at did told) None mids news
    → ((l : ℕ) → sent r l (h ++ step_of at did told) ≡ sent r l h ++ sent_past r h (h ++ step_of at did told) l)
    → AllWrote (λ l. sent r l (h ++ step_of at did told)) olds news
wrote_on r h at did told olds mids news p w adds = ⊎_elim
    (λ (t : step_of at did told ≡ []). all_same (λ l. sent r l h) (λ l. sent r l (h ++ step_of at did told)) olds mids news
    (λ l. ap (λ s. sent r l (h ++ s)) t ∙ ap (sent r l) (append-nil h))
    (subst (λ s. WroteTurn r h s None mids news) t w).0 p)
    (λ (t : IsOne at did told). all_join (λ l. sent r l h) (λ l. sent_past r h (h ++ step_of at did told) l) (λ l. sent r l (h ++ step_of at did told)) olds mids news adds p
    (subst (λ s. AllWrote (sent_past r h (h ++ s)) mids news) (sym t.is) (subst (λ s. WroteTurn r h s None mids news) t.is w)))
    (at_most_one at did told)

no_fault : (r : Rules) (h : History) (w : Link) (mids news : List SinkTold) → WroteTurn r h [] (Some w) mids news → ⊥
no_fault r h w mids news p = cc

rise : (a b c : ℕ) → a ≤ b → Rose b c → Rose a c
rise a b c le (inl lt) = inl (omega (arith, le, lt))
rise a b c le (inr last) = inr last

wrote_off : (r : Rules) (h : History) (at : ℕ) (did : Did) (told : List Row) (w : Link) (olds mids news : List SinkTold) → AllWrote (λ l. sent r l h) olds mids
    → WroteTurn r h (step_of at did told) (Some w) mids news
    → ((l : ℕ) → sent r l (h ++ step_of at did told) ≡ sent r l h ++ sent_past r h (h ++ step_of at did told) l)
    → BrokeOff r ((h ++ step_of at did told) ++ failure at (Some w)) w olds news
wrote_off r h at did told w olds mids news p q adds = by (at_most_one at did told)
  where
    later : History
    later = (h ++ step_of at did told) ++ failure at (Some w)

    broke : IsOne at did told → BrokeOff r later w olds news
    broke t =
        let e : Entry = t.entry in
        let step : WroteTo w.0 (sent_past r h (h ++ e ∷ [])) mids news = subst (λ s. WroteTurn r h s (Some w) mids news) t.is q in
        let more : (l : ℕ) → sent r l (h ++ e ∷ []) ≡ sent r l h ++ sent_past r h (h ++ e ∷ []) l = subst (λ s. (l : ℕ) → sent r l (h ++ s) ≡ sent r l h ++ sent_past r h (h ++ s) l) t.is adds in
        let same : (l : ℕ) → sent r l later ≡ sent r l (h ++ e ∷ []) = λ l. sent_same r (h ++ step_of at did told) at w l ∙ ap (λ s. sent r l (h ++ s)) t.is in
        let size : length mids ≡ length olds = p.same in
        let link : w.0 < length mids = step.is_link in
        let inside : w.0 < length olds = omega (arith, size, link) in
        let first = p.wrote w.0 inside in
        record {
          before = h;
          step = e;
          are = ap (λ s. (h ++ s) ++ failure at (Some w)) t.is ∙ ap (λ m. (h ++ e ∷ []) ++ entry_at m (what.WriteFail w) [] ∷ []) (sym t.moment);
          same = step.same ∙ size;
          is_link = inside;
          all = λ l lt. wrote_join (sent r l h) (sent_past r h (h ++ e ∷ []) l) (sent r l later) (sink_at olds l) (sink_at mids l) (sink_at news l) (same l ∙ more l) (p.wrote l (omega (arith, lt, inside))) (step.before l lt);
          part = subst (λ bytes. HoldsPrefix (held_with (sink_at olds w.0).held (sent r w.0 h)) (sink_at news w.0).held (drop (length (sent r w.0 h)) bytes)) (sym (same w.0))
              (subst (λ o. HoldsPrefix o (sink_at news w.0).held (sent_past r h (h ++ e ∷ []) w.0)) first.held step.here.held);
          fault = rise (sink_at olds w.0).faults (sink_at mids w.0).faults (sink_at news w.0).faults first.stays.faults step.here.rose;
          mark = step.here.stays.mark ∙ first.stays.mark;
          none = λ l more_than lt. subst (Wrote (sent r l h) (sink_at olds l)) (sym (step.behind l more_than)) (p.wrote l lt);
        }

    by : (step_of at did told ≡ []) ⊎ IsOne at did told → BrokeOff r later w olds news
    by (inl t) = absurd (no_fault r h w mids news (subst (λ s. WroteTurn r h s (Some w) mids news) t q))
    by (inr t) = broke t

-- ---- turns that go on, break off or give up

entries_none : (base : ℕ) (t : Turn) → t.failed ≡ None → turn_entries base t ≡ turn_step base t
entries_none base t fine = ap (λ o. turn_step base t ++ failure (stamp base t) o) fine ∙ append-nil (turn_step base t)

well_front : (copies : ℕ) (g h e : History) → g ≡ h ++ e → is_well_formed copies g ≡ true → is_well_formed copies h ≡ true
well_front copies g h e is well = front_follows copies [] h e (ap (is_well_formed copies) (sym is) ∙ well)

-- the turns so far, and one that goes on
pub runs_on : (r : Rules) (base : ℕ) (o1 o2 o3 : Outside) (log log' : List LogEntry) (told told' : List Row) (at at' : History → Type 0) (olds mids news : List SinkTold) (t : Turn)
    → (h : Runs r base o1 o2 log told at olds mids)
    → o3 ≡ after_turn o2 t
    → Went r base at at' log log' told told' mids news t → t.failed ≡ None
    → Runs r base o1 o3 log' told' at' olds news
runs_on r base o1 o2 o3 log log' told told' at at' olds mids news t h more w fine =
    let so_far = history_of base h.turns in
    let grown : history_of base (h.turns ++ t ∷ []) ≡ so_far ++ turn_step base t = history_snoc base h.turns t ∙ ap (λ s. so_far ++ s) (entries_none base t fine) in
    record {
      turns = h.turns ++ t ∷ [];
      asks = asks_more o1 o2 o3 h.turns t h.asks more;
      among = among_snoc (r.limits.copies + 1) h.turns t h.among w.among;
      fails = fails_snoc h.turns t None h.fails fine;
      log = log_more base h.turns t log log' h.log w.log;
      rows = told_more h.turns t told told' h.rows w.rows;
      truly = λ well.
          let was = h.truly (well_front r.limits.copies (history_of base (h.turns ++ t ∷ [])) so_far (turn_step base t) grown well) in
          let goes = w.goes so_far (ap (is_well_formed r.limits.copies) (sym grown) ∙ well) was.stands in
          record {
            timely = timely_snoc r base [] h.turns t was.timely goes.timely;
            stands = subst at' (sym grown) goes.stands;
            wrote = subst (λ g. AllWrote (λ l. sent r l g) olds news) (sym grown)
                (wrote_on r so_far (stamp base t) t.did (told_in t) olds mids news was.wrote (subst (λ o. WroteTurn r so_far (turn_step base t) o mids news) fine goes.wrote) goes.adds);
          };
    }

-- no further turn: the session has ended
pub runs_out : (r : Rules) (base : ℕ) (o1 o2 : Outside) (log : List LogEntry) (told : List Row) (at : History → Type 0) (olds news : List SinkTold) (end : Ending) (counts : Counts)
    → Runs r base o1 o2 log told at olds news
    → ((h : History) → at h → Some end ≡ final r h)
    → ((h : History) → at h → AreCounts r h counts)
    → HasRun r base o1 o2 log told (record { ending = end; failed = None; back = None; counts = counts }) olds news
runs_out r base o1 o2 log told at olds news end counts h ends counted = record {
  turns = h.turns;
  given_up = [];
  asks = h.asks ∙ ap (fold after_turn o1) (sym (append-nil h.turns));
  among = subst (AreAmong (r.limits.copies + 1)) (sym (append-nil h.turns)) h.among;
  log = h.log;
  rows = h.rows;
  truly = λ well. let was = h.truly (ap (λ ts. is_well_formed r.limits.copies (history_of base ts)) (sym (append-nil h.turns)) ∙ well) in record {
    timely = was.timely;
    fails = h.fails;
    wrote = was.wrote;
    ends = (sym (ends (history_of base h.turns) was.stands), refl);
    counts = counted (history_of base h.turns) was.stands;
  };
}

counts_same : (r : Rules) (h : History) (at : ℕ) (w : Link) (c : Counts) → AreCounts r h c → AreCounts r (h ++ failure at (Some w)) c
counts_same r h at w c p = record { exchanges = p.exchanges ∙ sym (exchanges_same r h at w); masked = p.masked ∙ sym (masked_same r h at w) }

-- a last turn, whose write failed
pub runs_off : (r : Rules) (base : ℕ) (o1 o2 o3 : Outside) (log log' : List LogEntry) (told told' : List Row) (at at' : History → Type 0) (olds mids news : List SinkTold) (t : Turn) (w : Link) (seen : Option Ending) (end : Ending) (counts : Counts)
    → length olds ≡ r.limits.copies + 1
    → Runs r base o1 o2 log told at olds mids
    → o3 ≡ after_turn o2 t
    → Went r base at at' log log' told told' mids news t → t.failed ≡ Some w
    → ((h : History) → at' h → seen ≡ final r h)
    → ((h : History) → at' h → AreCounts r h counts)
    → Some end ≡ or_else seen (Some (LinkFault w))
    → HasRun r base o1 o3 log' told' (record { ending = end; failed = Some w; back = None; counts = counts }) olds news
runs_off r base o1 o2 o3 log log' told told' at at' olds mids news t w seen end counts size h more went fault sees counted ends =
    let so_far = history_of base h.turns in
    let turns = h.turns ++ t ∷ [] in
    let entries : turn_entries base t ≡ turn_step base t ++ failure (stamp base t) (Some w) = ap (λ o. turn_step base t ++ failure (stamp base t) o) fault in
    let grown : history_of base turns ≡ (so_far ++ turn_step base t) ++ failure (stamp base t) (Some w) =
    history_snoc base h.turns t ∙ ap (λ s. so_far ++ s) entries ∙ sym (append_assoc so_far (turn_step base t) (failure (stamp base t) (Some w))) in
    record {
      turns = turns;
      given_up = [];
      asks = asks_more o1 o2 o3 h.turns t h.asks more ∙ ap (fold after_turn o1) (sym (append-nil turns));
      among = subst (AreAmong (r.limits.copies + 1)) (sym (append-nil turns)) (among_snoc (r.limits.copies + 1) h.turns t h.among went.among);
      log = log_more base h.turns t log log' h.log went.log;
      rows = told_more h.turns t told told' h.rows went.rows;
      truly = λ well.
          let well_step = well_front r.limits.copies (history_of base (turns ++ [])) (so_far ++ turn_step base t) (failure (stamp base t) (Some w)) (ap (history_of base) (append-nil turns) ∙ grown) well in
          let was = h.truly (front_follows r.limits.copies [] so_far (turn_step base t) well_step) in
          let goes = went.goes so_far well_step was.stands in
          let broke = wrote_off r so_far (stamp base t) t.did (told_in t) w olds mids news was.wrote (subst (λ o. WroteTurn r so_far (turn_step base t) o mids news) fault goes.wrote) goes.adds in
          let link : w.0 < r.limits.copies + 1 = (let b = broke.is_link in omega (arith, b, size)) in
          record {
            timely = timely_snoc r base [] h.turns t was.timely goes.timely;
            fails = fails_snoc h.turns t (Some w) h.fails fault;
            wrote = subst (λ g. BrokeOff r g w olds news) (sym grown) broke;
            ends = (ap (final r) grown ∙ failed_final r (so_far ++ turn_step base t) (stamp base t) w link ∙ ap (λ o. or_else o (Some (LinkFault w))) (sym (sees (so_far ++ turn_step base t) goes.stands)) ∙ sym ends, refl);
            counts = subst (λ g. AreCounts r g counts) (sym grown) (counts_same r (so_far ++ turn_step base t) (stamp base t) w counts (counted (so_far ++ turn_step base t) goes.stands));
          };
    }

-- a last turn, which met want of memory
pub runs_up : (r : Rules) (base : ℕ) (o1 o2 o3 : Outside) (log log' : List LogEntry) (told told' : List Row) (at : History → Type 0) (olds mids news : List SinkTold) (t : Turn) (over : Over)
    → Runs r base o1 o2 log told at olds mids
    → o3 ≡ after_turn o2 t
    → GaveUp r base at log log' told told' mids news over.back t
    → ((h : History) → at h → AreCounts r h over.counts)
    → over.ending ≡ NoMemory → over.failed ≡ None
    → HasRun r base o1 o3 log' told' over olds news
runs_up r base o1 o2 o3 log log' told told' at olds mids news t over h more gave counted ending fine =
    let so_far = history_of base h.turns in
    let grown : history_of base (h.turns ++ t ∷ []) ≡ so_far ++ turn_step base t = history_snoc base h.turns t ∙ ap (λ s. so_far ++ s) (entries_none base t gave.failed) in
    record {
      turns = h.turns;
      given_up = t ∷ [];
      asks = asks_more o1 o2 o3 h.turns t h.asks more;
      among = among_snoc (r.limits.copies + 1) h.turns t h.among (subst (IsAmong (r.limits.copies + 1)) (sym gave.failed) tt);
      log = gave.log ∙ h.log;
      rows = gave.rows ∙ h.rows;
      truly = λ well.
          let well_step : is_well_formed r.limits.copies (so_far ++ turn_step base t) ≡ true = ap (is_well_formed r.limits.copies) (sym grown) ∙ well in
          let was = h.truly (front_follows r.limits.copies [] so_far (turn_step base t) well_step) in
          record {
            timely = was.timely;
            fails = subst (FailsLast h.turns) (sym fine) h.fails;
            wrote = subst (λ o. WroteSent r so_far o olds news) (sym fine) (subst (AllWrote (λ l. sent r l so_far) olds) (sym gave.sinks) was.wrote);
            ends = (ending, gave.back, fine, refl, gave.begins so_far well_step was.stands);
            counts = counted so_far was.stands;
          };
    }

-- before the first turn
pub runs_start : (r : Rules) (base : ℕ) (o : Outside) (log : List LogEntry) (told : List Row) (at : History → Type 0) (sinks : List SinkTold)
    → log ≡ [] → told ≡ [] → at [] → AllWrote (λ l. sent r l []) sinks sinks → Runs r base o o log told at sinks sinks
runs_start r base o log told at sinks none untold begins unsent = record {
  turns = [];
  asks = refl;
  among = tt;
  fails = refl;
  log = none;
  rows = untold;
  truly = λ well. record { timely = tt; stands = begins; wrote = unsent };
}

pub same_rules : {D : Type 0} (g : D → Grammar) (s t : Seen D) → t.dialect ≡ s.dialect → t.setup ≡ s.setup → rules_by g t ≡ rules_by g s
same_rules g s t d l = ap₂ (λ gr (setup : Setup). rules_of gr setup) (ap g d) l

pub some_or : (o : Option Ending) (e : Ending) → Some (unwrap_or o e) ≡ or_else o (Some e)
some_or None e = refl
some_or (Some x) e = refl
