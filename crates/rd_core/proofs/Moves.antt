-- What a step works out, from what its parts answer.
use Rattle.std.proofs.Common.{◌≡◌, ℕ, ◌+◌, ◌<◌, ◌≤◌, Bool, true, false, cond, not, List, [], ◌∷◌, ◌++◌, length, map, max, Option, Some, None, refl, sym, ap, ap₂, subst, ◌∙◌, arith}
use Rattle.std.specs.Prelude.{is_some, option_map, slice_index_or, find, nat_lt, nat_le, ◌||◌, ◌&&◌, ◌==◌}
use Rattle.std.specs.List.{All}
use Rattle.std.proofs.lemmas.Bool.{and_parts}
use Rattle.std.proofs.lemmas.Bool.Decides.{nat_tests}
use Rattle.std.proofs.lemmas.List.Elements.{All-nil, All-cons}
use Rattle.rd_base.specs.declared.values.Limits.{Limits}
use Rattle.rd_base.specs.declared.values.Side.{Side}
use Rattle.rd_base.specs.declared.values.Side.TheVariants.{Incoming, Outgoing}
use Rattle.rd_base.specs.declared.values.What.{What}
use Rattle.rd_base.specs.declared.values.What.TheVariants.{Piece, End, ReadFail, WriteFail, Timer, Stop}
use Rattle.rd_base.specs.declared.values.Ending.{Ending}
use Rattle.rd_base.specs.declared.values.Ending.TheVariants as ending
use Rattle.rd_base.specs.History.{History, Entry, Row, is_well_formed, may_follow, is_over, piece_of}
use Rattle.rd_dialect.specs.Grammar.{Grammar}
use Rattle.rd_dialect.specs.declared.due.Due.{Due}
use Rattle.rd_rules.specs.Exchange as rule
use Rattle.rd_rules.specs.Exchange.{Rules, reading, read, scan_open}
use Rattle.rd_rules.specs.Given.{masked_on}
use Rattle.rd_rules.specs.Trouble.{Now, now_of, trouble_of, or_else, full_log_at, malformed, too_big, unsupported, disagreed, end_trouble, scan_trouble, big_among, is_big, open_asking, is_too_big, link_of, due_of, by_links}
use Rattle.rd_rules.specs.Step.{grow_front_by, masked_now}
use Rattle.rd_rules.proofs.Outs.{short_grown, short_out, short_out_after, short_with, out_at}
use Rattle.rd_dialect.specs.Laws.{Lawful}
use Rattle.rd_rules.proofs.Streams.{follows_well-append}
use Rattle.rd_reading.specs.declared.setup.Setup.{Setup}
use Rattle.rd_core.specs.declared.stage.Stage.{Stage}
use Rattle.rd_core.specs.declared.clock.Clock.{Clock}
use Rattle.rd_core.specs.declared.watch.Watch.{Watch}
use Rattle.rd_reading.specs.Room.{HasRoom}
use Rattle.rd_reading.specs.Seen.{seen_request, seen_front}
use Rattle.rd_reading.specs.declared.exchange.Request.{Request}
use Rattle.rd_core.specs.Stages.{seen_stage, HasAsked}
use Rattle.rd_core.specs.Clocks.{standing}
use Rattle.rd_core.specs.Kept.{Fits, UnitFits, IsOut, IsKept, HasMore, is_oversized}
use Rattle.rd_core.specs.Standing.{next_reading, now_from, now_after, began_at, standing_by, standing_after}
use Rattle.rd_core.proofs.Watched.{watch_same}

pub is_some-map : {A B : Type 0} (f : A → B) (o : Option A) → is_some (option_map f o) ≡ is_some o
is_some-map f None = refl
is_some-map f (Some x) = refl

or_right : (a b : Option Ending) → or_else a b ≡ None → b ≡ None
or_right None b e = e
or_right (Some x) b e = cc

or_left : (a b : Option Ending) → or_else a b ≡ None → a ≡ None
or_left None b e = refl
or_left (Some x) b e = cc

-- ---- what a live session has room for

either_false : (a b : Bool) → (a || b) ≡ false → a ≡ false
either_false true b e = cc
either_false false b e = refl

le_of : (m n : ℕ) → nat_lt m n ≡ false → n ≤ m
le_of m n e = grind (arith, nat_tests)

-- where no link is too big, each fits
all_small : (g : Grammar) (most : ℕ) (is_due : Bool) (due : Due) (os : List rule.Open) → big_among g most is_due due os ≡ None → All (Fits most) os
all_small g most is_due due [] e = All-nil (Fits most)
all_small g most is_due due (o ∷ os) e = go (λ q. all_small g most is_due due os q) (is_big g most is_due due o) refl e
  where
    rest : Option rule.Open
    rest = find (is_big g most is_due due) os

    go : (option_map (λ o. ending.TooBig (link_of o.link)) rest ≡ None → All (Fits most) os) → (b : Bool) → is_big g most is_due due o ≡ b → option_map (λ o. ending.TooBig (link_of o.link)) (cond b (Some o) rest) ≡ None → All (Fits most) (o ∷ os)
    go ih true is q = cc
    go ih false is q =
        All-cons (Fits most) o os (le_of most (length o.bytes) (either_false (nat_lt most (length o.bytes)) (is_due && is_too_big (scan_open g due o)) is)) (ih q)

pub fits : (r : Rules) (stage : Stage) → trouble_of r (seen_stage stage []) ≡ None
    → All (Fits r.limits.unit_max) (open_asking r.side stage.left.asking.opens.items (option_map seen_request stage.out)) × All (Fits r.limits.unit_max) stage.left.answering.opens.items
fits r stage none =
    let now = seen_stage stage [] in
    let scans : scan_trouble r now ≡ None = or_left (scan_trouble r now) (or_else (disagreed r now) (end_trouble r now)) none in
    let big : too_big r now ≡ None = or_left (too_big r now) (unsupported r.grammar now) (or_right (malformed r.grammar now) (or_else (too_big r now) (unsupported r.grammar now)) scans) in
    let due = due_of r.grammar now in
    let out = is_some now.out in
    let answering = big_among r.grammar r.limits.unit_max out due now.left.answering in
    let asking = big_among r.grammar r.limits.unit_max (not out) due (open_asking r.side now.left.asking now.out) in
    let both = neither r.side answering asking big in
    (all_small r.grammar r.limits.unit_max (not out) due (open_asking r.side now.left.asking now.out) both.1, all_small r.grammar r.limits.unit_max out due now.left.answering both.0)
  where
    neither : (s : Side) (a b : Option Ending) → by_links s a b ≡ None → (a ≡ None) × (b ≡ None)
    neither Incoming a b q = (or_left a b q, or_right a b q)
    neither Outgoing a b q = (or_right b a q, or_left b a q)

not_full : (n : ℕ) → full_log_at n ≡ None → n ≤ 1048576 → n < 1048576
not_full n e le = go (n == 1048576) refl e
  where
    go : (b : Bool) → (n == 1048576) ≡ b → cond b (Some ending.FullLog) None ≡ None → n < 1048576
    go true is q = cc
    go false is q = grind (arith, nat_tests)

-- a session that goes on has room for one entry more
pub has_more : (r : Rules) (setup : Setup) (stage : Stage) (entries : ℕ) (fault trouble end : Option Ending) → r.limits ≡ setup.limits → r.side ≡ setup.side
    → ((ask : rule.Ask) → option_map seen_request stage.out ≡ Some ask → All (UnitFits (setup.limits.unit_max + 16384)) ask.units)
    → trouble ≡ trouble_of r (seen_stage stage []) → end ≡ or_else fault (or_else trouble (full_log_at entries)) → entries ≤ 1048576 → end ≡ None → HasMore setup stage entries
has_more r setup stage entries fault trouble end limits side units is ends le none =
    let rest : or_else trouble (full_log_at entries) ≡ None = or_right fault (or_else trouble (full_log_at entries)) (sym ends ∙ none) in
    let all = fits r stage (sym is ∙ or_left trouble (full_log_at entries) rest) in
    let most : r.limits.unit_max ≡ setup.limits.unit_max = ap (λ (l : Limits). l.unit_max) limits in
    record {
      asking = subst (λ (n : ℕ). All (Fits n) (open_asking setup.side stage.left.asking.opens.items (option_map seen_request stage.out))) most
          (subst (λ (s : Side). All (Fits r.limits.unit_max) (open_asking s stage.left.asking.opens.items (option_map seen_request stage.out))) side all.0);
      units = units;
      answering = subst (λ (n : ℕ). All (Fits n) stage.left.answering.opens.items) most all.1;
      room = not_full entries (or_right trouble (full_log_at entries) rest) le;
    }

-- ---- pieces

sized_piece : (l : ℕ) (w : What) → is_oversized w ≡ false → length (piece_of l w) ≤ 16384
sized_piece l (Piece m bytes) e = by (l == m.0)
  where
    by : (b : Bool) → length (cond b bytes []) ≤ 16384
    by true = le_of 16384 (length bytes) e
    by false = omega arith
sized_piece l (End m) e = omega arith
sized_piece l (ReadFail m) e = omega arith
sized_piece l (WriteFail m) e = omega arith
sized_piece l Timer e = omega arith
sized_piece l Stop e = omega arith

pub has_room : (most : ℕ) (w : What) (os : List rule.Open) → most ≤ 8388608 → is_oversized w ≡ false → All (Fits most) os → All (HasRoom w) os
has_room most w os le sized fit = λ k d lt. let piece = sized_piece (slice_index_or os k d).link w sized in let here = fit k d lt in omega arith

-- all that is open of those that ask, the request that is out among it
asking_fits : (side : Side) (most : ℕ) (os : List rule.Open) (out : Option rule.Ask) → All (Fits most) (open_asking side os out)
    → ((ask : rule.Ask) → out ≡ Some ask → All (UnitFits (most + 16384)) ask.units) → All (Fits (most + (most + 16384))) os
asking_fits Incoming most os out all units = λ k d lt. let here = all k d lt in omega (arith, here)
asking_fits Outgoing most os None all units = λ k d lt. let here = all k d lt in omega (arith, here)
asking_fits Outgoing most os (Some ask) all units = short_with most (most + 16384) os ask.units all (units ask refl)

room_of : (most : ℕ) (w : What) (os : List rule.Open) → most ≤ 8388608 → is_oversized w ≡ false → All (Fits (most + (most + 16384))) os → All (HasRoom w) os
room_of most w os le sized fit = λ k d lt. let piece = sized_piece (slice_index_or os k d).link w sized in let here = fit k d lt in omega arith

pub has_room_asking : (setup : Setup) (stage : Stage) (entries : ℕ) (w : What) → setup.limits.unit_max ≤ 8388608 → is_oversized w ≡ false → HasMore setup stage entries → All (HasRoom w) stage.left.asking.opens.items
has_room_asking setup stage entries w le sized more =
    room_of setup.limits.unit_max w stage.left.asking.opens.items le sized
    (asking_fits setup.side setup.limits.unit_max stage.left.asking.opens.items (option_map seen_request stage.out) more.asking more.units)

-- the units of what is out a step later
pub units_after : (g : Grammar) → Lawful g → (setup : Setup) (stage : Stage) (entries : ℕ) (w : What) (n : ℕ) (ask : rule.Ask) → is_oversized w ≡ false
    → HasMore setup stage entries → IsOut g setup stage → (read g setup.limits.mask n (grow_front_by w (seen_front stage.left))).out ≡ Some ask
    → All (UnitFits (setup.limits.unit_max + 16384)) ask.units
units_after g laws setup stage entries w n ask sized more is_out e = by setup.side more.asking (option_map seen_request stage.out) refl
  where
    most : ℕ
    most = setup.limits.unit_max

    fresh : All (Fits most) stage.left.asking.opens.items → All (UnitFits (most + 16384)) ask.units
    fresh all = short_out g setup.limits.mask (most + 16384) n (grow_front_by w (seen_front stage.left)) ask
        (short_grown most 16384 w stage.left.asking.opens.items (λ l. sized_piece l w sized) all) e

    by : (side : Side) → All (Fits most) (open_asking side stage.left.asking.opens.items (option_map seen_request stage.out)) → (o : Option rule.Ask) → option_map seen_request stage.out ≡ o → All (UnitFits (most + 16384)) ask.units
    by Incoming all o is = fresh all
    by Outgoing all None is = fresh (subst (λ (p : Option rule.Ask). All (Fits most) (open_asking Outgoing stage.left.asking.opens.items p)) is all)
    by Outgoing all (Some before) is =
        short_out_after g laws setup.limits.mask most 16384 w n (seen_front stage.left) before ask (λ l. sized_piece l w sized)
        (is_out before is)
        (subst (λ (p : Option rule.Ask). All (Fits most) (open_asking Outgoing stage.left.asking.opens.items p)) is all)
        (more.units before is) e

-- what is out is asked first, where this is what was read
pub is_out_after : (g : Grammar) (setup : Setup) (stage : Stage) (n : ℕ) (p : rule.Front) → seen_front stage.left ≡ (read g setup.limits.mask n p).left → option_map seen_request stage.out ≡ (read g setup.limits.mask n p).out → IsOut g setup stage
is_out_after g setup stage n p left out ask is = ap (rule.ask_at g setup.limits.mask) left ∙ out_at g setup.limits.mask n p ask (sym out ∙ is)

pub not_oversized : (n : ℕ) (h : History) (e : Entry) → is_well_formed n (h ++ e ∷ []) ≡ true → is_oversized e.what ≡ true → ⊥
not_oversized n h e w over =
    by e.what ((and_parts (may_follow n h e.what) true (follows_well-append n [] h (e ∷ []) w)).0) over
  where
    by : (w : What) → may_follow n h w ≡ true → is_oversized w ≡ true → ⊥
    by (Piece l bytes) may big =
        let size = (and_parts (nat_le l.0 n && nat_le 1 (length bytes) && nat_le (length bytes) 16384) (not (is_over l.0 h)) may).0 in
        let most = (and_parts (nat_le l.0 n && nat_le 1 (length bytes)) (nat_le (length bytes) 16384) size).1 in
        grind (arith, nat_tests)
    by (End l) may big = cc
    by (ReadFail l) may big = cc
    by (WriteFail l) may big = cc
    by Timer may big = cc
    by Stop may big = cc

-- ---- one step

pub moved : (r : Rules) (stage later : Stage) (own after : List Row) (clock then : Clock) (e : Entry) (next : rule.Reading)
    → next ≡ next_reading r (seen_stage stage own) e
    → seen_stage later after ≡ now_from r stage.count stage.bye own next
    → then.entries ≡ clock.entries + 1 → then.moment ≡ max clock.moment e.at
    → then.began ≡ began_at r.side (standing stage [] clock) (seen_stage later []) (max clock.moment e.at)
    → standing later after then ≡ standing_after r (standing stage own clock) e
moved r stage later own after clock then e next next_is stage_is entries moment began =
    let now : seen_stage later after ≡ now_after r (seen_stage stage own) (next_reading r (seen_stage stage own) e) = stage_is ∙ ap (now_from r stage.count stage.bye own) next_is in
    ap₂ (λ (n m : ℕ). record { stage = seen_stage later after; entries = n; moment = m; began = then.began }) entries moment
    ∙ ap (λ b. record { stage = seen_stage later after; entries = clock.entries + 1; moment = max clock.moment e.at; began = b }) began
    ∙ ap (λ (s : Now). standing_by r.side (standing stage own clock) s (max clock.moment e.at)) now

pub first_stage : (r : Rules) (now : rule.Reading) → now_from r 0 false [] now ≡ now_of r now
first_stage r now = let none : 0 + length now.done ≡ length now.done = omega arith in ap (λ n. record (now_of r now) { count = n }) none

pub or_none : (o : Option Ending) → or_else o None ≡ o
or_none None = refl
or_none (Some x) = refl

-- where nothing was heard, nothing is open
no_bytes : (most : ℕ) (ls : List ℕ) → All (Fits most) (map (rule.open_of []) ls)
no_bytes most [] = All-nil (Fits most)
no_bytes most (l ∷ ls) = All-cons (Fits most) (rule.open_of [] l) (map (rule.open_of []) ls) (omega arith) (no_bytes most ls)

pub start_fits : (r : Rules) (most : ℕ) → All (Fits most) (rule.start_front r []).asking
start_fits r most = no_bytes most (rule.askers r.side r.limits.copies)

pub masked_first : (side : Side) (r : Rules) (now : rule.Reading) → masked_now side r false now ≡ masked_on side r now
masked_first Incoming r now = refl
masked_first Outgoing r now = refl

-- ---- a session that stands where it stood

more_same : (setup : Setup) (old new : Stage) (entries : ℕ) → new.out ≡ old.out → seen_front new.left ≡ seen_front old.left → HasMore setup old entries → HasMore setup new entries
more_same setup old new entries out left more =
    let most = setup.limits.unit_max in
    record {
      asking = subst (λ (f : rule.Front). All (Fits most) (open_asking setup.side f.asking (option_map seen_request new.out))) (sym left)
          (subst (λ (o : Option Request). All (Fits most) (open_asking setup.side old.left.asking.opens.items (option_map seen_request o))) (sym out) more.asking);
      units = λ ask is. more.units ask (ap (option_map seen_request) (sym out) ∙ is);
      answering = subst (λ (f : rule.Front). All (Fits most) f.answering) (sym left) more.answering;
      room = more.room;
    }

pub kept_same : (g : Grammar) (setup : Setup) (old new : Stage) (watch : Watch) (entries sum : ℕ) (end : Option Ending) → new.count ≡ old.count → new.out ≡ old.out → seen_front new.left ≡ seen_front old.left
    → IsKept g setup old watch entries sum end → IsKept g setup new watch entries sum end
kept_same g setup old new watch entries sum end count out left kept = record {
  limits = kept.limits;
  count = subst (λ n. n ≤ setup.limits.exchanges_max) (sym count) kept.count;
  asked = subst (HasAsked g) (sym out) kept.asked;
  out = λ ask is. ap (rule.ask_at g setup.limits.mask) left ∙ kept.out ask (ap (option_map seen_request) (sym out) ∙ is);
  seen = watch_same g old new watch out left kept.seen;
  masked = kept.masked;
  more = λ none. more_same setup old new entries out left (kept.more none);
}

-- a session that has ended keeps what a live one did
pub kept_over : (g : Grammar) (setup : Setup) (stage : Stage) (watch : Watch) (entries sum : ℕ) (x : Ending) → IsKept g setup stage watch entries sum None → IsKept g setup stage watch entries sum (Some x)
kept_over g setup stage watch entries sum x kept = record {
  limits = kept.limits;
  count = kept.count;
  asked = kept.asked;
  out = kept.out;
  seen = kept.seen;
  masked = kept.masked;
  more = λ none. absurd (cc none);
}
