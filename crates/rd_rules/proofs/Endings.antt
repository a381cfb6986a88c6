-- What a history may end as: Stopped only where a stop was heard, Unsolicited only where its last piece went too far,
-- never Unstarted, never NoMemory.
use Rattle.std.specs.Prelude.{◌≡◌, ℕ, ◌+◌, ◌||◌, ◌&&◌, ◌==◌, nat_le, not, length, map, Bool, true, false, List, [], ◌∷◌, ◌++◌, Option, Some, None, option_map, option_and_then, find, is_some, if◌then◌else◌}
use Rattle.std.specs.List.{list_any, list_all}
use Rattle.std.proofs.Common.{refl, sym, ap, ◌∙◌, true≢false}
use Rattle.std.proofs.lemmas.List.Folds.{list_any-append}
use Rattle.rd_base.specs.Words.{last_of_list, without_last, below}
use Rattle.rd_base.specs.Heard.{Heard, early_verdict}
use Rattle.rd_base.specs.History.{History, Entry, is_stop, moment}
use Rattle.rd_base.specs.declared.values.Link.{Link}
use Rattle.rd_base.specs.declared.values.MaskLimits.{MaskLimits}
use Rattle.rd_base.specs.declared.values.Scan.{Scan}
use Rattle.rd_base.specs.declared.values.Scan.TheVariants.{Whole, More, Bad, TooBig, Unsupported}
use Rattle.rd_base.specs.declared.values.Side.{Side}
use Rattle.rd_base.specs.declared.values.Side.TheVariants.{Incoming, Outgoing}
use Rattle.rd_base.specs.declared.values.What.{What}
use Rattle.rd_base.specs.declared.values.What.TheVariants as what
use Rattle.rd_base.specs.declared.values.Ending.{Ending}
use Rattle.rd_base.specs.declared.values.Ending.TheVariants as ending
use Rattle.rd_base.specs.declared.verdict.Verdict.{Verdict}
use Rattle.rd_base.specs.declared.verdict.Verdict.TheVariants.{Agreed, Disagree, Noise}
use Rattle.rd_dialect.specs.declared.due.Due.{Due}
use Rattle.rd_dialect.specs.Grammar.{Grammar}
use Rattle.rd_rules.specs.Exchange.{Rules, Reading, Open, reading, scan_open}
use Rattle.rd_rules.specs.Trouble.{Now, now_of, or_else, by_links, least_open, link_of, code_of, unsupported_in, blamed, judge_by, broken_on, closed, all_done, retired, scan_trouble, end_trouble, trouble_of, unsolicited_by, unsolicited_at, unsolicited, link_fault, link_fault_at, stopped, stopped_at, late, full_log_at, first_trouble, trouble, disagreed, broken, malformed, too_big, unsupported, due_of, due_opens, is_bad, is_big, open_asking, is_cut, is_left, is_over, goes_past, is_timer_entry, fails}
use Rattle.rd_rules.specs.Early.{heard}
use Rattle.rd_rules.specs.Wait.{wait, due_moment, some_open}
use Rattle.rd_rules.specs.Sent.{final, stop}
use Rattle.rd_rules.proofs.Stops.{shortest_is_prefix}

-- what a history has heard: a stop, and, last, a piece that goes too far
record Told : Type 0 where
  pub stop : Bool
  pub past : Bool

-- a history that has heard these may end so
abbrev may_end : Told → Option Ending → Bool
may_end told None = true
may_end told (Some ending.Stopped) = told.stop
may_end told (Some (ending.Unsolicited l)) = told.past
may_end told (Some ending.Unstarted) = false
may_end told (Some ending.NoMemory) = false
may_end told (Some e) = true

abbrev Fits : Told → Option Ending → Type 0
Fits told o = may_end told o ≡ true

or_fits : (told : Told) (a b : Option Ending) → Fits told a → Fits told b → Fits told (or_else a b)
or_fits told None b p q = q
or_fits told (Some e) b p q = p

links_fits : (told : Told) (side : Side) (a b : Option Ending) → Fits told a → Fits told b → Fits told (by_links side a b)
links_fits told Incoming a b p q = or_fits told a b p q
links_fits told Outgoing a b p q = or_fits told b a q p

if_fits : (told : Told) (c : Bool) (a b : Option Ending) → Fits told a → Fits told b → Fits told (if c then a else b)
if_fits told true a b p q = p
if_fits told false a b p q = q

least_fits : (told : Told) (end : Link → Ending) → ((l : Link) → Fits told (Some (end l))) → (test : Open → Bool) (opens : List Open) → Fits told (least_open end test opens)
least_fits told end fits test opens = go (find test opens)
  where
    go : (o : Option Open) → Fits told (option_map (λ x. end (link_of x.link)) o)
    go None = refl
    go (Some o) = fits (link_of o.link)

code_fits : (told : Told) (l : ℕ) (s : Scan) → Fits told (code_of l s)
code_fits told l (Whole len) = refl
code_fits told l More = refl
code_fits told l Bad = refl
code_fits told l TooBig = refl
code_fits told l (Unsupported code) = refl

unsupported_fits : (told : Told) (g : Grammar) (due : Due) (opens : List Open) → Fits told (unsupported_in g due opens)
unsupported_fits told g due [] = refl
unsupported_fits told g due (o ∷ os) = or_fits told (code_of o.link (scan_open g due o)) (unsupported_in g due os) (code_fits told o.link (scan_open g due o)) (unsupported_fits told g due os)

blamed_fits : (told : Told) (n : ℕ) (v : Verdict) → Fits told (blamed n v)
blamed_fits told n (Agreed masked) = refl
blamed_fits told n (Disagree copy place) = refl
blamed_fits told n (Noise place) = refl

judge_fits : (told : Told) (most : MaskLimits) (n : ℕ) (heard : List Heard) → Fits told (judge_by most n heard)
judge_fits told most n [] = refl
judge_fits told most n (a ∷ []) = refl
judge_fits told most n (a ∷ b ∷ []) = refl
judge_fits told most n (a ∷ b ∷ c ∷ more) = blamed_fits told n (early_verdict most (a ∷ b ∷ c ∷ more))

bigs_fits : (told : Told) (r : Rules) (now : Now) → Fits told (too_big r now)
bigs_fits told r now =
    let due = due_of r.grammar now in
    let one = is_big r.grammar r.limits.unit_max (is_some now.out) due in
    let other = is_big r.grammar r.limits.unit_max (not (is_some now.out)) due in
    let opens = open_asking r.side now.left.asking now.out in
    links_fits told r.side (least_open ending.TooBig one now.left.answering) (least_open ending.TooBig other opens)
    (least_fits told ending.TooBig (λ l. refl) one now.left.answering) (least_fits told ending.TooBig (λ l. refl) other opens)

scans_fits : (told : Told) (r : Rules) (now : Now) → Fits told (scan_trouble r now)
scans_fits told r now = or_fits told (malformed r.grammar now) (or_else (too_big r now) (unsupported r.grammar now))
    (least_fits told ending.Malformed (λ l. refl) (λ o. is_bad (scan_open r.grammar (due_of r.grammar now) o)) (due_opens now))
    (or_fits told (too_big r now) (unsupported r.grammar now) (bigs_fits told r now) (unsupported_fits told r.grammar (due_of r.grammar now) (due_opens now)))

broken_fits : (told : Told) (side : Side) (g : Grammar) (due : Due) (out : Bool) (asking answering : List Open) → Fits told (broken_on side g due out asking answering)
broken_fits told side g due true asking answering = least_fits told ending.Broken (λ l. refl) (is_cut g due) answering
broken_fits told side g due false asking answering =
    let cut = least_open ending.Broken (is_cut g due) asking in
    links_fits told side (least_open ending.Broken is_left answering) (if some_open asking then cut else None)
    (least_fits told ending.Broken (λ l. refl) is_left answering)
    (if_fits told (some_open asking) cut None (least_fits told ending.Broken (λ l. refl) (is_cut g due) asking) refl)

ends_fits : (told : Told) (r : Rules) (now : Now) → Fits told (end_trouble r now)
ends_fits told r now =
    let over = least_open ending.Closed is_over now.left.answering in
    or_fits told (broken r now) (or_else (closed now) (or_else (all_done now) (retired r now)))
    (broken_fits told r.side r.grammar (due_of r.grammar now) (is_some now.out) now.left.asking now.left.answering)
    (or_fits told (closed now) (or_else (all_done now) (retired r now))
    (if_fits told (is_some now.out) None over refl (least_fits told ending.Closed (λ l. refl) is_over now.left.answering))
    (or_fits told (all_done now) (retired r now)
    (if_fits told ((not (is_some now.out) && list_all is_over now.left.asking) || now.bye) (Some ending.Done) None refl refl)
    (if_fits told (now.count == r.limits.exchanges_max) (Some ending.Retired) None refl refl)))

standing_fits : (told : Told) (r : Rules) (now : Now) → Fits told (trouble_of r now)
standing_fits told r now = or_fits told (scan_trouble r now) (or_else (disagreed r now) (end_trouble r now)) (scans_fits told r now)
    (or_fits told (disagreed r now) (end_trouble r now)
    (judge_fits told r.limits.mask (now.count + 1) (map (heard r.grammar (due_of r.grammar now)) (due_opens now)))
    (ends_fits told r now))

abbrev told_of : Bool → Option Ending → Told
told_of stop o = record { stop = stop; past = is_some o }

past_fits : (heard : Bool) (test : Open → Bool) (opens : List Open) (early : Bool)
    → Fits (told_of heard (if early then None else least_open ending.Unsolicited test opens)) (if early then None else least_open ending.Unsolicited test opens)
past_fits heard test opens true = refl
past_fits heard test opens false = go (find test opens)
  where
    end : Option Open → Option Ending
    end o = option_map (λ x. ending.Unsolicited (link_of x.link)) o

    go : (o : Option Open) → Fits (told_of heard (end o)) (end o)
    go None = refl
    go (Some o) = refl

piece_fits : (stop : Bool) (g : Grammar) (now : Now) (w : What) → Fits (told_of stop (unsolicited_by g now w)) (unsolicited_by g now w)
piece_fits stop g now (what.Piece l bytes) =
    past_fits stop (λ (o : Open). (o.link == l.0) && goes_past g now.out (o.bytes ++ bytes)) now.left.answering g.early_replies
piece_fits stop g now (what.End l) = refl
piece_fits stop g now (what.ReadFail l) = refl
piece_fits stop g now (what.WriteFail l) = refl
piece_fits stop g now what.Timer = refl
piece_fits stop g now what.Stop = refl

unsolicited_fits : (stop : Bool) (r : Rules) (e : Option Entry) (before : Reading) → Fits (told_of stop (unsolicited_at r e before)) (unsolicited_at r e before)
unsolicited_fits stop r None before = refl
unsolicited_fits stop r (Some e) before = piece_fits stop r.grammar (now_of r before) e.what

fault_fits : (told : Told) (l : Option ℕ) → Fits told (link_fault_at l)
fault_fits told None = refl
fault_fits told (Some l) = refl

stopped_fits : (stop past : Bool) → Fits (record { stop = stop; past = past }) (stopped_at stop)
stopped_fits true past = refl
stopped_fits false past = refl

abbrev told_by : Rules → History → Told
told_by r h = told_of (list_any (λ e. is_stop e.what) h) (unsolicited r h)

-- no history has a trouble but such a one
trouble_fits : (r : Rules) (h : History) → Fits (told_by r h) (trouble r h)
trouble_fits r h =
    let told : Told = told_by r h in
    let stop : Bool = list_any (λ e. is_stop e.what) h in
    let now = now_of r (reading r h) in
    let full = full_log_at (length h) in
    let is_late = is_timer_entry (last_of_list h) && nat_le (due_moment r h) (moment h) in
    or_fits told (first_trouble r h) (or_else (unsolicited r h) (or_else (trouble_of r now) full))
    (or_fits told (link_fault r.limits.copies h) (or_else (stopped h) (late r h))
    (fault_fits told (find (λ l. list_any (λ e. fails l e.what) h) (below (r.limits.copies + 1))))
    (or_fits told (stopped h) (late r h) (stopped_fits stop (is_some (unsolicited r h)))
    (if_fits told is_late (Some (ending.Late (wait r h).which)) None refl refl)))
    (or_fits told (unsolicited r h) (or_else (trouble_of r now) full)
    (unsolicited_fits stop r (last_of_list h) (reading r (without_last h)))
    (or_fits told (trouble_of r now) full (standing_fits told r now)
    (if_fits told (length h == 1048576) (Some ending.FullLog) None refl refl)))

or_left : (a b : Bool) → a ≡ true → (a || b) ≡ true
or_left true b e = refl
or_left false b e = absurd (true≢false (sym e))

-- the ending is the trouble of the history's front that it stops at
trouble_of_stop : (r : Rules) (h : History) (e : Ending) → final r h ≡ Some e → (g : History) × (stop r h ≡ Some g) × (trouble r g ≡ Some e)
trouble_of_stop r h e is = go (stop r h) refl is
  where
    go : (o : Option History) → stop r h ≡ o → option_and_then (trouble r) o ≡ Some e → (g : History) × (stop r h ≡ Some g) × (trouble r g ≡ Some e)
    go None at q = absurd (cc q)
    go (Some g) at q = (g, at, q)

pub only_stops : (r : Rules) (h : History) → final r h ≡ Some ending.Stopped → list_any (λ e. is_stop e.what) h ≡ true
only_stops r h is =
    let found = trouble_of_stop r h ending.Stopped is in
    let told : list_any (λ x. is_stop x.what) found.0 ≡ true =
    sym (ap (may_end (told_by r found.0)) found.2) ∙ trouble_fits r found.0 in
    let cut = shortest_is_prefix (λ x. is_some (trouble r x)) [] h found.0 found.1 in
    ap (list_any (λ x. is_stop x.what)) (sym cut.2) ∙ list_any-append (λ x. is_stop x.what) cut.0 cut.1
    ∙ or_left _ _ (ap (list_any (λ x. is_stop x.what)) (sym cut.3) ∙ told)

pub never_unstarted : (r : Rules) (h : History) → final r h ≡ Some ending.Unstarted → ⊥
never_unstarted r h is =
    let found = trouble_of_stop r h ending.Unstarted is in
    true≢false (sym (trouble_fits r found.0) ∙ ap (may_end (told_by r found.0)) found.2)

pub never_no_memory : (r : Rules) (h : History) → final r h ≡ Some ending.NoMemory → ⊥
never_no_memory r h is =
    let found = trouble_of_stop r h ending.NoMemory is in
    true≢false (sym (trouble_fits r found.0) ∙ ap (may_end (told_by r found.0)) found.2)

-- where a session ends as Unsolicited, its last piece went too far
pub unsolicited_is_withheld : (r : Rules) (h g : History) → stop r h ≡ Some g → (l : Link) → final r h ≡ Some (ending.Unsolicited l) → is_some (unsolicited r g) ≡ true
unsolicited_is_withheld r h g at l is =
    let shown : trouble r g ≡ Some (ending.Unsolicited l) = sym (ap (option_and_then (trouble r)) at) ∙ is in
    sym (ap (may_end (told_by r g)) shown) ∙ trouble_fits r g
