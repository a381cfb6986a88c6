-- A history ends as a link's fault only where a read or a write of that link failed.
use Rattle.std.specs.Prelude.{◌≡◌, ℕ, zero, suc, ◌+◌, ◌<◌, ◌||◌, ◌&&◌, ◌==◌, nat_le, not, length, map, Bool, true, false, cond, List, [], ◌∷◌, ◌++◌, Option, Some, None, option_map, option_and_then, unwrap_or, find, is_some, if◌then◌else◌}
use Rattle.std.specs.List.{list_any, list_all}
use Rattle.std.specs.Option.{option_or}
use Rattle.std.proofs.Common.{refl, sym, ap, ◌∙◌, subst, arith}
use Rattle.std.proofs.lemmas.List.Folds.{list_any-append, find-append}
use Rattle.rd_base.specs.Words.{last_of_list, without_last, below}
use Rattle.rd_base.specs.Heard.{Heard, early_verdict}
use Rattle.rd_base.specs.History.{History, Entry, is_stop, moment}
use Rattle.rd_base.specs.declared.values.Link.{Link}
use Rattle.rd_base.specs.declared.values.MaskLimits.{MaskLimits}
use Rattle.rd_base.specs.declared.values.Scan.{Scan}
use Rattle.rd_base.specs.declared.values.Scan.TheVariants.{Whole, More, Bad, TooBig, Unsupported}
use Rattle.rd_base.specs.declared.values.Side.{Side}
use Rattle.rd_base.specs.declared.values.Side.TheVariants.{Incoming, Outgoing}
use Rattle.rd_base.specs.declared.values.What.{What}
use Rattle.rd_base.specs.declared.values.What.TheVariants as what
use Rattle.rd_base.specs.declared.values.Ending.{Ending}
use Rattle.rd_base.specs.declared.values.Ending.TheVariants as ending
use Rattle.rd_base.specs.declared.verdict.Verdict.{Verdict}
use Rattle.rd_base.specs.declared.verdict.Verdict.TheVariants.{Agreed, Disagree, Noise}
use Rattle.rd_dialect.specs.declared.due.Due.{Due}
use Rattle.rd_dialect.specs.Grammar.{Grammar}
use Rattle.rd_rules.specs.Exchange.{Rules, Reading, Open, reading, scan_open}
use Rattle.rd_rules.specs.Trouble.{Now, now_of, or_else, by_links, least_open, link_of, code_of, unsupported_in, blamed, judge_by, broken_on, closed, all_done, retired, scan_trouble, end_trouble, trouble_of, unsolicited_by, unsolicited_at, unsolicited, link_fault, link_fault_at, stopped, late, full_log_at, first_trouble, trouble, disagreed, broken, malformed, too_big, unsupported, due_of, due_opens, is_bad, is_big, open_asking, is_cut, is_left, is_over, goes_past, is_timer_entry, fails}
use Rattle.rd_rules.specs.Early.{heard}
use Rattle.rd_rules.specs.Wait.{wait, due_moment, some_open}
use Rattle.rd_rules.specs.Sent.{stop}
use Rattle.rd_rules.proofs.Stops.{shortest_is_prefix}
use Rattle.rd_run_laws.specs.Causes.{OnlyFaults}

-- ---- each trouble but the first is no link's fault

abbrev IsOther : Option Ending → Type 0
IsOther None = Unit {0}
IsOther (Some (ending.LinkFault l)) = ⊥
IsOther (Some e) = Unit {0}

or_other : (a b : Option Ending) → IsOther a → IsOther b → IsOther (or_else a b)
or_other None b p q = q
or_other (Some e) b p q = p

links_other : (side : Side) (a b : Option Ending) → IsOther a → IsOther b → IsOther (by_links side a b)
links_other Incoming a b p q = or_other a b p q
links_other Outgoing a b p q = or_other b a q p

if_other : (c : Bool) (a b : Option Ending) → IsOther a → IsOther b → IsOther (if c then a else b)
if_other true a b p q = p
if_other false a b p q = q

least_other : (end : Link → Ending) → ((l : Link) → IsOther (Some (end l))) → (test : Open → Bool) (opens : List Open) → IsOther (least_open end test opens)
least_other end other test opens = go (find test opens)
  where
    go : (o : Option Open) → IsOther (option_map (λ x. end (link_of x.link)) o)
    go None = tt
    go (Some o) = other (link_of o.link)

code_other : (l : ℕ) (s : Scan) → IsOther (code_of l s)
code_other l (Whole len) = tt
code_other l More = tt
code_other l Bad = tt
code_other l TooBig = tt
code_other l (Unsupported code) = tt

unsupported_other : (g : Grammar) (due : Due) (opens : List Open) → IsOther (unsupported_in g due opens)
unsupported_other g due [] = tt
unsupported_other g due (o ∷ os) = or_other (code_of o.link (scan_open g due o)) (unsupported_in g due os) (code_other o.link (scan_open g due o)) (unsupported_other g due os)

blamed_other : (n : ℕ) (v : Verdict) → IsOther (blamed n v)
blamed_other n (Agreed masked) = tt
blamed_other n (Disagree copy place) = tt
blamed_other n (Noise place) = tt

judge_other : (most : MaskLimits) (n : ℕ) (heard : List Heard) → IsOther (judge_by most n heard)
judge_other most n [] = tt
judge_other most n (a ∷ []) = tt
judge_other most n (a ∷ b ∷ []) = tt
judge_other most n (a ∷ b ∷ c ∷ more) = blamed_other n (early_verdict most (a ∷ b ∷ c ∷ more))

bigs_other : (r : Rules) (now : Now) → IsOther (too_big r now)
bigs_other r now =
    let due = due_of r.grammar now in
    let one = is_big r.grammar r.limits.unit_max (is_some now.out) due in
    let other = is_big r.grammar r.limits.unit_max (not (is_some now.out)) due in
    let opens = open_asking r.side now.left.asking now.out in
    links_other r.side (least_open ending.TooBig one now.left.answering) (least_open ending.TooBig other opens)
    (least_other ending.TooBig (λ l. tt) one now.left.answering) (least_other ending.TooBig (λ l. tt) other opens)

scans_other : (r : Rules) (now : Now) → IsOther (scan_trouble r now)
scans_other r now = or_other (malformed r.grammar now) (or_else (too_big r now) (unsupported r.grammar now))
    (least_other ending.Malformed (λ l. tt) (λ o. is_bad (scan_open r.grammar (due_of r.grammar now) o)) (due_opens now))
    (or_other (too_big r now) (unsupported r.grammar now) (bigs_other r now) (unsupported_other r.grammar (due_of r.grammar now) (due_opens now)))

broken_other : (side : Side) (g : Grammar) (due : Due) (out : Bool) (asking answering : List Open) → IsOther (broken_on side g due out asking answering)
broken_other side g due true asking answering = least_other ending.Broken (λ l. tt) (is_cut g due) answering
broken_other side g due false asking answering =
    let cut = least_open ending.Broken (is_cut g due) asking in
    links_other side (least_open ending.Broken is_left answering) (if some_open asking then cut else None)
    (least_other ending.Broken (λ l. tt) is_left answering)
    (if_other (some_open asking) cut None (least_other ending.Broken (λ l. tt) (is_cut g due) asking) tt)

ends_other : (r : Rules) (now : Now) → IsOther (end_trouble r now)
ends_other r now =
    let over = least_open ending.Closed is_over now.left.answering in
    or_other (broken r now) (or_else (closed now) (or_else (all_done now) (retired r now)))
    (broken_other r.side r.grammar (due_of r.grammar now) (is_some now.out) now.left.asking now.left.answering)
    (or_other (closed now) (or_else (all_done now) (retired r now))
    (if_other (is_some now.out) None over tt (least_other ending.Closed (λ l. tt) is_over now.left.answering))
    (or_other (all_done now) (retired r now)
    (if_other ((not (is_some now.out) && list_all is_over now.left.asking) || now.bye) (Some ending.Done) None tt tt)
    (if_other (now.count == r.limits.exchanges_max) (Some ending.Retired) None tt tt)))

standing_other : (r : Rules) (now : Now) → IsOther (trouble_of r now)
standing_other r now = or_other (scan_trouble r now) (or_else (disagreed r now) (end_trouble r now)) (scans_other r now)
    (or_other (disagreed r now) (end_trouble r now)
    (judge_other r.limits.mask (now.count + 1) (map (heard r.grammar (due_of r.grammar now)) (due_opens now)))
    (ends_other r now))

piece_other : (g : Grammar) (now : Now) (w : What) → IsOther (unsolicited_by g now w)
piece_other g now (what.Piece l bytes) =
    let past = λ (o : Open). (o.link == l.0) && goes_past g now.out (o.bytes ++ bytes) in
    if_other g.early_replies None (least_open ending.Unsolicited past now.left.answering) tt (least_other ending.Unsolicited (λ l. tt) past now.left.answering)
piece_other g now (what.End l) = tt
piece_other g now (what.ReadFail l) = tt
piece_other g now (what.WriteFail l) = tt
piece_other g now what.Timer = tt
piece_other g now what.Stop = tt

unsolicited_other : (r : Rules) (e : Option Entry) (before : Reading) → IsOther (unsolicited_at r e before)
unsolicited_other r None before = tt
unsolicited_other r (Some e) before = piece_other r.grammar (now_of r before) e.what

-- ---- a trouble that is one is the first

is_first : (a b : Option Ending) (l : Link) → IsOther b → or_else a b ≡ Some (ending.LinkFault l) → a ≡ Some (ending.LinkFault l)
is_first None b l other is = absurd (subst IsOther is other)
is_first (Some e) b l other is = is

of_trouble : (r : Rules) (h : History) (l : Link) → trouble r h ≡ Some (ending.LinkFault l) → link_fault r.limits.copies h ≡ Some (ending.LinkFault l)
of_trouble r h l is =
    let now = now_of r (reading r h) in
    let full = full_log_at (length h) in
    let is_late = is_timer_entry (last_of_list h) && nat_le (due_moment r h) (moment h) in
    is_first (link_fault r.limits.copies h) (or_else (stopped h) (late r h)) l
    (or_other (stopped h) (late r h)
    (if_other (list_any (λ e. is_stop e.what) h) (Some ending.Stopped) None tt tt)
    (if_other is_late (Some (ending.Late (wait r h).which)) None tt tt))
    (is_first (first_trouble r h) (or_else (unsolicited r h) (or_else (trouble_of r now) full)) l
    (or_other (unsolicited r h) (or_else (trouble_of r now) full)
    (unsolicited_other r (last_of_list h) (reading r (without_last h)))
    (or_other (trouble_of r now) full (standing_other r now)
    (if_other (length h == 1048576) (Some ending.FullLog) None tt tt)))
    is)

-- ---- its link

link_in : ℕ → Option Ending → ℕ
link_in other (Some (ending.LinkFault l)) = l.0
link_in other e = other

of_link : (o : Option ℕ) (l : Link) → link_fault_at o ≡ Some (ending.LinkFault l) → o ≡ Some l.0
unfolding link_in
of_link None l is = absurd (cc is)
of_link (Some k) l is = ap Some (ap (link_in 0) is)

found_below : (test : ℕ → Bool) (m k : ℕ) → find test (below m) ≡ Some k → (k < m) × (test k ≡ true)
found_below test zero k is = absurd (cc is)
found_below test (suc m) k is = go (found_below test m k) (find test (below m)) refl (sym (find-append test (below m) (m ∷ [])) ∙ is)
  where
    last : (b : Bool) → test m ≡ b → cond b (Some m) None ≡ Some k → (k < suc m) × (test k ≡ true)
    last true t e = let same : m ≡ k = ap (λ o. unwrap_or o k) e in (omega (arith, same), ap test (sym same) ∙ t)
    last false t e = absurd (cc e)

    go : (find test (below m) ≡ Some k → (k < m) × (test k ≡ true)) → (o : Option ℕ) → find test (below m) ≡ o → option_or o (find test (m ∷ [])) ≡ Some k → (k < suc m) × (test k ≡ true)
    go before None none e = last (test m) refl e
    go before (Some j) some e = let earlier = before (some ∙ e) in let less = earlier.0 in (omega (arith, less), earlier.1)

pub only_faults : OnlyFaults
only_faults r h l is = go (stop r h) refl is
  where
    or_left : (a b : Bool) → a ≡ true → (a || b) ≡ true
    or_left true b e = refl
    or_left false b e = absurd (cc e)

    at : (g : History) → stop r h ≡ Some g → trouble r g ≡ Some (ending.LinkFault l) → (l.0 < r.limits.copies + 1) × (list_any (λ e. fails l.0 e.what) h ≡ true)
    at g stops trouble_is =
        let found = found_below (λ k. list_any (λ e. fails k e.what) g) (r.limits.copies + 1) l.0
        (of_link (find (λ k. list_any (λ e. fails k e.what) g) (below (r.limits.copies + 1))) l (of_trouble r g l trouble_is)) in
        let cut = shortest_is_prefix (λ x. is_some (trouble r x)) [] h g stops in (
          found.0,
          ap (list_any (λ e. fails l.0 e.what)) (sym cut.2) ∙ list_any-append (λ e. fails l.0 e.what) cut.0 cut.1
              ∙ or_left _ _ (ap (list_any (λ e. fails l.0 e.what)) (sym cut.3) ∙ found.1),
        )

    go : (o : Option History) → stop r h ≡ o → option_and_then (trouble r) o ≡ Some (ending.LinkFault l) → (l.0 < r.limits.copies + 1) × (list_any (λ e. fails l.0 e.what) h ≡ true)
    go None stops e = absurd (cc e)
    go (Some g) stops e = at g stops e
