-- A write that failed ends a session that is live, and is nothing to one that has ended.
use Rattle.std.proofs.Common.{◌≡◌, ℕ, zero, suc, ◌+◌, ◌<◌, Bool, true, false, cond, [], ◌∷◌, ◌++◌, length, Option, Some, None, refl, sym, ap, ◌∙◌, ⊎_elim, ◌⊎◌, inl, inr, arith}
use Rattle.std.specs.Prelude.{◌==◌, ◌||◌, is_some, option_and_then, find}
use Rattle.std.specs.List.{list_any}
use Rattle.std.specs.Option.{option_or}
use Rattle.std.proofs.lemmas.Bool.{eqb-true, eq-eqb}
use Rattle.std.proofs.lemmas.List.Folds.{find-append}
use Rattle.rd_base.specs.Words.{below}
use Rattle.rd_base.specs.History.{History, Entry}
use Rattle.rd_base.specs.declared.values.Link.{Link}
use Rattle.rd_base.specs.declared.values.Ending.{Ending}
use Rattle.rd_base.specs.declared.values.Ending.TheVariants.{LinkFault}
use Rattle.rd_rules.specs.Exchange.{Rules, reading}
use Rattle.rd_rules.specs.Trouble.{trouble, first_trouble, trouble_of, now_of, unsolicited, stopped, late, full_log_at, or_else, fails, link_fault, link_fault_at}
use Rattle.rd_rules.specs.Sent.{final}
use Rattle.rd_rules.proofs.Acted.{no_stop, no_trouble, stop_next, some_stop}
use Rattle.rd_rules.specs.Laws.{failed_write}

pub first_none : (a b : Option Ending) → or_else a b ≡ None → a ≡ None
first_none None b e = refl
first_none (Some x) b e = absurd (cc e)

pub fault_none : (o : Option ℕ) → link_fault_at o ≡ None → o ≡ None
fault_none None e = refl
fault_none (Some l) e = absurd (cc e)

or_none : (a b : Option ℕ) → option_or a b ≡ None → (a ≡ None) × (b ≡ None)
or_none None b e = (refl, e)
or_none (Some x) b e = absurd (cc e)

single_none : (test : ℕ → Bool) (n : ℕ) → find test (n ∷ []) ≡ None → test n ≡ false
single_none test n e = go (test n) refl e
  where
    go : (b : Bool) → test n ≡ b → cond b (Some n) None ≡ None → test n ≡ false
    go true t q = absurd (cc q)
    go false t q = t

lt_or : (a b : ℕ) → a < suc b → (a < b) ⊎ (a ≡ b)
lt_or zero zero lt = inr refl
lt_or zero (suc b) lt = inl (omega arith)
lt_or (suc a) zero lt = absurd (omega (arith, lt))
lt_or (suc a) (suc b) lt = ⊎_elim (λ t. inl (omega (arith, t))) (λ t. inr (ap suc t)) (lt_or a b (omega (arith, lt)))

pub all_false : (test : ℕ → Bool) (m l : ℕ) → find test (below m) ≡ None → l < m → test l ≡ false
all_false test zero l e lt = absurd (omega (arith, lt))
all_false test (suc m) l e lt =
    let both = or_none (find test (below m)) (find test (m ∷ [])) (sym (find-append test (below m) (m ∷ [])) ∙ e) in
    ⊎_elim (λ (t : l < m). all_false test m l both.0 t) (λ (t : l ≡ m). ap test t ∙ single_none test m both.1) (lt_or l m lt)

pub none_found : (test : ℕ → Bool) (m : ℕ) → ((l : ℕ) → l < m → test l ≡ false) → find test (below m) ≡ None
none_found test zero quiet = refl
none_found test (suc m) quiet =
    find-append test (below m) (m ∷ [])
    ∙ ap (λ o. option_or o (find test (m ∷ []))) (none_found test m (λ l lt. quiet l (omega (arith, lt))))
    ∙ ap (λ b. cond b (Some m) None) (quiet m (omega arith))

found : (test : ℕ → Bool) (m w : ℕ) → w < m → test w ≡ true → ((l : ℕ) → l < w → test l ≡ false) → find test (below m) ≡ Some w
found test zero w lt here quiet = absurd (omega (arith, lt))
found test (suc m) w lt here quiet =
    find-append test (below m) (m ∷ [])
    ∙ ⊎_elim
    (λ (t : w < m). ap (λ o. option_or o (find test (m ∷ []))) (found test m w t here quiet))
    (λ (t : w ≡ m).
    ap (λ o. option_or o (find test (m ∷ []))) (none_found test m (λ l less. quiet l (omega (arith, t, less))))
    ∙ ap (λ b. cond b (Some m) None) (ap test (sym t) ∙ here)
    ∙ ap Some (sym t))
    (lt_or w m lt)

pub any_snoc : (test : Entry → Bool) (h : History) (e : Entry) → list_any test (h ++ e ∷ []) ≡ (list_any test h || list_any test (e ∷ []))
any_snoc test [] e = refl
any_snoc test (x ∷ h) e = go (test x) (any_snoc test h e)
  where
    go : (b : Bool) → list_any test (h ++ e ∷ []) ≡ (list_any test h || list_any test (e ∷ [])) → (b || list_any test (h ++ e ∷ [])) ≡ ((b || list_any test h) || list_any test (e ∷ []))
    go true q = refl
    go false q = q

not_same : (l w : ℕ) → l < w → (l == w) ≡ false
not_same l w lt = go (l == w) (eqb-true l w)
  where
    go : (b : Bool) → (b ≡ true → l ≡ w) → b ≡ false
    go true same = absurd (let e = same refl in omega (arith, e, lt))
    go false same = refl

pub or_false : (b : Bool) → (b || false) ≡ b
or_false true = refl
or_false false = refl

fault_found : (n : ℕ) (h : History) (at : ℕ) (w : Link) → w.0 < n + 1 → link_fault n h ≡ None → link_fault n (h ++ failed_write at w ∷ []) ≡ Some (LinkFault w)
fault_found n h at w lt none =
    let e : Entry = failed_write at w in
    let before : (l : ℕ) → l < n + 1 → list_any (λ x. fails l x.what) h ≡ false = λ l less. all_false (λ l. list_any (λ x. fails l x.what) h) (n + 1) l (fault_none (find (λ l. list_any (λ x. fails l x.what) h) (below (n + 1))) none) less in
    let now : (l : ℕ) → l < n + 1 → list_any (λ x. fails l x.what) (h ++ e ∷ []) ≡ (l == w.0) =
    λ l less. any_snoc (λ x. fails l x.what) h e ∙ ap (λ b. b || list_any (λ x. fails l x.what) (e ∷ [])) (before l less) ∙ or_false (l == w.0) in
    ap link_fault_at (found (λ l. list_any (λ x. fails l x.what) (h ++ e ∷ [])) (n + 1) w.0 lt
    (now w.0 lt ∙ eq-eqb w.0 w.0 refl)
    (λ l less. now l (omega (arith, less, lt)) ∙ not_same l w.0 less))

-- the ending behind a failed write: that of before, else the fault of its link
pub failed_final : (r : Rules) (h : History) (at : ℕ) (w : Link) → w.0 < r.limits.copies + 1
    → final r (h ++ failed_write at w ∷ []) ≡ or_else (final r h) (Some (LinkFault w))
failed_final r h at w lt = by (final r h) refl
  where
    later : History
    later = h ++ failed_write at w ∷ []

    by : (o : Option Ending) → final r h ≡ o → final r later ≡ or_else o (Some (LinkFault w))
    by (Some x) is = (some_stop r h (failed_write at w) (ap is_some is)).1 ∙ is
    by None is =
        let quiet = first_none (link_fault r.limits.copies h) (or_else (stopped h) (late r h)) (first_none (first_trouble r h) (or_else (unsolicited r h) (or_else (trouble_of r (now_of r (reading r h))) (full_log_at (length h)))) (no_trouble r h is)) in
        let fault = fault_found r.limits.copies h at w lt quiet in
        let trouble_is : trouble r later ≡ Some (LinkFault w) =
        ap (λ o. or_else (or_else o (or_else (stopped later) (late r later))) (or_else (unsolicited r later) (or_else (trouble_of r (now_of r (reading r later))) (full_log_at (length later))))) fault in
        ap (option_and_then (trouble r)) (stop_next r h (failed_write at w) (no_stop r h is) ∙ ap (λ o. cond (is_some o) (Some later) None) trouble_is)
        ∙ trouble_is
