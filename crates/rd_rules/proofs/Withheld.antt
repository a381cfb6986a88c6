-- A session withholds exactly where its ending is Unsolicited.
use Rattle.std.proofs.Common.{◌≡◌, ℕ, ◌+◌, ◌<◌, Bool, true, false, cond, List, [], ◌∷◌, ◌++◌, length, Option, Some, None, refl, sym, ap, ◌∙◌, true≢false, ⊎_elim, ◌⊎◌, inl, inr}
use Rattle.std.specs.Prelude.{◌&&◌, is_some, nat_le, option_and_then, unwrap_or, find, if◌then◌else◌}
use Rattle.std.specs.List.{list_any}
use Rattle.rd_base.specs.History.{History, Entry, Row, is_stop, moment, shortest_from}
use Rattle.rd_base.specs.Words.{below, without_last}
use Rattle.rd_base.specs.declared.values.Ending.{Ending}
use Rattle.rd_base.specs.declared.values.Ending.TheVariants as ending
use Rattle.rd_base.specs.declared.values.Link.{Link}
use Rattle.rd_base.specs.declared.values.What.{What}
use Rattle.rd_base.specs.declared.values.What.TheVariants as what
use Rattle.rd_rules.specs.Exchange.{Rules, reading}
use Rattle.rd_rules.specs.Sent.{final, stop}
use Rattle.rd_rules.specs.Trouble.{trouble, first_trouble, trouble_of, now_of, unsolicited, unsolicited_at, unsolicited_by, stopped, stopped_at, late, is_timer_entry, full_log_at, or_else, fails, link_fault, link_fault_at}
use Rattle.rd_rules.specs.Wait.{wait, due_moment}
use Rattle.rd_rules.proofs.Acted.{last_of}
use Rattle.rd_rules.proofs.FailedWrites.{first_none, fault_none, all_false, none_found, any_snoc, or_false}

-- the shortest prefix that passes a test has one entry more than one that doesn't, if it has one
before_shortest : (test : History → Bool) (seen h g : History) → shortest_from test seen h ≡ Some g
    → (g ≡ seen) ⊎ ((front : History) × (e : Entry) × (g ≡ front ++ e ∷ []) × (test front ≡ false))
before_shortest test seen [] g p = go (test seen) p
  where
    go : (c : Bool) → cond c (Some seen) None ≡ Some g → (g ≡ seen) ⊎ ((front : History) × (e : Entry) × (g ≡ front ++ e ∷ []) × (test front ≡ false))
    go true q = inl (sym (ap (λ o. unwrap_or o g) q))
    go false q = absurd (cc q)
before_shortest test seen (x ∷ h) g p = go (before_shortest test (seen ++ x ∷ []) h g) (test seen) refl p
  where
    After : History → Type 0
    After start = (g ≡ start) ⊎ ((front : History) × (e : Entry) × (g ≡ front ++ e ∷ []) × (test front ≡ false))

    go : (shortest_from test (seen ++ x ∷ []) h ≡ Some g → After (seen ++ x ∷ [])) → (c : Bool) → test seen ≡ c → cond c (Some seen) (shortest_from test (seen ++ x ∷ []) h) ≡ Some g
        → (g ≡ seen) ⊎ ((front : History) × (e : Entry) × (g ≡ front ++ e ∷ []) × (test front ≡ false))
    go more true t q = inl (sym (ap (λ o. unwrap_or o g) q))
    go more false t q = ⊎_elim (λ is. inr (seen, x, is, t)) (λ found. inr found) (more q)

abbrev entry : ℕ → What → List Row → Entry
entry at w told = record { at = at; what = w; told = told }

-- behind a history without a trouble a piece is no fault, no stop and no look
piece_first : (r : Rules) (h : History) (at : ℕ) (told : List Row) (l : Link) (bytes : List ℕ) → trouble r h ≡ None
    → first_trouble r (h ++ entry at (what.Piece l bytes) told ∷ []) ≡ None
piece_first r h at told l bytes none =
    let e : Entry = entry at (what.Piece l bytes) told in
    let later : History = h ++ e ∷ [] in
    let first = first_none (first_trouble r h) (or_else (unsolicited r h) (or_else (trouble_of r (now_of r (reading r h))) (full_log_at (length h)))) none in
    let fault = fault_none (find (λ k. list_any (λ x. fails k x.what) h) (below (r.limits.copies + 1))) (first_none (link_fault r.limits.copies h) (or_else (stopped h) (late r h)) first) in
    let quiet : (k : ℕ) → k < r.limits.copies + 1 → list_any (λ x. fails k x.what) later ≡ false =
    λ k lt. any_snoc (λ x. fails k x.what) h e ∙ or_false (list_any (λ x. fails k x.what) h) ∙ all_false (λ k. list_any (λ x. fails k x.what) h) (r.limits.copies + 1) k fault lt in
    let no_fault : link_fault r.limits.copies later ≡ None = ap link_fault_at (none_found (λ k. list_any (λ x. fails k x.what) later) (r.limits.copies + 1) quiet) in
    let no_stop : stopped later ≡ None =
    ap stopped_at (any_snoc (λ x. is_stop x.what) h e ∙ or_false (list_any (λ x. is_stop x.what) h))
    ∙ first_none (stopped h) (late r h) (second_none (link_fault r.limits.copies h) (or_else (stopped h) (late r h)) first) in
    let no_look : late r later ≡ None =
    ap (λ b. if b && nat_le (due_moment r later) (moment later) then Some (ending.Late (wait r later).which) else None) (ap is_timer_entry (last_of h e)) in
    ap (λ o. or_else o (or_else (stopped later) (late r later))) no_fault ∙ ap (λ o. or_else o (late r later)) no_stop ∙ no_look
  where
    second_none : (a b : Option Ending) → or_else a b ≡ None → b ≡ None
    second_none None b e = e
    second_none (Some x) b e = absurd (cc e)

first_some : (a b : Option Ending) → is_some a ≡ true → or_else a b ≡ a
first_some None b e = absurd (true≢false (sym e))
first_some (Some x) b e = refl

no_trouble_by : (o : Option Ending) → is_some o ≡ false → o ≡ None
no_trouble_by None e = refl
no_trouble_by (Some x) e = absurd (true≢false e)

-- where the last piece goes too far, that is the trouble
past_is_trouble : (r : Rules) (h : History) (e : Entry) → trouble r h ≡ None → is_some (unsolicited r (h ++ e ∷ [])) ≡ true
    → trouble r (h ++ e ∷ []) ≡ unsolicited r (h ++ e ∷ [])
past_is_trouble r h e none some = by e.what refl
  where
    later : History
    later = h ++ e ∷ []

    shown : unsolicited r later ≡ unsolicited_by r.grammar (now_of r (reading r (without_last later))) e.what
    shown = ap (λ o. unsolicited_at r o (reading r (without_last later))) (last_of h e)

    others : (w : What) → e.what ≡ w → unsolicited_by r.grammar (now_of r (reading r (without_last later))) w ≡ None → trouble r later ≡ unsolicited r later
    others w is quiet = absurd (true≢false (sym some ∙ ap is_some (shown ∙ ap (unsolicited_by r.grammar (now_of r (reading r (without_last later)))) is ∙ quiet)))

    by : (w : What) → e.what ≡ w → trouble r later ≡ unsolicited r later
    by (what.Piece l bytes) is =
        let same : ◌≡◌ {A = Entry} e (entry e.at (what.Piece l bytes) e.told) = ap (λ (w : What). entry e.at w e.told) is in
        let quiet : first_trouble r later ≡ None = ap (λ (x : Entry). first_trouble r (h ++ x ∷ [])) same ∙ piece_first r h e.at e.told l bytes none in
        ap (λ o. or_else o (or_else (unsolicited r later) (or_else (trouble_of r (now_of r (reading r later))) (full_log_at (length later))))) quiet
        ∙ first_some (unsolicited r later) (or_else (trouble_of r (now_of r (reading r later))) (full_log_at (length later))) some
    by (what.End l) is = others (what.End l) is refl
    by (what.ReadFail l) is = others (what.ReadFail l) is refl
    by (what.WriteFail l) is = others (what.WriteFail l) is refl
    by what.Timer is = others what.Timer is refl
    by what.Stop is = others what.Stop is refl

pub withheld_is_unsolicited : (r : Rules) (h g : History) → stop r h ≡ Some g → is_some (unsolicited r g) ≡ true → final r h ≡ unsolicited r g
withheld_is_unsolicited r h g at some = ap (option_and_then (trouble r)) at ∙ by (before_shortest (λ x. is_some (trouble r x)) [] h g at)
  where
    by : (g ≡ []) ⊎ ((front : History) × (e : Entry) × (g ≡ front ++ e ∷ []) × (is_some (trouble r front) ≡ false)) → trouble r g ≡ unsolicited r g
    by (inl empty) = absurd (true≢false (sym some ∙ ap (λ x. is_some (unsolicited r x)) empty))
    by (inr split) =
        ap (trouble r) split.2
        ∙ past_is_trouble r split.0 split.1 (no_trouble_by (trouble r split.0) split.3) (ap (λ x. is_some (unsolicited r x)) (sym split.2) ∙ some)
        ∙ ap (unsolicited r) (sym split.2)
