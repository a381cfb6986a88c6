-- How many happenings a session has taken.
use Rattle.std.proofs.Common.{◌≡◌, ℕ, ◌+◌, Bool, true, false, [], ◌∷◌, ◌++◌, length, Option, Some, None, refl, sym, ap, ◌∙◌, length-append}
use Rattle.std.specs.Prelude.{is_some, option_and_then, unwrap_or, if◌then◌else◌}
use Rattle.rd_base.specs.History.{Entry, History}
use Rattle.rd_base.specs.declared.values.Ending.{Ending}
use Rattle.rd_rules.specs.Exchange.{Rules}
use Rattle.rd_rules.specs.Sent.{stop, final, taken}
use Rattle.rd_rules.specs.Trouble.{trouble}
use Rattle.rd_rules.proofs.Acted.{no_stop, stop_next}
use Rattle.rd_rules.proofs.Stays.{stop-append}

-- a live session takes one happening more
taken_live : (r : Rules) (h : History) (e : Entry) → final r h ≡ None → length (taken r (h ++ e ∷ [])) ≡ length (taken r h) + 1
taken_live r h e live =
    ap (λ o. length (unwrap_or o (h ++ e ∷ []))) (stop_next r h e (no_stop r h live))
    ∙ by (is_some (trouble r (h ++ e ∷ [])))
    ∙ length-append h (e ∷ [])
    ∙ sym (ap (λ o. length (unwrap_or o h) + 1) (no_stop r h live))
  where
    by : (b : Bool) → length (unwrap_or (if b then Some (h ++ e ∷ []) else None) (h ++ e ∷ [])) ≡ length (h ++ e ∷ [])
    by true = refl
    by false = refl

-- one that has ended takes none
taken_over : (r : Rules) (h : History) (e : Entry) (x : Ending) → final r h ≡ Some x → taken r (h ++ e ∷ []) ≡ taken r h
taken_over r h e x over = by (stop r h) refl over
  where
    by : (o : Option History) → stop r h ≡ o → option_and_then (trouble r) o ≡ Some x → taken r (h ++ e ∷ []) ≡ taken r h
    by None stopped is = absurd (cc is)
    by (Some g) stopped is =
        ap (λ o. unwrap_or o (h ++ e ∷ [])) (stop-append r h (e ∷ []) g stopped) ∙ sym (ap (λ o. unwrap_or o h) stopped)

-- a happening counts while the session is live, and not behind its ending
pub events_live : (r : Rules) (h : History) (e : Entry) (ending : Option Ending) (events : ℕ) → ending ≡ final r h → is_some ending ≡ false → events ≡ length (taken r h) → events + 1 ≡ length (taken r (h ++ e ∷ []))
events_live r h e None events is live was = ap (λ n. n + 1) was ∙ sym (taken_live r h e (sym is))
events_live r h e (Some x) events is live was = absurd (cc live)

pub events_over : (r : Rules) (h : History) (e : Entry) (ending : Option Ending) (events : ℕ) → ending ≡ final r h → is_some ending ≡ true → events ≡ length (taken r h) → events ≡ length (taken r (h ++ e ∷ []))
events_over r h e None events is live was = absurd (cc live)
events_over r h e (Some x) events is live was = was ∙ sym (ap length (taken_over r h e x (sym is)))

-- nothing is taken of an empty history
pub none_taken : (r : Rules) → length (taken r []) ≡ 0
none_taken r = by (is_some (trouble r []))
  where
    by : (b : Bool) → length {A = Entry} (unwrap_or (if b then Some [] else None) []) ≡ 0
    by true = refl
    by false = refl
