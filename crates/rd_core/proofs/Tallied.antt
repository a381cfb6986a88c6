-- What is masked and learnt, one entry further.
use Rattle.std.proofs.Common.{◌≡◌, ℕ, ◌+◌, Bool, true, false, cond, List, [], ◌∷◌, ◌++◌, length, drop, Option, Some, None, refl, sym, ap, ap₂, subst, ◌∙◌, arith}
use Rattle.std.specs.Prelude.{is_some, unwrap_or, option_and_then}
use Rattle.std.specs.List.{flat_map}
use Rattle.std.proofs.lemmas.List.{drop_at, drop_all}
use Rattle.rd_base.specs.Words.{without_last}
use Rattle.rd_base.specs.History.{History, Entry, is_well_formed}
use Rattle.rd_dialect.specs.Laws.{Lawful}
use Rattle.rd_rules.specs.Exchange.{Rules, Reading, reading}
use Rattle.rd_rules.specs.Given.{exchange_rows, masked_on}
use Rattle.rd_rules.specs.Step.{with_done, masked_now}
use Rattle.rd_rules.specs.Trouble.{now_of, trouble}
use Rattle.rd_rules.specs.Sent.{stop, final, acted, taken, masked, agreed_rows}
use Rattle.rd_rules.proofs.Grows.{Grown}
use Rattle.rd_rules.proofs.Streams.{reading-grown}
use Rattle.rd_rules.proofs.Stays.{stop-append}
use Rattle.rd_rules.proofs.Masks.{masked_next}
use Rattle.rd_rules.proofs.Acted.{no_stop, stop_next, front_of, acted_live}
use Rattle.rd_core.specs.Standing.{Tally, tally_after}

abbrev pub tally_of : Rules → History → Tally
tally_of r h = record { masked = masked r h; rows = agreed_rows r h }

taken_next : (r : Rules) (h : History) (e : Entry) → final r h ≡ None → taken r (h ++ e ∷ []) ≡ h ++ e ∷ []
taken_next r h e q = ap (λ o. unwrap_or o (h ++ e ∷ [])) (stop_next r h e (no_stop r h q)) ∙ by (is_some (trouble r (h ++ e ∷ [])))
  where
    by : (b : Bool) → unwrap_or (cond b (Some (h ++ e ∷ [])) None) (h ++ e ∷ []) ≡ h ++ e ∷ []
    by true = refl
    by false = refl

-- the rows past those of all but the last entry
abbrev rows_past : Rules → History → History → List (List (List ℕ))
rows_past r before now = flat_map (exchange_rows r) (drop (length (reading r before).done) (reading r now).done)

rows_next : (r : Rules) (h : History) (e : Entry) → final r h ≡ None → agreed_rows r (h ++ e ∷ []) ≡ rows_past r h (acted r (h ++ e ∷ []))
rows_next r h e q =
    ap (λ g. rows_past r (acted r (without_last g)) (acted r (h ++ e ∷ []))) (taken_next r h e q)
    ∙ ap (λ g. rows_past r (acted r g) (acted r (h ++ e ∷ []))) (front_of h e)
    ∙ ap (λ g. rows_past r g (acted r (h ++ e ∷ []))) (acted_live r h q)

-- an entry that withholds nothing
pub tally_on : (r : Rules) → Lawful r.grammar → (h : History) (e : Entry) (next : Reading) → is_well_formed r.limits.copies (h ++ e ∷ []) ≡ true → final r h ≡ None
    → acted r (h ++ e ∷ []) ≡ h ++ e ∷ [] → reading r (h ++ e ∷ []) ≡ with_done (reading r h).done next
    → tally_of r (h ++ e ∷ []) ≡ tally_after r (now_of r (reading r h)) next (tally_of r h)
tally_on r laws h e next w q acts is =
    let now = reading r h in
    let grown : Grown now (with_done now.done next) = subst (λ x. Grown now x) is (reading-grown r laws h (e ∷ []) w) in
    let sum : masked r (h ++ e ∷ []) ≡ masked r h + masked_now r.side r (is_some now.out) next =
    ap (λ g. masked_on r.side r (reading r g)) acts ∙ ap (masked_on r.side r) is ∙ masked_next r now next grown
    ∙ ap (λ g. masked_on r.side r (reading r g) + masked_now r.side r (is_some now.out) next) (sym (acted_live r h q)) in
    let rows : agreed_rows r (h ++ e ∷ []) ≡ flat_map (exchange_rows r) next.done =
    rows_next r h e q ∙ ap (rows_past r h) acts ∙ ap (λ (x : Reading). flat_map (exchange_rows r) (drop (length now.done) x.done)) is
    ∙ ap (flat_map (exchange_rows r)) (drop_at now.done next.done (length now.done) refl) in
    ap₂ (λ n rs. record { masked = n; rows = rs }) sum rows

-- an entry that is withheld
pub tally_held : (r : Rules) (h : History) (e : Entry) → final r h ≡ None → acted r (h ++ e ∷ []) ≡ h → tally_of r (h ++ e ∷ []) ≡ record { masked = masked r h; rows = [] }
tally_held r h e q acts =
    let sum : masked r (h ++ e ∷ []) ≡ masked r h = ap (λ g. masked_on r.side r (reading r g)) (acts ∙ sym (acted_live r h q)) in
    let rows : agreed_rows r (h ++ e ∷ []) ≡ [] = rows_next r h e q ∙ ap (rows_past r h) acts ∙ ap (flat_map (exchange_rows r)) (drop_all (length (reading r h).done) (reading r h).done (omega arith)) in
    ap₂ (λ n rs. record { masked = n; rows = rs }) sum rows

-- after an ending
pub tally_over : (r : Rules) (h : History) (e : Entry) → is_some (final r h) ≡ true → acted r (h ++ e ∷ []) ≡ acted r h → tally_of r (h ++ e ∷ []) ≡ tally_of r h
tally_over r h e over same = by (stop r h) refl over
  where
    by : (o : Option History) → stop r h ≡ o → is_some (option_and_then (trouble r) o) ≡ true → tally_of r (h ++ e ∷ []) ≡ tally_of r h
    by None s t = absurd (cc t)
    by (Some g) s t =
        let all : taken r (h ++ e ∷ []) ≡ taken r h = ap (λ o. unwrap_or o (h ++ e ∷ [])) (stop-append r h (e ∷ []) g s) ∙ sym (ap (λ o. unwrap_or o h) s) in
        ap₂ (λ n rs. record { masked = n; rows = rs })
        (ap (λ x. masked_on r.side r (reading r x)) same)
        (ap₂ (λ x y. rows_past r (acted r (without_last x)) y) all same)

-- of nothing
pub tally_start : (r : Rules) (n : ℕ) → n ≡ masked_on r.side r (reading r []) → acted r [] ≡ [] → taken r [] ≡ [] → record { masked = n; rows = [] } ≡ tally_of r []
tally_start r n is acts all =
    let rows : agreed_rows r [] ≡ [] =
    ap (λ g. rows_past r (acted r (without_last g)) (acted r [])) all ∙ ap (λ g. rows_past r g g) acts ∙ ap (flat_map (exchange_rows r)) (drop_all (length (reading r []).done) (reading r []).done (omega arith)) in
    sym (ap₂ (λ m rs. record { masked = m; rows = rs }) (ap (λ g. masked_on r.side r (reading r g)) acts ∙ sym is) rows)
