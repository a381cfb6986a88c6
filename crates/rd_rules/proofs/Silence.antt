-- A session that has heard nothing has sent nothing.
use Rattle.std.proofs.Common.{◌≡◌, ℕ, zero, suc, ◌+◌, ◌<◌, map, Bool, true, false, List, [], ◌∷◌, ◌++◌, length, Option, Some, None, refl, ap, ap₂, ◌∙◌, arith}
use Rattle.std.specs.Prelude.{sum_by, is_some, option_map, if◌then◌else◌}
use Rattle.std.proofs.lemmas.List.Sums.{sum_by-cons}
use Rattle.std.proofs.lemmas.List.{map-append}
use Rattle.rd_base.specs.History.{History}
use Rattle.rd_base.specs.Words.{below}
use Rattle.rd_base.specs.declared.values.Scan.{Scan}
use Rattle.rd_base.specs.declared.values.Scan.TheVariants.{Whole, More, Bad, TooBig, Unsupported}
use Rattle.rd_base.specs.declared.values.Phase.{Phase}
use Rattle.rd_base.specs.declared.values.Side.{Side}
use Rattle.rd_base.specs.declared.values.Side.TheVariants.{Incoming, Outgoing}
use Rattle.rd_dialect.specs.Due.{request_due}
use Rattle.rd_dialect.specs.Grammar.{Grammar}
use Rattle.rd_dialect.specs.Laws.{Lawful}
use Rattle.rd_rules.specs.Exchange.{Rules, LinkUnit, Open, Reading, askers, each_unit, unit_by, scan_open, units, agreed_ask, asked, open_of, read, reading, start_front, nothing_out}
use Rattle.rd_rules.specs.Given.{given, given_of, told_rows, releases, is_asker}
use Rattle.rd_rules.specs.Sent.{acted, acted_of, sent}
use Rattle.rd_rules.specs.Trouble.{trouble, unsolicited}

-- a link that has said nothing has no unit
no_unit : (g : Grammar) → Lawful g → (phase : Phase) (link : ℕ) → unit_by (open_of [] link) (scan_open g (request_due phase) (open_of [] link)) ≡ None
no_unit g laws phase link = by (g.scan_request phase []) refl
  where
    by : (s : Scan) → g.scan_request phase [] ≡ s → unit_by (open_of [] link) s ≡ None
    by (Whole len) is =
        let within = laws.within (request_due phase).part phase (request_due phase).note [] false len is in
        let some = laws.some_bytes (request_due phase).part phase (request_due phase).note [] false len is in
        absurd (omega (arith, within, some))
    by More is = refl
    by Bad is = refl
    by TooBig is = refl
    by (Unsupported code) is = refl

-- where one has none, not all have one
not_each : (us more : List (Option LinkUnit)) → each_unit (us ++ None ∷ more) ≡ None
not_each [] more = refl
not_each (None ∷ us) more = refl
not_each (Some u ∷ us) more = ap (option_map (λ all. u ∷ all)) (not_each us more)

no_units : (g : Grammar) → Lawful g → (phase : Phase) (side : Side) (n : ℕ) → 0 < n → units g (request_due phase) (map (open_of []) (askers side n)) ≡ None
no_units g laws phase Incoming n some = ap (λ u. each_unit (u ∷ [])) (no_unit g laws phase n)
no_units g laws phase Outgoing zero some = absurd (omega (arith, some))
no_units g laws phase Outgoing (suc n) some =
    let unit : Open → Option LinkUnit = λ o. unit_by o (scan_open g (request_due phase) o) in
    let split = ap (map unit) (map-append (open_of []) (below n) (n ∷ [])) ∙ map-append unit (map (open_of []) (below n)) (open_of [] n ∷ []) in
    ap each_unit split
    ∙ ap (λ u. each_unit (map unit (map (open_of []) (below n)) ++ u ∷ [])) (no_unit g laws phase n)
    ∙ not_each (map unit (map (open_of []) (below n))) []

nothing_read : (r : Rules) → Lawful r.grammar → 0 < r.limits.copies → reading r [] ≡ nothing_out (start_front r [])
nothing_read r laws some = by r.limits.exchanges_max
  where
    by : (fuel : ℕ) → read r.grammar r.limits.mask fuel (start_front r []) ≡ nothing_out (start_front r [])
    by zero = refl
    by (suc fuel) =
        ap (λ us. asked r.grammar r.limits.mask (λ q. read r.grammar r.limits.mask fuel q) (start_front r []) (agreed_ask r.grammar r.limits.mask r.grammar.first_phase us))
        (no_units r.grammar laws r.grammar.first_phase r.side r.limits.copies some)

nothing_acted : (r : Rules) → acted r [] ≡ []
nothing_acted r = by (is_some (trouble r []))
  where
    back : (b : Bool) → ◌≡◌ {A = History} (if b then [] else []) []
    back true = refl
    back false = refl

    by : (b : Bool) → acted_of r [] (if b then Some [] else None) ≡ []
    by true = back (is_some (unsolicited r []))
    by false = refl

nothing_given : (r : Rules) → Lawful r.grammar → 0 < r.limits.copies → (link : ℕ) → given r link [] ≡ []
nothing_given r laws some link =
    ap (λ (x : Reading). given_of r link (told_rows r []) x.done 1 (releases r [] x.done x.out)) (nothing_read r laws some) ∙ by (is_asker r link)
  where
    by : (b : Bool) → ◌≡◌ {A = List ℕ} (if b then [] else []) []
    by true = refl
    by false = refl

pub nothing_sent : (r : Rules) → Lawful r.grammar → 0 < r.limits.copies → (link : ℕ) → sent r link [] ≡ []
nothing_sent r laws some link = ap (given r link) (nothing_acted r) ∙ nothing_given r laws some link

pub nothing_sent_to : (r : Rules) → Lawful r.grammar → 0 < r.limits.copies → (links : List ℕ) → sum_by (λ link. length (sent r link [])) links ≡ 0
nothing_sent_to r laws some [] = refl
nothing_sent_to r laws some (link ∷ links) =
    sum_by-cons (λ (l : ℕ). length (sent r l [])) link links
    ∙ ap₂ (λ a b. a + b) (ap length (nothing_sent r laws some link)) (nothing_sent_to r laws some links)
