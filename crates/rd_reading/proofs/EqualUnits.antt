-- Equal units agree, with no mask and no rows.
use Rattle.std.proofs.Common.{◌≡◌, ℕ, ◌≤◌, Bool, true, false, List, [], ◌∷◌, length, map, refl, sym, ap, ◌∙◌, arith}
use Rattle.std.proofs.lemmas.List.{length-map}
use Rattle.std.proofs.lemmas.Bool.{and_parts}
use Rattle.std.proofs.lemmas.Slice.Eq.{bytes_eq-Decides}
use Rattle.std.specs.Prelude.{bytes_eq}
use Rattle.rd_base.specs.Token.{Token}
use Rattle.rd_base.specs.Heard.{Heard, lists_of, judged_of, judged_places}
use Rattle.rd_base.specs.Verdicts.{verdict, verdict_from, longest, mask_of, is_agreed, rows_at}
use Rattle.rd_base.specs.declared.values.MaskLimits.{MaskLimits}
use Rattle.rd_base.specs.declared.verdict.Verdict.TheVariants.{Agreed}
use Rattle.rd_dialect.specs.declared.due.Due.{Due}
use Rattle.rd_dialect.specs.Grammar.{Grammar}
use Rattle.rd_dialect.specs.Due.{tokens_due}
use Rattle.rd_rules.specs.Exchange.{LinkUnit, token_lists, agree, first_bytes}
use Rattle.rd_rules.specs.Given.{agreed_mask, learnt_rows}
use Rattle.rd_reading.specs.Alike.{AreBare, are_units}
use Rattle.rd_reading.proofs.OneList.{AllWithin, front-self, early_verdict-within}

-- a list as one that a whole copy has said
abbrev whole_copy : List Token → Heard
whole_copy ts = record { tokens = ts; is_whole = true }

abbrev EachIs : List Token → List (List Token) → Type 0
EachIs ts [] = Unit {0}
EachIs ts (us ∷ lists) = (us ≡ ts) × EachIs ts lists

lists_of-whole : (lists : List (List Token)) → lists_of (map whole_copy lists) ≡ lists
lists_of-whole [] = refl
lists_of-whole (us ∷ lists) = ap (λ ls. us ∷ ls) (lists_of-whole lists)

judged_of-whole : (m : ℕ) (lists : List (List Token)) → judged_of m (map whole_copy lists) ≡ m
judged_of-whole m [] = refl
judged_of-whole m (us ∷ lists) = judged_of-whole m lists

whole_within : (ts : List Token) (lists : List (List Token)) → EachIs ts lists → AllWithin ts (map whole_copy lists)
whole_within ts [] each = tt
whole_within ts (us ∷ lists) each = ((front-self us ts each.0, λ w. each.0), whole_within ts lists each.1)

verdict-equal : (most : MaskLimits) (ts : List Token) (lists : List (List Token)) → 2 ≤ length lists → EachIs ts lists → verdict most lists ≡ Agreed []
verdict-equal most ts lists two each =
    let cs = map whole_copy lists in
    let size = length-map lists whole_copy in
    let judged : judged_places cs ≡ longest lists = judged_of-whole (longest (lists_of cs)) lists ∙ ap longest (lists_of-whole lists) in
    ap (λ ls. verdict_from most ls 0 (longest lists)) (sym (lists_of-whole lists))
    ∙ ap (verdict_from most (lists_of cs) 0) (sym judged)
    ∙ early_verdict-within most ts cs (omega arith) (whole_within ts lists each)

agree-equal : (most : MaskLimits) (ts : List Token) (lists : List (List Token)) → EachIs ts lists → (agree most lists ≡ true) × (agreed_mask most lists ≡ [])
agree-equal most ts [] each = (refl, refl)
agree-equal most ts (a ∷ []) each = (refl, refl)
agree-equal most ts (a ∷ b ∷ []) each = (refl, refl)
agree-equal most ts (a ∷ b ∷ c ∷ more) each =
    let is : verdict most (a ∷ b ∷ c ∷ more) ≡ Agreed [] = verdict-equal most ts (a ∷ b ∷ c ∷ more) (omega arith) each in
    (ap is_agreed is, ap mask_of is)

-- ---- units

lists_equal : (g : Grammar) (due : Due) (bytes : List ℕ) (us : List LinkUnit) → are_units bytes us ≡ true → EachIs (tokens_due g due bytes true) (token_lists g due us)
lists_equal g due bytes [] e = tt
lists_equal g due bytes (u ∷ us) e =
    let parts = and_parts (bytes_eq u.bytes bytes) (are_units bytes us) e in
    (ap (λ bs. tokens_due g due bs true) ((bytes_eq-Decides u.bytes bytes).0 parts.0), lists_equal g due bytes us parts.1)

pub equal-bare : (g : Grammar) (due : Due) (us : List LinkUnit) → are_units (first_bytes us) us ≡ true → (most : MaskLimits) → AreBare most (token_lists g due us)
equal-bare g due us e most =
    let lists = token_lists g due us in
    let both = agree-equal most (tokens_due g due (first_bytes us) true) lists (lists_equal g due (first_bytes us) us e) in
    record {
      agree = both.0;
      mask = both.1;
      rows = λ learns. by learns both.1;
    }
  where
    by : (learns : Bool) → agreed_mask most (token_lists g due us) ≡ [] → learnt_rows learns most (token_lists g due us) ≡ []
    by true none = ap (rows_at (token_lists g due us)) none
    by false none = refl
