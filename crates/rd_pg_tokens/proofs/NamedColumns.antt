-- A walk along the names of a row description, to the last one that is under a rule.
use Rattle.std.proofs.Common.{◌≡◌, ℕ, zero, suc, ◌+◌, ◌-◌, ◌<◌, ◌≤◌, Bool, true, false, cond, eqb, leb, List, [], ◌∷◌, length, take, drop, length-drop, drop-drop, refl, sym, ap, ◌∙◌, arith}
use Rattle.std.specs.Prelude.{min}
use Rattle.std.proofs.lemmas.Bool.{leb-true, leb-false}
use Rattle.std.proofs.lemmas.Bool.Decides.{nat_tests}
use Rattle.std.proofs.lemmas.List.{drop_all}
use Rattle.rd_base.specs.declared.names.NameRules.{NameRules}
use Rattle.rd_pg_tokens.specs.declared.stage.Shown.{Shown}
use Rattle.rd_pg_tokens.specs.declared.stage.Shown.TheVariants.{AsSoft, AsFirm, Passed}
use Rattle.rd_pg_tokens.specs.Pieces.{text_len, has_text, text_of, column_len, shown_under, is_named, is_soft, up_to_named, named_len}
use Rattle.rd_pg_tokens.specs.ColumnLaws.{none_named}

-- ---- without names no name is under a rule

not_named : (names : List (List ℕ)) (name : List ℕ) → length names ≡ 0 → is_named names name ≡ false
not_named [] name e = refl
not_named (n ∷ names) name e = absurd (omega (arith, e))

soft_under : (rules : NameRules) (name : List ℕ) → length rules.firm ≡ 0 → length rules.free ≡ 0 → shown_under rules name ≡ AsSoft
soft_under rules name firm free =
    ap (λ t. cond t Passed (cond (is_named rules.firm name) AsFirm AsSoft)) (not_named rules.free name free)
    ∙ ap (λ t. cond t AsFirm AsSoft) (not_named rules.firm name firm)

pub none_under : (rules : NameRules) (count : ℕ) (names : List ℕ) → length rules.firm ≡ 0 → length rules.free ≡ 0 → named_len rules count names ≡ 0
none_under rules zero names firm free = refl
none_under rules (suc count) names firm free =
    ap (λ s. cond (has_text names) (up_to_named s (text_len names) (named_len rules count (drop (column_len names) names))) 0) (soft_under rules (text_of names) firm free)
    ∙ ap (λ k. cond (has_text names) (up_to_named AsSoft (text_len names) k) 0) (none_under rules count (drop (column_len names) names) firm free)
    ∙ either (has_text names)
  where
    nothing : ℕ
    nothing = 0

    either : (t : Bool) → cond t nothing nothing ≡ nothing
    either true = refl
    either false = refl

-- ---- along the names
-- the last name under a rule that was passed, or one that stands further on
abbrev pub reached : ℕ → ℕ → ℕ → ℕ
reached named at later = cond (eqb later 0) named (at + later)

pub record IsReached (rules : NameRules) (count : ℕ) (names : List ℕ) (passed named at : ℕ) : Type 0 where
  pub here : at ≤ length names
  pub last : named ≤ length names
  pub all : named_len rules count names ≡ reached named at (named_len rules (count - passed) (drop at names))

later_is : (rules : NameRules) (k : ℕ) (names : List ℕ) (at size : ℕ) → named_len rules k (drop (min (at + size) (length names)) names) ≡ named_len rules k (drop size (drop at names))
later_is rules k names at size = by (leb (at + size) (length names)) refl
  where
    by : (t : Bool) → leb (at + size) (length names) ≡ t → named_len rules k (drop (min (at + size) (length names)) names) ≡ named_len rules k (drop size (drop at names))
    by true e =
        let least : min (at + size) (length names) ≡ at + size = omega (arith, leb-true (at + size) (length names) e) in
        ap (λ n. named_len rules k (drop n names)) least ∙ ap (named_len rules k) (sym (drop-drop size at names))
    by false e =
        let past = leb-false (at + size) (length names) e in
        let least : min (at + size) (length names) ≡ length names = omega (arith, past) in
        ap (λ n. named_len rules k (drop n names)) least
        ∙ ap (named_len rules k) (drop_all (length names) names (omega arith) ∙ sym (drop_all size (drop at names) (omega (arith, past, length-drop at names))))

-- a name that stands further on lies behind the whole column
behind_column : (rules : NameRules) (k : ℕ) (names : List ℕ) (at size : ℕ) → eqb (named_len rules k (drop size (drop at names))) 0 ≡ false → at + size ≤ length names
behind_column rules k names at size some = by (leb (at + size) (length names)) refl
  where
    by : (t : Bool) → leb (at + size) (length names) ≡ t → at + size ≤ length names
    by true e = leb-true (at + size) (length names) e
    by false e =
        let none = ap (named_len rules k) (drop_all size (drop at names) (omega (arith, leb-false (at + size) (length names) e, length-drop at names))) ∙ none_named rules k in
        absurd (grind (arith, nat_tests, none, some))

pub further : (rules : NameRules) (k : ℕ) (names : List ℕ) (named at : ℕ) → has_text (drop at names) ≡ true
    → reached named at (named_len rules (suc k) (drop at names))
    ≡ reached (cond (is_soft (shown_under rules (text_of (drop at names)))) named (at + text_len (drop at names) + 1)) (min (at + column_len (drop at names)) (length names))
    (named_len rules k (drop (min (at + column_len (drop at names)) (length names)) names))
further rules k names named at has =
    ap (λ t. reached named at (cond t (up_to_named (shown_under rules (text_of rest)) tl later) 0)) has
    ∙ by (eqb later 0) refl (is_soft (shown_under rules (text_of rest)))
    ∙ ap (reached (cond (is_soft (shown_under rules (text_of rest))) named (at + tl + 1)) (min (at + column_len rest) (length names))) (sym (later_is rules k names at (column_len rest)))
  where
    rest : List ℕ
    rest = drop at names

    tl : ℕ
    tl = text_len rest

    later : ℕ
    later = named_len rules k (drop (column_len rest) rest)

    by : (t : Bool) → eqb later 0 ≡ t → (soft : Bool)
        → cond (eqb (cond t (cond soft 0 (tl + 1)) (tl + 19 + later)) 0) named (at + cond t (cond soft 0 (tl + 1)) (tl + 19 + later))
        ≡ cond t (cond soft named (at + tl + 1)) (min (at + column_len rest) (length names) + later)
    by true e true = refl
    by true e false =
        let some : eqb (tl + 1) 0 ≡ false = grind (arith, nat_tests) in
        let sum : at + (tl + 1) ≡ at + tl + 1 = omega arith in
        ap (λ t. cond t named (at + (tl + 1))) some ∙ sum
    by false e soft =
        let fits = behind_column rules k names at (column_len rest) e in
        let some : eqb (tl + 19 + later) 0 ≡ false = grind (arith, nat_tests) in
        let sum : at + (tl + 19 + later) ≡ min (at + column_len rest) (length names) + later = omega (arith, fits) in
        ap (λ t. cond t named (at + (tl + 19 + later))) some ∙ sum

-- no name stands there
pub no_further : (rules : NameRules) (k : ℕ) (names : List ℕ) (named at : ℕ) → has_text (drop at names) ≡ false → reached named at (named_len rules (suc k) (drop at names)) ≡ named
no_further rules k names named at has =
    ap (λ t. reached named at (cond t (up_to_named (shown_under rules (text_of (drop at names))) (text_len (drop at names)) (named_len rules k (drop (column_len (drop at names)) (drop at names)))) 0)) has

-- past one name
pub passed_on : (rules : NameRules) (count passed : ℕ) (names rest : List ℕ) (named at len next then : ℕ) (shown : Shown) (soft : Bool)
    → IsReached rules count names passed named at → passed < count → rest ≡ drop at names → len ≡ text_len rest → len < length rest
    → shown ≡ shown_under rules (take len rest) → soft ≡ is_soft shown → next ≡ min (at + len + 19) (length names) → then ≡ cond soft named (at + len + 1)
    → IsReached rules count names (passed + 1) then next
passed_on rules count passed names rest named at len next then shown soft is lt rest_is len_is some shown_is soft_is next_is then_is =
    record { here = omega (arith, next_is); last = last soft then_is; all = all }
  where
    k : ℕ
    k = count - (passed + 1)

    here : List ℕ
    here = drop at names

    len_here : len ≡ text_len here
    len_here = len_is ∙ ap text_len rest_is

    within : at + len + 1 ≤ length names
    within = omega (arith, some, ap length rest_is, length-drop at names)

    last : (t : Bool) → then ≡ cond t named (at + len + 1) → then ≤ length names
    last true e = omega (arith, e, is.last)
    last false e = omega (arith, e, within)

    has : has_text here ≡ true
    has = grind (arith, nat_tests, len_here, some, ap length rest_is)

    place : min (at + column_len here) (length names) ≡ next
    place = let size : at + column_len here ≡ at + len + 19 = omega (arith, len_here) in ap (λ n. min n (length names)) size ∙ sym next_is

    soft_here : is_soft (shown_under rules (text_of here)) ≡ soft
    soft_here =
        sym (soft_is ∙ ap is_soft (shown_is ∙ ap (λ n. shown_under rules (take n rest)) len_here ∙ ap (λ (r : List ℕ). shown_under rules (take (text_len here) r)) rest_is))

    reach : cond (is_soft (shown_under rules (text_of here))) named (at + text_len here + 1) ≡ then
    reach = ap (λ t. cond t named (at + text_len here + 1)) soft_here ∙ ap (λ n. cond soft named (at + n + 1)) (sym len_here) ∙ sym then_is

    all : named_len rules count names ≡ reached then next (named_len rules (count - (passed + 1)) (drop next names))
    all =
        let size : count - passed ≡ suc k = omega (arith, lt) in
        is.all
        ∙ ap (λ n. reached named at (named_len rules n here)) size
        ∙ further rules k names named at has
        ∙ ap (λ t. reached t (min (at + column_len here) (length names)) (named_len rules k (drop (min (at + column_len here) (length names)) names))) reach
        ∙ ap (λ n. reached then n (named_len rules k (drop n names))) place
