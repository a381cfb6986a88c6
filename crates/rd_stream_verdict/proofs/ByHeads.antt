-- A place's fault, mask and row by the tokens there.
use Rattle.std.proofs.Common.{◌≡◌, ℕ, suc, ◌+◌, Bool, true, false, cond, not, ◌&&◌, ◌||◌, List, [], ◌∷◌, ◌++◌, length, map, Option, Some, None, refl, ap, sym, ◌∙◌, length-append, arith}
use Rattle.std.proofs.lemmas.List.{length-map, map-append}
use Rattle.std.specs.Prelude.{slice_get, nat_lt, nat_le, option_map, option_to_list, filter}
use Rattle.std.specs.List.{position, position_or_len, prefix_len, list_any, list_all}
use Rattle.std.proofs.lemmas.Bool.Decides.{nat_tests}
use Rattle.std.proofs.lemmas.Option.{slice_get-map}
use Rattle.std.proofs.lemmas.List.Elements.{filter-append}
use Rattle.rd_base.specs.Token.{Token}
use Rattle.rd_base.specs.Swap.{is_row_word}
use Rattle.rd_base.specs.Verdicts.{fault, masked_fault, plain_fault, or_fault, least_disagrees, masked_below, is_masked, is_soft, is_long, one_alone, same, in_list, token_at, text_or_none, texts_at, rows_at}
use Rattle.rd_base.specs.declared.values.MaskLimits.{MaskLimits}
use Rattle.rd_base.specs.declared.verdict.Verdict.TheVariants.{Disagree, Noise}
use Rattle.rd_stream_verdict.specs.Heads.{joined, head_at, heads_masked, heads_alone_fault, heads_masked_fault, heads_plain_fault, heads_fault, heads_row}

abbrev pub heads_at : List (List Token) → ℕ → List (Option Token)
heads_at lists p = map (λ tokens. slice_get tokens p) lists

-- ---- tests of the elements that a list is mapped to

prefix_map : {X Y : Type 0} (test : Y → Bool) (f : X → Y) (xs : List X) → prefix_len test (map f xs) ≡ prefix_len (λ x. test (f x)) xs
prefix_map test f [] = refl
prefix_map test f (x ∷ xs) = ap (λ n. cond (test (f x)) (1 + n) 0) (prefix_map test f xs)

pub position_map : {X Y : Type 0} (test : Y → Bool) (f : X → Y) (xs : List X) → position test (map f xs) ≡ position (λ x. test (f x)) xs
position_map test f xs =
    ap (λ n. cond (nat_lt n (length (map f xs))) (Some n) None) (prefix_map (λ y. not (test y)) f xs)
    ∙ ap (λ m. cond (nat_lt (position_or_len (λ x. test (f x)) xs) m) (Some (position_or_len (λ x. test (f x)) xs)) None) (length-map xs f)

any_map : {X Y : Type 0} (test : Y → Bool) (f : X → Y) (xs : List X) → list_any test (map f xs) ≡ list_any (λ x. test (f x)) xs
any_map test f [] = refl
any_map test f (x ∷ xs) = ap (λ b. test (f x) || b) (any_map test f xs)

map_map : {X Y Z : Type 0} (g : Y → Z) (f : X → Y) (xs : List X) → map g (map f xs) ≡ map (λ x. g (f x)) xs
map_map g f [] = refl
map_map g f (x ∷ xs) = ap (λ zs. g (f x) ∷ zs) (map_map g f xs)

-- ---- one token

head_by : (lists : List (List Token)) (k p : ℕ) → token_at lists k p ≡ head_at (heads_at lists p) k
head_by lists k p = go (slice_get lists k) ∙ ap joined (sym (slice_get-map (λ tokens. slice_get tokens p) lists k))
  where
    go : (o : Option (List Token)) → in_list o p ≡ joined (option_map (λ tokens. slice_get tokens p) o)
    go None = refl
    go (Some tokens) = refl

pub masked_by : (lists : List (List Token)) (p : ℕ) → is_masked lists p ≡ heads_masked (heads_at lists p)
masked_by lists p =
    ap (λ a. is_soft a && is_soft (token_at lists 1 p) && not (same a (token_at lists 1 p))) (head_by lists 0 p)
    ∙ ap (λ b. is_soft (head_at (heads_at lists p) 0) && is_soft b && not (same (head_at (heads_at lists p) 0) b)) (head_by lists 1 p)

pub texts_by : (lists : List (List Token)) (p : ℕ) → texts_at lists p ≡ map text_or_none (heads_at lists p)
texts_by lists p = sym (map_map text_or_none (λ tokens. slice_get tokens p) lists)

-- ---- the fault

pub alone_by : (lists : List (List Token)) (p : ℕ) → least_disagrees p (position (λ tokens. one_alone (slice_get tokens p) (token_at lists 0 p)) lists) ≡ heads_alone_fault p (heads_at lists p)
alone_by lists p =
    ap (λ a. least_disagrees p (position (λ tokens. one_alone (slice_get tokens p) a) lists)) (head_by lists 0 p)
    ∙ ap (least_disagrees p) (sym (position_map (λ head. one_alone head (head_at (heads_at lists p) 0)) (λ tokens. slice_get tokens p) lists))

plain_by : (lists : List (List Token)) (p : ℕ) → plain_fault lists p ≡ heads_plain_fault p (heads_at lists p)
plain_by lists p =
    ap (λ a. cond (same a (token_at lists 1 p)) (least_disagrees p (position (λ tokens. not (same (slice_get tokens p) a)) lists)) (Some (Disagree 1 p))) (head_by lists 0 p)
    ∙ ap (λ b. cond (same (head_at (heads_at lists p) 0) b) (least_disagrees p (position (λ tokens. not (same (slice_get tokens p) (head_at (heads_at lists p) 0))) lists)) (Some (Disagree 1 p))) (head_by lists 1 p)
    ∙ ap (λ o. cond (same (head_at (heads_at lists p) 0) (head_at (heads_at lists p) 1)) (least_disagrees p o) (Some (Disagree 1 p))) (sym (position_map (λ head. not (same head (head_at (heads_at lists p) 0))) (λ tokens. slice_get tokens p) lists))

more_masked : (lists : List (List Token)) (p : ℕ) → is_masked lists p ≡ true → length (masked_below lists (suc p)) ≡ length (masked_below lists p) + 1
more_masked lists p e = ap (λ b. length (masked_below lists p ++ cond b (p ∷ []) [])) e ∙ length-append (masked_below lists p) (p ∷ [])

past_most : (most n : ℕ) → nat_lt most (n + 1) ≡ nat_le most n
past_most most n = grind (arith, nat_tests)

masked_fault_by : (most : MaskLimits) (lists : List (List Token)) (p : ℕ) → is_masked lists p ≡ true → masked_fault most lists p ≡ heads_masked_fault most p (length (masked_below lists p)) (heads_at lists p)
masked_fault_by most lists p e =
    ap (λ n. cond (nat_lt most.places n || list_any (λ tokens. is_long most.bytes (slice_get tokens p)) lists) (Some (Noise p)) (least_disagrees p (position (λ tokens. not (is_soft (slice_get tokens p))) lists))) (more_masked lists p e)
    ∙ ap (λ b. cond (b || list_any (λ tokens. is_long most.bytes (slice_get tokens p)) lists) (Some (Noise p)) (least_disagrees p (position (λ tokens. not (is_soft (slice_get tokens p))) lists))) (past_most most.places (length (masked_below lists p)))
    ∙ ap (λ b. cond (nat_le most.places (length (masked_below lists p)) || b) (Some (Noise p)) (least_disagrees p (position (λ tokens. not (is_soft (slice_get tokens p))) lists))) (sym (any_map (is_long most.bytes) (λ tokens. slice_get tokens p) lists))
    ∙ ap (λ o. cond (nat_le most.places (length (masked_below lists p)) || list_any (is_long most.bytes) (heads_at lists p)) (Some (Noise p)) (least_disagrees p o)) (sym (position_map (λ head. not (is_soft head)) (λ tokens. slice_get tokens p) lists))

pub fault_by : (most : MaskLimits) (lists : List (List Token)) (p : ℕ) → fault most lists p ≡ heads_fault most p (length (masked_below lists p)) (heads_at lists p)
fault_by most lists p =
    ap (λ a. or_fault a (cond (is_masked lists p) (masked_fault most lists p) (plain_fault lists p))) (alone_by lists p)
    ∙ ap (or_fault (heads_alone_fault p (heads_at lists p))) (go (is_masked lists p) refl ∙ ap (λ b. cond b (heads_masked_fault most p (length (masked_below lists p)) (heads_at lists p)) (heads_plain_fault p (heads_at lists p))) (masked_by lists p))
  where
    go : (b : Bool) → is_masked lists p ≡ b → cond b (masked_fault most lists p) (plain_fault lists p) ≡ cond b (heads_masked_fault most p (length (masked_below lists p)) (heads_at lists p)) (heads_plain_fault p (heads_at lists p))
    go true e = masked_fault_by most lists p e
    go false e = plain_by lists p

-- ---- the row

pub rows_push : (lists : List (List Token)) (mask : List ℕ) (p : ℕ) → rows_at lists (mask ++ p ∷ []) ≡ rows_at lists mask ++ option_to_list (heads_row (heads_at lists p))
rows_push lists mask p =
    ap (filter (list_all is_row_word)) (map-append (texts_at lists) mask (p ∷ []))
    ∙ filter-append (list_all is_row_word) (map (texts_at lists) mask) (texts_at lists p ∷ [])
    ∙ ap (λ rs. rows_at lists mask ++ rs) (one (texts_at lists p) (list_all is_row_word (texts_at lists p)))
    ∙ ap (λ texts. rows_at lists mask ++ option_to_list (cond (list_all is_row_word texts) (Some texts) None)) (texts_by lists p)
  where
    one : (texts : List (List ℕ)) (b : Bool) → cond b (texts ∷ []) [] ≡ option_to_list (cond b (Some texts) None)
    one texts true = refl
    one texts false = refl
