-- The verdict of lists that are cut to their first tokens.
use Rattle.std.proofs.Common.{◌≡◌, ℕ, zero, suc, ◌+◌, ◌<◌, ◌≤◌, Bool, true, false, cond, min, max, List, [], ◌∷◌, ◌++◌, length, take, map, Some, None, refl, ap, ap₂, sym, ◌∙◌, arith, length-take}
use Rattle.std.proofs.lemmas.List.{length-map}
use Rattle.std.specs.Prelude.{slice_get, nat_lt, not, ◌&&◌, ◌||◌, if◌then◌else◌}
use Rattle.std.specs.List.{position, list_any, prefix_len}
use Rattle.rd_base.specs.Token.{Token}
use Rattle.rd_base.specs.Verdicts.{verdict, verdict_from, fault, fault_or, masked_fault, plain_fault, or_fault, least_disagrees, masked_below, is_masked, is_soft, is_long, one_alone, same, token_at, in_list, longest, is_agreed, mask_of}
use Rattle.rd_base.specs.declared.values.MaskLimits.{MaskLimits}
use Rattle.rd_base.specs.declared.verdict.Verdict.{Verdict}
use Rattle.rd_base.specs.declared.verdict.Verdict.TheVariants.{Agreed, Disagree, Noise}
use Rattle.rd_rules.specs.Exchange.{agree}
use Rattle.rd_rules.specs.Given.{agreed_mask}
use Rattle.rd_rules.specs.Trouble.{judge_by, blamed}
use Rattle.rd_base.specs.Heard.{Heard, lists_of, judged_of, judged_places, early_verdict}

get_take : {A : Type 0} (n place : ℕ) (xs : List A) → place < n → slice_get (take n xs) place ≡ slice_get xs place
get_take zero place xs lt = absurd (omega arith)
get_take (suc n) place [] lt = refl
get_take (suc n) zero (x ∷ xs) lt = refl
get_take (suc n) (suc place) (x ∷ xs) lt = get_take n place xs (omega arith)

list_at : (n k : ℕ) (lists : List (List Token)) (place : ℕ) → place < n → in_list (slice_get (map (take n) lists) k) place ≡ in_list (slice_get lists k) place
list_at n k [] place lt = refl
list_at n zero (ts ∷ lists) place lt = get_take n place ts lt
list_at n (suc k) (ts ∷ lists) place lt = list_at n k lists place lt

prefix_same : (p q : List Token → Bool) (f : List Token → List Token) (xs : List (List Token)) → ((x : List Token) → p (f x) ≡ q x) → prefix_len p (map f xs) ≡ prefix_len q xs
prefix_same p q f [] same = refl
prefix_same p q f (x ∷ xs) same = ap₂ (λ b n. cond b (1 + n) 0) (same x) (prefix_same p q f xs same)

position_same : (p q : List Token → Bool) (f : List Token → List Token) (xs : List (List Token)) → ((x : List Token) → p (f x) ≡ q x) → position p (map f xs) ≡ position q xs
position_same p q f xs same =
    ap₂ (λ i n. cond (nat_lt i n) (Some i) None) (prefix_same (λ x. not (p x)) (λ x. not (q x)) f xs (λ x. ap not (same x))) (length-map xs f)

any_same : (p q : List Token → Bool) (f : List Token → List Token) (xs : List (List Token)) → ((x : List Token) → p (f x) ≡ q x) → list_any p (map f xs) ≡ list_any q xs
any_same p q f [] same = refl
any_same p q f (x ∷ xs) same = ap₂ (λ a b. a || b) (same x) (any_same p q f xs same)

longest_max : (n a b : ℕ) → max (min n a) (min n b) ≡ min n (max a b)
longest_max n a b = omega arith

longest_cut : (n : ℕ) (lists : List (List Token)) → longest (map (take n) lists) ≡ min n (longest lists)
longest_cut n [] = omega arith
longest_cut n (ts ∷ lists) = ap₂ max (length-take n ts) (longest_cut n lists) ∙ longest_max n (length ts) (longest lists)

masked_same : (n : ℕ) (lists : List (List Token)) (place : ℕ) → place < n → is_masked (map (take n) lists) place ≡ is_masked lists place
masked_same n lists place lt =
    let a = list_at n 0 lists place lt in
    let b = list_at n 1 lists place lt in
    ap₂ (λ s t. is_soft s && is_soft t && not (same s t)) a b

below_same : (n : ℕ) (lists : List (List Token)) (place : ℕ) → place ≤ n → masked_below (map (take n) lists) place ≡ masked_below lists place
below_same n lists zero le = refl
below_same n lists (suc place) le =
    ap₂ (λ ps b. ps ++ (if b then place ∷ [] else [])) (below_same n lists place (omega arith)) (masked_same n lists place (omega arith))

module _ (most : MaskLimits) (n : ℕ) (lists : List (List Token)) (place : ℕ) (lt : place < n) where
  first_same : token_at (map (take n) lists) 0 place ≡ token_at lists 0 place
  first_same = list_at n 0 lists place lt

  alone_same : position (λ tokens. one_alone (slice_get tokens place) (token_at (map (take n) lists) 0 place)) (map (take n) lists) ≡ position (λ tokens. one_alone (slice_get tokens place) (token_at lists 0 place)) lists
  alone_same = position_same (λ tokens. one_alone (slice_get tokens place) (token_at (map (take n) lists) 0 place)) (λ tokens. one_alone (slice_get tokens place) (token_at lists 0 place)) (take n) lists
      (λ x. ap₂ one_alone (get_take n place x lt) first_same)

  other_same : position (λ tokens. not (same (slice_get tokens place) (token_at (map (take n) lists) 0 place))) (map (take n) lists) ≡ position (λ tokens. not (same (slice_get tokens place) (token_at lists 0 place))) lists
  other_same = position_same (λ tokens. not (same (slice_get tokens place) (token_at (map (take n) lists) 0 place))) (λ tokens. not (same (slice_get tokens place) (token_at lists 0 place))) (take n) lists
      (λ x. ap₂ (λ s t. not (same s t)) (get_take n place x lt) first_same)

  hard_same : position (λ tokens. not (is_soft (slice_get tokens place))) (map (take n) lists) ≡ position (λ tokens. not (is_soft (slice_get tokens place))) lists
  hard_same = position_same (λ tokens. not (is_soft (slice_get tokens place))) (λ tokens. not (is_soft (slice_get tokens place))) (take n) lists
      (λ x. ap (λ s. not (is_soft s)) (get_take n place x lt))

  long_same : list_any (λ tokens. is_long most.bytes (slice_get tokens place)) (map (take n) lists) ≡ list_any (λ tokens. is_long most.bytes (slice_get tokens place)) lists
  long_same = any_same (λ tokens. is_long most.bytes (slice_get tokens place)) (λ tokens. is_long most.bytes (slice_get tokens place)) (take n) lists
      (λ x. ap (is_long most.bytes) (get_take n place x lt))

  masked_fault_same : masked_fault most (map (take n) lists) place ≡ masked_fault most lists place
  masked_fault_same =
      let counted : length (masked_below (map (take n) lists) (suc place)) ≡ length (masked_below lists (suc place)) = ap length (below_same n lists (suc place) (omega arith)) in
      ap₂ (λ b o. cond b (Some (Noise place)) o) (ap₂ (λ k b. nat_lt most.places k || b) counted long_same) (ap (least_disagrees place) hard_same)

  plain_fault_same : plain_fault (map (take n) lists) place ≡ plain_fault lists place
  plain_fault_same =
      ap₂ (λ b o. cond b o (Some (Disagree 1 place))) (ap₂ same first_same (list_at n 1 lists place lt)) (ap (least_disagrees place) other_same)

  fault_same : fault most (map (take n) lists) place ≡ fault most lists place
  fault_same =
      ap₂ or_fault (ap (least_disagrees place) alone_same)
      (ap (λ b. cond b (masked_fault most (map (take n) lists) place) (plain_fault (map (take n) lists) place)) (masked_same n lists place lt)
      ∙ ap₂ (λ a b. cond (is_masked lists place) a b) masked_fault_same plain_fault_same)

from_same : (most : MaskLimits) (n : ℕ) (lists : List (List Token)) (place count : ℕ) → place + count ≤ n → verdict_from most (map (take n) lists) place count ≡ verdict_from most lists place count
from_same most n lists place zero le = ap Agreed (below_same n lists place (omega arith))
from_same most n lists place (suc count) le =
    ap₂ fault_or (fault_same most n lists place (omega arith)) (from_same most n lists (suc place) count (omega arith))

-- lists cut to n tokens are judged at the places below n
pub verdict_cut : (most : MaskLimits) (n : ℕ) (lists : List (List Token)) → verdict most (map (take n) lists) ≡ verdict_from most lists 0 (min n (longest lists))
verdict_cut most n lists =
    ap (verdict_from most (map (take n) lists) 0) (longest_cut n lists) ∙ from_same most n lists 0 (min n (longest lists)) (omega arith)

min_min : (a b c : ℕ) → min (min a b) c ≡ min a (min b c)
min_min a b c = omega arith

-- the judged places of a lesser bound
judged_min : (a b : ℕ) (copies : List Heard) → judged_of (min a b) copies ≡ min a (judged_of b copies)
judged_min a b [] = refl
judged_min a b (copy ∷ copies) = go (λ b. judged_min a b copies) copy.is_whole
  where
    go : ((b : ℕ) → judged_of (min a b) copies ≡ min a (judged_of b copies)) → (w : Bool) → judged_of (cond w (min a b) (min (min a b) (length copy.tokens))) copies ≡ min a (judged_of (cond w b (min b (length copy.tokens))) copies)
    go ih true = ih b
    go ih false = ap (λ k. judged_of k copies) (min_min a b (length copy.tokens)) ∙ ih (min b (length copy.tokens))

-- what is judged early is the verdict of lists that are cut to the shortest that isn't whole
pub early_cut : (most : MaskLimits) (bound : ℕ) (copies : List Heard) → longest (lists_of copies) ≤ bound
    → verdict most (map (take (min (judged_of bound copies) (longest (lists_of copies)))) (lists_of copies)) ≡ early_verdict most copies
early_cut most bound copies le =
    let n = longest (lists_of copies) in
    let s = judged_of bound copies in
    let same : min n bound ≡ n = omega arith in
    let turned : min (min s n) n ≡ min n s = omega arith in
    let places : min (min s n) n ≡ judged_places copies = turned ∙ sym (judged_min n bound copies) ∙ ap (λ k. judged_of k copies) same in
    verdict_cut most (min s n) (lists_of copies) ∙ ap (verdict_from most (lists_of copies) 0) places

-- three copies or more are judged
judge_by_is : (most : MaskLimits) (exchange : ℕ) (copies : List Heard) → 3 ≤ length copies → judge_by most exchange copies ≡ blamed exchange (early_verdict most copies)
judge_by_is most exchange [] le = absurd (omega arith)
judge_by_is most exchange (a ∷ []) le = absurd (omega arith)
judge_by_is most exchange (a ∷ b ∷ []) le = absurd (omega arith)
judge_by_is most exchange (a ∷ b ∷ c ∷ more) le = refl

pub early_is : (most : MaskLimits) (exchange bound shortest n : ℕ) (copies : List Heard) (lists cut : List (List Token)) (v : Verdict)
    → lists ≡ lists_of copies → shortest ≡ judged_of bound copies → n ≡ longest lists → n ≤ bound → 3 ≤ length lists
    → cut ≡ map (take (min shortest n)) lists → v ≡ verdict most cut → blamed exchange v ≡ judge_by most exchange copies
early_is most exchange bound shortest n copies lists cut v lists_is shortest_is n_is le three cut_is v_is =
    let long : n ≡ longest (lists_of copies) = n_is ∙ ap longest lists_is in
    let count : length lists ≡ length copies = ap length lists_is ∙ length-map copies (λ c. c.tokens) in
    let cuts : cut ≡ map (take (min (judged_of bound copies) (longest (lists_of copies)))) (lists_of copies) =
    cut_is ∙ ap₂ (λ k ls. map (take k) ls) (ap₂ min shortest_is long) lists_is in
    ap (blamed exchange) (v_is ∙ ap (verdict most) cuts ∙ early_cut most bound copies (omega arith))
    ∙ sym (judge_by_is most exchange copies (omega arith))

agree_is : (most : MaskLimits) (lists : List (List Token)) → 3 ≤ length lists → agree most lists ≡ is_agreed (verdict most lists)
agree_is most [] le = absurd (omega arith)
agree_is most (a ∷ []) le = absurd (omega arith)
agree_is most (a ∷ b ∷ []) le = absurd (omega arith)
agree_is most (a ∷ b ∷ c ∷ more) le = refl

mask_is : (most : MaskLimits) (lists : List (List Token)) → 3 ≤ length lists → agreed_mask most lists ≡ mask_of (verdict most lists)
mask_is most [] le = absurd (omega arith)
mask_is most (a ∷ []) le = absurd (omega arith)
mask_is most (a ∷ b ∷ []) le = absurd (omega arith)
mask_is most (a ∷ b ∷ c ∷ more) le = refl

agreed_by : (v : Verdict) → is_agreed v ≡ true → v ≡ Agreed (mask_of v)
agreed_by (Agreed mask) e = refl
agreed_by (Disagree copy place) e = cc
agreed_by (Noise place) e = cc

-- lists that agree have the verdict Agreed with their mask
pub agreed_verdict : (most : MaskLimits) (lists : List (List Token)) (mask : List ℕ) → 3 ≤ length lists → agree most lists ≡ true → mask ≡ agreed_mask most lists → verdict most lists ≡ Agreed mask
agreed_verdict most lists mask le all is =
    agreed_by (verdict most lists) (sym (agree_is most lists le) ∙ all) ∙ ap Agreed (sym (is ∙ mask_is most lists le))
