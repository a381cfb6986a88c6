-- How many bytes a step sends to the single link, and how many to the copies.
use Rattle.std.proofs.Common.{◌≡◌, ℕ, zero, suc, ◌+◌, ◌≤◌, Bool, true, false, List, [], ◌∷◌, ◌++◌, length, refl, sym, ap, ap₂, ◌∙◌, arith, length-append}
use Rattle.std.specs.Prelude.{◌==◌, not, sum_by, if◌then◌else◌}
use Rattle.std.proofs.lemmas.Bool.Decides.{nat_tests}
use Rattle.std.proofs.lemmas.List.Sums.{sum_by-append, sum_by_push}
use Rattle.rd_base.specs.History.{Entry, History}
use Rattle.rd_base.specs.Sent.{send_of, sends_to}
use Rattle.rd_base.specs.Words.{below}
use Rattle.rd_base.specs.declared.sends.Send.{Send}
use Rattle.rd_core.specs.Standing.{SendsMore}
use Rattle.rd_core.proofs.LinkSends.{sends_to-more}
use Rattle.rd_rules.specs.Exchange.{Rules}
use Rattle.rd_rules.specs.Sent.{sent, sent_past, step_sends}
use Rattle.rd_session_run.specs.Counting.{bytes_where}
use Rattle.rd_session_run.specs.Summaries.{sent_to_copies}

one_send : (link : ℕ) (bytes : List ℕ) → length (send_of link bytes) ≤ 1
one_send link [] = omega arith
one_send link (b ∷ bytes) = omega arith

-- each link is sent to once at most
few_sends : (n : ℕ) (f : ℕ → List ℕ) → length (sends_to n f) ≤ n
few_sends zero f = omega arith
few_sends (suc n) f =
    let all : length (sends_to (suc n) f) ≡ length (sends_to n f) + length (send_of n (f n)) = ap length (sends_to-more n f) ∙ length-append (sends_to n f) (send_of n (f n)) in
    omega (arith, all, few_sends n f, one_send n (f n))

-- ---- sends to links that pass a test

abbrev where_link : (ℕ → Bool) → (ℕ → List ℕ) → ℕ → ℕ
where_link test f link = if test link then length (f link) else 0

one_where : (test : ℕ → Bool) (link : ℕ) (bytes : List ℕ) → sum_by (bytes_where test) (send_of link bytes) ≡ (if test link then length bytes else 0)
one_where test link [] = by (test link)
  where
    by : (b : Bool) → ◌≡◌ {A = ℕ} 0 (if b then 0 else 0)
    by true = refl
    by false = refl
one_where test link (b ∷ bytes) = omega arith

all_where : (test : ℕ → Bool) (n : ℕ) (f : ℕ → List ℕ) → sum_by (bytes_where test) (sends_to n f) ≡ sum_by (where_link test f) (below n)
all_where test zero f = refl
all_where test (suc n) f =
    ap (sum_by (bytes_where test)) (sends_to-more n f)
    ∙ sum_by-append (bytes_where test) (sends_to n f) (send_of n (f n))
    ∙ ap₂ (λ a b. a + b) (all_where test n f) (one_where test n (f n))
    ∙ sym (sum_by_push (where_link test f) (below n) n)

-- ---- the single link, and the others

abbrev is_single : ℕ → ℕ → Bool
is_single n link = link == n

abbrev is_other : ℕ → ℕ → Bool
is_other n link = not (link == n)

none_below : (n m : ℕ) (f : ℕ → List ℕ) → m ≤ n → sum_by (where_link (is_single n) f) (below m) ≡ 0
none_below n zero f le = refl
none_below n (suc m) f le =
    let other : (m == n) ≡ false = grind (arith, nat_tests) in
    sum_by_push (where_link (is_single n) f) (below m) m
    ∙ ap₂ (λ a b. a + b) (none_below n m f (omega arith)) (ap (λ (b : Bool). if b then length (f m) else 0) other)

all_below : (n m : ℕ) (f : ℕ → List ℕ) → m ≤ n → sum_by (where_link (is_other n) f) (below m) ≡ sum_by (λ link. length (f link)) (below m)
all_below n zero f le = refl
all_below n (suc m) f le =
    let other : (m == n) ≡ false = grind (arith, nat_tests) in
    sum_by_push (where_link (is_other n) f) (below m) m
    ∙ ap₂ (λ a b. a + b) (all_below n m f (omega arith)) (ap (λ (b : Bool). if not b then length (f m) else 0) other)
    ∙ sym (sum_by_push (λ link. length (f link)) (below m) m)

same_link : (n : ℕ) → (n == n) ≡ true
same_link n = grind (arith, nat_tests)

-- what is sent to the single link
sum_to_single : (n : ℕ) (f : ℕ → List ℕ) → sum_by (bytes_where (λ link. link == n)) (sends_to (suc n) f) ≡ length (f n)
sum_to_single n f =
    all_where (is_single n) (suc n) f
    ∙ sum_by_push (where_link (is_single n) f) (below n) n
    ∙ ap₂ (λ a b. a + b) (none_below n n f (omega arith)) (ap (λ (b : Bool). if b then length (f n) else 0) (same_link n))
    ∙ omega arith

-- what is sent to the copies
sum_to_others : (n : ℕ) (f : ℕ → List ℕ) → sum_by (bytes_where (λ link. not (link == n))) (sends_to (suc n) f) ≡ sum_by (λ link. length (f link)) (below n)
sum_to_others n f =
    all_where (is_other n) (suc n) f
    ∙ sum_by_push (where_link (is_other n) f) (below n) n
    ∙ ap₂ (λ a b. a + b) (all_below n n f (omega arith)) (ap (λ (b : Bool). if not b then length (f n) else 0) (same_link n))
    ∙ omega arith

-- sums of numbers that grow
sums_grow : (before more after : ℕ → ℕ) (n : ℕ) → ((link : ℕ) → after link ≡ before link + more link) → sum_by after (below n) ≡ sum_by before (below n) + sum_by more (below n)
sums_grow before more after zero each = refl
sums_grow before more after (suc n) each =
    let now = sum_by_push after (below n) n in
    let was = sum_by_push before (below n) n in
    let further = sum_by_push more (below n) n in
    omega (arith, now, was, further, each n, sums_grow before more after n each)

-- ---- what a step sends

stepped : (r : Rules) (before now : History) → step_sends r before now ≡ sends_to (suc r.limits.copies) (sent_past r before now)
stepped r before now =
    let n : r.limits.copies + 1 ≡ suc r.limits.copies = omega arith in
    ap (λ m. sends_to m (sent_past r before now)) n

pub few_sent : (r : Rules) (h : History) (e : Entry) (sends : List Send) → SendsMore r h e sends → r.limits.copies ≤ 8 → length sends ≤ 9
few_sent r h e sends more most =
    let all : length sends ≡ length (sends_to (suc r.limits.copies) (sent_past r h (h ++ e ∷ []))) = ap length (more.are ∙ stepped r h (h ++ e ∷ [])) in
    omega (arith, all, few_sends (suc r.limits.copies) (sent_past r h (h ++ e ∷ [])))

longer : (r : Rules) (h : History) (e : Entry) (sends : List Send) → SendsMore r h e sends → (link : ℕ) → length (sent r link (h ++ e ∷ [])) ≡ length (sent r link h) + length (sent_past r h (h ++ e ∷ []) link)
longer r h e sends more link = ap length (more.adds link) ∙ length-append (sent r link h) (sent_past r h (h ++ e ∷ []) link)

pub single_more : (r : Rules) (h : History) (e : Entry) (sends : List Send) → SendsMore r h e sends → (copies before : ℕ) → copies ≡ r.limits.copies → before ≡ length (sent r r.limits.copies h)
    → before + sum_by (bytes_where (λ link. link == copies)) sends ≡ length (sent r r.limits.copies (h ++ e ∷ []))
single_more r h e sends more copies before is was =
    ap₂ (λ a b. a + b) was
    (ap (λ n. sum_by (bytes_where (λ link. link == n)) sends) is
    ∙ ap (sum_by (bytes_where (λ link. link == r.limits.copies))) (more.are ∙ stepped r h (h ++ e ∷ []))
    ∙ sum_to_single r.limits.copies (sent_past r h (h ++ e ∷ [])))
    ∙ sym (longer r h e sends more r.limits.copies)

pub others_more : (r : Rules) (h : History) (e : Entry) (sends : List Send) → SendsMore r h e sends → (copies before : ℕ) → copies ≡ r.limits.copies → before ≡ sent_to_copies r h
    → before + sum_by (bytes_where (λ link. not (link == copies))) sends ≡ sent_to_copies r (h ++ e ∷ [])
others_more r h e sends more copies before is was =
    ap₂ (λ a b. a + b) was
    (ap (λ n. sum_by (bytes_where (λ link. not (link == n))) sends) is
    ∙ ap (sum_by (bytes_where (λ link. not (link == r.limits.copies)))) (more.are ∙ stepped r h (h ++ e ∷ []))
    ∙ sum_to_others r.limits.copies (sent_past r h (h ++ e ∷ [])))
    ∙ sym (sums_grow (λ link. length (sent r link h)) (λ link. length (sent_past r h (h ++ e ∷ []) link)) (λ link. length (sent r link (h ++ e ∷ []))) r.limits.copies (longer r h e sends more))
