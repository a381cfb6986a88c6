-- The own rows after each exchange of a step.
use Rattle.std.proofs.Common.{◌≡◌, ℕ, zero, suc, ◌+◌, ◌<◌, List, [], ◌∷◌, ◌++◌, length, get_or, map, Option, refl, sym, ap, ◌∙◌, arith, append_assoc}
use Rattle.std.specs.List.{flat_map}
use Rattle.rd_base.specs.History.{Row}
use Rattle.rd_base.specs.OwnRows.{learn_row}
use Rattle.rd_rules.specs.Given.{learnt}
use Rattle.rd_reading.specs.declared.exchange.DoneExchange.{DoneExchange}
use Rattle.rd_base.proofs.SharedRows.{get_or-map}
use Rattle.rd_core.specs.OwnLists.{OwnsSeen, latest_of, last_own, own_at, owns_after}

at_last : {A : Type 0} (first : A) (xs : List A) (y d : A) → get_or (first ∷ (xs ++ y ∷ [])) (length (xs ++ y ∷ [])) d ≡ y
at_last first [] y d = refl
at_last first (x ∷ xs) y d = at_last x xs y d

-- the last is the one that was added
pub own_at-added : (own : List Row) (after : List (List Row)) (last : List Row) → own_at own (after ++ last ∷ []) (length (after ++ last ∷ [])) ≡ last
own_at-added own after last = at_last own after last own

-- one exchange further
next_at : (own : List Row) (done : List DoneExchange) (i : ℕ) (x : DoneExchange) (d : List Row) → i < length done
    → get_or (own ∷ owns_after own done) (suc i) d ≡ learnt (get_or (own ∷ owns_after own done) i d) (get_or done i x).replies.rows
next_at own [] i x d lt = absurd (omega arith)
next_at own (y ∷ ys) zero x d lt = refl
next_at own (y ∷ ys) (suc i) x d lt = next_at (learnt own y.replies.rows) ys i x d (omega arith)

pub own_at-next : (own : List Row) (after : List (List Row)) (done : List DoneExchange) (i : ℕ) (x : DoneExchange) → after ≡ owns_after own done → i < length done
    → own_at own after (i + 1) ≡ learnt (own_at own after i) (get_or done i x).replies.rows
own_at-next own after done i x is lt =
    let size : i + 1 ≡ suc i = omega arith in
    ap (own_at own after) size
    ∙ ap (λ lists. own_at own lists (suc i)) is
    ∙ next_at own done i x own lt
    ∙ ap (λ lists. learnt (own_at own lists i) (get_or done i x).replies.rows) (sym is)

learnt-more : (own more rows : List Row) → learnt (learnt own more) rows ≡ learnt own (more ++ rows)
learnt-more own [] rows = refl
learnt-more own (row ∷ more) rows = learnt-more (learn_row 256 own row) more rows

last_at : (own : List Row) (done : List DoneExchange) (d : List Row) → get_or (own ∷ owns_after own done) (length (owns_after own done)) d ≡ learnt own (flat_map (λ x. x.replies.rows) done)
last_at own [] d = refl
last_at own (x ∷ xs) d = last_at (learnt own x.replies.rows) xs d ∙ learnt-more own x.replies.rows (flat_map (λ y. y.replies.rows) xs)

-- after all exchanges, all their rows are learnt
pub own_at-last : (own : List Row) (after : List (List Row)) (done : List DoneExchange) → after ≡ owns_after own done → own_at own after (length after) ≡ learnt own (flat_map (λ x. x.replies.rows) done)
own_at-last own after done is = ap (λ lists. own_at own lists (length lists)) is ∙ last_at own done own

pub length-owns_after : (own : List Row) (done : List DoneExchange) → length (owns_after own done) ≡ length done
length-owns_after own [] = refl
length-owns_after own (x ∷ xs) = ap suc (length-owns_after (learnt own x.replies.rows) xs)

-- ---- lists of own rows that are kept where they differ

pub owns_after-more : (seen new : OwnsSeen) (x : DoneExchange) (rest : List DoneExchange) → new ≡ record { own = seen.own; after = seen.after ++ learnt (last_own seen) x.replies.rows ∷ [] }
    → new.after ++ owns_after (last_own new) rest ≡ seen.after ++ owns_after (last_own seen) (x ∷ rest)
owns_after-more seen new x rest is =
    let added = learnt (last_own seen) x.replies.rows in
    ap (λ (n : OwnsSeen). n.after ++ owns_after (last_own n) rest) is
    ∙ ap (λ o. (seen.after ++ added ∷ []) ++ owns_after o rest) (own_at-added seen.own seen.after added)
    ∙ append_assoc seen.after (added ∷ []) (owns_after added rest)

pub own_at-kept : (own : List Row) (after : List (Option (List Row))) (k : ℕ) (x : Option (List Row)) → k < length after
    → own_at own (map (latest_of own) after) (k + 1) ≡ latest_of own (get_or after k x)
own_at-kept own after k x lt =
    let size : k + 1 ≡ suc k = omega arith in
    ap (own_at own (map (latest_of own) after)) size ∙ sym (get_or-map (latest_of own) after k x own lt)
