-- What one more entry gives each link.
use Rattle.std.proofs.Common.{◌≡◌, ℕ, suc, ◌+◌, ◌≤◌, ◌<◌, Bool, true, false, List, [], ◌∷◌, ◌++◌, length, drop, map, Option, Some, None, refl, sym, ap, ap₂, subst, ◌∙◌, arith, cond, append-nil, append_assoc, length-append}
use Rattle.std.specs.Prelude.{is_some, fold}
use Rattle.std.specs.List.{flat_map}
use Rattle.std.proofs.lemmas.Grind.{flat_map-append}
use Rattle.std.proofs.lemmas.List.{map-append, length-map}
use Rattle.rd_base.specs.History.{History, Entry, Row, is_well_formed}
use Rattle.rd_dialect.specs.Laws.{Lawful}
use Rattle.rd_rules.specs.Exchange.{Rules, Ask, Exchange, Reading, reading, released, out_list}
use Rattle.rd_rules.specs.Given.{Release, releases, last_release, learnt, own_after, exchange_rows, released_count, told_rows, forwarded, forwarded_from, handed_back, is_asker, given, given_of}
use Rattle.rd_rules.specs.Step.{with_done, sent_before, given_now}
use Rattle.rd_rules.proofs.Grows.{Grown}
use Rattle.rd_rules.proofs.Streams.{reading-grown}
use Rattle.rd_rules.proofs.Telling.{told_before, told_now}

fold-append : {A B : Type 0} (f : B → A → B) (b : B) (xs ys : List A) → fold f b (xs ++ ys) ≡ fold f (fold f b xs) ys
fold-append f b [] ys = refl
fold-append f b (x ∷ xs) ys = fold-append f (f b x) xs ys

own_after-cons : (r : Rules) (own : List Row) (x : Exchange) (xs : List Exchange) → own_after r own (x ∷ xs) ≡ own_after r (learnt own (exchange_rows r x)) xs
own_after-cons r own x xs = fold-append _ own (exchange_rows r x) (flat_map (exchange_rows r) xs)

pub own_after-append : (r : Rules) (own : List Row) (xs ys : List Exchange) → own_after r own (xs ++ ys) ≡ own_after r (own_after r own xs) ys
own_after-append r own xs ys = ap (learnt own) (flat_map-append (exchange_rows r) xs ys) ∙ fold-append _ own (flat_map (exchange_rows r) xs) (flat_map (exchange_rows r) ys)

-- the releases of exchanges, and those behind them
releases-append : (r : Rules) (own : List Row) (xs ys : List Exchange) (out : Option Ask) → releases r own (xs ++ ys) out ≡ releases r own xs None ++ releases r (own_after r own xs) ys out
releases-append r own [] ys out = refl
releases-append r own (x ∷ xs) ys out =
    ap (λ rels. record { ask = x.ask; own = own } ∷ rels)
    (releases-append r (learnt own (exchange_rows r x)) xs ys out
    ∙ ap (λ rows. releases r (learnt own (exchange_rows r x)) xs None ++ releases r rows ys out) (sym (own_after-cons r own x xs)))

releases-out : (r : Rules) (own : List Row) (xs : List Exchange) (out : Option Ask) → releases r own xs out ≡ releases r own xs None ++ last_release (own_after r own xs) out
releases-out r own xs out = ap (λ ys. releases r own ys out) (sym (append-nil xs)) ∙ releases-append r own xs [] out

asks_of-releases : (r : Rules) (own : List Row) (xs : List Exchange) (out : Option Ask) → map (λ rel. rel.ask) (releases r own xs out) ≡ map (λ x. x.ask) xs ++ out_list out
asks_of-releases r own [] None = refl
asks_of-releases r own [] (Some ask) = refl
asks_of-releases r own (x ∷ xs) out = ap (λ asks. x.ask ∷ asks) (asks_of-releases r (learnt own (exchange_rows r x)) xs out)

pub length-releases : (r : Rules) (own : List Row) (now : Reading) → length (releases r own now.done now.out) ≡ length (released now)
length-releases r own now =
    sym (length-map (releases r own now.done now.out) (λ rel. rel.ask)) ∙ ap length (asks_of-releases r own now.done now.out)

-- a request that was out is the first of what is read further
first_release : (r : Rules) (own : List Row) (out : Option Ask) (next : Reading) (rest : List Ask) → out_list out ++ rest ≡ released next
    → last_release own out ++ drop (sent_before (is_some out)) (releases r own next.done next.out) ≡ releases r own next.done next.out
first_release r own None next rest is = refl
first_release r own (Some ask) next rest is = go next.done next.out is
  where
    go : (xs : List Exchange) (o : Option Ask) → ask ∷ rest ≡ map (λ x. x.ask) xs ++ out_list o → record { ask = ask; own = own } ∷ drop 1 (releases r own xs o) ≡ releases r own xs o
    go [] None e = absurd (cc e)
    go [] (Some a) e = let same : ask ≡ a = cc e in ap (λ b. record { ask = b; own = own } ∷ []) same
    go (x ∷ xs) o e = let same : ask ≡ x.ask = cc e in ap (λ b. record { ask = b; own = own } ∷ releases r (learnt own (exchange_rows r x)) xs o) same

cancel : (xs ys zs : List Ask) → xs ++ ys ≡ xs ++ zs → ys ≡ zs
cancel [] ys zs e = e
cancel (x ∷ xs) ys zs e = cancel xs ys zs (ap (drop 1) e)

pub released_done : (xs : List Exchange) (r : Reading) → released (with_done xs r) ≡ map (λ (x : Exchange). x.ask) xs ++ released r
released_done xs r = ap (λ cs. cs ++ out_list r.out) (map-append (λ (x : Exchange). x.ask) xs r.done) ∙ append_assoc (map (λ (x : Exchange). x.ask) xs) (map (λ (x : Exchange). x.ask) r.done) (out_list r.out)

-- what is out before is what is read first
pub out_first : (now next : Reading) → Grown now (with_done now.done next) → (rest : List Ask) × (out_list now.out ++ rest ≡ released next)
out_first now next grown =
    let asks = map (λ (x : Exchange). x.ask) now.done in
    let rest = grown.requests.0 in
    (rest, cancel asks (out_list now.out ++ rest) (released next) (sym (append_assoc asks (out_list now.out) rest) ∙ grown.requests.1 ∙ released_done now.done next))

-- all releases, one entry further
pub releases-next : (r : Rules) (now next : Reading) → Grown now (with_done now.done next)
    → releases r [] (now.done ++ next.done) next.out ≡ releases r [] now.done now.out ++ drop (sent_before (is_some now.out)) (releases r (own_after r [] now.done) next.done next.out)
releases-next r now next grown =
    let own = own_after r [] now.done in
    let first = out_first now next grown in
    let fresh = drop (sent_before (is_some now.out)) (releases r own next.done next.out) in
    releases-append r [] now.done next.done next.out
    ∙ ap (λ rels. releases r [] now.done None ++ rels) (sym (first_release r own now.out next first.0 first.1))
    ∙ sym (append_assoc (releases r [] now.done None) (last_release own now.out) fresh)
    ∙ ap (λ rels. rels ++ fresh) (sym (releases-out r [] now.done now.out))

-- ---- requests by what was told to them

forwarded_from-append : (r : Rules) (l : ℕ) (told : ℕ → List Row) (j : ℕ) (xs ys : List Release) → forwarded_from r l told j (xs ++ ys) ≡ forwarded_from r l told j xs ++ forwarded_from r l told (length xs + j) ys
forwarded_from-append r l told j [] ys = let none : j ≡ 0 + j = omega arith in ap (λ k. forwarded_from r l told k ys) none
forwarded_from-append r l told j (x ∷ xs) ys =
    let next : length xs + suc j ≡ suc (length xs) + j = omega arith in
    ap (λ bs. forwarded r l (told j) x ++ bs) (forwarded_from-append r l told (suc j) xs ys)
    ∙ sym (append_assoc (forwarded r l (told j) x) (forwarded_from r l told (suc j) xs) (forwarded_from r l told (length xs + suc j) ys))
    ∙ ap (λ k. forwarded_from r l told j (x ∷ xs) ++ forwarded_from r l told k ys) next

-- requests to which the same was told
forwarded_from-same : (r : Rules) (l : ℕ) (told other : ℕ → List Row) (j : ℕ) (xs : List Release) → ((k : ℕ) → j ≤ k → k < j + length xs → told k ≡ other k) → forwarded_from r l told j xs ≡ forwarded_from r l other j xs
forwarded_from-same r l told other j [] same = refl
forwarded_from-same r l told other j (x ∷ xs) same =
    ap₂ (λ rows bs. forwarded r l rows x ++ bs) (same j (omega arith) (omega arith))
    (forwarded_from-same r l told other (suc j) xs (λ k low high. same k (omega arith) (omega arith)))

forwarded_from-one : (r : Rules) (l : ℕ) (rows : List Row) (j : ℕ) (xs : List Release) → forwarded_from r l (λ k. rows) j xs ≡ flat_map (forwarded r l rows) xs
forwarded_from-one r l rows j [] = refl
forwarded_from-one r l rows j (x ∷ xs) = ap (λ bs. forwarded r l rows x ++ bs) (forwarded_from-one r l rows (suc j) xs)

given_both : (r : Rules) (l : ℕ) (b : Bool) (xs ys : List Exchange) (us vs ws : List ℕ) → ws ≡ us ++ vs
    → cond b (flat_map (handed_back r) (xs ++ ys)) ws ≡ cond b (flat_map (handed_back r) xs) us ++ cond b (flat_map (handed_back r) ys) vs
given_both r l true xs ys us vs ws is = flat_map-append (handed_back r) xs ys
given_both r l false xs ys us vs ws is = is

-- what an entry gives, where what is read with it is what was done before and a further reading
pub given_next : (r : Rules) → Lawful r.grammar → (l : ℕ) (h : History) (e : Entry) (next : Reading) → is_well_formed r.limits.copies h ≡ true → is_well_formed r.limits.copies (h ++ e ∷ []) ≡ true
    → reading r (h ++ e ∷ []) ≡ with_done (reading r h).done next
    → given r l (h ++ e ∷ []) ≡ given r l h ++ given_now r l (own_after r [] (reading r h).done) e.told (is_some (reading r h).out) next
given_next r laws l h e next before w is =
    let now = reading r h in
    let told = told_rows r (h ++ e ∷ []) in
    let grown : Grown now (with_done now.done next) = subst (λ x. Grown now x) is (reading-grown r laws h (e ∷ []) w) in
    let old = releases r [] now.done now.out in
    let fresh = drop (sent_before (is_some now.out)) (releases r (own_after r [] now.done) next.done next.out) in
    let count : length old ≡ released_count r h = length-releases r [] now in
    let all : length (old ++ fresh) ≡ released_count r (h ++ e ∷ []) =
    ap length (sym (releases-next r now next grown)) ∙ length-releases r [] (with_done now.done next) ∙ ap (λ x. length (released x)) (sym is) in
    let requests : forwarded_from r l told 1 (releases r [] (now.done ++ next.done) next.out) ≡ forwarded_from r l (told_rows r h) 1 old ++ flat_map (forwarded r l e.told) fresh =
    ap (forwarded_from r l told 1) (releases-next r now next grown)
    ∙ forwarded_from-append r l told 1 old fresh
    ∙ ap₂ (λ us vs. us ++ vs)
    (forwarded_from-same r l told (told_rows r h) 1 old (λ k low high. told_before r h e k (omega (arith, count))))
    (forwarded_from-same r l told (λ k. e.told) (length old + 1) fresh (λ k low high. told_now r laws h e k before (omega (arith, count)) (omega (arith, all, length-append old fresh)))
    ∙ forwarded_from-one r l e.told (length old + 1) fresh) in
    ap (λ x. given_of r l told x.done 1 (releases r [] x.done x.out)) is
    ∙ given_both r l (is_asker r l) now.done next.done (forwarded_from r l (told_rows r h) 1 old) (flat_map (forwarded r l e.told) fresh) (forwarded_from r l told 1 (releases r [] (now.done ++ next.done) next.out)) requests
