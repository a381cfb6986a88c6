-- Links that fail, and stops, one happening further.
use Rattle.std.proofs.Common.{◌≡◌, ℕ, zero, suc, ◌+◌, Bool, true, false, List, [], ◌∷◌, ◌++◌, map, Option, Some, None, refl, sym, ap, ap₂, ◌∙◌, arith, cond}
use Rattle.std.specs.Prelude.{find, option_map, ◌||◌, ◌&&◌, ◌==◌, nat_le, nat_lt}
use Rattle.std.specs.Option.{option_or}
use Rattle.rd_core.specs.Faults.{failing, fault_of, fault_by, past_among}
use Rattle.rd_base.specs.declared.values.Ending.TheVariants.{LinkFault}
use Rattle.std.specs.List.{list_any}
use Rattle.std.proofs.lemmas.List.Folds.{list_any-append, find-append}
use Rattle.std.proofs.lemmas.Bool.Decides.{nat_tests}
use Rattle.rd_base.specs.declared.values.What.{What}
use Rattle.rd_base.specs.declared.values.What.TheVariants.{Piece, End, ReadFail, WriteFail, Timer, Stop}
use Rattle.rd_base.specs.History.{Entry}
use Rattle.rd_base.specs.declared.values.Ending.{Ending}
use Rattle.rd_base.specs.Words.{below}
use Rattle.rd_base.specs.History.{History, is_stop}
use Rattle.rd_dialect.specs.Grammar.{Grammar}
use Rattle.rd_base.specs.declared.values.Link.{Link}
use Rattle.rd_base.specs.declared.values.Ending.TheVariants as ending
use Rattle.rd_rules.specs.Exchange.{Rules, Ask, Open}
use Rattle.rd_rules.specs.Step.{grow_by}
use Rattle.rd_rules.specs.Trouble.{Now, or_else, fails, link_fault_at, link_fault, stopped_at, stopped, link_of, first_trouble, unsolicited_by, unsolicited_among, goes_past}

or_false : (b : Bool) → (b || false) ≡ b
or_false true = refl
or_false false = refl

rest_none : (p : Bool) (l : ℕ) (xs : Option ℕ) → cond p (Some l) xs ≡ None → xs ≡ None
rest_none true l xs n = cc
rest_none false l xs n = n

not_here : (p : Bool) (l : ℕ) (xs : Option ℕ) → cond p (Some l) xs ≡ None → p ≡ false
not_here true l xs n = cc
not_here false l xs n = refl

-- where no link passed before, those that pass now are those of the last entry
find_more : (h : History) (e : Entry) (ls : List ℕ) → find (λ l. list_any (λ x. fails l x.what) h) ls ≡ None → find (λ l. list_any (λ x. fails l x.what) (h ++ e ∷ [])) ls ≡ find (λ l. fails l e.what) ls
find_more h e [] n = refl
find_more h e (l ∷ ls) n =
    let before : Bool = list_any (λ x. fails l x.what) h in
    let off : before ≡ false = not_here before l (find (λ l. list_any (λ x. fails l x.what) h) ls) n in
    let here : list_any (λ x. fails l x.what) (h ++ e ∷ []) ≡ fails l e.what = list_any-append (λ x. fails l x.what) h (e ∷ []) ∙ ap (λ b. b || (fails l e.what || false)) off ∙ or_false (fails l e.what) in
    ap₂ (λ b o. cond b (Some l) o) here (find_more h e ls (rest_none before l (find (λ l. list_any (λ x. fails l x.what) h) ls) n))

left_none : (a b : Option Ending) → or_else a b ≡ None → a ≡ None
left_none None b e = refl
left_none (Some x) b e = cc

right_none : (a b : Option Ending) → or_else a b ≡ None → b ≡ None
right_none None b e = e
right_none (Some x) b e = cc

no_link : (o : Option ℕ) → link_fault_at o ≡ None → o ≡ None
no_link None e = refl
no_link (Some l) e = cc

not_stopped : (b : Bool) → stopped_at b ≡ None → b ≡ false
not_stopped true e = cc
not_stopped false e = refl

pub fault_next : (n : ℕ) (h : History) (e : Entry) → or_else (link_fault n h) (stopped h) ≡ None → or_else (link_fault n (h ++ e ∷ [])) (stopped (h ++ e ∷ [])) ≡ fault_by n e.what
fault_next n h e q =
    let links = find_more h e (below (n + 1)) (no_link (find (λ l. list_any (λ x. fails l x.what) h) (below (n + 1))) (left_none (link_fault n h) (stopped h) q)) in
    let off = not_stopped (list_any (λ x. is_stop x.what) h) (right_none (link_fault n h) (stopped h) q) in
    let stop : list_any (λ x. is_stop x.what) (h ++ e ∷ []) ≡ is_stop e.what = list_any-append (λ x. is_stop x.what) h (e ∷ []) ∙ ap (λ b. b || (is_stop e.what || false)) off ∙ or_false (is_stop e.what) in
    ap₂ (λ o b. or_else (link_fault_at o) (stopped_at b)) links stop

never : (ls : List ℕ) → find (λ l. false) ls ≡ None
never [] = refl
never (l ∷ ls) = never ls

pub no_fault : (n : ℕ) (g : Grammar) (now : Now) (w : What) (x : Ending) → unsolicited_by g now w ≡ Some x → fault_by n w ≡ None
no_fault n g now (Piece l bytes) x u = ap (λ o. or_else (link_fault_at o) None) (never (below (n + 1)))
no_fault n g now (End l) x u = cc
no_fault n g now (ReadFail l) x u = cc
no_fault n g now (WriteFail l) x u = cc
no_fault n g now Timer x u = cc
no_fault n g now Stop x u = cc

pub nothing_fails : (r : Rules) → first_trouble r [] ≡ None
nothing_fails r = ap (λ o. or_else (link_fault_at o) None) (never (below (r.limits.copies + 1)))

-- the one link that a happening fails, among those below
some_at : (b : Bool) (m : ℕ) (k : ℕ) → (k == m) ≡ b → cond b (Some k) None ≡ cond b (Some m) None
some_at true m k e = let same : k ≡ m = grind (arith, nat_tests) in ap Some same
some_at false m k e = refl

lt_test : (m n : ℕ) (b : Bool) → nat_lt m n ≡ b → option_or (cond b (Some m) None) (cond (n == m) (Some m) None) ≡ cond (nat_lt m (suc n)) (Some m) None
lt_test m n true e = let t : nat_lt m (suc n) ≡ true = grind (arith, nat_tests) in ap (λ b. cond b (Some m) None) (sym t)
lt_test m n false e = let t : (n == m) ≡ nat_lt m (suc n) = grind (arith, nat_tests) in ap (λ b. cond b (Some m) None) t

pub find_below : (m n : ℕ) → find (λ l. l == m) (below n) ≡ cond (nat_lt m n) (Some m) None
find_below m zero = let t : nat_lt m 0 ≡ false = grind (arith, nat_tests) in ap (λ b. cond b (Some m) None) (sym t)
find_below m (suc n) =
    find-append (λ l. l == m) (below n) (n ∷ [])
    ∙ ap₂ option_or (find_below m n) (some_at (n == m) m n refl)
    ∙ lt_test m n (nat_lt m n) refl

find_or : (m : ℕ) (ls : List ℕ) → find (λ l. (l == m) || false) ls ≡ find (λ l. l == m) ls
find_or m [] = refl
find_or m (l ∷ ls) = ap₂ (λ b o. cond b (Some l) o) (or_false (l == m)) (find_or m ls)

at_most : (m n : ℕ) (b : Bool) → nat_lt m (n + 1) ≡ b → link_fault_at (cond b (Some m) None) ≡ cond (nat_le m n) (Some (LinkFault (link_of m))) None
at_most m n true e = let t : nat_le m n ≡ true = grind (arith, nat_tests) in ap (λ b. cond b (Some (LinkFault (link_of m))) None) (sym t)
at_most m n false e = let t : nat_le m n ≡ false = grind (arith, nat_tests) in ap (λ b. cond b (Some (LinkFault (link_of m))) None) (sym t)

fault_one : (m n : ℕ) → link_fault_at (find (λ l. l == m) (below (n + 1))) ≡ fault_of n (Some m)
fault_one m n = ap link_fault_at (find_below m (n + 1)) ∙ at_most m n (nat_lt m (n + 1)) refl

pub fault_is : (n : ℕ) (w : What) → fault_of n (failing w) ≡ link_fault_at (find (λ l. fails l w) (below (n + 1)))
fault_is n (Piece l bytes) = sym (ap link_fault_at (never (below (n + 1))))
fault_is n (End l) = sym (ap link_fault_at (never (below (n + 1))))
fault_is n (ReadFail m) = sym (ap link_fault_at (find_or m.0 (below (n + 1))) ∙ fault_one m.0 n)
fault_is n (WriteFail m) = sym (fault_one m.0 n)
fault_is n Timer = sym (ap link_fault_at (never (below (n + 1))))
fault_is n Stop = sym (ap link_fault_at (never (below (n + 1))))

-- ---- a piece that stands behind what was open

past_at : (g : Grammar) (out : Option Ask) (bytes piece : List ℕ) (b : Bool) → (b && goes_past g out (bytes ++ cond b piece [])) ≡ (b && goes_past g out (bytes ++ piece))
past_at g out bytes piece true = refl
past_at g out bytes piece false = refl

found_at : (b : Bool) (o p : Open) (x y : Option Open) → o.link ≡ p.link → option_map (λ o. ending.Unsolicited (link_of o.link)) x ≡ option_map (λ o. ending.Unsolicited (link_of o.link)) y
    → option_map (λ o. ending.Unsolicited (link_of o.link)) (cond b (Some o) x) ≡ option_map (λ o. ending.Unsolicited (link_of o.link)) (cond b (Some p) y)
found_at true o p x y link rest = ap (λ l. Some (ending.Unsolicited (link_of l))) link
found_at false o p x y link rest = rest

pub past_grown : (g : Grammar) (out : Option Ask) (l : Link) (piece : List ℕ) (os : List Open) → past_among g out l.0 (map (grow_by (Piece l piece)) os) ≡ unsolicited_among g out l.0 piece os
past_grown g out l piece [] = refl
past_grown g out l piece (o ∷ os) =
    let rest = find (λ p. (p.link == l.0) && goes_past g out p.bytes) (map (grow_by (Piece l piece)) os) in
    ap (λ b. option_map (λ (p : Open). ending.Unsolicited (link_of p.link)) (cond b (Some (grow_by (Piece l piece) o)) rest)) (past_at g out o.bytes piece (o.link == l.0))
    ∙ found_at ((o.link == l.0) && goes_past g out (o.bytes ++ piece)) (grow_by (Piece l piece) o) o rest (find (λ p. (p.link == l.0) && goes_past g out (p.bytes ++ piece)) os) refl (past_grown g out l piece os)
