-- Each step keeps the rule.
use Rattle.std.proofs.Common.{◌≡◌, ◌≢◌, ℕ, zero, suc, ◌+◌, ◌<◌, ◌≤◌, ◌==◌, Bool, true, false, true≢false, cond, List, [], ◌∷◌, ◌++◌, length, set, sym, refl, ap, ◌∙◌, subst, ⊎_elim, inl, inr, ◌⊎◌, append_assoc, append-nil, length-append, arith, le_refl}
use Rattle.std.proofs.lemmas.Bool.{eqb-true, eq-eqb}
use mathlib.Core.Option.{Option, some, none, some-ne-none, some-injective}
use lib.ListN.{get_elem?}
use Rattle.crossbeam_queue.specs.Fifo.{Pushes, Pops, Forks, Merges, Learns}
use Rattle.crossbeam_queue.proofs.Lists.{at_set}
use Rattle.rd_gate.specs.declared.item.Item.{Item}
use Rattle.rd_gate.specs.declared.gate.Ended.{Ended}
use Rattle.rd_gate.specs.declared.gate.View.{View}
use Rattle.std.specs.List.{AllByRecursion as Each}
use Rattle.rd_gate.specs.Gate.{of, nobody, owner, reader, FitsReader, FitsEnded, FitsOwner, Kept, took, looked, pushed, named, joined, HoldsLast, Whole}

each_map : {X : Type 0} (P Q : X → Type 0) → ((x : X) → P x → Q x) → (xs : List X) → Each P xs → Each Q xs
each_map P Q f [] h = tt
each_map P Q f (x ∷ xs) h = (f x h.0, each_map P Q f xs h.1)

each_snoc : {X : Type 0} (P : X → Type 0) (xs : List X) (y : X) → Each P xs → P y → Each P (xs ++ y ∷ [])
each_snoc P [] y h p = (p, tt)
each_snoc P (x ∷ xs) y h p = (h.0, each_snoc P xs y h.1 p)

abbrev AllOf : (ℕ → View → Type 0) → List View → Type 0
AllOf F views = (port : ℕ) (v : View) → get_elem? views port ≡ some v → F port v

all_set : (F : ℕ → View → Type 0) (views : List View) (port : ℕ) (w : View) → F port w → ((j : ℕ) (u : View) → j ≢ port → get_elem? views j ≡ some u → F j u) → AllOf F (set views port w)
all_set F views port w mine others j u e = ⊎_elim (λ (x : (j ≡ port) × (w ≡ u)). subst (λ (y : ℕ × View). F y.0 y.1) (λ i. (sym x.0 i, x.1 i)) mine)
    (λ (x : (j ≢ port) × (get_elem? views j ≡ some u)). others j u x.0 x.1) (at_set views port j w u e)

at_end : (l : List View) (a b : View) (j : ℕ) → get_elem? (l ++ a ∷ []) j ≡ some b → (get_elem? l j ≡ some b) ⊎ ((j ≡ length l) × (a ≡ b))
at_end [] a b zero e = inr (refl, some-injective a b e)
at_end [] a b (suc j) e = absurd (some-ne-none b (sym e))
at_end (x ∷ xs) a b zero e = inl e
at_end (x ∷ xs) a b (suc j) e = ⊎_elim (λ t. inl t) (λ t. inr (ap suc t.0, t.1)) (at_end xs a b j e)

all_snoc : (F : ℕ → View → Type 0) (views : List View) (w : View) → AllOf F views → F (length views) w → AllOf F (views ++ w ∷ [])
all_snoc F views w all mine j u e = ⊎_elim (all j u) (λ (x : (j ≡ length views) × (w ≡ u)). subst (λ (y : ℕ × View). F y.0 y.1) (λ i. (sym x.0 i, x.1 i)) mine) (at_end views w u j e)

-- the items of a link in two lists
pub of-append : (p : ℕ) (xs ys : List (ℕ × Item)) → of p (xs ++ ys) ≡ of p xs ++ of p ys
of-append p [] ys = refl
of-append p (x ∷ xs) ys = let P : Bool → Type 0 = λ b. cond b (x.1 ∷ of p (xs ++ ys)) (of p (xs ++ ys)) ≡ cond b (x.1 ∷ of p xs) (of p xs) ++ of p ys in
    elim (x.0 == p) as P [ true ↦ ap (λ l. x.1 ∷ l) (of-append p xs ys) | false ↦ of-append p xs ys ]

-- what a link has pushed, once link l has pushed x
abbrev more : (ℕ → List Item) → ℕ → Item → ℕ → List Item
more sent l x p = cond (l == p) (sent p ++ x ∷ []) (sent p)

of-more : (sent : ℕ → List Item) (all : List (ℕ × Item)) (l : ℕ) (x : Item) (p : ℕ) → of p all ≡ sent p → of p (all ++ (l, x) ∷ []) ≡ more sent l x p
of-more sent all l x p h = of-append p all ((l, x) ∷ []) ∙ (let P : Bool → Type 0 = λ b. of p all ++ cond b (x ∷ []) [] ≡ cond b (sent p ++ x ∷ []) (sent p) in
    elim (l == p) as P [ true ↦ ap (λ s. s ++ x ∷ []) h | false ↦ append-nil (of p all) ∙ h ])

more-here : (sent : ℕ → List Item) (l : ℕ) (x : Item) → more sent l x l ≡ sent l ++ x ∷ []
more-here sent l x = let P : Bool → Type 0 = λ b. cond b (sent l ++ x ∷ []) (sent l) ≡ sent l ++ x ∷ [] in subst P (sym (eq-eqb l l refl)) refl

more-else : (sent : ℕ → List Item) (l : ℕ) (x : Item) (p : ℕ) → l ≢ p → more sent l x p ≡ sent p
more-else sent l x p apart = at_bool (l == p) (eqb-true l p)
  where
    at_bool : (b : Bool) → (b ≡ true → l ≡ p) → cond b (sent p ++ x ∷ []) (sent p) ≡ sent p
    at_bool true h = absurd (apart (h refl))
    at_bool false h = refl

-- seats, once link l has another
moved : (ℕ → Option ℕ) → ℕ → Option ℕ → ℕ → Option ℕ
moved seat l to p = cond (l == p) to (seat p)

moved-here : (seat : ℕ → Option ℕ) (l : ℕ) (to : Option ℕ) → moved seat l to l ≡ to
unfolding moved
moved-here seat l to = let P : Bool → Type 0 = λ b. cond b to (seat l) ≡ to in subst P (sym (eq-eqb l l refl)) refl

moved-else : (seat : ℕ → Option ℕ) (l : ℕ) (to : Option ℕ) (p : ℕ) → l ≢ p → moved seat l to p ≡ seat p
unfolding moved
moved-else seat l to p apart = at_bool (l == p) (eqb-true l p)
  where
    at_bool : (b : Bool) → (b ≡ true → l ≡ p) → cond b to (seat p) ≡ seat p
    at_bool true h = absurd (apart (h refl))
    at_bool false h = refl

moved-none : (seat : ℕ → Option ℕ) (l p : ℕ) → seat p ≡ none → moved seat l none p ≡ none
unfolding moved
moved-none seat l p h = let P : Bool → Type 0 = λ b. cond b none (seat p) ≡ none in elim (l == p) as P [ true ↦ refl | false ↦ h ]

abbrev Fits : ℕ → (ℕ → Option ℕ) → (ℕ → List Item) → List (ℕ × Item) → ℕ → View → Type 0
Fits owner seat sent taken j u = FitsReader seat sent j u × FitsOwner owner seat sent taken j u

idle : (o : ℕ) (seat : ℕ → Option ℕ) (sent : ℕ → List Item) (taken : List (ℕ × Item)) (j : ℕ) → Fits o seat sent taken j nobody
idle o seat sent taken j = ((λ r. absurd (true≢false (sym r))), λ r. absurd (true≢false (sym r)))

pub begins : Kept [] (owner 0 [] [] [] ∷ [])
begins = (
  0,
  (λ _. none),
  (λ _. []),
  [],
  (λ p. refl),
  all_snoc (Fits 0 (λ _. none) (λ _. []) []) [] (owner 0 [] [] []) (λ j u e. absurd (some-ne-none u (sym e)))
      ((λ r. absurd (true≢false (sym r))), λ _. (refl, refl, (λ p _. (refl, refl)), tt, tt)),
)

pub sends : (n port : ℕ) (v : View) (l : ℕ) (x : Item) → v.reads ≡ true → v.owns ≡ false → v.link ≡ l → Pushes Kept n port v (l, x) (λ w. w ≡ pushed v x)
sends n port v l x may not is items views room h at =
    let seat = h.1 in let was = h.2 in let sent = more h.2 l x in
    let mine = (h.5 port v at).0 may in
    let here : seat l ≡ some port = sym (ap seat is) ∙ mine.0 in
    let apart : (p : ℕ) → seat p ≡ none → l ≢ p = λ p no same. some-ne-none port (sym here ∙ ap seat same ∙ no) in (
      pushed v x,
      (
        h.0,
        seat,
        sent,
        h.3,
        (λ p. ap (of p) (sym (append_assoc h.3 items ((l, x) ∷ []))) ∙ of-more was (h.3 ++ items) l x p (h.4 p)),
        all_set (Fits h.0 seat sent h.3) views port (pushed v x)
            ((λ _. (mine.0, ap (λ s. s ++ x ∷ []) mine.1 ∙ sym (more-here was v.link x) ∙ ap (λ k. more was k x v.link) is)), λ o. absurd (true≢false (sym o ∙ not)))
            (λ j u other e. (
              (λ r. let t = (h.5 j u e).0 r in (t.0, t.1 ∙ sym (more-else was l x u.link (λ same. other (some-injective j port (sym t.0 ∙ ap seat (sym same) ∙ here)))))),
              λ o. let t = (h.5 j u e).1 o in (
                t.0,
                t.1,
                (λ p le. ((t.2 p le).0, more-else was l x p (apart p (t.2 p le).0) ∙ (t.2 p le).1)),
                each_map (λ (d : Ended). (d.link < u.made) × FitsEnded seat was d) (λ d. (d.link < u.made) × FitsEnded seat sent d) (λ d f. (f.0, (f.1.0, f.1.1 ∙ sym (more-else was l x d.link (apart d.link f.1.0))))) u.ended t.3,
                t.4,
              ),
            )),
      ),
      refl,
    )

pub takes : (port : ℕ) (v : View) → v.owns ≡ true → v.reads ≡ false → Pops Kept port v (λ x w. w ≡ took v x)
takes port v may not x items views h at =
    let mine = (h.5 port v at).1 may in let taken = h.3 ++ x ∷ [] in (
      took v x,
      (
        h.0,
        h.1,
        h.2,
        taken,
        (λ p. ap (of p) (append_assoc h.3 (x ∷ []) items) ∙ h.4 p),
        all_set (Fits h.0 h.1 h.2 taken) views port (took v x) (
          (λ r. absurd (true≢false (sym r ∙ not))),
          λ _. (mine.0, ap (λ l. l ++ x ∷ []) mine.1, mine.2, mine.3, each_map (λ n. n ≤ length h.3) (λ n. n ≤ length taken) (λ n le. omega (arith, length-append h.3 (x ∷ []), le)) v.looks mine.4),
        )
            (λ j u other e. ((h.5 j u e).0, λ o. absurd (other (((h.5 j u e).1 o).0 ∙ sym mine.0)))),
      ),
      refl,
    )

pub names : (port : ℕ) (v : View) → v.owns ≡ true → v.reads ≡ false → Forks Kept port v (named v) (reader v.made [])
names port v may not items views h at =
    let mine = (h.5 port v at).1 may in let vs : List View = set views port (named v) in
    let seat = moved h.1 v.made (some (length vs)) in
    let free = (mine.2 v.made (le_refl v.made)).0 in (
      h.0,
      seat,
      h.2,
      h.3,
      h.4,
      all_snoc (Fits h.0 seat h.2 h.3) vs (reader v.made [])
          (all_set (Fits h.0 seat h.2 h.3) views port (named v) (
            (λ r. absurd (true≢false (sym r ∙ not))),
            λ _. (
              mine.0,
              mine.1,
              (λ p le. let le' : v.made ≤ p = omega (arith, le) in (moved-else h.1 v.made (some (length vs)) p (λ same. omega (arith, le, same)) ∙ (mine.2 p le').0, (mine.2 p le').1)),
              each_map (λ (d : Ended). (d.link < v.made) × FitsEnded h.1 h.2 d) (λ d. (d.link < v.made + 1) × FitsEnded seat h.2 d)
                  (λ d f. (omega (arith, f.0), (moved-else h.1 v.made (some (length vs)) d.link (λ same. omega (arith, f.0, same)) ∙ f.1.0, f.1.1))) v.ended mine.3,
              mine.4,
            ),
          )
          (λ j u other e. (
            (λ r. let t = (h.5 j u e).0 r in (moved-else h.1 v.made (some (length vs)) u.link (λ same. some-ne-none j (sym t.0 ∙ ap h.1 (sym same) ∙ free)) ∙ t.0, t.1)),
            λ o. absurd (other (((h.5 j u e).1 o).0 ∙ sym mine.0)),
          )))
          ((λ _. (moved-here h.1 v.made (some (length vs)), sym (mine.2 v.made (le_refl v.made)).1)), λ o. absurd (true≢false (sym o))),
    )

lt_or_ge : (a b : ℕ) → (a < b) ⊎ (b ≤ a)
lt_or_ge a zero = inr (omega arith)
lt_or_ge zero (suc b) = inl (omega arith)
lt_or_ge (suc a) (suc b) = ⊎_elim (λ t. inl (omega (arith, t))) (λ t. inr (omega (arith, t))) (lt_or_ge a b)

pub takes_in : (port : ℕ) (v : View) (other : ℕ) (w : View) → v.owns ≡ true → v.reads ≡ false → w.reads ≡ true → Merges Kept port v other w (joined v w) nobody
takes_in port v other w may not ends items views h at two at' =
    let mine = (h.5 port v at).1 may in let both = joined v w in let vs : List View = set views port both in
    let was : get_elem? views other ≡ some w = ⊎_elim (λ x. absurd (two x.0)) (λ x. x.1) (at_set views port other both w at') in
    let theirs = (h.5 other w was).0 ends in
    let seat = moved h.1 w.link none in
    let low : w.link < v.made = ⊎_elim (λ t. t) (λ t. absurd (some-ne-none other (sym theirs.0 ∙ (mine.2 w.link t).0))) (lt_or_ge w.link v.made) in
    let Now : ℕ → View → Type 0 = λ j y. j ≢ other → Fits h.0 seat h.2 h.3 j y in
    let now : AllOf Now vs = all_set Now views port both
    (λ _. (
      (λ r. absurd (true≢false (sym r ∙ not))),
      λ _. (
        mine.0,
        mine.1,
        (λ p le. (moved-none h.1 w.link p (mine.2 p le).0, (mine.2 p le).1)),
        (
          (low, (moved-here h.1 w.link none, theirs.1)),
          each_map (λ (d : Ended). (d.link < v.made) × FitsEnded h.1 h.2 d) (λ d. (d.link < v.made) × FitsEnded seat h.2 d) (λ d f. (f.0, (moved-none h.1 w.link d.link f.1.0, f.1.1))) v.ended mine.3,
        ),
        mine.4,
      ),
    ))
    (λ j u away e apart. (
      (λ r. let t = (h.5 j u e).0 r in (moved-else h.1 w.link none u.link (λ same. apart (some-injective j other (sym t.0 ∙ ap h.1 (sym same) ∙ theirs.0))) ∙ t.0, t.1)),
      λ o. absurd (away (((h.5 j u e).1 o).0 ∙ sym mine.0)),
    )) in
    (h.0, seat, h.2, h.3, h.4, all_set (Fits h.0 seat h.2 h.3) vs other nobody (idle h.0 seat h.2 h.3 other) (λ j y apart e. now j y e apart))

pub spares : (port : ℕ) (v : View) → Forks Kept port v v nobody
spares port v items views h at =
    (h.0, h.1, h.2, h.3, h.4, all_snoc (Fits h.0 h.1 h.2 h.3) (set views port v) nobody (all_set (Fits h.0 h.1 h.2 h.3) views port v (h.5 port v at) (λ j u other e. h.5 j u e)) (idle h.0 h.1 h.2 h.3 (length (set views port v))))

pub notes : (port : ℕ) (v : View) (other : ℕ) (w : View) → v.owns ≡ true → v.reads ≡ false → Merges Kept port v other w (looked v) nobody
notes port v other w may not items views h at two at' =
    let mine = (h.5 port v at).1 may in let vs : List View = set views port (looked v) in
    let now : AllOf (Fits h.0 h.1 h.2 h.3) vs = all_set (Fits h.0 h.1 h.2 h.3) views port (looked v) (
      (λ r. absurd (true≢false (sym r ∙ not))),
      λ _. (mine.0, mine.1, mine.2, mine.3, each_snoc (λ n. n ≤ length h.3) v.looks (length v.taken) mine.4 (let P : List (ℕ × Item) → Type 0 = λ t. length t ≤ length h.3 in subst P (sym mine.1) (le_refl (length h.3)))),
    )
    (λ j u other e. h.5 j u e) in
    (h.0, h.1, h.2, h.3, h.4, all_set (Fits h.0 h.1 h.2 h.3) vs other nobody (idle h.0 h.1 h.2 h.3 other) (λ j y apart e. now j y e))

pub learns : (port : ℕ) (v : View) → v.owns ≡ true → Learns Kept port v (Whole v)
learns port v may items views h at =
    let mine = (h.5 port v at).1 may in
    record {
      ended = each_map (λ (d : Ended). (d.link < v.made) × FitsEnded h.1 h.2 d) (λ d. of d.link (v.taken ++ items) ≡ d.pushed) (λ d f. ap (λ t. of d.link (t ++ items)) mine.1 ∙ h.4 d.link ∙ sym f.1.1) v.ended mine.3;
      others = λ p le. ap (λ t. of p (t ++ items)) mine.1 ∙ h.4 p ∙ (mine.2 p le).1;
    }

-- a reader learns that what the gate holds of its link ends what it pushed
pub sees : (port : ℕ) (v : View) → v.reads ≡ true → Learns Kept port v (HoldsLast v)
sees port v may items views h at =
    let mine = (h.5 port v at).0 may in
    record { front = of v.link h.3; last = sym (of-append v.link h.3 items) ∙ h.4 v.link ∙ sym mine.1 }
