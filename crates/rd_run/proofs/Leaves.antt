-- How what a session leaves adds up.
use Rattle.std.proofs.Common.{◌≡◌, ◌≢◌, ℕ, zero, suc, ◌+◌, ◌<◌, ◌≤◌, List, [], ◌∷◌, ◌++◌, length, map, set, refl, sym, ap, ap₂, ◌∙◌, subst, ⊎_elim, ◌⊎◌, inl, inr, append_assoc, append-nil, arith, le_refl}
use Rattle.std.proofs.lemmas.List.{length-set}
use Rattle.rd_base.specs.declared.values.Link.{Link}
use Rattle.rd_gate.specs.declared.item.Item.{Item}
use Rattle.rd_gate.specs.declared.gate.View.{View}
use Rattle.rd_gate.specs.Gate.{Whole, took, looked}
use Rattle.rd_run.specs.declared.items.LeftOver.{LeftOver}
use Rattle.rd_run.specs.declared.items.LeftOver.TheVariants.{All, NoMemory}
use Rattle.rd_base.specs.Outside.{SinkTold, Closes}
use Rattle.rd_turn.specs.Sinks.{sink_at}
use Rattle.rd_run.specs.Leaving.{Keeps, plain, Drains, ClosedFirst, AllClosed}
use Rattle.rd_turn.proofs.Writes.{lt_or, at_set_same, at_set_other}

pub keeps_none : (a : LeftOver) → Keeps a a []
keeps_none (All kept) = inl (ap All (sym (append-nil kept)))
keeps_none NoMemory = refl

pub keeps_more : (a b c : LeftOver) (xs ys : List (Link × Item)) → Keeps a b xs → Keeps b c ys → Keeps a c (xs ++ ys)
keeps_more (All kept) b c xs ys (inl e) k = by (subst (λ x. Keeps x c ys) e k)
  where
    by : (c ≡ All ((kept ++ xs) ++ ys)) ⊎ (c ≡ NoMemory) → (c ≡ All (kept ++ (xs ++ ys))) ⊎ (c ≡ NoMemory)
    by (inl f) = inl (f ∙ ap All (append_assoc kept xs ys))
    by (inr f) = inr f
keeps_more (All kept) b c xs ys (inr e) k = inr (subst (λ x. Keeps x c ys) e k)
keeps_more NoMemory b c xs ys e k = subst (λ x. Keeps x c ys) e k

pub plain_append : (xs ys : List (Link × Item)) → plain (xs ++ ys) ≡ plain xs ++ plain ys
plain_append [] ys = refl
plain_append (x ∷ xs) ys = ap (λ l. (x.0.0, x.1) ∷ l) (plain_append xs ys)

pub drains_none : (v : View) (a : LeftOver) → Drains v v a a
drains_none v a = record {
  items = [];
  looks = [];
  knows = ap₂ (λ t k. record v { taken = t; looks = k }) (sym (append-nil v.taken)) (sym (append-nil v.looks));
  keeps = keeps_none a;
}

pub drains_took : (v w u : View) (a b c : LeftOver) (link : Link) (item : Item) → Drains v w a b → u ≡ took w (link.0, item) → Keeps b c ((link, item) ∷ []) → Drains v u a c
drains_took v w u a b c link item d is k = record {
  items = d.items ++ (link, item) ∷ [];
  looks = d.looks;
  knows = is ∙ ap (λ x. took x (link.0, item)) d.knows
      ∙ ap (λ t. record v { taken = t; looks = v.looks ++ d.looks })
      (append_assoc v.taken (plain d.items) ((link.0, item) ∷ []) ∙ ap (λ l. v.taken ++ l) (sym (plain_append d.items ((link, item) ∷ []))));
  keeps = keeps_more a b c d.items ((link, item) ∷ []) d.keeps k;
}

pub drains_looked : (v w u : View) (a b : LeftOver) → Drains v w a b → u ≡ looked w → Drains v u a b
drains_looked v w u a b d is = record {
  items = d.items;
  looks = d.looks ++ length (v.taken ++ plain d.items) ∷ [];
  knows = is ∙ ap looked d.knows ∙ ap (λ k. record v { taken = v.taken ++ plain d.items; looks = k }) (append_assoc v.looks d.looks (length (v.taken ++ plain d.items) ∷ []));
  keeps = d.keeps;
}

pub whole_looked : (w u : View) → u ≡ looked w → Whole w [] → Whole u []
whole_looked w u is h = subst (λ x. Whole x []) (sym is) (record { ended = h.ended; others = h.others })

-- ---- sinks that are closed

pub closed_none : (sinks : List SinkTold) → ClosedFirst 0 sinks sinks
closed_none sinks = record { same = refl; closed = λ l lt. absurd (omega (arith, lt)); others = λ l le. refl }

pub closed_more : (olds news : List SinkTold) (l : ℕ) (s : SinkTold) → l < length olds → ClosedFirst l olds news → Closes (sink_at news l) s → ClosedFirst (l + 1) olds (set news l s)
closed_more olds news l s lt h c = record {
  same = length-set news l s ∙ h.same;
  closed = λ m less. ⊎_elim
      (λ (t : m < l). let ne : m ≢ l = omega (arith, t) in subst (Closes (sink_at olds m)) (sym (at_set_other news l m s ne)) (h.closed m t))
      (λ (t : m ≡ l). let P : ℕ → Type 0 = λ k. Closes (sink_at olds k) (sink_at (set news l s) k) in
      subst P (sym t) (subst (λ a. Closes a (sink_at (set news l s) l)) (h.others l (le_refl l)) (subst (Closes (sink_at news l)) (sym (at_set_same news l s inside)) c)))
      (lt_or m l less);
  others = λ m le. let ne : m ≢ l = omega (arith, le) in at_set_other news l m s ne ∙ h.others m (omega (arith, le));
}
  where
    inside : l < length news
    inside = let e = h.same in omega (arith, e, lt)

pub closed_all : (olds news : List SinkTold) (n : ℕ) → n ≡ length olds → ClosedFirst n olds news → AllClosed olds news
closed_all olds news n e h = record { same = h.same; closed = λ l lt. h.closed l (omega (arith, e, lt)) }
