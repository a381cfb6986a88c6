-- What a step writes to the sinks, link by link.
use Rattle.std.proofs.Common.{◌≡◌, ◌≢◌, ℕ, zero, suc, ◌+◌, ◌<◌, ◌≤◌, Bool, true, false, List, [], ◌∷◌, ◌++◌, length, set, get_or, map, Option, Some, None, sym, refl, ap, ◌∙◌, subst, ⊎_elim, inl, inr, ◌⊎◌, append_assoc, append-nil, length-append, arith, le_refl}
use Rattle.std.specs.Prelude.{slice_get, slice_index_or, unwrap_or, option_map}
use Rattle.std.specs.List.{flat_map}
use Rattle.std.proofs.lemmas.List.{get_or-set_same, get_or-set_other, length-set, get_or-map}
use Rattle.std.proofs.lemmas.List.Concat.{flat_map-append}
use Rattle.rd_base.specs.Words.{below}
use Rattle.rd_base.specs.Sent.{send_of, sends_to}
use Rattle.rd_base.specs.Outside.{SinkTold, held_with}
use Rattle.rd_base.specs.declared.sends.Send.{Send}
use Rattle.rd_turn.specs.Sinks.{no_sink, sink_at, AreOpen, Wrote, Broke, AllWrote, WroteTo, WroteFirst}

-- ---- the sends of a step, in the order of links

abbrev Above : ℕ → List Send → Type 0
Above l [] = Unit {0}
Above l (s ∷ ss) = (l < s.link.0) × Above l ss

above_append : (l : ℕ) (xs ys : List Send) → Above l xs → Above l ys → Above l (xs ++ ys)
above_append l [] ys a b = b
above_append l (x ∷ xs) ys a b = (a.0, above_append l xs ys a.1 b)

above_send : (l m : ℕ) (bytes : List ℕ) → l < m → Above l (send_of m bytes)
above_send l m [] lt = tt
above_send l m (b ∷ bytes) lt = (lt, tt)

sends_next : (n : ℕ) (f : ℕ → List ℕ) → sends_to (suc n) f ≡ sends_to n f ++ send_of n (f n)
sends_next n f = flat_map-append (λ link. send_of link (f link)) (below n) (n ∷ []) ∙ ap (λ t. sends_to n f ++ t) (append-nil (send_of n (f n)))

split : (n l : ℕ) (f : ℕ → List ℕ) → l < n → (rest : List Send) × (sends_to n f ≡ (sends_to l f ++ send_of l (f l)) ++ rest) × Above l rest
split zero l f lt = absurd (omega (arith, lt))
split (suc n) l f lt = ⊎_elim (λ (t : l < n). earlier t (split n l f t)) last (by_last l n (omega (arith, lt)))
  where
    by_last : (a b : ℕ) → a ≤ b → (a < b) ⊎ (a ≡ b)
    by_last zero zero le = inr refl
    by_last zero (suc b) le = inl (omega arith)
    by_last (suc a) zero le = absurd (omega (arith, le))
    by_last (suc a) (suc b) le = ⊎_elim (λ t. inl (omega (arith, t))) (λ t. inr (ap suc t)) (by_last a b (omega (arith, le)))

    earlier : l < n → ((rest : List Send) × (sends_to n f ≡ (sends_to l f ++ send_of l (f l)) ++ rest) × Above l rest) → (rest : List Send) × (sends_to (suc n) f ≡ (sends_to l f ++ send_of l (f l)) ++ rest) × Above l rest
    earlier less was = (
      was.0 ++ send_of n (f n),
      sends_next n f ∙ ap (λ t. t ++ send_of n (f n)) was.1 ∙ append_assoc (sends_to l f ++ send_of l (f l)) was.0 (send_of n (f n)),
      above_append l was.0 (send_of n (f n)) was.2 (above_send l n (f n) less),
    )

    last : l ≡ n → (rest : List Send) × (sends_to (suc n) f ≡ (sends_to l f ++ send_of l (f l)) ++ rest) × Above l rest
    last same = ([], sends_next n f ∙ ap (λ m. sends_to m f ++ send_of m (f m)) (sym same) ∙ sym (append-nil (sends_to l f ++ send_of l (f l))), tt)

at_front : (xs ys : List Send) → slice_get (xs ++ ys) (length xs) ≡ slice_get ys 0
at_front [] ys = refl
at_front (x ∷ xs) ys = at_front xs ys

above_first : (l : ℕ) (rest : List Send) (s : Send) → Above l rest → slice_get rest 0 ≡ Some s → l < s.link.0
above_first l [] s a e = absurd (cc e)
above_first l (x ∷ rest) s a e = subst (λ (y : Send). l < y.link.0) (ap (λ o. unwrap_or o x) e) a.0

-- what stands at this place is for link l, or nothing is sent to it
pub record Skips (l : ℕ) (f : ℕ → List ℕ) (sends : List Send) (place : ℕ) : Type 0 where
  pub none : f l ≡ []
  pub next : length (sends_to (l + 1) f) ≡ place
  pub not : (s : Send) → slice_get sends place ≡ Some s → l < s.link.0

pub record IsHere (l : ℕ) (f : ℕ → List ℕ) (sends : List Send) (place : ℕ) : Type 0 where
  pub is : slice_get sends place ≡ Some (record { link = record { 0 = l }; bytes = f l })
  pub next : length (sends_to (l + 1) f) ≡ place + 1

pub at_link : (n l : ℕ) (f : ℕ → List ℕ) (sends : List Send) (place : ℕ) → l < n → sends ≡ sends_to n f → place ≡ length (sends_to l f) → Skips l f sends place ⊎ IsHere l f sends place
at_link n l f sends place lt are is = by (f l) refl
  where
    parts : (rest : List Send) × (sends_to n f ≡ (sends_to l f ++ send_of l (f l)) ++ rest) × Above l rest
    parts = split n l f lt

    found : slice_get sends place ≡ slice_get (send_of l (f l) ++ parts.0) 0
    found = ap (λ xs. slice_get xs place) (are ∙ parts.1 ∙ append_assoc (sends_to l f) (send_of l (f l)) parts.0)
        ∙ ap (slice_get (sends_to l f ++ (send_of l (f l) ++ parts.0))) is
        ∙ at_front (sends_to l f) (send_of l (f l) ++ parts.0)

    one_more : l + 1 ≡ suc l
    one_more = omega arith

    after : length (sends_to (l + 1) f) ≡ length (sends_to l f ++ send_of l (f l))
    after = ap (λ m. length (sends_to m f)) one_more ∙ ap length (sends_next l f)

    by : (bytes : List ℕ) → f l ≡ bytes → Skips l f sends place ⊎ IsHere l f sends place
    by [] e = inl (record {
      none = e;
      next = after ∙ ap (λ b. length (sends_to l f ++ send_of l b)) e ∙ ap length (append-nil (sends_to l f)) ∙ sym is;
      not = λ s at. above_first l parts.0 s parts.2 (sym (found ∙ ap (λ b. slice_get (send_of l b ++ parts.0) 0) e) ∙ at);
    })
    by (b ∷ bytes) e =
        let size : length (sends_to l f ++ send_of l (b ∷ bytes)) ≡ length (sends_to l f) + 1 = length-append (sends_to l f) (send_of l (b ∷ bytes)) in
        inr (record {
          is = found ∙ ap (λ b. slice_get (send_of l b ++ parts.0) 0) e ∙ ap (λ bs. Some (record { link = record { 0 = l }; bytes = bs })) (sym e);
          next = after ∙ ap (λ b. length (sends_to l f ++ send_of l b)) e ∙ size ∙ ap (λ m. m + 1) (sym is);
        })

pub some_bytes : (n l : ℕ) (f : ℕ → List ℕ) (sends : List Send) (place : ℕ) (bytes : List ℕ) → l < n → sends ≡ sends_to n f → place ≡ length (sends_to l f)
    → slice_get sends place ≡ Some (record { link = record { 0 = l }; bytes = bytes }) → (bytes ≡ f l) × (length (sends_to (l + 1) f) ≡ place + 1)
some_bytes n l f sends place bytes lt are is found = by (at_link n l f sends place lt are is)
  where
    this : Send
    this = record { link = record { 0 = l }; bytes = bytes }

    by : Skips l f sends place ⊎ IsHere l f sends place → (bytes ≡ f l) × (length (sends_to (l + 1) f) ≡ place + 1)
    by (inl skips) = absurd (let lt : l < l = skips.not this found in omega (arith, lt))
    by (inr here) = (ap (λ o. (unwrap_or o this).bytes) (sym found ∙ here.is), here.next)

pub no_bytes : (n l : ℕ) (f : ℕ → List ℕ) (sends : List Send) (place : ℕ) → l < n → sends ≡ sends_to n f → place ≡ length (sends_to l f)
    → ((s : Send) → slice_get sends place ≡ Some s → s.link.0 ≢ l) → (f l ≡ []) × (length (sends_to (l + 1) f) ≡ place)
no_bytes n l f sends place lt are is not = by (at_link n l f sends place lt are is)
  where
    by : Skips l f sends place ⊎ IsHere l f sends place → (f l ≡ []) × (length (sends_to (l + 1) f) ≡ place)
    by (inl skips) = (skips.none, skips.next)
    by (inr here) = absurd (not (record { link = record { 0 = l }; bytes = f l }) here.is refl)

-- ---- the sinks

pub sink_here : {K : Type 0} (st : K → SinkTold) (ks : List K) (l : ℕ) (k : K) → l < length ks → k ≡ get_or ks l k → sink_at (map st ks) l ≡ st k
sink_here st ks l k lt is = get_or-map st ks l k no_sink lt ∙ ap st (sym is)

held_none : (held : Option (List ℕ)) → held ≡ held_with held []
held_none None = refl
held_none (Some had) = ap Some (sym (append-nil had))

pub wrote_nothing : (bytes : List ℕ) (s : SinkTold) → s.is_closed ≡ false → bytes ≡ [] → Wrote bytes s s
wrote_nothing bytes s writable e = record {
  held = held_none s.held ∙ ap (held_with s.held) (sym e);
  stays = record { faults = le_refl s.faults; stays_open = writable; mark = refl };
}

pub wrote_none : (f : ℕ → List ℕ) (olds : List SinkTold) → WroteFirst 0 f olds olds
wrote_none f olds = record { same = refl; wrote = λ l lt. absurd (omega (arith, lt)); others = λ l le. refl }

pub lt_or : (a b : ℕ) → a < b + 1 → (a < b) ⊎ (a ≡ b)
lt_or zero zero lt = inr refl
lt_or zero (suc b) lt = inl (omega arith)
lt_or (suc a) zero lt = absurd (omega (arith, lt))
lt_or (suc a) (suc b) lt = ⊎_elim (λ t. inl (omega (arith, t))) (λ t. inr (ap suc t)) (lt_or a b (omega (arith, lt)))

pub at_set_same : (xs : List SinkTold) (l : ℕ) (s : SinkTold) → l < length xs → sink_at (set xs l s) l ≡ s
at_set_same xs l s lt = get_or-set_same xs l s no_sink lt

pub at_set_other : (xs : List SinkTold) (l m : ℕ) (s : SinkTold) → m ≢ l → sink_at (set xs l s) m ≡ sink_at xs m
at_set_other xs l m s ne = get_or-set_other xs l m s no_sink ne

pub first_more : (f : ℕ → List ℕ) (olds news : List SinkTold) (l : ℕ) (s : SinkTold) → l < length olds → WroteFirst l f olds news → Wrote (f l) (sink_at news l) s → WroteFirst (l + 1) f olds (set news l s)
first_more f olds news l s lt h w = record {
  same = length-set news l s ∙ h.same;
  wrote = λ m less. ⊎_elim
      (λ (t : m < l). let ne : m ≢ l = omega (arith, t) in subst (Wrote (f m) (sink_at olds m)) (sym (at_set_other news l m s ne)) (h.wrote m t))
      (λ (t : m ≡ l). let P : ℕ → Type 0 = λ k. Wrote (f k) (sink_at olds k) (sink_at (set news l s) k) in
      subst P (sym t) (subst (λ a. Wrote (f l) a (sink_at (set news l s) l)) (h.others l (le_refl l)) (subst (Wrote (f l) (sink_at news l)) (sym (at_set_same news l s inside)) w)))
      (lt_or m l less);
  others = λ m le. let ne : m ≢ l = omega (arith, le) in at_set_other news l m s ne ∙ h.others m (omega (arith, le));
}
  where
    inside : l < length news
    inside = let e = h.same in omega (arith, e, lt)

pub first_same : (f : ℕ → List ℕ) (olds news : List SinkTold) (l : ℕ) → WroteFirst l f olds news → (sink_at news l).is_closed ≡ false → f l ≡ [] → WroteFirst (l + 1) f olds news
first_same f olds news l h writable none = record {
  same = h.same;
  wrote = λ m less. ⊎_elim (λ (t : m < l). h.wrote m t)
      (λ (t : m ≡ l). let P : ℕ → Type 0 = λ k. Wrote (f k) (sink_at olds k) (sink_at news k) in
      subst P (sym t) (subst (Wrote (f l) (sink_at olds l)) (sym (h.others l (le_refl l))) (wrote_nothing (f l) (sink_at olds l) (ap (λ (a : SinkTold). a.is_closed) (sym (h.others l (le_refl l))) ∙ writable) none)))
      (lt_or m l less);
  others = λ m le. h.others m (omega (arith, le));
}

pub first_fails : (f : ℕ → List ℕ) (olds news : List SinkTold) (l : ℕ) (s : SinkTold) → l < length olds → WroteFirst l f olds news → Broke (f l) (sink_at news l) s → WroteTo l f olds (set news l s)
first_fails f olds news l s lt h w = record {
  same = length-set news l s ∙ h.same;
  is_link = lt;
  before = λ m less. let ne : m ≢ l = omega (arith, less) in subst (Wrote (f m) (sink_at olds m)) (sym (at_set_other news l m s ne)) (h.wrote m less);
  here = subst (λ a. Broke (f l) a (sink_at (set news l s) l)) (h.others l (le_refl l)) (subst (Broke (f l) (sink_at news l)) (sym (at_set_same news l s inside)) w);
  behind = λ m more. let ne : m ≢ l = omega (arith, more) in at_set_other news l m s ne ∙ h.others m (omega (arith, more));
}
  where
    inside : l < length news
    inside = let e = h.same in omega (arith, e, lt)

pub first_all : (f : ℕ → List ℕ) (olds news : List SinkTold) (n : ℕ) → n ≡ length olds → WroteFirst n f olds news → AllWrote f olds news
first_all f olds news n e h = record { same = h.same; wrote = λ l lt. h.wrote l (omega (arith, e, lt)) }

pub open_set : (xs : List SinkTold) (l : ℕ) (s : SinkTold) → l < length xs → AreOpen xs → s.is_closed ≡ false → AreOpen (set xs l s)
open_set xs l s inside are e m lt = by (apart m l)
  where
    apart : (a b : ℕ) → (a ≢ b) ⊎ (a ≡ b)
    apart zero zero = inr refl
    apart zero (suc b) = inl (λ e. absurd (omega (arith, e)))
    apart (suc a) zero = inl (λ e. absurd (omega (arith, e)))
    apart (suc a) (suc b) = ⊎_elim (λ t. inl (λ e. t (omega (arith, e)))) (λ t. inr (ap suc t)) (apart a b)

    by : (m ≢ l) ⊎ (m ≡ l) → (sink_at (set xs l s) m).is_closed ≡ false
    by (inl ne) = ap (λ (a : SinkTold). a.is_closed) (at_set_other xs l m s ne) ∙ are m (let n = length-set xs l s in omega (arith, n, lt))
    by (inr t) = ap (λ (a : SinkTold). a.is_closed) (ap (sink_at (set xs l s)) t ∙ at_set_same xs l s inside) ∙ e

pub count_of : {K : Type 0} (st : K → SinkTold) (ks : List K) → length (map st ks) ≡ length ks
count_of st [] = refl
count_of st (k ∷ ks) = ap suc (count_of st ks)
