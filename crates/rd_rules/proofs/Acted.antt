-- Up to where a session has acted, one entry further.
use Rattle.std.proofs.Common.{◌≡◌, ℕ, Bool, true, false, List, [], ◌∷◌, ◌++◌, Option, Some, None, refl, sym, ap, ◌∙◌, cond, subst, ◌-◌, length, append-nil, append_assoc}
use Rattle.std.specs.Prelude.{is_some, option_and_then, ◌&&◌}
use Rattle.rd_base.specs.declared.values.Ending.{Ending}
use Rattle.rd_base.specs.Words.{last_of_list, without_last}
use Rattle.rd_base.specs.History.{History, Entry, is_well_formed, may_follow, follows_well}
use Rattle.rd_dialect.specs.Laws.{Lawful, IsFront}
use Rattle.rd_rules.specs.Exchange.{Rules, reading, read}
use Rattle.rd_rules.specs.Given.{given, own_after}
use Rattle.rd_rules.specs.Step.{given_now, grow_front}
use Rattle.rd_rules.specs.Trouble.{trouble, or_else, unsolicited, first_trouble, trouble_of, now_of, full_log_at}
use Rattle.rd_rules.specs.Sent.{stop, final, acted, acted_of, sent}
use Rattle.rd_rules.proofs.Steps.{reading-append}
use Rattle.rd_rules.proofs.Stays.{stop-append}
use Rattle.rd_rules.proofs.Stops.{none_so_far, test_of_shortest}
use Rattle.rd_rules.proofs.GivenSteps.{given_next}

pub not_both : (o : Option Ending) → is_some o ≡ true → o ≡ None → ⊥
not_both None t n = absurd (cc t)
not_both (Some x) t n = absurd (cc n)

no_stop_by : (r : Rules) (h : History) (o : Option History) → stop r h ≡ o → option_and_then (trouble r) o ≡ None → o ≡ None
no_stop_by r h None s q = refl
no_stop_by r h (Some g) s q = absurd (not_both (trouble r g) (test_of_shortest (λ g. is_some (trouble r g)) [] h g s) q)

pub no_stop : (r : Rules) (h : History) → final r h ≡ None → stop r h ≡ None
no_stop r h q = no_stop_by r h (stop r h) refl q

no_trouble_by : (o : Option Ending) → is_some o ≡ false → o ≡ None
no_trouble_by None e = refl
no_trouble_by (Some x) e = cc

pub no_trouble : (r : Rules) (h : History) → final r h ≡ None → trouble r h ≡ None
no_trouble r h q = no_trouble_by (trouble r h) (none_so_far (λ g. is_some (trouble r g)) [] h [] (no_stop r h q)).0

pub stop_next : (r : Rules) (h : History) (e : Entry) → stop r h ≡ None → stop r (h ++ e ∷ []) ≡ cond (is_some (trouble r (h ++ e ∷ []))) (Some (h ++ e ∷ [])) None
stop_next r h e n =
    let so_far = none_so_far (λ g. is_some (trouble r g)) [] h (e ∷ []) n in
    so_far.1 ∙ ap (λ b. cond b (Some h) (cond (is_some (trouble r (h ++ e ∷ []))) (Some (h ++ e ∷ [])) None)) so_far.0

pub last_of : (h : History) (e : Entry) → last_of_list (h ++ e ∷ []) ≡ Some e
last_of [] e = refl
last_of (x ∷ []) e = refl
last_of (x ∷ y ∷ h) e = last_of (y ∷ h) e

pub front_of : (h : History) (e : Entry) → without_last (h ++ e ∷ []) ≡ h
front_of [] e = refl
front_of (x ∷ []) e = refl
front_of (x ∷ y ∷ h) e = ap (λ xs. x ∷ xs) (front_of (y ∷ h) e)

pub acted_live : (r : Rules) (h : History) → final r h ≡ None → acted r h ≡ h
acted_live r h q = ap (acted_of r h) (no_stop r h q)

pub acted_by : (r : Rules) (h : History) (b : Bool) → unsolicited r h ≡ None → acted_of r h (cond b (Some h) None) ≡ h
acted_by r h true u = ap (λ o. cond (is_some o) (without_last h) h) u
acted_by r h false u = refl

-- nothing is withheld
pub acted_next : (r : Rules) (h : History) (e : Entry) → final r h ≡ None → unsolicited r (h ++ e ∷ []) ≡ None → acted r (h ++ e ∷ []) ≡ h ++ e ∷ []
acted_next r h e q u = ap (acted_of r (h ++ e ∷ [])) (stop_next r h e (no_stop r h q)) ∙ acted_by r (h ++ e ∷ []) (is_some (trouble r (h ++ e ∷ []))) u

some_stop_by : (r : Rules) (h : History) (e : Entry) (o : Option History) → stop r h ≡ o → is_some (option_and_then (trouble r) o) ≡ true → (acted r (h ++ e ∷ []) ≡ acted r h) × (final r (h ++ e ∷ []) ≡ final r h)
some_stop_by r h e None s q = cc
some_stop_by r h e (Some g) s q =
    let later = stop-append r h (e ∷ []) g s in
    (ap (acted_of r (h ++ e ∷ [])) later ∙ sym (ap (acted_of r h) s), ap (option_and_then (trouble r)) (later ∙ sym s))

pub some_stop : (r : Rules) (h : History) (e : Entry) → is_some (final r h) ≡ true → (acted r (h ++ e ∷ []) ≡ acted r h) × (final r (h ++ e ∷ []) ≡ final r h)
some_stop r h e q = some_stop_by r h e (stop r h) refl q

both_true : (a b c : Bool) → (a && b) ≡ true → (b ≡ true → c ≡ true) → (a && c) ≡ true
both_true true b c e f = f e
both_true false b c e f = cc

pub front_follows : (n : ℕ) (seen h e : History) → follows_well n seen (h ++ e) ≡ true → follows_well n seen h ≡ true
front_follows n seen [] e w = refl
front_follows n seen (x ∷ h) e w = both_true (may_follow n seen x.what) (follows_well n (seen ++ x ∷ []) (h ++ e)) (follows_well n (seen ++ x ∷ []) h) w (front_follows n (seen ++ x ∷ []) h e)

-- ---- what was sent stays

has_trouble : (a b c : Option Ending) → is_some b ≡ true → is_some (or_else a (or_else b c)) ≡ true
has_trouble None None c e = absurd (cc e)
has_trouble None (Some x) c e = refl
has_trouble (Some x) b c e = refl

withheld : (r : Rules) (h : History) (e : Entry) → final r h ≡ None → is_some (unsolicited r (h ++ e ∷ [])) ≡ true → acted r (h ++ e ∷ []) ≡ h
withheld r h e q u =
    let later = h ++ e ∷ [] in
    ap (acted_of r later) (stop_next r h e (no_stop r h q))
    ∙ ap (λ b. acted_of r later (cond b (Some later) None)) (has_trouble (first_trouble r later) (unsolicited r later) (or_else (trouble_of r (now_of r (reading r later))) (full_log_at (length later))) u)
    ∙ ap (λ b. cond b (without_last later) later) u
    ∙ front_of h e

same_sent : (r : Rules) (l : ℕ) (h later : History) → acted r later ≡ acted r h → IsFront (sent r l h) (sent r l later)
same_sent r l h later is = record { rest = []; is = append-nil (sent r l h) ∙ ap (given r l) (sym is) }

more_sent : (r : Rules) → Lawful r.grammar → (l : ℕ) (h : History) (e : Entry) → is_well_formed r.limits.copies (h ++ e ∷ []) ≡ true → final r h ≡ None
    → unsolicited r (h ++ e ∷ []) ≡ None → IsFront (sent r l h) (sent r l (h ++ e ∷ []))
more_sent r laws l h e w q u =
    let next = read r.grammar r.limits.mask (r.limits.exchanges_max - length (reading r h).done) (grow_front (e ∷ []) (reading r h).left) in
    record {
      rest = given_now r l (own_after r [] (reading r h).done) e.told (is_some (reading r h).out) next;
      is = ap (λ g. given r l g ++ given_now r l (own_after r [] (reading r h).done) e.told (is_some (reading r h).out) next) (acted_live r h q)
          ∙ sym (given_next r laws l h e next (front_follows r.limits.copies [] h (e ∷ []) w) w (reading-append r laws h (e ∷ []) w))
          ∙ ap (given r l) (sym (acted_next r h e q u));
    }

sent_next : (r : Rules) → Lawful r.grammar → (l : ℕ) (h : History) (e : Entry) → is_well_formed r.limits.copies (h ++ e ∷ []) ≡ true → IsFront (sent r l h) (sent r l (h ++ e ∷ []))
sent_next r laws l h e w = by_final (final r h) refl
  where
    by_held : final r h ≡ None → (o : Option Ending) → unsolicited r (h ++ e ∷ []) ≡ o → IsFront (sent r l h) (sent r l (h ++ e ∷ []))
    by_held q None u = more_sent r laws l h e w q u
    by_held q (Some x) u = same_sent r l h (h ++ e ∷ []) (withheld r h e q (ap is_some u) ∙ sym (acted_live r h q))

    by_final : (o : Option Ending) → final r h ≡ o → IsFront (sent r l h) (sent r l (h ++ e ∷ []))
    by_final None q = by_held q (unsolicited r (h ++ e ∷ [])) refl
    by_final (Some x) q = same_sent r l h (h ++ e ∷ []) (some_stop r h e (ap is_some q)).0

front_front : {A : Type 0} (xs ys zs : List A) → IsFront xs ys → IsFront ys zs → IsFront xs zs
front_front xs ys zs f g = record {
  rest = f.rest ++ g.rest;
  is = sym (append_assoc xs f.rest g.rest) ∙ ap (λ s. s ++ g.rest) f.is ∙ g.is;
}

pub sent_stays : (r : Rules) → Lawful r.grammar → (l : ℕ) (h e : History) → is_well_formed r.limits.copies (h ++ e) ≡ true → IsFront (sent r l h) (sent r l (h ++ e))
sent_stays r laws l h [] w = record { rest = []; is = append-nil (sent r l h) ∙ ap (sent r l) (sym (append-nil h)) }
sent_stays r laws l h (x ∷ e) w =
    let one = h ++ x ∷ [] in
    let joined : one ++ e ≡ h ++ x ∷ e = append_assoc h (x ∷ []) e in
    let all : is_well_formed r.limits.copies (one ++ e) ≡ true = ap (is_well_formed r.limits.copies) joined ∙ w in
    subst (λ g. IsFront (sent r l h) (sent r l g)) joined
    (front_front (sent r l h) (sent r l one) (sent r l (one ++ e))
    (sent_next r laws l h x (front_follows r.limits.copies [] one e all))
    (sent_stays r laws l one e all))
