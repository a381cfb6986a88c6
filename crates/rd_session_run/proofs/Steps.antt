-- The text of a history's steps, one step after the other.
use Rattle.std.proofs.Common.{◌≡◌, ℕ, zero, suc, ◌+◌, ◌-◌, ◌≤◌, true, List, [], ◌∷◌, ◌++◌, length, take, drop, Option, Some, None, refl, sym, ap, ap₂, ◌∙◌, subst, arith, append-nil, append_assoc}
use Rattle.std.specs.Prelude.{option_map, unwrap_or}
use Rattle.std.specs.List.{slice_get}
use Rattle.std.proofs.lemmas.List.{take_more, take-append-drop}
use Rattle.std.proofs.lemmas.List.Concat.{flat_map-append}
use Rattle.std.proofs.lemmas.Option.{slice_get_within, get_or_from_slice_get}
use Rattle.rd_base.specs.History.{Entry, History, Row, is_well_formed}
use Rattle.rd_base.specs.Outside.{IsPrefixOf}
use Rattle.rd_base.specs.declared.sends.Send.{Send}
use Rattle.rd_base.specs.declared.values.Happening.{Happening}
use Rattle.rd_rules.specs.Exchange.{Rules}
use Rattle.rd_rules.proofs.Acted.{front_follows}
use Rattle.rd_rules.specs.Sent.{StepSends, steps_of, step_sends}
use Rattle.rd_script.specs.Seen.{happening_in}
use Rattle.rd_session_run.specs.Transcripts.{sends_text, step_text, steps_text, all_steps_text}

-- one more entry
pub one_entry : (h : History) (k : ℕ) (e : Entry) → slice_get h k ≡ Some e → take (k + 1) h ≡ take k h ++ e ∷ []
one_entry h k e is = take_more h k e (slice_get_within h k e is) ∙ ap (λ d. take k h ++ d ∷ []) (get_or_from_slice_get h k e e is)

-- the front of a well-formed history is well formed
pub front_well_formed : (n : ℕ) (h : History) (k : ℕ) → is_well_formed n h ≡ true → is_well_formed n (take k h) ≡ true
front_well_formed n h k well = front_follows n [] (take k h) (drop k h) (ap (is_well_formed n) (take-append-drop k h) ∙ well)

steps_more : (steps : List StepSends) (s : StepSends) → steps_text (steps ++ s ∷ []) ≡ steps_text steps ++ sends_text s.step s.sends
steps_more steps s =
    flat_map-append (λ (t : StepSends). sends_text t.step t.sends) steps (s ∷ []) ∙ ap (λ x. steps_text steps ++ x) (append-nil (sends_text s.step s.sends))

abbrev step_at : Rules → History → ℕ → StepSends
step_at r h k = record { step = suc k; sends = step_sends r (take k h) (take (suc k) h) }

suc_step : (r : Rules) (h : History) (k : ℕ) → steps_text (steps_of r h k) ++ sends_text (suc k) (step_sends r (take k h) (take (suc k) h)) ≡ steps_text (steps_of r h (suc k))
suc_step r h k = sym (steps_more (steps_of r h k) (step_at r h k))

-- one more step
pub one_step : (r : Rules) (h : History) (k : ℕ) → steps_text (steps_of r h k) ++ step_text r h k ≡ steps_text (steps_of r h (k + 1))
one_step r h k =
    let e : suc k ≡ k + 1 = omega arith in
    subst (λ (m : ℕ). steps_text (steps_of r h k) ++ sends_text m (step_sends r (take k h) (take m h)) ≡ steps_text (steps_of r h m)) e (suc_step r h k)

longer : (a b c : List ℕ) → IsPrefixOf a b → IsPrefixOf a (b ++ c)
longer a b c front = record { rest = front.rest ++ c; is = sym (append_assoc a front.rest c) ∙ ap (λ x. x ++ c) front.is }

further : (r : Rules) (h : History) (k d : ℕ) → IsPrefixOf (steps_text (steps_of r h k)) (steps_text (steps_of r h (k + d)))
further r h k zero =
    let e : k ≡ k + 0 = omega arith in
    subst (λ (m : ℕ). IsPrefixOf (steps_text (steps_of r h k)) (steps_text (steps_of r h m))) e (record { rest = []; is = append-nil (steps_text (steps_of r h k)) })
further r h k (suc d) =
    let e : suc (k + d) ≡ k + suc d = omega arith in
    let more = longer (steps_text (steps_of r h k)) (steps_text (steps_of r h (k + d))) (sends_text (suc (k + d)) (step_at r h (k + d)).sends) (further r h k d) in
    let on = subst (λ (t : List ℕ). IsPrefixOf (steps_text (steps_of r h k)) t) (sym (steps_more (steps_of r h (k + d)) (step_at r h (k + d)))) more in
    subst (λ (m : ℕ). IsPrefixOf (steps_text (steps_of r h k)) (steps_text (steps_of r h m))) e on

-- the text of the first steps begins that of all
pub begins_all : (r : Rules) (h : History) (k : ℕ) → k ≤ length h → IsPrefixOf (steps_text (steps_of r h k)) (all_steps_text r h)
begins_all r h k within =
    let e : k + (length h - k) ≡ length h = omega arith in
    subst (λ (m : ℕ). IsPrefixOf (steps_text (steps_of r h k)) (steps_text (steps_of r h m))) e (further r h k (length h - k))

-- one more happening, with the rows told to it
pub one_happening : (h : History) (k : ℕ) (happening : Happening) (told : List Row) → option_map happening_in (slice_get h k) ≡ Some happening → option_map (λ e. e.told) (slice_get h k) ≡ Some told → take (k + 1) h ≡ take k h ++ record { at = happening.at; what = happening.what; told = told } ∷ []
one_happening h k happening told is are = by (slice_get h k) refl is are
  where
    by : (o : Option Entry) → slice_get h k ≡ o → option_map happening_in o ≡ Some happening → option_map (λ e. e.told) o ≡ Some told → take (k + 1) h ≡ take k h ++ record { at = happening.at; what = happening.what; told = told } ∷ []
    by None found a b = absurd (cc a)
    by (Some e) found a b =
        let here : happening_in e ≡ happening = ap (λ o. unwrap_or o happening) a in
        let rows : e.told ≡ told = ap (λ o. unwrap_or o told) b in
        one_entry h k e found ∙ ap₂ (λ (x : Happening) t. take k h ++ record { at = x.at; what = x.what; told = t } ∷ []) here rows

-- the text of what a step sends
pub sent_text : (r : Rules) (h : History) (k : ℕ) (e : Entry) (sends : List Send) → take (k + 1) h ≡ take k h ++ e ∷ [] → sends ≡ step_sends r (take k h) (take k h ++ e ∷ []) → sends_text (k + 1) sends ≡ step_text r h k
sent_text r h k e sends one is = ap (sends_text (k + 1)) (is ∙ ap (step_sends r (take k h)) (sym one))
