-- The words that an entry asks, from where a session stands.
use Rattle.std.proofs.Common.{◌≡◌, List, [], ◌∷◌, ◌++◌, length, drop, Option, Some, None, refl, sym, ap, ap₂, subst, ◌∙◌, arith, true}
use Rattle.std.specs.Prelude.{is_some}
use Rattle.std.proofs.lemmas.List.{drop_at, drop_all}
use Rattle.rd_base.specs.declared.values.Ending.{Ending}
use Rattle.rd_base.specs.History.{History, Entry, is_well_formed}
use Rattle.rd_dialect.specs.Laws.{Lawful}
use Rattle.rd_rules.specs.Exchange.{Rules, Reading, reading, released}
use Rattle.rd_rules.specs.Given.{Release, releases, own_after}
use Rattle.rd_rules.specs.Step.{with_done, sent_before}
use Rattle.rd_rules.specs.Trouble.{Now, now_of, unsolicited, unsolicited_by}
use Rattle.rd_rules.specs.Sent.{final, acted}
use Rattle.rd_rules.specs.Wanted.{wanted, words_of, words_read}
use Rattle.rd_rules.proofs.Grows.{Grown}
use Rattle.rd_rules.proofs.Streams.{reading-grown}
use Rattle.rd_rules.proofs.GivenSteps.{length-releases, releases-next}
use Rattle.rd_rules.proofs.Acted.{acted_live, acted_next, some_stop}
use Rattle.rd_core.specs.Standing.{Seen, IsAt, next_reading}
use Rattle.rd_core.proofs.Taken.{reading_next, acted_held, unsolicited_next}

abbrev past_of : Rules → Reading → Reading → List Release
past_of r before now = drop (length (released before)) (releases r [] now.done now.out)

-- an entry that lets nothing on releases nothing
quiet : (r : Rules) (h : History) (e : Entry) → acted r (h ++ e ∷ []) ≡ acted r h → [] ≡ wanted r h e
quiet r h e same =
    let now = reading r (acted r h) in
    let none : past_of r now now ≡ [] = drop_all (length (released now)) (releases r [] now.done now.out) (omega (arith, length-releases r [] now)) in
    sym (ap (λ g. words_of r (past_of r now (reading r g))) same ∙ ap (words_of r) none)

fresh : (r : Rules) (now next : Reading) → Grown now (with_done now.done next) → past_of r now (with_done now.done next) ≡ drop (sent_before (is_some now.out)) (releases r (own_after r [] now.done) next.done next.out)
fresh r now next grown =
    ap (drop (length (released now))) (releases-next r now next grown)
    ∙ drop_at (releases r [] now.done now.out) (drop (sent_before (is_some now.out)) (releases r (own_after r [] now.done) next.done next.out)) (length (released now)) (length-releases r [] now)

module _ {D : Type 0} (r : Rules) (laws : Lawful r.grammar) (old : Seen D) (h : History) (at : IsAt r old h) (e : Entry) (w : is_well_formed r.limits.copies (h ++ e ∷ []) ≡ true) where
  pub wanted_over : is_some old.ending ≡ true → [] ≡ wanted r h e
  wanted_over over = quiet r h e (some_stop r h e (ap is_some (sym at.ending) ∙ over)).0

  none : old.ending ≡ None → final r h ≡ None
  none live = sym at.ending ∙ live

  live_stage : old.ending ≡ None → old.at.stage ≡ now_of r (reading r h)
  live_stage live = at.stage ∙ ap (λ g. now_of r (reading r g)) (acted_live r h (none live))

  unsolicited_is : old.ending ≡ None → unsolicited r (h ++ e ∷ []) ≡ unsolicited_by r.grammar old.at.stage e.what
  unsolicited_is live = unsolicited_next r h e ∙ ap (λ s. unsolicited_by r.grammar s e.what) (sym (live_stage live))

  pub wanted_held : (x : Ending) → old.ending ≡ None → unsolicited_by r.grammar old.at.stage e.what ≡ Some x → [] ≡ wanted r h e
  wanted_held x live u = quiet r h e (acted_held r h e x (none live) (unsolicited_is live ∙ u) ∙ sym (acted_live r h (none live)))

  pub wanted_on : old.ending ≡ None → unsolicited_by r.grammar old.at.stage e.what ≡ None → words_read r old.at.stage.own (is_some old.at.stage.out) (next_reading r old.at.stage e) ≡ wanted r h e
  wanted_on live u =
      let now = reading r h in
      let next = next_reading r (now_of r now) e in
      let is : reading r (h ++ e ∷ []) ≡ with_done now.done next = reading_next r laws h e w in
      let grown : Grown now (with_done now.done next) = subst (λ x. Grown now x) is (reading-grown r laws h (e ∷ []) w) in
      ap (λ (s : Now). words_read r s.own (is_some s.out) (next_reading r s e)) (live_stage live)
      ∙ ap (words_of r) (sym (fresh r now next grown))
      ∙ ap (λ x. words_of r (past_of r now x)) (sym is)
      ∙ ap₂ (λ f g. words_of r (past_of r (reading r f) (reading r g))) (sym (acted_live r h (none live))) (sym (acted_next r h e (none live) (unsolicited_is live ∙ u)))

  -- nothing that it would read is asked
  pub wanted_alone : old.ending ≡ None → words_read r old.at.stage.own (is_some old.at.stage.out) (next_reading r old.at.stage e) ≡ [] → [] ≡ wanted r h e
  wanted_alone live none_read = by (unsolicited_by r.grammar old.at.stage e.what) refl
    where
      by : (o : Option Ending) → unsolicited_by r.grammar old.at.stage e.what ≡ o → [] ≡ wanted r h e
      by None u = sym none_read ∙ wanted_on live u
      by (Some x) u = wanted_held x live u
