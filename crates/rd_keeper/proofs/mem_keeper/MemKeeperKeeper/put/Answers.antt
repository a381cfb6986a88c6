use Rattle.std.proofs.Common.{◌≡◌, cond, Some, filter, take, drop, subst, sym, ap, ◌∙◌}
use Rattle.std.specs.Prelude.{slice_get}
use Rattle.rd_keeper.specs.declared.keeper.Put.TheVariants.{Fresh, Repeat}
use Rattle.rd_keeper.specs.Notes.{is_below, is_from, is_id_in, is_kept, with_note, AreRising}
use Rattle.rd_keeper.proofs.Rising.{held_at, put_fresh, put_repeat, rising_put}
use Rattle.rd_keeper.proofs.mem_keeper.MemKeeperKeeper.put.Goals as goal

pub returns-then-is_id_at-clause-notes : goal.returns-then-is_id_at-clause-notes
returns-then-is_id_at-clause-notes c =
    let from = subst (λ ns. filter (is_from c.args.entry.now.id) ns ≡ drop c.place_of-place.result ns) c.deref-2.ensures.value c.place_of-place.ensures.from in
    let kept = sym (held_at c.args.entry.now.id c.self.inside.notes.items c.place_of-place.result c.self.invariant from) ∙ ap (λ ns. is_id_in c.args.entry.now.id (slice_get ns c.place_of-place.result)) (sym c.deref-3.ensures.value) ∙ sym c.is_id_at.ensures ∙ c.if-is_id_at.true in
    let now = ap (λ v. v.notes) c.self.view_is in
    record {
      notes = ap Some (sym (put_repeat c.self.inside.notes.items c.args.entry.now kept) ∙ ap (λ ns. with_note ns c.args.entry.now) now);
      answer = λ notes e.
          let same : c.args.self.now.notes ≡ notes = cc e in
          sym (ap (λ t. cond t Repeat Fresh) (ap (is_kept c.args.entry.now.id) (sym (now ∙ same)) ∙ kept));
    }

pub invariant_of-self-2 : goal.invariant_of-self-2
invariant_of-self-2 c =
    let from = subst (λ ns. filter (is_from c.args.entry.now.id) ns ≡ drop c.place_of-place.result ns) c.deref-2.ensures.value c.place_of-place.ensures.from in
    let below = subst (λ ns. filter (is_below c.args.entry.now.id) ns ≡ take c.place_of-place.result ns) c.deref-2.ensures.value c.place_of-place.ensures.below in
    let none = sym (held_at c.args.entry.now.id c.self.inside.notes.items c.place_of-place.result c.self.invariant from) ∙ ap (λ ns. is_id_in c.args.entry.now.id (slice_get ns c.place_of-place.result)) (sym c.deref-3.ensures.value) ∙ sym c.is_id_at.ensures ∙ c.if-is_id_at.false in
    let new = c.in_ok-insert_at.ensures.ok ∙ put_fresh c.self.inside.notes.items c.args.entry.now c.place_of-place.result none below from in
    subst AreRising (sym new) (rising_put c.self.inside.notes.items c.args.entry.now c.self.invariant)

pub returns-clause-notes : goal.returns-clause-notes
returns-clause-notes c =
    let from = subst (λ ns. filter (is_from c.args.entry.now.id) ns ≡ drop c.place_of-place.result ns) c.deref-2.ensures.value c.place_of-place.ensures.from in
    let below = subst (λ ns. filter (is_below c.args.entry.now.id) ns ≡ take c.place_of-place.result ns) c.deref-2.ensures.value c.place_of-place.ensures.below in
    let none = sym (held_at c.args.entry.now.id c.self.inside.notes.items c.place_of-place.result c.self.invariant from) ∙ ap (λ ns. is_id_in c.args.entry.now.id (slice_get ns c.place_of-place.result)) (sym c.deref-3.ensures.value) ∙ sym c.is_id_at.ensures ∙ c.if-is_id_at.false in
    let new = c.in_ok-insert_at.ensures.ok ∙ put_fresh c.self.inside.notes.items c.args.entry.now c.place_of-place.result none below from in
    let now = ap (λ v. v.notes) c.self.view_is in
    record {
      notes = ap Some (new ∙ ap (λ ns. with_note ns c.args.entry.now) now);
      answer = λ notes e.
          let same : c.args.self.now.notes ≡ notes = cc e in
          sym (ap (λ t. cond t Repeat Fresh) (ap (is_kept c.args.entry.now.id) (sym (now ∙ same)) ∙ none));
    }
