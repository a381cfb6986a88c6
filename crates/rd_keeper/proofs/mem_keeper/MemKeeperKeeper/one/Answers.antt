use Rattle.std.proofs.Common.{◌≡◌, cond, None, find, filter, drop, subst, sym, ap, ◌∙◌}
use Rattle.std.specs.Prelude.{slice_get}
use Rattle.rd_keeper.specs.Notes.{has_id, is_from, is_id_in}
use Rattle.rd_keeper.proofs.Rising.{found_at}
use Rattle.rd_keeper.proofs.mem_keeper.MemKeeperKeeper.one.Goals as goal

pub returns-clause-found : goal.returns-clause-found
returns-clause-found c = λ notes e.
    let same : c.args.self.now.notes ≡ notes = cc e in
    let from = subst (λ ns. filter (is_from c.args.id) ns ≡ drop c.place_of-place.result ns) c.deref-2.ensures.value c.place_of-place.ensures.from in
    c.note_at.ensures
    ∙ ap (λ ns. cond (is_id_in c.args.id (slice_get ns c.place_of-place.result)) (slice_get ns c.place_of-place.result) None) c.deref-3.ensures.value
    ∙ sym (found_at c.args.id c.self.inside.notes.items c.place_of-place.result c.self.invariant from)
    ∙ ap (find (has_id c.args.id)) (ap (λ v. v.notes) c.self.view_is ∙ same)
