use Rattle.std.proofs.Common.{sym, ap, ◌∙◌, find}
use Rattle.std.specs.Prelude.{slice_get, option_map}
use Rattle.std.proofs.lemmas.List.Folds.{find_at}
use Rattle.rd_board.specs.Notes.{is_unkept}
use Rattle.rd_board.proofs.latest.Latest.pending.Goals as goal

pub returns-in-Some : goal.returns-in-Some
returns-in-Some c =
    let place = ap (λ i. slice_get c.self.inside.notes.items i) c.self.invariant.first ∙ sym (find_at is_unkept c.self.inside.notes.items) ∙ ap (find is_unkept) c.self.view_is in
    ap (option_map (λ n. n.note)) (c.in-Some.ensures ∙ place)

pub returns-in-None : goal.returns-in-None
returns-in-None c =
    let place = ap (λ i. slice_get c.self.inside.notes.items i) c.self.invariant.first ∙ sym (find_at is_unkept c.self.inside.notes.items) ∙ ap (find is_unkept) c.self.view_is in
    ap (option_map (λ n. n.note)) (c.in-None.ensures ∙ place)
