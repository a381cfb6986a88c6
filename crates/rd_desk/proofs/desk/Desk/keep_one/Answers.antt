use Rattle.std.proofs.Common.{inl, inr, refl, sym, ap, ◌∙◌, length}
use Rattle.std.specs.Prelude.{find}
use Rattle.std.proofs.lemmas.Iterator.Adapters.{option_map_id}
use Rattle.rd_board.specs.Notes.{is_unkept}
use Rattle.rd_desk.specs.Desk.{pending}
use Rattle.rd_desk.proofs.Notes.{pending_none}
use Rattle.rd_desk.proofs.Orderly.{none_of, fits, orderly_kept}
use Rattle.rd_desk.proofs.At.{put_done, keeps_none, one_fewer}
use Rattle.rd_desk.proofs.desk.Desk.keep_one.Goals as goal

pub returns-in_default-clause-none : goal.returns-in_default-clause-none
returns-in_default-clause-none g c = λ is.
    ap (λ d. pending d.board.latest) (sym c.self.view_is)
    ∙ pending_none c.self.inside.board.latest (none_of (find is_unkept c.self.inside.board.latest) c.in_default.ensures)

pub put-requires-clause-id : goal.put-requires-clause-id
put-requires-clause-id g c = (fits c.self.inside.board c.self.inside.ids.items c.in-Some.note c.self.invariant.0 c.in-Some.ensures).id

pub put-requires-clause-began : goal.put-requires-clause-began
put-requires-clause-began g c = (fits c.self.inside.board c.self.inside.ids.items c.in-Some.note c.self.invariant.0 c.in-Some.ensures).began

pub put-requires-clause-ended : goal.put-requires-clause-ended
put-requires-clause-ended g c = (fits c.self.inside.board c.self.inside.ids.items c.in-Some.note c.self.invariant.0 c.in-Some.ensures).ended

pub invariant_of-self : goal.invariant_of-self
invariant_of-self g c = (
  orderly_kept c.self.inside.board c.mark_kept.new.self c.self.inside.ids.items c.in-Some.note c.self.invariant.0 c.in-Some.ensures c.mark_kept.ensures.latest,
  c.self.invariant.1,
)

pub returns-in-Ok-clause-keeps : goal.returns-in-Ok-clause-keeps
returns-in-Ok-clause-keeps g c =
    put_done c.self.inside.board c.mark_kept.new.self c.self.inside.ids.items c.self.inside.had_fault c.args.self.now c.in-Some.note
    (g.Y.Keeper.tells c.args.keeper.now) (g.Y.Keeper.tells c.put.new.self) c.self.view_is c.mark_kept.ensures.latest
    c.self.invariant.0 c.in-Some.ensures c.in-Ok.ensures.notes.notes c.in-Ok.ensures.cause.faults

pub returns-in-Ok-clause-some : goal.returns-in-Ok-clause-some
returns-in-Ok-clause-some g c = λ is.
    one_fewer c.self.inside.board c.mark_kept.new.self c.in-Some.note c.in-Some.ensures c.mark_kept.ensures.latest
    ∙ ap (λ d. length (pending d.board.latest)) c.self.view_is

pub returns-in-Err-Failed-clause-keeps : goal.returns-in-Err-Failed-clause-keeps
returns-in-Err-Failed-clause-keeps g c =
    keeps_none 1 c.args.self.now _ _ _ (ap (λ d. d.board) c.self.view_is) (ap (λ d. d.ids) c.self.view_is)
    (c.in-Err-Failed.ensures.notes.notes ∙ option_map_id (g.Y.Keeper.tells c.args.keeper.now).notes) c.in-Err-Failed.ensures.cause.faults
    (λ is. inr (c.in-Err-Failed.ensures.cause.failed (cc c.in-Err-Failed.field-0-is))) (λ was. refl)

pub returns-in-Err-NoMemory-clause-keeps : goal.returns-in-Err-NoMemory-clause-keeps
returns-in-Err-NoMemory-clause-keeps g c =
    keeps_none 1 c.args.self.now c.args.self.now _ _ refl refl
    (c.in-Err-NoMemory.ensures.notes.notes ∙ option_map_id (g.Y.Keeper.tells c.args.keeper.now).notes) c.in-Err-NoMemory.ensures.cause.faults
    (λ is. inl is) (λ was. was)
