use Rattle.std.proofs.Common.{subst, ap, sym, ◌∙◌, ◌++◌, ◌∷◌, []}
use Rattle.rd_board.specs.Board.{BoardView, IsAfter}
use Rattle.rd_board.specs.Notes.{mark_first}
use Rattle.rd_board.specs.Calls.{MarkedKept}
use Rattle.rd_board.proofs.Calls.{after_marked}
use Rattle.rd_board.proofs.board.Board.mark_kept.Goals as goal

pub returns-clause-after : goal.returns-clause-after
returns-clause-after c = λ calls h.
    let marked = c.mark.ensures ∙ ap (λ v. mark_first c.args.id v.latest) c.self.view_is in
    let now = ap {A = BoardView} (λ v. record v { latest = c.mark.new.self }) c.self.view_is ∙ ap {B = BoardView} (λ l. record c.args.self.now { latest = l }) marked in
    subst (λ v. IsAfter v (calls ++ MarkedKept c.args.id ∷ [])) (sym now) (after_marked c.args.self.now c.args.id calls h)
