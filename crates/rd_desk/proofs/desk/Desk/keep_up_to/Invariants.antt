use Rattle.std.proofs.Common.{◌≡◌, ◌+◌, length}
use Rattle.rd_desk.specs.Desk.{Keeps, pending}
use Rattle.rd_desk.proofs.desk.Desk.keep_up_to.Given as goal

abbrev pub invariant-puts : goal.invariant-puts
invariant-puts g l =
    Keeps l._count l.initial.self l.self (g.Y.Keeper.tells l.initial.keeper) (g.Y.Keeper.tells l.keeper)
    × (l._count + length (pending l.self.board.latest) ≡ length (pending l.initial.self.board.latest))
