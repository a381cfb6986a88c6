use Rattle.rd_operator.specs.Routes.{route_at}
use Rattle.rd_operator.proofs.routes.route_of.Goals as goal

pub returns-in-Ok : goal.returns-in-Ok
unfolding route_at
returns-in-Ok c = rw c.in-Ok.ensures at c.match_path.ensures
