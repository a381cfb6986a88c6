-- The operator's routes, as a router has them.
use Rattle.std.specs.Prelude.{ℕ, List, [], Option, Result, Ok, Err, codes, option_map}
use Rattle.matchit.specs.Rows.{RowsOf}
use Rattle.matchit.specs.Router.{RouteOf, route_from}
use Rattle.matchit.specs.Route.{parse_route, Scan}
use Rattle.matchit.specs.Order.{placed}
use Rattle.matchit.specs.Seek.{first}
use Rattle.matchit.specs.declared.error.InsertError.{InsertError}
use Rattle.rd_operator.specs.declared.routes.Route.{Route}
use Rattle.rd_operator.specs.declared.routes.Route.TheVariants.{Live, Totals, Sessions, From, One}

-- a route's text is read, and placed among the others
abbrev pub placed_at : Result Scan InsertError → Route → RowsOf (RouteOf Route) → RowsOf (RouteOf Route)
placed_at (Ok s) route rows = placed (s.pattern, route_from s route) rows
placed_at (Err e) route rows = rows

abbrev pub with_route : List ℕ → Route → RowsOf (RouteOf Route) → RowsOf (RouteOf Route)
with_route text route rows = placed_at (parse_route text) route rows

abbrev pub the_routes : RowsOf (RouteOf Route)
the_routes =
    with_route (codes "/sessions/{id}") One
    (with_route (codes "/sessions/from/{id}") From
    (with_route (codes "/sessions") Sessions
    (with_route (codes "/totals") Totals
    (with_route (codes "/live") Live []))))

-- the route that a path matches
unfoldable pub route_at : List ℕ → Option Route
route_at path = option_map (λ r. r.value) (first the_routes path)
