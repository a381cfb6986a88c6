use Rattle.std.proofs.Common.{◌<◌, sym, subst, arith, length}
use Rattle.rd_doors.specs.Visits.{Holds}
use Rattle.rd_desk.proofs.Ids.{held_last}
use Rattle.rd_desk.proofs.Orderly.{orderly_begun}
use Rattle.rd_desk.proofs.desk.Desk.began.Goals as goal

pub invariant_of-self-2 : goal.invariant_of-self-2
invariant_of-self-2 c =
    let few = subst (λ d. length d.ids < 32) (sym c.self.view_is) c.requires in
    let room = c.push_reserved.ensures.capacity in
    let had = c.self.invariant.1 in (
      orderly_begun c.self.inside.board c.draw_id.new.self c.began.new.self c.self.inside.ids.items c.push_reserved.new.self.items c.in_ok-id.id
          c.self.invariant.0 few c.in_ok-id.ensures.0 c.in_ok-id.ensures.1 c.in_ok-id.ensures.2 c.began.ensures.live c.push_reserved.ensures.items,
      omega arith,
    )

pub returns-clause-live : goal.returns-clause-live
returns-clause-live c = subst (Holds c.in_ok-id.id) (sym c.push_reserved.ensures.items) (held_last c.in_ok-id.id c.self.inside.ids.items)
