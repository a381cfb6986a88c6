use Rattle.std.proofs.Common.{length, sym, ap, ◌∙◌, arith}
use Rattle.rd_shared_book.proofs.Lending.{count_of_seats, last_lends}
use Rattle.rd_shared_book.proofs.lender.Lender.make.Goals as goal

pub unreachable-requires : goal.unreachable-requires
unreachable-requires g c =
    omega (arith, count_of_seats c.args.seats, ap length c.in-Ok.ensures, c.in_default-pop.ensures.cases.0, c.in-Ok.made.ok.0, c.requires.least)

pub returns-in-Ok-slots_of : goal.returns-in-Ok-slots_of
returns-in-Ok-slots_of g c =
    last_lends g.J.Naming.seats c.args.seats (sym c.requires.seats) c.requires.least c.pop.new.self.items c.in-Some.seat c.in-Ok-slots_of.slots.items (sym c.in-Ok.ensures ∙ c.in-Some.ensures.items) c.in-Ok-slots_of.ensures
