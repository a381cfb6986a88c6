use Rattle.std.proofs.Common.{length, refl, sym, ap, subst, ◌∙◌}
use Rattle.rd_doors.specs.Visits.{Holds}
use Rattle.rd_run_session.specs.CameTo.{CameTo}
use Rattle.rd_serve.proofs.Telling.{tells_more, keeps_more}
use Rattle.rd_serve.proofs.Counted.{counted_quiet}
use Rattle.rd_serve.proofs.server.turn_away.Goals as goal

pub returns-clause-tells : goal.returns-clause-tells
returns-clause-tells g c =
    let away = c.turn_away.ensures in
    tells_more (CameTo g.row.E-Give.Denot) c.args.first.now.value.setup (g.E.Doors.tells c.args.doors.now) (g.E.Doors.tells c.turn_away.new.self) _ c.requires.tells away.told away.out away.copies (λ t was. (
      subst (Holds c.args.ends.number) (c.requires.tells.out t was) c.requires.out,
      sym (ap length (c.requires.tells.out t was)) ∙ c.requires.full,
      c.requires.fresh,
    ))

pub returns-clause-counts : goal.returns-clause-counts
returns-clause-counts g c =
    counted_quiet c.args.first.now.value c.args.runner.now (g.E.Doors.tells c.args.doors.now) (g.E.Doors.tells c.turn_away.new.self) _ c.requires.counts c.turn_away.ensures.told (λ f. refl) (λ P. tt)

pub returns-clause-keeps : goal.returns-clause-keeps
returns-clause-keeps g c = keeps_more (g.E.Doors.tells c.args.doors.now) (g.E.Doors.tells c.turn_away.new.self) _ c.turn_away.ensures.told
