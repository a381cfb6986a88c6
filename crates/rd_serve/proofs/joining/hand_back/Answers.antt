use Rattle.std.proofs.Common.{subst}
use Rattle.rd_doors.specs.Visits.{ends_told, run_told, Holds}
use Rattle.rd_runner.specs.Runs.{Ran}
use Rattle.rd_run_session.specs.CameTo.{CameTo}
use Rattle.rd_serve.proofs.Telling.{tells_more, keeps_more}
use Rattle.rd_serve.proofs.Outs.{same_marks}
use Rattle.rd_serve.proofs.joining.hand_back.Goals as goal

pub give_back-requires-clause-links : goal.give_back-requires-clause-links
give_back-requires-clause-links g c κs within = record {
  sources = λ copies is. same_marks _ c.args.first.now.value.setup.limits.copies copies _ _ _ _ c.requires.tells.copies is c.requires.ran.source_marks c.requires.fresh.source_marks c.requires.number;
  sinks = λ copies is. same_marks _ c.args.first.now.value.setup.limits.copies copies _ _ _ _ c.requires.tells.copies is c.requires.ran.sink_marks c.requires.fresh.sink_marks c.requires.number;
}

pub returns-clause-tells : goal.returns-clause-tells
returns-clause-tells g c =
    let back = c.give_back.ensures in
    tells_more (CameTo g.row.E-Give.Denot) c.args.first.now.value.setup (g.E.Doors.tells c.args.doors.now) (g.E.Doors.tells c.give_back.new.self) _ c.requires.tells back.told back.out back.copies (λ t was. (
      subst (Holds c.args.number) (c.requires.tells.out t was) c.requires.out,
      record {
        side = c.args.side;
        ends = ends_told g.E.Give.Source.tells g.E.Take.Sink.tells c.args.ends.value;
        given = c.requires.given t was;
        ran = subst (λ n. Ran (CameTo g.row.E-Give.Denot) c.args.first.now.value.setup c.args.side (ends_told g.E.Give.Source.tells g.E.Take.Sink.tells c.args.ends.value) (run_told g.E.Give.Source.tells g.E.Take.Sink.tells n c.args.ended.run c.args.ended.sinks.items)) c.requires.number c.requires.ran;
      },
    ))

pub returns-clause-keeps : goal.returns-clause-keeps
returns-clause-keeps g c = keeps_more (g.E.Doors.tells c.args.doors.now) (g.E.Doors.tells c.give_back.new.self) _ c.give_back.ensures.told
