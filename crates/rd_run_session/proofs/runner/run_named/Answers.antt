use Rattle.std.proofs.Common.{refl, ap}
use Rattle.rd_http_tokens.specs.HttpOn.{http_on}
use Rattle.rd_pg_tokens.specs.PgGrammar.{pg}
use Rattle.rd_doors.specs.Visits.{ends_told, run_told}
use Rattle.rd_lent_book.specs.Lending.{calls_told}
use Rattle.rd_run_session.proofs.Answered.{unasked_book}
use Rattle.rd_run_session.proofs.Naming.{named_line, named_http, named_pg}
use Rattle.rd_run_session.proofs.runner.run_named.Goals as goal

pub returns-in-Line-clause-came : goal.returns-in-Line-clause-came
returns-in-Line-clause-came g c =
    named_line c.args.limits c.args.rules.now c.args.side (ends_told g.S.Source.tells g.K.Sink.tells c.args.ends)
    (run_told g.S.Source.tells g.K.Sink.tells c.args.ends.number c.run_by.result.0.run c.run_by.result.0.sinks.items)
    (calls_told (g.B.LentBook.told c.args.book)) (calls_told (g.B.LentBook.told c.run_by.result.1)) c.args.name c.in-Line.is c.run_by.ensures.came

pub returns-in-Ok-clause-came : goal.returns-in-Ok-clause-came
returns-in-Ok-clause-came g c =
    named_http c.args.limits c.args.rules.now c.args.side (ends_told g.S.Source.tells g.K.Sink.tells c.args.ends)
    (run_told g.S.Source.tells g.K.Sink.tells c.args.ends.number c.run_by-in-Ok.result.0.run c.run_by-in-Ok.result.0.sinks.items)
    (calls_told (g.B.LentBook.told c.args.book)) (calls_told (g.B.LentBook.told c.run_by-in-Ok.result.1)) c.args.name _ c.in-Http.is (ap (λ h. http_on h.side h.rules) c.in-Ok.ensures) c.run_by-in-Ok.ensures.came

pub returns-in-Err-clause-came : goal.returns-in-Err-clause-came
returns-in-Err-clause-came g c =
    named_http c.args.limits c.args.rules.now c.args.side (ends_told g.S.Source.tells g.K.Sink.tells c.args.ends)
    (run_told g.S.Source.tells g.K.Sink.tells c.args.ends.number c.run_none.result.run c.run_none.result.sinks.items)
    (calls_told (g.B.LentBook.told c.args.book)) (calls_told (g.B.LentBook.told c.args.book)) c.args.name (http_on c.args.side c.args.rules.now) c.in-Http.is refl (c.run_none.ensures.came (http_on c.args.side c.args.rules.now) (calls_told (g.B.LentBook.told c.args.book)))

pub returns-in-Ok-new-clause-came : goal.returns-in-Ok-new-clause-came
returns-in-Ok-new-clause-came g c =
    named_pg c.args.limits c.args.rules.now c.args.side (ends_told g.S.Source.tells g.K.Sink.tells c.args.ends)
    (run_told g.S.Source.tells g.K.Sink.tells c.args.ends.number c.run_by-in-Ok-new.result.0.run c.run_by-in-Ok-new.result.0.sinks.items)
    (calls_told (g.B.LentBook.told c.args.book)) (calls_told (g.B.LentBook.told c.run_by-in-Ok-new.result.1)) c.args.name _ c.in-Pg.is c.in-Ok-new.ensures c.run_by-in-Ok-new.ensures.came

pub returns-in-Err-new-clause-came : goal.returns-in-Err-new-clause-came
returns-in-Err-new-clause-came g c =
    named_pg c.args.limits c.args.rules.now c.args.side (ends_told g.S.Source.tells g.K.Sink.tells c.args.ends)
    (run_told g.S.Source.tells g.K.Sink.tells c.args.ends.number c.run_none-in-Err-new.result.run c.run_none-in-Err-new.result.sinks.items)
    (calls_told (g.B.LentBook.told c.args.book)) (calls_told (g.B.LentBook.told c.args.book)) c.args.name (pg c.args.side c.args.rules.now) c.in-Pg.is refl (c.run_none-in-Err-new.ensures.came (pg c.args.side c.args.rules.now) (calls_told (g.B.LentBook.told c.args.book)))

pub returns-in-Err-clause-asked : goal.returns-in-Err-clause-asked
returns-in-Err-clause-asked g c = unasked_book (g.B.LentBook.told c.args.book)

pub returns-in-Err-new-clause-asked : goal.returns-in-Err-new-clause-asked
returns-in-Err-new-clause-asked g c = unasked_book (g.B.LentBook.told c.args.book)
