use Rattle.rd_desk.proofs.Noted.{begun_adds}
use Rattle.rd_desk.proofs.session.begin_session.Goals as goal

pub returns-clause-notes : goal.returns-clause-notes
returns-clause-notes g c = begun_adds c.args.desk.now c.began-id.new.self c.began-id.result c.began-id.ensures.begins c.began-id.ensures.follows
