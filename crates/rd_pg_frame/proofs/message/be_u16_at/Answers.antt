use Rattle.std.proofs.Common.{◌∙◌, sym, ap}
use Rattle.rd_pg_frame.specs.Messages.{be_u16}
use Rattle.rd_pg_frame.proofs.Cuts.{two_at}
use Rattle.rd_pg_frame.proofs.message.be_u16_at.Goals as goal

pub returns : goal.returns
unfolding be_u16
returns c = c.from_be_bytes.ensures ∙ ap be_u16 (sym (two_at c.args.bytes.now c.args.at c.requires))
