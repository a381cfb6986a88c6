use Rattle.std.proofs.Common.{◌∙◌, sym, ap}
use Rattle.rd_pg_frame.specs.Messages.{be_u32}
use Rattle.rd_pg_frame.proofs.Cuts.{four_at}
use Rattle.rd_pg_frame.proofs.message.be_u32_at.Goals as goal

pub returns : goal.returns
unfolding be_u32
returns c = c.from_be_bytes.ensures ∙ ap be_u32 (sym (four_at c.args.bytes.now c.args.at c.requires))
