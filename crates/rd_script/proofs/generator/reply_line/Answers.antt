use Rattle.std.proofs.Common.{append_assoc}
use Rattle.rd_script.proofs.Sixteen.{sixteen}
use Rattle.rd_script.proofs.generator.reply_line.Goals as goal

pub returns : goal.returns
returns c =
    let made = rw (c.laid_out.ensures, c.from.ensures) at c.format.ensures.ok in
    simp append_assoc (simp (sixteen, append_assoc) at made)
