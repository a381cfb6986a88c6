use Rattle.std.proofs.Common.{append_assoc}
use Rattle.rd_script.proofs.printed.print_send.Goals as goal

pub returns : goal.returns
returns c = rw (← c.in_ok-hex.ensures) (simp append_assoc c.format.ensures.ok)
