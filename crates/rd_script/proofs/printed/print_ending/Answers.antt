use Rattle.std.proofs.Common.{append_assoc}
use Rattle.rd_script.proofs.printed.print_ending.Goals as goal

pub returns-in-Disagree : goal.returns-in-Disagree
returns-in-Disagree c = rw c.in-Disagree.is (simp append_assoc c.format-in-Disagree.ensures.ok)

pub returns-in-Noise : goal.returns-in-Noise
returns-in-Noise c = rw c.in-Noise.is (simp append_assoc c.format-in-Noise.ensures.ok)

pub returns-in-Unsupported : goal.returns-in-Unsupported
returns-in-Unsupported c = rw c.in-Unsupported.is (simp append_assoc c.format-in-Unsupported.ensures.ok)
