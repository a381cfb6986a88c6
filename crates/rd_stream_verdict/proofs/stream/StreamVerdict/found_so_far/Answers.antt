use Rattle.rd_stream_verdict.proofs.Answered.{mask_pairs}
use Rattle.rd_stream_verdict.proofs.stream.StreamVerdict.found_so_far.Goals as goal

pub copied-requires : goal.copied-requires
copied-requires c = mask_pairs (record { most = c.self.inside.most; found = c.self.inside.found; rows = c.self.inside.rows; copies = c.self.inside.copies }) c.in-Agreed.mask c.self.invariant c.in-Agreed.is
