use Rattle.std.proofs.Common.{arith}
use Rattle.rd_reading.proofs.Larger.{agreed_larger}
use Rattle.rd_reading.proofs.Cutting.{agreed_verdict}
use Rattle.rd_reading.proofs.judging.rows_of_copies.Goals as goal

pub rows_of-requires-clause-agreed : goal.rows_of-requires-clause-agreed
rows_of-requires-clause-agreed c =
    agreed_larger c.args.most (record { places = 64; bytes = 128 }) (omega arith) (omega arith) c.args.copies.now c.args.mask.now
    (agreed_verdict c.args.most c.args.copies.now c.args.mask.now (omega arith) c.requires.agreed c.requires.mask)
