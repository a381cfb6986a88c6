use Rattle.std.proofs.Common.{◌+◌, Ok, ap, arith}
use Rattle.rd_desk.proofs.At.{keeps_then}
use Rattle.rd_desk.proofs.desk.Desk.keep_up_to.Goals as goal

pub returns-in_err-is_put-clause-keeps : goal.returns-in_err-is_put-clause-keeps
returns-in_err-is_put-clause-keeps g c =
    keeps_then c.args.most c.puts._count 1 c.args.self.now c.puts.self c.keep_one.new.self _ _ _ (omega (arith, c.puts-test.true)) c.puts.invariant.0 c.keep_one.ensures.keeps

pub returns-then-not-is_put-clause-keeps : goal.returns-then-not-is_put-clause-keeps
returns-then-not-is_put-clause-keeps g c =
    keeps_then c.args.most c.puts._count 1 c.args.self.now c.puts.self c.keep_one.new.self _ _ _ (omega (arith, c.puts-test.true)) c.puts.invariant.0 c.keep_one.ensures.keeps

pub puts-preserved : goal.puts-preserved
puts-preserved g c =
    let less = c.in_ok-is_put.ensures.some (ap Ok c.if-not-is_put.false) in (
      keeps_then (c.puts._count + 1) c.puts._count 1 c.args.self.now c.puts.self c.keep_one.new.self _ _ _ (omega arith) c.puts.invariant.0 c.keep_one.ensures.keeps,
      omega (arith, c.puts.invariant.1),
    )
