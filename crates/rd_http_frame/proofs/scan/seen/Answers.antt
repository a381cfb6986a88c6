use Rattle.std.proofs.Common.{sym, arith, length-take}
use Rattle.std.proofs.lemmas.List.{take_all}
use Rattle.rd_http_frame.proofs.scan.seen.Goals as goal

pub slice_bounds-result-end : goal.slice_bounds-result-end
slice_bounds-result-end c = omega (arith, length-take 65536 c.args.bytes.now, c.if-bytes-le-MOST_BYTES.false)

pub returns-then-bytes-le-MOST_BYTES-clause-is : goal.returns-then-bytes-le-MOST_BYTES-clause-is
returns-then-bytes-le-MOST_BYTES-clause-is c = sym (take_all 65536 c.args.bytes.now c.if-bytes-le-MOST_BYTES.true)

pub returns-else-bytes-le-MOST_BYTES-clause-within : goal.returns-else-bytes-le-MOST_BYTES-clause-within
returns-else-bytes-le-MOST_BYTES-clause-within c = omega (arith, length-take 65536 c.args.bytes.now)
