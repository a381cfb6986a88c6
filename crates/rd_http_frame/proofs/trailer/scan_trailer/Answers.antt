use Rattle.std.proofs.Common.{ap, length, arith, length-take}
use Rattle.rd_http_frame.proofs.EmptyLines.{empty_line_settles_trailer}
use Rattle.rd_http_frame.proofs.trailer.scan_trailer.Goals as goal

pub returns-clause-within : goal.returns-clause-within
returns-clause-within c =
    λ len e. omega (arith, c.scan_section.ensures.within len e, ap length c.seen.ensures.is, length-take 65536 c.args.bytes.now)

pub returns-clause-empty_line : goal.returns-clause-empty_line
returns-clause-empty_line c = empty_line_settles_trailer
