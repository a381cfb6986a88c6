use Rattle.rd_http_frame.proofs.Unique.{head_once}
use Rattle.rd_http_frame.proofs.EmptyLines.{empty_line_settles}
use Rattle.rd_http_frame.proofs.HeadCuts.{head_framing}
use Rattle.rd_http_frame.proofs.scan.scan_head.Goals as goal

pub returns-in-Ok-clause-only : goal.returns-in-Ok-clause-only
returns-in-Ok-clause-only c = λ other is. head_once c.args.part c.args.bytes.now other _ is c.in-Ok.ensures.head.1.whole

pub returns-in-Ok-clause-framing : goal.returns-in-Ok-clause-framing
returns-in-Ok-clause-framing c = head_framing c.args.part

pub returns-in-Err-clause-only : goal.returns-in-Err-clause-only
returns-in-Err-clause-only c = λ other is. head_once c.args.part c.args.bytes.now other _ is c.in-Err.ensures.head.0

pub returns-in-Err-clause-framing : goal.returns-in-Err-clause-framing
returns-in-Err-clause-framing c = head_framing c.args.part

pub returns-in-Ok-clause-empty_line : goal.returns-in-Ok-clause-empty_line
returns-in-Ok-clause-empty_line c = empty_line_settles c.args.part

pub returns-in-Err-clause-empty_line : goal.returns-in-Err-clause-empty_line
returns-in-Err-clause-empty_line c = empty_line_settles c.args.part
