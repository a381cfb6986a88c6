use Rattle.std.proofs.Common.{false}
use Rattle.rd_base.specs.declared.values.Part.TheVariants.{Request}
use Rattle.rd_http_frame.proofs.UnitCuts.{unit_once, request_framing}
use Rattle.rd_http_frame.proofs.WholeUnits.{finds_requests}
use Rattle.rd_http_frame.proofs.unit.scan_request.Goals as goal

pub returns-clause-only : goal.returns-clause-only
returns-clause-only c = λ other is. unit_once Request false false c.args.bytes.now other c.scan_unit.result is c.scan_unit.ensures

pub returns-clause-framing : goal.returns-clause-framing
returns-clause-framing c = request_framing

pub returns-clause-units : goal.returns-clause-units
returns-clause-units c = finds_requests
