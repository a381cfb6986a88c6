use Rattle.rd_base.specs.declared.values.Part.TheVariants.{Reply}
use Rattle.rd_http_frame.proofs.UnitCuts.{unit_once, unit_framing}
use Rattle.rd_http_frame.proofs.WholeUnits.{finds_replies}
use Rattle.rd_http_frame.proofs.unit.scan_reply.Goals as goal

pub returns-clause-only : goal.returns-clause-only
returns-clause-only c =
    λ other is. unit_once Reply c.args.head_request c.args.ended c.args.bytes.now other c.scan_unit.result is c.scan_unit.ensures

pub returns-clause-framing : goal.returns-clause-framing
returns-clause-framing c = unit_framing Reply c.args.head_request

pub returns-clause-units : goal.returns-clause-units
returns-clause-units c = finds_replies c.args.head_request
