use Rattle.std.proofs.Common.{sym, ◌∙◌}
use Rattle.rd_http_frame.proofs.ChunkSteps.{trailer_never}
use Rattle.rd_http_frame.proofs.unit.scan_chunked.Goals as goal

pub returns-in-Err-clause-within : goal.returns-in-Err-clause-within
returns-in-Err-clause-within c =
    λ len e. absurd (trailer_never c.args.bytes.now c.in-Err.scan len (sym c.trailer_from.ensures.from ∙ c.in-Err.is) e)
