use Rattle.rd_http_frame.proofs.FlatForms.{flat_forms}
use Rattle.rd_http_frame.proofs.flat.flat_into.Goals as goal

pub returns-in_default-clause-laws : goal.returns-in_default-clause-laws
returns-in_default-clause-laws c = flat_forms c.args.part c.args.head_request

pub returns-then-is_err-clause-laws : goal.returns-then-is_err-clause-laws
returns-then-is_err-clause-laws c = flat_forms c.args.part c.args.head_request

pub returns-else-is_err-clause-laws : goal.returns-else-is_err-clause-laws
returns-else-is_err-clause-laws c = flat_forms c.args.part c.args.head_request
