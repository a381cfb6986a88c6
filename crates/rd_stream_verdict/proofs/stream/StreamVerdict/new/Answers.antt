use Rattle.rd_stream_verdict.proofs.Silent.{silent_at, silent_reached}
use Rattle.rd_base.specs.declared.verdict.Verdict.TheVariants.{Agreed}
use Rattle.std.proofs.Common.{ap}
use Rattle.rd_stream_verdict.proofs.stream.StreamVerdict.new.Goals as goal

pub invariant_of-result : goal.invariant_of-result
invariant_of-result c =
    silent_reached c.args.copies (record { most = c.args.most; found = Agreed c.new.result; rows = c.new-2.result; copies = c.in_ok-new.field-0 }) c.requires.three c.requires.eight c.requires.limits (ap Agreed c.new.ensures) c.new-2.ensures c.in_ok-new.ensures

pub returns-clause-nothing : goal.returns-clause-nothing
returns-clause-nothing c =
    silent_at c.args.copies (record { most = c.args.most; found = Agreed c.new.result; rows = c.new-2.result; copies = c.in_ok-new.field-0 }) (ap Agreed c.new.ensures) c.new-2.ensures c.in_ok-new.ensures
