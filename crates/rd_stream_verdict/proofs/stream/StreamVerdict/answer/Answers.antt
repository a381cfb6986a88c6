use Rattle.std.proofs.Common.{◌∙◌}
use Rattle.rd_stream_verdict.proofs.Answered.{answered, whole_answer}
use Rattle.rd_stream_verdict.proofs.stream.StreamVerdict.answer.Goals as goal

pub returns-clause-said : goal.returns-clause-said
returns-clause-said c = λ said at. c.found_so_far.ensures ∙ answered said c.args.self.now at

pub returns-clause-whole : goal.returns-clause-whole
returns-clause-whole c = λ said at whole. c.found_so_far.ensures ∙ answered said c.args.self.now at ∙ whole_answer c.args.self.now.most said whole
