use Rattle.rd_http_frame.proofs.HeadsRead.{is_request, no_request, no_reply, is_reply}
use Rattle.rd_http_frame.proofs.head.Head.read.Goals as goal

pub returns-in-Request-clause-none : goal.returns-in-Request-clause-none
returns-in-Request-clause-none c = λ none len scan. no_request c.args.part c.args.bytes.now _ _ len c.in-Request.is c.seen.ensures.is c.read_request.ensures none scan

pub returns-in-Reply-clause-is : goal.returns-in-Reply-clause-is
returns-in-Reply-clause-is c = is_reply c.args.part c.args.bytes.now _ _ c.in-Reply.is c.seen-in-Reply.ensures.is c.read_reply.ensures

pub returns-in-Reply-clause-none : goal.returns-in-Reply-clause-none
returns-in-Reply-clause-none c = λ none len scan. no_reply c.args.part c.args.bytes.now _ _ len c.in-Reply.is c.seen-in-Reply.ensures.is c.read_reply.ensures none scan

pub returns-in-Request-clause-is : goal.returns-in-Request-clause-is
returns-in-Request-clause-is c = is_request c.args.part c.args.bytes.now _ _ c.in-Request.is c.seen.ensures.is c.read_request.ensures
