use Rattle.rd_http_frame.proofs.WholeHeads.{whole_request, whole_reply, found_some, found_within}
use Rattle.rd_http_frame.proofs.scan.whole_head.Goals as goal

pub returns-in-Request : goal.returns-in-Request
returns-in-Request c =
    let found = c.whole_request_head.result in
    let head = whole_request c.args.part c.args.bytes.now _ found c.in-Request.is c.seen.ensures.is c.whole_request_head.ensures.scan c.whole_request_head.ensures.tells in
    record {
      head = head;
      some_bytes = found_some c.args.part c.args.bytes.now found head;
      within = found_within c.args.part c.args.bytes.now found head;
    }

pub returns-in-Reply : goal.returns-in-Reply
returns-in-Reply c =
    let found = c.whole_reply_head.result in
    let head = whole_reply c.args.part c.args.bytes.now _ found c.in-Reply.is c.seen-in-Reply.ensures.is c.whole_reply_head.ensures.scan c.whole_reply_head.ensures.tells in
    record {
      head = head;
      some_bytes = found_some c.args.part c.args.bytes.now found head;
      within = found_within c.args.part c.args.bytes.now found head;
    }
