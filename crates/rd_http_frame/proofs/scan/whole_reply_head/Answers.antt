use Rattle.std.proofs.Common.{◌≡◌, ◌≤◌, ℕ, List, refl, ap, Err, ◌∙◌, arith}
use Rattle.rd_http_frame.specs.Fronts.{after_front, line_feeds, within, head_feeds}
use Rattle.rd_http_frame.specs.Heads.IsReplyScan.{ManyLines, Complete}
use Rattle.rd_http_frame.proofs.Replies.{reply_exceeds_feeds, reply_fields_fit}
use Rattle.rd_http_frame.proofs.WholeHeads.{tells_reply}
use Rattle.rd_http_frame.proofs.scan.whole_reply_head.Goals as goal

feeds_here : (bytes : List ℕ) {text : List ℕ} {n : ℕ} → text ≡ after_front bytes → n ≡ line_feeds within text → n ≤ 101 → head_feeds bytes ≤ 101
feeds_here bytes {text} {n} e f h =
    let g : n ≡ head_feeds bytes = f ∙ ap (λ (t : List ℕ). line_feeds within t) e in omega (arith, g, h)

pub returns-in-Ok-Complete-clause-scan : goal.returns-in-Ok-Complete-clause-scan
returns-in-Ok-Complete-clause-scan c =
    let found = rw c.in-Ok-Complete.field-0-is at c.in-Ok-Complete.ensures.complete in
    Complete (feeds_here c.args.bytes.now c.after_front-text.ensures c.line_feeds.ensures c.if-line_feeds-gt-MOST_LINES.false)
    found.0 _ found.1.reads (reply_fields_fit 100 _ _ _ found.0 found.1 (omega (arith, c.parse_response.auto.headers)))
    (c.reply_answer.ensures.scan found.0 found.1)

pub returns-in-Err-TooManyHeaders-clause-scan : goal.returns-in-Err-TooManyHeaders-clause-scan
returns-in-Err-TooManyHeaders-clause-scan c =
    ManyLines (reply_exceeds_feeds 100 _ (c.in-Err-TooManyHeaders.ensures.too_many (ap (λ x. Err x) c.in-Err-TooManyHeaders.field-0-is))) refl

pub returns-in-Ok-Complete-clause-tells : goal.returns-in-Ok-Complete-clause-tells
returns-in-Ok-Complete-clause-tells c =
    let found = rw c.in-Ok-Complete.field-0-is at c.in-Ok-Complete.ensures.complete in
    tells_reply c.args.bytes.now found.0 _ found.1.reads c.reply_answer.result (c.reply_answer.ensures.tells found.0 found.1)
