use Rattle.std.proofs.Common.{◌≡◌, ◌≤◌, ℕ, ◌∙◌, sym, ap, inl, inr, arith, List, refl, Err}
use Rattle.std.proofs.lemmas.Bool.{false≢true}
use Rattle.std.specs.List.{list_all}
use Rattle.rd_http_frame.specs.Fronts.{is_in_target, after_front, line_feeds, within, is_target_byte, target_so_far, head_feeds, InTarget, NotInTarget}
use Rattle.rd_http_frame.specs.Heads.IsRequestScan.{ManyLines, Complete, Open}
use Rattle.rd_http_frame.proofs.HeadLines.{head_is_past_target, exceeds_feeds, open_by_partial, fields_fit}
use Rattle.rd_http_frame.proofs.WholeHeads.{tells_request}
use Rattle.rd_http_frame.proofs.scan.whole_request_head.Goals as goal

feeds_here : (bytes : List ℕ) {text : List ℕ} {n : ℕ} → text ≡ after_front bytes → n ≡ line_feeds within text → n ≤ 101 → head_feeds bytes ≤ 101
feeds_here bytes {text} {n} e f h =
    let g : n ≡ head_feeds bytes = f ∙ ap (λ (t : List ℕ). line_feeds within t) e in omega (arith, g, h)

pub returns-then-is_good_target-clause-scan : goal.returns-then-is_good_target-clause-scan
returns-then-is_good_target-clause-scan c =
    let e = c.after_front-text.ensures in
    let inside : InTarget c.args.bytes.now = sym (c.is_in_target.ensures ∙ ap (λ (t : List ℕ). is_in_target t) e) ∙ c.if-is_in_target.true in
    let good = sym (c.is_good_target.ensures ∙ ap (λ (t : List ℕ). list_all is_target_byte (target_so_far t)) e) ∙ c.if-is_good_target.true in
    Open (
      feeds_here c.args.bytes.now e c.line_feeds.ensures c.if-line_feeds-gt-MOST_LINES.false,
      λ h rest x. false≢true (sym (head_is_past_target _ h rest x) ∙ inside),
      inl (inside, good),
    ) c.unfinished.ensures

pub returns-in-Ok-Complete-clause-scan : goal.returns-in-Ok-Complete-clause-scan
returns-in-Ok-Complete-clause-scan c =
    let found = rw c.in-Ok-Complete.field-0-is at c.in-Ok-Complete.ensures.complete in
    Complete (feeds_here c.args.bytes.now c.after_front-text.ensures c.line_feeds.ensures c.if-line_feeds-gt-MOST_LINES.false)
    found.0 _ found.1.reads (fields_fit 100 _ _ _ found.0 found.1 (omega (arith, c.parse_request.auto.headers)))
    (c.request_answer.ensures.scan found.0 found.1)

pub returns-in-Ok-Partial-clause-scan : goal.returns-in-Ok-Partial-clause-scan
returns-in-Ok-Partial-clause-scan c =
    let e = c.after_front-text.ensures in
    let outside : NotInTarget c.args.bytes.now = sym (c.is_in_target.ensures ∙ ap (λ (t : List ℕ). is_in_target t) e) ∙ c.if-is_in_target.false in
    Open (
      feeds_here c.args.bytes.now e c.line_feeds.ensures c.if-line_feeds-gt-MOST_LINES.false,
      rw c.in-Ok-Partial.field-0-is at c.in-Ok-Partial.ensures.partial,
      inr (outside, open_by_partial _ outside (rw c.in-Ok-Partial.field-0-is at c.in-Ok-Partial.ensures.unfinished)),
    )
    c.unfinished-in-Ok-Partial.ensures

pub returns-in-Err-TooManyHeaders-clause-scan : goal.returns-in-Err-TooManyHeaders-clause-scan
returns-in-Err-TooManyHeaders-clause-scan c =
    ManyLines (exceeds_feeds 100 _ (c.in-Err-TooManyHeaders.ensures.too_many (ap (λ x. Err x) c.in-Err-TooManyHeaders.field-0-is))) refl

pub returns-in-Ok-Complete-clause-tells : goal.returns-in-Ok-Complete-clause-tells
returns-in-Ok-Complete-clause-tells c =
    let found = rw c.in-Ok-Complete.field-0-is at c.in-Ok-Complete.ensures.complete in
    tells_request c.args.bytes.now found.0 _ found.1.reads c.request_answer.result (c.request_answer.ensures.tells found.0 found.1)
