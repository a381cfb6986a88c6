use Rattle.std.proofs.Common.{◌≡◌, ℕ, ◌+◌, List, take, drop, ap, ap₂, sym, ◌∙◌, subst, if◌then◌else◌}
use Rattle.httparse.specs.Grammar.{ResponseHead}
use Rattle.httparse.specs.Spans.{IsResponseAt}
use Rattle.httparse.specs.declared.spans.HeaderSpan.{HeaderSpan}
use Rattle.httparse.specs.declared.spans.ResponseSpans.{ResponseSpans}
use Rattle.std.specs.Prelude.{Option}
use Rattle.rd_http_frame.specs.Fronts.{front_len}
use Rattle.rd_http_frame.specs.Fields.{framing_of}
use Rattle.rd_http_frame.specs.declared.fields.Framing.{Framing}
use Rattle.rd_http_frame.specs.declared.body.BodyRule.TheVariants.{Empty, UntilEnd}
use Rattle.rd_http_frame.specs.Places.{AreLinesAt, first_at, fields_at, reply_start, rule_of, has_no_body}
use Rattle.rd_http_frame.proofs.Starts.{reply_starts, reply_lines}
use Rattle.rd_http_frame.proofs.HeadsRead.{reply_value}
use Rattle.rd_http_frame.proofs.head.reply_places.Goals as goal

first_is : (bytes : List ℕ) (headers : List HeaderSpan) (r : ResponseSpans) (h : ResponseHead) (front feed : ℕ) → IsResponseAt bytes headers r h → front ≡ front_len bytes → feed ≡ first_at bytes front 10
    → feed + 1 ≡ reply_start h
first_is bytes headers r h front feed at f e =
    let s = reply_starts bytes h (drop r.len bytes) at.reads in
    ap (λ (n : ℕ). n + 1) (e ∙ ap (λ (n : ℕ). first_at bytes n 10) (f ∙ s.front)) ∙ s.feed

lines_at : (bytes : List ℕ) (headers : List HeaderSpan) (r : ResponseSpans) (h : ResponseHead) (first : ℕ) → IsResponseAt bytes headers r h → first ≡ reply_start h
    → AreLinesAt bytes first (take r.headers headers) h.fields
lines_at bytes headers r h first at e = subst (λ (n : ℕ). AreLinesAt bytes n (take r.headers headers) h.fields) (sym e) (reply_lines bytes headers r h at)

pub field_spans-requires-clause-lines : goal.field_spans-requires-clause-lines
field_spans-requires-clause-lines c =
    let head = c.requires.head in
    (head.0.fields, lines_at _ _ _ head.0 _ head.1 (first_is _ _ _ head.0 _ _ head.1 c.front_len.ensures.value c.first_at-first.ensures.value))

pub returns : goal.returns
returns c = λ h at.
    let first = first_is _ _ _ h _ _ at c.front_len.ensures.value c.first_at-first.ensures.value in
    reply_value _ _ _ h at.code
    (c.field_spans.ensures h.fields (lines_at _ _ _ h _ at first) ∙ ap (λ (n : ℕ). fields_at n h.fields) first)
    (c.reply_rule.ensures ∙ ap₂ (λ (n : ℕ) (f : Option Framing). if has_no_body n then Empty else rule_of UntilEnd f) at.code (c.framing_of.ensures ∙ ap₂ framing_of at.version at.fields))
