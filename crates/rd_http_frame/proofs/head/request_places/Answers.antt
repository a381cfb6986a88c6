use Rattle.std.proofs.Common.{◌≡◌, ℕ, ◌+◌, ◌-◌, ◌≤◌, List, length, take, drop, ap, ap₂, sym, ◌∙◌, subst, arith}
use Rattle.httparse.specs.Grammar.{RequestHead, print_blank}
use Rattle.httparse.specs.Spans.{IsRequestAt, IsWithin, span_bytes}
use Rattle.httparse.specs.declared.spans.HeaderSpan.{HeaderSpan}
use Rattle.httparse.specs.declared.spans.RequestSpans.{RequestSpans}
use Rattle.httparse.specs.declared.spans.Span.{Span}
use Rattle.httparse.proofs.RunLemmas.{length-slice_range}
use Rattle.rd_http_frame.specs.Fronts.{front_len}
use Rattle.rd_http_frame.specs.Fields.{framing_of}
use Rattle.rd_http_frame.specs.declared.body.BodyRule.TheVariants.{Empty}
use Rattle.rd_http_frame.specs.Places.{AreLinesAt, first_at, fields_at, request_start, rule_of}
use Rattle.rd_http_frame.proofs.Starts.{request_starts, request_lines}
use Rattle.rd_http_frame.proofs.HeadsRead.{request_value}
use Rattle.rd_http_frame.proofs.head.request_places.Goals as goal

first_is : (bytes : List ℕ) (headers : List HeaderSpan) (r : RequestSpans) (h : RequestHead) (front feed : ℕ) → IsRequestAt bytes headers r h → front ≡ front_len bytes → feed ≡ first_at bytes front 10
    → feed + 1 ≡ request_start h
first_is bytes headers r h front feed at f e =
    let s = request_starts bytes h (drop r.len bytes) at.reads in
    ap (λ (n : ℕ). n + 1) (e ∙ ap (λ (n : ℕ). first_at bytes n 10) (f ∙ s.front)) ∙ s.feed

lines_at : (bytes : List ℕ) (headers : List HeaderSpan) (r : RequestSpans) (h : RequestHead) (first : ℕ) → IsRequestAt bytes headers r h → first ≡ request_start h
    → AreLinesAt bytes first (take r.headers headers) h.fields
lines_at bytes headers r h first at e = subst (λ (n : ℕ). AreLinesAt bytes n (take r.headers headers) h.fields) (sym e) (request_lines bytes headers r h at)

size_of : (bytes : List ℕ) (len : ℕ) (s : Span) (w : List ℕ) → len ≤ length bytes → IsWithin len s → span_bytes bytes s ≡ w → s.end - s.start ≡ length w
size_of bytes len s w fits within e = sym (length-slice_range bytes s.start s.end within.0 (omega (arith, within.1, fits))) ∙ ap (λ (t : List ℕ). length t) e

pub field_spans-requires-clause-lines : goal.field_spans-requires-clause-lines
field_spans-requires-clause-lines c =
    let head = c.requires.head in
    (head.0.fields, lines_at _ _ _ head.0 _ head.1 (first_is _ _ _ head.0 _ _ head.1 c.front_len-method.ensures.value c.first_at-first.ensures.value))

pub returns : goal.returns
returns c = λ h at.
    let s = request_starts c.args.bytes.now h _ at.reads in
    let front : c.front_len-method.result ≡ length (print_blank h.blank) = c.front_len-method.ensures.value ∙ s.front in
    let first = first_is _ _ _ h _ _ at c.front_len-method.ensures.value c.first_at-first.ensures.value in
    let within = c.requires.within in
    let method = size_of c.args.bytes.now _ _ h.method within.section.len_fits within.method at.method in
    let target = size_of c.args.bytes.now _ _ h.target within.section.len_fits within.path at.path in
    request_value _ _ _ _ _ h front (omega (arith, front, method)) (omega (arith, front, method, target))
    (c.field_spans.ensures h.fields (lines_at _ _ _ h _ at first) ∙ ap (λ (n : ℕ). fields_at n h.fields) first)
    (c.rule_of.ensures ∙ ap (rule_of Empty) (c.framing_of.ensures ∙ ap₂ framing_of at.version at.fields))
