use Rattle.std.proofs.Common.{length, ap, ◌∙◌, arith, length-append}
use Rattle.rd_http_frame.proofs.FieldWalk.{here_step, line_inside, walk, walked}
use Rattle.rd_http_frame.proofs.place.field_spans.Goals as goal

pub field_place-place-requires-clause-within : goal.field_place-place-requires-clause-within
field_place-place-requires-clause-within c =
    let fields = c.requires.lines in
    let x = here_step c.args.bytes.now c.lines.line c.args.headers.now c.lines.i _ c.lines-test.true (c.lines.invariant.1 fields.0 fields.1).1 in
    omega (arith, line_inside c.args.bytes.now c.lines.line x.f x.rest x.here)

pub field_span-requires-clause-ordered : goal.field_span-requires-clause-ordered
field_span-requires-clause-ordered c =
    let fields = c.requires.lines in
    let x = here_step c.args.bytes.now c.lines.line c.args.headers.now c.lines.i _ c.lines-test.true (c.lines.invariant.1 fields.0 fields.1).1 in
    let found = c.field_place-place.ensures x.f x.rest x.here in
    omega (arith, found.name_end)

pub field_span-requires-clause-inside : goal.field_span-requires-clause-inside
field_span-requires-clause-inside c =
    let fields = c.requires.lines in
    let x = here_step c.args.bytes.now c.lines.line c.args.headers.now c.lines.i _ c.lines-test.true (c.lines.invariant.1 fields.0 fields.1).1 in
    let found = c.field_place-place.ensures x.f x.rest x.here in
    omega (arith, found.name_end, line_inside c.args.bytes.now c.lines.line x.f x.rest x.here)

pub lines-preserved : goal.lines-preserved
lines-preserved c = (
  ap (λ t. length t) c.push.ensures.items ∙ length-append c.lines.spans.items _ ∙ omega (arith, c.lines.invariant.0),
  λ fields x.
      rw c.push.ensures.items (walk c.args.bytes.now c.args.at c.lines.line c.args.headers.now c.lines.i fields c.lines.spans.items c.field_place-place.result c.field_span.result
      c.lines-test.true c.requires.within c.field_place-place.ensures c.field_span.ensures (c.lines.invariant.1 fields x)),
)

pub returns : goal.returns
returns c = λ fields x. walked c.args.bytes.now c.args.at c.lines.line c.args.headers.now c.lines.i fields c.lines.spans.items (omega (arith, c.lines-test.false)) (c.lines.invariant.1 fields x)
