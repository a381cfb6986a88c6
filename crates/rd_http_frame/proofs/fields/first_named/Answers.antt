use Rattle.std.proofs.Common.{sym, ◌∙◌, arith}
use Rattle.rd_http_frame.proofs.Named.{first_here, not_here}
use Rattle.rd_http_frame.proofs.fields.first_named.Goals as goal

pub returns-then-is_named : goal.returns-then-is_named
returns-then-is_named c =
    first_here c.args.name.now c.args.bytes.now c.args.headers.now c.headers.i (omega (arith, c.headers-test.true)) c.headers.invariant (sym c.is_named.ensures ∙ c.if-is_named.true)

pub headers-preserved : goal.headers-preserved
headers-preserved c =
    not_here c.args.name.now c.args.bytes.now c.args.headers.now c.headers.i (omega (arith, c.headers-test.true)) c.headers.invariant (sym c.is_named.ensures ∙ c.if-is_named.false)
