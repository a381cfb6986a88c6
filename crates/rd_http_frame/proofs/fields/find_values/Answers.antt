use Rattle.std.proofs.Common.{◌+◌}
use Rattle.rd_http_frame.proofs.Named.{again}
use Rattle.rd_http_frame.proofs.fields.find_values.Goals as goal

pub returns-in-Some-first_named : goal.returns-in-Some-first_named
returns-in-Some-first_named c =
    let one = c.in-Some.ensures in
    let two = c.in-Some-first_named.ensures in
    (_, _, _, again c.args.name.now c.args.bytes.now c.args.headers.now (c.in-Some.place + 1) _ _ _ one.2 two.2)
