use Rattle.rd_dialect.proofs.DueScans.{due_within, due_some, due_unit, due_part}
use Rattle.rd_dialect.proofs.scans.scan_due.Goals as goal

pub returns : goal.returns
returns g c =
    let laws = g.met.D.Dialect.lawful c.args.dialect.now in
    let grammar = g.D.Dialect.grammar c.args.dialect.now in
    record {
      scan = c.scan_by_part.ensures;
      within = due_within grammar laws c.args.due c.args.bytes.now c.args.ended c.scan_by_part.result c.scan_by_part.ensures;
      some_bytes = due_some grammar laws c.args.due c.args.bytes.now c.args.ended c.scan_by_part.result c.scan_by_part.ensures;
      unit = due_unit grammar laws c.args.due c.args.bytes.now c.args.ended c.scan_by_part.result c.scan_by_part.ensures;
      part = due_part grammar laws c.args.due c.args.bytes.now c.args.ended c.scan_by_part.result c.scan_by_part.ensures;
    }
