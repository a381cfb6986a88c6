use Rattle.std.proofs.Common.{◌≡◌, map, drop}
use Rattle.httparse.specs.Spans.{header_bytes}
use Rattle.rd_http_frame.specs.Fields.{values_of}
use Rattle.rd_http_frame.proofs.fields.first_named.Given as goal

abbrev pub invariant-headers : goal.invariant-headers
invariant-headers l = values_of l.name (map (header_bytes l.bytes) (drop l.i l.headers)) ≡ values_of l.name (map (header_bytes l.bytes) l.headers)
