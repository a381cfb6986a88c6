use Rattle.std.proofs.Common.{◌≡◌, List, ◌++◌, length, drop}
use Rattle.httparse.specs.Grammar.{Field}
use Rattle.rd_http_frame.specs.Places.{AreLinesAt, fields_at}
use Rattle.rd_http_frame.proofs.place.field_spans.Given as goal

abbrev pub invariant-lines : goal.invariant-lines
invariant-lines l =
    (length l.spans.items ≡ l.i)
    × ((fields : List Field) → AreLinesAt l.bytes l.at l.headers fields
    → (l.spans.items ++ fields_at l.line (drop l.i fields) ≡ fields_at l.at fields) × AreLinesAt l.bytes l.line (drop l.i l.headers) (drop l.i fields))
