use Rattle.std.proofs.Common.{◌≡◌, ◌≤◌, ◌+◌, drop}
use Rattle.std.specs.List.{prefix_len}
use Rattle.httparse.specs.Grammar.{is_ows}
use Rattle.rd_http_frame.proofs.place.after_space.Given as goal

abbrev pub invariant-bytes : goal.invariant-bytes
invariant-bytes l = (l.at ≤ l.i) × (l.i + prefix_len is_ows (drop l.i l.bytes) ≡ l.at + prefix_len is_ows (drop l.at l.bytes))
