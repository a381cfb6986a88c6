use Rattle.std.proofs.Common.{◌≡◌, false, ◌+◌, ◌≤◌, drop}
use Rattle.rd_http_frame.specs.Fronts.{line_feeds, place_of}
use Rattle.rd_http_frame.proofs.lines.line_feeds.Given as goal

abbrev pub invariant-bytes : goal.invariant-bytes
invariant-bytes l = (l.count ≤ l.i) × (l.count + line_feeds (place_of l.at_start l.after_cr) (drop l.i l.text) ≡ line_feeds (place_of l.begins false) l.text)
