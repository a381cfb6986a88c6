use Rattle.std.proofs.Common.{◌≡◌, ◌<◌, ◌^◌, take}
use Rattle.std.specs.Str.Parse.{digits_value}
use Rattle.rd_http_frame.proofs.chunk.hex_value.Given as goal

abbrev pub invariant-digits : goal.invariant-digits
invariant-digits l = (l.size < 16 ^ l.i) × (l.size ≡ digits_value 16 (take l.i l.digits))
