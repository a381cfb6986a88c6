use Rattle.std.proofs.Common.{◌≡◌, ◌<◌, ◌^◌, take}
use Rattle.std.specs.Str.Parse.{digits_value}
use Rattle.rd_http_frame.proofs.fields.length_of.Given as goal

abbrev pub invariant-digits : goal.invariant-digits
invariant-digits l = (l.size < 10 ^ l.i) × (l.size ≡ digits_value 10 (take l.i l.value))
