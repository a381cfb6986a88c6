use Rattle.std.proofs.Common.{◌≡◌, ◌<◌, ◌^◌, take}
use Rattle.std.specs.Str.Parse.{digits_value}
use Rattle.rd_operator.proofs.asked.id_of.Given as goal

abbrev pub invariant-digits : goal.invariant-digits
invariant-digits l = (l.id < 10 ^ l.i) × (l.id ≡ digits_value 10 (take l.i l.text))
