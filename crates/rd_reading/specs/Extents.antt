-- How much of a link was open, and a link cut back to that.
use Rattle.std.specs.Prelude.{List, [], ◌∷◌, length, take}
use Rattle.rd_rules.specs.Exchange as rule
use Rattle.rd_reading.specs.declared.growth.Extent.{Extent}

abbrev pub extent_of : rule.Open → Extent
extent_of o = record { len = length o.bytes; is_ended = o.is_ended }

abbrev pub cut_back : Extent → rule.Open → rule.Open
cut_back e o = record { link = o.link; bytes = take e.len o.bytes; is_ended = e.is_ended }

-- the first links cut back, each to its own extent
abbrev pub all_cut_back : List Extent → List rule.Open → List rule.Open
all_cut_back [] os = os
all_cut_back (e ∷ es) [] = []
all_cut_back (e ∷ es) (o ∷ os) = cut_back e o ∷ all_cut_back es os
