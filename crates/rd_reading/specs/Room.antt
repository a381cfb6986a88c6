-- How many bytes of a link may be open.
use Rattle.std.specs.Prelude.{ℕ, ◌≤◌, ◌+◌, ◌*◌, length}
use Rattle.rd_base.specs.declared.values.What.{What}
use Rattle.rd_base.specs.History.{piece_of}
use Rattle.rd_rules.specs.Exchange as rule

-- more than a live session ever keeps of a link, and few enough to be counted in 32 bits
abbrev pub room : ℕ
room = 33554432

-- what a happening brings to a link has room behind what is open
abbrev pub HasRoom : What → rule.Open → Type 0
HasRoom w o = length o.bytes + length (piece_of o.link w) ≤ room

-- the flat form of so many bytes
abbrev pub flat_room : ℕ
flat_room = 3 * room + 4
