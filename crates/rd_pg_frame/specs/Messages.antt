-- Numbers and messages in bytes.
-- PostgreSQL manual, Frontend/Backend Protocol, Message Data Types and Message Formats.
use Rattle.std.specs.Prelude.{◌≡◌, ℕ, ◌+◌, ◌≤◌, ◌<◌, ◌^◌, ◌==◌, ◌&&◌, nat_le, nat_lt, Bool, if◌then◌else◌, List, ◌∷◌, ◌++◌, length, Option, Some, None, slice_index, slice_range}
use Rattle.std.specs.List.{list_any}
use Rattle.std.specs.Int.{w16, w32, from_be_bytes}
use Rattle.rd_pg_frame.specs.declared.message.Message.{Message}

-- Int16 and Int32: the highest byte comes first
unfoldable pub be_u16 : List ℕ → ℕ
be_u16 bytes = from_be_bytes w16 bytes

unfoldable pub be_u32 : List ℕ → ℕ
be_u32 bytes = from_be_bytes w32 bytes

abbrev pub be_u16_at : List ℕ → ℕ → ℕ
be_u16_at bytes at = be_u16 (slice_range bytes at (at + 2))

abbrev pub be_u32_at : List ℕ → ℕ → ℕ
be_u32_at bytes at = be_u32 (slice_range bytes at (at + 4))

-- a message's length counts its own four bytes, and is no negative Int32
abbrev pub is_length : ℕ → Bool
is_length len = nat_le 4 len && nat_lt len (2 ^ 31)

abbrev pub is_among : List ℕ → ℕ → Bool
is_among letters letter = list_any (λ l. l == letter) letters

-- the bytes are one message: a letter, the length of what follows it, the content
pub record IsMessage (letter : ℕ) (content bytes : List ℕ) : Type 0 where
  pub size : List ℕ
  pub four : length size ≡ 4
  pub counts : be_u32 size ≡ 4 + length content
  pub fits : 4 + length content < 2 ^ 31
  pub is : letter ∷ size ++ content ≡ bytes

-- a whole message stands at this place: its letter, its length, and its content from one place to another
pub record IsMessageAt (bytes : List ℕ) (at : ℕ) (m : Message) : Type 0 where
  pub letter : m.letter ≡ slice_index bytes at
  pub from : m.from ≡ at + 5
  pub counts : m.to ≡ at + 1 + be_u32_at bytes (at + 1)
  pub ordered : m.from ≤ m.to
  pub within : m.to ≤ length bytes
  pub fits : m.to < at + 1 + 2 ^ 31

abbrev pub message_at : List ℕ → ℕ → Option Message
message_at bytes at =
    let len = be_u32_at bytes (at + 1) in
    if nat_le (at + 5) (length bytes) && is_length len && nat_le (at + 1 + len) (length bytes)
    then Some (record { letter = slice_index bytes at; from = at + 5; to = at + 1 + len })
    else None
