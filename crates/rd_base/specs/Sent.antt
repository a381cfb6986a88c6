-- What a step sends.
use Rattle.std.specs.Prelude.{ℕ, ◌==◌, if◌then◌else◌, List, [], ◌∷◌, ◌++◌}
use Rattle.std.specs.List.{flat_map}
use Rattle.rd_base.specs.Words.{below}
use Rattle.rd_base.specs.declared.sends.Send.{Send}

-- the bytes for a link among these sends
abbrev pub bytes_to : ℕ → List Send → List ℕ
bytes_to link [] = []
bytes_to link (send ∷ sends) = (if send.link.0 == link then send.bytes else []) ++ bytes_to link sends

-- nothing is sent where there are no bytes
abbrev pub send_of : ℕ → List ℕ → List Send
send_of link [] = []
send_of link (b ∷ bytes) = record { link = record { 0 = link }; bytes = b ∷ bytes } ∷ []

-- what links 0 to n-1 have been sent, in the order of links
abbrev pub sends_to : ℕ → (ℕ → List ℕ) → List Send
sends_to n bytes_for = flat_map (λ link. send_of link (bytes_for link)) (below n)
