-- A script that is made and not read: so many exchanges of a line session, each with a word in which the copies differ.
use Rattle.std.specs.Prelude.{ℕ, zero, suc, ◌+◌, ◌-◌, ◌*◌, ◌%◌, ◌^◌, ◌==◌, if◌then◌else◌, List, [], ◌∷◌, ◌++◌, length, take, drop, codes, replicate}
use Rattle.std.specs.List.{flat_map}
use Rattle.std.specs.Fmt.{decimal}
use Rattle.rd_base.specs.History.{Entry, History}
use Rattle.rd_base.specs.Words.{below}
use Rattle.rd_base.specs.declared.values.Side.TheVariants.{Incoming}
use Rattle.rd_base.specs.declared.values.What.{What}
use Rattle.rd_base.specs.declared.values.What.TheVariants.{Piece, End}
use Rattle.rd_script.specs.Script.{ScriptState}

-- the numbers that replies show: the first is given, and each other comes from the one before
abbrev pub drawn : ℕ → ℕ → ℕ
drawn first zero = first
drawn first (suc j) = (drawn first j * 1103515245 + 12345) % 2 ^ 31

-- in 16 digits with leading zeros
abbrev pub sixteen_digits : ℕ → List ℕ
sixteen_digits number = replicate (16 - length (decimal number)) 48 ++ decimal number

-- the last word of copy k's reply that shows a number
abbrev pub last_word : ℕ → ℕ → List ℕ
last_word number k = sixteen_digits (number + k)

-- the request of exchange j; from the second on it has copy 0's last word in the reply before
abbrev pub request_line : ℕ → ℕ → List ℕ
request_line j before = if j == 1 then codes "get 1\n" else codes "get " ++ decimal j ++ codes " " ++ last_word before 0 ++ codes "\n"

-- copy k's reply in exchange j
abbrev pub reply_line : ℕ → ℕ → ℕ → List ℕ
reply_line j number k = decimal j ++ codes " " ++ decimal number ++ codes " " ++ last_word number k ++ codes "\n"

-- at stamp 0, with no rows
abbrev pub at_zero : What → Entry
at_zero what = record { at = 0; what = what; told = [] }

abbrev pub piece : ℕ → List ℕ → Entry
piece link bytes = at_zero (Piece (record { 0 = link }) bytes)

-- a text in two pieces, cut at a place; in one where that is 0
abbrev pub pieces : ℕ → List ℕ → ℕ → History
pieces link text place = if place == 0 then piece link text ∷ [] else piece link (take place text) ∷ piece link (drop place text) ∷ []

abbrev pub reply_pieces : ℕ → ℕ → ℕ → History
reply_pieces j number k = pieces k (reply_line j number k) (number % length (reply_line j number k))

-- exchange j among n copies, after a reply that showed one number: the request, and the replies that show the next, from copy j mod n on
abbrev pub one_exchange : ℕ → ℕ → ℕ → ℕ → History
one_exchange n j before number = piece n (request_line j before) ∷ flat_map (λ i. reply_pieces j number ((j + i) % n)) (below n)

-- exchange i + 1 of those that begin with a number
abbrev pub exchange_at : ℕ → ℕ → ℕ → History
exchange_at n first i = one_exchange n (i + 1) (drawn first i) (drawn first (i + 1))

-- as many exchanges as the number says, and the client's end
abbrev pub generated : ℕ → ℕ → ScriptState
generated n number = record { side = Incoming; entries = flat_map (exchange_at n number) (below number) ++ at_zero (End (record { 0 = n })) ∷ [] }
