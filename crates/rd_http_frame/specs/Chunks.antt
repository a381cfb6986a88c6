-- The chunks of a body: RFC 9112, section 7.1, with three narrowings. A size has at most 8 digits, and its
-- line has no chunk extension and no white space.
use Rattle.std.specs.Prelude.{ℕ, zero, suc, ◌+◌, ◌==◌, ◌&&◌, nat_le, true, false, if◌then◌else◌, List, [], ◌∷◌, ◌++◌, length, take, drop, Result, Ok, Err, Option, Some, None}
use Rattle.std.specs.List.{prefix_len}
use Rattle.std.specs.Char.{is_ascii_hexdigit}
use Rattle.std.specs.Str.Parse.{digits_value}
use Rattle.rd_base.specs.Scans.{and_then}
use Rattle.rd_base.specs.declared.values.Scan.{Scan}
use Rattle.rd_base.specs.declared.values.Scan.TheVariants.{Whole, More, Bad, TooBig, Unsupported}
use Rattle.rd_http_frame.specs.declared.chunk.SizeLine.{SizeLine}
use Rattle.rd_http_frame.specs.declared.chunk.Chunk.{Chunk}

abbrev pub line_feed : List ℕ → Scan
line_feed [] = More
line_feed (b ∷ rest) = if b == 10 then Whole 2 else Bad

-- CR LF
abbrev pub line_end : List ℕ → Scan
line_end [] = More
line_end (b ∷ rest) = if b == 13 then line_feed rest else Bad

-- what is made of so many bytes where they are whole
abbrev pub when_whole : {A : Type 0} → Scan → (ℕ → A) → Result A Scan
when_whole (Whole len) made = Ok (made len)
when_whole More made = Err More
when_whole Bad made = Err Bad
when_whole TooBig made = Err TooBig
when_whole (Unsupported code) made = Err (Unsupported code)

-- so many digits, and CR LF
abbrev pub digits_line : ℕ → List ℕ → Result SizeLine Scan
digits_line count bytes =
    if nat_le 1 count && nat_le count 8
    then when_whole (line_end (drop count bytes)) (λ end. record { len = count + end; size = digits_value 16 (take count bytes) })
    else Err Bad

-- 1 to 8 hexadecimal digits, and CR LF
abbrev pub size_line : List ℕ → Result SizeLine Scan
size_line [] = Err More
size_line (b ∷ bytes) = digits_line (prefix_len is_ascii_hexdigit (b ∷ bytes)) (b ∷ bytes)

-- a size line; and where its size isn't zero, that many bytes and CR LF
abbrev pub chunk_behind : List ℕ → SizeLine → Result Chunk Scan
chunk_behind bytes line =
    if line.size == 0
    then Ok (record { len = line.len; is_last = true })
    else when_whole (line_end (drop (line.len + line.size) bytes)) (λ end. record { len = line.len + line.size + end; is_last = false })

abbrev pub front_chunk : List ℕ → Result Chunk Scan
front_chunk bytes = and_then (size_line bytes) (chunk_behind bytes)

-- so many bytes before
abbrev pub further : ℕ → Result ℕ Scan → Result ℕ Scan
further before (Ok at) = Ok (before + at)
further before (Err scan) = Err scan

abbrev pub chunks_up_to : ℕ → List ℕ → Result ℕ Scan
chunks_up_to zero bytes = Err More
chunks_up_to (suc most) bytes =
    and_then (front_chunk bytes) (λ chunk. if chunk.is_last then Ok chunk.len else further chunk.len (chunks_up_to most (drop chunk.len bytes)))

-- where the trailer begins: behind the first size line whose size is zero. There are fewer chunks than bytes
abbrev pub trailer_from : List ℕ → Result ℕ Scan
trailer_from bytes = chunks_up_to (length bytes) bytes

-- a size line with data behind it
abbrev pub data_line : Result SizeLine Scan → Option SizeLine
data_line (Ok line) = if line.size == 0 then None else Some line
data_line (Err scan) = None

-- the data behind a size line, and what `more` makes of what follows its CR LF
abbrev pub data_behind : List ℕ → (List ℕ → List ℕ) → Option SizeLine → List ℕ
data_behind bytes more (Some line) = take line.size (drop line.len bytes) ++ more (drop (line.size + 2) (drop line.len bytes))
data_behind bytes more None = []

abbrev pub data_up_to : ℕ → List ℕ → List ℕ
data_up_to zero bytes = []
data_up_to (suc most) bytes = data_behind bytes (data_up_to most) (data_line (size_line bytes))

-- the bytes in the chunks, as far as they are there
abbrev pub chunk_data : List ℕ → List ℕ
chunk_data bytes = data_up_to (length bytes) bytes
