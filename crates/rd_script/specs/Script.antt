-- The language of scripts: what a text stands for, or which of its lines is the first bad one.
use Rattle.std.specs.Prelude.{ℕ, zero, suc, ◌+◌, ◌-◌, ◌^◌, ◌==◌, ◌&&◌, ◌||◌, not, nat_lt, nat_le, Bool, false, if◌then◌else◌, List, [], ◌∷◌, ◌++◌, length, codes, bytes_eq, Option, Some, None, option_map, option_and_then, Result, Ok, Err}
use Rattle.std.specs.List.{slice_split, list_all}
use Rattle.std.specs.Result.{result_ok}
use Rattle.std.specs.Char.{is_ascii_digit}
use Rattle.std.specs.Str.Parse.{digits_value}
use Rattle.hex.specs.Hex.{decode_of}
use Rattle.rd_base.specs.History.{Row, Entry, History, may_follow}
use Rattle.rd_base.specs.Swap.{is_row_word}
use Rattle.rd_base.specs.declared.values.Happening.{Happening}
use Rattle.rd_base.specs.declared.values.Link.{Link}
use Rattle.rd_base.specs.declared.values.Side.{Side}
use Rattle.rd_base.specs.declared.values.Side.TheVariants.{Incoming, Outgoing}
use Rattle.rd_base.specs.declared.values.What.{What}
use Rattle.rd_base.specs.declared.values.What.TheVariants.{Piece, End, ReadFail, WriteFail, Timer, Stop}

-- what a script stands for: the side of its session, and what happened to it
pub record ScriptState : Type 0 where
  pub side : Side
  pub entries : History

-- what lines come to: entries, and the rows that are told to the next one
pub record LinesRead : Type 0 where
  pub entries : History
  pub told : List Row

-- the parts that line feeds end, and the part behind the last one
abbrev pub parts_of : List ℕ → List (List ℕ)
parts_of text = slice_split (λ b. b == 10) text

-- words are joined by single spaces
abbrev pub words_of : List ℕ → List (List ℕ)
words_of line = slice_split (λ b. b == 32) line

-- decimal digits without a leading zero, `0` itself excepted
abbrev pub is_numeral : List ℕ → Bool
is_numeral [] = false
is_numeral (digit ∷ []) = is_ascii_digit digit
is_numeral (first ∷ second ∷ more) = not (first == 48) && list_all is_ascii_digit (first ∷ second ∷ more)

-- the number that a word stands for, at most 2^64-1
abbrev pub number_of : List ℕ → Option ℕ
number_of word = if is_numeral word && nat_lt (digits_value 10 word) (2 ^ 64) then Some (digits_value 10 word) else None

-- `0` to `9` and `a` to `f`
abbrev pub is_lower_hex_digit : ℕ → Bool
is_lower_hex_digit c = (nat_le 48 c && nat_le c 57) || (nat_le 97 c && nat_le c 102)

-- the bytes that a word of lower-case hexadecimal digits stands for
abbrev pub bytes_of_hex : List ℕ → Option (List ℕ)
bytes_of_hex word = if list_all is_lower_hex_digit word then result_ok (decode_of word) else None

-- the link that a word names, where n is the greatest
abbrev pub link_of : ℕ → List ℕ → Option Link
link_of n word = option_and_then (λ l. if nat_le l n then Some (record { 0 = l }) else None) (number_of word)

abbrev pub piece_of_words : ℕ → List (List ℕ) → Option What
piece_of_words n [] = None
piece_of_words n (link ∷ []) = None
piece_of_words n (link ∷ hex ∷ []) = option_and_then (λ l. option_map (λ bytes. Piece l bytes) (bytes_of_hex hex)) (link_of n link)
piece_of_words n (link ∷ hex ∷ more ∷ others) = None

-- a link, where it is the only word
abbrev pub only_link : ℕ → List (List ℕ) → Option Link
only_link n [] = None
only_link n (link ∷ []) = link_of n link
only_link n (link ∷ more ∷ others) = None

-- what happened, where no word is left
abbrev pub if_alone : What → List (List ℕ) → Option What
if_alone what [] = Some what
if_alone what (more ∷ others) = None

-- what happened, by the words behind a line's stamp; each kind of line is a case
abbrev pub what_of : ℕ → List (List ℕ) → Option What
what_of n [] = None
what_of n (name ∷ words) =
    if bytes_eq name (codes "piece") then piece_of_words n words
    else if bytes_eq name (codes "end") then option_map (λ l. End l) (only_link n words)
    else if bytes_eq name (codes "readfail") then option_map (λ l. ReadFail l) (only_link n words)
    else if bytes_eq name (codes "writefail") then option_map (λ l. WriteFail l) (only_link n words)
    else if bytes_eq name (codes "timer") then if_alone Timer words
    else if bytes_eq name (codes "stop") then if_alone Stop words
    else None

abbrev pub with_stamp : Option ℕ → Option What → Option Happening
with_stamp stamp what = option_and_then (λ at. option_map (λ w. record { at = at; what = w }) what) stamp

-- the happening of a line: a stamp, and what happened
abbrev pub happening_of : ℕ → List (List ℕ) → Option Happening
happening_of n [] = None
happening_of n (stamp ∷ words) = with_stamp (number_of stamp) (what_of n words)

-- the word of 16 to 128 word bytes that hexadecimal digits stand for
abbrev pub row_word_of : List ℕ → Option (List ℕ)
row_word_of hex = option_and_then (λ word. if is_row_word word then Some word else None) (bytes_of_hex hex)

-- a row of as many words
abbrev pub row_of_words : ℕ → List (List ℕ) → Option Row
row_of_words zero [] = Some []
row_of_words zero (hex ∷ more) = None
row_of_words (suc n) [] = None
row_of_words (suc n) (hex ∷ more) = option_and_then (λ word. option_map (λ row. word ∷ row) (row_of_words n more)) (row_word_of hex)

-- a line that tells a row to the next happening
abbrev pub is_told : List (List ℕ) → Bool
is_told [] = false
is_told (name ∷ words) = bytes_eq name (codes "told")

-- the row that a line tells: a word for each of n copies, on the incoming side alone
abbrev pub told_row : ℕ → Side → List (List ℕ) → Option Row
told_row n Incoming [] = None
told_row n Incoming (name ∷ words) = row_of_words n words
told_row n Outgoing words = None

abbrev pub side_named : List ℕ → Option Side
side_named side =
    if bytes_eq side (codes "incoming") then Some Incoming
    else if bytes_eq side (codes "outgoing") then Some Outgoing
    else None

-- the side that the first line names
abbrev pub side_of : List (List ℕ) → Option Side
side_of [] = None
side_of (name ∷ []) = None
side_of (name ∷ side ∷ []) = if bytes_eq name (codes "side") then side_named side else None
side_of (name ∷ side ∷ more ∷ others) = None

-- this may stand behind these entries, where n is the number of copies
abbrev pub may_stand : ℕ → History → What → Bool
may_stand n seen what = nat_lt (length seen) 1048576 && may_follow n seen what

abbrev pub admitted : ℕ → History → Option Happening → Option Happening
admitted n seen None = None
admitted n seen (Some h) = if may_stand n seen h.what then Some h else None

-- a happening with the rows told to it
abbrev pub entry_of : Happening → List Row → Entry
entry_of happening told = record { at = happening.at; what = happening.what; told = told }

abbrev pub with_row : LinesRead → Row → LinesRead
with_row read row = record { entries = read.entries; told = read.told ++ row ∷ [] }

abbrev pub with_happening : LinesRead → Happening → LinesRead
with_happening read happening = record { entries = read.entries ++ entry_of happening read.told ∷ []; told = [] }

-- what lines come to with one line more; None where it is bad
abbrev pub with_line : ℕ → Side → LinesRead → List (List ℕ) → Option LinesRead
with_line n side read words =
    if is_told words then option_map (with_row read) (told_row n side words)
    else option_map (with_happening read) (admitted n read.entries (happening_of n words))

-- a row that no happening follows makes its line bad, and the first of these lines is named
abbrev pub at_end : ℕ → LinesRead → Result History ℕ
at_end number read = if length read.told == 0 then Ok read.entries else Err (number - length read.told)

abbrev pub go_on : Option LinesRead → ℕ → (LinesRead → Result History ℕ) → Result History ℕ
go_on None number go = Err number
go_on (Some read) number go = go read

-- the entries of the lines from this number on, behind those that were read, or the number of the first bad line.
-- The last part stands behind the last line feed: it is a bad line where it has bytes
abbrev pub read_lines : ℕ → Side → ℕ → LinesRead → List (List ℕ) → Result History ℕ
read_lines n side number read [] = Err number
read_lines n side number read (rest ∷ []) = if length rest == 0 then at_end number read else Err number
read_lines n side number read (line ∷ next ∷ more) =
    go_on (with_line n side read (words_of line)) number (λ r. read_lines n side (number + 1) r (next ∷ more))

abbrev pub nothing_read : LinesRead
nothing_read = record { entries = []; told = [] }

abbrev pub with_entries : Side → Result History ℕ → Result ScriptState ℕ
with_entries side (Err number) = Err number
with_entries side (Ok entries) = Ok (record { side = side; entries = entries })

abbrev pub with_side : ℕ → Option Side → List (List ℕ) → Result ScriptState ℕ
with_side n None parts = Err 1
with_side n (Some side) parts = with_entries side (read_lines n side 2 nothing_read parts)

abbrev pub read_parts : ℕ → List (List ℕ) → Result ScriptState ℕ
read_parts n [] = Err 1
read_parts n (first ∷ []) = Err 1
read_parts n (first ∷ next ∷ more) = with_side n (side_of (words_of first)) (next ∷ more)

-- what a text stands for among n copies, or the number of its first bad line, from 1
abbrev pub script_of : ℕ → List ℕ → Result ScriptState ℕ
script_of n text = read_parts n (parts_of text)
