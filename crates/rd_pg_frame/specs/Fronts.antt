-- What is told of a message as its bytes come: its letter is judged first, then its length, then what its
-- content begins with.
-- PostgreSQL manual, Frontend/Backend Protocol, Message Formats.
use Rattle.std.specs.Prelude.{ℕ, ◌+◌, ◌==◌, ◌&&◌, nat_le, nat_lt, Bool, true, false, if◌then◌else◌, List, [], ◌∷◌, length, take, drop, Result, Ok, Err, codes}
use Rattle.rd_base.specs.Scans.{and_then}
use Rattle.rd_base.specs.declared.values.Scan.{Scan}
use Rattle.rd_base.specs.declared.values.Scan.TheVariants.{More, Bad, Unsupported}
use Rattle.rd_pg_frame.specs.declared.role.Role.{Role}
use Rattle.rd_pg_frame.specs.declared.role.Role.TheVariants.{Inner, Last, Authentication, Status}
use Rattle.rd_pg_frame.specs.declared.front.Front.{Front}
use Rattle.rd_pg_frame.specs.Letters.{Letters}
use Rattle.rd_pg_frame.specs.Messages.{be_u32, is_length, is_among}

-- what a message of this letter is to its unit
abbrev pub role_of : Letters → Bool → ℕ → Result Role Scan
role_of letters is_first letter =
    if is_first && is_among letters.alone letter then Ok Last
    else if is_among letters.inner letter then Ok Inner
    else if is_among letters.last letter then Ok Last
    else if is_among letters.authentication letter then Ok Authentication
    else if is_among letters.status letter then Ok Status
    else if is_among letters.unsupported letter then Err (Unsupported letter)
    else Err Bad

-- AuthenticationOk, AuthenticationCleartextPassword and their like: whether this code ends the unit
abbrev pub code_ends : Letters → ℕ → Result Bool Scan
code_ends letters code =
    if is_among letters.inner_codes code then Ok false
    else if is_among letters.last_codes code then Ok true
    else Err (Unsupported code)

-- ReadyForQuery: `I` is idle, `T` in a transaction block, `E` in a failed one
abbrev pub status_ends : List ℕ → Result Bool Scan
status_ends [] = Err More
status_ends (status ∷ rest) = if is_among (codes "ITE") status then Ok true else Err Bad

-- whether a message ends its unit, by its length and as much of its content as is there
abbrev pub ends : Letters → Role → ℕ → List ℕ → Result Bool Scan
ends letters Inner len content = Ok false
ends letters Last len content = Ok true
ends letters Authentication len content =
    if nat_lt len 8 then Err Bad
    else if nat_lt (length content) 4 then Err More
    else code_ends letters (be_u32 (take 4 content))
ends letters Status len content = if len == 5 then status_ends content else Err Bad

-- a message that is not refused is whole where its last byte is there
abbrev pub if_there : ℕ → List ℕ → Bool → Result Front Scan
if_there len rest is_last =
    if nat_le len (length rest) then Ok (record { size = len + 1; is_last = is_last }) else Err More

abbrev pub measured : Letters → Role → ℕ → List ℕ → Result Front Scan
measured letters role len rest =
    if is_length len then and_then (ends letters role len (drop 4 rest)) (if_there len rest) else Err Bad

abbrev pub sized : Letters → List ℕ → Role → Result Front Scan
sized letters rest role =
    if nat_lt (length rest) 4 then Err More else measured letters role (be_u32 (take 4 rest)) rest

-- the message at the front of these bytes, or what they scan as without a whole one
abbrev pub front_of : Letters → Bool → List ℕ → Result Front Scan
front_of letters is_first [] = Err More
front_of letters is_first (letter ∷ rest) = and_then (role_of letters is_first letter) (sized letters rest)
