-- What bytes scan as, in each phase and for each note.
use Rattle.std.specs.Prelude.{ℕ, zero, suc, ◌==◌, ◌&&◌, ◌||◌, nat_le, nat_lt, Bool, true, false, if◌then◌else◌, List, [], ◌∷◌, length, take, drop, Result, Ok, Err, Option, Some, None}
use Rattle.rd_base.specs.Scans.{behind}
use Rattle.rd_base.specs.declared.values.Scan.{Scan}
use Rattle.rd_base.specs.declared.values.Scan.TheVariants.{Whole, More, Bad, Unsupported}
use Rattle.rd_base.specs.declared.values.Phase.{Phase}
use Rattle.rd_base.specs.declared.values.Note.{Note}
use Rattle.rd_base.specs.declared.values.Side.{Side}
use Rattle.rd_pg_frame.specs.declared.front.Front.{Front}
use Rattle.rd_pg_frame.specs.Letters.{Letters, password, ready, logging_in, asking_codes, query_reply}
use Rattle.rd_pg_frame.specs.Fronts.{front_of}
use Rattle.rd_pg_frame.specs.Messages.{be_u32}

abbrev pub go_on : Result Front Scan → (ℕ → Scan) → Scan
go_on (Ok front) rest = if front.is_last then Whole front.size else behind front.size (rest front.size)
go_on (Err scan) rest = scan

-- messages up to the first that ends their unit, of at most so many
abbrev pub scan_up_to : ℕ → Letters → Bool → List ℕ → Scan
scan_up_to zero letters is_first bytes = More
scan_up_to (suc count) letters is_first bytes =
    go_on (front_of letters is_first bytes) (λ size. scan_up_to count letters false (drop size bytes))

-- a message has five bytes or more
abbrev pub scan_messages : Letters → List ℕ → Scan
scan_messages letters bytes = scan_up_to (length bytes) letters true bytes

-- a packet without a letter: how long one with this code may be, with the length and the code counted.
-- Message Formats: SSLRequest, GSSENCRequest, StartupMessage of protocol 3.0
abbrev pub packet_lengths : ℕ → Option (ℕ × ℕ)
packet_lengths code =
    if code == 80877103 || code == 80877104 then Some (8, 8)
    else if code == 196608 then Some (9, 10000)
    else None

abbrev pub fitting : ℕ → Option (ℕ × ℕ) → ℕ → List ℕ → Scan
fitting code None len bytes = Unsupported code
fitting code (Some range) len bytes =
    if nat_le range.0 len && nat_le len range.1
    then (if nat_le len (length bytes) then Whole len else More)
    else Bad

-- the length is judged first, then the code, then the length beside the code
abbrev pub scan_packet : (ℕ → Option (ℕ × ℕ)) → List ℕ → Scan
scan_packet lengths bytes =
    if nat_lt (length bytes) 4 then More
    else let len = be_u32 (take 4 bytes) in
    if nat_le 8 len && nat_le len 10000
    then (if nat_lt (length bytes) 8 then More
    else let code = be_u32 (take 4 (drop 4 bytes)) in fitting code (lengths code) len bytes)
    else Bad

-- the answer to a request for encryption: `N` refuses it, and this letter would grant it.
-- Message Flow, SSL Session Encryption and GSSAPI Session Encryption
abbrev pub scan_answer : ℕ → List ℕ → Scan
scan_answer granting [] = More
scan_answer granting (answer ∷ rest) =
    if answer == 78 then Whole 1 else if answer == granting then Unsupported granting else Bad

-- where nothing may come
abbrev pub scan_nothing : List ℕ → Scan
scan_nothing [] = More
scan_nothing (b ∷ bytes) = Bad

-- phase 0 is Open, 1 Password, 2 Ready, 3 Over
abbrev pub scan_request : Phase → List ℕ → Scan
scan_request phase bytes =
    if phase.0 == 0 then scan_packet packet_lengths bytes
    else if phase.0 == 1 then scan_messages password bytes
    else if phase.0 == 2 then scan_messages ready bytes
    else scan_nothing bytes

-- the note is 1 after SSLRequest, 2 after GSSENCRequest, 3 after a startup, 4 after a password,
-- 5 after a simple query, 6 after an extended one, 7 after the farewell
abbrev pub scan_reply : Side → Note → List ℕ → Scan
scan_reply side note bytes =
    if note.0 == 1 then scan_answer 83 bytes
    else if note.0 == 2 then scan_answer 71 bytes
    else if note.0 == 3 then scan_messages (logging_in (asking_codes side)) bytes
    else if note.0 == 4 then scan_messages (logging_in []) bytes
    else if note.0 == 5 || note.0 == 6 then scan_messages query_reply bytes
    else scan_nothing bytes
