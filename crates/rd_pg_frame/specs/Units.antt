-- What is a unit: for each phase and each note, lists of messages.
-- PostgreSQL manual, Frontend/Backend Protocol: Message Flow, and Message Formats.
use Rattle.std.specs.Prelude.{◌≡◌, ℕ, ◌+◌, ◌≤◌, ◌⊎◌, true, List, [], ◌∷◌, ◌++◌, length, take, codes}
use Rattle.rd_base.specs.declared.values.Scan.{Scan}
use Rattle.rd_base.specs.declared.values.Scan.TheVariants.{Whole}
use Rattle.rd_base.specs.declared.values.Phase.{Phase}
use Rattle.rd_base.specs.declared.values.Note.{Note}
use Rattle.rd_base.specs.declared.values.Side.{Side}
use Rattle.rd_pg_frame.specs.Letters.{asking_codes}
use Rattle.rd_pg_frame.specs.Messages.{be_u32, is_among, IsMessage}
use Rattle.rd_pg_frame.specs.Phases.{phase_open, phase_password, phase_ready, phase_over, note_ssl, note_gss, note_startup, note_password, note_query, note_extended, note_farewell}

-- one packet without a letter: its length, which counts all of it, its code, the rest
pub record IsPacket (code : ℕ) (rest bytes : List ℕ) : Type 0 where
  pub size : List ℕ
  pub four : length size ≡ 4
  pub named : List ℕ
  pub four_more : length named ≡ 4
  pub counts : be_u32 size ≡ 8 + length rest
  pub code_is : be_u32 named ≡ code
  pub is : size ++ (named ++ rest) ≡ bytes

-- one message of one of these letters
pub record IsOneOf (letters bytes : List ℕ) : Type 0 where
  pub letter : ℕ
  pub among : is_among letters letter ≡ true
  pub content : List ℕ
  pub message : IsMessage letter content bytes

-- one Authentication message, by its letter, with one of these codes
pub record IsAuthentication (letters asked bytes : List ℕ) : Type 0 where
  pub letter : ℕ
  pub among : is_among letters letter ≡ true
  pub named : List ℕ
  pub four : length named ≡ 4
  pub code_among : is_among asked (be_u32 named) ≡ true
  pub rest : List ℕ
  pub message : IsMessage letter (named ++ rest) bytes

-- one message whose content is one transaction status: idle, in a block, in a failed block
pub record HasStatus (letters bytes : List ℕ) : Type 0 where
  pub letter : ℕ
  pub among : is_among letters letter ≡ true
  pub status : ℕ
  pub status_among : is_among (codes "ITE") status ≡ true
  pub message : IsMessage letter (status ∷ []) bytes

-- any number of messages of one kind, one behind another, and one of another kind behind them
pub data IsSequence (Inner Last : List ℕ → Type 0) : List ℕ → Type 0 where
  Ends : (bytes : List ℕ) → Last bytes → IsSequence Inner Last bytes
  Goes : (front rest : List ℕ) → Inner front → IsSequence Inner Last rest → IsSequence Inner Last (front ++ rest)

-- a request in a phase, with its note
pub data IsRequest : Phase → Note → List ℕ → Type 0 where
  -- SSL Session Encryption: SSLRequest
  SslRequest : (bytes : List ℕ) → IsPacket 80877103 [] bytes → IsRequest phase_open note_ssl bytes
  -- GSSAPI Session Encryption: GSSENCRequest
  GssRequest : (bytes : List ℕ) → IsPacket 80877104 [] bytes → IsRequest phase_open note_gss bytes
  -- Start-up: StartupMessage of version 3.0, with some parameters
  Startup : (rest bytes : List ℕ) → 9 ≤ 8 + length rest → 8 + length rest ≤ 10000 → IsPacket 196608 rest bytes → IsRequest phase_open note_startup bytes
  -- Start-up: PasswordMessage
  Password : (bytes : List ℕ) → IsOneOf (codes "p") bytes → IsRequest phase_password note_password bytes
  -- Simple Query: Query
  Query : (bytes : List ℕ) → IsOneOf (codes "Q") bytes → IsRequest phase_ready note_query bytes
  -- Extended Query: Parse, Bind, Describe, Execute, Close, up to Sync
  Extended : (bytes : List ℕ) → IsSequence (IsOneOf (codes "PBDEC")) (IsOneOf (codes "S")) bytes → IsRequest phase_ready note_extended bytes
  -- Termination: Terminate
  PasswordFarewell : (bytes : List ℕ) → IsOneOf (codes "X") bytes → IsRequest phase_password note_farewell bytes
  Farewell : (bytes : List ℕ) → IsOneOf (codes "X") bytes → IsRequest phase_ready note_farewell bytes

-- Start-up: AuthenticationOk, BackendKeyData, ParameterStatus, NoticeResponse
abbrev pub IsLoginStep : List ℕ → Type 0
IsLoginStep bytes = IsOneOf (codes "KSN") bytes ⊎ IsAuthentication (codes "R") (0 ∷ []) bytes

-- ReadyForQuery
abbrev pub IsReady : List ℕ → Type 0
IsReady bytes = HasStatus (codes "Z") bytes

-- ErrorResponse
abbrev pub IsError : List ℕ → Type 0
IsError bytes = IsOneOf (codes "E") bytes

-- RowDescription, DataRow, CommandComplete, ErrorResponse, NoticeResponse, EmptyQueryResponse, ParameterStatus,
-- ParseComplete, BindComplete, CloseComplete, NoData, PortalSuspended, ParameterDescription
abbrev pub IsAnswer : List ℕ → Type 0
IsAnswer bytes = IsOneOf (codes "TDCENIS123nst") bytes

-- a reply to a request with a note, and the phase after it
pub data IsReply (side : Side) : Note → Phase → List ℕ → Type 0 where
  -- SSL Session Encryption and GSSAPI Session Encryption: `N` refuses it
  NoSsl : IsReply side note_ssl phase_open (codes "N")
  NoGss : IsReply side note_gss phase_open (codes "N")
  -- Start-up: logged in, refused, or asked for a password
  LoggedIn : (bytes : List ℕ) → IsSequence IsLoginStep IsReady bytes → IsReply side note_startup phase_ready bytes
  Refused : (bytes : List ℕ) → IsSequence IsLoginStep IsError bytes → IsReply side note_startup phase_over bytes
  Asked : (bytes : List ℕ) → IsSequence IsLoginStep (IsAuthentication (codes "R") (asking_codes side)) bytes → IsReply side note_startup phase_password bytes
  -- the same after the password
  Accepted : (bytes : List ℕ) → IsSequence IsLoginStep IsReady bytes → IsReply side note_password phase_ready bytes
  Denied : (bytes : List ℕ) → IsSequence IsLoginStep IsError bytes → IsReply side note_password phase_over bytes
  -- Simple Query and Extended Query: all that comes up to ReadyForQuery
  Answered : (bytes : List ℕ) → IsSequence IsAnswer IsReady bytes → IsReply side note_query phase_ready bytes
  Synced : (bytes : List ℕ) → IsSequence IsAnswer IsReady bytes → IsReply side note_extended phase_ready bytes

-- a scan finds units: it is whole exactly where the bytes begin with one, and has its length
pub record Finds (IsUnit : List ℕ → Type 0) (scan : List ℕ → Scan) : Type 0 where
  pub whole : (bytes : List ℕ) (len : ℕ) → scan bytes ≡ Whole len → IsUnit (take len bytes)
  pub found : (unit more : List ℕ) → IsUnit unit → scan (unit ++ more) ≡ Whole (length unit)

abbrev pub IsRequestIn : Phase → List ℕ → Type 0
IsRequestIn phase unit = (note : Note) × IsRequest phase note unit

abbrev pub IsReplyTo : Side → Note → List ℕ → Type 0
IsReplyTo side note unit = (phase : Phase) × IsReply side note phase unit
