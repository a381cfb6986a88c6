-- Which messages a unit is made of, by their letters.
-- PostgreSQL manual, Frontend/Backend Protocol.
use Rattle.std.specs.Prelude.{ℕ, List, [], ◌∷◌, codes}
use Rattle.rd_base.specs.declared.values.Side.{Side}
use Rattle.rd_base.specs.declared.values.Side.TheVariants.{Incoming, Outgoing}
use Rattle.rd_pg_frame.specs.declared.place.Place.{Place}
use Rattle.rd_pg_frame.specs.declared.place.Place.TheVariants.{Password, Ready, StartupReply, PasswordReply, QueryReply}

-- a letter that stands in none of these lists may not stand in the unit
pub record Letters : Type 0 where
  pub alone : List ℕ  -- each is a whole unit
  pub inner : List ℕ  -- any number of these, and behind them one of `last`
  pub last : List ℕ
  pub authentication : List ℕ  -- inner or last, by the code with which the content begins
  pub inner_codes : List ℕ
  pub last_codes : List ℕ
  pub status : List ℕ  -- last, and the content is one transaction status
  pub unsupported : List ℕ  -- refused by the letter's number

-- Message Flow, Start-up: PasswordMessage. Termination: Terminate
abbrev pub password : Letters
password =
    record {
      alone = codes "pX";
      inner = [];
      last = [];
      authentication = [];
      inner_codes = [];
      last_codes = [];
      status = [];
      unsupported = codes "FHdcf";
    }

-- Message Flow, Simple Query: Query. Extended Query: Parse, Bind, Describe, Execute, Close, up to Sync.
-- Termination: Terminate. Refused are FunctionCall, Flush, CopyData, CopyDone, CopyFail
abbrev pub ready : Letters
ready =
    record {
      alone = codes "QX";
      inner = codes "PBDEC";
      last = codes "S";
      authentication = [];
      inner_codes = [];
      last_codes = [];
      status = [];
      unsupported = codes "FHdcf";
    }

-- NotificationResponse, CopyInResponse, CopyOutResponse, FunctionCallResponse, CopyBothResponse,
-- CopyDone, CopyData, NegotiateProtocolVersion
abbrev pub refused_answers : List ℕ
refused_answers = codes "AGHVWcdv"

-- Message Flow, Start-up: BackendKeyData, ParameterStatus, NoticeResponse, up to ReadyForQuery or ErrorResponse,
-- or up to an Authentication message that asks for the password.
-- AuthenticationOk goes on. These codes ask
abbrev pub logging_in : List ℕ → Letters
logging_in asking =
    record {
      alone = [];
      inner = codes "KSN";
      last = codes "E";
      authentication = codes "R";
      inner_codes = 0 ∷ [];
      last_codes = asking;
      status = codes "Z";
      unsupported = refused_answers;
    }

-- AuthenticationCleartextPassword, and towards a backend AuthenticationMD5Password too
abbrev pub asking_codes : Side → List ℕ
asking_codes Incoming = 3 ∷ []
asking_codes Outgoing = 3 ∷ 5 ∷ []

-- Message Flow, Simple Query and Extended Query: RowDescription, DataRow, CommandComplete, ErrorResponse,
-- NoticeResponse, EmptyQueryResponse, ParameterStatus, ParseComplete, BindComplete, CloseComplete, NoData,
-- PortalSuspended, ParameterDescription, up to ReadyForQuery
abbrev pub query_reply : Letters
query_reply =
    record {
      alone = [];
      inner = codes "TDCENIS123nst";
      last = [];
      authentication = [];
      inner_codes = [];
      last_codes = [];
      status = codes "Z";
      unsupported = refused_answers;
    }

abbrev pub letters_of : Place → Letters
letters_of Password = password
letters_of Ready = ready
letters_of (StartupReply side) = logging_in (asking_codes side)
letters_of PasswordReply = logging_in []
letters_of QueryReply = query_reply
