-- A message's content is read piece by piece: which bytes the next token has, and what is due behind them.
-- PostgreSQL manual, Frontend/Backend Protocol, Message Formats.
use Rattle.std.specs.Prelude.{ℕ, zero, suc, true, false, ◌+◌, ◌-◌, ◌*◌, ◌==◌, ◌&&◌, ◌||◌, nat_le, nat_lt, bytes_eq, Bool, if◌then◌else◌, List, [], length, take, drop, min, codes, slice_index, Option, Some, None}
use Rattle.std.specs.List.{position_or_len, prefix_len, list_any}
use Rattle.std.specs.Str.{str_eq_ignore_ascii_case}
use Rattle.rd_base.specs.WordCut.{is_word_byte}
use Rattle.rd_base.specs.declared.names.NameRules.{NameRules}
use Rattle.rd_pg_frame.specs.Messages.{be_u16_at, be_u32_at, is_among}
use Rattle.rd_pg_tokens.specs.declared.stage.Shown.{Shown}
use Rattle.rd_pg_tokens.specs.declared.stage.Shown.TheVariants.{AsSoft, AsFirm, Passed}
use Rattle.rd_pg_tokens.specs.declared.stage.Stage.{Stage}
use Rattle.rd_pg_tokens.specs.declared.stage.Stage.TheVariants.{Raw, AuthenticationCode, ParameterName, ParameterValue, Status, ColumnCount, ColumnName, ColumnPlace, ColumnType, ValueCount, Value, Tag, FieldCode, FieldText, Text, Words, StatementName, Portal, BoundStatement, Formats, Password, PacketCode, StartupName, StartupValue}
use Rattle.rd_pg_tokens.specs.declared.piece.Piece.{Piece}

-- ---- named values

abbrev pub is_named : List (List ℕ) → List ℕ → Bool
is_named names name = list_any (λ n. str_eq_ignore_ascii_case n name) names

-- how the value under a name counts
abbrev pub shown_under : NameRules → List ℕ → Shown
shown_under rules name = if is_named rules.free name then Passed else (if is_named rules.firm name then AsFirm else AsSoft)

-- the server's version may differ from one instance to another
abbrev pub shown_parameter : NameRules → List ℕ → Shown
shown_parameter rules name = if bytes_eq name (codes "server_version") then Passed else shown_under rules name

-- the bytes before the first zero byte, or all of them
abbrev pub text_len : List ℕ → ℕ
text_len bytes = position_or_len (λ b. b == 0) bytes

-- a text is there with its zero byte
abbrev pub has_text : List ℕ → Bool
has_text bytes = nat_lt (text_len bytes) (length bytes)

abbrev pub text_of : List ℕ → List ℕ
text_of bytes = take (text_len bytes) bytes

-- the columns that a row description has left: how many, and its bytes from the next one's name on
pub record Columns : Type 0 where
  pub left : ℕ
  pub names : List ℕ

abbrev pub no_columns : Columns
no_columns = record { left = 0; names = [] }

-- a row description's columns
abbrev pub described : List ℕ → Columns
described content = if nat_lt (length content) 2 then no_columns else record { left = be_u16_at content 0; names = drop 2 content }

-- a name, its zero byte, and 18 bytes
abbrev pub column_len : List ℕ → ℕ
column_len names = text_len names + 19

abbrev pub next_column : Columns → Columns
next_column columns =
    if columns.left == 0 then columns
    else record { left = columns.left - 1; names = drop (column_len columns.names) columns.names }

-- ---- what rows read of a row description
-- A value is read beside its column's name. Behind the last name that is under a rule no name says anything

abbrev pub is_soft : Shown → Bool
is_soft AsSoft = true
is_soft AsFirm = false
is_soft Passed = false

-- up to the last such name: this column's, where none stands behind it
abbrev pub up_to_named : Shown → ℕ → ℕ → ℕ
up_to_named shown len later = if later == 0 then (if is_soft shown then 0 else len + 1) else len + 19 + later

-- where the last such name of so many columns ends, its zero byte included
abbrev pub named_len : NameRules → ℕ → List ℕ → ℕ
named_len rules zero names = 0
named_len rules (suc count) names =
    if has_text names then up_to_named (shown_under rules (text_of names)) (text_len names) (named_len rules count (drop (column_len names) names)) else 0

-- the number of columns and their bytes up to there
abbrev pub read_len : NameRules → List ℕ → ℕ
read_len rules content = if nat_lt (length content) 2 then 0 else 2 + named_len rules (be_u16_at content 0) (drop 2 content)

-- how the value in the next column counts
abbrev pub shown_column : NameRules → Columns → Shown
shown_column rules columns =
    if nat_lt 0 columns.left && has_text columns.names then shown_under rules (text_of columns.names) else AsSoft

-- ---- pieces of several messages

-- blocks of 4,096 bytes, the last one shorter
abbrev pub raw_piece : List ℕ → Option Piece
raw_piece bytes =
    if length bytes == 0 then None
    else Some (record { shown = AsFirm; start = 0; end = min 4096 (length bytes); size = min 4096 (length bytes); next = Raw })

-- so many bytes
abbrev pub number_piece : ℕ → Shown → Stage → List ℕ → Option Piece
number_piece n shown next bytes =
    if nat_lt (length bytes) n then raw_piece bytes
    else Some (record { shown = shown; start = 0; end = n; size = n; next = next })

-- a text, whose zero byte is passed
abbrev pub text_piece : Shown → Stage → List ℕ → Option Piece
text_piece shown next bytes =
    if has_text bytes then Some (record { shown = shown; start = 0; end = text_len bytes; size = text_len bytes + 1; next = next })
    else raw_piece bytes

-- the first word or other byte of a text that has so many bytes left, or its zero byte
abbrev pub words_piece : ℕ → List ℕ → Option Piece
words_piece left bytes =
    if left == 0 || length bytes == 0 then number_piece 1 Passed Raw bytes
    else let n = prefix_len is_word_byte (take left bytes) in
    if n == 0 then Some (record { shown = AsFirm; start = 0; end = 1; size = 1; next = Words (left - 1) })
    else Some (record { shown = AsSoft; start = 0; end = n; size = n; next = Words (left - n) })

-- NULL gives its four length bytes
abbrev pub shown_null : Shown → Shown
shown_null AsSoft = AsFirm
shown_null AsFirm = AsFirm
shown_null Passed = Passed

-- a length and the value: -1 is NULL. Where the value runs past the end, its length is passed
abbrev pub value_piece : Shown → ℕ → List ℕ → Option Piece
value_piece shown left bytes =
    if nat_lt (length bytes) 4 then raw_piece bytes
    else let len = be_u32_at bytes 0 in
    if len == 4294967295 then Some (record { shown = shown_null shown; start = 0; end = 4; size = 4; next = Value left })
    else if nat_le 2147483648 len then raw_piece bytes
    else if nat_lt (length bytes) (4 + len) then Some (record { shown = Passed; start = 0; end = 0; size = 4; next = Raw })
    else Some (record { shown = shown; start = 4; end = 4 + len; size = 4 + len; next = Value left })

-- ---- ParameterStatus: the name, the value

abbrev pub parameter_piece : NameRules → List ℕ → Option Piece
parameter_piece rules bytes = text_piece AsFirm (ParameterValue (shown_parameter rules (text_of bytes))) bytes

-- ---- RowDescription: the number of columns; of each the name, the table and its column, the type, its size, its
-- modifier and the format

abbrev pub column_count_piece : List ℕ → Option Piece
column_count_piece bytes = number_piece 2 AsFirm (ColumnName (be_u16_at bytes 0)) bytes

abbrev pub column_name_piece : ℕ → List ℕ → Option Piece
column_name_piece left bytes = if left == 0 then raw_piece bytes else text_piece AsFirm (ColumnPlace left) bytes

-- ---- DataRow: the number of values, and the values

abbrev pub value_count_piece : List ℕ → Option Piece
value_count_piece bytes = number_piece 2 AsFirm (Value (be_u16_at bytes 0)) bytes

abbrev pub column_value_piece : NameRules → ℕ → Columns → List ℕ → Option Piece
column_value_piece rules left columns bytes =
    if left == 0 then raw_piece bytes else value_piece (shown_column rules columns) (left - 1) bytes

-- ---- ErrorResponse and NoticeResponse: fields of a code and a text, up to a zero byte.
-- Severity and the code are Firm, file, line and routine are passed

abbrev pub is_passed_field : ℕ → Bool
is_passed_field code = is_among (codes "FLR") code

abbrev pub shown_code : ℕ → Shown
shown_code code = if code == 0 || is_passed_field code then Passed else AsFirm

abbrev pub shown_field : ℕ → Shown
shown_field code = if is_passed_field code then Passed else if is_among (codes "SVC") code then AsFirm else AsSoft

abbrev pub behind_code : ℕ → Stage
behind_code code = if code == 0 then Raw else FieldText (shown_field code)

abbrev pub field_piece : List ℕ → Option Piece
field_piece bytes = number_piece 1 (shown_code (slice_index bytes 0)) (behind_code (slice_index bytes 0)) bytes

-- ---- Query: a text in words. Parse: the statement's name, the text in words

abbrev pub text_words_piece : List ℕ → Option Piece
text_words_piece bytes = if has_text bytes then words_piece (text_len bytes) bytes else raw_piece bytes

-- ---- Bind: the portal, the statement, the formats, the number of values, the values

abbrev pub formats_piece : List ℕ → Option Piece
formats_piece bytes =
    if nat_lt (length bytes) 2 then raw_piece bytes else number_piece (2 + 2 * be_u16_at bytes 0) AsFirm ValueCount bytes

-- ---- PasswordMessage: behind its length all bytes but a last zero byte

abbrev pub password_end : List ℕ → ℕ
password_end bytes = if nat_lt 4 (length bytes) && slice_index bytes (length bytes - 1) == 0 then length bytes - 1 else length bytes

abbrev pub password_piece : List ℕ → Option Piece
password_piece bytes =
    if nat_lt (length bytes) 4 then raw_piece bytes
    else Some (record { shown = AsSoft; start = 4; end = password_end bytes; size = length bytes; next = Raw })

-- ---- StartupMessage: the version; names and values by turns, up to an empty name

abbrev pub startup_name_piece : List ℕ → Option Piece
startup_name_piece bytes = text_piece AsFirm (if text_len bytes == 0 then Raw else StartupValue) bytes

-- ---- the piece that is due

abbrev pub piece_at : NameRules → Stage → Columns → List ℕ → Option Piece
piece_at rules Raw columns bytes = raw_piece bytes
piece_at rules AuthenticationCode columns bytes = number_piece 4 AsFirm Raw bytes
piece_at rules ParameterName columns bytes = parameter_piece rules bytes
piece_at rules (ParameterValue shown) columns bytes = text_piece shown Raw bytes
piece_at rules Status columns bytes = number_piece 1 AsFirm Raw bytes
piece_at rules ColumnCount columns bytes = column_count_piece bytes
piece_at rules (ColumnName left) columns bytes = column_name_piece left bytes
piece_at rules (ColumnPlace left) columns bytes = number_piece 6 Passed (ColumnType left) bytes
piece_at rules (ColumnType left) columns bytes = number_piece 12 AsFirm (ColumnName (left - 1)) bytes
piece_at rules ValueCount columns bytes = value_count_piece bytes
piece_at rules (Value left) columns bytes = column_value_piece rules left columns bytes
piece_at rules Tag columns bytes = text_piece AsFirm Raw bytes
piece_at rules FieldCode columns bytes = field_piece bytes
piece_at rules (FieldText shown) columns bytes = text_piece shown FieldCode bytes
piece_at rules Text columns bytes = text_words_piece bytes
piece_at rules (Words left) columns bytes = words_piece left bytes
piece_at rules StatementName columns bytes = text_piece AsFirm Text bytes
piece_at rules Portal columns bytes = text_piece AsFirm BoundStatement bytes
piece_at rules BoundStatement columns bytes = text_piece AsFirm Formats bytes
piece_at rules Formats columns bytes = formats_piece bytes
piece_at rules Password columns bytes = password_piece bytes
piece_at rules PacketCode columns bytes = number_piece 4 AsFirm StartupName bytes
piece_at rules StartupName columns bytes = startup_name_piece bytes
piece_at rules StartupValue columns bytes = text_piece AsSoft StartupName bytes

-- a value takes a column along
abbrev pub columns_behind : Stage → Columns → Columns
columns_behind (Value left) columns = next_column columns
columns_behind stage columns = columns
