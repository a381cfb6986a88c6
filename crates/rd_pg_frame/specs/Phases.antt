-- The note of a request, and the phase after a reply.
-- PostgreSQL manual, Frontend/Backend Protocol, Message Flow.
use Rattle.std.specs.Prelude.{ℕ, zero, suc, ◌==◌, ◌||◌, if◌then◌else◌, List, length, drop, Option, Some, None, slice_index}
use Rattle.rd_base.specs.declared.values.Phase.{Phase}
use Rattle.rd_base.specs.declared.values.Note.{Note}
use Rattle.rd_pg_frame.specs.declared.message.Message.{Message}
use Rattle.rd_pg_frame.specs.Messages.{be_u32_at, message_at}

abbrev pub phase_open : Phase
phase_open = record { 0 = 0 }

abbrev pub phase_password : Phase
phase_password = record { 0 = 1 }

abbrev pub phase_ready : Phase
phase_ready = record { 0 = 2 }

abbrev pub phase_over : Phase
phase_over = record { 0 = 3 }

abbrev pub note_ssl : Note
note_ssl = record { 0 = 1 }

abbrev pub note_gss : Note
note_gss = record { 0 = 2 }

abbrev pub note_startup : Note
note_startup = record { 0 = 3 }

abbrev pub note_password : Note
note_password = record { 0 = 4 }

abbrev pub note_query : Note
note_query = record { 0 = 5 }

abbrev pub note_extended : Note
note_extended = record { 0 = 6 }

abbrev pub note_farewell : Note
note_farewell = record { 0 = 7 }

-- by the code: SSLRequest, GSSENCRequest, else a startup
abbrev pub open_note : ℕ → Note
open_note code = if code == 80877103 then note_ssl else if code == 80877104 then note_gss else note_startup

-- `X`, else `p`
abbrev pub password_note : ℕ → Note
password_note letter = if letter == 88 then note_farewell else note_password

-- `X`, `Q`, else an extended query
abbrev pub ready_note : ℕ → Note
ready_note letter = if letter == 88 then note_farewell else if letter == 81 then note_query else note_extended

abbrev pub note_of : Phase → List ℕ → Note
note_of phase unit =
    if phase.0 == 0 then open_note (be_u32_at unit 4)
    else if phase.0 == 1 then password_note (slice_index unit 0)
    else ready_note (slice_index unit 0)

abbrev pub letter_behind : Option Message → ℕ → (Message → ℕ) → ℕ
letter_behind None letter rest = letter
letter_behind (Some m) letter rest = rest m

-- the letter of the last of the messages that stand one behind another, of at most so many
abbrev pub last_letter_up_to : ℕ → ℕ → List ℕ → ℕ
last_letter_up_to zero letter bytes = letter
last_letter_up_to (suc count) letter bytes =
    letter_behind (message_at bytes 0) letter (λ m. last_letter_up_to count m.letter (drop m.to bytes))

abbrev pub last_letter : List ℕ → ℕ
last_letter bytes = last_letter_up_to (length bytes) 0 bytes

-- after ReadyForQuery, an Authentication message that asks for the password, ErrorResponse
abbrev pub login_phase : ℕ → Phase
login_phase letter = if letter == 90 then phase_ready else if letter == 82 then phase_password else phase_over

abbrev pub phase_after : Note → List ℕ → Phase
phase_after note reply =
    if note.0 == 1 || note.0 == 2 then phase_open
    else if note.0 == 3 || note.0 == 4 then login_phase (last_letter reply)
    else if note.0 == 5 || note.0 == 6 then phase_ready
    else phase_over
