-- Requests and replies are cut in one way, and nothing is a request once a conversation is over.
use Rattle.std.proofs.Common.{◌≡◌, ◌≢◌, ℕ, true, eqb, ◌||◌, List, [], sym, subst}
use Rattle.std.proofs.lemmas.Bool.{eqb-true}
use Rattle.rd_base.specs.declared.values.Scan.TheVariants.{Whole}
use Rattle.rd_base.specs.declared.values.Phase.{Phase}
use Rattle.rd_base.specs.declared.values.Note.{Note}
use Rattle.rd_base.specs.declared.values.Side.{Side}
use Rattle.rd_pg_frame.specs.Letters.{password, ready, logging_in, asking_codes, query_reply}
use Rattle.rd_pg_frame.specs.Scanning.{scan_messages, scan_packet, packet_lengths, scan_answer, scan_nothing, scan_request, scan_reply}
use Rattle.rd_pg_frame.specs.Phases.{phase_over, phase_after}
use Rattle.rd_pg_frame.specs.Framing.{IsFraming, framing_cond}
use Rattle.rd_pg_frame.specs.MessageLaws.{messages_framing}
use Rattle.rd_pg_frame.specs.PacketLaws.{packet_framing, answer_framing, nothing_framing, nothing_whole}

pub request_framing : (phase : Phase) → IsFraming (scan_request phase)
request_framing phase =
    framing_cond (eqb phase.0 0) (scan_packet packet_lengths) _ (packet_framing packet_lengths)
    (framing_cond (eqb phase.0 1) (scan_messages password) _ (messages_framing password)
    (framing_cond (eqb phase.0 2) (scan_messages ready) scan_nothing (messages_framing ready) nothing_framing))

pub reply_framing : (side : Side) (note : Note) → IsFraming (scan_reply side note)
reply_framing side note =
    framing_cond (eqb note.0 1) (scan_answer 83) _ (answer_framing 83)
    (framing_cond (eqb note.0 2) (scan_answer 71) _ (answer_framing 71)
    (framing_cond (eqb note.0 3) (scan_messages (logging_in (asking_codes side))) _ (messages_framing (logging_in (asking_codes side)))
    (framing_cond (eqb note.0 4) (scan_messages (logging_in [])) _ (messages_framing (logging_in []))
    (framing_cond (eqb note.0 5 || eqb note.0 6) (scan_messages query_reply) scan_nothing (messages_framing query_reply) nothing_framing))))

-- nothing is a request once a conversation is over
pub over_never : (bytes : List ℕ) (len : ℕ) → scan_request phase_over bytes ≢ Whole len
over_never bytes len = nothing_whole bytes len

-- nothing follows the farewell
pub farewell_last : (note : Note) (bytes : List ℕ) (len : ℕ) → eqb note.0 7 ≡ true → scan_request (phase_after note []) bytes ≢ Whole len
farewell_last note bytes len is =
    let P : ℕ → Type 0 = λ n. scan_request (phase_after (record { 0 = n }) []) bytes ≢ Whole len in
    subst P (sym (eqb-true note.0 7 is)) (over_never bytes len)
