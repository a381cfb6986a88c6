-- What the calls of a framer say of the grammar.
use Rattle.std.proofs.Common.{◌≡◌, ℕ, ◌≤◌, Bool, List, length, sym, ap, ◌∙◌, arith}
use Rattle.std.specs.Prelude.{Ok}
use Rattle.rd_base.specs.History.{Row}
use Rattle.rd_base.specs.declared.names.NameRules.{NameRules}
use Rattle.rd_base.specs.declared.values.Scan.{Scan}
use Rattle.rd_base.specs.declared.values.Scan.TheVariants.{Whole, More, Bad, TooBig, Unsupported}
use Rattle.rd_base.specs.declared.values.Part.{Part}
use Rattle.rd_base.specs.declared.values.Part.TheVariants.{Reply}
use Rattle.rd_base.specs.declared.values.Phase.{Phase}
use Rattle.rd_base.specs.declared.values.Note.{Note}
use Rattle.rd_dialect.specs.Grammar.{whole_len, IsReply}
use Rattle.rd_dialect.specs.Grammar.{IsReply as of_reply}
use Rattle.rd_http_frame.specs.Units.{IsWholeReplyScan, IsShownFrom}
use Rattle.rd_http_frame.proofs.UnitCuts.{unit_within}
use Rattle.rd_http_frame.proofs.FinalOnce.{final_once}
use Rattle.rd_http_scan.specs.Scans.{unit_scan, final_head, final_head_is}
use Rattle.rd_http_tokens.specs.HttpGrammar.{http, is_head, shown_at}
use Rattle.rd_http_tokens.specs.HttpLawful.{scan_is}

pub len_within : (part : Part) (hr ended : Bool) (bytes : List ℕ) (scan : Scan) → scan ≡ unit_scan part hr ended bytes → whole_len scan ≤ length bytes
len_within part hr ended bytes (Whole len) e = unit_within part hr ended bytes len (scan_is part hr ended bytes (Whole len) (sym e))
len_within part hr ended bytes More e = omega arith
len_within part hr ended bytes Bad e = omega arith
len_within part hr ended bytes TooBig e = omega arith
len_within part hr ended bytes (Unsupported code) e = omega arith

pub reply_scanned : (names : NameRules) (learns : Bool) (asked : List ℕ → List (List ℕ)) (to_copy : ℕ → List Row → List ℕ → List ℕ) (phase : Phase) (note : Note) (reply : List ℕ) → IsReply (http names learns asked to_copy) phase note reply
    → (hr : Bool) × (ended : Bool) × IsWholeReplyScan hr ended reply (Whole (length reply))
reply_scanned names learns asked to_copy phase note reply (of_reply.Scanned ended e) = (is_head note, ended, scan_is Reply (is_head note) ended reply (Whole (length reply)) e)
reply_scanned names learns asked to_copy phase note reply (of_reply.Farewell e empty) = absurd (cc e)

pub shown_is : (reply : List ℕ) (at : ℕ) → IsShownFrom reply at → at ≡ shown_at (final_head Reply reply)
shown_is reply at x = x.2 ∙ ap shown_at (final_once Reply reply (Ok x.0) (final_head Reply reply) x.1 (final_head_is Reply reply))
