use Rattle.std.proofs.Common.{sym, ◌∙◌, ap}
use Rattle.rd_base.specs.declared.source.Give.TheVariants as give
use Rattle.rd_operator.specs.Hearing.{is_part}
use Rattle.rd_operator.proofs.Heard.{appended, piece_on, stops_whole, stops_ended, stops_failed, starves}
use Rattle.rd_operator.proofs.hearing.hear.Goals as goal

pub returns-then-is_err : goal.returns-then-is_err
returns-then-is_err g c = starves c.pieces.bytes (give.Piece c.in-Piece.piece) c.pieces.invariant c.in-Piece.ensures

pub returns-then-not-is_part : goal.returns-then-not-is_part
returns-then-not-is_part g c =
    stops_whole c.pieces.bytes c.in-Piece.piece c.push_slice.new.self c.pieces.invariant c.in-Piece.ensures
    (appended c.push_slice.result _ _ _ _ c.push_slice.ensures.ok (sym c.is_err.ensures.value ∙ c.if-is_err.false) c.as_slice.ensures)
    (ap is_part (sym c.as_slice-in-Piece.ensures) ∙ sym c.is_part.ensures ∙ c.if-not-is_part.true)

pub pieces-preserved : goal.pieces-preserved
pieces-preserved g c =
    piece_on c.pieces.bytes c.in-Piece.piece c.push_slice.new.self c.pieces.invariant c.in-Piece.ensures
    (appended c.push_slice.result _ _ _ _ c.push_slice.ensures.ok (sym c.is_err.ensures.value ∙ c.if-is_err.false) c.as_slice.ensures)
    (ap is_part (sym c.as_slice-in-Piece.ensures) ∙ sym c.is_part.ensures ∙ c.if-not-is_part.false)

pub returns-in-End : goal.returns-in-End
returns-in-End g c = rw c.ended_with.ensures (stops_ended c.pieces.bytes c.pieces.invariant c.in-End.ensures)

pub returns-in-Failed : goal.returns-in-Failed
returns-in-Failed g c = stops_failed c.pieces.bytes c.pieces.invariant c.in-Failed.ensures

pub returns-in-NoMemory : goal.returns-in-NoMemory
returns-in-NoMemory g c = starves c.pieces.bytes give.NoMemory c.pieces.invariant c.in-NoMemory.ensures
