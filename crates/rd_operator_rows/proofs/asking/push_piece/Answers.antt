use Rattle.std.proofs.Common.{List, ℕ, [], ◌∷◌, subst, sym, arith}
use Rattle.std.specs.Prelude.{All}
use Rattle.std.proofs.lemmas.List.Elements.{All-append, All-cons, All-nil}
use Rattle.rd_base.specs.MemSource.{IsPiece}
use Rattle.rd_operator_rows.proofs.asking.push_piece.Goals as goal

pub returns : goal.returns
returns c =
    let piece : IsPiece c.in_ok-piece.piece = subst (λ (t : List ℕ). IsPiece t) (sym c.in_ok-piece.ensures) (omega arith, omega arith) in
    rw c.in_ok-push.ensures.items (All-append IsPiece c.args.pieces.now.items (c.in_ok-piece.piece ∷ []) c.requires (All-cons IsPiece c.in_ok-piece.piece [] piece (All-nil IsPiece)))
