use Rattle.std.proofs.Common.{◌≡◌, ◌<◌, ◌≤◌, ◌+◌, refl, [], length, get_or, sym, ap, subst, ◌∙◌, arith}
use Rattle.std.specs.Prelude.{vec_len}
use Rattle.std.proofs.lemmas.List.{get_or_default, drop_more}
use Rattle.rd_base.specs.declared.source.Give.TheVariants.{Piece, Failed, NoMemory}
use Rattle.rd_base.specs.declared.mem_source.Answer.TheVariants as answer
use Rattle.rd_base.specs.MemSource.{IsPiece}
use Rattle.rd_base.specs.Outside.{Rose}
use Rattle.rd_base.proofs.MemWrites.{risen}
use Rattle.rd_base.proofs.Given.{keeps_log, tells_logged}
use Rattle.rd_base.proofs.mem_source.MemSourceSource.give.Goals as goal

pub invariant_of-self : goal.invariant_of-self
invariant_of-self c =
    keeps_log c.self.invariant c.if-call.false answer.Failed c.log_answer.new.log.items c.log_answer.new.ends c.log_answer.ensures.log c.log_answer.ensures.ends
    c.self.inside.next (vec_len c.remove-number.new.self) (vec_len c.log_answer.new.log) _ c.self.invariant.within
    (omega (arith, c.remove-number.ensures.len)) c.log_answer.ensures.len c.log_answer.ensures.room

pub returns-in-Some-clause-gives : goal.returns-in-Some-clause-gives
returns-in-Some-clause-gives c = record {
  piece = tt;
  given = tells_logged c.self.invariant c.if-call.false answer.Failed c.log_answer.new.log.items c.log_answer.new.ends c.log_answer.ensures.log c.log_answer.ensures.ends c.args.self.now.given (ap (λ s. s.given) c.self.view_is) Failed refl;
  failed = λ _. subst (λ n. Rose n c.saturating_add-self-inside.result) (ap (λ s. s.faults) c.self.view_is) (risen c.self.inside.faults c.saturating_add-self-inside.result c.saturating_add-self-inside.ensures);
  faults = subst (λ n. n ≤ c.saturating_add-self-inside.result) (ap (λ s. s.faults) c.self.view_is) (omega (arith, c.saturating_add-self-inside.ensures, c.self.ranges));
  mark = ap (λ s. s.mark) c.self.view_is;
}

pub invariant_of-self-in-Ok : goal.invariant_of-self-in-Ok
invariant_of-self-in-Ok c =
    let within = c.self.invariant.within in
    let not_last = c.if-place-len.false in
    let len = c.len.ensures in
    let items = c.self.inside.pieces.ok.0 in
    let lt : c.self.inside.next < length c.self.inside.pieces.items = omega arith in
    keeps_log c.self.invariant c.if-call.false (answer.Piece c.self.inside.next) c.log_answer-in-Ok.new.log.items c.log_answer-in-Ok.new.ends c.log_answer-in-Ok.ensures.log c.log_answer-in-Ok.ensures.ends
    (c.self.inside.next + 1) (vec_len c.self.inside.failing) (vec_len c.log_answer-in-Ok.new.log) _ (omega arith)
    (omega arith) c.log_answer-in-Ok.ensures.len c.log_answer-in-Ok.ensures.room

pub invariant_of-self-in-Err : goal.invariant_of-self-in-Err
invariant_of-self-in-Err c =
    let within = c.self.invariant.within in
    let not_last = c.if-place-len.false in
    let len = c.len.ensures in
    let items = c.self.inside.pieces.ok.0 in
    let lt : c.self.inside.next < length c.self.inside.pieces.items = omega arith in
    keeps_log c.self.invariant c.if-call.false answer.NoMemory c.log_answer-in-Err.new.log.items c.log_answer-in-Err.new.ends c.log_answer-in-Err.ensures.log c.log_answer-in-Err.ensures.ends
    (c.self.inside.next + 1) (vec_len c.self.inside.failing) (vec_len c.log_answer-in-Err.new.log) _ (omega arith)
    (omega arith) c.log_answer-in-Err.ensures.len c.log_answer-in-Err.ensures.room

pub returns-in-Ok-clause-gives : goal.returns-in-Ok-clause-gives
returns-in-Ok-clause-gives c =
    let within = c.self.invariant.within in
    let not_last = c.if-place-len.false in
    let len = c.len.ensures in
    let items = c.self.inside.pieces.ok.0 in
    let lt : c.self.inside.next < length c.self.inside.pieces.items = omega arith in
    let piece : c.in-Ok.bytes ≡ get_or c.self.inside.pieces.items c.self.inside.next [] = c.in-Ok.ensures ∙ c.as_slice.ensures ∙ c.index.ensures ∙ get_or_default c.self.inside.pieces.items c.self.inside.next c.index.result.now [] lt in
    let is : IsPiece c.in-Ok.bytes = subst IsPiece (sym piece) (c.self.invariant.pieces_are c.self.inside.next [] lt) in
    let most = c.requires in
    record {
      piece = (is.0, omega (arith, is.1));
      given = tells_logged c.self.invariant c.if-call.false (answer.Piece c.self.inside.next) c.log_answer-in-Ok.new.log.items c.log_answer-in-Ok.new.ends c.log_answer-in-Ok.ensures.log c.log_answer-in-Ok.ensures.ends c.args.self.now.given (ap (λ s. s.given) c.self.view_is) (Piece c.in-Ok.bytes) (ap Piece (sym piece));
      failed = λ e. absurd (cc e);
      faults = omega (arith, ap (λ s. s.faults) c.self.view_is);
      mark = ap (λ s. s.mark) c.self.view_is;
    }

pub returns-in-Err-clause-gives : goal.returns-in-Err-clause-gives
returns-in-Err-clause-gives c = record {
  piece = tt;
  given = tells_logged c.self.invariant c.if-call.false answer.NoMemory c.log_answer-in-Err.new.log.items c.log_answer-in-Err.new.ends c.log_answer-in-Err.ensures.log c.log_answer-in-Err.ensures.ends c.args.self.now.given (ap (λ s. s.given) c.self.view_is) NoMemory refl;
  failed = λ e. absurd (cc e);
  faults = omega (arith, ap (λ s. s.faults) c.self.view_is);
  mark = ap (λ s. s.mark) c.self.view_is;
}

pub returns-in-Err-clause-contents : goal.returns-in-Err-clause-contents
returns-in-Err-clause-contents c =
    let within = c.self.invariant.within in
    let not_last = c.if-place-len.false in
    let len = c.len.ensures in
    let items = c.self.inside.pieces.ok.0 in
    let lt : c.self.inside.next < length c.self.inside.pieces.items = omega arith in
    (get_or c.self.inside.pieces.items c.self.inside.next [], ap (λ s. s.left) (sym c.self.view_is) ∙ drop_more c.self.inside.pieces.items c.self.inside.next [] lt)
