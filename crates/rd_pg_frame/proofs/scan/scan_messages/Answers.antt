use Rattle.std.proofs.Common.{◌==◌, ◌∙◌, ap, sym, drop, length, length-drop, arith}
use Rattle.std.proofs.lemmas.List.{take_rest}
use Rattle.rd_base.specs.Scans.{behind}
use Rattle.rd_pg_frame.specs.Fronts.{front_of}
use Rattle.rd_pg_frame.specs.MessageLaws.{stopped_behind, messages_framing}
use Rattle.rd_pg_frame.proofs.Steps.{step_inner, step_stop}
use Rattle.rd_pg_frame.proofs.scan.scan_messages.Goals as goal

pub loop-front-preserved : goal.loop-front-preserved
loop-front-preserved g c =
    let at = c.loop-front.at in
    let bytes = c.args.bytes.now in
    let letters = g.T.LetterTable.letters c.args.table.now in
    record {
      within = omega (arith, c.in-Ok.ensures.within, ap length (take_rest bytes at), length-drop at bytes, c.loop-front.invariant.within);
      same = c.loop-front.invariant.same
          ∙ step_inner letters bytes at c.in-Ok.front (ap (front_of letters (at == 0)) (sym (take_rest bytes at)) ∙ sym c.in-Ok.ensures.front) c.if-front.false;
    }

pub returns-in-Err-clause-scan : goal.returns-in-Err-clause-scan
returns-in-Err-clause-scan g c =
    let at = c.loop-front.at in
    let bytes = c.args.bytes.now in
    let letters = g.T.LetterTable.letters c.args.table.now in
    let is = ap (front_of letters (at == 0)) (sym (take_rest bytes at)) ∙ sym c.front_of.ensures.front ∙ c.in-Err.is in
    sym (c.loop-front.invariant.same
    ∙ ap (behind at) (step_stop letters (at == 0) (drop at bytes) c.in-Err.scan is)
    ∙ stopped_behind at letters (at == 0) (drop at bytes) c.in-Err.scan is)

pub returns-in-Err-clause-within : goal.returns-in-Err-clause-within
returns-in-Err-clause-within g c =
    let letters = g.T.LetterTable.letters c.args.table.now in
    λ len is. (messages_framing letters).within c.args.bytes.now len (sym (returns-in-Err-clause-scan g c) ∙ is)
