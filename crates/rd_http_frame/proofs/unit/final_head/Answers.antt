use Rattle.std.specs.Result.{IsErrAnd}
use Rattle.rd_base.specs.declared.values.Scan.{Scan}
use Rattle.rd_base.specs.declared.values.Part.{Part}
use Rattle.rd_http_frame.specs.declared.unit.FinalHead.{FinalHead}
use Rattle.rd_http_frame.specs.Units.{IsFinalHead}
use Rattle.std.proofs.Common.{ℕ, List, Result, Ok, Err, ◌≡◌, subst, ◌∙◌, ap, sym, length, length-drop, arith}
use Rattle.std.proofs.lemmas.List.{take_rest}
use Rattle.rd_http_frame.proofs.FinalHeads.{walk_missing, walk_final, walk_interim}
use Rattle.rd_http_frame.proofs.unit.final_head.Goals as goal

err_found : (part : Part) (bytes : List ℕ) (found : Result FinalHead Scan) (scan : Scan) → IsErrAnd found (λ s. s ≡ scan) → IsFinalHead part bytes (Err scan) → IsFinalHead part bytes found
err_found part bytes (Ok head) scan e x = absurd e
err_found part bytes (Err s) scan e x = subst (λ (t : Scan). IsFinalHead part bytes (Err t)) (sym e) x

pub returns-in_err-head-clause-head : goal.returns-in_err-head-clause-head
returns-in_err-head-clause-head c =
    err_found c.args.part c.args.bytes.now c.from_residual.result c.in_err-head.field-0.0 c.from_residual.ensures.1
    (walk_missing c.args.part c.args.bytes.now c.loop-head.at _ c.in_err-head.field-0.0 (take_rest c.args.bytes.now c.loop-head.at) c.in_err-head.ensures.head c.loop-head.invariant.same)

pub returns-then-not-is_interim-clause-head : goal.returns-then-not-is_interim-clause-head
returns-then-not-is_interim-clause-head c =
    walk_final c.args.part c.args.bytes.now c.loop-head.at _ c.in_ok-head.head (take_rest c.args.bytes.now c.loop-head.at) c.in_ok-head.ensures.head
    (sym c.is_interim.ensures ∙ c.if-not-is_interim.true) c.loop-head.invariant.same

pub loop-head-preserved : goal.loop-head-preserved
loop-head-preserved c =
    let at = c.loop-head.at in
    let bytes = c.args.bytes.now in
    record {
      within = omega (arith, c.in_ok-head.ensures.within, ap length (take_rest bytes at), length-drop at bytes, c.loop-head.invariant.within);
      same = walk_interim c.args.part bytes at _ c.in_ok-head.head (take_rest bytes at) c.in_ok-head.ensures.head
          (sym c.is_interim.ensures ∙ c.if-not-is_interim.false) c.loop-head.invariant.same;
    }
