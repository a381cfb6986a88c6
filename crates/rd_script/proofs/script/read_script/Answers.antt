use Rattle.std.proofs.Common.{◌≡◌, ◌≤◌, ◌^◌, ◌-◌, Err, true, length, sym, ap, subst, arith}
use Rattle.std.specs.Prelude.{min}
use Rattle.std.proofs.lemmas.List.{length-map}
use Rattle.std.proofs.lemmas.Result.{err_from_is_err_and}
use Rattle.rd_base.specs.History.{is_well_formed}
use Rattle.rd_script.specs.declared.script.ScriptRefusal.TheVariants.{BadLine}
use Rattle.rd_script.specs.Script.{ScriptState, parts_of}
use Rattle.rd_script.specs.Seen.{entries_in, entry_in}
use Rattle.rd_script.proofs.Lines.{bad_script}
use Rattle.rd_script.proofs.Kept.{well_formed, few}
use Rattle.rd_script.proofs.script.read_script.Goals as goal

pub returns-in_err-steps-clause-bad_line : goal.returns-in_err-steps-clause-bad_line
returns-in_err-steps-clause-bad_line c =
    let p = err_from_is_err_and c.from_residual.result c.from_residual.ensures.1 in
    λ number same. bad_script c.args.copies (λ line. number ≡ min line (2 ^ 32 - 1)) c.in-Some-read_side.side c.args.text.now c.in-Some.first.now c.in-Some.rest.now c.in-Some.ensures.cut c.in-Some-read_side.ensures (c.in_err-steps.ensures.bad_line number (let is : c.in_err-steps.field-0.0 ≡ BadLine number = cc in ap Err is))

pub returns-clause-well_formed : goal.returns-clause-well_formed
returns-clause-well_formed c =
    subst (λ (s : ScriptState). is_well_formed c.args.copies s.entries ≡ true) (sym c.new.ensures) (well_formed c.args.copies c.in-Some-read_side.side 2 (parts_of c.in-Some.rest.now) (entries_in c.in_ok-steps.steps.items) c.in_ok-steps.ensures.steps)

pub new-requires : goal.new-requires
new-requires c =
    let items = c.in_ok-steps.steps.items in
    let most : length (entries_in items) ≤ 1048576 = few c.args.copies c.in-Some-read_side.side 2 (parts_of c.in-Some.rest.now) (entries_in items) c.in_ok-steps.ensures.steps in
    let same = length-map items entry_in in
    omega arith
