use Rattle.std.proofs.Common.{◌∙◌, ap, map, take, ◌-◌, ◌^◌, arith}
use Rattle.rd_reading.proofs.Cutting.{early_is}
use Rattle.rd_reading.proofs.judging.fault_of.Goals as goal

pub returns : goal.returns
returns c = λ heards lists_is shortest_is.
    c.blamed.ensures
    ∙ early_is c.args.most c.args.exchange (2 ^ 64 - 1) c.args.early.shortest c.longest.result heards c.args.early.copies c.cut_to.new.self c.judge.result
    lists_is shortest_is c.longest.ensures (omega arith) (omega arith) (c.cut_to.ensures ∙ ap (λ k. map (take k) c.args.early.copies) c.min-judged.ensures) c.judge.ensures
