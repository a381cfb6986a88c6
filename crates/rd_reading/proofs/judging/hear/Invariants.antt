use Rattle.std.proofs.Common.{◌≡◌, ◌++◌, ◌-◌, ◌^◌, drop, map, length}
use Rattle.rd_base.specs.Heard.{judged_of, lists_of}
use Rattle.rd_rules.specs.Early.{heard}
use Rattle.rd_reading.proofs.judging.hear.Given as goal

abbrev pub invariant-loop-one : goal.invariant-loop-one
invariant-loop-one g l =
    let said = heard (g.D.Dialect.grammar l.dialect) l.due in
    record {
      copies : l.copies ++ lists_of (map said (drop l.one-index l.opens)) ≡ lists_of (map said l.opens);
      shortest : judged_of l.shortest (map said (drop l.one-index l.opens)) ≡ judged_of (2 ^ 64 - 1) (map said l.opens);
      count : length l.copies ≡ l.one-index;
    }
