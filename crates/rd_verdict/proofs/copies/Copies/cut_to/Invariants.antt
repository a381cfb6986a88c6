use Rattle.std.proofs.Common.{◌≡◌, ◌++◌, map, take, drop}
use Rattle.rd_verdict.proofs.copies.Copies.cut_to.Given as goal

abbrev pub invariant-loop-tokens : goal.invariant-loop-tokens
invariant-loop-tokens l =
    l.tokens-items ≡ map (take l.count) (take l.tokens-index l.initial.tokens-items) ++ drop l.tokens-index l.initial.tokens-items
