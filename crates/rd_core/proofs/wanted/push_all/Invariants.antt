use Rattle.std.proofs.Common.{◌≡◌, ◌≤◌, length, take}
use Rattle.std.specs.Prelude.{fold, filter, ◌&&◌}
use Rattle.rd_base.specs.Swap.{is_row_word}
use Rattle.rd_rules.specs.Wanted.{add_word, is_unknown}
use Rattle.rd_core.proofs.wanted.push_all.Given as goal

abbrev pub invariant-loop-place : goal.invariant-loop-place
invariant-loop-place l = record {
  words : l.words ≡ take 4096 (fold add_word l.fn.words (filter (λ w. is_row_word w && is_unknown l.own w) (take l.place l.asked)));
  most : length l.words ≤ 4096;
}
