use Rattle.std.proofs.Common.{◌≡◌, ◌≤◌, ◌+◌, ◌*◌, ◌%◌, ◌++◌, ◌∷◌, length}
use Rattle.std.specs.List.{flat_map}
use Rattle.rd_base.specs.Words.{below}
use Rattle.rd_script.specs.Generator.{piece, request_line, reply_pieces}
use Rattle.rd_script.specs.Seen.{entries_in}
use Rattle.rd_script.proofs.generator.push_exchange.Given as goal

abbrev pub invariant-loop-place : goal.invariant-loop-place
invariant-loop-place l = record {
  made : entries_in l.steps.items ≡ entries_in l.fn.steps.items ++ piece l.copies (request_line l.exchange l.before) ∷ flat_map (λ i. reply_pieces l.exchange l.drawn ((l.exchange + i) % l.copies)) (below l.place);
  few : length l.steps.items ≤ length l.fn.steps.items + 1 + 2 * l.place;
}
