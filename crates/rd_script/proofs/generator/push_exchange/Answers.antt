use Rattle.std.proofs.Common.{◌+◌, ◌%◌, ◌++◌, ap, ◌∙◌, arith}
use Rattle.rd_script.specs.Generator.{piece, request_line, reply_pieces}
use Rattle.rd_script.specs.Seen.{entries_in}
use Rattle.rd_script.proofs.Generated.{more_replies}
use Rattle.rd_script.proofs.generator.push_exchange.Goals as goal

pub loop-place-preserved : goal.loop-place-preserved
loop-place-preserved c = record {
  made = more_replies (entries_in c.args.steps.now.items) (entries_in c.loop-place.steps.items) (entries_in c.push_reply.new.steps.items) (piece c.args.copies (request_line c.args.exchange c.args.before)) (λ i. reply_pieces c.args.exchange c.args.drawn ((c.args.exchange + i) % c.args.copies)) c.loop-place.place c.loop-place.invariant.made (c.in_ok-push_reply.ensures.ok ∙ ap (λ k. entries_in c.loop-place.steps.items ++ reply_pieces c.args.exchange c.args.drawn k) c.copy_at.ensures);
  few = omega (arith, c.loop-place.invariant.few, c.in_ok-push_reply.ensures.few);
}
