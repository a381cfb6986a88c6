use Rattle.std.proofs.Common.{◌≡◌, true, false, sym, ap, ◌∙◌}
use Rattle.rd_gate.specs.Gate.{pushed}
use Rattle.rd_gate.specs.Items.{is_piece, item_of}
use Rattle.rd_gate.proofs.Readers.{reading_more, reading_ends}
use Rattle.rd_gate.proofs.reader.reader_loop.Goals as goal

pub returns-then-not-more-clause-reads : goal.returns-then-not-more-clause-reads
returns-then-not-more-clause-reads g c =
    let none : is_piece (item_of c.give.result) ≡ false = sym (ap is_piece c.of-item.ensures) ∙ sym c.is_piece-more.ensures ∙ c.if-not-more.true in
    let rule : c.send.new.self.knows ≡ pushed c.loop-count.pass.knows (item_of c.give.result) = c.send.ensures.pushed ∙ ap (pushed c.loop-count.pass.knows) c.of-item.ensures in
    reading_ends (g.S.Source.tells c.args.source) (g.S.Source.tells c.loop-count.source) (g.S.Source.tells c.give.new.self)
    c.args.pass.knows c.loop-count.pass.knows c.send.new.self.knows c.loop-count._count c.give.result
    c.loop-count.invariant.reading c.give.ensures none rule

pub loop-count-preserved : goal.loop-count-preserved
loop-count-preserved g c =
    let piece : is_piece (item_of c.give.result) ≡ true = sym (ap is_piece c.of-item.ensures) ∙ sym c.is_piece-more.ensures ∙ c.if-not-more.false in
    let rule : c.send.new.self.knows ≡ pushed c.loop-count.pass.knows (item_of c.give.result) = c.send.ensures.pushed ∙ ap (pushed c.loop-count.pass.knows) c.of-item.ensures in
    record {
      gate = c.send.ensures.gate ∙ c.loop-count.invariant.gate;
      reading = reading_more (g.S.Source.tells c.args.source) (g.S.Source.tells c.loop-count.source) (g.S.Source.tells c.give.new.self)
          c.args.pass.knows c.loop-count.pass.knows c.send.new.self.knows c.loop-count._count c.give.result
          c.loop-count.invariant.reading c.give.ensures piece rule;
    }
