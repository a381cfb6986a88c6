use Rattle.std.proofs.Common.{length, sym, ap, ◌∙◌}
use Rattle.rd_shared_book.proofs.Telling.{found_holds, learned-found}
use Rattle.rd_shared_book.proofs.known.Known.found.Goals as goal

pub invariant_of-self : goal.invariant_of-self
invariant_of-self g c =
    let k = c.self.inside in
    let word = c.args.word.now in
    let answer = c.args.answer.now in
    rw c.found.ensures (
      found_holds g.J.Naming.seats k.number k.learns k.calls word answer c.self.invariant.0,
      c.self.invariant.1 ∙ ap length (sym (learned-found k.calls word answer)),
    )
