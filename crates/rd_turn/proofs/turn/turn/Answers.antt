use Rattle.std.proofs.Common.{◌≡◌, ◌-◌, ℕ, List, [], map, None, Some, refl, sym, ap, ◌∙◌, subst}
use Rattle.rd_base.specs.History.{History}
use Rattle.rd_base.specs.Outside.{SinkTold}
use Rattle.rd_rules.specs.Exchange.{Rules}
use Rattle.rd_core.specs.Standing.{IsAt}
use Rattle.rd_turn.specs.Turns.{Turn, IsAmong, rules_by}
use Rattle.rd_turn.specs.Acts.{Acts, Stays}
use Rattle.rd_turn.proofs.Asked.{calls_none}
use Rattle.rd_turn.proofs.Turning.{went, stayed, gave_up, wanted_memory, outside_is}
use Rattle.rd_turn.proofs.turn.turn.Goals as goal

pub returns-in-Quiet-clause-turn : goal.returns-in-Quiet-clause-turn
returns-in-Quiet-clause-turn g c =
    let r : Rules = rules_by g.D.Dialect.grammar c.args.session.now in
    let sinks : List SinkTold = map g.K.Sink.tells c.args.sinks.now.items in
    let book = g.B.TokenBook.tells c.args.book.now in
    let x = c.in-Quiet.ensures.hears in
    let t : Turn = record { answer = x.answer; did = x.did; found = []; learnt = []; failed = None } in (
      t,
      outside_is c.args.base c.due_at-due.result c.args.gate.now.knows c.hear.new.gate.knows
          (g.C.Clock.tells c.args.clock.now) (g.C.Clock.tells c.hear.new.clock) (g.Q.Stopper.tells c.args.stop.now) (g.Q.Stopper.tells c.hear.new.stop)
          book book _ x [] [] None (sym (calls_none book)),
      (
        stayed r c.args.base x.answer x.did (IsAt r c.args.session.now) c.args.journal.now.entries.list c.args.journal.now.told sinks c.due_at-due.result x.is x.looks c.due_at-due.ensures.due
            (λ (h : History) (at : IsAt r c.args.session.now h). sym at.ending ∙ c.requires.live),
        refl,
      ),
    )

pub returns-in-NoMemory-clause-turn : goal.returns-in-NoMemory-clause-turn
returns-in-NoMemory-clause-turn g c =
    let r : Rules = rules_by g.D.Dialect.grammar c.args.session.now in
    let sinks : List SinkTold = map g.K.Sink.tells c.args.sinks.now.items in
    let book = g.B.TokenBook.tells c.args.book.now in
    let x = c.in-NoMemory.ensures.hears in
    let t : Turn = record { answer = x.answer; did = x.did; found = []; learnt = []; failed = None } in (
      t,
      outside_is c.args.base c.due_at-due.result c.args.gate.now.knows c.hear.new.gate.knows
          (g.C.Clock.tells c.args.clock.now) (g.C.Clock.tells c.hear.new.clock) (g.Q.Stopper.tells c.args.stop.now) (g.Q.Stopper.tells c.hear.new.stop)
          book book _ x [] [] None (sym (calls_none book)),
      wanted_memory r c.args.base x.answer x.did (IsAt r c.args.session.now) c.args.journal.now.entries.list c.args.journal.now.told sinks c.in-NoMemory.link x.is,
    )

pub returns-in-Ok-None-clause-turn : goal.returns-in-Ok-None-clause-turn
returns-in-Ok-None-clause-turn g c =
    let r : Rules = rules_by g.D.Dialect.grammar c.args.session.now in
    let olds : List SinkTold = map g.K.Sink.tells c.args.sinks.now.items in
    let news : List SinkTold = map g.K.Sink.tells c.act_on.new.sinks.items in
    let x = c.in-Step.ensures.hears in
    let a = c.in-Ok-None.ensures.acts in
    let t : Turn = record { answer = x.answer; did = x.did; found = a.found; learnt = a.learnt; failed = c.in-Ok-None.field-0 } in (
      t,
      outside_is c.args.base c.due_at-due.result c.args.gate.now.knows c.hear.new.gate.knows
          (g.C.Clock.tells c.args.clock.now) (g.C.Clock.tells c.hear.new.clock) (g.Q.Stopper.tells c.args.stop.now) (g.Q.Stopper.tells c.hear.new.stop)
          (g.B.TokenBook.tells c.args.book.now) (g.B.TokenBook.tells c.act_on.new.book) _ x a.found a.learnt c.in-Ok-None.field-0 a.calls,
      (
        went r c.args.base x.answer x.did (IsAt r c.args.session.now) (IsAt r c.act_on.new.session) (g.B.TokenBook.tells c.args.book.now) (g.B.TokenBook.tells c.act_on.new.book)
            c.args.journal.now.entries.list c.act_on.new.journal.entries.list c.args.journal.now.told c.act_on.new.journal.told olds news c.in-Ok-None.field-0
            c.due_at-due.result c.in-Step.act c.in-Step.happening x.is x.looks c.due_at-due.ensures.due
            (λ (h : History) (at : IsAt r c.args.session.now h). sym at.ending ∙ c.requires.live)
            a (subst (λ n. IsAmong n c.in-Ok-None.field-0) c.requires.count c.in-Ok-None.ensures.link),
        c.in-Ok-None.field-0-is,
      ),
    )

pub returns-in-Ok-Some-clause-turn : goal.returns-in-Ok-Some-clause-turn
returns-in-Ok-Some-clause-turn g c =
    let r : Rules = rules_by g.D.Dialect.grammar c.args.session.now in
    let olds : List SinkTold = map g.K.Sink.tells c.args.sinks.now.items in
    let news : List SinkTold = map g.K.Sink.tells c.act_on.new.sinks.items in
    let x = c.in-Step.ensures.hears in
    let a = c.in-Ok-Some.ensures.acts in
    let t : Turn = record { answer = x.answer; did = x.did; found = a.found; learnt = a.learnt; failed = c.in-Ok-Some.field-0 } in (
      t,
      outside_is c.args.base c.due_at-due.result c.args.gate.now.knows c.hear.new.gate.knows
          (g.C.Clock.tells c.args.clock.now) (g.C.Clock.tells c.hear.new.clock) (g.Q.Stopper.tells c.args.stop.now) (g.Q.Stopper.tells c.hear.new.stop)
          (g.B.TokenBook.tells c.args.book.now) (g.B.TokenBook.tells c.act_on.new.book) _ x a.found a.learnt c.in-Ok-Some.field-0 a.calls,
      (
        went r c.args.base x.answer x.did (IsAt r c.args.session.now) (IsAt r c.act_on.new.session) (g.B.TokenBook.tells c.args.book.now) (g.B.TokenBook.tells c.act_on.new.book)
            c.args.journal.now.entries.list c.act_on.new.journal.entries.list c.args.journal.now.told c.act_on.new.journal.told olds news c.in-Ok-Some.field-0
            c.due_at-due.result c.in-Step.act c.in-Step.happening x.is x.looks c.due_at-due.ensures.due
            (λ (h : History) (at : IsAt r c.args.session.now h). sym at.ending ∙ c.requires.live)
            a (subst (λ n. IsAmong n c.in-Ok-Some.field-0) c.requires.count c.in-Ok-Some.ensures.link),
        c.in-Ok-Some.field-0-is,
      ),
    )

pub returns-clause-turn : goal.returns-clause-turn
returns-clause-turn g c =
    let r : Rules = rules_by g.D.Dialect.grammar c.args.session.now in
    let olds : List SinkTold = map g.K.Sink.tells c.args.sinks.now.items in
    let news : List SinkTold = map g.K.Sink.tells c.act_on.new.sinks.items in
    let x = c.in-Step.ensures.hears in
    let a = c.in-Err.ensures.stays in
    let t : Turn = record { answer = x.answer; did = x.did; found = a.found; learnt = a.learnt; failed = None } in (
      t,
      outside_is c.args.base c.due_at-due.result c.args.gate.now.knows c.hear.new.gate.knows
          (g.C.Clock.tells c.args.clock.now) (g.C.Clock.tells c.hear.new.clock) (g.Q.Stopper.tells c.args.stop.now) (g.Q.Stopper.tells c.hear.new.stop)
          (g.B.TokenBook.tells c.args.book.now) (g.B.TokenBook.tells c.act_on.new.book) _ x a.found a.learnt None a.calls,
      gave_up r c.args.base x.answer x.did (IsAt r c.args.session.now) (g.B.TokenBook.tells c.args.book.now) (g.B.TokenBook.tells c.act_on.new.book)
          c.args.journal.now.entries.list c.act_on.new.journal.entries.list c.args.journal.now.told c.act_on.new.journal.told olds news
          c.in-Step.act c.in-Step.happening c.item_back.result x.is c.item_back.ensures a,
    )
