use Rattle.std.proofs.Common.{◌≡◌, ◌+◌, ◌<◌, ℕ, List, [], map, length, Option, None, Some, refl, sym, ap, ◌∙◌, subst, arith}
use Rattle.rd_base.specs.History.{History}
use Rattle.rd_base.specs.Outside.{SinkTold}
use Rattle.rd_base.specs.declared.values.Ending.TheVariants.{LinkFault, NoMemory}
use Rattle.rd_rules.specs.Exchange.{Rules}
use Rattle.rd_rules.specs.Sent.{final, sent}
use Rattle.rd_core.specs.Standing.{IsAt}
use Rattle.rd_turn.specs.Turns.{Turn, Outside, outside, rules_by}
use Rattle.rd_turn.specs.Acts.{Went, GaveUp}
use Rattle.rd_turn.specs.Runs.{AreCounts}
use Rattle.rd_turn.proofs.Writes.{count_of}
use Rattle.rd_rules.proofs.Silence.{nothing_sent}
use Rattle.rd_turn.proofs.RunSteps.{wrote_at_start, runs_start, runs_on, runs_out, runs_off, runs_up, same_rules, some_or}
use Rattle.rd_turn.proofs.running.run_turns.Goals as goal

pub loop-init : goal.loop-init
loop-init g c =
    let r : Rules = rules_by g.D.Dialect.grammar c.args.session.now in
    let olds : List SinkTold = map g.K.Sink.tells c.args.sinks.now.items in
    let first : Outside = outside c.args.gate.now.knows (g.C.Clock.tells c.args.clock.now) (g.Q.Stopper.tells c.args.stop.now) (g.B.TokenBook.tells c.args.book.now) in
    let some : 0 < r.limits.copies = (let three = c.requires.limits.three in omega (arith, three)) in
    record {
      dialect = refl;
      setup = refl;
      count = refl;
      is_open = c.requires.open;
      gate = refl;
      runs = runs_start r c.args.base first c.args.journal.now.entries.list c.args.journal.now.told (IsAt r c.args.session.now) olds c.requires.log c.requires.told c.requires.begins
          (wrote_at_start (λ l. sent r l []) olds c.requires.open (nothing_sent r (g.met.D.Dialect.lawful c.args.session.now.dialect) some));
    }

pub returns-in-Some-ending-clause-run : goal.returns-in-Some-ending-clause-run
returns-in-Some-ending-clause-run g c =
    let r : Rules = rules_by g.D.Dialect.grammar c.args.session.now in
    let olds : List SinkTold = map g.K.Sink.tells c.args.sinks.now.items in
    let first : Outside = outside c.args.gate.now.knows (g.C.Clock.tells c.args.clock.now) (g.Q.Stopper.tells c.args.stop.now) (g.B.TokenBook.tells c.args.book.now) in
    let mids : List SinkTold = map g.K.Sink.tells c.loop.sinks.items in
    let so_far : Outside = outside c.loop.gate.knows (g.C.Clock.tells c.loop.clock) (g.Q.Stopper.tells c.loop.stop) (g.B.TokenBook.tells c.loop.book) in
    let same : rules_by g.D.Dialect.grammar c.loop.session ≡ r = same_rules g.D.Dialect.grammar c.args.session.now c.loop.session c.loop.invariant.dialect c.loop.invariant.setup in
    let counted : (h : History) → IsAt r c.loop.session h → AreCounts r h c.counts_of-before.result =
    subst (λ (q : Rules). (h : History) → IsAt q c.loop.session h → AreCounts q h c.counts_of-before.result) same c.counts_of-before.ensures in
    let sees : (h : History) → IsAt r c.loop.session h → Some c.in-Some-ending.ending ≡ final r h =
    subst (λ (q : Rules). (h : History) → IsAt q c.loop.session h → Some c.in-Some-ending.ending ≡ final q h) same c.in-Some-ending.ensures.ending in
    runs_out r c.args.base first so_far c.loop.journal.entries.list c.loop.journal.told (IsAt r c.loop.session) olds mids c.in-Some-ending.ending c.counts_of-before.result c.loop.invariant.runs sees counted

pub loop-preserved : goal.loop-preserved
loop-preserved g c =
    let r : Rules = rules_by g.D.Dialect.grammar c.args.session.now in
    let olds : List SinkTold = map g.K.Sink.tells c.args.sinks.now.items in
    let first : Outside = outside c.args.gate.now.knows (g.C.Clock.tells c.args.clock.now) (g.Q.Stopper.tells c.args.stop.now) (g.B.TokenBook.tells c.args.book.now) in
    let mids : List SinkTold = map g.K.Sink.tells c.loop.sinks.items in
    let so_far : Outside = outside c.loop.gate.knows (g.C.Clock.tells c.loop.clock) (g.Q.Stopper.tells c.loop.stop) (g.B.TokenBook.tells c.loop.book) in
    let same : rules_by g.D.Dialect.grammar c.loop.session ≡ r = same_rules g.D.Dialect.grammar c.args.session.now c.loop.session c.loop.invariant.dialect c.loop.invariant.setup in
    let news : List SinkTold = map g.K.Sink.tells c.turn.new.sinks.items in
    let next : Outside = outside c.turn.new.gate.knows (g.C.Clock.tells c.turn.new.clock) (g.Q.Stopper.tells c.turn.new.stop) (g.B.TokenBook.tells c.turn.new.book) in
    let x = c.in-Going.ensures.turn in
    let t : Turn = x.0 in
    let went : Went r c.args.base (IsAt r c.loop.session) (IsAt r c.turn.new.session) c.loop.journal.entries.list c.turn.new.journal.entries.list c.loop.journal.told c.turn.new.journal.told mids news t =
    subst (λ (q : Rules). Went q c.args.base (IsAt q c.loop.session) (IsAt q c.turn.new.session) c.loop.journal.entries.list c.turn.new.journal.entries.list c.loop.journal.told c.turn.new.journal.told mids news t) same x.2.0 in
    record {
      dialect = c.in-Going.ensures.dialect ∙ c.loop.invariant.dialect;
      setup = c.in-Going.ensures.setup ∙ c.loop.invariant.setup;
      count = c.in-Going.ensures.count ∙ c.loop.invariant.count;
      is_open = c.in-Going.ensures.is_open;
      gate = c.in-Going.ensures.gate ∙ c.loop.invariant.gate;
      runs = runs_on r c.args.base first so_far next c.loop.journal.entries.list c.turn.new.journal.entries.list c.loop.journal.told c.turn.new.journal.told
          (IsAt r c.loop.session) (IsAt r c.turn.new.session) olds mids news t c.loop.invariant.runs x.1 went x.2.1;
    }

pub returns-in-WriteFailed-clause-run : goal.returns-in-WriteFailed-clause-run
returns-in-WriteFailed-clause-run g c =
    let r : Rules = rules_by g.D.Dialect.grammar c.args.session.now in
    let olds : List SinkTold = map g.K.Sink.tells c.args.sinks.now.items in
    let first : Outside = outside c.args.gate.now.knows (g.C.Clock.tells c.args.clock.now) (g.Q.Stopper.tells c.args.stop.now) (g.B.TokenBook.tells c.args.book.now) in
    let mids : List SinkTold = map g.K.Sink.tells c.loop.sinks.items in
    let so_far : Outside = outside c.loop.gate.knows (g.C.Clock.tells c.loop.clock) (g.Q.Stopper.tells c.loop.stop) (g.B.TokenBook.tells c.loop.book) in
    let same : rules_by g.D.Dialect.grammar c.loop.session ≡ r = same_rules g.D.Dialect.grammar c.args.session.now c.loop.session c.loop.invariant.dialect c.loop.invariant.setup in
    let news : List SinkTold = map g.K.Sink.tells c.turn.new.sinks.items in
    let next : Outside = outside c.turn.new.gate.knows (g.C.Clock.tells c.turn.new.clock) (g.Q.Stopper.tells c.turn.new.stop) (g.B.TokenBook.tells c.turn.new.book) in
    let later : rules_by g.D.Dialect.grammar c.turn.new.session ≡ r = same_rules g.D.Dialect.grammar c.args.session.now c.turn.new.session (c.in-WriteFailed.ensures.dialect ∙ c.loop.invariant.dialect) (c.in-WriteFailed.ensures.setup ∙ c.loop.invariant.setup) in
    let x = c.in-WriteFailed.ensures.turn in
    let t : Turn = x.0 in
    let went : Went r c.args.base (IsAt r c.loop.session) (IsAt r c.turn.new.session) c.loop.journal.entries.list c.turn.new.journal.entries.list c.loop.journal.told c.turn.new.journal.told mids news t =
    subst (λ (q : Rules). Went q c.args.base (IsAt q c.loop.session) (IsAt q c.turn.new.session) c.loop.journal.entries.list c.turn.new.journal.entries.list c.loop.journal.told c.turn.new.journal.told mids news t) same x.2.0 in
    let sees : (h : History) → IsAt r c.turn.new.session h → c.ending-in-WriteFailed.result ≡ final r h =
    subst (λ (q : Rules). (h : History) → IsAt q c.turn.new.session h → c.ending-in-WriteFailed.result ≡ final q h) later c.ending-in-WriteFailed.ensures.ending in
    let counted : (h : History) → IsAt r c.turn.new.session h → AreCounts r h c.counts_of.result =
    subst (λ (q : Rules). (h : History) → IsAt q c.turn.new.session h → AreCounts q h c.counts_of.result) later c.counts_of.ensures in
    let size : length olds ≡ r.limits.copies + 1 = count_of g.K.Sink.tells c.args.sinks.now.items ∙ sym c.args.sinks.now.ok.0 ∙ c.requires.count in
    runs_off r c.args.base first so_far next c.loop.journal.entries.list c.turn.new.journal.entries.list c.loop.journal.told c.turn.new.journal.told
    (IsAt r c.loop.session) (IsAt r c.turn.new.session) olds mids news t c.in-WriteFailed.link c.ending-in-WriteFailed.result c.unwrap_or.result c.counts_of.result
    size c.loop.invariant.runs x.1 went x.2.1 sees counted (ap Some c.unwrap_or.ensures ∙ some_or c.ending-in-WriteFailed.result (LinkFault c.in-WriteFailed.link))

pub returns-in-GaveUp-clause-run : goal.returns-in-GaveUp-clause-run
returns-in-GaveUp-clause-run g c =
    let r : Rules = rules_by g.D.Dialect.grammar c.args.session.now in
    let olds : List SinkTold = map g.K.Sink.tells c.args.sinks.now.items in
    let first : Outside = outside c.args.gate.now.knows (g.C.Clock.tells c.args.clock.now) (g.Q.Stopper.tells c.args.stop.now) (g.B.TokenBook.tells c.args.book.now) in
    let mids : List SinkTold = map g.K.Sink.tells c.loop.sinks.items in
    let so_far : Outside = outside c.loop.gate.knows (g.C.Clock.tells c.loop.clock) (g.Q.Stopper.tells c.loop.stop) (g.B.TokenBook.tells c.loop.book) in
    let same : rules_by g.D.Dialect.grammar c.loop.session ≡ r = same_rules g.D.Dialect.grammar c.args.session.now c.loop.session c.loop.invariant.dialect c.loop.invariant.setup in
    let news : List SinkTold = map g.K.Sink.tells c.turn.new.sinks.items in
    let next : Outside = outside c.turn.new.gate.knows (g.C.Clock.tells c.turn.new.clock) (g.Q.Stopper.tells c.turn.new.stop) (g.B.TokenBook.tells c.turn.new.book) in
    let counted : (h : History) → IsAt r c.loop.session h → AreCounts r h c.counts_of-before.result =
    subst (λ (q : Rules). (h : History) → IsAt q c.loop.session h → AreCounts q h c.counts_of-before.result) same c.counts_of-before.ensures in
    let x = c.in-GaveUp.ensures.turn in
    let t : Turn = x.0 in
    let gave : GaveUp r c.args.base (IsAt r c.loop.session) c.loop.journal.entries.list c.turn.new.journal.entries.list c.loop.journal.told c.turn.new.journal.told mids news c.in-GaveUp.back t =
    subst (λ (q : Rules). GaveUp q c.args.base (IsAt q c.loop.session) c.loop.journal.entries.list c.turn.new.journal.entries.list c.loop.journal.told c.turn.new.journal.told mids news c.in-GaveUp.back t) same x.2 in
    runs_up r c.args.base first so_far next c.loop.journal.entries.list c.turn.new.journal.entries.list c.loop.journal.told c.turn.new.journal.told (IsAt r c.loop.session) olds mids news t
    (record { ending = NoMemory; failed = None; back = c.in-GaveUp.back; counts = c.counts_of-before.result }) c.loop.invariant.runs x.1 gave counted refl refl
