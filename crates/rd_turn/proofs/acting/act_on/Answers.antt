use Rattle.std.proofs.Common.{◌≡◌, ◌+◌, ◌≤◌, ℕ, [], ◌∷◌, ◌++◌, List, length, map, None, Some, refl, sym, ap, ◌∙◌, subst, arith, append-nil}
use Rattle.std.specs.Prelude.{Ok}
use Rattle.rd_base.specs.History.{History, Row}
use Rattle.rd_base.specs.Outside.{SinkTold}
use Rattle.rd_core.specs.Standing.{IsAt}
use Rattle.rd_rules.specs.Exchange.{Rules}
use Rattle.rd_rules.specs.Sent.{agreed_rows}
use Rattle.rd_turn.specs.declared.log.Act.TheVariants.{WriteFail}
use Rattle.rd_turn.specs.Books.{rows_of}
use Rattle.rd_turn.specs.Acts.{Stays}
use Rattle.rd_turn.specs.Turns.{rules_by}
use Rattle.rd_turn.proofs.Asked.{calls_none, nil_prefix, rows_few, at_error}
use Rattle.rd_turn.proofs.ActSteps.{acted, stays_early, stays_late}
use Rattle.rd_turn.proofs.RunSteps.{same_rules}
use Rattle.rd_turn.proofs.acting.act_on.Goals as goal

pub returns-in_err-reserve-clause-stays : goal.returns-in_err-reserve-clause-stays
returns-in_err-reserve-clause-stays g c = at_error c.from_residual.result (record {
  found = [];
  learnt = [];
  calls = sym (calls_none (g.B.TokenBook.tells c.args.book.now));
  log = c.reserve.ensures.list;
  rows = refl;
  sinks = refl;
  begins = λ h well at. (nil_prefix _, nil_prefix _);
})

pub returns-in_err-told-clause-stays : goal.returns-in_err-told-clause-stays
returns-in_err-told-clause-stays g c =
    let r : Rules = rules_by g.D.Dialect.grammar c.args.session.now in
    at_error c.from_residual-in_err-told.result
    (stays_early r c.args.happening.now (IsAt r c.args.session.now) (g.B.TokenBook.tells c.args.book.now) (g.B.TokenBook.tells c.look_up.new.book)
    c.args.journal.now.entries.list c.reserve.new.self.list c.args.journal.now.told (map g.K.Sink.tells c.args.sinks.now.items) _ c.in_err-told.ensures.looks c.reserve.ensures.list)

pub returns-in_err-sends-clause-stays : goal.returns-in_err-sends-clause-stays
returns-in_err-sends-clause-stays g c =
    let r : Rules = rules_by g.D.Dialect.grammar c.args.session.now in
    at_error c.from_residual-in_err-sends.result
    (stays_early r c.args.happening.now (IsAt r c.args.session.now) (g.B.TokenBook.tells c.args.book.now) (g.B.TokenBook.tells c.look_up.new.book)
    c.args.journal.now.entries.list c.reserve.new.self.list c.args.journal.now.told (map g.K.Sink.tells c.args.sinks.now.items) _ c.in_ok-told.ensures.looks c.reserve.ensures.list)

pub returns-in_err-learn_all-clause-stays : goal.returns-in_err-learn_all-clause-stays
returns-in_err-learn_all-clause-stays g c =
    let r : Rules = rules_by g.D.Dialect.grammar c.args.session.now in
    let later : rules_by g.D.Dialect.grammar c.take.new.self ≡ r = same_rules g.D.Dialect.grammar c.args.session.now c.take.new.self c.take.ensures.dialect c.take.ensures.setup in
    let agreed : (h : History) → IsAt r c.take.new.self h → c.agreed_rows.result.now ≡ agreed_rows r h =
    subst (λ (q : Rules). (h : History) → IsAt q c.take.new.self h → c.agreed_rows.result.now ≡ agreed_rows q h) later c.agreed_rows.ensures in
    at_error c.from_residual-in_err-learn_all.result
    (stays_late r c.args.happening.now (IsAt r c.args.session.now) (IsAt r c.take.new.self) (g.B.TokenBook.tells c.args.book.now) (g.B.TokenBook.tells c.look_up.new.book) (g.B.TokenBook.tells c.learn_all.new.book)
    c.args.journal.now.entries.list c.reserve.new.self.list c.args.journal.now.told c.args.journal.now.told (map g.K.Sink.tells c.args.sinks.now.items)
    c.in_ok-told.told c.agreed_rows.result.now _ c.in_ok-told.ensures.looks c.in_err-learn_all.ensures.tells c.in_ok-sends.ensures.at agreed c.reserve.ensures.list refl)

pub returns-in_err-push_all-clause-stays : goal.returns-in_err-push_all-clause-stays
returns-in_err-push_all-clause-stays g c =
    let r : Rules = rules_by g.D.Dialect.grammar c.args.session.now in
    let later : rules_by g.D.Dialect.grammar c.take.new.self ≡ r = same_rules g.D.Dialect.grammar c.args.session.now c.take.new.self c.take.ensures.dialect c.take.ensures.setup in
    let agreed : (h : History) → IsAt r c.take.new.self h → c.agreed_rows.result.now ≡ agreed_rows r h =
    subst (λ (q : Rules). (h : History) → IsAt q c.take.new.self h → c.agreed_rows.result.now ≡ agreed_rows q h) later c.agreed_rows.ensures in
    at_error c.from_residual-in_err-push_all.result
    (stays_late r c.args.happening.now (IsAt r c.args.session.now) (IsAt r c.take.new.self) (g.B.TokenBook.tells c.args.book.now) (g.B.TokenBook.tells c.look_up.new.book) (g.B.TokenBook.tells c.learn_all.new.book)
    c.args.journal.now.entries.list c.reserve.new.self.list c.args.journal.now.told c.push_all.new.self (map g.K.Sink.tells c.args.sinks.now.items)
    c.in_ok-told.told c.agreed_rows.result.now _ c.in_ok-told.ensures.looks c.learn_all.ensures.tells c.in_ok-sends.ensures.at agreed c.reserve.ensures.list c.in_err-push_all.ensures.err)

pub overflow_cast-len : goal.overflow_cast-len
overflow_cast-len g c =
    let x = c.in_ok-told.ensures.looks in
    let rows : length c.in_ok-told.told ≡ length (rows_of x.found) = ap length x.rows in
    let few = rows_few x.found in
    let most = x.few in
    omega (arith, rows, few, most, c.len.ensures)

pub returns-in-Ok-clause-acts : goal.returns-in-Ok-clause-acts
returns-in-Ok-clause-acts g c =
    let r : Rules = rules_by g.D.Dialect.grammar c.args.session.now in
    let later : rules_by g.D.Dialect.grammar c.take.new.self ≡ r = same_rules g.D.Dialect.grammar c.args.session.now c.take.new.self c.take.ensures.dialect c.take.ensures.setup in
    let agreed : (h : History) → IsAt r c.take.new.self h → c.agreed_rows.result.now ≡ agreed_rows r h =
    subst (λ (q : Rules). (h : History) → IsAt q c.take.new.self h → c.agreed_rows.result.now ≡ agreed_rows q h) later c.agreed_rows.ensures in
    let given : List Row = c.in_ok-told.told in
    let list : c.push.new.self.list ≡ c.args.journal.now.entries.list ++ record { at = c.args.happening.now.at; act = c.args.act; told = length given } ∷ [] =
    c.push.ensures.list ∙ ap (λ l. l ++ record { at = c.args.happening.now.at; act = c.args.act; told = c.len.result } ∷ []) c.reserve.ensures.list
    ∙ ap (λ n. c.args.journal.now.entries.list ++ record { at = c.args.happening.now.at; act = c.args.act; told = n } ∷ []) c.len.ensures in
    acted r c.args.happening.now c.args.act (IsAt r c.args.session.now) (IsAt r c.take.new.self) (g.B.TokenBook.tells c.args.book.now) (g.B.TokenBook.tells c.look_up.new.book) (g.B.TokenBook.tells c.learn_all.new.book)
    c.args.journal.now.entries.list c.push.new.self.list c.args.journal.now.told c.push_all.new.self (map g.K.Sink.tells c.args.sinks.now.items) (map g.K.Sink.tells c.send_all.new.sinks.items) None
    _ given c.agreed_rows.result.now c.in_ok-sends.sends c.in_ok-told.ensures.looks c.in_ok-learn_all.ensures.tells c.requires.count c.in_ok-sends.ensures.at c.in_ok-sends.ensures.sent agreed
    c.in-Ok.ensures.ok (list ∙ sym (append-nil _)) c.in_ok-push_all.ensures.ok

pub returns-clause-acts : goal.returns-clause-acts
returns-clause-acts g c =
    let r : Rules = rules_by g.D.Dialect.grammar c.args.session.now in
    let later : rules_by g.D.Dialect.grammar c.take.new.self ≡ r = same_rules g.D.Dialect.grammar c.args.session.now c.take.new.self c.take.ensures.dialect c.take.ensures.setup in
    let agreed : (h : History) → IsAt r c.take.new.self h → c.agreed_rows.result.now ≡ agreed_rows r h =
    subst (λ (q : Rules). (h : History) → IsAt q c.take.new.self h → c.agreed_rows.result.now ≡ agreed_rows q h) later c.agreed_rows.ensures in
    let given : List Row = c.in_ok-told.told in
    let list : c.push.new.self.list ≡ c.args.journal.now.entries.list ++ record { at = c.args.happening.now.at; act = c.args.act; told = length given } ∷ [] =
    c.push.ensures.list ∙ ap (λ l. l ++ record { at = c.args.happening.now.at; act = c.args.act; told = c.len.result } ∷ []) c.reserve.ensures.list
    ∙ ap (λ n. c.args.journal.now.entries.list ++ record { at = c.args.happening.now.at; act = c.args.act; told = n } ∷ []) c.len.ensures in
    acted r c.args.happening.now c.args.act (IsAt r c.args.session.now) (IsAt r c.take.new.self) (g.B.TokenBook.tells c.args.book.now) (g.B.TokenBook.tells c.look_up.new.book) (g.B.TokenBook.tells c.learn_all.new.book)
    c.args.journal.now.entries.list c.push-in-Err.new.self.list c.args.journal.now.told c.push_all.new.self (map g.K.Sink.tells c.args.sinks.now.items) (map g.K.Sink.tells c.send_all.new.sinks.items) (Some c.in-Err.link)
    _ given c.agreed_rows.result.now c.in_ok-sends.sends c.in_ok-told.ensures.looks c.in_ok-learn_all.ensures.tells c.requires.count c.in_ok-sends.ensures.at c.in_ok-sends.ensures.sent agreed
    c.in-Err.ensures.err (c.push-in-Err.ensures.list ∙ ap (λ l. l ++ record { at = c.args.happening.now.at; act = WriteFail c.in-Err.link; told = 0 } ∷ []) list) c.in_ok-push_all.ensures.ok
