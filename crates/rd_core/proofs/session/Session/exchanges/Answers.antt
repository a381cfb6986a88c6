use Rattle.std.proofs.Common.{◌≡◌, ◌+◌, length, Option, ap, sym, ◌∙◌, arith}
use Rattle.std.specs.Prelude.{option_map}
use Rattle.rd_rules.specs.Exchange.{Ask, reading, out_list}
use Rattle.rd_rules.specs.Given.{agreed_on}
use Rattle.rd_rules.specs.Sent.{acted}
use Rattle.rd_reading.specs.Seen.{rules_of, seen_request}
use Rattle.rd_core.proofs.Taken.{agreed_in, agreed_out}
use Rattle.rd_core.proofs.session.Session.exchanges.Goals as goal

pub returns-in-Incoming : goal.returns-in-Incoming
returns-in-Incoming g c = λ h at.
    let now = c.args.self.now in
    let rules = rules_of (g.D.Dialect.grammar now.dialect) now.setup in
    let side = sym (ap (λ s. s.setup.side) c.self.view_is) ∙ c.in-Incoming.is in
    ap (λ s. s.at.stage.count) c.self.view_is
    ∙ sym (ap (λ s. agreed_on s (reading rules (acted rules h))) side ∙ agreed_in rules now.at.stage (reading rules (acted rules h)) at.stage)

pub returns-in-Some : goal.returns-in-Some
returns-in-Some g c = λ h at.
    let now = c.args.self.now in
    let rules = rules_of (g.D.Dialect.grammar now.dialect) now.setup in
    let side = sym (ap (λ s. s.setup.side) c.self.view_is) ∙ c.in-Outgoing.is in
    let out = sym (ap (λ s. s.at.stage.out) c.self.view_is) ∙ ap (option_map seen_request) c.in-Some.is in
    ap (λ s. s.at.stage.count + 1) c.self.view_is
    ∙ sym (ap (λ s. agreed_on s (reading rules (acted rules h))) side ∙ agreed_out rules now.at.stage (reading rules (acted rules h)) at.stage
    ∙ ap (λ (o : Option Ask). now.at.stage.count + length (out_list o)) out)

pub returns-in-None : goal.returns-in-None
returns-in-None g c = λ h at.
    let now = c.args.self.now in
    let rules = rules_of (g.D.Dialect.grammar now.dialect) now.setup in
    let side = sym (ap (λ s. s.setup.side) c.self.view_is) ∙ c.in-Outgoing.is in
    let out = sym (ap (λ s. s.at.stage.out) c.self.view_is) ∙ ap (option_map seen_request) c.in-None.is in
    ap (λ s. s.at.stage.count) c.self.view_is
    ∙ (let n : now.at.stage.count ≡ now.at.stage.count + 0 = omega arith in n)
    ∙ sym (ap (λ s. agreed_on s (reading rules (acted rules h))) side ∙ agreed_out rules now.at.stage (reading rules (acted rules h)) at.stage
    ∙ ap (λ (o : Option Ask). now.at.stage.count + length (out_list o)) out)
