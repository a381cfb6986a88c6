use Rattle.std.proofs.Common.{◌≡◌, sym, subst, refl, ◌∙◌}
use Rattle.std.specs.Prelude.{OnOk}
use Rattle.rd_base.specs.Token.{Token, token}
use Rattle.rd_stream_verdict.specs.Said.{at_place}
use Rattle.rd_stream_verdict.specs.Heads.{waits}
use Rattle.rd_stream_verdict.specs.Kept.{Kept, HasHeard}
use Rattle.rd_stream_verdict.proofs.Steps.{IsOpenIn, skip_heard, reached_heard}
use Rattle.rd_stream_verdict.proofs.Asked.{wait_reached, wait_answers}
use Rattle.rd_stream_verdict.proofs.stream.StreamVerdict.feed.Goals as goal

pub invariant_of-self : goal.invariant_of-self
invariant_of-self c =
    let seen : Kept = record { most = c.self.inside.most; found = c.self.inside.found; rows = c.self.inside.rows; copies = c.self.inside.copies } in
    let new : Kept = record { most = c.self.inside.most; found = c.self.inside.found; rows = c.self.inside.rows; copies = c.count.new.self } in
    let t = token c.args.kind c.args.text.now in
    let may = (let P : Kept → Type 0 = λ v. IsOpenIn c.args.copy v.copies in subst P (sym c.self.view_is) (record { there = c.requires.there; may = c.requires.open })) in
    let heard : HasHeard c.args.copy t seen new = skip_heard seen new c.args.copy t may (sym c.has_agreed.ensures ∙ c.if-not-has_agreed.true) refl refl refl c.count.ensures in
    reached_heard seen new c.args.copy t heard c.self.invariant

pub returns-then-not-has_agreed-clause-ok : goal.returns-then-not-has_agreed-clause-ok
returns-then-not-has_agreed-clause-ok c =
    let seen : Kept = record { most = c.self.inside.most; found = c.self.inside.found; rows = c.self.inside.rows; copies = c.self.inside.copies } in
    let new : Kept = record { most = c.self.inside.most; found = c.self.inside.found; rows = c.self.inside.rows; copies = c.count.new.self } in
    let t = token c.args.kind c.args.text.now in
    let may = (let P : Kept → Type 0 = λ v. IsOpenIn c.args.copy v.copies in subst P (sym c.self.view_is) (record { there = c.requires.there; may = c.requires.open })) in
    let heard : HasHeard c.args.copy t seen new = skip_heard seen new c.args.copy t may (sym c.has_agreed.ensures ∙ c.if-not-has_agreed.true) refl refl refl c.count.ensures in
    let P : Kept → Type 0 = λ old. HasHeard c.args.copy t old new in
    subst P c.self.view_is heard

pub invariant_of-self-else-is_only_behind : goal.invariant_of-self-else-is_only_behind
invariant_of-self-else-is_only_behind c =
    let seen : Kept = record { most = c.self.inside.most; found = c.self.inside.found; rows = c.self.inside.rows; copies = c.self.inside.copies } in
    let t = token c.args.kind c.args.text.now in
    let may = (let P : Kept → Type 0 = λ v. IsOpenIn c.args.copy v.copies in subst P (sym c.self.view_is) (record { there = c.requires.there; may = c.requires.open })) in
    wait_reached seen c.args.copy t c.wait.new.self c.wait.result may (sym c.has_agreed.ensures ∙ c.if-not-has_agreed.false) (sym c.is_only_behind.ensures ∙ c.if-is_only_behind.false) (let Q : Token → Type 0 = λ u. OnOk c.wait.result (c.wait.new.self ≡ at_place (waits u) c.args.copy c.self.inside.copies) in subst Q c.new-token.ensures c.wait.ensures.ok) c.wait.ensures.err c.self.invariant

pub returns-else-is_only_behind-clause-ok : goal.returns-else-is_only_behind-clause-ok
returns-else-is_only_behind-clause-ok c =
    let seen : Kept = record { most = c.self.inside.most; found = c.self.inside.found; rows = c.self.inside.rows; copies = c.self.inside.copies } in
    let new : Kept = record { most = c.self.inside.most; found = c.self.inside.found; rows = c.self.inside.rows; copies = c.wait.new.self } in
    let t = token c.args.kind c.args.text.now in
    let may = (let P : Kept → Type 0 = λ v. IsOpenIn c.args.copy v.copies in subst P (sym c.self.view_is) (record { there = c.requires.there; may = c.requires.open })) in
    let P : Kept → Type 0 = λ old. OnOk c.wait.result (HasHeard c.args.copy t old new) in
    subst P c.self.view_is (wait_answers seen c.args.copy t c.wait.new.self c.wait.result may (sym c.has_agreed.ensures ∙ c.if-not-has_agreed.false) (sym c.is_only_behind.ensures ∙ c.if-is_only_behind.false) (let Q : Token → Type 0 = λ u. OnOk c.wait.result (c.wait.new.self ≡ at_place (waits u) c.args.copy c.self.inside.copies) in subst Q c.new-token.ensures c.wait.ensures.ok))
