use Rattle.std.proofs.Common.{refl, ap, sym, subst, ◌∙◌}
use Rattle.rd_base.specs.Verdicts.{mask_of}
use Rattle.rd_stream_verdict.specs.Said.{at_place}
use Rattle.rd_stream_verdict.specs.Heads.{closed}
use Rattle.rd_stream_verdict.specs.Kept.{Kept, HasClosed}
use Rattle.rd_stream_verdict.proofs.Asked.{IsAsked, next_of}
use Rattle.rd_stream_verdict.proofs.EndSteps.{stop_closed, last_closed, reached_closed}
use Rattle.rd_stream_verdict.proofs.stream.StreamVerdict.close_last.Goals as goal

pub invariant_of-self : goal.invariant_of-self
invariant_of-self c =
    let seen : Kept = record { most = c.self.inside.most; found = c.self.inside.found; rows = c.self.inside.rows; copies = c.self.inside.copies } in
    let new : Kept = record { most = c.self.inside.most; found = c.in-Some.fault; rows = c.new.result; copies = c.close.new.self } in
    let asked = (subst (IsAsked c.args.at) (sym c.self.view_is) (record { there = c.requires.there; may = c.requires.open; agreed = c.requires.agreed; only = c.requires.only })) in
    let is : HasClosed c.args.at seen new = stop_closed seen new c.args.at c.fed-place.result (mask_of seen.found) c.in-Some.fault (next_of c.args.at c.fed-place.result seen asked c.fed-place.ensures) (sym c.in-Some.ensures) refl refl c.new.ensures (c.close.ensures ∙ ap (at_place closed c.args.at) c.clear_all.ensures) in
    reached_closed seen new c.args.at is c.self.invariant

pub returns-in-Some : goal.returns-in-Some
returns-in-Some c =
    let seen : Kept = record { most = c.self.inside.most; found = c.self.inside.found; rows = c.self.inside.rows; copies = c.self.inside.copies } in
    let new : Kept = record { most = c.self.inside.most; found = c.in-Some.fault; rows = c.new.result; copies = c.close.new.self } in
    let asked = (subst (IsAsked c.args.at) (sym c.self.view_is) (record { there = c.requires.there; may = c.requires.open; agreed = c.requires.agreed; only = c.requires.only })) in
    let is : HasClosed c.args.at seen new = stop_closed seen new c.args.at c.fed-place.result (mask_of seen.found) c.in-Some.fault (next_of c.args.at c.fed-place.result seen asked c.fed-place.ensures) (sym c.in-Some.ensures) refl refl c.new.ensures (c.close.ensures ∙ ap (at_place closed c.args.at) c.clear_all.ensures) in
    let P : Kept → Type 0 = λ old. HasClosed c.args.at old new in
    subst P c.self.view_is is

pub invariant_of-self-in-None : goal.invariant_of-self-in-None
invariant_of-self-in-None c =
    let seen : Kept = record { most = c.self.inside.most; found = c.self.inside.found; rows = c.self.inside.rows; copies = c.self.inside.copies } in
    let new : Kept = record { most = c.self.inside.most; found = c.self.inside.found; rows = c.self.inside.rows; copies = c.close-in-None.new.self } in
    let asked = (subst (IsAsked c.args.at) (sym c.self.view_is) (record { there = c.requires.there; may = c.requires.open; agreed = c.requires.agreed; only = c.requires.only })) in
    let is : HasClosed c.args.at seen new = last_closed seen new c.args.at c.fed-place.result (mask_of seen.found) (next_of c.args.at c.fed-place.result seen asked c.fed-place.ensures) (sym c.in-None.ensures) (record { most = refl; found = refl; rows = refl; copies = c.close-in-None.ensures }) in
    reached_closed seen new c.args.at is c.self.invariant

pub returns-in-None : goal.returns-in-None
returns-in-None c =
    let seen : Kept = record { most = c.self.inside.most; found = c.self.inside.found; rows = c.self.inside.rows; copies = c.self.inside.copies } in
    let new : Kept = record { most = c.self.inside.most; found = c.self.inside.found; rows = c.self.inside.rows; copies = c.close-in-None.new.self } in
    let asked = (subst (IsAsked c.args.at) (sym c.self.view_is) (record { there = c.requires.there; may = c.requires.open; agreed = c.requires.agreed; only = c.requires.only })) in
    let is : HasClosed c.args.at seen new = last_closed seen new c.args.at c.fed-place.result (mask_of seen.found) (next_of c.args.at c.fed-place.result seen asked c.fed-place.ensures) (sym c.in-None.ensures) (record { most = refl; found = refl; rows = refl; copies = c.close-in-None.ensures }) in
    let P : Kept → Type 0 = λ old. HasClosed c.args.at old new in
    subst P c.self.view_is is
