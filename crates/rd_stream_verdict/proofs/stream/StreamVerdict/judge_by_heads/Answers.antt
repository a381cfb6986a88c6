use Rattle.std.proofs.Common.{◌-◌, ◌^◌, refl, sym, subst}
use Rattle.rd_base.specs.Token.{Token}
use Rattle.rd_stream_verdict.specs.Kept.{Kept, HasHeard}
use Rattle.rd_stream_verdict.specs.Heads.{passed}
use Rattle.rd_stream_verdict.proofs.Asked.{IsAsked, next_of, mask_rises, stop_by, mask_by, same_by, fewer_after}
use Rattle.rd_stream_verdict.proofs.Steps.{reached_heard}
use Rattle.rd_stream_verdict.proofs.stream.StreamVerdict.judge_by_heads.Goals as goal

pub invariant_of-self : goal.invariant_of-self
invariant_of-self c =
    let seen : Kept = record { most = c.self.inside.most; found = c.self.inside.found; rows = c.self.inside.rows; copies = c.self.inside.copies } in
    let new : Kept = record { most = c.self.inside.most; found = c.in-Fault.fault; rows = c.new.result; copies = c.count.new.self } in
    let asked = (subst (IsAsked c.args.at) (sym c.self.view_is) (record { there = c.requires.there; may = c.requires.open; agreed = c.requires.agreed; only = c.requires.only })) in
    let heard : HasHeard c.args.at c.new-token.result seen new = stop_by seen c.args.at c.fed-place.result c.masked_places-masked.result c.new-token.result c.in-Fault.fault c.new.result c.clear_all.new.self c.count.new.self asked c.fed-place.ensures c.masked_places-masked.ensures c.in-Fault.ensures c.new.ensures c.clear_all.ensures c.count.ensures in
    reached_heard seen new c.args.at c.new-token.result heard c.self.invariant

pub returns-in-Fault-clause-ok : goal.returns-in-Fault-clause-ok
returns-in-Fault-clause-ok c =
    let seen : Kept = record { most = c.self.inside.most; found = c.self.inside.found; rows = c.self.inside.rows; copies = c.self.inside.copies } in
    let new : Kept = record { most = c.self.inside.most; found = c.in-Fault.fault; rows = c.new.result; copies = c.count.new.self } in
    let asked = (subst (IsAsked c.args.at) (sym c.self.view_is) (record { there = c.requires.there; may = c.requires.open; agreed = c.requires.agreed; only = c.requires.only })) in
    let heard : HasHeard c.args.at c.new-token.result seen new = stop_by seen c.args.at c.fed-place.result c.masked_places-masked.result c.new-token.result c.in-Fault.fault c.new.result c.clear_all.new.self c.count.new.self asked c.fed-place.ensures c.masked_places-masked.ensures c.in-Fault.ensures c.new.ensures c.clear_all.ensures c.count.ensures in
    let P : Kept → Type 0 = λ old. HasHeard c.args.at c.new-token.result old new in
    let Q : Token → Type 0 = λ t. HasHeard c.args.at t c.args.self.now new in
    subst Q c.new-token.ensures (subst P c.self.view_is heard)

pub push_place-requires-clause-rising : goal.push_place-requires-clause-rising
push_place-requires-clause-rising c =
    let seen : Kept = record { most = c.self.inside.most; found = c.self.inside.found; rows = c.self.inside.rows; copies = c.self.inside.copies } in
    let asked = (subst (IsAsked c.args.at) (sym c.self.view_is) (record { there = c.requires.there; may = c.requires.open; agreed = c.requires.agreed; only = c.requires.only })) in
    mask_rises c.args.at c.fed-place.result seen c.self.invariant (next_of c.args.at c.fed-place.result seen asked c.fed-place.ensures)

pub count-requires-in-Masked-clause-fewer : goal.count-requires-in-Masked-clause-fewer
count-requires-in-Masked-clause-fewer c =
    let seen : Kept = record { most = c.self.inside.most; found = c.self.inside.found; rows = c.self.inside.rows; copies = c.self.inside.copies } in
    fewer_after passed (λ x. refl) seen c.args.self.now (2 ^ 32 - 1) c.args.at c.pass_all.new.self c.self.view_is c.requires.fewer c.pass_all.ensures

pub count-requires-in-Same-clause-fewer : goal.count-requires-in-Same-clause-fewer
count-requires-in-Same-clause-fewer c =
    let seen : Kept = record { most = c.self.inside.most; found = c.self.inside.found; rows = c.self.inside.rows; copies = c.self.inside.copies } in
    fewer_after passed (λ x. refl) seen c.args.self.now (2 ^ 32 - 1) c.args.at c.pass_all-in-Same.new.self c.self.view_is c.requires.fewer c.pass_all-in-Same.ensures

pub invariant_of-self-in-Masked : goal.invariant_of-self-in-Masked
invariant_of-self-in-Masked c =
    let seen : Kept = record { most = c.self.inside.most; found = c.self.inside.found; rows = c.self.inside.rows; copies = c.self.inside.copies } in
    let new : Kept = record { most = c.self.inside.most; found = c.push_place.new.found; rows = c.keep_row.new.rows; copies = c.count-in-Masked.new.self } in
    let asked = (subst (IsAsked c.args.at) (sym c.self.view_is) (record { there = c.requires.there; may = c.requires.open; agreed = c.requires.agreed; only = c.requires.only })) in
    let heard : HasHeard c.args.at c.new-token.result seen new = mask_by seen c.args.at c.fed-place.result c.masked_places-masked.result c.new-token.result c.in-Masked.row c.push_place.new.found c.keep_row.new.rows c.pass_all.new.self c.count-in-Masked.new.self asked c.fed-place.ensures c.masked_places-masked.ensures c.in-Masked.ensures c.push_place.ensures c.in_ok-keep_row-in-Masked.ensures.ok c.pass_all.ensures c.count-in-Masked.ensures in
    reached_heard seen new c.args.at c.new-token.result heard c.self.invariant

pub returns-in_ok-keep_row-in-Masked-clause-ok : goal.returns-in_ok-keep_row-in-Masked-clause-ok
returns-in_ok-keep_row-in-Masked-clause-ok c =
    let seen : Kept = record { most = c.self.inside.most; found = c.self.inside.found; rows = c.self.inside.rows; copies = c.self.inside.copies } in
    let new : Kept = record { most = c.self.inside.most; found = c.push_place.new.found; rows = c.keep_row.new.rows; copies = c.count-in-Masked.new.self } in
    let asked = (subst (IsAsked c.args.at) (sym c.self.view_is) (record { there = c.requires.there; may = c.requires.open; agreed = c.requires.agreed; only = c.requires.only })) in
    let heard : HasHeard c.args.at c.new-token.result seen new = mask_by seen c.args.at c.fed-place.result c.masked_places-masked.result c.new-token.result c.in-Masked.row c.push_place.new.found c.keep_row.new.rows c.pass_all.new.self c.count-in-Masked.new.self asked c.fed-place.ensures c.masked_places-masked.ensures c.in-Masked.ensures c.push_place.ensures c.in_ok-keep_row-in-Masked.ensures.ok c.pass_all.ensures c.count-in-Masked.ensures in
    let P : Kept → Type 0 = λ old. HasHeard c.args.at c.new-token.result old new in
    let Q : Token → Type 0 = λ t. HasHeard c.args.at t c.args.self.now new in
    subst Q c.new-token.ensures (subst P c.self.view_is heard)

pub invariant_of-self-in-Same : goal.invariant_of-self-in-Same
invariant_of-self-in-Same c =
    let seen : Kept = record { most = c.self.inside.most; found = c.self.inside.found; rows = c.self.inside.rows; copies = c.self.inside.copies } in
    let new : Kept = record { most = c.self.inside.most; found = c.self.inside.found; rows = c.self.inside.rows; copies = c.count-in-Same.new.self } in
    let asked = (subst (IsAsked c.args.at) (sym c.self.view_is) (record { there = c.requires.there; may = c.requires.open; agreed = c.requires.agreed; only = c.requires.only })) in
    let heard : HasHeard c.args.at c.new-token.result seen new = same_by seen c.args.at c.fed-place.result c.masked_places-masked.result c.new-token.result c.pass_all-in-Same.new.self c.count-in-Same.new.self asked c.fed-place.ensures c.masked_places-masked.ensures c.in-Same.ensures c.pass_all-in-Same.ensures c.count-in-Same.ensures in
    reached_heard seen new c.args.at c.new-token.result heard c.self.invariant

pub returns-in-Same-clause-ok : goal.returns-in-Same-clause-ok
returns-in-Same-clause-ok c =
    let seen : Kept = record { most = c.self.inside.most; found = c.self.inside.found; rows = c.self.inside.rows; copies = c.self.inside.copies } in
    let new : Kept = record { most = c.self.inside.most; found = c.self.inside.found; rows = c.self.inside.rows; copies = c.count-in-Same.new.self } in
    let asked = (subst (IsAsked c.args.at) (sym c.self.view_is) (record { there = c.requires.there; may = c.requires.open; agreed = c.requires.agreed; only = c.requires.only })) in
    let heard : HasHeard c.args.at c.new-token.result seen new = same_by seen c.args.at c.fed-place.result c.masked_places-masked.result c.new-token.result c.pass_all-in-Same.new.self c.count-in-Same.new.self asked c.fed-place.ensures c.masked_places-masked.ensures c.in-Same.ensures c.pass_all-in-Same.ensures c.count-in-Same.ensures in
    let P : Kept → Type 0 = λ old. HasHeard c.args.at c.new-token.result old new in
    let Q : Token → Type 0 = λ t. HasHeard c.args.at t c.args.self.now new in
    subst Q c.new-token.ensures (subst P c.self.view_is heard)
