use Rattle.std.proofs.Common.{refl, sym, subst, ◌∙◌}
use Rattle.rd_stream_verdict.specs.Kept.{Kept, HasClosed}
use Rattle.rd_stream_verdict.proofs.Steps.{IsOpenIn}
use Rattle.rd_stream_verdict.proofs.EndSteps.{OnlyCloses, wait_closed, skip_closed, reached_closed}
use Rattle.rd_stream_verdict.proofs.stream.StreamVerdict.close.Goals as goal
use Rattle.rd_stream_verdict.proofs.stream.StreamVerdict.close.Goals.{else-has_agreed-via-then-has_agreed+else-is_only_behind, else-has_agreed-via-else-has_agreed}

closes : (c : goal.After-close) → HasClosed c.args.copy (record { most = c.self.inside.most; found = c.self.inside.found; rows = c.self.inside.rows; copies = c.self.inside.copies }) (record { most = c.self.inside.most; found = c.self.inside.found; rows = c.self.inside.rows; copies = c.close.new.self })
closes c =
    let seen : Kept = record { most = c.self.inside.most; found = c.self.inside.found; rows = c.self.inside.rows; copies = c.self.inside.copies } in
    let new : Kept = record { most = c.self.inside.most; found = c.self.inside.found; rows = c.self.inside.rows; copies = c.close.new.self } in
    let only : OnlyCloses c.args.copy seen new = record { most = refl; found = refl; rows = refl; copies = c.close.ensures } in
    let P : Kept → Type 0 = λ v. IsOpenIn c.args.copy v.copies in
    let may : IsOpenIn c.args.copy seen.copies = subst P (sym c.self.view_is) (record { there = c.requires.there; may = c.requires.open }) in
    elim c.else-has_agreed.branch [
      | else-has_agreed-via-then-has_agreed+else-is_only_behind w ↦ wait_closed seen new c.args.copy may (sym c.has_agreed.ensures ∙ w.if-has_agreed.true) (sym w.is_only_behind.ensures ∙ w.if-is_only_behind.false) only
      | else-has_agreed-via-else-has_agreed w ↦ skip_closed seen new c.args.copy (sym c.has_agreed.ensures ∙ w.if-has_agreed.false) only
    ]

pub invariant_of-self : goal.invariant_of-self
invariant_of-self c = reached_closed (record { most = c.self.inside.most; found = c.self.inside.found; rows = c.self.inside.rows; copies = c.self.inside.copies }) (record { most = c.self.inside.most; found = c.self.inside.found; rows = c.self.inside.rows; copies = c.close.new.self }) c.args.copy (closes c) c.self.invariant

pub returns-else-has_agreed : goal.returns-else-has_agreed
returns-else-has_agreed c =
    let new : Kept = record { most = c.self.inside.most; found = c.self.inside.found; rows = c.self.inside.rows; copies = c.close.new.self } in
    let P : Kept → Type 0 = λ old. HasClosed c.args.copy old new in
    subst P c.self.view_is (closes c)
