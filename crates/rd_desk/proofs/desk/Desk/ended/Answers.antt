use Rattle.std.proofs.Common.{not, sym, ap, ◌∙◌, subst, arith}
use Rattle.std.specs.List.{list_any}
use Rattle.rd_board.specs.Board.{Accepts}
use Rattle.rd_board.specs.Notes.{has_id}
use Rattle.rd_doors.specs.Visits.{Holds}
use Rattle.rd_desk.specs.Desk.{IsOrderly}
use Rattle.rd_desk.proofs.Orderly.{id_held, is_new, orderly_ended}
use Rattle.rd_desk.proofs.At.{at_ended}
use Rattle.rd_desk.proofs.desk.Desk.ended.Goals as goal

pub note-accepted-requires-clause-id : goal.note-accepted-requires-clause-id
note-accepted-requires-clause-id c =
    id_held c.self.inside.board c.self.inside.ids.items c.args.note.now.id c.self.invariant.0 (subst (λ d. Holds c.args.note.now.id d.ids) (sym c.self.view_is) c.requires.id)

pub invariant_of-self : goal.invariant_of-self
invariant_of-self c =
    let held = subst (λ d. Holds c.args.note.now.id d.ids) (sym c.self.view_is) c.requires.id in
    let new = is_new c.self.inside.board c.self.inside.ids.items c.args.note.now.id c.self.invariant.0 held in
    let accepted = c.note-accepted.ensures.accepted (c.note-accepted.ensures.result ∙ ap not new) in
    let room = c.take_out.ensures.room in
    let had = c.self.invariant.1 in (
      subst (IsOrderly c.note-accepted.new.self) (sym c.take_out.ensures.rest) (orderly_ended c.self.inside.board c.note-accepted.new.self c.self.inside.ids.items c.args.note.now c.self.invariant.0 held c.requires.began c.requires.ended accepted),
      omega arith,
    )

pub returns-clause-note : goal.returns-clause-note
returns-clause-note c =
    let held = subst (λ d. Holds c.args.note.now.id d.ids) (sym c.self.view_is) c.requires.id in
    let new = is_new c.self.inside.board c.self.inside.ids.items c.args.note.now.id c.self.invariant.0 held in
    subst (λ d. Accepts d.board c.args.note.now c.note-accepted.new.self) c.self.view_is (c.note-accepted.ensures.accepted (c.note-accepted.ensures.result ∙ ap not new))

pub returns-clause-follows : goal.returns-clause-follows
returns-clause-follows c = λ start calls keeper h.
    let held = subst (λ d. Holds c.args.note.now.id d.ids) (sym c.self.view_is) c.requires.id in
    let new = is_new c.self.inside.board c.self.inside.ids.items c.args.note.now.id c.self.invariant.0 held in
    let accepted = c.note-accepted.ensures.accepted (c.note-accepted.ensures.result ∙ ap not new) in
    at_ended start calls c.args.self.now _ keeper c.args.note.now
    (ap (λ d. list_any (has_id c.args.note.now.id) d.board.latest) (sym c.self.view_is) ∙ new)
    (subst (λ d. Accepts d.board c.args.note.now c.note-accepted.new.self) c.self.view_is accepted)
    (ap (λ d. d.had_fault) c.self.view_is) h
