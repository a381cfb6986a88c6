use Rattle.std.proofs.Common.{ℕ, [], ◌∷◌, sym, subst}
use Rattle.std.specs.Prelude.{Option, option_map, option_to_list}
use Rattle.rd_desk.specs.Notes.{note_of}
use Rattle.rd_desk.specs.Noted.{Adds}
use Rattle.rd_desk.proofs.Noted.{ended_adds}
use Rattle.rd_desk.proofs.session.leave_note.Goals as goal

pub returns-in-Some-clause-note : goal.returns-in-Some-clause-note
returns-in-Some-clause-note c =
    subst (λ (o : Option ℕ). Adds (option_to_list (option_map (λ id. note_of id c.args.side c.args.dialect c.args.begun.at c.args.ended c.args.summary.now) o)) c.args.desk.now c.ended.new.self) (sym c.in-Some.is)
    (subst (λ n. Adds (n ∷ []) c.args.desk.now c.ended.new.self) c.session_note-note.ensures.note
    (ended_adds c.args.desk.now c.ended.new.self c.session_note-note.result c.ended.ensures.note c.ended.ensures.follows))
