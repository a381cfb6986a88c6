use Rattle.std.proofs.Common.{◌+◌, ◌%◌, get_or, set, subst, sym, ap, ◌∙◌}
use Rattle.std.specs.List.{position_or_len}
use Rattle.rd_board.specs.Notes.{fresh, is_unkept}
use Rattle.rd_board.specs.Latest.{KeepsLatest}
use Rattle.rd_board.proofs.Pushes.{had_room, was_full, room_keeps, full_keeps}
use Rattle.rd_board.proofs.latest.Latest.push.Goals as goal
use Rattle.rd_board.proofs.latest.Latest.push.Goals.{in-Some, in_default}

pub invariant_of-self : goal.invariant_of-self
invariant_of-self c = elim c.match-gone.branch [
  | in-Some w ↦
      let full = was_full c.self.inside.notes c.push_back-gone.new.self c.self.inside.counts.items c.self.inside.first_unkept (fresh c.args.note.now) w.in-Some.oldest c.self.invariant c.push_back-gone.ensures.items (sym w.in-Some.is ∙ c.push_back-gone.ensures.value) in
      let up = c.count_up.ensures ∙ ap (λ s. set s.counts.items (c.args.note.now.id % 16384) (get_or s.counts.items (c.args.note.now.id % 16384) 0 + 1)) w.self-inside-is in
      let first = c.unkept_from-self-inside.ensures ∙ ap (λ s. position_or_len is_unkept s.notes.items) w.self-inside-is in
      subst (λ s. KeepsLatest s.notes c.count_up.new.counts.items c.unkept_from-self-inside.result) (sym w.self-inside-is)
      (full_keeps c.self.inside.notes c.push_back-gone.new.self c.self.inside.counts.items w.count_down.new.counts.items c.count_up.new.counts.items c.self.inside.first_unkept c.unkept_from-self-inside.result (fresh c.args.note.now) w.in-Some.oldest c.self.invariant full w.count_down.ensures up first)
  | in_default w ↦
      let room = had_room c.self.inside.notes c.push_back-gone.new.self c.self.inside.counts.items c.self.inside.first_unkept (fresh c.args.note.now) c.self.invariant c.push_back-gone.ensures.items (sym w.in_default.is ∙ c.push_back-gone.ensures.value) in
      let up = c.count_up.ensures ∙ ap (λ s. set s.counts.items (c.args.note.now.id % 16384) (get_or s.counts.items (c.args.note.now.id % 16384) 0 + 1)) w.self-inside-is in
      let first = c.unkept_from-self-inside.ensures ∙ ap (λ s. position_or_len is_unkept s.notes.items) w.self-inside-is in
      subst (λ s. KeepsLatest s.notes c.count_up.new.counts.items c.unkept_from-self-inside.result) (sym w.self-inside-is)
      (room_keeps c.self.inside.notes c.push_back-gone.new.self c.self.inside.counts.items c.count_up.new.counts.items c.self.inside.first_unkept c.unkept_from-self-inside.result (fresh c.args.note.now) c.self.invariant room up first)
]
