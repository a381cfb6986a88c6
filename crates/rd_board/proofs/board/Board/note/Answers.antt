use Rattle.std.proofs.Common.{◌+◌, ◌++◌, ◌∷◌, [], ap, sym, ◌∙◌, arith}
use Rattle.std.specs.Prelude.{count_by, option_to_list}
use Rattle.std.specs.List.{list_any}
use Rattle.rd_board.specs.Notes.{fresh, has_id, is_unkept, latest, let_go}
use Rattle.rd_board.specs.Board.{capped}
use Rattle.rd_board.proofs.Calls.{after_accepted}
use Rattle.rd_board.proofs.board.Board.note.Goals as goal

pub returns-clause-after : goal.returns-clause-after
returns-clause-after c = λ calls h.
    let new = ap (λ v. list_any (has_id c.args.entry.now.id) v.latest) (sym c.self.view_is) ∙ sym c.holds.ensures ∙ c.if-holds.false in
    let gone = c.unkept_in.ensures ∙ ap (λ o. count_by is_unkept (option_to_list o)) c.push-gone.ensures.let_go in
    after_accepted c.args.self.now _ c.args.entry.now calls new (record {
      drawn = ap (λ v. v.drawn) c.self.view_is;
      live = omega (arith, c.requires.live, ap (λ v. v.live) c.self.view_is);
      sessions = c.saturating_add-self-inside-2.ensures ∙ ap (λ v. capped (v.sessions + 1)) c.self.view_is;
      exchanges = c.saturating_add-self-inside-3.ensures ∙ ap (λ v. capped (v.exchanges + c.args.entry.now.exchanges)) c.self.view_is;
      masked = c.saturating_add-self-inside-4.ensures ∙ ap (λ v. capped (v.masked + c.args.entry.now.masked)) c.self.view_is;
      unkept = c.saturating_add-self-inside.ensures ∙ ap (λ k. capped (c.self.inside.unkept + k)) gone ∙ ap (λ v. capped (v.unkept + count_by is_unkept (option_to_list (let_go v.latest)))) c.self.view_is;
      latest = c.push-gone.ensures.notes ∙ ap (λ v. latest (v.latest ++ fresh c.args.entry.now ∷ [])) c.self.view_is;
    }) h
