use Rattle.std.proofs.Common.{◌≡◌, ◌≤◌, ◌%◌, get_or, subst, sym, ap, ◌∙◌, arith}
use Rattle.std.specs.List.{list_any, position_or_len}
use Rattle.rd_board.specs.Notes.{has_id, is_unkept, is_unkept_of, mark_first}
use Rattle.rd_board.proofs.Counts.{not_held, count_at}
use Rattle.rd_board.proofs.Firsts.{first-narrower}
use Rattle.rd_board.proofs.Marks.{marked_absent, unkept_of_narrower}
use Rattle.rd_board.proofs.Pushes.{mark_from, mark_keeps, mark_is}
use Rattle.rd_board.proofs.latest.Latest.mark.Goals as goal

pub returns-then-index-eq0 : goal.returns-then-index-eq0
returns-then-index-eq0 c =
    let none : get_or c.self.inside.counts.items (c.args.id % 16384) 0 ≡ 0 = sym (count_at c.self.inside.counts.items c.args.id c.bucket_of.result c.index.result.now c.self.invariant.counts_ids.buckets c.bucket_of.ensures.value c.index.ensures) ∙ c.if-index-eq0.true in
    sym (marked_absent c.args.id c.args.self.now (ap (list_any (has_id c.args.id)) (sym c.self.view_is) ∙ not_held c.self.inside.notes.items c.self.inside.counts.items c.args.id c.self.invariant.counts_ids none))

pub unkept_of-place-requires : goal.unkept_of-place-requires
unkept_of-place-requires c =
    omega (arith, c.self.invariant.first, first-narrower is_unkept (is_unkept_of c.args.id) (unkept_of_narrower c.args.id) c.self.inside.notes.items)

pub unkept_from-self-inside-requires : goal.unkept_from-self-inside-requires
unkept_from-self-inside-requires c =
    subst (λ xs. c.self.inside.first_unkept ≤ position_or_len is_unkept xs) (sym c.mark_at.ensures.items) (omega (arith, c.self.invariant.first, mark_from c.self.inside.notes.items c.unkept_of-place.result))

pub invariant_of-self : goal.invariant_of-self
invariant_of-self c =
    mark_keeps c.self.inside.notes c.mark_at.new.notes c.self.inside.counts.items c.self.inside.first_unkept c.unkept_from-self-inside.result c.unkept_of-place.result c.self.invariant c.mark_at.ensures.items c.mark_at.ensures.capacity c.unkept_from-self-inside.ensures

pub returns : goal.returns
returns c = c.mark_at.ensures.items ∙ mark_is c.args.id c.self.inside.notes.items c.unkept_of-place.result c.unkept_of-place.ensures ∙ ap (mark_first c.args.id) c.self.view_is
