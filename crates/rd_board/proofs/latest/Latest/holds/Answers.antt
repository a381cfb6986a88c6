use Rattle.std.proofs.Common.{◌≡◌, ◌%◌, get_or, sym, ap, ◌∙◌, arith}
use Rattle.std.specs.List.{list_any}
use Rattle.std.proofs.lemmas.Bool.{le-ltb}
use Rattle.rd_board.specs.Notes.{has_id}
use Rattle.rd_board.proofs.Counts.{not_held, count_at}
use Rattle.rd_board.proofs.latest.Latest.holds.Goals as goal

pub returns-else-index-gt0 : goal.returns-else-index-gt0
returns-else-index-gt0 c =
    let none : get_or c.self.inside.counts.items (c.args.id % 16384) 0 ≡ 0 = sym (count_at c.self.inside.counts.items c.args.id c.bucket_of.result c.index.result.now c.self.invariant.counts_ids.buckets c.bucket_of.ensures.value c.index.ensures) ∙ omega arith in
    le-ltb 0 c.index.result.now c.if-index-gt0.false ∙ sym (not_held c.self.inside.notes.items c.self.inside.counts.items c.args.id c.self.invariant.counts_ids none) ∙ ap (list_any (has_id c.args.id)) c.self.view_is
