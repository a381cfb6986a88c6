use Rattle.std.proofs.Common.{rules}
use Rattle.std.proofs.lemmas.Fn.{filter_same}
use Rattle.rd_shared_book.proofs.book_rows.drop_shown.Goals as goal

pub returns-clause-kept : goal.returns-clause-kept
returns-clause-kept c = rw (← c.new-word.ensures) (filter_same _ _ _ (λ x b f' k. search rules) _ _ c.retain.ensures.filtered)
