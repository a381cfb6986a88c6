use Rattle.rd_operator.proofs.Words.{word_is_text}
use Rattle.rd_operator.proofs.asked.asked_in.Goals as goal

pub returns-in-Err : goal.returns-in-Err
returns-in-Err c = absurd (c.in-Err.ensures.cases.0 (word_is_text c.behind.result.now c.word-path.result.now c.word-path.ensures))
