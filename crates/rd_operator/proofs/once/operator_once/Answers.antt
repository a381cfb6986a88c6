use Rattle.rd_operator.proofs.HeadWords.{head_words}
use Rattle.rd_operator.proofs.once.operator_once.Goals as goal

pub returns-clause-words : goal.returns-clause-words
returns-clause-words g c = head_words
