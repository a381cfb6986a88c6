use Rattle.std.proofs.Common.{refl}
use Rattle.std.specs.Fmt.{digits}
use Rattle.serde_json.proofs.OnLiterals.{serde_json_on_literals}
use Rattle.rd_operator.specs.Texts.{reply_text, refusal}
use Rattle.rd_operator.proofs.once.write_no_memory.Goals as goal

pub returns-clause-reply : goal.returns-clause-reply
unfolding reply_text serde_json_on_literals digits
returns-clause-reply g c = c.write_text.ensures.reply (refusal 500) refl c.as_bytes.ensures.value
