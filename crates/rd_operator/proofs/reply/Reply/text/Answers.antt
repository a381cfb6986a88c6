use Rattle.std.proofs.Common.{ap, ◌∙◌}
use Rattle.rd_operator.specs.Texts.{text_with, reply_text}
use Rattle.rd_operator.proofs.reply.Reply.text.Goals as goal

pub returns-in-Ok : goal.returns-in-Ok
unfolding reply_text
returns-in-Ok c = c.in-Ok.ensures ∙ ap (text_with c.self.inside.status) c.as_str.ensures.value ∙ ap reply_text c.self.view_is
