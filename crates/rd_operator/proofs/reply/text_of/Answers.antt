use Rattle.std.proofs.Common.{refl}
use Rattle.rd_operator.proofs.reply.text_of.Goals as goal

pub returns : goal.returns
returns c =
    rw (c.in_ok-push_str-5.ensures.bytes, c.in_ok-push_str-4.ensures.bytes, c.in_ok-push_str-3.ensures.bytes, c.allow_line.ensures, c.in_ok-push_str-2.ensures.bytes, c.as_str.ensures.value, c.in_ok-size.ensures, c.in_ok-push_str.ensures.bytes, c.in_ok-text.ensures) refl
