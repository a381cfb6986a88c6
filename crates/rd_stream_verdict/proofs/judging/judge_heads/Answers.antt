use Rattle.std.proofs.Common.{◌∙◌, sym}
use Rattle.rd_stream_verdict.proofs.Masked.{maskable}
use Rattle.rd_stream_verdict.proofs.judging.judge_heads.Goals as goal

pub row_of-requires-clause-soft : goal.row_of-requires-clause-soft
row_of-requires-clause-soft c =
    (maskable c.args.most c.args.place c.args.masked c.args.heads.now (sym c.in-None.ensures) (sym c.is_masked.ensures ∙ c.if-is_masked.true)).soft
