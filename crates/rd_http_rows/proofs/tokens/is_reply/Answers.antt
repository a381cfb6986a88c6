use Rattle.std.proofs.Common.{◌≡◌, rules, length, false, sym, ◌∙◌}
use Rattle.rd_base.specs.declared.values.Scan.TheVariants.{Whole}
use Rattle.rd_dialect.specs.Grammar.IsReply.{Scanned}
use Rattle.rd_http_rows.proofs.tokens.is_reply.Goals as goal

pub returns : goal.returns
returns c =
    λ same.
    let is : c.scan_reply.result ≡ Whole (length c.args.reply.now) = search rules in
    Scanned false (sym c.scan_reply.ensures.scan ∙ is)
