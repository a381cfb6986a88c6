use Rattle.rd_pg_tokens.proofs.NamedColumns.{IsReached}
use Rattle.rd_pg_tokens.proofs.columns.named_len.Given as goal

abbrev pub invariant-loop : goal.invariant-loop
invariant-loop l = IsReached l.rules l.count l.names l.counter l.named l.at
