use Rattle.std.proofs.Common.{subst, sym}
use Rattle.rd_reading.specs.declared.exchange.DoneExchange.{DoneExchange}
use Rattle.rd_reading.specs.Whole.{IsDone}
use Rattle.rd_reading.specs.Seen.{seen_exchange}
use Rattle.rd_core.proofs.sending.replies_for.Goals as goal

pub hand_back-requires : goal.hand_back-requires
hand_back-requires g c =
    subst (λ (x : DoneExchange). IsDone (g.D.Dialect.grammar c.args.dialect.now) (seen_exchange x)) (sym c.exchange-item.is)
    (c.requires c.loop-exchange.exchange-index c.exchange-item.result c.loop-exchange-test.true)
