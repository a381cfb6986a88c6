-- How far the answers of a clock reach.
use Rattle.rd_base.specs.Clocks.{Reach}
use Rattle.rd_net_edge.specs.declared.real_clock.Reached.{Reached}

abbrev pub seen_reach : Reached → Reach
seen_reach r = record { low = r.low; high = r.high }
