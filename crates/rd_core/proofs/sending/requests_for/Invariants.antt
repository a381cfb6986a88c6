use Rattle.std.proofs.Common.{◌≡◌, ◌++◌, drop, map}
use Rattle.std.specs.Prelude.{option_map}
use Rattle.std.specs.List.{flat_map}
use Rattle.rd_rules.specs.Given.{forwarded, releases}
use Rattle.rd_reading.specs.Seen.{seen_request, seen_exchange, rules_of, rows_are}
use Rattle.rd_rules.specs.Step.{sent_before}
use Rattle.rd_core.specs.OwnLists.{own_at}
use Rattle.rd_core.proofs.sending.requests_for.Given as goal

abbrev pub invariant-loop-place : goal.invariant-loop-place
invariant-loop-place g l =
    let rules = rules_of (g.D.Dialect.grammar l.dialect) l.setup in
    let out = option_map seen_request l.reading.out in
    record {
      sent : l.bytes ++ flat_map (forwarded rules l.link l.told) (drop (sent_before l.skips) (releases rules (own_at l.lists.own l.lists.after l.place) (map seen_exchange (drop l.place l.reading.done.items)) out))
          ≡ flat_map (forwarded rules l.link l.told) (drop (sent_before l.was_out) (releases rules l.lists.own (map seen_exchange l.reading.done.items) out));
      rows : rows_are rules (drop l.place l.reading.done.items);
    }
