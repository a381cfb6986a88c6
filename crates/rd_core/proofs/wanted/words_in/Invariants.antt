use Rattle.std.proofs.Common.{◌≡◌, ◌≤◌, drop, take, map, length}
use Rattle.std.specs.Prelude.{option_map, fold}
use Rattle.std.specs.List.{flat_map}
use Rattle.rd_rules.specs.Given.{releases}
use Rattle.rd_rules.specs.Step.{sent_before}
use Rattle.rd_rules.specs.Wanted.{add_word, unknown_words, words_read}
use Rattle.rd_reading.specs.Seen.{seen_request, seen_exchange, seen_reading, rules_of, rows_are}
use Rattle.rd_core.specs.OwnLists.{latest_of}
use Rattle.rd_core.proofs.wanted.words_in.Given as goal

abbrev pub invariant-loop-exchange : goal.invariant-loop-exchange
invariant-loop-exchange g l =
    let rules = rules_of (g.D.Dialect.grammar l.dialect) l.setup in
    let out = option_map seen_request l.reading.out in
    record {
      words : take 4096 (fold add_word l.words (flat_map (unknown_words rules) (drop (sent_before l.skips) (releases rules (latest_of l.own l.later) (map seen_exchange (drop l.exchange-index l.reading.done.items)) out))))
          ≡ words_read rules l.own l.was_out (seen_reading l.reading);
      most : length l.words ≤ 4096;
      rows : rows_are rules (drop l.exchange-index l.reading.done.items);
    }
