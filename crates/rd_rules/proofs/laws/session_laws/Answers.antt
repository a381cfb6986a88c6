use Rattle.rd_rules.proofs.Stays.{final-append}
use Rattle.rd_rules.proofs.Steps.{reading-append}
use Rattle.rd_rules.proofs.Acted.{sent_stays}
use Rattle.rd_rules.proofs.Endings.{only_stops, never_unstarted, never_no_memory, unsolicited_is_withheld}
use Rattle.rd_rules.proofs.FailedWrites.{failed_final}
use Rattle.rd_rules.proofs.QuietWrites.{sent_same, exchanges_same, masked_same}
use Rattle.rd_rules.proofs.Farewells.{farewells_are_last}
use Rattle.rd_rules.proofs.OwnRows.{own_rows_are_newest}
use Rattle.rd_rules.proofs.Withheld.{withheld_is_unsolicited}
use Rattle.rd_rules.proofs.Silence.{nothing_sent}
use Rattle.rd_rules.proofs.laws.session_laws.Goals as goal

pub returns : goal.returns
returns c = record {
  endings_stay = final-append;
  reads_on = reading-append;
  sent_stays = sent_stays;
  only_stops = only_stops;
  never_unstarted = never_unstarted;
  never_no_memory = never_no_memory;
  silence = nothing_sent;
  failed_writes_end = failed_final;
  failed_writes_send_nothing = sent_same;
  failed_writes_count_nothing = λ r h at w. (exchanges_same r h at w, masked_same r h at w);
  withheld = withheld_is_unsolicited;
  unsolicited = unsolicited_is_withheld;
  farewells_are_last = farewells_are_last;
  own_rows = own_rows_are_newest;
}
