-- Plain lines: a unit ends with its only line feed.
use Rattle.std.specs.Prelude.{ℕ, ◌+◌, ◌==◌, ◌++◌, true, false, if◌then◌else◌, List, [], ◌∷◌, drop}
use Rattle.rd_base.specs.WordCut.{words_of}
use Rattle.rd_base.specs.Swap.{swap_words}
use Rattle.rd_base.specs.declared.values.Scan.{Scan}
use Rattle.rd_base.specs.declared.values.Scan.TheVariants.{Whole, More, Bad, TooBig, Unsupported}
use Rattle.rd_dialect.specs.Grammar.{Grammar}
use Rattle.rd_token_map.specs.WordsIn.{words_in}

-- one byte more in front
abbrev pub one_more : Scan → Scan
one_more (Whole len) = Whole (len + 1)
one_more More = More
one_more Bad = Bad
one_more TooBig = TooBig
one_more (Unsupported code) = Unsupported code

-- whole at the first line feed
abbrev pub scan_line : List ℕ → Scan
scan_line [] = More
scan_line (b ∷ bytes) = if b == 10 then Whole 1 else one_more (scan_line bytes)

abbrev pub line : Grammar
line =
    record {
      first_phase = record { 0 = 0 };
      scan_request = λ phase bytes. scan_line bytes;
      scan_reply = λ phase note bytes ended. scan_line bytes;
      note_of = λ phase unit. record { 0 = 1 };
      phase_after = λ phase note reply. record { 0 = 0 };
      is_farewell = λ note. false;
      early_replies = false;
      learns_rows = true;
      shown_from = λ phase note reply. 0;
      flat = λ part phase note bytes whole. bytes;
      tokens = λ part phase note unit. words_of true unit;
      closed = λ part phase note bytes. words_of false bytes;
      first_cursor = record { at = 0; mode = 0; left = 0; mark = 0; beside = record { from = 0; to = 0; at = 0; left = 0 } };
      left = λ part phase note flat whole cursor. words_of whole (drop cursor.at flat);
      asked = λ phase note unit. words_in unit;
      to_copy = λ phase note copy own told unit. swap_words copy (own ++ told) unit;
    }
