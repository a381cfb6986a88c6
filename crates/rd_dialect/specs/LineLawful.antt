-- Line obeys the laws of a grammar.
use Rattle.std.proofs.Common.{◌≡◌, ℕ, Bool, true, false, List, ◌++◌, length, take, length-take, refl, ap, ◌∙◌, arith}
use Rattle.rd_base.specs.WordCut.{words_of}
use Rattle.rd_base.specs.declared.values.Scan.TheVariants.{Whole}
use Rattle.rd_base.specs.declared.values.Part.{Part}
use Rattle.rd_base.specs.declared.values.Phase.{Phase}
use Rattle.rd_base.specs.declared.values.Note.{Note}
use Rattle.rd_base.specs.declared.values.Part.TheVariants.{Request, Reply}
use Rattle.rd_dialect.specs.Grammar.{scan_of, tokens_of}
use Rattle.rd_dialect.specs.Laws.{Lawful, IsFront}
use Rattle.rd_dialect.specs.LineGrammar.{line, scan_line}
use Rattle.rd_dialect.specs.Joined.{line_online, words_count}
use Rattle.rd_dialect.specs.Scanned.{scan_bounds, scan_itself, scan_stays, scan_never_bad}

scans : (part : Part) (phase : Phase) (note : Note) (bytes : List ℕ) (ended : Bool) → scan_of line part phase note bytes ended ≡ scan_line bytes
scans Request phase note bytes ended = refl
scans Reply phase note bytes ended = refl

online : (part : Part) (phase : Phase) (note : Note) (bytes more : List ℕ) (whole : Bool) → IsFront (words_of false bytes) (tokens_of line part phase note (bytes ++ more) whole)
online part phase note bytes more true = line_online true bytes more
online part phase note bytes more false = line_online false bytes more

all_left : (part : Part) (phase : Phase) (note : Note) (bytes : List ℕ) (whole : Bool) → words_of whole bytes ≡ tokens_of line part phase note bytes whole
all_left part phase note bytes true = refl
all_left part phase note bytes false = refl

note_free : (phase : Phase) (note other : Note) (bytes : List ℕ) (whole : Bool) → tokens_of line Request phase note bytes whole ≡ tokens_of line Request phase other bytes whole
note_free phase note other bytes true = refl
note_free phase note other bytes false = refl

pub line_lawful : Lawful line
line_lawful =
    record {
      within = λ part phase note bytes ended len is. (scan_bounds bytes len (rw scans at is)).1;
      some_bytes = λ part phase note bytes ended len is. (scan_bounds bytes len (rw scans at is)).0;
      itself = λ part phase note bytes ended len is.
          let unit = rw scans at is in
          let size : len ≡ length (take len bytes) = omega (arith, length-take len bytes, (scan_bounds bytes len unit).1) in
          rw scans (scan_itself bytes len unit ∙ ap Whole size);
      stays = λ part phase note bytes more ended len is. rw scans (scan_stays bytes more len (rw scans at is));
      hopeless = λ part phase note bytes more ended len is. absurd (scan_never_bad bytes (rw scans at is));
      online = λ part phase note bytes more whole stands. online part phase note bytes more whole;
      all_left = λ part phase note bytes whole stands. all_left part phase note bytes whole;
      flat_len = λ part phase note bytes whole. omega arith;
      token_count = λ part phase note flat whole. words_count whole flat;
      flat_front = λ part phase note bytes more whole stands. record { rest = more; is = refl };
      last = λ phase note bytes len is. absurd (cc is);
      note_free = note_free;
      flat_note_free = λ phase note other bytes whole. refl;
    }
