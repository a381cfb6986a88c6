-- Toy obeys the laws of a grammar.
use Rattle.std.proofs.Common.{◌≡◌, ◌≢◌, ℕ, ◌<◌, ◌≤◌, Bool, true, false, cond, List, [], ◌∷◌, ◌++◌, length, take, length-take, refl, sym, ap, ◌∙◌, arith}
use Rattle.std.specs.Prelude.{◌==◌, ◌&&◌, slice_index, codes}
use Rattle.rd_base.specs.WordCut.{words_of}
use Rattle.rd_base.specs.declared.values.Scan.{Scan}
use Rattle.rd_base.specs.declared.values.Scan.TheVariants.{Whole, Bad}
use Rattle.rd_base.specs.declared.values.Part.{Part}
use Rattle.rd_base.specs.declared.values.Part.TheVariants.{Request, Reply}
use Rattle.rd_base.specs.declared.values.Phase.{Phase}
use Rattle.rd_base.specs.declared.values.Note.{Note}
use Rattle.rd_dialect.specs.Grammar.{scan_of, tokens_of}
use Rattle.rd_dialect.specs.Laws.{Lawful, IsFront}
use Rattle.rd_dialect.specs.Scanned.{scan_bounds}
use Rattle.rd_dialect.specs.Joined.{line_online, words_count}
use Rattle.rd_toy.specs.ToyGrammar.{toy, scan_nothing, scan_kinds, scan_request, scan_answer, scan_until_end, answer_kinds, scan_reply, shown_from, phase_after}
use Rattle.rd_toy.specs.ToyScanned.{kinds_line, kinds_stays, kinds_bad, kinds_itself, answer_bounds, answer_stays, answer_bad, answer_itself}

-- what the laws ask of a scan, of bytes and of whether their link has ended
record IsScan (scan : List ℕ → Bool → Scan) : Type 0 where
  bounds : (bytes : List ℕ) (ended : Bool) (len : ℕ) → scan bytes ended ≡ Whole len → (0 < len) × (len ≤ length bytes)
  itself : (bytes : List ℕ) (ended : Bool) (len : ℕ) → scan bytes ended ≡ Whole len → scan (take len bytes) ended ≡ Whole len
  stays : (bytes more : List ℕ) (ended : Bool) (len : ℕ) → scan bytes false ≡ Whole len → scan (bytes ++ more) ended ≡ Whole len
  bad : (bytes more : List ℕ) (ended : Bool) → scan bytes false ≡ Bad → scan (bytes ++ more) ended ≡ Bad

nothing_whole : (bytes : List ℕ) (len : ℕ) → scan_nothing bytes ≢ Whole len
nothing_whole [] len e = cc e
nothing_whole (b ∷ bytes) len e = cc e

nothing_bad : (bytes more : List ℕ) → scan_nothing bytes ≡ Bad → scan_nothing (bytes ++ more) ≡ Bad
nothing_bad [] more e = absurd (cc e)
nothing_bad (b ∷ bytes) more e = refl

scans_nothing : IsScan (λ bytes ended. scan_nothing bytes)
scans_nothing =
    record {
      bounds = λ bytes ended len e. absurd (nothing_whole bytes len e);
      itself = λ bytes ended len e. absurd (nothing_whole bytes len e);
      stays = λ bytes more ended len e. absurd (nothing_whole bytes len e);
      bad = λ bytes more ended e. nothing_bad bytes more e;
    }

scans_kinds : (kinds : List ℕ) (code : ℕ) → IsScan (λ bytes ended. scan_kinds kinds code bytes)
scans_kinds kinds code =
    record {
      bounds = λ bytes ended len e. scan_bounds bytes len (kinds_line kinds code bytes len e);
      itself = λ bytes ended len e. kinds_itself kinds code bytes len e;
      stays = λ bytes more ended len e. kinds_stays kinds code bytes more len e;
      bad = λ bytes more ended e. kinds_bad kinds code bytes more e;
    }

scans_answer : (kinds : List ℕ) → IsScan (λ bytes ended. scan_answer kinds bytes)
scans_answer kinds =
    record {
      bounds = λ bytes ended len e. answer_bounds kinds bytes len e;
      itself = λ bytes ended len e. answer_itself kinds bytes len e;
      stays = λ bytes more ended len e. answer_stays kinds bytes more len e;
      bad = λ bytes more ended e. answer_bad kinds bytes more e;
    }

end_len : (bytes : List ℕ) (ended : Bool) (len : ℕ) → scan_until_end bytes ended ≡ Whole len → (ended ≡ true) × (0 < len) × (len ≡ length bytes)
end_len [] ended len e = absurd (cc e)
end_len (b ∷ bytes) true len e = let same : length (b ∷ bytes) ≡ len = cc e in (refl, omega arith, sym same)
end_len (b ∷ bytes) false len e = absurd (cc e)

end_never_bad : (bytes : List ℕ) (ended : Bool) → scan_until_end bytes ended ≢ Bad
end_never_bad [] ended e = cc e
end_never_bad (b ∷ bytes) true e = cc e
end_never_bad (b ∷ bytes) false e = cc e

take_all : (bytes : List ℕ) → take (length bytes) bytes ≡ bytes
take_all [] = refl
take_all (b ∷ bytes) = ap (λ rest. b ∷ rest) (take_all bytes)

end_itself : (bytes : List ℕ) (ended : Bool) (len : ℕ) → scan_until_end bytes ended ≡ Whole len → scan_until_end (take len bytes) ended ≡ Whole len
end_itself bytes ended len e = ap (λ n. scan_until_end (take n bytes) ended) (end_len bytes ended len e).2 ∙ ap (λ b. scan_until_end b ended) (take_all bytes) ∙ e

scans_until_end : IsScan scan_until_end
scans_until_end =
    record {
      bounds = λ bytes ended len e. let r = end_len bytes ended len e in (r.1, omega (arith, r.2));
      itself = end_itself;
      stays = λ bytes more ended len e. absurd (cc ((end_len bytes false len e).0));
      bad = λ bytes more ended e. absurd (end_never_bad bytes false e);
    }

scans_if : (t : Bool) (p q : List ℕ → Bool → Scan) → IsScan p → IsScan q → IsScan (λ bytes ended. cond t (p bytes ended) (q bytes ended))
scans_if true p q f g = f
scans_if false p q f g = g

scans_request : (phase : ℕ) → IsScan (λ bytes ended. scan_request phase bytes)
scans_request phase =
    scans_if (phase == 0) (λ bytes ended. scan_kinds (codes "u") 7 bytes) (λ bytes ended. cond (phase == 1) (scan_kinds (codes "qrx") 7 bytes) (scan_nothing bytes)) (scans_kinds (codes "u") 7)
    (scans_if (phase == 1) (λ bytes ended. scan_kinds (codes "qrx") 7 bytes) (λ bytes ended. scan_nothing bytes) (scans_kinds (codes "qrx") 7) scans_nothing)

scans_reply : (phase note : ℕ) → IsScan (scan_reply phase note)
scans_reply phase note =
    scans_if (note == 1) (λ bytes ended. scan_answer (answer_kinds phase) bytes) (λ bytes ended. cond (note == 2) (scan_until_end bytes ended) (scan_nothing bytes)) (scans_answer (answer_kinds phase))
    (scans_if (note == 2) scan_until_end (λ bytes ended. scan_nothing bytes) scans_until_end scans_nothing)

scans : (part : Part) (phase : Phase) (note : Note) → IsScan (scan_of toy part phase note)
scans Request phase note = scans_request phase.0
scans Reply phase note = scans_reply phase.0 note.0

online : (part : Part) (phase : Phase) (note : Note) (bytes more : List ℕ) (whole : Bool) → IsFront (words_of false bytes) (tokens_of toy part phase note (bytes ++ more) whole)
online part phase note bytes more true = line_online true bytes more
online part phase note bytes more false = line_online false bytes more

all_left : (part : Part) (phase : Phase) (note : Note) (bytes : List ℕ) (whole : Bool) → words_of whole bytes ≡ tokens_of toy part phase note bytes whole
all_left part phase note bytes true = refl
all_left part phase note bytes false = refl

-- the phase after a farewell is 2
last : (phase note : ℕ) (bytes : List ℕ) (len : ℕ) → (note == 3) ≡ true → scan_request (phase_after phase note []) bytes ≢ Whole len
last phase note bytes len farewell e =
    nothing_whole bytes len (sym (ap (λ t. scan_request (cond t 2 (cond (phase == 0 && slice_index [] (shown_from note []) == 121) 1 phase)) bytes) farewell) ∙ e)

note_free : (phase : Phase) (note other : Note) (bytes : List ℕ) (whole : Bool) → tokens_of toy Request phase note bytes whole ≡ tokens_of toy Request phase other bytes whole
note_free phase note other bytes true = refl
note_free phase note other bytes false = refl

pub toy_lawful : Lawful toy
toy_lawful =
    record {
      within = λ part phase note bytes ended len is. ((scans part phase note).bounds bytes ended len is).1;
      some_bytes = λ part phase note bytes ended len is. ((scans part phase note).bounds bytes ended len is).0;
      itself = λ part phase note bytes ended len is.
          let size : len ≡ length (take len bytes) = omega (arith, length-take len bytes, ((scans part phase note).bounds bytes ended len is).1) in
          (scans part phase note).itself bytes ended len is ∙ ap Whole size;
      stays = λ part phase note bytes more ended len is. (scans part phase note).stays bytes more ended len is;
      hopeless = λ part phase note bytes more ended len is whole. let bad = (scans part phase note).bad bytes more ended is in cc;
      online = λ part phase note bytes more whole stands. online part phase note bytes more whole;
      all_left = λ part phase note bytes whole stands. all_left part phase note bytes whole;
      flat_len = λ part phase note bytes whole. omega arith;
      token_count = λ part phase note flat whole. words_count whole flat;
      flat_front = λ part phase note bytes more whole stands. record { rest = more; is = refl };
      last = λ phase note bytes len farewell. last phase.0 note.0 bytes len farewell;
      note_free = note_free;
      flat_note_free = λ phase note other bytes whole. refl;
    }
