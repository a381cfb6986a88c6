-- A write that failed reads nothing: what is sent, agreed and masked stays.
use Rattle.std.proofs.Common.{◌≡◌, ℕ, Bool, false, cond, List, [], ◌∷◌, ◌++◌, length, map, Option, Some, None, refl, sym, ap, ap₂, ◌∙◌, append-nil}
use Rattle.std.specs.Prelude.{is_some, nat_le, option_map, option_and_then, unwrap_or}
use Rattle.std.proofs.lemmas.List.Concat.{flat_map-append}
use Rattle.rd_base.specs.Words.{last_of_list, without_last}
use Rattle.rd_base.specs.History.{History, Entry, Row, stream, ended, piece_of, ends, shortest}
use Rattle.rd_base.specs.declared.values.Link.{Link}
use Rattle.rd_base.specs.declared.values.Ending.{Ending}
use Rattle.rd_rules.specs.Exchange.{Rules, Reading, reading, read, open_of, askers, answerers, released}
use Rattle.rd_rules.specs.Given.{given, given_of, releases, told_rows, released_count, agreed_on, masked_on}
use Rattle.rd_rules.specs.Trouble.{unsolicited_at}
use Rattle.rd_rules.specs.Sent.{final, acted, sent, exchanges, masked}
use Rattle.rd_rules.proofs.Acted.{acted_live, acted_next, some_stop, last_of}
use Rattle.rd_rules.proofs.Stays.{shortest_from-append}
use Rattle.rd_rules.proofs.Stops.{none_so_far}
use Rattle.rd_rules.specs.Laws.{failed_write}
use Rattle.rd_rules.proofs.FailedWrites.{any_snoc, or_false}

stream_same : (h : History) (at : ℕ) (w : Link) (l : ℕ) → stream l (h ++ failed_write at w ∷ []) ≡ stream l h
stream_same h at w l = flat_map-append (λ (e : Entry). piece_of l e.what) h (failed_write at w ∷ []) ∙ append-nil (stream l h)

ended_same : (h : History) (at : ℕ) (w : Link) (l : ℕ) → ended l (h ++ failed_write at w ∷ []) ≡ ended l h
ended_same h at w l = any_snoc (λ e. ends l e.what) h (failed_write at w) ∙ or_false (ended l h)

opens_same : (h : History) (at : ℕ) (w : Link) (ls : List ℕ) → map (open_of (h ++ failed_write at w ∷ [])) ls ≡ map (open_of h) ls
opens_same h at w [] = refl
opens_same h at w (l ∷ ls) = ap₂ (λ x xs. x ∷ xs) (ap₂ (λ b e. record { link = l; bytes = b; is_ended = e }) (stream_same h at w l) (ended_same h at w l)) (opens_same h at w ls)

pub reading_same : (r : Rules) (h : History) (at : ℕ) (w : Link) → reading r (h ++ failed_write at w ∷ []) ≡ reading r h
reading_same r h at w =
    ap₂ (λ asking answering. read r.grammar r.limits.mask r.limits.exchanges_max (record { phase = r.grammar.first_phase; asking = asking; answering = answering }))
    (opens_same h at w (askers r.side r.limits.copies)) (opens_same h at w (answerers r.side r.limits.copies))

abbrev reaches : Rules → ℕ → History → Bool
reaches r j g = nat_le j (released_count r g)

abbrev told_by : Option History → List Row
told_by o = unwrap_or (option_map (λ (e : Entry). e.told) (option_and_then last_of_list o)) []

told_same : (r : Rules) (h : History) (at : ℕ) (w : Link) (j : ℕ) → told_rows r (h ++ failed_write at w ∷ []) j ≡ told_rows r h j
told_same r h at w j = by (shortest (reaches r j) h) refl
  where
    later : History
    later = h ++ failed_write at w ∷ []

    same_count : reaches r j later ≡ reaches r j h
    same_count = ap (λ (now : Reading). nat_le j (length (released now))) (reading_same r h at w)

    by : (o : Option History) → shortest (reaches r j) h ≡ o → told_by (shortest (reaches r j) later) ≡ told_by (shortest (reaches r j) h)
    by (Some g) is = ap told_by (shortest_from-append (reaches r j) [] h (failed_write at w ∷ []) g is ∙ sym is)
    by None is =
        let so_far = none_so_far (reaches r j) [] h (failed_write at w ∷ []) is in
        let off : reaches r j later ≡ false = same_count ∙ so_far.0 in
        ap told_by (so_far.1 ∙ ap (λ b. cond b (Some h) (cond (reaches r j later) (Some later) None)) so_far.0 ∙ ap (λ b. cond b (Some later) None) off ∙ sym is)

given_same : (r : Rules) (h : History) (at : ℕ) (w : Link) (l : ℕ) → given r l (h ++ failed_write at w ∷ []) ≡ given r l h
given_same r h at w l =
    ap (λ (now : Reading). given_of r l (told_rows r (h ++ failed_write at w ∷ [])) now.done 1 (releases r [] now.done now.out)) (reading_same r h at w)
    ∙ ap (λ told. given_of r l told (reading r h).done 1 (releases r [] (reading r h).done (reading r h).out)) (λ i j. told_same r h at w j i)

-- where the session acted up to h before, it acts up to h and this entry; else where it did
acts : (r : Rules) (h : History) (at : ℕ) (w : Link) (A : Type 0) (f : History → A) → f (h ++ failed_write at w ∷ []) ≡ f h → f (acted r (h ++ failed_write at w ∷ [])) ≡ f (acted r h)
acts r h at w A f same = by (final r h) refl
  where
    by : (o : Option Ending) → final r h ≡ o → f (acted r (h ++ failed_write at w ∷ [])) ≡ f (acted r h)
    by (Some x) is = ap f (some_stop r h (failed_write at w) (ap is_some is)).0
    by None is =
        ap f (acted_next r h (failed_write at w) is (ap (λ o. unsolicited_at r o (reading r (without_last (h ++ failed_write at w ∷ [])))) (last_of h (failed_write at w))))
        ∙ same ∙ ap f (sym (acted_live r h is))

pub sent_same : (r : Rules) (h : History) (at : ℕ) (w : Link) (l : ℕ) → sent r l (h ++ failed_write at w ∷ []) ≡ sent r l h
sent_same r h at w l = acts r h at w (List ℕ) (given r l) (given_same r h at w l)

pub exchanges_same : (r : Rules) (h : History) (at : ℕ) (w : Link) → exchanges r (h ++ failed_write at w ∷ []) ≡ exchanges r h
exchanges_same r h at w = acts r h at w ℕ (λ g. agreed_on r.side (reading r g)) (ap (agreed_on r.side) (reading_same r h at w))

pub masked_same : (r : Rules) (h : History) (at : ℕ) (w : Link) → masked r (h ++ failed_write at w ∷ []) ≡ masked r h
masked_same r h at w = acts r h at w ℕ (λ g. masked_on r.side r (reading r g)) (ap (masked_on r.side r) (reading_same r h at w))
