-- Where messages stand, one behind another.
use Rattle.std.proofs.Common.{◌≡◌, ℕ, ◌+◌, ◌-◌, ◌^◌, Bool, true, false, ◌&&◌, cond, leb, ltb, List, length, take, drop, length-drop, drop-drop, Option, Some, None, refl, sym, ap, ◌∙◌, arith}
use Rattle.std.proofs.lemmas.Bool.{leb-true, ltb-true, le-leb, lt-ltb, and_parts, and_from}
use Rattle.std.proofs.lemmas.List.{get_or-drop}
use Rattle.std.specs.Prelude.{slice_index}
use Rattle.rd_pg_frame.specs.declared.message.Message.{Message}
use Rattle.rd_pg_frame.specs.Messages.{be_u32, be_u32_at, is_length, message_at, IsMessageAt}

abbrev is_there : List ℕ → ℕ → ℕ → Bool
is_there bytes at len = leb (at + 5) (length bytes) && is_length len && leb (at + 1 + len) (length bytes)

abbrev message_here : List ℕ → ℕ → ℕ → Message
message_here bytes at len = record { letter = slice_index bytes at; from = at + 5; to = at + 1 + len }

pub message_shows : (bytes : List ℕ) (at : ℕ) (m : Message) → message_at bytes at ≡ Some m → IsMessageAt bytes at m
message_shows bytes at m e = go (is_there bytes at (be_u32_at bytes (at + 1))) refl e
  where
    len : ℕ
    len = be_u32_at bytes (at + 1)

    go : (t : Bool) → is_there bytes at len ≡ t → cond t (Some (message_here bytes at len)) None ≡ Some m → IsMessageAt bytes at m
    go false is q = absurd (cc q)
    go true is q =
        let same : message_here bytes at len ≡ m = cc q in
        let parts = and_parts (leb (at + 5) (length bytes) && is_length len) (leb (at + 1 + len) (length bytes)) is in
        let front = and_parts (leb (at + 5) (length bytes)) (is_length len) parts.0 in
        let limits = and_parts (leb 4 len) (ltb len (2 ^ 31)) front.1 in
        let least = leb-true 4 len limits.0 in
        let most = ltb-true len (2 ^ 31) limits.1 in
        let all = leb-true (at + 1 + len) (length bytes) parts.1 in
        let letter = ap (λ (m : Message). m.letter) same in
        let from = ap (λ (m : Message). m.from) same in
        let to = ap (λ (m : Message). m.to) same in
        record {
          letter = sym letter;
          from = sym from;
          counts = sym to;
          ordered = omega (arith, from, to, least);
          within = omega (arith, to, all);
          fits = omega (arith, to, most);
        }

pub message_made : (bytes : List ℕ) (at : ℕ) (m : Message) → IsMessageAt bytes at m → message_at bytes at ≡ Some m
message_made bytes at m shown =
    let len = be_u32_at bytes (at + 1) in
    let counts = shown.counts in
    let from = shown.from in
    let ordered = shown.ordered in
    let within = shown.within in
    let fits = shown.fits in
    let test : is_there bytes at len ≡ true =
    and_from (leb (at + 5) (length bytes) && is_length len) (leb (at + 1 + len) (length bytes))
    (and_from (leb (at + 5) (length bytes)) (is_length len) (le-leb (at + 5) (length bytes) (omega arith))
    (and_from (leb 4 len) (ltb len (2 ^ 31)) (le-leb 4 len (omega arith)) (lt-ltb len (2 ^ 31) (omega arith))))
    (le-leb (at + 1 + len) (length bytes) (omega arith)) in
    let made : ℕ → ℕ → ℕ → Message = λ l f t. record { letter = l; from = f; to = t } in
    ap (λ t. cond t (Some (message_here bytes at len)) None) test
    ∙ ap (λ l. Some (made l (at + 5) (at + 1 + len))) (sym shown.letter)
    ∙ ap (λ f. Some (made m.letter f (at + 1 + len))) (sym from)
    ∙ ap (λ t. Some (made m.letter m.from t)) (sym counts)

length_from : (bytes : List ℕ) (at : ℕ) → be_u32_at (drop at bytes) 1 ≡ be_u32_at bytes (at + 1)
length_from bytes at =
    let size : 4 ≡ (at + 1 + 4) - (at + 1) = omega arith in
    ap (λ b. be_u32 (take 4 b)) (drop-drop 1 at bytes) ∙ ap (λ n. be_u32 (take n (drop (at + 1) bytes))) size

letter_from : (bytes : List ℕ) (at : ℕ) → slice_index (drop at bytes) 0 ≡ slice_index bytes at
letter_from bytes at = get_or-drop at bytes 0 0 ∙ ap (slice_index bytes) (omega arith)

pub message_from : (bytes : List ℕ) (at : ℕ) (m : Message) → IsMessageAt bytes at m → IsMessageAt (drop at bytes) 0 (record { letter = m.letter; from = m.from - at; to = m.to - at })
message_from bytes at m shown =
    let len = length_from bytes at in
    let from = shown.from in
    let counts = shown.counts in
    let ordered = shown.ordered in
    let within = shown.within in
    let fits = shown.fits in
    record {
      letter = shown.letter ∙ sym (letter_from bytes at);
      from = omega arith;
      counts = omega (arith, len);
      ordered = omega arith;
      within = omega (arith, length-drop at bytes);
      fits = omega arith;
    }

message_back : (bytes : List ℕ) (at : ℕ) (m : Message) → IsMessageAt (drop at bytes) 0 m → IsMessageAt bytes at (record { letter = m.letter; from = at + m.from; to = at + m.to })
message_back bytes at m shown =
    let len = length_from bytes at in
    let from = shown.from in
    let counts = shown.counts in
    let ordered = shown.ordered in
    let within = shown.within in
    let fits = shown.fits in
    record {
      letter = shown.letter ∙ letter_from bytes at;
      from = omega arith;
      counts = omega (arith, len);
      ordered = omega arith;
      within = omega (arith, length-drop at bytes);
      fits = omega arith;
    }

pub none_from : (bytes : List ℕ) (at : ℕ) → message_at bytes at ≡ None → message_at (drop at bytes) 0 ≡ None
none_from bytes at none = go (message_at (drop at bytes) 0) refl
  where
    go : (r : Option Message) → message_at (drop at bytes) 0 ≡ r → r ≡ None
    go None is = refl
    go (Some m) is = let there = message_made bytes at _ (message_back bytes at m (message_shows (drop at bytes) 0 m is)) in absurd (cc (sym there ∙ none))
