-- Chunks are cut in one way.
use Rattle.std.proofs.Common.{◌≡◌, ◌≢◌, ℕ, zero, suc, ◌+◌, ◌-◌, ◌<◌, ◌≤◌, Bool, true, false, cond, ◌&&◌, ◌==◌, nat_le, List, [], ◌∷◌, ◌++◌, length, take, drop, length-drop, length-take, Result, Ok, Err, refl, sym, ap, ◌∙◌, arith, inl, inr, ◌⊎◌}
use Rattle.std.proofs.lemmas.Bool.{ne_eqb, cases_lt, false≢true}
use Rattle.std.proofs.lemmas.Bool.Decides.{nat_tests}
use Rattle.std.proofs.lemmas.List.{take-append-le, drop-append-le, drop-take, take-take, drop_all, take-append-drop}
use Rattle.std.proofs.lemmas.List.Sums.{prefix_len-le-length}
use Rattle.std.proofs.lemmas.List.Folds.{prefix_len-append}
use Rattle.std.specs.List.{prefix_len}
use Rattle.std.specs.Char.{is_ascii_hexdigit}
use Rattle.std.specs.Str.Parse.{digits_value}
use Rattle.rd_base.specs.Scans.{and_then}
use Rattle.rd_base.specs.declared.values.Scan.{Scan}
use Rattle.rd_base.specs.declared.values.Scan.TheVariants.{Whole, More, Bad}
use Rattle.rd_http_frame.specs.declared.chunk.SizeLine.{SizeLine}
use Rattle.rd_http_frame.specs.declared.chunk.Chunk.{Chunk}
use Rattle.rd_http_frame.specs.Chunks.{line_feed, line_end, when_whole, digits_line, size_line, chunk_behind, front_chunk, further, trailer_from}
use Rattle.rd_http_frame.proofs.ChunkSteps.{EndsLine, ShowsLine, line_end_shows, size_line_shows, chunk_fits, then_ok, when_ok, trailer_step, trailer_behind}
use Rattle.rd_http_frame.proofs.HeadOnce.{take_longer}

-- what is told stays, whatever follows
abbrev pub Stays : {A : Type 0} → Result A Scan → Result A Scan → Type 0
Stays q r = q ≢ Err More → r ≡ q

feed_stays : (bytes more : List ℕ) → line_feed bytes ≢ More → line_feed (bytes ++ more) ≡ line_feed bytes
feed_stays [] more told = absurd (told refl)
feed_stays (b ∷ bytes) more told = refl

line_end_stays : (bytes more : List ℕ) → line_end bytes ≢ More → line_end (bytes ++ more) ≡ line_end bytes
line_end_stays [] more told = absurd (told refl)
line_end_stays (b ∷ bytes) more told = by (b == 13) told
  where
    by : (t : Bool) → cond t (line_feed bytes) Bad ≢ More → cond t (line_feed (bytes ++ more)) Bad ≡ cond t (line_feed bytes) Bad
    by true open_end = feed_stays bytes more open_end
    by false open_end = refl

when_stays : {A : Type 0} (s t : Scan) (f : ℕ → A) → (s ≢ More → t ≡ s) → Stays (when_whole s f) (when_whole t f)
when_stays s t f same told = ap (λ (k : Scan). when_whole k f) (same (λ e. told (ap (λ (k : Scan). when_whole k f) e)))

then_stays : {A B : Type 0} (q r : Result A Scan) (f g : A → Result B Scan) → Stays q r → ((a : A) → q ≡ Ok a → Stays (f a) (g a)) → Stays (and_then q f) (and_then r g)
then_stays (Ok a) r f g same each told = ap (λ s. and_then s g) (same (λ e. cc e)) ∙ each a refl told
then_stays (Err scan) r f g same each told = ap (λ s. and_then s g) (same (λ e. told (cc e)))

cond_stays : {A : Type 0} (t : Bool) (q r s : Result A Scan) → Stays q r → Stays (cond t q s) (cond t r s)
cond_stays true q r s same told = same told
cond_stays false q r s same told = refl

-- past eight digits are more
too_long : (n m : ℕ) → 1 ≤ n → n ≤ m → (nat_le 1 n && nat_le n 8) ≡ false → (nat_le 1 m && nat_le m 8) ≡ false
too_long n m some more h = grind (arith, nat_tests, h)

abbrev line_of : ℕ → List ℕ → ℕ → SizeLine
line_of n text end = record { len = n + end; size = digits_value 16 (take n text) }

digits_stay : (n : ℕ) (text more : List ℕ) → n ≤ length text → Stays (digits_line n text) (digits_line n (text ++ more))
digits_stay n text more h =
    let q = when_whole (line_end (drop n text)) (line_of n text) in
    let r = when_whole (line_end (drop n (text ++ more))) (line_of n (text ++ more)) in
    let same_line : when_whole (line_end (drop n (text ++ more))) (line_of n text) ≡ r =
    ap (λ (t : List ℕ). when_whole (line_end (drop n (text ++ more))) (λ end. record { len = n + end; size = digits_value 16 t })) (sym (take-append-le n text more h)) in
    let stays : Stays q (when_whole (line_end (drop n (text ++ more))) (line_of n text)) =
    when_stays (line_end (drop n text)) (line_end (drop n (text ++ more))) (line_of n text)
    (λ told. ap line_end (drop-append-le n text more h) ∙ line_end_stays (drop n text) more told) in
    cond_stays (nat_le 1 n && nat_le n 8) q r (Err Bad) (λ told. sym same_line ∙ stays told)

digits_open : (n : ℕ) (text : List ℕ) → length text ≤ n → digits_line n text ≢ Err More → (nat_le 1 n && nat_le n 8) ≡ false
digits_open n text h told = by (nat_le 1 n && nat_le n 8) refl told
  where
    by : (t : Bool) → (nat_le 1 n && nat_le n 8) ≡ t → cond t (when_whole (line_end (drop n text)) (line_of n text)) (Err Bad) ≢ Err More → (nat_le 1 n && nat_le n 8) ≡ false
    by true is told = absurd (told (ap (λ (t : List ℕ). when_whole (line_end t) (line_of n text)) (drop_all n text h)))
    by false is told = is

digits_refused : (n : ℕ) (text : List ℕ) → (nat_le 1 n && nat_le n 8) ≡ false → digits_line n text ≡ Err Bad
digits_refused n text h = ap (λ t. cond t (when_whole (line_end (drop n text)) (line_of n text)) (Err Bad)) h

pub size_line_stays : (bytes more : List ℕ) → Stays (size_line bytes) (size_line (bytes ++ more))
size_line_stays [] more told = absurd (told refl)
size_line_stays (b ∷ bytes) more told = by (cases_lt n (length text))
  where
    text : List ℕ
    text = b ∷ bytes

    n : ℕ
    n = prefix_len is_ascii_hexdigit text

    joined : prefix_len is_ascii_hexdigit (text ++ more) ≡ cond (n == length text) (length text + prefix_len is_ascii_hexdigit more) n
    joined = prefix_len-append is_ascii_hexdigit text more

    by : (n < length text) ⊎ (length text ≤ n) → size_line (text ++ more) ≡ size_line text
    by (inl below) =
        let count : prefix_len is_ascii_hexdigit (text ++ more) ≡ n =
        joined ∙ ap (λ t. cond t (length text + prefix_len is_ascii_hexdigit more) n) (ne_eqb n (length text) (λ e. omega (arith, e, below))) in
        ap (λ k. digits_line k (text ++ more)) count ∙ digits_stay n text more (omega (arith, below)) told
    by (inr all) =
        let most : n ≤ length text = prefix_len-le-length is_ascii_hexdigit text in
        let refused = digits_open n text all told in
        let count : prefix_len is_ascii_hexdigit (text ++ more) ≡ cond (n == length text) (length text + prefix_len is_ascii_hexdigit more) n = joined in
        let more_digits : n ≤ prefix_len is_ascii_hexdigit (text ++ more) = at_least (n == length text) most count in
        let some : 1 ≤ n = omega (arith, all) in
        digits_refused (prefix_len is_ascii_hexdigit (text ++ more)) (text ++ more) (too_long n (prefix_len is_ascii_hexdigit (text ++ more)) some more_digits refused)
        ∙ sym (digits_refused n text refused)
      where
        at_least : (t : Bool) → n ≤ length text → prefix_len is_ascii_hexdigit (text ++ more) ≡ cond t (length text + prefix_len is_ascii_hexdigit more) n → n ≤ prefix_len is_ascii_hexdigit (text ++ more)
        at_least true most e = omega (arith, e, most)
        at_least false most e = omega (arith, e)

abbrev pub chunk_of : SizeLine → ℕ → Chunk
chunk_of line end = record { len = line.len + line.size + end; is_last = false }

behind_stays : (bytes more : List ℕ) (line : SizeLine) → Stays (chunk_behind bytes line) (chunk_behind (bytes ++ more) line)
behind_stays bytes more line = by (line.size == 0)
  where
    at : ℕ
    at = line.len + line.size

    here : line_end (drop at bytes) ≢ More → line_end (drop at (bytes ++ more)) ≡ line_end (drop at bytes)
    here told = by_room (cases_lt (length bytes) at)
      where
        by_room : (length bytes < at) ⊎ (at ≤ length bytes) → line_end (drop at (bytes ++ more)) ≡ line_end (drop at bytes)
        by_room (inl short) = absurd (told (ap line_end (drop_all at bytes (omega (arith, short)))))
        by_room (inr there) = ap line_end (drop-append-le at bytes more there) ∙ line_end_stays (drop at bytes) more told

    by : (t : Bool) → Stays (cond t (Ok (record { len = line.len; is_last = true })) (when_whole (line_end (drop at bytes)) (chunk_of line)))
        (cond t (Ok (record { len = line.len; is_last = true })) (when_whole (line_end (drop at (bytes ++ more))) (chunk_of line)))
    by true told = refl
    by false told = when_stays (line_end (drop at bytes)) (line_end (drop at (bytes ++ more))) (chunk_of line) here told

pub chunk_stays : (bytes more : List ℕ) → Stays (front_chunk bytes) (front_chunk (bytes ++ more))
chunk_stays bytes more =
    then_stays (size_line bytes) (size_line (bytes ++ more)) (chunk_behind bytes) (chunk_behind (bytes ++ more)) (size_line_stays bytes more)
    (λ line is. behind_stays bytes more line)

-- what shows is there
pub line_made : (bytes : List ℕ) (line : SizeLine) → ShowsLine bytes line → size_line bytes ≡ Ok line
line_made [] line shown = absurd (false≢true (ap (λ k. nat_le 1 k && nat_le k 8) shown.digits ∙ shown.counted))
line_made (b ∷ bytes) line shown =
    let n = shown.count in
    let text = b ∷ bytes in
    ap (λ k. digits_line k (b ∷ bytes)) shown.digits
    ∙ ap (λ t. cond t (when_whole (line_end (drop n text)) (line_of n text)) (Err Bad)) shown.counted
    ∙ ap (λ s. when_whole s (line_of n text)) shown.end
    ∙ ap (λ (k : ℕ). Ok (record { len = k; size = digits_value 16 (take n text) })) (sym shown.len)
    ∙ ap (λ (k : ℕ). Ok (record { len = line.len; size = k })) (sym shown.size)

line_itself : (bytes : List ℕ) (line : SizeLine) → size_line bytes ≡ Ok line → size_line (take line.len bytes) ≡ Ok line
line_itself bytes line e = line_made (take line.len bytes) line (record {
  count = n;
  digits = ap (λ k. prefix_len is_ascii_hexdigit (take k bytes)) shown.len ∙ count (p == length (take (n + 2) bytes)) joined;
  counted = shown.counted;
  end = ap (λ k. line_end (drop n (take k bytes))) shown.len ∙ ap line_end (drop-take n 2 bytes) ∙ ap (λ t. line_end (take 2 t)) ends.is;
  len = shown.len;
  size = shown.size ∙ ap (digits_value 16) (sym (ap (λ k. take n (take k bytes)) shown.len ∙ take-take n (n + 2) bytes (omega arith)));
})
  where
    shown : ShowsLine bytes line
    shown = size_line_shows bytes line e

    n : ℕ
    n = shown.count

    ends : EndsLine (drop n bytes) 2
    ends = line_end_shows (drop n bytes) 2 shown.end

    p : ℕ
    p = prefix_len is_ascii_hexdigit (take (n + 2) bytes)

    room : n + 2 ≤ length bytes
    room = let there : length (drop n bytes) ≡ suc (suc (length ends.rest)) = ap length ends.is in omega (arith, there, length-drop n bytes)

    joined : n ≡ cond (p == length (take (n + 2) bytes)) (length (take (n + 2) bytes) + prefix_len is_ascii_hexdigit (drop (n + 2) bytes)) p
    joined =
        sym shown.digits ∙ ap (prefix_len is_ascii_hexdigit) (sym (take-append-drop (n + 2) bytes))
        ∙ prefix_len-append is_ascii_hexdigit (take (n + 2) bytes) (drop (n + 2) bytes)

    count : (t : Bool) → n ≡ cond t (length (take (n + 2) bytes) + prefix_len is_ascii_hexdigit (drop (n + 2) bytes)) p → p ≡ n
    count true q = absurd (omega (arith, q, length-take (n + 2) bytes, room))
    count false q = sym q

pub line_longer : (bytes : List ℕ) (line : SizeLine) (n : ℕ) → line.len ≤ n → size_line bytes ≡ Ok line → size_line (take n bytes) ≡ Ok line
line_longer bytes line n h e =
    let alone = line_itself bytes line e in
    ap size_line (take_longer bytes line.len n h)
    ∙ size_line_stays (take line.len bytes) (take (n - line.len) (drop line.len bytes)) (λ more. let bad : Ok line ≡ Err More = sym alone ∙ more in cc bad)
    ∙ alone

chunk_itself : (bytes : List ℕ) (chunk : Chunk) → front_chunk bytes ≡ Ok chunk → front_chunk (take chunk.len bytes) ≡ Ok chunk
chunk_itself bytes chunk e = by (line.size == 0) refl found.2
  where
    found : (line : SizeLine) × (size_line bytes ≡ Ok line) × (chunk_behind bytes line ≡ Ok chunk)
    found = then_ok (size_line bytes) (chunk_behind bytes) chunk e

    line : SizeLine
    line = found.0

    at : ℕ
    at = line.len + line.size

    last : Result Chunk Scan
    last = Ok (record { len = line.len; is_last = true })

    by : (t : Bool) → (line.size == 0) ≡ t → cond t (Ok (record { len = line.len; is_last = true })) (when_whole (line_end (drop at bytes)) (chunk_of line)) ≡ Ok chunk → front_chunk (take chunk.len bytes) ≡ Ok chunk
    by true zero_size q =
        let same : record { len = line.len; is_last = true } ≡ chunk = cc q in
        let len : line.len ≡ chunk.len = ap (λ (c : Chunk). c.len) same in
        ap (λ r. and_then r (chunk_behind (take chunk.len bytes))) (line_longer bytes line chunk.len (omega (arith, len)) found.1)
        ∙ ap (λ t. cond t (Ok (record { len = line.len; is_last = true })) (when_whole (line_end (drop (line.len + line.size) (take chunk.len bytes))) (chunk_of line))) zero_size
        ∙ q
    by false some_size q =
        let whole = when_ok (line_end (drop at bytes)) (chunk_of line) chunk q in
        let ends = line_end_shows (drop at bytes) whole.0 whole.1 in
        let len : at + whole.0 ≡ chunk.len = ap (λ (c : Chunk). c.len) whole.2 in
        let two : chunk.len ≡ at + 2 = omega (arith, len, ends.two) in
        let room : line.len ≤ at = omega arith in
        let end : line_end (drop at (take chunk.len bytes)) ≡ Whole whole.0 =
        ap (λ k. line_end (drop at (take k bytes))) two ∙ ap line_end (drop-take at 2 bytes) ∙ ap (λ t. line_end (take 2 t)) ends.is ∙ ap Whole (sym ends.two) in
        ap (λ r. and_then r (chunk_behind (take chunk.len bytes))) (line_longer bytes line chunk.len (omega (arith, two, room)) found.1)
        ∙ ap (λ t. cond t (Ok (record { len = line.len; is_last = true })) (when_whole (line_end (drop (line.len + line.size) (take chunk.len bytes))) (chunk_of line))) some_size
        ∙ ap (λ s. when_whole s (chunk_of line)) end
        ∙ ap Ok whole.2

chunk_longer : (bytes : List ℕ) (chunk : Chunk) (n : ℕ) → chunk.len ≤ n → front_chunk bytes ≡ Ok chunk → front_chunk (take n bytes) ≡ Ok chunk
chunk_longer bytes chunk n h e =
    let alone = chunk_itself bytes chunk e in
    ap front_chunk (take_longer bytes chunk.len n h)
    ∙ chunk_stays (take chunk.len bytes) (take (n - chunk.len) (drop chunk.len bytes)) (λ more. let bad : Ok chunk ≡ Err More = sym alone ∙ more in cc bad)
    ∙ alone

pub trailer_last : (bytes : List ℕ) (chunk : Chunk) → front_chunk bytes ≡ Ok chunk → chunk.is_last ≡ true → trailer_from bytes ≡ Ok chunk.len
trailer_last bytes chunk e last =
    trailer_step bytes ∙ ap (λ r. and_then r (trailer_behind bytes)) e ∙ ap (λ t. cond t (Ok chunk.len) (further chunk.len (trailer_from (drop chunk.len bytes)))) last

pub trailer_inner : (bytes : List ℕ) (chunk : Chunk) → front_chunk bytes ≡ Ok chunk → chunk.is_last ≡ false → trailer_from bytes ≡ further chunk.len (trailer_from (drop chunk.len bytes))
trailer_inner bytes chunk e inner =
    trailer_step bytes ∙ ap (λ r. and_then r (trailer_behind bytes)) e ∙ ap (λ t. cond t (Ok chunk.len) (further chunk.len (trailer_from (drop chunk.len bytes)))) inner

further_ok : (n : ℕ) (r : Result ℕ Scan) (at : ℕ) → further n r ≡ Ok at → (m : ℕ) × (r ≡ Ok m) × (at ≡ n + m)
further_ok n (Ok m) at e = (m, refl, cc (sym e))
further_ok n (Err scan) at e = absurd (cc e)

-- the first chunk is the last, or others follow it
abbrev pub ChunkCases : List ℕ → ℕ → Chunk → Type 0
ChunkCases bytes at chunk =
    ((chunk.is_last ≡ true) × (at ≡ chunk.len)) ⊎ ((m : ℕ) × (chunk.is_last ≡ false) × (trailer_from (drop chunk.len bytes) ≡ Ok m) × (at ≡ chunk.len + m))

pub trailer_cases : (bytes : List ℕ) (at : ℕ) → trailer_from bytes ≡ Ok at → (chunk : Chunk) × (front_chunk bytes ≡ Ok chunk) × ChunkCases bytes at chunk
trailer_cases bytes at e =
    let first = then_ok (front_chunk bytes) (trailer_behind bytes) at (sym (trailer_step bytes) ∙ e) in
    (first.0, first.1, by first.0 first.0.is_last refl first.2)
  where
    by : (chunk : Chunk) (t : Bool) → chunk.is_last ≡ t → cond t (Ok chunk.len) (further chunk.len (trailer_from (drop chunk.len bytes))) ≡ Ok at
        → ((chunk.is_last ≡ true) × (at ≡ chunk.len)) ⊎ ((m : ℕ) × (chunk.is_last ≡ false) × (trailer_from (drop chunk.len bytes) ≡ Ok m) × (at ≡ chunk.len + m))
    by chunk true last q = inl (last, cc (sym q))
    by chunk false inner q = let more = further_ok chunk.len (trailer_from (drop chunk.len bytes)) at q in inr (more.0, inner, more.1, more.2)

-- behind a chunk there are fewer bytes
pub fewer : (k : ℕ) (bytes : List ℕ) (chunk : Chunk) → length bytes ≤ suc k → front_chunk bytes ≡ Ok chunk → length (drop chunk.len bytes) ≤ k
fewer k bytes chunk h e = let fits = chunk_fits bytes chunk e in omega (arith, fits.0, fits.1, length-drop chunk.len bytes, h)

within_up_to : (k : ℕ) (bytes : List ℕ) (at : ℕ) → length bytes ≤ k → trailer_from bytes ≡ Ok at → at ≤ length bytes
within_up_to zero bytes at h e = let c = trailer_cases bytes at e in let fits = chunk_fits bytes c.0 c.1 in absurd (omega (arith, fits.0, fits.1, h))
within_up_to (suc k) bytes at h e = let c = trailer_cases bytes at e in by c.0 c.1 (λ rest m. within_up_to k rest m) c.2
  where
    by : (chunk : Chunk) → front_chunk bytes ≡ Ok chunk → ((rest : List ℕ) (m : ℕ) → length rest ≤ k → trailer_from rest ≡ Ok m → m ≤ length rest) → ChunkCases bytes at chunk → at ≤ length bytes
    by chunk is ih (inl last) = let fits = chunk_fits bytes chunk is in omega (arith, last.1, fits.1)
    by chunk is ih (inr (m, inner, rest, sum)) =
        let fits = chunk_fits bytes chunk is in
        let left = ih (drop chunk.len bytes) m (fewer k bytes chunk h is) rest in
        omega (arith, sum, left, length-drop chunk.len bytes, fits.1)

pub trailer_from_within : (bytes : List ℕ) (at : ℕ) → trailer_from bytes ≡ Ok at → at ≤ length bytes
trailer_from_within bytes at e = within_up_to (length bytes) bytes at (omega arith) e

itself_up_to : (k : ℕ) (bytes : List ℕ) (at : ℕ) → length bytes ≤ k → trailer_from bytes ≡ Ok at → trailer_from (take at bytes) ≡ Ok at
itself_up_to zero bytes at h e = let c = trailer_cases bytes at e in let fits = chunk_fits bytes c.0 c.1 in absurd (omega (arith, fits.0, fits.1, h))
itself_up_to (suc k) bytes at h e = let c = trailer_cases bytes at e in by c.0 c.1 (λ rest m. itself_up_to k rest m) c.2
  where
    by : (chunk : Chunk) → front_chunk bytes ≡ Ok chunk → ((rest : List ℕ) (m : ℕ) → length rest ≤ k → trailer_from rest ≡ Ok m → trailer_from (take m rest) ≡ Ok m) → ChunkCases bytes at chunk → trailer_from (take at bytes) ≡ Ok at
    by chunk is ih (inl last) = trailer_last (take at bytes) chunk (chunk_longer bytes chunk at (omega (arith, last.1)) is) last.0 ∙ ap Ok (sym last.1)
    by chunk is ih (inr (m, inner, rest, sum)) =
        trailer_inner (take at bytes) chunk (chunk_longer bytes chunk at (omega (arith, sum)) is) inner
        ∙ ap (λ k. further chunk.len (trailer_from (drop chunk.len (take k bytes)))) sum
        ∙ ap (λ t. further chunk.len (trailer_from t)) (drop-take chunk.len m bytes)
        ∙ ap (further chunk.len) (ih (drop chunk.len bytes) m (fewer k bytes chunk h is) rest)
        ∙ ap Ok (sym sum)

stays_up_to : (k : ℕ) (bytes more : List ℕ) → length bytes ≤ k → Stays (trailer_from bytes) (trailer_from (bytes ++ more))
stays_up_to zero [] more h told = absurd (told refl)
stays_up_to zero (b ∷ bytes) more h told = absurd (omega (arith, h))
stays_up_to (suc k) bytes more h told = by (front_chunk bytes) refl (λ rest. stays_up_to k rest more)
  where
    by : (r : Result Chunk Scan) → front_chunk bytes ≡ r → ((rest : List ℕ) → length rest ≤ k → Stays (trailer_from rest) (trailer_from (rest ++ more))) → trailer_from (bytes ++ more) ≡ trailer_from bytes
    by (Err scan) is ih =
        let here : trailer_from bytes ≡ Err scan = trailer_step bytes ∙ ap (λ r. and_then r (trailer_behind bytes)) is in
        let there : front_chunk (bytes ++ more) ≡ Err scan = chunk_stays bytes more (λ e. told (trailer_step bytes ∙ ap (λ r. and_then r (trailer_behind bytes)) e)) ∙ is in
        trailer_step (bytes ++ more) ∙ ap (λ r. and_then r (trailer_behind (bytes ++ more))) there ∙ sym here
    by (Ok chunk) is ih = last (chunk.is_last) refl
      where
        there : front_chunk (bytes ++ more) ≡ Ok chunk
        there = chunk_stays bytes more (λ e. let bad : Ok chunk ≡ Err More = sym is ∙ e in cc bad) ∙ is

        last : (t : Bool) → chunk.is_last ≡ t → trailer_from (bytes ++ more) ≡ trailer_from bytes
        last true e = trailer_last (bytes ++ more) chunk there e ∙ sym (trailer_last bytes chunk is e)
        last false e =
            let fits = chunk_fits bytes chunk is in
            let rest = drop chunk.len bytes in
            let open_rest : trailer_from rest ≢ Err More = λ q. told (trailer_inner bytes chunk is e ∙ ap (further chunk.len) q) in
            trailer_inner (bytes ++ more) chunk there e
            ∙ ap (λ t. further chunk.len (trailer_from t)) (drop-append-le chunk.len bytes more fits.1)
            ∙ ap (further chunk.len) (ih rest (fewer k bytes chunk h is) open_rest)
            ∙ sym (trailer_inner bytes chunk is e)

pub trailer_from_stays : (bytes more : List ℕ) → Stays (trailer_from bytes) (trailer_from (bytes ++ more))
trailer_from_stays bytes more = stays_up_to (length bytes) bytes more (omega arith)

pub trailer_from_longer : (bytes : List ℕ) (at n : ℕ) → at ≤ n → trailer_from bytes ≡ Ok at → trailer_from (take n bytes) ≡ Ok at
trailer_from_longer bytes at n h e =
    let alone = itself_up_to (length bytes) bytes at (omega arith) e in
    ap trailer_from (take_longer bytes at n h)
    ∙ trailer_from_stays (take at bytes) (take (n - at) (drop at bytes)) (λ more. let bad : Ok at ≡ Err More = sym alone ∙ more in cc bad)
    ∙ alone
