-- Chunks, one at a time.
use Rattle.std.proofs.Common.{◌≡◌, ◌≢◌, ℕ, zero, suc, ◌+◌, ◌<◌, ◌≤◌, Bool, true, false, cond, ◌&&◌, ◌==◌, nat_le, List, [], ◌∷◌, length, take, drop, length-drop, drop-drop, Result, Ok, Err, refl, sym, ap, ◌∙◌, arith}
use Rattle.std.proofs.lemmas.Bool.{eqb-true}
use Rattle.std.specs.List.{prefix_len}
use Rattle.std.specs.Char.{is_ascii_hexdigit}
use Rattle.std.specs.Str.Parse.{digits_value}
use Rattle.rd_base.specs.Scans.{and_then}
use Rattle.rd_base.specs.declared.values.Scan.{Scan}
use Rattle.rd_base.specs.declared.values.Scan.TheVariants.{Whole, More, Bad, TooBig, Unsupported}
use Rattle.rd_http_frame.specs.declared.chunk.SizeLine.{SizeLine}
use Rattle.rd_http_frame.specs.declared.chunk.Chunk.{Chunk}
use Rattle.rd_http_frame.specs.Chunks.{line_feed, line_end, when_whole, digits_line, size_line, chunk_behind, front_chunk, further, chunks_up_to, trailer_from}

-- what is there where CR LF is
pub record EndsLine (bytes : List ℕ) (len : ℕ) : Type 0 where
  pub rest : List ℕ
  pub is : bytes ≡ 13 ∷ 10 ∷ rest
  pub two : len ≡ 2

pub line_end_shows : (bytes : List ℕ) (len : ℕ) → line_end bytes ≡ Whole len → EndsLine bytes len
line_end_shows [] len e = absurd (cc e)
line_end_shows (b ∷ bytes) len e = at (b == 13) refl bytes e
  where
    feed : (b ≡ 13) → (t : Bool) (c : ℕ) (rest : List ℕ) → (c == 10) ≡ t → cond t (Whole 2) Bad ≡ Whole len → EndsLine (b ∷ c ∷ rest) len
    feed cr true c rest is q =
        let lf : c ≡ 10 = eqb-true c 10 is in
        let two : 2 ≡ len = cc q in
        record { rest = rest; is = ap (λ x. x ∷ c ∷ rest) cr ∙ ap (λ x. 13 ∷ x ∷ rest) lf; two = sym two }
    feed cr false c rest is q = absurd (cc q)

    at : (t : Bool) → (b == 13) ≡ t → (bytes : List ℕ) → cond t (line_feed bytes) Bad ≡ Whole len → EndsLine (b ∷ bytes) len
    at true is [] q = absurd (cc q)
    at true is (c ∷ rest) q = feed (eqb-true b 13 is) (c == 10) c rest refl q
    at false is rest q = absurd (cc q)

pub when_ok : {A : Type 0} (scan : Scan) (f : ℕ → A) (a : A) → when_whole scan f ≡ Ok a → (len : ℕ) × (scan ≡ Whole len) × (f len ≡ a)
when_ok (Whole len) f a e = (len, refl, cc e)
when_ok More f a e = absurd (cc e)
when_ok Bad f a e = absurd (cc e)
when_ok TooBig f a e = absurd (cc e)
when_ok (Unsupported code) f a e = absurd (cc e)

pub then_ok : {A B : Type 0} (r : Result A Scan) (f : A → Result B Scan) (b : B) → and_then r f ≡ Ok b → (a : A) × (r ≡ Ok a) × (f a ≡ Ok b)
then_ok (Ok a) f b e = (a, refl, e)
then_ok (Err scan) f b e = absurd (cc e)

-- a size line that is there
pub record ShowsLine (bytes : List ℕ) (line : SizeLine) : Type 0 where
  pub count : ℕ
  pub digits : prefix_len is_ascii_hexdigit bytes ≡ count
  pub counted : (nat_le 1 count && nat_le count 8) ≡ true
  pub end : line_end (drop count bytes) ≡ Whole 2
  pub len : line.len ≡ count + 2
  pub size : line.size ≡ digits_value 16 (take count bytes)

pub size_line_shows : (bytes : List ℕ) (line : SizeLine) → size_line bytes ≡ Ok line → ShowsLine bytes line
size_line_shows [] line e = absurd (cc e)
size_line_shows (b ∷ bytes) line e = by (prefix_len is_ascii_hexdigit (b ∷ bytes)) refl (b ∷ bytes) refl e
  where
    by : (n : ℕ) → prefix_len is_ascii_hexdigit (b ∷ bytes) ≡ n → (text : List ℕ) → text ≡ b ∷ bytes → digits_line n text ≡ Ok line → ShowsLine (b ∷ bytes) line
    by n count text same q = test (nat_le 1 n && nat_le n 8) refl q
      where
        test : (t : Bool) → (nat_le 1 n && nat_le n 8) ≡ t
            → cond t (when_whole (line_end (drop n text)) (λ end. record { len = n + end; size = digits_value 16 (take n text) })) (Err Bad) ≡ Ok line → ShowsLine (b ∷ bytes) line
        test true fits q =
            let f : ℕ → SizeLine = λ end. record { len = n + end; size = digits_value 16 (take n text) } in
            let whole = when_ok (line_end (drop n text)) f line q in
            let two = (line_end_shows (drop n text) whole.0 whole.1).two in
            record {
              count = n;
              digits = count;
              counted = fits;
              end = ap (λ t. line_end (drop n t)) (sym same) ∙ whole.1 ∙ ap Whole two;
              len = sym (ap (λ (l : SizeLine). l.len) whole.2) ∙ ap (λ k. n + k) two;
              size = sym (ap (λ (l : SizeLine). l.size) whole.2) ∙ ap (λ t. digits_value 16 (take n t)) same;
            }
        test false fits q = absurd (cc q)

pub line_fits : (bytes : List ℕ) (line : SizeLine) → size_line bytes ≡ Ok line → (3 ≤ line.len) × (line.len ≤ length bytes)
line_fits bytes line e =
    let shown = size_line_shows bytes line e in
    let ends = line_end_shows (drop shown.count bytes) 2 shown.end in
    let there : length (drop shown.count bytes) ≡ suc (suc (length ends.rest)) = ap length ends.is in
    let one : 1 ≤ shown.count = at_least shown.count shown.counted in
    (omega (arith, shown.len, one), omega (arith, there, length-drop shown.count bytes, shown.len))
  where
    at_least : (n : ℕ) → (nat_le 1 n && nat_le n 8) ≡ true → 1 ≤ n
    at_least zero h = absurd (cc h)
    at_least (suc n) h = omega arith

-- a chunk that is there
pub chunk_fits : (bytes : List ℕ) (chunk : Chunk) → front_chunk bytes ≡ Ok chunk → (0 < chunk.len) × (chunk.len ≤ length bytes)
chunk_fits bytes chunk e =
    let line = then_ok (size_line bytes) (chunk_behind bytes) chunk e in
    by line.0 (line_fits bytes line.0 line.1) (line.0.size == 0) line.2
  where
    by : (line : SizeLine) → (3 ≤ line.len) × (line.len ≤ length bytes) → (t : Bool)
        → cond t (Ok (record { len = line.len; is_last = true })) (when_whole (line_end (drop (line.len + line.size) bytes)) (λ end. record { len = line.len + line.size + end; is_last = false })) ≡ Ok chunk
        → (0 < chunk.len) × (chunk.len ≤ length bytes)
    by line fits true q =
        let same : record { len = line.len; is_last = true } ≡ chunk = cc q in
        let len : line.len ≡ chunk.len = ap (λ (c : Chunk). c.len) same in
        (omega (arith, fits.0, len), omega (arith, fits.1, len))
    by line fits false q =
        let f : ℕ → Chunk = λ end. record { len = line.len + line.size + end; is_last = false } in
        let whole = when_ok (line_end (drop (line.len + line.size) bytes)) f chunk q in
        let ends = line_end_shows (drop (line.len + line.size) bytes) whole.0 whole.1 in
        let there : length (drop (line.len + line.size) bytes) ≡ suc (suc (length ends.rest)) = ap length ends.is in
        let len : line.len + line.size + whole.0 ≡ chunk.len = ap (λ (c : Chunk). c.len) whole.2 in
        (omega (arith, fits.0, len), omega (arith, there, length-drop (line.len + line.size) bytes, len, ends.two))

-- as many chunks as there are bytes are enough
pub enough : (n m : ℕ) (bytes : List ℕ) → length bytes ≤ n → length bytes ≤ m → chunks_up_to n bytes ≡ chunks_up_to m bytes
enough zero zero bytes h k = refl
enough zero (suc m) [] h k = refl
enough zero (suc m) (b ∷ bytes) h k = absurd (omega arith)
enough (suc n) zero [] h k = refl
enough (suc n) zero (b ∷ bytes) h k = absurd (omega arith)
enough (suc n) (suc m) bytes h k = go (λ rest. enough n m rest) (front_chunk bytes) refl
  where
    go : ((rest : List ℕ) → length rest ≤ n → length rest ≤ m → chunks_up_to n rest ≡ chunks_up_to m rest)
        → (r : Result Chunk Scan) → front_chunk bytes ≡ r
        → and_then r (λ chunk. cond chunk.is_last (Ok chunk.len) (further chunk.len (chunks_up_to n (drop chunk.len bytes))))
        ≡ and_then r (λ chunk. cond chunk.is_last (Ok chunk.len) (further chunk.len (chunks_up_to m (drop chunk.len bytes))))
    go ih (Ok chunk) is =
        let fits = chunk_fits bytes chunk is in
        let left = length-drop chunk.len bytes in
        ap (λ r. cond chunk.is_last (Ok chunk.len) (further chunk.len r)) (ih (drop chunk.len bytes) (omega (arith, fits.0, fits.1, left)) (omega (arith, fits.0, fits.1, left)))
    go ih (Err scan) is = refl

-- the chunks behind the first
abbrev pub trailer_behind : List ℕ → Chunk → Result ℕ Scan
trailer_behind bytes chunk = cond chunk.is_last (Ok chunk.len) (further chunk.len (trailer_from (drop chunk.len bytes)))

pub trailer_step : (bytes : List ℕ) → trailer_from bytes ≡ and_then (front_chunk bytes) (trailer_behind bytes)
trailer_step [] = refl
trailer_step (b ∷ bytes) = go (front_chunk (b ∷ bytes)) refl
  where
    go : (r : Result Chunk Scan) → front_chunk (b ∷ bytes) ≡ r
        → and_then r (λ chunk. cond chunk.is_last (Ok chunk.len) (further chunk.len (chunks_up_to (length bytes) (drop chunk.len (b ∷ bytes)))))
        ≡ and_then r (trailer_behind (b ∷ bytes))
    go (Ok chunk) is =
        let fits = chunk_fits (b ∷ bytes) chunk is in
        let left = length-drop chunk.len (b ∷ bytes) in
        ap (λ r. cond chunk.is_last (Ok chunk.len) (further chunk.len r))
        (enough (length bytes) (length (drop chunk.len (b ∷ bytes))) (drop chunk.len (b ∷ bytes)) (omega (arith, fits.0, fits.1, left)) (omega arith))
    go (Err scan) is = refl

further_further : (m n : ℕ) (r : Result ℕ Scan) → further m (further n r) ≡ further (m + n) r
further_further m n (Ok at) = ap Ok (omega arith)
further_further m n (Err scan) = refl

pub further_none : (r : Result ℕ Scan) → r ≡ further 0 r
further_none (Ok at) = ap Ok (omega arith)
further_none (Err scan) = refl

-- one step of a walk over the chunks
pub step_inner : (bytes : List ℕ) (at : ℕ) (chunk : Chunk) → front_chunk (drop at bytes) ≡ Ok chunk → chunk.is_last ≡ false
    → further at (trailer_from (drop at bytes)) ≡ further (at + chunk.len) (trailer_from (drop (at + chunk.len) bytes))
step_inner bytes at chunk e inner =
    ap (further at) (trailer_step (drop at bytes) ∙ ap (λ r. and_then r (trailer_behind (drop at bytes))) e
    ∙ ap (λ t. cond t (Ok chunk.len) (further chunk.len (trailer_from (drop chunk.len (drop at bytes))))) inner)
    ∙ further_further at chunk.len (trailer_from (drop chunk.len (drop at bytes)))
    ∙ ap (λ b. further (at + chunk.len) (trailer_from b)) (drop-drop chunk.len at bytes)

pub step_last : (bytes : List ℕ) (at : ℕ) (chunk : Chunk) → front_chunk (drop at bytes) ≡ Ok chunk → chunk.is_last ≡ true
    → further at (trailer_from (drop at bytes)) ≡ Ok (at + chunk.len)
step_last bytes at chunk e last =
    ap (further at) (trailer_step (drop at bytes) ∙ ap (λ r. and_then r (trailer_behind (drop at bytes))) e
    ∙ ap (λ t. cond t (Ok chunk.len) (further chunk.len (trailer_from (drop chunk.len (drop at bytes))))) last)

pub step_stop : (bytes : List ℕ) (at : ℕ) (scan : Scan) → front_chunk (drop at bytes) ≡ Err scan
    → further at (trailer_from (drop at bytes)) ≡ Err scan
step_stop bytes at scan e = ap (further at) (trailer_step (drop at bytes) ∙ ap (λ r. and_then r (trailer_behind (drop at bytes))) e)

-- without a last chunk there is no length
record NotWhole {A : Type 0} (r : Result A Scan) : Type 0 where
  never : (len : ℕ) → r ≢ Err (Whole len)

not_ok : {A : Type 0} (a : A) → NotWhole (Ok a)
not_ok a = record { never = λ len e. cc e }

not_when : {A : Type 0} (scan : Scan) (f : ℕ → A) → NotWhole (when_whole scan f)
not_when (Whole len) f = not_ok (f len)
not_when More f = record { never = λ len e. cc e }
not_when Bad f = record { never = λ len e. cc e }
not_when TooBig f = record { never = λ len e. cc e }
not_when (Unsupported code) f = record { never = λ len e. cc e }

not_cond : {A : Type 0} {q r : Result A Scan} (t : Bool) → NotWhole q → NotWhole r → NotWhole (cond t q r)
not_cond true h k = h
not_cond false h k = k

not_then : {A B : Type 0} (r : Result A Scan) (f : A → Result B Scan) → NotWhole r → ((a : A) → NotWhole (f a)) → NotWhole (and_then r f)
not_then (Ok a) f h each = each a
not_then (Err scan) f h each = record { never = λ len e. let same : scan ≡ Whole len = cc e in h.never len (ap Err same) }

not_line : (bytes : List ℕ) → NotWhole (size_line bytes)
not_line [] = record { never = λ len e. cc e }
not_line (b ∷ bytes) =
    let n = prefix_len is_ascii_hexdigit (b ∷ bytes) in
    not_cond (nat_le 1 n && nat_le n 8) (not_when (line_end (drop n (b ∷ bytes))) (λ end. record { len = n + end; size = digits_value 16 (take n (b ∷ bytes)) })) (record { never = λ len e. cc e })

not_behind : (bytes : List ℕ) (line : SizeLine) → NotWhole (chunk_behind bytes line)
not_behind bytes line =
    not_cond (line.size == 0) (not_ok (record { len = line.len; is_last = true }))
    (not_when (line_end (drop (line.len + line.size) bytes)) (λ end. record { len = line.len + line.size + end; is_last = false }))

not_further : (n : ℕ) (r : Result ℕ Scan) → NotWhole r → NotWhole (further n r)
not_further n (Ok at) h = not_ok (n + at)
not_further n (Err scan) h = record { never = λ len e. let same : scan ≡ Whole len = cc e in h.never len (ap Err same) }

not_chunks : (n : ℕ) (bytes : List ℕ) → NotWhole (chunks_up_to n bytes)
not_chunks zero bytes = record { never = λ len e. cc e }
not_chunks (suc n) bytes =
    not_then (front_chunk bytes) (λ chunk. cond chunk.is_last (Ok chunk.len) (further chunk.len (chunks_up_to n (drop chunk.len bytes))))
    (not_then (size_line bytes) (chunk_behind bytes) (not_line bytes) (not_behind bytes))
    (λ chunk. not_cond chunk.is_last (not_ok chunk.len) (not_further chunk.len _ (not_chunks n (drop chunk.len bytes))))

pub trailer_never : (bytes : List ℕ) (scan : Scan) (len : ℕ) → trailer_from bytes ≡ Err scan → scan ≢ Whole len
trailer_never bytes scan len e q = (not_chunks (length bytes) bytes).never len (e ∙ ap Err q)
