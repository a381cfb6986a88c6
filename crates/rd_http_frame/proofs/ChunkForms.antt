-- A chunked body is what the walk over chunks finds.
use Rattle.std.proofs.Common.{◌≡◌, ℕ, zero, suc, ◌+◌, ◌<◌, ◌≤◌, inl, inr, Bool, true, false, cond, ◌&&◌, ◌==◌, nat_le, List, [], ◌∷◌, ◌++◌, length, take, drop, length-take, length-drop, length-append, drop-drop, take-add, append_assoc, append-nil, Ok, refl, sym, ap, ◌∙◌, subst, arith}
use Rattle.std.proofs.lemmas.Bool.{leb-true, le-leb, and_parts, eqb-true, ne_eqb, false≢true}
use Rattle.std.proofs.lemmas.List.{take-append-drop, take_all}
use Rattle.std.proofs.lemmas.List.Folds.{length-prefix_len}
use Rattle.std.proofs.Math.Seq.{drop-append_seam, take-append_seam, drop-append-add}
use Rattle.std.specs.List.{prefix_len, list_all}
use Rattle.std.specs.Char.{is_ascii_hexdigit}
use Rattle.std.specs.Str.Parse.{digits_value}
use Rattle.httparse.specs.Grammar.{print_section}
use Rattle.rd_base.specs.Scans.{and_then}
use Rattle.rd_base.specs.declared.values.Scan.TheVariants.{Whole}
use Rattle.rd_http_frame.specs.declared.chunk.SizeLine.{SizeLine}
use Rattle.rd_http_frame.specs.declared.chunk.Chunk.{Chunk}
use Rattle.rd_http_frame.specs.Heads.{seen}
use Rattle.rd_http_frame.specs.Chunks.{line_end, when_whole, size_line, chunk_behind, front_chunk, further, trailer_from}
use Rattle.rd_http_frame.specs.Trailers.{IsTrailerScan}
use Rattle.rd_http_frame.specs.WholeUnits.{IsSizeLine, IsTrailer, IsChunked}
use Rattle.rd_http_frame.specs.WholeUnits.{IsChunked as chunked}
use Rattle.rd_http_frame.proofs.ChunkSteps.{EndsLine, line_end_shows, size_line_shows, line_fits, chunk_fits, then_ok, when_ok}
use Rattle.rd_http_frame.proofs.ChunkCuts.{ChunkCases, chunk_of, line_made, trailer_cases, trailer_last, trailer_inner, fewer}
use Rattle.rd_http_frame.proofs.TrailerCuts.{whole_section, section_made, trailer_within}

-- ---- size lines

all_front : (p : ℕ → Bool) (xs : List ℕ) → list_all p (take (prefix_len p xs) xs) ≡ true
all_front p [] = refl
all_front p (x ∷ xs) = by (all_front p xs) (p x) refl
  where
    by : list_all p (take (prefix_len p xs) xs) ≡ true → (t : Bool) → p x ≡ t → list_all p (take (cond t (1 + prefix_len p xs) 0) (x ∷ xs)) ≡ true
    by ih true e =
        let next : 1 + prefix_len p xs ≡ suc (prefix_len p xs) = omega arith in
        ap (λ n. list_all p (take n (x ∷ xs))) next ∙ ap (λ t. t && list_all p (take (prefix_len p xs) xs)) e ∙ ih
    by ih false e = refl

all_len : (p : ℕ → Bool) (xs rest : List ℕ) (stop : ℕ) → list_all p xs ≡ true → p stop ≡ false → prefix_len p (xs ++ stop ∷ rest) ≡ length xs
all_len p [] rest stop h e = ap (λ t. cond t (1 + prefix_len p rest) 0) e
all_len p (x ∷ xs) rest stop h e =
    let parts = and_parts (p x) (list_all p xs) h in
    let next : 1 + length xs ≡ suc (length xs) = omega arith in
    ap (λ t. cond t (1 + prefix_len p (xs ++ stop ∷ rest)) 0) parts.0 ∙ ap (λ n. 1 + n) (all_len p xs rest stop parts.1 e) ∙ next

line_is : (bytes : List ℕ) (line : SizeLine) → size_line bytes ≡ Ok line → IsSizeLine line.size (take line.len bytes)
line_is bytes line e =
    let shown = size_line_shows bytes line e in
    let n = shown.count in
    let ends = line_end_shows (drop n bytes) 2 shown.end in
    let counted = and_parts (nat_le 1 n) (nat_le n 8) shown.counted in
    let least = leb-true 1 n counted.0 in
    let most = leb-true n 8 counted.1 in
    let size : length (take n bytes) ≡ n = ap (λ k. length (take k bytes)) (sym shown.digits) ∙ length-prefix_len is_ascii_hexdigit bytes ∙ shown.digits in
    record {
      digits = take n bytes;
      some = omega (arith, size, least);
      few = omega (arith, size, most);
      hexadecimal = ap (λ k. list_all is_ascii_hexdigit (take k bytes)) (sym shown.digits) ∙ all_front is_ascii_hexdigit bytes;
      counts = shown.size;
      is = ap (λ k. take k bytes) shown.len ∙ take-add n 2 bytes ∙ ap (λ t. take n bytes ++ take 2 t) ends.is;
    }

line_back : (size : ℕ) (line rest : List ℕ) → IsSizeLine size line → size_line (line ++ rest) ≡ Ok (record { len = length line; size = size })
line_back size line rest x =
    let digits = x.digits in
    let text = digits ++ 13 ∷ 10 ∷ rest in
    let all : line ++ rest ≡ text = ap (λ t. t ++ rest) x.is ∙ append_assoc digits (13 ∷ 10 ∷ []) rest in
    let len : length line ≡ length digits + 2 = ap length x.is ∙ length-append digits (13 ∷ 10 ∷ []) in
    let found : SizeLine = record { len = length line; size = size } in
    ap size_line all ∙ line_made text found (record {
      count = length digits;
      digits = all_len is_ascii_hexdigit digits (10 ∷ rest) 13 x.hexadecimal refl;
      counted = ap (λ t. t && nat_le (length digits) 8) (le-leb 1 (length digits) x.some) ∙ le-leb (length digits) 8 x.few;
      end = ap line_end (drop-append_seam digits (13 ∷ 10 ∷ rest));
      len = len;
      size = x.counts ∙ ap (digits_value 16) (sym (take-append_seam digits (13 ∷ 10 ∷ rest)));
    })

-- ---- trailers

empty : (xs : List ℕ) → length xs ≡ 0 → xs ≡ []
empty [] e = refl
empty (x ∷ xs) e = absurd (omega (arith, e))

pub trailer_is : (bytes : List ℕ) → IsTrailerScan bytes (Whole (length bytes)) → IsTrailer bytes
trailer_is bytes x =
    let w = whole_section (seen bytes) (length bytes) x in
    let text = print_section w.fields w.last in
    let short = (trailer_within bytes (length bytes) x).0 in
    let all : seen bytes ≡ bytes = take_all 65536 bytes short in
    let size : length bytes ≡ length text + length w.rest = ap length (sym all ∙ w.reads.1) ∙ length-append text w.rest in
    let none : w.rest ≡ [] = empty w.rest (omega (arith, size, w.is)) in
    record {
      fields = w.fields;
      last = w.last;
      good = w.reads.0;
      few = w.few;
      is = sym all ∙ w.reads.1 ∙ ap (λ t. text ++ t) none ∙ append-nil text;
      short = short;
    }

pub trailer_back : (bytes : List ℕ) → IsTrailer bytes → IsTrailerScan bytes (Whole (length bytes))
trailer_back bytes x =
    let text = print_section x.fields x.last in
    let all : seen bytes ≡ text ++ [] = take_all 65536 bytes x.short ∙ x.is ∙ sym (append-nil text) in
    subst (λ n. IsTrailerScan bytes (Whole n)) (sym (ap length x.is)) (section_made (seen bytes) x.fields x.last [] (x.good, all) x.few)

-- ---- chunks

abbrev pub Ends : List ℕ → ℕ → ℕ → Type 0
Ends bytes place size = (trailer_from bytes ≡ Ok place) × IsTrailerScan (drop place bytes) (Whole size) × (length bytes ≡ place + size)

-- the parts of a chunk with content
record Content (bytes : List ℕ) (line : SizeLine) (len : ℕ) : Type 0 where
  there : length (take line.size (drop line.len bytes)) ≡ line.size
  parts : bytes ≡ take line.len bytes ++ (take line.size (drop line.len bytes) ++ 13 ∷ 10 ∷ drop len bytes)

content_is : (bytes : List ℕ) (line : SizeLine) (len : ℕ) → len ≡ line.len + line.size + 2 → EndsLine (drop (line.len + line.size) bytes) 2 → line.len ≤ length bytes → Content bytes line len
content_is bytes line len sum ends fits =
    let L = line.len in
    let S = line.size in
    let inside = drop L bytes in
    let size : length (drop (L + S) bytes) ≡ suc (suc (length ends.rest)) = ap length ends.is in
    let after : drop S inside ≡ 13 ∷ 10 ∷ ends.rest = drop-drop S L bytes ∙ ends.is in
    let rest : drop len bytes ≡ ends.rest = ap (λ n. drop n bytes) sum ∙ sym (drop-drop 2 (L + S) bytes) ∙ ap (drop 2) ends.is in
    record {
      there = omega (arith, length-take S inside, length-drop L bytes, length-drop (L + S) bytes, size);
      parts = sym (take-append-drop L bytes) ∙ ap (λ t. take L bytes ++ t) (sym (take-append-drop S inside) ∙ ap (λ t. take S inside ++ t) (after ∙ ap (λ t. 13 ∷ 10 ∷ t) (sym rest)));
    }

chunked_up_to : (k : ℕ) (bytes : List ℕ) (place size : ℕ) → length bytes ≤ k → Ends bytes place size → IsChunked bytes
chunked_up_to zero bytes place size h x = let c = trailer_cases bytes place x.0 in let fits = chunk_fits bytes c.0 c.1 in absurd (omega (arith, fits.0, fits.1, h))
chunked_up_to (suc k) bytes place size h x =
    let c = trailer_cases bytes place x.0 in
    let first = then_ok (size_line bytes) (chunk_behind bytes) c.0 c.1 in
    by c.0 c.1 c.2 first.0 first.1 (λ rest m n. chunked_up_to k rest m n) (first.0.size == 0) refl first.2
  where
    by : (chunk : Chunk) → front_chunk bytes ≡ Ok chunk → ChunkCases bytes place chunk → (line : SizeLine) → size_line bytes ≡ Ok line
        → ((rest : List ℕ) (m n : ℕ) → length rest ≤ k → Ends rest m n → IsChunked rest)
        → (t : Bool) → (line.size == 0) ≡ t → cond t (Ok (record { len = line.len; is_last = true })) (when_whole (line_end (drop (line.len + line.size) bytes)) (chunk_of line)) ≡ Ok chunk
        → IsChunked bytes
    by chunk is (inl last) line there ih true none q =
        let same : record { len = line.len; is_last = true } ≡ chunk = cc q in
        let len : place ≡ line.len = last.1 ∙ sym (ap (λ (c : Chunk). c.len) same) in
        let first = subst (λ n. IsSizeLine n (take line.len bytes)) (eqb-true line.size 0 none) (line_is bytes line there) in
        let size_is : length (drop place bytes) ≡ size = omega (arith, length-drop place bytes, x.2) in
        let end = trailer_is (drop place bytes) (subst (λ n. IsTrailerScan (drop place bytes) (Whole n)) (sym size_is) x.1) in
        chunked.Last (take line.len bytes) (drop place bytes) bytes first end (sym (take-append-drop line.len bytes) ∙ ap (λ n. take line.len bytes ++ drop n bytes) (sym len))
    by chunk is (inr more) line there ih true none q =
        let same : record { len = line.len; is_last = true } ≡ chunk = cc q in
        absurd (false≢true (sym more.1 ∙ sym (ap (λ (c : Chunk). c.is_last) same)))
    by chunk is (inl last) line there ih false some q =
        let whole = when_ok (line_end (drop (line.len + line.size) bytes)) (chunk_of line) chunk q in
        absurd (false≢true (ap (λ (c : Chunk). c.is_last) whole.2 ∙ last.0))
    by chunk is (inr (m, inner, rest_is, sum)) line there ih false some q =
        let whole = when_ok (line_end (drop (line.len + line.size) bytes)) (chunk_of line) chunk q in
        let ends = line_end_shows (drop (line.len + line.size) bytes) whole.0 whole.1 in
        let len : chunk.len ≡ line.len + line.size + 2 = sym (ap (λ (c : Chunk). c.len) whole.2) ∙ ap (λ n. line.len + line.size + n) ends.two in
        let fits = line_fits bytes line there in
        let content = content_is bytes line chunk.len len (record { rest = ends.rest; is = ends.is; two = refl }) fits.1 in
        let inside = take line.size (drop line.len bytes) in
        let behind : drop m (drop chunk.len bytes) ≡ drop place bytes = drop-drop m chunk.len bytes ∙ ap (λ n. drop n bytes) (sym sum) in
        let left : length (drop chunk.len bytes) ≡ m + size = omega (arith, length-drop chunk.len bytes, x.2, sum) in
        let rest = ih (drop chunk.len bytes) m size (fewer k bytes chunk h is) (rest_is, subst (λ t. IsTrailerScan t (Whole size)) (sym behind) x.1, left) in
        let some_content : 0 < length inside = positive line.size some inside content.there in
        chunked.Chunk (take line.len bytes) inside (drop chunk.len bytes) bytes
        (subst (λ n. IsSizeLine n (take line.len bytes)) (sym content.there) (line_is bytes line there)) some_content rest content.parts
      where
        positive : (n : ℕ) → (n == 0) ≡ false → (xs : List ℕ) → length xs ≡ n → 0 < length xs
        positive zero e xs f = absurd (false≢true (sym e))
        positive (suc n) e xs f = omega (arith, f)

pub chunked_is : (bytes : List ℕ) (place size : ℕ) → Ends bytes place size → IsChunked bytes
chunked_is bytes place size x = chunked_up_to (length bytes) bytes place size (omega arith) x

pub chunked_back : (bytes : List ℕ) → IsChunked bytes → (place : ℕ) × (size : ℕ) × (Ends bytes place size)
chunked_back bytes (chunked.Last line trailer b first end e) =
    let found : SizeLine = record { len = length line; size = 0 } in
    let chunk : Chunk = record { len = length line; is_last = true } in
    let is : front_chunk bytes ≡ Ok chunk = ap front_chunk e ∙ ap (λ r. and_then r (chunk_behind (line ++ trailer))) (line_back 0 line trailer first) in
    let behind : drop (length line) bytes ≡ trailer = ap (λ t. drop (length line) t) e ∙ drop-append_seam line trailer in (
      length line,
      length trailer,
      (
        trailer_last bytes chunk is refl,
        subst (λ t. IsTrailerScan t (Whole (length trailer))) (sym behind) (trailer_back trailer end),
        ap length e ∙ length-append line trailer,
      ),
    )
chunked_back bytes (chunked.Chunk line content rest b first some more e) =
    let text = line ++ (content ++ 13 ∷ 10 ∷ rest) in
    let L = length line in
    let S = length content in
    let chunk : Chunk = record { len = L + S + 2; is_last = false } in
    let after : drop (L + S) text ≡ 13 ∷ 10 ∷ rest = drop-append-add line (content ++ 13 ∷ 10 ∷ rest) S ∙ drop-append_seam content (13 ∷ 10 ∷ rest) in
    let is : front_chunk bytes ≡ Ok chunk =
    ap front_chunk e ∙ ap (λ r. and_then r (chunk_behind text)) (line_back S line (content ++ 13 ∷ 10 ∷ rest) first)
    ∙ ap (λ t. cond t (Ok (record { len = L; is_last = true })) (when_whole (line_end (drop (L + S) text)) (λ end. record { len = L + S + end; is_last = false }))) (ne_eqb S 0 (λ z. omega (arith, z, some)))
    ∙ ap (λ t. when_whole (line_end t) (λ end. record { len = L + S + end; is_last = false })) after in
    let behind : drop (L + S + 2) bytes ≡ rest = ap (λ t. drop (L + S + 2) t) e ∙ sym (drop-drop 2 (L + S) text) ∙ ap (drop 2) after in
    let later = chunked_back rest more in
    let size : length bytes ≡ L + S + 2 + length rest =
    let inner : length (content ++ 13 ∷ 10 ∷ rest) ≡ S + suc (suc (length rest)) = length-append content (13 ∷ 10 ∷ rest) in
    omega (arith, ap length e, length-append line (content ++ 13 ∷ 10 ∷ rest), inner) in (
      L + S + 2 + later.0,
      later.1,
      (
        trailer_inner bytes chunk is refl ∙ ap (λ t. further (L + S + 2) (trailer_from t)) behind ∙ ap (further (L + S + 2)) later.2.0,
        subst (λ t. IsTrailerScan t (Whole later.1)) (sym (sym (drop-drop later.0 (L + S + 2) bytes) ∙ ap (drop later.0) behind)) later.2.1,
        omega (arith, size, later.2.2),
      ),
    )
