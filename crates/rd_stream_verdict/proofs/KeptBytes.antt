-- How many bytes are kept of a copy.
use Rattle.std.proofs.Common.{◌≡◌, ℕ, zero, suc, ◌+◌, ◌*◌, ◌<◌, ◌≤◌, Bool, true, false, cond, ◌&&◌, List, [], ◌∷◌, ◌++◌, length, drop, get_or, Option, Some, None, refl, ap, sym, subst, ◌∙◌, arith, length-append}
use Rattle.std.specs.Prelude.{slice_get, option_map, nat_le}
use Rattle.std.specs.List.{list_all}
use Rattle.std.proofs.lemmas.Bool.Decides.{nat_tests}
use Rattle.std.proofs.lemmas.List.{length-map, append-nil, drop_more}
use Rattle.std.proofs.lemmas.Option.{slice_get-map, slice_get_read}
use Rattle.rd_base.specs.Token.{Token}
use Rattle.rd_base.specs.Swap.{is_row_word}
use Rattle.rd_base.specs.WordCut.{is_word}
use Rattle.rd_base.specs.Heard.{Heard, lists_of, judged_places, early_verdict}
use Rattle.rd_base.specs.Verdicts.{fault, masked_below, is_masked, is_agreed, mask_of, texts_at, text_or_none, rows_at}
use Rattle.rd_base.specs.declared.values.MaskLimits.{MaskLimits}
use Rattle.rd_base.specs.declared.verdict.Verdict.{Verdict}
use Rattle.rd_base.specs.declared.verdict.Verdict.TheVariants.{Agreed, Disagree, Noise}
use Rattle.rd_verdict.proofs.AgreedPlaces.{free_from}
use Rattle.rd_stream_verdict.specs.Kept.{Kept, kept_of, IsAt, IsReached, HaveWords, waiting_bytes, unjudged_bytes, bytes_past, row_bytes, text_bytes}
use Rattle.rd_stream_verdict.proofs.Reached.{and_parts}
use Rattle.rd_stream_verdict.proofs.ByHeads.{heads_at, masked_by, fault_by}
use Rattle.rd_stream_verdict.proofs.Masked.{maskable}
use Rattle.rd_stream_verdict.proofs.Heard.{masked_so_far}

-- ---- rows

pub rows_have : (copy : ℕ) (lists : List (List Token)) (mask : List ℕ) → copy < length lists → HaveWords copy (rows_at lists mask)
rows_have copy lists [] lt = tt
rows_have copy lists (p ∷ mask) lt = go (list_all is_row_word (texts_at lists p)) refl (rows_have copy lists mask lt)
  where
    go : (b : Bool) → list_all is_row_word (texts_at lists p) ≡ b → HaveWords copy (rows_at lists mask) → HaveWords copy (cond b (texts_at lists p ∷ rows_at lists mask) (rows_at lists mask))
    go true is rest = (omega (arith, length-map lists (λ tokens. text_or_none (slice_get tokens p))), is, rest)
    go false is rest = rest

pub rows_few : (lists : List (List Token)) (mask : List ℕ) → length (rows_at lists mask) ≤ length mask
rows_few lists [] = omega arith
rows_few lists (p ∷ mask) = go (list_all is_row_word (texts_at lists p)) (rows_few lists mask)
  where
    go : (b : Bool) → length (rows_at lists mask) ≤ length mask → length (cond b (texts_at lists p ∷ rows_at lists mask) (rows_at lists mask)) ≤ suc (length mask)
    go true le = omega arith
    go false le = omega arith

masked_few : (most : MaskLimits) (lists : List (List Token)) (n : ℕ) → ((p : ℕ) → p < n → fault most lists p ≡ None) → length (masked_below lists n) ≤ most.places
masked_few most lists zero none = omega arith
masked_few most lists (suc n) none = go (is_masked lists n) refl (masked_few most lists n (λ p lt. none p (omega arith))) (none n (omega arith))
  where
    go : (b : Bool) → is_masked lists n ≡ b → length (masked_below lists n) ≤ most.places → fault most lists n ≡ None → length (masked_below lists n ++ cond b (n ∷ []) []) ≤ most.places
    go true is le e =
        let room = (maskable most n (length (masked_below lists n)) (heads_at lists n) (sym (fault_by most lists n) ∙ e) (sym (masked_by lists n) ∙ is)).room in
        omega (arith, length-append (masked_below lists n) (n ∷ []), room)
    go false is le e = rw append-nil le

mask_few : (most : MaskLimits) (h : List Heard) → length (mask_of (early_verdict most h)) ≤ most.places
mask_few most h = go (early_verdict most h) refl
  where
    go : (v : Verdict) → early_verdict most h ≡ v → length (mask_of v) ≤ most.places
    go (Disagree copy place) is = omega arith
    go (Noise place) is = omega arith
    go (Agreed mask) is =
        let free = free_from most (lists_of h) 0 (judged_places h) mask is in
        omega (arith, ap length (masked_so_far most h mask is), masked_few most (lists_of h) (judged_places h) (λ p lt. free.none p (omega arith) (omega arith)))

pub kept_have : (copy : ℕ) (kept : Kept) → IsReached kept → copy < length kept.copies → HaveWords copy kept.rows
kept_have copy kept reached lt =
    let h = reached.said in
    let size : length kept.copies ≡ length h = ap length reached.at.copies ∙ length-map h (kept_of (is_agreed (early_verdict kept.most h)) (judged_places h)) in
    let lists : length (lists_of h) ≡ length h = length-map h (λ (c : Heard). c.tokens) in
    let P : List (List (List ℕ)) → Type 0 = λ rows. HaveWords copy rows in
    subst P (sym reached.at.rows) (rows_have copy (lists_of h) (mask_of (early_verdict kept.most h)) (omega arith))

pub kept_few : (kept : Kept) → IsReached kept → length kept.rows ≤ 64
kept_few kept reached =
    let h = reached.said in
    omega (arith, ap length reached.at.rows, rows_few (lists_of h) (mask_of (early_verdict kept.most h)), mask_few kept.most h, reached.limits.places)

-- ---- tokens that wait

pub waiting_few : (copy : ℕ) (kept : Kept) (h : List Heard) → IsAt h kept → waiting_bytes (slice_get kept.copies copy) ≤ unjudged_bytes copy h
waiting_few copy kept h at =
    let b = is_agreed (early_verdict kept.most h) in
    let q = judged_places h in
    let same : waiting_bytes (slice_get kept.copies copy) ≡ waiting_bytes (option_map (kept_of b q) (slice_get h copy)) =
    ap (λ xs. waiting_bytes (slice_get xs copy)) at.copies ∙ ap waiting_bytes (slice_get-map (kept_of b q) h copy) in
    omega (arith, go b q (slice_get h copy))
  where
    go : (b : Bool) (q : ℕ) (o : Option Heard) → waiting_bytes (option_map (kept_of b q) o) ≤ bytes_past q o
    go b q None = omega arith
    go true q (Some c) = omega arith
    go false q (Some c) = omega arith

-- ---- one row more

pub word_most : (text : List ℕ) → is_row_word text ≡ true → length text ≤ 128
word_most text e = most (length text) (and_parts (is_word text && nat_le 16 (length text)) (nat_le (length text) 128) e).1
  where
    most : (n : ℕ) → nat_le n 128 ≡ true → n ≤ 128
    most n e = grind (arith, nat_tests)

pub text_most : (copy : ℕ) (row : List (List ℕ)) → list_all is_row_word row ≡ true → text_bytes (slice_get row copy) ≤ 128
text_most copy [] e = omega arith
text_most zero (text ∷ row) e = word_most text (and_parts (is_row_word text) (list_all is_row_word row) e).0
text_most (suc copy) (text ∷ row) e = text_most copy row (and_parts (is_row_word text) (list_all is_row_word row) e).1

-- what holds after so many rows
pub record IsCounted (copy : ℕ) (rows : List (List (List ℕ))) (index bytes : ℕ) : Type 0 where
  pub rest : bytes + row_bytes copy (drop index rows) ≡ row_bytes copy rows
  pub most : bytes ≤ 128 * index
  pub words : HaveWords copy (drop index rows)

pub row_counted : (copy : ℕ) (rows : List (List (List ℕ))) (index bytes : ℕ) (row : List (List ℕ)) (text : List ℕ) → IsCounted copy rows index bytes → index < length rows → row ≡ get_or rows index row → text ≡ get_or row copy text → IsCounted copy rows (index + 1) (bytes + length text)
row_counted copy rows index bytes row text so_far lt at own =
    let more : drop index rows ≡ row ∷ drop (index + 1) rows = drop_more rows index row lt ∙ ap (λ r. r ∷ drop (index + 1) rows) (sym at) in
    let P : List (List (List ℕ)) → Type 0 = λ rs. HaveWords copy rs in
    let words : HaveWords copy (row ∷ drop (index + 1) rows) = subst P more so_far.words in
    let here : slice_get row copy ≡ Some text = slice_get_read row (length row) copy text refl words.0 own in
    let size : text_bytes (slice_get row copy) ≡ length text = ap text_bytes here in
    record {
      rest = omega (arith, so_far.rest, ap (row_bytes copy) more, size);
      most = omega (arith, so_far.most, size, text_most copy row words.1);
      words = words.2;
    }
