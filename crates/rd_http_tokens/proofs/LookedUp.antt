-- What a copy gets depends on the rows only through the words that are looked up.
use Rattle.std.proofs.Common.{◌≡◌, ℕ, ◌+◌, Bool, true, false, cond, List, [], ◌∷◌, ◌++◌, length, take, drop, map, refl, ap, ◌∙◌, codes}
use Rattle.std.specs.Prelude.{nat_lt, bytes_eq, ◌==◌, Option, Some, None, Result, Ok, Err}
use Rattle.std.specs.List.{All, flat_map, position_or_len, slice_split, join_with_byte}
use Rattle.std.specs.Str.Lossy.{utf8_lossy}
use Rattle.std.proofs.lemmas.List.Elements.{All-head, All-tail}
use Rattle.form_urlencoded.specs.Form.{decode}
use Rattle.rd_base.specs.Token.{Token}
use Rattle.rd_base.specs.History.{Row}
use Rattle.rd_base.specs.WordCut.{cut_words}
use Rattle.rd_base.specs.Swap.{swap_words, swapped, word_for}
use Rattle.rd_base.specs.declared.values.Scan.{Scan}
use Rattle.rd_base.specs.declared.values.Part.TheVariants.{Request}
use Rattle.rd_base.specs.declared.values.TokenKind.{TokenKind}
use Rattle.rd_base.specs.declared.values.TokenKind.TheVariants.{Soft, Firm, Name}
use Rattle.rd_token_map.specs.SwapForm.{swap_form, swap_pair, swap_value, has_replacement, written, key_len}
use Rattle.rd_token_map.specs.WordsIn.{soft_text, soft_texts, words_in, words_of_value, words_of_pair, words_in_form}
use Rattle.rd_body_tokens.specs.declared.place.BodyKind.{BodyKind}
use Rattle.rd_body_tokens.specs.declared.place.BodyKind.TheVariants.{Words, Json, Form, Raw}
use Rattle.rd_http_frame.specs.Fronts.{front_len, after_front}
use Rattle.rd_http_frame.specs.Flats.{body_data}
use Rattle.rd_http_frame.specs.declared.unit.FinalHead.{FinalHead}
use Rattle.rd_http_frame.specs.declared.body.BodyRule.{BodyRule}
use Rattle.rd_http_scan.specs.Scans.{final_head}
use Rattle.rd_http_tokens.specs.Tokens.{line_of, value_of, up_to_space, behind_space}
use Rattle.rd_http_tokens.specs.Copied.{copied, copied_by, copied_of, copied_with, copied_head, copied_start, copied_target, copied_line, length_value, with_value, is_named, fields_of, kind_in, changed_body, swapped_body, framed, asked, asked_by, asked_of, words_in_target, words_in_line, words_in_body, space_len}

module _ (copy : ℕ) (rows others : List Row) where
  -- the rows have the same for each of these words
  abbrev Same : List (List ℕ) → Type 0
  Same [] = Unit
  Same (w ∷ ws) = (word_for copy rows w ≡ word_for copy others w) × Same ws

  abbrev is_same : List ℕ → Type 0
  is_same word = word_for copy rows word ≡ word_for copy others word

  from_all : (ws : List (List ℕ)) → All is_same ws → Same ws
  from_all [] h = tt
  from_all (w ∷ ws) h = (All-head is_same w ws h, from_all ws (All-tail is_same w ws h))

  before : (us ws : List (List ℕ)) → Same (us ++ ws) → Same us
  before [] ws h = tt
  before (u ∷ us) ws h = (h.0, before us ws h.1)

  behind : (us ws : List (List ℕ)) → Same (us ++ ws) → Same ws
  behind [] ws h = h
  behind (u ∷ us) ws h = behind us ws h.1

  -- ---- texts and forms

  tokens_same : (ts : List Token) → Same (soft_texts ts) → flat_map (λ t. swapped copy rows t.kind t.text) ts ≡ flat_map (λ t. swapped copy others t.kind t.text) ts
  tokens_same [] h = refl
  tokens_same (t ∷ ts) h = by t.kind t.text (before (soft_text t.kind t.text) (soft_texts ts) h) (tokens_same ts (behind (soft_text t.kind t.text) (soft_texts ts) h))
    where
      more : List Row → List ℕ
      more r = flat_map (λ u. swapped copy r u.kind u.text) ts

      by : (kind : TokenKind) (text : List ℕ) → Same (soft_text kind text) → more rows ≡ more others → swapped copy rows kind text ++ more rows ≡ swapped copy others kind text ++ more others
      by Soft text s e = ap (λ w. w ++ more rows) s.0 ∙ ap (λ m. word_for copy others text ++ m) e
      by Firm text s e = ap (λ m. text ++ m) e
      by Name text s e = ap (λ m. text ++ m) e

  words_same : (text : List ℕ) → Same (words_in text) → swap_words copy rows text ≡ swap_words copy others text
  words_same text h = tokens_same (cut_words text) h

  value_same : (value : List ℕ) → Same (words_of_value value) → swap_value copy rows value ≡ swap_value copy others value
  value_same value h = by (has_replacement (utf8_lossy (decode value))) h
    where
      text : List ℕ
      text = utf8_lossy (decode value)

      by : (t : Bool) → Same (cond t [] (words_in text)) → cond t value (written value text (swap_words copy rows text)) ≡ cond t value (written value text (swap_words copy others text))
      by true s = refl
      by false s = ap (written value text) (words_same text s)

  pairs_same : (pairs : List (List ℕ)) → Same (flat_map words_of_pair pairs) → map (swap_pair copy rows) pairs ≡ map (swap_pair copy others) pairs
  pairs_same [] h = refl
  pairs_same (pair ∷ pairs) h =
      let first = value_same (drop (key_len pair) pair) (before (words_of_pair pair) (flat_map words_of_pair pairs) h) in
      ap (λ v. (take (key_len pair) pair ++ v) ∷ map (swap_pair copy rows) pairs) first
      ∙ ap (λ ps. swap_pair copy others pair ∷ ps) (pairs_same pairs (behind (words_of_pair pair) (flat_map words_of_pair pairs) h))

  form_same : (text : List ℕ) → Same (words_in_form text) → swap_form copy rows text ≡ swap_form copy others text
  form_same text h = ap (join_with_byte 38) (pairs_same (slice_split (λ b. b == 38) text) h)

  -- ---- the head

  target_same : (target : List ℕ) → Same (words_in_target target) → copied_target copy rows target ≡ copied_target copy others target
  target_same target h =
      let n = position_or_len (λ b. b == 63) target in
      let query = drop (n + 1) target in
      ap (λ p. p ++ cond (nat_lt n (length target)) (63 ∷ swap_form copy rows query) []) (words_same (take n target) (before (words_in (take n target)) (words_in_form query) h))
      ∙ ap (λ q. swap_words copy others (take n target) ++ cond (nat_lt n (length target)) (63 ∷ q) []) (form_same query (behind (words_in (take n target)) (words_in_form query) h))

  line_same : (size : Option ℕ) (line : List ℕ) → Same (words_in_line line) → copied_line copy rows size line ≡ copied_line copy others size line
  line_same size line h = by (is_named (codes "upgrade") line) (is_named (codes "accept-encoding") line) (is_named (codes "content-length") line) h
    where
      value : List Row → Bool → Bool → List ℕ
      value r coding len = cond coding (codes "identity") (cond len (length_value size (value_of line)) (swap_words copy r (value_of line)))

      by : (upgrade coding len : Bool) → Same (cond upgrade [] (cond coding [] (cond len [] (words_in (value_of line)))))
          → cond upgrade [] (10 ∷ with_value line (value rows coding len)) ≡ cond upgrade [] (10 ∷ with_value line (value others coding len))
      by true coding len s = refl
      by false true len s = refl
      by false false true s = refl
      by false false false s = ap (λ v. 10 ∷ with_value line v) (words_same (value_of line) s)

  lines_same : (size : Option ℕ) (ls : List (List ℕ)) → Same (flat_map words_in_line ls) → flat_map (copied_line copy rows size) ls ≡ flat_map (copied_line copy others size) ls
  lines_same size [] h = refl
  lines_same size (line ∷ ls) h =
      ap (λ l. l ++ flat_map (copied_line copy rows size) ls) (line_same size line (before (words_in_line line) (flat_map words_in_line ls) h))
      ∙ ap (λ more. copied_line copy others size line ++ more) (lines_same size ls (behind (words_in_line line) (flat_map words_in_line ls) h))

  head_same : (size : Option ℕ) (head : List ℕ) → Same (words_in_target (up_to_space (behind_space (line_of (after_front head))))) → Same (flat_map words_in_line (fields_of head)) → copied_head copy rows size head ≡ copied_head copy others size head
  head_same size head start fields =
      let line = line_of (after_front head) in
      let rest = behind_space line in
      ap (λ t. take (front_len head) head ++ ((take (space_len line + 1) line ++ (t ++ drop (space_len rest) rest)) ++ flat_map (copied_line copy rows size) (fields_of head))) (target_same (up_to_space rest) start)
      ∙ ap (λ fs. take (front_len head) head ++ (copied_start copy others line ++ fs)) (lines_same size (fields_of head) fields)

  -- ---- a request

  body_same : (kind : BodyKind) (body : List ℕ) → Same (words_in_body kind body) → swapped_body kind copy rows body ≡ swapped_body kind copy others body
  body_same Words body h = words_same body h
  body_same Json body h = words_same body h
  body_same Form body h = form_same body h
  body_same Raw body h = refl

  of_same : (head : List ℕ) (rule : BodyRule) (body : List ℕ) → Same (asked_of head rule body) → copied_of copy rows head rule body ≡ copied_of copy others head rule body
  of_same head rule body h =
      let start = words_in_target (up_to_space (behind_space (line_of (after_front head)))) in
      let fields = flat_map words_in_line (fields_of head) in
      let content = words_in_body (kind_in head) (body_data rule body) in
      let came = body_data rule body in
      let later = behind start (fields ++ content) h in
      let changed : changed_body (kind_in head) copy rows came ≡ changed_body (kind_in head) copy others came =
      ap (λ c. cond (bytes_eq c came) None (Some c)) (body_same (kind_in head) came (behind fields content later)) in
      ap (copied_with copy rows head rule body) changed ∙ by (before start (fields ++ content) h) (before fields content later) (changed_body (kind_in head) copy others came)
    where
      by : Same (words_in_target (up_to_space (behind_space (line_of (after_front head))))) → Same (flat_map words_in_line (fields_of head))
          → (c : Option (List ℕ)) → copied_with copy rows head rule body c ≡ copied_with copy others head rule body c
      by s f None = ap (λ t. t ++ body) (head_same None head s f)
      by s f (Some content) = ap (λ t. t ++ framed rule body content) (head_same (Some (length content)) head s f)

  by_same : (unit : List ℕ) (found : Result FinalHead Scan) → Same (asked_by unit found) → copied_by copy rows unit found ≡ copied_by copy others unit found
  by_same unit (Ok head) h = of_same (take head.to unit) head.body (drop head.to unit) h
  by_same unit (Err scan) h = refl

  pub copies_same : (unit : List ℕ) → All (λ w. word_for copy rows w ≡ word_for copy others w) (asked unit) → copied copy rows unit ≡ copied copy others unit
  copies_same unit h = by_same unit (final_head Request unit) (from_all (asked unit) h)
