-- A text with its words swapped for one copy.
use Rattle.std.specs.Prelude.{ℕ, ◌≡◌, ◌≤◌, length, Bool, true, false, List, [], ◌∷◌, ◌&&◌, nat_le, bytes_eq, find, unwrap_or, option_and_then, slice_get, All}
use Rattle.std.specs.List.{flat_map}
use Rattle.rd_base.specs.WordCut.{cut_words, is_word}
use Rattle.rd_base.specs.declared.values.TokenKind.{TokenKind}
use Rattle.rd_base.specs.declared.values.TokenKind.TheVariants.{Soft, Firm, Name}

-- a word of 16 to 128 bytes, which a row may hold
abbrev pub is_row_word : List ℕ → Bool
is_row_word text = is_word text && nat_le 16 (length text) && nat_le (length text) 128

pub record IsRowWord (text : List ℕ) : Type 0 where
  pub word : is_word text ≡ true
  pub least : 16 ≤ length text
  pub most : length text ≤ 128

-- rows whose texts are all such words
abbrev pub AreRowWords : List (List (List ℕ)) → Type 0
AreRowWords rows = All (λ row. All IsRowWord row) rows

-- a row's text that was shown is this word
abbrev pub shows : List ℕ → List (List ℕ) → Bool
shows word [] = false
shows word (shown ∷ texts) = bytes_eq shown word

-- the first of the rows that shows this word has this for the copy; the word itself where no row has a text
abbrev pub word_for : ℕ → List (List (List ℕ)) → List ℕ → List ℕ
word_for copy rows word = unwrap_or (option_and_then (λ row. slice_get row copy) (find (shows word) rows)) word

abbrev pub swapped : ℕ → List (List (List ℕ)) → TokenKind → List ℕ → List ℕ
swapped copy rows Soft text = word_for copy rows text
swapped copy rows Firm text = text
swapped copy rows Name text = text

-- a text with its words swapped
abbrev pub swap_words : ℕ → List (List (List ℕ)) → List ℕ → List ℕ
swap_words copy rows text = flat_map (λ t. swapped copy rows t.kind t.text) (cut_words text)
