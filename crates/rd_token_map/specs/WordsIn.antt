-- The words of a text and of a form's values: those that swapping looks up.
use Rattle.std.specs.Prelude.{ℕ, ◌==◌, if◌then◌else◌, List, [], ◌∷◌, ◌++◌, drop}
use Rattle.std.specs.List.{flat_map, slice_split}
use Rattle.std.specs.Str.Lossy.{utf8_lossy}
use Rattle.form_urlencoded.specs.Form.{decode}
use Rattle.rd_base.specs.Token.{Token}
use Rattle.rd_base.specs.WordCut.{cut_words}
use Rattle.rd_base.specs.declared.values.TokenKind.{TokenKind}
use Rattle.rd_base.specs.declared.values.TokenKind.TheVariants.{Soft, Firm, Name}
use Rattle.rd_token_map.specs.SwapForm.{has_replacement, key_len}

abbrev pub soft_text : TokenKind → List ℕ → List (List ℕ)
soft_text Soft text = text ∷ []
soft_text Firm text = []
soft_text Name text = []

-- the texts of the Soft tokens
abbrev pub soft_texts : List Token → List (List ℕ)
soft_texts [] = []
soft_texts (t ∷ ts) = soft_text t.kind t.text ++ soft_texts ts

abbrev pub words_in : List ℕ → List (List ℕ)
words_in text = soft_texts (cut_words text)

-- the words of the text that a value stands for, none where that has U+FFFD
abbrev pub words_of_value : List ℕ → List (List ℕ)
words_of_value value =
    let text = utf8_lossy (decode value) in
    if has_replacement text then [] else words_in text

abbrev pub words_of_pair : List ℕ → List (List ℕ)
words_of_pair pair = words_of_value (drop (key_len pair) pair)

abbrev pub words_in_form : List ℕ → List (List ℕ)
words_in_form text = flat_map words_of_pair (slice_split (λ b. b == 38) text)
