-- Words of a start line.
use Rattle.std.proofs.Common.{◌≡◌, ℕ, ◌<◌, ◌≤◌, true, List, get_or, sym, subst, arith, inl, inr, ◌⊎◌}
use Rattle.std.specs.Str.{IsAscii, IsUtf8}
use Rattle.std.proofs.lemmas.Str.{IsUtf8-from_ascii}
use Rattle.std.specs.List.{prefix_len}
use Rattle.std.proofs.lemmas.Bool.{cases_lt}
use Rattle.std.proofs.lemmas.Bool.Decides.{nat_tests}
use Rattle.std.proofs.lemmas.List.{get_or-take, get_or_past, length-take}
use Rattle.std.proofs.lemmas.List.Sums.{prefix_len_passes}
use Rattle.rd_operator.specs.Asked.{is_word_byte, word}

byte_small : (b : ℕ) → is_word_byte b ≡ true → b < 128
byte_small b h = grind (arith, nat_tests, h)

-- a word is ASCII
pub word_ascii : (text : List ℕ) → IsAscii (word text)
word_ascii text i = by (cases_lt i (prefix_len is_word_byte text))
  where
    by : (i < prefix_len is_word_byte text) ⊎ (prefix_len is_word_byte text ≤ i) → get_or (word text) i 0 < 128
    by (inl within) =
        subst (λ (b : ℕ). b < 128) (sym (get_or-take (prefix_len is_word_byte text) text i 0 within))
        (byte_small (get_or text i 0) (prefix_len_passes is_word_byte text i 0 within))
    by (inr past) =
        subst (λ (b : ℕ). b < 128) (sym (get_or_past (word text) i 0 (omega (arith, length-take (prefix_len is_word_byte text) text)))) (omega arith)

pub word_is_text : (text bytes : List ℕ) → bytes ≡ word text → IsUtf8 bytes
word_is_text text bytes h = subst (λ (t : List ℕ). IsUtf8 t) (sym h) (IsUtf8-from_ascii (word text) (word_ascii text))
