-- One line of a head after another.
use Rattle.std.proofs.Common.{◌≡◌, ℕ, ◌+◌, ◌<◌, ◌≤◌, List, [], ◌∷◌, ◌++◌, length, take, drop, sym, ap, ◌∙◌, append-nil, append_assoc}
use Rattle.std.specs.Prelude.{◌==◌}
use Rattle.std.specs.List.{flat_map, position_or_len}
use Rattle.rd_token_map.proofs.Parts.{first_part, only_part}
use Rattle.rd_http_tokens.specs.Copied.{lines_in}

module _ (rest : List ℕ) (len : ℕ) (is : len ≡ position_or_len (λ b. b == 10) rest) where
  pub first_line : len < length rest → lines_in rest ≡ take len rest ∷ lines_in (drop (len + 1) rest)
  first_line lt = first_part (λ b. b == 10) rest len is lt

  pub only_line : length rest ≤ len → lines_in rest ≡ take len rest ∷ []
  only_line past = only_part (λ b. b == 10) rest len is past

-- what a function makes of each line, appended
pub lines_more : {A : Type 0} (f : List ℕ → List A) (before next : List A) (rest later : List ℕ) (len : ℕ) → len ≡ position_or_len (λ b. b == 10) rest → len < length rest
    → next ≡ before ++ f (take len rest) → later ≡ drop (len + 1) rest → before ++ flat_map f (lines_in rest) ≡ next ++ flat_map f (lines_in later)
lines_more f before next rest later len is lt appended l =
    let more = flat_map f (lines_in (drop (len + 1) rest)) in
    ap (λ ls. before ++ flat_map f ls) (first_line rest len is lt)
    ∙ sym (append_assoc before (f (take len rest)) more)
    ∙ ap (λ t. t ++ more) (sym appended)
    ∙ ap (λ t. next ++ flat_map f (lines_in t)) (sym l)

pub lines_last : {A : Type 0} (f : List ℕ → List A) (before next : List A) (rest : List ℕ) (len : ℕ) → len ≡ position_or_len (λ b. b == 10) rest → length rest ≤ len
    → next ≡ before ++ f (take len rest) → before ++ flat_map f (lines_in rest) ≡ next
lines_last f before next rest len is past appended =
    ap (λ ls. before ++ flat_map f ls) (only_line rest len is past)
    ∙ ap (λ t. before ++ t) (append-nil (f (take len rest)))
    ∙ sym appended
