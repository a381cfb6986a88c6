-- The first of the parts that a text is split into.
use Rattle.std.proofs.Common.{◌≡◌, ℕ, ◌+◌, ◌<◌, ◌≤◌, Bool, false, not, List, [], ◌∷◌, length, take, drop, get_or, sym, ap, ◌∙◌, arith}
use Rattle.std.specs.List.{All, position_or_len, slice_split}
use Rattle.std.proofs.lemmas.Bool.{not-true}
use Rattle.std.proofs.lemmas.List.{take_all}
use Rattle.std.proofs.lemmas.List.Sums.{prefix_len_passes}
use Rattle.std.proofs.lemmas.List.Splits.{slice_split_first, slice_split_none}

module _ (p : ℕ → Bool) (text : List ℕ) (end : ℕ) (is : end ≡ position_or_len p text) where
  pub first_part : end < length text → slice_split p text ≡ take end text ∷ slice_split p (drop (end + 1) text)
  first_part lt =
      let short : position_or_len p text < length text = omega (arith, is) in
      slice_split_first p text 0 short ∙ ap (λ k. take k text ∷ slice_split p (drop (k + 1) text)) (sym is)

  pub only_part : length text ≤ end → slice_split p text ≡ take end text ∷ []
  only_part past =
      let none : All (λ b. p b ≡ false) text = λ k d lt. not-true (p (get_or text k d)) (prefix_len_passes (λ b. not (p b)) text k d (omega (arith, is))) in
      slice_split_none p text none ∙ ap (λ t. t ∷ []) (sym (take_all end text past))
