-- A part of a write in memory.
use Rattle.std.proofs.Common.{◌≡◌, ◌⊎◌, inl, inr, ℕ, List, [], ◌++◌, Some, take, drop, refl, sym, ap, ◌∙◌, append-nil, ◌+◌, min, arith}
use Rattle.std.proofs.lemmas.Bool.{cases_lt}
use Rattle.std.proofs.lemmas.List.{take-append-drop}
use Rattle.rd_base.specs.Outside.{HoldsPrefix, Rose}

pub prefix_held : (held had new bytes : List ℕ) (count : ℕ) → had ≡ held → (new ≡ had ++ take count bytes) ⊎ (new ≡ had) → HoldsPrefix (Some held) (Some new) bytes
prefix_held held had new bytes count same (inl is) = record {
  part = take count bytes;
  begins = record { rest = drop count bytes; is = take-append-drop count bytes };
  holds = ap Some (is ∙ ap (λ h. h ++ take count bytes) same);
}
prefix_held held had new bytes count same (inr is) = record {
  part = [];
  begins = record { rest = bytes; is = refl };
  holds = ap Some (is ∙ same ∙ sym (append-nil held));
}

-- a count that was raised, and stands still at its last value
pub risen : (before after : ℕ) → after ≡ min (before + 1) 18446744073709551615 → Rose before after
risen before after is = elim (cases_lt before after) [ inl lt ↦ inl lt | inr le ↦ inr (omega arith) ]
