-- What a sink holds after one text and another.
use Rattle.std.proofs.Common.{◌≡◌, ℕ, Bool, true, false, List, [], ◌++◌, Option, Some, None, Result, Ok, Err, refl, sym, ap, ◌∙◌, subst, append_assoc, append-nil}
use Rattle.std.proofs.lemmas.Result.{on_err_weaker}
use Rattle.std.specs.Result.{OnOk, OnErr}
use Rattle.rd_base.specs.Outside.{HoldsPrefix, held_with}

pub held_nothing : (held : Option (List ℕ)) → held ≡ held_with held []
held_nothing None = refl
held_nothing (Some had) = ap Some (sym (append-nil had))

pub held_more : (held : Option (List ℕ)) (a b : List ℕ) → held_with (held_with held a) b ≡ held_with held (a ++ b)
held_more None a b = refl
held_more (Some had) a b = ap Some (append_assoc had a b)

-- a text and then another
pub held_then : (before mid after : Option (List ℕ)) (a b : List ℕ) → mid ≡ held_with before a → after ≡ held_with mid b → after ≡ held_with before (a ++ b)
held_then before mid after a b first second = second ∙ ap (λ h. held_with h b) first ∙ held_more before a b

-- a first part of a text
pub holds_front : (before after : Option (List ℕ)) (a rest text : List ℕ) → a ++ rest ≡ text → after ≡ held_with before a → HoldsPrefix before after text
holds_front before after a rest text is held = record { part = a; begins = record { rest = rest; is = is }; holds = held }

-- nothing of a text
pub holds_none : (before after : Option (List ℕ)) (text : List ℕ) → after ≡ before → HoldsPrefix before after text
holds_none before after text same = holds_front before after [] text text refl (same ∙ held_nothing before)

-- a part of a text, and then a prefix of its next part
pub holds_on : (before mid after : Option (List ℕ)) (a b rest text : List ℕ) → (a ++ b) ++ rest ≡ text → mid ≡ held_with before a → HoldsPrefix mid after b → HoldsPrefix before after text
holds_on before mid after a b rest text is first on = record {
  part = a ++ on.part;
  begins = record {
    rest = on.begins.rest ++ rest;
    is = simp append_assoc (simp append_assoc at (ap (λ x. (a ++ x) ++ rest) on.begins.is ∙ is));
  };
  holds = held_then before mid after a on.part first on.holds;
}

-- what holds anyway holds at an error
pub at_error : {T E P : Type 0} (r : Result T E) → P → OnErr r P
at_error (Ok x) p = tt
at_error (Err e) p = p

pub at_ok : {T E P : Type 0} (r : Result T E) → P → OnOk r P
at_ok (Ok x) p = p
at_ok (Err e) p = tt

-- a prefix of a text is one of a longer text
pub holds_longer : (before after : Option (List ℕ)) (a b : List ℕ) → HoldsPrefix before after a → HoldsPrefix before after (a ++ b)
holds_longer before after a b h = record {
  part = h.part;
  begins = record { rest = h.begins.rest ++ b; is = sym (append_assoc h.part h.begins.rest b) ∙ ap (λ x. x ++ b) h.begins.is };
  holds = h.holds;
}

-- a prefix of what was said, where it was the text that was wanted; and nothing, where nothing was said
pub holds_wanted : {I T E : Type 0} (r : Result T E) (before after : Option (List ℕ)) (said : List ℕ) (wanted : I → List ℕ) (tells : I → Type 0) (is_told : Bool)
    → (is_told ≡ true → (i : I) → tells i → wanted i ≡ said) → (is_told ≡ false → after ≡ before) → OnErr r (HoldsPrefix before after said)
    → OnErr r ((i : I) → tells i → HoldsPrefix before after (wanted i))
holds_wanted r before after said wanted tells true told silent holds =
    on_err_weaker r (λ held i t. subst (λ (text : List ℕ). HoldsPrefix before after text) (sym (told refl i t)) held) holds
holds_wanted r before after said wanted tells false told silent holds =
    at_error r (λ i t. holds_none before after (wanted i) (silent refl))
