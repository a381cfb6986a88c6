-- What a book finds shows the word that was looked up, and what it tells of the call.
use Rattle.std.proofs.Common.{◌≡◌, ℕ, Bool, true, false, cond, List, [], ◌∷◌, ◌++◌, map, Option, Some, find, refl, sym, ap, ap₂, ◌∙◌}
use Rattle.std.proofs.lemmas.List.{map-append}
use Rattle.rd_base.specs.History.{Row}
use Rattle.rd_token_map.specs.BookCalls.{Found}
use Rattle.rd_wire.specs.Books.{call_of}
use Rattle.rd_wire.specs.declared.book.Call.{Call}
use Rattle.rd_wire.specs.declared.book.Call.TheVariants as call

some_same : {X : Type 0} (x y : X) → Some x ≡ Some y → x ≡ y
some_same x y e = cc e

shown_by : {X : Type 0} (p : X → Bool) (x y : X) (rest : Option X) → (b : Bool) → p x ≡ b
    → (rest ≡ Some y → p y ≡ true) → cond b (Some x) rest ≡ Some y → p y ≡ true
shown_by p x y rest true test later e = rw (sym (some_same x y e)) test
shown_by p x y rest false test later e = later e

pub found_passes : {X : Type 0} (p : X → Bool) (xs : List X) (y : X) → find p xs ≡ Some y → p y ≡ true
found_passes p [] y e = absurd (cc e)
found_passes p (x ∷ xs) y e = shown_by p x y (find p xs) (p x) refl (found_passes p xs y) e

pub told_more : (old new : List Call) (word kept : List ℕ) (answer told : Option Row) → new ≡ old ++ call.Found kept told ∷ [] → kept ≡ word
    → told ≡ answer → map call_of new ≡ map call_of old ++ Found word answer ∷ []
told_more old new word kept answer told is same_word same_answer =
    ap (map call_of) is ∙ map-append call_of old (call.Found kept told ∷ [])
    ∙ ap₂ (λ w a. map call_of old ++ Found w a ∷ []) same_word same_answer
