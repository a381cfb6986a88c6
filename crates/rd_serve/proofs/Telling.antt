-- What is told grows by entries that are right.
use Rattle.std.proofs.Common.{◌≡◌, ℕ, List, [], ◌∷◌, ◌++◌, inl, inr, Option, Some, None, refl, sym, ap, ◌∙◌, subst, append_assoc, append-nil}
use Rattle.rd_base.specs.declared.values.Side.{Side}
use Rattle.rd_doors.specs.Visits.{EndsTold, RunTold, Entry, entries_with, out_from, out_of, out_after}
use Rattle.rd_doors.specs.Calls.{DoorsTold}
use Rattle.rd_runner.specs.Runs.{Setup}
use Rattle.rd_serve.specs.Serving.{IsRight, EachRight, IsServed, Tells, Has}
use Rattle.rd_serve.specs.Sessions.{KeepsTold, Goes}

pub out_from_more : {L : Type 0} (out : List ℕ) (t : List (Entry L)) (e : Entry L) → out_from out (t ++ e ∷ []) ≡ out_after e (out_from out t)
out_from_more out [] e = refl
out_from_more out (x ∷ t) e = out_from_more (out_after x out) t e

pub has_last : {L : Type 0} (e : Entry L) (t : List (Entry L)) → Has e (t ++ e ∷ [])
has_last e [] = inl refl
has_last e (y ∷ t) = inr (has_last e t)

get_some : {A : Type 0} → A → Option A → A
get_some a None = a
get_some a (Some b) = b

pub some_is : {A : Type 0} (a b : A) → Some a ≡ Some b → a ≡ b
unfolding get_some
some_is a b is = ap (λ o. get_some a o) is

IsNone : {A : Type 0} → Option A → Type 0
IsNone None = Unit {0}
IsNone (Some a) = ⊥

none_some : {A : Type 0} (a : A) → None ≡ Some a → ⊥
unfolding IsNone
none_some a is = subst IsNone is tt

-- what is told now is what was told, and one more entry
pub told_more : {L : Type 0} (P : List (Entry L) → Type 0) (e : Entry L) (told : Option (List (Entry L))) (t : List (Entry L)) → entries_with (Some e) told ≡ Some t
    → ((before : List (Entry L)) → told ≡ Some before → P (before ++ e ∷ [])) → P t
told_more P e None t is right = absurd (none_some t is)
told_more P e (Some before) t is right = subst P (some_is (before ++ e ∷ []) t is) (right before refl)

pub keeps_more : {L : Type 0} (d d' : DoorsTold L) (e : Entry L) → d'.told ≡ entries_with (Some e) d.told → KeepsTold d d'
keeps_more d d' e told t is = told_more (λ t. Goes d.told t) e d.told t (sym told ∙ is) (λ before was. record { was = before; more = e ∷ []; had = was; is = refl })

pub gains : {L : Type 0} (d d' : DoorsTold L) (e : Entry L) → d'.told ≡ entries_with (Some e) d.told → (t : List (Entry L)) → d'.told ≡ Some t → Has e t
gains d d' e told t is = told_more (λ t. Has e t) e d.told t (sym told ∙ is) (λ before was. has_last e before)

pub keeps_same : {L : Type 0} (d d' : DoorsTold L) → d'.told ≡ d.told → KeepsTold d d'
keeps_same d d' told t is = record { was = t; more = []; had = sym told ∙ is; is = append-nil t }

pub keeps_then : {L : Type 0} (a b c : DoorsTold L) → KeepsTold a b → KeepsTold b c → KeepsTold a c
keeps_then a b c first second t is =
    let late = second t is in
    let early = first late.was late.had in
    record { was = early.was; more = early.more ++ late.more; had = early.had; is = sym (append_assoc early.was early.more late.more) ∙ ap (λ l. l ++ late.more) early.is ∙ late.is }

has_front : {L : Type 0} (e : Entry L) (t more : List (Entry L)) → Has e t → Has e (t ++ more)
has_front e [] more has = absurd has
has_front e (y ∷ t) more (inl is) = inl is
has_front e (y ∷ t) more (inr has) = inr (has_front e t more has)

-- what had an entry still has it
pub keeps_has : {L : Type 0} (d d' : DoorsTold L) (e : Entry L) → KeepsTold d d' → ((t : List (Entry L)) → d.told ≡ Some t → Has e t) → (t : List (Entry L)) → d'.told ≡ Some t → Has e t
keeps_has d d' e keeps had t is = let goes = keeps t is in subst (Has e) goes.is (has_front e goes.was goes.more (had goes.was goes.had))

module _ {L : Type 0} (by : Setup → Side → EndsTold → RunTold L → Type 0) (setup : Setup) where
  pub each_more : (before es : List (Entry L)) (e : Entry L) → EachRight by setup before es → IsRight by setup (before ++ es) e → EachRight by setup before (es ++ e ∷ [])
  each_more before [] e each right = (subst (λ b. IsRight by setup b e) (append-nil before) right, tt)
  each_more before (x ∷ es) e each right =
      (each.0, each_more (before ++ x ∷ []) es e each.1 (subst (λ b. IsRight by setup b e) (sym (append_assoc before (x ∷ []) es)) right))

  pub tells_more : (d d' : DoorsTold L) (e : Entry L) → Tells by setup d
      → d'.told ≡ entries_with (Some e) d.told → d'.out ≡ out_after e d.out → d'.copies ≡ d.copies
      → ((t : List (Entry L)) → d.told ≡ Some t → IsRight by setup t e) → Tells by setup d'
  tells_more d d' e tells told out copies right = record {
    copies = copies ∙ tells.copies;
    served = λ t is. told_more (λ t. IsServed by setup t) e d.told t (sym told ∙ is) (λ before was. each_more [] before e (tells.served before was) (right before was));
    out = λ t is. told_more (λ t. d'.out ≡ out_of t) e d.told t (sym told ∙ is) (λ before was. out ∙ ap (out_after e) (tells.out before was) ∙ sym (out_from_more [] before e));
  }

  pub tells_same : (d d' : DoorsTold L) → Tells by setup d → d'.told ≡ d.told → d'.out ≡ d.out → d'.copies ≡ d.copies → Tells by setup d'
  tells_same d d' tells told out copies = record {
    copies = copies ∙ tells.copies;
    served = λ t is. tells.served t (sym told ∙ is);
    out = λ t is. out ∙ tells.out t (sym told ∙ is);
  }
