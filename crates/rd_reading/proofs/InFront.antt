-- Fronts of one unit agree so far.
use Rattle.std.proofs.Common.{◌≡◌, ℕ, Bool, true, false, List, [], ◌∷◌, ◌++◌, length, take, drop, map, None, refl, sym, ap, subst, ◌∙◌, take-append-drop, arith}
use Rattle.std.specs.Prelude.{nat_le, bytes_eq}
use Rattle.std.proofs.lemmas.Bool.{and_parts}
use Rattle.std.proofs.lemmas.Slice.Eq.{bytes_eq-Decides}
use Rattle.rd_base.specs.Token.{Token}
use Rattle.rd_base.specs.Heard.{Heard}
use Rattle.rd_base.specs.declared.values.MaskLimits.{MaskLimits}
use Rattle.rd_base.specs.declared.values.Scan.{Scan}
use Rattle.rd_base.specs.declared.values.Scan.TheVariants.{Whole, More, Bad, TooBig, Unsupported}
use Rattle.rd_dialect.specs.declared.due.Due.{Due}
use Rattle.rd_dialect.specs.Grammar.{Grammar}
use Rattle.rd_dialect.specs.Laws.{Lawful, IsFront}
use Rattle.rd_dialect.specs.Due.{tokens_due, IsDue}
use Rattle.rd_rules.specs.Exchange.{Open, scan_open}
use Rattle.rd_rules.specs.Early.{heard, heard_by}
use Rattle.rd_rules.specs.Trouble.{judge_by, blamed}
use Rattle.rd_reading.specs.Alike.{HaveFronts, in_front, all_in_front}
use Rattle.rd_reading.proofs.OneList.{AllWithin, front-self, early_verdict-within}

judge_by-within : (most : MaskLimits) (exchange : ℕ) (ts : List Token) (cs : List Heard) → AllWithin ts cs → judge_by most exchange cs ≡ None
judge_by-within most exchange ts [] all = refl
judge_by-within most exchange ts (a ∷ []) all = refl
judge_by-within most exchange ts (a ∷ b ∷ []) all = refl
judge_by-within most exchange ts (a ∷ b ∷ c ∷ more) all = ap (blamed exchange) (early_verdict-within most ts (a ∷ b ∷ c ∷ more) (omega arith) all)

module _ (g : Grammar) (laws : Lawful g) (due : Due) (whole : Bool) (top : List ℕ) (stands : IsDue g due top whole) where
  -- the tokens of the longest front
  abbrev T : List Token
  T = tokens_due g due top whole

  part_within : (bytes : List ℕ) → bytes ≡ take (length bytes) top → IsFront (tokens_due g due bytes false) T
  part_within bytes same =
      let rest = drop (length bytes) top in
      let is : bytes ++ rest ≡ top = ap (λ bs. bs ++ rest) same ∙ take-append-drop (length bytes) top in
      let P : List ℕ → Type 0 = λ bs. IsDue g due bs whole in
      let Q : List ℕ → Type 0 = λ bs. IsFront (g.closed due.part due.phase due.note bytes) (tokens_due g due bs whole) in
      subst Q is (laws.online due.part due.phase due.note bytes rest whole (subst P (sym is) stands))

  nothing_within : IsFront [] T
  nothing_within = record { rest = T; is = refl }

  one_within : (bytes : List ℕ) (s : Scan) → in_front whole top s bytes ≡ true
      → IsFront (heard_by g due bytes s).tokens T × ((heard_by g due bytes s).is_whole ≡ true → (heard_by g due bytes s).tokens ≡ T)
  one_within bytes (Whole len) e =
      let parts = and_parts whole (bytes_eq (take len bytes) top) e in
      let same : tokens_due g due (take len bytes) true ≡ T =
      ap (λ bs. tokens_due g due bs true) ((bytes_eq-Decides (take len bytes) top).0 parts.1) ∙ ap (tokens_due g due top) (sym parts.0) in
      (front-self (tokens_due g due (take len bytes) true) T same, λ w. same)
  one_within bytes More e =
      let parts = and_parts (nat_le (length bytes) (length top)) (bytes_eq bytes (take (length bytes) top)) e in
      (part_within bytes ((bytes_eq-Decides bytes (take (length bytes) top)).0 parts.1), λ w. absurd (cc w))
  one_within bytes Bad e = (nothing_within, λ w. absurd (cc w))
  one_within bytes TooBig e = (nothing_within, λ w. absurd (cc w))
  one_within bytes (Unsupported code) e = (nothing_within, λ w. absurd (cc w))

  all_within : (os : List Open) → all_in_front g due whole top os ≡ true → AllWithin T (map (heard g due) os)
  all_within [] e = tt
  all_within (o ∷ os) e =
      let parts = and_parts (in_front whole top (scan_open g due o) o.bytes) (all_in_front g due whole top os) e in
      (one_within o.bytes (scan_open g due o) parts.0, all_within os parts.1)

pub judge_by-fronts : (g : Grammar) → Lawful g → (most : MaskLimits) (exchange : ℕ) (due : Due) (os : List Open) → HaveFronts g due os → judge_by most exchange (map (heard g due) os) ≡ None
judge_by-fronts g laws most exchange due os have =
    judge_by-within most exchange (tokens_due g due have.top have.whole) (map (heard g due) os) (all_within g laws due have.whole have.top have.stands os have.each)
