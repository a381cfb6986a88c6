-- Links that are alike have fronts of one unit where the lengths say so.
use Rattle.std.proofs.Common.{◌≡◌, ℕ, suc, ◌<◌, ◌≤◌, Bool, true, false, ◌&&◌, List, [], ◌∷◌, length, take, map, get_or, refl, sym, ap, ap₂, subst, ◌∙◌, arith, length-take}
use Rattle.std.specs.Prelude.{bytes_eq, ◌==◌}
use Rattle.std.proofs.lemmas.List.{get_or-map, length-map}
use Rattle.std.proofs.lemmas.Bool.{and_parts}
use Rattle.std.proofs.lemmas.Bool.Decides.{nat_tests}
use Rattle.std.proofs.lemmas.Slice.Eq.{bytes_eq-Decides}
use Rattle.rd_base.specs.declared.values.Scan.{Scan}
use Rattle.rd_base.specs.declared.values.Scan.TheVariants.{Whole, More, Bad, TooBig, Unsupported}
use Rattle.rd_dialect.specs.declared.due.Due.{Due}
use Rattle.rd_dialect.specs.Grammar.{Grammar}
use Rattle.rd_dialect.specs.Laws.{Lawful}
use Rattle.rd_rules.specs.Exchange.{Open, scan_open}
use Rattle.rd_reading.specs.declared.looks.Look.{Look}
use Rattle.rd_reading.specs.Alike.{HaveFronts, in_front, all_in_front}
use Rattle.rd_reading.specs.Fronts.{IsFrontOf, AreFronts, AreFrontsOf}
use Rattle.rd_reading.specs.Looks.{look_of, fits, all_fit, fit_one}
use Rattle.rd_reading.proofs.OneFront.{front-of-longer, take-front-of, longest_in, fronts-top}

same_bytes : (xs ys : List ℕ) → xs ≡ ys → bytes_eq xs ys ≡ true
same_bytes xs ys same = (bytes_eq-Decides xs ys).1 same

equal_tested : (m n : ℕ) → (m == n) ≡ true → m ≡ n
equal_tested m n e = grind (arith, nat_tests)

-- fronts of one list that are as long are the same
front-same : (xs ys top : List ℕ) → IsFrontOf xs top → IsFrontOf ys top → length xs ≡ length ys → xs ≡ ys
front-same xs ys top one other size = one ∙ ap (λ n. take n top) size ∙ sym other

module _ (g : Grammar) (laws : Lawful g) (due : Due) (long : List ℕ) where
  -- what stands of a due unit, by its scan
  one_fits : (whole : Bool) (top : List ℕ) (o : Open) (s : Scan) → scan_open g due o ≡ s → IsFrontOf top long → IsFrontOf o.bytes long
      → fits whole (length top) (length o.bytes) s ≡ true → in_front whole top s o.bytes ≡ true
  one_fits whole top o (Whole len) is front here e =
      let parts = and_parts whole (len == length top) e in
      let within = laws.within due.part due.phase due.note o.bytes o.is_ended len is in
      let size = length-take len o.bytes in
      let n = equal_tested len (length top) parts.1 in
      let same : take len o.bytes ≡ top = front-same (take len o.bytes) top long (take-front-of len o.bytes long here) front (omega (arith, size, within, n)) in
      ap₂ (λ a b. a && b) parts.0 (same_bytes (take len o.bytes) top same)
  one_fits whole top o More is front here e =
      let le : length o.bytes ≤ length top = grind (arith, nat_tests) in
      ap₂ (λ a b. a && b) e (same_bytes o.bytes (take (length o.bytes) top) (front-of-longer o.bytes top long here front le))
  one_fits whole top o Bad is front here e = refl
  one_fits whole top o TooBig is front here e = refl
  one_fits whole top o (Unsupported code) is front here e = refl

  all_fit_in : (whole : Bool) (top : List ℕ) (os : List Open) → IsFrontOf top long → AreFrontsOf long os → all_fit whole (length top) (map (look_of g due) os) ≡ true → all_in_front g due whole top os ≡ true
  all_fit_in whole top [] front all e = refl
  all_fit_in whole top (o ∷ os) front all e =
      let parts = and_parts (fits whole (length top) (length o.bytes) (scan_open g due o)) (all_fit whole (length top) (map (look_of g due) os)) e in
      ap₂ (λ a b. a && b)
      (one_fits whole top o (scan_open g due o) refl front (all 0 o (omega arith)) parts.0)
      (all_fit_in whole top os front (λ k d lt. all (suc k) d (omega arith)) parts.1)

  -- the fronts of what one of them has said
  fronts_by : (os : List Open) (o : Open) (s : Scan) → scan_open g due o ≡ s → IsFrontOf o.bytes long → AreFrontsOf long os
      → fit_one (length o.bytes) s (map (look_of g due) os) ≡ true → HaveFronts g due os
  fronts_by os o (Whole len) is here all e =
      let within = laws.within due.part due.phase due.note o.bytes o.is_ended len is in
      let size = length-take len o.bytes in
      let n : len ≡ length (take len o.bytes) = omega (arith, size, within) in
      record {
        whole = true;
        top = take len o.bytes;
        stands = record { ended = o.is_ended; scan = laws.itself due.part due.phase due.note o.bytes o.is_ended len is };
        each = all_fit_in true (take len o.bytes) os (take-front-of len o.bytes long here) all (subst (λ (k : ℕ). all_fit true k (map (look_of g due) os) ≡ true) n e);
      }
  fronts_by os o More is here all e = record {
    whole = false;
    top = o.bytes;
    stands = record { ended = o.is_ended; scan = is };
    each = all_fit_in false o.bytes os here all e;
  }
  fronts_by os o Bad is here all e = absurd (cc e)
  fronts_by os o TooBig is here all e = absurd (cc e)
  fronts_by os o (Unsupported code) is here all e = absurd (cc e)

pub fronts-by-lengths : (g : Grammar) → Lawful g → (due : Due) (os : List Open) (looks : List Look) (place : ℕ) (d : Look) → AreFronts os → looks ≡ map (look_of g due) os
    → place < length looks → fit_one (get_or looks place d).len (get_or looks place d).scan looks ≡ true → HaveFronts g due os
fronts-by-lengths g laws due os looks place d alike are lt e =
    let none : Open = record { link = 0; bytes = []; is_ended = false } in
    let o : Open = get_or os place none in
    let f = look_of g due in
    let size = length-map os f in
    let below : place < length os = omega (arith, lt, ap length are, size) in
    let top = get_or looks place d in
    let same : top ≡ f o = ap (λ ls. get_or ls place d) are ∙ get_or-map f os place none d below in
    let long = longest_in os in
    let all = fronts-top os alike in
    fronts_by g laws due long os o (scan_open g due o) refl (all place none below) all
    (ap (λ (l : Look). fit_one l.len l.scan (map f os)) (sym same) ∙ ap (fit_one top.len top.scan) (sym are) ∙ e)
