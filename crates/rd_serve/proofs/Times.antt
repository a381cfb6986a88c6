-- How often numbers stand in what is out, and in what is told.
use Rattle.std.proofs.Common.{◌≡◌, ℕ, ◌+◌, ◌≤◌, ◌==◌, Bool, true, false, List, [], ◌∷◌, ◌++◌, length, inl, inr, refl, sym, ap, ◌∙◌, subst, arith, length-append, if◌then◌else◌}
use Rattle.rd_base.specs.declared.values.Side.{Side}
use Rattle.rd_runner.specs.Runs.{Setup}
use Rattle.rd_doors.specs.Visits.{EndsTold, RunTold, Entry, Gave, GaveOperator, CameBack, TurnedAway, CameFromOperator, without, out_from, out_of, Holds}
use Rattle.rd_serve.specs.Serving.{EachRight, one_if, times_given, times_ended}
use Rattle.rd_serve.specs.Notes.{visits, turned, runs}
use Rattle.rd_serve.specs.Sessions.{times}
use Rattle.rd_serve.proofs.Telling.{out_from_more}

pub times_snoc : (n m : ℕ) (xs : List ℕ) → times n (xs ++ m ∷ []) ≡ times n xs + one_if (m == n)
times_snoc n m [] = omega arith
times_snoc n m (x ∷ xs) = let more = times_snoc n m xs in omega arith

pub times_append : (n : ℕ) (xs ys : List ℕ) → times n (xs ++ ys) ≡ times n xs + times n ys
times_append n [] ys = omega arith
times_append n (x ∷ xs) ys = let more = times_append n xs ys in omega arith

at_head : (n m k : ℕ) (xs : List ℕ) (b : Bool) → (m == n) ≡ b → Holds n (m ∷ xs)
    → (Holds n xs → times k xs ≡ one_if (n == k) + times k (without n xs))
    → times k (m ∷ xs) ≡ one_if (n == k) + times k (if b then xs else m ∷ without n xs)
at_head n m k xs true is holds rest = let same : m ≡ n = grind arith in rw same refl
at_head n m k xs false is (inl same) rest = grind arith
at_head n m k xs false is (inr holds) rest = let more = rest holds in omega arith

pub times_without : (n k : ℕ) (xs : List ℕ) → Holds n xs → times k xs ≡ one_if (n == k) + times k (without n xs)
times_without n k [] holds = absurd holds
times_without n k (m ∷ xs) holds = at_head n m k xs (m == n) refl holds (times_without n k xs)

len_head : (n m : ℕ) (xs : List ℕ) (b : Bool) → (m == n) ≡ b → Holds n (m ∷ xs)
    → (Holds n xs → length xs ≡ 1 + length (without n xs))
    → length (m ∷ xs) ≡ 1 + length (if b then xs else m ∷ without n xs)
len_head n m xs true is holds rest = omega arith
len_head n m xs false is (inl same) rest = grind arith
len_head n m xs false is (inr holds) rest = let more = rest holds in omega arith

pub length_without : (n : ℕ) (xs : List ℕ) → Holds n xs → length xs ≡ 1 + length (without n xs)
length_without n [] holds = absurd holds
length_without n (m ∷ xs) holds = len_head n m xs (m == n) refl holds (length_without n xs)

holds_head : (n m : ℕ) (xs : List ℕ) (b : Bool) → (m == n) ≡ b → 1 ≤ one_if b + times n xs → (1 ≤ times n xs → Holds n xs) → Holds n (m ∷ xs)
holds_head n m xs true is some rest = inl (grind arith)
holds_head n m xs false is some rest = inr (rest (omega arith))

pub holds_of_times : (n : ℕ) (xs : List ℕ) → 1 ≤ times n xs → Holds n xs
holds_of_times n [] some = absurd (omega arith)
holds_of_times n (m ∷ xs) some = holds_head n m xs (m == n) refl some (holds_of_times n xs)

pub same_times : (n : ℕ) → one_if (n == n) ≡ 1
same_times n = grind arith

module _ {L : Type 0} (by : Setup → Side → EndsTold → RunTold L → Type 0) (setup : Setup) where
  -- what was out and was given has ended or is out
  counted : (n : ℕ) (before es : List (Entry L)) (out : List ℕ) → out ≡ out_of before → EachRight by setup before es
      → times n out + times_given n es ≡ times_ended n es + times n (out_from out es)
  counted n before [] out same each = omega arith
  counted n before (Gave side ends ∷ es) out same each =
      let more = counted n (before ++ Gave side ends ∷ []) es (out ++ ends.number ∷ []) (ap (λ o. o ++ ends.number ∷ []) same ∙ sym (out_from_more [] before (Gave side ends))) each.1 in
      let one = times_snoc n ends.number out in
      omega arith
  counted n before (GaveOperator source sink ∷ es) out same each = counted n (before ++ GaveOperator source sink ∷ []) es out (same ∙ sym (out_from_more [] before (GaveOperator source sink))) each.1
  counted n before (CameBack run ∷ es) out same each =
      let more = counted n (before ++ CameBack run ∷ []) es (without run.number out) (ap (without run.number) same ∙ sym (out_from_more [] before (CameBack run))) each.1 in
      let one = times_without run.number n out (subst (Holds run.number) (sym same) each.0.0) in
      omega arith
  counted n before (TurnedAway ends ∷ es) out same each =
      let more = counted n (before ++ TurnedAway ends ∷ []) es (without ends.number out) (ap (without ends.number) same ∙ sym (out_from_more [] before (TurnedAway ends))) each.1 in
      let one = times_without ends.number n out (subst (Holds ends.number) (sym same) each.0.0) in
      omega arith
  counted n before (CameFromOperator source sink end ∷ es) out same each = counted n (before ++ CameFromOperator source sink end ∷ []) es out (same ∙ sym (out_from_more [] before (CameFromOperator source sink end))) each.1

  -- where nothing is out any more, each visit ended as often as it was given
  pub all_ended : (n : ℕ) (t : List (Entry L)) → EachRight by setup [] t → out_of t ≡ [] → times_given n t ≡ times_ended n t
  all_ended n t each none =
      let all = counted n [] t [] refl each in
      let no : times n (out_of t) ≡ 0 = ap (times n) none in
      omega arith

  -- what was given has come back, was turned away or is out
  accounted : (before es : List (Entry L)) (out : List ℕ) → out ≡ out_of before → EachRight by setup before es
      → length out + visits es ≡ length (runs es) + turned es + length (out_from out es)
  accounted before [] out same each = omega arith
  accounted before (Gave side ends ∷ es) out same each =
      let more = accounted (before ++ Gave side ends ∷ []) es (out ++ ends.number ∷ []) (ap (λ o. o ++ ends.number ∷ []) same ∙ sym (out_from_more [] before (Gave side ends))) each.1 in
      let one = length-append out (ends.number ∷ []) in
      omega arith
  accounted before (GaveOperator source sink ∷ es) out same each = accounted (before ++ GaveOperator source sink ∷ []) es out (same ∙ sym (out_from_more [] before (GaveOperator source sink))) each.1
  accounted before (CameBack run ∷ es) out same each =
      let more = accounted (before ++ CameBack run ∷ []) es (without run.number out) (ap (without run.number) same ∙ sym (out_from_more [] before (CameBack run))) each.1 in
      let one = length_without run.number out (subst (Holds run.number) (sym same) each.0.0) in
      omega arith
  accounted before (TurnedAway ends ∷ es) out same each =
      let more = accounted (before ++ TurnedAway ends ∷ []) es (without ends.number out) (ap (without ends.number) same ∙ sym (out_from_more [] before (TurnedAway ends))) each.1 in
      let one = length_without ends.number out (subst (Holds ends.number) (sym same) each.0.0) in
      omega arith
  accounted before (CameFromOperator source sink end ∷ es) out same each = accounted (before ++ CameFromOperator source sink end ∷ []) es out (same ∙ sym (out_from_more [] before (CameFromOperator source sink end))) each.1

  pub all_accounted : (t : List (Entry L)) → EachRight by setup [] t → visits t ≡ length (runs t) + turned t + length (out_of t)
  all_accounted t each = let all = accounted [] t [] refl each in omega arith
