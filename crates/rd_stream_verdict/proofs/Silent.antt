-- Copies that have said nothing.
use Rattle.std.proofs.Common.{◌≡◌, ℕ, zero, suc, ◌≤◌, true, false, List, [], ◌∷◌, length, map, replicate, refl, ap, ◌∙◌, arith}
use Rattle.std.proofs.lemmas.List.{length-replicate}
use Rattle.rd_base.specs.Limits.{AreMaskLimits}
use Rattle.rd_base.specs.Heard.{lists_of, judged_places}
use Rattle.rd_base.specs.Verdicts.{verdict_from, longest}
use Rattle.rd_base.specs.declared.verdict.Verdict.TheVariants.{Agreed}
use Rattle.rd_stream_verdict.specs.Said.{nothing_said}
use Rattle.rd_stream_verdict.specs.Kept.{Kept, CopyKept, kept_of, IsAt, IsReached}
use Rattle.rd_stream_verdict.proofs.Reached.{judged_least}
use Rattle.rd_stream_verdict.proofs.Steps.{made_at}

none_longest : (n : ℕ) → longest (lists_of (nothing_said n)) ≡ 0
none_longest zero = refl
none_longest (suc n) = omega (arith, none_longest n)

none_kept : (n : ℕ) → replicate n (record { fed = 0; waiting = []; is_whole = false }) ≡ map (kept_of true 0) (nothing_said n)
none_kept zero = refl
none_kept (suc n) = ap (λ (xs : List CopyKept). record { fed = 0; waiting = []; is_whole = false } ∷ xs) (none_kept n)

pub silent_at : (n : ℕ) (new : Kept) → new.found ≡ Agreed [] → new.rows ≡ [] → new.copies ≡ replicate n (record { fed = 0; waiting = []; is_whole = false }) → IsAt (nothing_said n) new
silent_at n new found rows copies =
    let none : judged_places (nothing_said n) ≡ 0 = omega (arith, none_longest n, judged_least (longest (lists_of (nothing_said n))) (nothing_said n)) in
    made_at (nothing_said n) new (Agreed []) 0 (ap (verdict_from new.most (lists_of (nothing_said n)) 0) none) found rows none (copies ∙ none_kept n)

pub silent_reached : (n : ℕ) (new : Kept) → 3 ≤ n → n ≤ 8 → AreMaskLimits new.most → new.found ≡ Agreed [] → new.rows ≡ [] → new.copies ≡ replicate n (record { fed = 0; waiting = []; is_whole = false }) → IsReached new
silent_reached n new three eight limits found rows copies =
    let none : CopyKept = record { fed = 0; waiting = []; is_whole = false } in
    let size : length new.copies ≡ n = ap length copies ∙ length-replicate n none in
    record {
      three = omega arith;
      eight = omega arith;
      limits = limits;
      said = nothing_said n;
      at = silent_at n new found rows copies;
    }
