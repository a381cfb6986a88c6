-- The answers that a source in memory has logged.
use Rattle.std.proofs.Common.{◌≡◌, ℕ, ◌+◌, ◌-◌, ◌<◌, ◌≤◌, ◌^◌, List, [], ◌∷◌, ◌++◌, length, replicate, cond, Some, ◌≢◌, refl, sym, ap, ap₂, ◌∙◌, arith, append_assoc, length-append, append-nil}
use Rattle.std.proofs.lemmas.Bool.{lt-ltb, le-ltb}
use Rattle.std.proofs.lemmas.List.{replicate_more, length-replicate}
use Rattle.rd_base.specs.declared.source.Give.{Give}
use Rattle.rd_base.specs.declared.source.Give.TheVariants.{End}
use Rattle.rd_base.specs.declared.mem_source.Answer.{Answer}
use Rattle.rd_base.specs.declared.mem_source.Logged.{Logged}
use Rattle.rd_base.specs.Counts.{told_with}
use Rattle.rd_base.specs.MemSource.{logged_give, logged_gives, given_by, KeepsLog}

logged-push : (pieces : List (List ℕ)) (log : List Logged) (entry : Logged) → logged_gives pieces (log ++ entry ∷ []) ≡ logged_gives pieces log ++ (replicate entry.ends End ++ logged_give pieces entry.answer ∷ [])
logged-push pieces [] entry = refl
logged-push pieces (l ∷ log) entry =
    ap (λ gs. replicate l.ends End ++ logged_give pieces l.answer ∷ gs) (logged-push pieces log entry)
    ∙ sym (append_assoc (replicate l.ends End) (logged_give pieces l.answer ∷ logged_gives pieces log) (replicate entry.ends End ++ logged_give pieces entry.answer ∷ []))

-- an answer that is logged comes behind the others
pub given-push : (pieces : List (List ℕ)) (log : List Logged) (ends : ℕ) (answer : Answer) → given_by pieces (log ++ record { ends = ends; answer = answer } ∷ []) 0 ≡ given_by pieces log ends ++ logged_give pieces answer ∷ []
given-push pieces log ends answer =
    append-nil (logged_gives pieces (log ++ record { ends = ends; answer = answer } ∷ []))
    ∙ logged-push pieces log (record { ends = ends; answer = answer })
    ∙ sym (append_assoc (logged_gives pieces log) (replicate ends End) (logged_give pieces answer ∷ []))

-- and so does an End
pub given-end : (pieces : List (List ℕ)) (log : List Logged) (ends : ℕ) → given_by pieces log (ends + 1) ≡ given_by pieces log ends ++ End ∷ []
given-end pieces log ends =
    ap (λ gs. logged_gives pieces log ++ gs) (sym (replicate_more ends End))
    ∙ sym (append_assoc (logged_gives pieces log) (replicate ends End) (End ∷ []))

-- the Ends at the end are no more than all answers
pub ends_within : (pieces : List (List ℕ)) (log : List Logged) (ends : ℕ) → ends ≤ length (given_by pieces log ends)
ends_within pieces log ends =
    omega (arith, length-append (logged_gives pieces log) (replicate ends End), length-replicate ends End)

pub told_one : (given : List Give) (give : Give) → length given < 2 ^ 64 - 1 → Some (given ++ give ∷ []) ≡ told_with (Some given) give
told_one given give lt = ap (λ t. Some (cond t (given ++ give ∷ []) given)) (sym (lt-ltb (length given) (2 ^ 64 - 1) lt))

pub told_full : (given : List Give) (give : Give) → 2 ^ 64 - 1 ≤ length given → Some given ≡ told_with (Some given) give
told_full given give le = ap (λ t. Some (cond t (given ++ give ∷ []) given)) (sym (le-ltb (length given) (2 ^ 64 - 1) le))

-- ---- an answer that is logged

-- the log as it is then
given_with : (pieces : List (List ℕ)) (log : List Logged) (ends : ℕ) (answer : Answer) (later : List Logged) (last : ℕ) → later ≡ log ++ record { ends = ends; answer = answer } ∷ [] → last ≡ 0 → given_by pieces later last ≡ given_by pieces log ends ++ logged_give pieces answer ∷ []
given_with pieces log ends answer later last is none = ap₂ (given_by pieces) is none ∙ given-push pieces log ends answer

module _ {pieces : List (List ℕ)} {next failing len capacity : ℕ} {log : List Logged} {ends calls : ℕ} where
  -- what the log needs stays true where a piece or a failing call was used up
  pub keeps_log : (old : KeepsLog pieces next failing len capacity log ends calls) → calls ≢ 2 ^ 64 - 1 → (answer : Answer) (later : List Logged) (last : ℕ) → later ≡ log ++ record { ends = ends; answer = answer } ∷ [] → last ≡ 0 → (next' failing' len' capacity' : ℕ) → next' ≤ length pieces → (length pieces - next') + failing' + 1 ≤ (length pieces - next) + failing → len' ≡ len + 1 → capacity' ≡ capacity → KeepsLog pieces next' failing' len' capacity' later last (calls + 1)
  keeps_log old open_end answer later last is none next' failing' len' capacity' within less long room =
      let counted = old.counted in
      let most = old.most in
      let roomy = old.room in
      let one = length-append (given_by pieces log ends) (logged_give pieces answer ∷ []) in
      let more = ap length (given_with pieces log ends answer later last is none) in
      record { pieces_are = old.pieces_are; within = within; room = omega arith; counted = omega arith; most = omega arith }

  -- and what the source tells has this answer behind the others
  pub tells_logged : (old : KeepsLog pieces next failing len capacity log ends calls) → calls ≢ 2 ^ 64 - 1 → (answer : Answer) (later : List Logged) (last : ℕ) → later ≡ log ++ record { ends = ends; answer = answer } ∷ [] → last ≡ 0 → (given : List Give) → given_by pieces log ends ≡ given → (give : Give) → logged_give pieces answer ≡ give → Some (given_by pieces later last) ≡ told_with (Some given) give
  tells_logged old open_end answer later last is none given was give same =
      let counted = old.counted in
      let most = old.most in
      let long = ap length was in
      ap Some (given_with pieces log ends answer later last is none ∙ ap₂ (λ gs g. gs ++ g ∷ []) was same) ∙ told_one given give (omega arith)
