use Rattle.std.proofs.Common.{◌≡◌, ◌≤◌, Bool, true, false, List, [], ◌∷◌, ℕ, length, None, refl, arith}
use Rattle.std.specs.Prelude.{if◌then◌else◌, ◌==◌, codes, bytes_eq}
use Rattle.rd_base.specs.declared.values.What.TheVariants.{Timer, Stop}
use Rattle.rd_script.specs.Script.{if_alone, words_of}
use Rattle.rd_script.proofs.Parts.{some_part}
use Rattle.rd_script.proofs.line.read_of_link.Goals as goal

-- a word stands behind the name
not_alone : (words : List (List ℕ)) (timer stop : Bool) → 1 ≤ length words → None ≡ (if timer then if_alone Timer words else if stop then if_alone Stop words else None)
not_alone [] timer stop some = absurd (omega arith)
not_alone (word ∷ words) true stop some = refl
not_alone (word ∷ words) false true some = refl
not_alone (word ∷ words) false false some = refl

pub returns-else-eq-4 : goal.returns-else-eq-4
returns-else-eq-4 c =
    let piece : bytes_eq c.args.name.now (codes "piece") ≡ false = cc in
    let ends : bytes_eq c.args.name.now (codes "end") ≡ false = cc in
    let readfail : bytes_eq c.args.name.now (codes "readfail") ≡ false = cc in
    let writefail : bytes_eq c.args.name.now (codes "writefail") ≡ false = cc in
    rw (piece, ends, readfail, writefail) (not_alone (words_of c.args.words.now) (bytes_eq c.args.name.now (codes "timer")) (bytes_eq c.args.name.now (codes "stop")) (some_part (λ b. b == 32) c.args.words.now))
