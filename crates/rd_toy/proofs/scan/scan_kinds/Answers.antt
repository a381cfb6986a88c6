use Rattle.std.proofs.Common.{◌≡◌, ℕ, false, cond, List, [], ◌∷◌, Some, sym, ap, ◌∙◌}
use Rattle.std.specs.Prelude.{◌==◌, slice_get}
use Rattle.std.specs.List.{list_any}
use Rattle.rd_dialect.specs.LineGrammar.{scan_line}
use Rattle.rd_toy.specs.ToyGrammar.{refused, scan_kinds}
use Rattle.rd_toy.proofs.scan.scan_kinds.Goals as goal

none_of : (kinds bytes : List ℕ) (code kind : ℕ) → Some kind ≡ slice_get bytes 0 → list_any (λ k. k == kind) kinds ≡ false → refused code kind ≡ scan_kinds kinds code bytes
none_of kinds [] code kind first none = absurd (cc first)
none_of kinds (b ∷ bytes) code kind first none =
    let same : kind ≡ b = cc first in
    ap (refused code) same
    ∙ ap (λ t. cond t (scan_line (b ∷ bytes)) (refused code b)) (sym (ap (λ k. list_any (λ kind. kind == k) kinds) (sym same) ∙ none))

pub returns-in-Some-2-clause-scan : goal.returns-in-Some-2-clause-scan
returns-in-Some-2-clause-scan c =
    c.refused.ensures
    ∙ none_of c.args.kinds.now c.args.bytes.now c.args.code c.in-Some.kind.now c.in-Some.ensures.value (sym c.contains.ensures.value ∙ c.if-contains.false)
