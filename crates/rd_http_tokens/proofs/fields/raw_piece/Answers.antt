use Rattle.std.proofs.Common.{◌≡◌, ◌+◌, ◌-◌, true, false, cond, length, get_or, drop, sym, ap, ◌∙◌, arith}
use Rattle.std.specs.Prelude.{slice_range, ◌==◌}
use Rattle.std.proofs.lemmas.Bool.Decides.{nat_tests}
use Rattle.rd_http_tokens.specs.Tokens.{without_cr}
use Rattle.rd_http_tokens.proofs.Values.{raw_value}
use Rattle.rd_http_tokens.proofs.fields.raw_piece.Goals as goal

pub returns-then-line-end-eq13-clause-is : goal.returns-then-line-end-eq13-clause-is
returns-then-line-end-eq13-clause-is c =
    let line = c.args.line.now in
    let start = c.place_of-colon.result + 1 in
    let is : (get_or line (length line - 1) 0 == 13) ≡ true = grind (arith, nat_tests, c.if-line-end-eq13.true) in
    sym (ap (λ n. without_cr (drop (n + 1) line)) (sym c.place_of-colon.ensures.place) ∙ raw_value line start (omega arith) ∙ ap (λ t. cond t (slice_range line start (length line - 1)) (slice_range line start (length line))) is)

pub returns-else-line-end-eq13-clause-is : goal.returns-else-line-end-eq13-clause-is
returns-else-line-end-eq13-clause-is c =
    let line = c.args.line.now in
    let start = c.place_of-colon.result + 1 in
    let is : (get_or line (length line - 1) 0 == 13) ≡ false = grind (arith, nat_tests, c.if-line-end-eq13.false) in
    sym (ap (λ n. without_cr (drop (n + 1) line)) (sym c.place_of-colon.ensures.place) ∙ raw_value line start (omega arith) ∙ ap (λ t. cond t (slice_range line start (length line - 1)) (slice_range line start (length line))) is)
