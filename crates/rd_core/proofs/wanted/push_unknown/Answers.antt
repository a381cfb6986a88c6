use Rattle.std.proofs.Common.{◌≡◌, Bool, true, false, ap, sym, refl, ◌∙◌, not}
use Rattle.std.specs.Prelude.{◌&&◌, is_some, find}
use Rattle.rd_base.specs.Swap.{is_row_word, shows}
use Rattle.rd_rules.specs.Wanted.{is_unknown}
use Rattle.rd_core.proofs.Moves.{is_some-map}
use Rattle.rd_core.proofs.Asked.{none_passes}
use Rattle.rd_core.proofs.wanted.push_unknown.Goals as goal

pub returns-then-not-is_row_word : goal.returns-then-not-is_row_word
returns-then-not-is_row_word c =
    let test = is_row_word c.args.word.now && is_unknown c.args.own.now c.args.word.now in
    none_passes 4096 c.args.words.now c.args.word.now test c.requires
    (ap (λ b. b && is_unknown c.args.own.now c.args.word.now) (sym c.is_row_word.ensures.test ∙ c.if-not-is_row_word.true))

no_second : (a b : Bool) → b ≡ false → (a && b) ≡ false
no_second true b e = e
no_second false b e = refl

pub returns-then-is_some : goal.returns-then-is_some
returns-then-is_some c =
    let test = is_row_word c.args.word.now && is_unknown c.args.own.now c.args.word.now in
    let found : is_some (find (shows c.args.word.now) c.args.own.now) ≡ true =
    ap is_some (sym c.find.ensures) ∙ is_some-map (λ r. r.now) c.find.result ∙ sym c.is_some.ensures ∙ c.if-is_some.true in
    none_passes 4096 c.args.words.now c.args.word.now test c.requires
    (no_second (is_row_word c.args.word.now) (is_unknown c.args.own.now c.args.word.now) (ap not found))
