use Rattle.std.proofs.Common.{◌≡◌, ◌++◌, [], ◌∷◌, true, sym, ap, subst, ◌∙◌, arith}
use Rattle.std.specs.List.{flat_map}
use Rattle.rd_base.specs.History.{History, is_well_formed}
use Rattle.rd_base.specs.Words.{below}
use Rattle.rd_base.specs.declared.values.Side.TheVariants.{Incoming}
use Rattle.rd_base.specs.declared.values.What.TheVariants.{End}
use Rattle.rd_script.specs.Generator.{exchange_at, at_zero, generated}
use Rattle.rd_script.specs.Script.{ScriptState}
use Rattle.rd_script.proofs.Generated.{drawn_small, generated_well_formed}
use Rattle.rd_script.proofs.generator.generate.Goals as goal

pub next_drawn-next-requires : goal.next_drawn-next-requires
next_drawn-next-requires c = let small = drawn_small c.args.number c.loop-place.place (omega arith) in rw c.loop-place.invariant.shown small

pub push_exchange-requires-clause-before : goal.push_exchange-requires-clause-before
push_exchange-requires-clause-before c = let small = drawn_small c.args.number c.loop-place.place (omega arith) in rw c.loop-place.invariant.shown small

pub returns-clause-well_formed : goal.returns-clause-well_formed
returns-clause-well_formed c =
    let n = c.args.copies in
    let number = c.args.number in
    let all : c.loop-place.place ≡ number = omega arith in
    let exchanges = c.loop-place.invariant.made ∙ ap (λ m. flat_map (exchange_at n number) (below m)) all in
    let entries = c.in_ok-push_step.ensures.ok ∙ ap (λ h. h ++ at_zero (End (record { 0 = n })) ∷ []) exchanges in
    let script : c.new.result ≡ generated n number = c.new.ensures ∙ ap (λ (h : History). record { side = Incoming; entries = h }) entries in
    subst (λ (s : ScriptState). is_well_formed n s.entries ≡ true) (sym script) (generated_well_formed n number c.requires.least_copies c.requires.most_copies c.requires.most_number)
