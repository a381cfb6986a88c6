use Rattle.std.proofs.Common.{◌≡◌, ℕ, ◌<◌, length, sym, ap, ◌∙◌, subst, get_or, arith, rules}
use Rattle.std.proofs.lemmas.Grind.{common_steps}
use Rattle.rd_doors.specs.Visits.{Holds}
use Rattle.rd_doors.specs.Numbers.{IsFirst}
use Rattle.rd_doors.proofs.Firsts.{first_at, none_holds}
use Rattle.rd_doors.proofs.numbers.place_of.Goals as goal

pub returns-then-one-number-clause-some : goal.returns-then-one-number-clause-some
returns-then-one-number-clause-some c =
    let same : c.loop-one.place ≡ c.loop-one.one-index = c.loop-one.invariant.0 in
    let within : c.loop-one.place < length c.args.numbers.now = let t = c.loop-one-test.true in omega arith in
    record {
      within = within;
      rest = first_at c.args.number c.args.numbers.now c.loop-one.place within c.loop-one.invariant.1
          (ap (λ i. get_or c.args.numbers.now i 0) same ∙ c.if-one-number.true);
    }

pub returns-clause-none : goal.returns-clause-none
returns-clause-none c = λ is. none_holds c.args.number c.args.numbers.now (λ j less. c.loop-one.invariant.1 j (let same = c.loop-one.invariant.0 in let t = c.loop-one-test.false in omega arith))
