use Rattle.std.proofs.Common.{◌≡◌, ◌-◌, Bool, true, false, None, Some, refl, sym, ap, ◌∙◌, subst}
use Rattle.rd_base.specs.Clocks.{Asks}
use Rattle.rd_base.specs.declared.values.What.TheVariants as what
use Rattle.rd_turn.specs.declared.hearing.Heard.TheVariants.{Step}
use Rattle.rd_turn.specs.declared.log.Act.TheVariants.{Stop}
use Rattle.rd_turn.specs.Turns.{Did, Took, Looked, Stopped}
use Rattle.rd_turn.specs.Acts.{is_past, heard_by, heard_item}
use Rattle.rd_turn.proofs.hearing.hear.Goals as goal

pub returns-then-asked-clause-hears : goal.returns-then-asked-clause-hears
returns-then-asked-clause-hears g c = record {
  answer = c.now.result;
  did = Stopped;
  ticks = c.now.ensures;
  asks = subst (λ b. Asks b (g.Q.Stopper.tells c.args.stop.now) (g.Q.Stopper.tells c.asked.new.self)) c.if-asked.true c.asked.ensures;
  knows = refl;
  is = ap (λ at. Step Stop (record { at = at; what = what.Stop })) c.saturating_sub-at.ensures;
  looks = tt;
}

pub returns-in-Some-clause-hears : goal.returns-in-Some-clause-hears
returns-in-Some-clause-hears g c = record {
  answer = c.now.result;
  did = Took c.in-Some.link c.in-Some.item;
  ticks = c.now.ensures;
  asks = subst (λ b. Asks b (g.Q.Stopper.tells c.args.stop.now) (g.Q.Stopper.tells c.asked.new.self)) c.if-asked.false c.asked.ensures;
  knows = c.in-Some.ensures.took;
  is = c.hear_item.ensures ∙ ap (λ at. heard_item at c.in-Some.link c.in-Some.item) c.saturating_sub-at.ensures;
  looks = tt;
}

pub returns-in-None-clause-hears : goal.returns-in-None-clause-hears
returns-in-None-clause-hears g c = record {
  answer = c.now.result;
  did = Looked (is_past c.args.due (c.now.result - c.args.base));
  ticks = c.now.ensures;
  asks = subst (λ b. Asks b (g.Q.Stopper.tells c.args.stop.now) (g.Q.Stopper.tells c.asked.new.self)) c.if-asked.false c.asked.ensures;
  knows = c.in-None.ensures.looked;
  is = c.hear_nothing.ensures ∙ ap (λ at. heard_by at (Looked (is_past c.args.due at))) c.saturating_sub-at.ensures;
  looks = refl;
}
