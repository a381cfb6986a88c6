use Rattle.std.proofs.Common.{◌∙◌, ap, Some, max, arith}
use Rattle.rd_base.specs.Counts.{told_with}
use Rattle.rd_base.specs.MemClocks.{first_answers, answer_of}
use Rattle.rd_base.specs.Clocks.{width, reach_with}
use Rattle.rd_base.proofs.Ticking.{told_then}
use Rattle.rd_base.proofs.mem_clock.MemClockClock.now.Goals as goal

pub returns-clause-ticks : goal.returns-clause-ticks
returns-clause-ticks c =
    let inside = c.self.inside in
    let answer = c.answer_at-answer.result in
    record {
      answers = told_then inside.answers.items inside.asked c.saturating_add-self-inside.result answer c.saturating_add-self-inside.ensures (c.answer_at-answer.ensures ∙ ap (λ xs. answer_of xs inside.asked) c.deref.ensures.value) (omega (arith, c.self.invariant)) ∙ ap (λ v. told_with (Some (first_answers v.answers v.asked)) answer) c.self.view_is;
      reach = ap Some c.reach_on-reach.ensures ∙ ap (λ v. Some (reach_with v.reach answer)) c.self.view_is;
      span = c.max-self-inside.ensures ∙ ap (max inside.span) (c.saturating_sub.ensures ∙ ap width c.reach_on-reach.ensures) ∙ ap (λ v. max v.span (width (reach_with v.reach answer))) c.self.view_is;
    }
