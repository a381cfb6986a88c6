use Rattle.std.proofs.Common.{◌∙◌, ap, sym, ◌++◌, ◌<◌, ℕ, add-one}
use Rattle.std.proofs.lemmas.List.Elements.{All-same}
use Rattle.rd_base.specs.Sent.{send_of, sends_to}
use Rattle.rd_base.specs.declared.sends.Send.{Send}
use Rattle.rd_reading.specs.Seen.{rules_of, seen_reading}
use Rattle.rd_rules.specs.Step.{given_now}
use Rattle.rd_core.proofs.LinkSends.{sends_to-more, sends_below}
use Rattle.rd_core.proofs.sending.sends_of.Goals as goal

pub push_send-requires : goal.push_send-requires
push_send-requires g c =
    let f = λ (link : ℕ). given_now (rules_of (g.D.Dialect.grammar c.args.dialect.now) c.args.setup.now) link c.args.lists.now.own c.args.told.now c.args.was_out (seen_reading c.args.reading.now) in
    All-same (λ (s : Send). s.link.0 < c.loop-link.link) c.loop-link.sends (sends_to c.loop-link.link f) c.loop-link.invariant (sends_below c.loop-link.link f)

pub loop-link-preserved : goal.loop-link-preserved
loop-link-preserved g c =
    let f = λ (link : ℕ). given_now (rules_of (g.D.Dialect.grammar c.args.dialect.now) c.args.setup.now) link c.args.lists.now.own c.args.told.now c.args.was_out (seen_reading c.args.reading.now) in
    rw add-one (c.in_ok-push_send.ensures
    ∙ ap (λ s. s ++ send_of c.loop-link.link c.in_ok-bytes.bytes) c.loop-link.invariant
    ∙ ap (λ b. sends_to c.loop-link.link f ++ send_of c.loop-link.link b) c.in_ok-bytes.ensures
    ∙ sym (sends_to-more c.loop-link.link f))
