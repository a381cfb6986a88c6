use Rattle.std.proofs.Common.{◌≡◌, ◌+◌, take, drop, ap, ◌∙◌, arith}
use Rattle.rd_base.specs.Outside.{held_with}
use Rattle.rd_script.specs.Printed.{send_line}
use Rattle.rd_session_run.specs.Transcripts.{sends_text}
use Rattle.rd_session_run.proofs.Held.{held_then, holds_front, holds_on, at_error}
use Rattle.rd_session_run.proofs.Sent.{IsSendAt, one_more, front_rest, with_rest}
use Rattle.rd_session_run.proofs.writing.write_sends.Goals as goal

pub returns-in_err-line-clause-err : goal.returns-in_err-line-clause-err
returns-in_err-line-clause-err g c =
    let step = c.args.step in
    let sends = c.args.sends.now in
    let place = c.loop-place.place in
    at_error c.from_residual.result (holds_front (g.K.Sink.tells c.args.out.now).held (g.K.Sink.tells c.loop-place.out).held (sends_text step (take place sends)) (sends_text step (drop place sends)) (sends_text step sends) (front_rest step sends place) c.loop-place.invariant.held)

pub returns-in_err-push-clause-err : goal.returns-in_err-push-clause-err
returns-in_err-push-clause-err g c =
    let step = c.args.step in
    let sends = c.args.sends.now in
    let place = c.loop-place.place in
    let line : c.as_bytes.result.now ≡ send_line step c.link_at.result.0 c.bytes_at.result.now = c.as_bytes.ensures.value ∙ c.in_ok-line.ensures in
    let on = rw line at c.in_err-push.ensures.part in
    let is : IsSendAt sends place c.link_at.result c.bytes_at.result.now = record { here = omega arith; link_is = c.link_at.ensures; bytes_are = c.bytes_at.ensures } in
    at_error c.from_residual-in_err-push.result (holds_on (g.K.Sink.tells c.args.out.now).held (g.K.Sink.tells c.loop-place.out).held (g.K.Sink.tells c.push.new.self).held (sends_text step (take place sends)) (send_line step c.link_at.result.0 c.bytes_at.result.now) (sends_text step (drop (place + 1) sends)) (sends_text step sends) (with_rest step sends place c.link_at.result c.bytes_at.result.now is) c.loop-place.invariant.held on)

pub loop-place-preserved : goal.loop-place-preserved
loop-place-preserved g c =
    let step = c.args.step in
    let sends = c.args.sends.now in
    let place = c.loop-place.place in
    let is : IsSendAt sends place c.link_at.result c.bytes_at.result.now = record { here = omega arith; link_is = c.link_at.ensures; bytes_are = c.bytes_at.ensures } in
    let line : c.as_bytes.result.now ≡ send_line step c.link_at.result.0 c.bytes_at.result.now = c.as_bytes.ensures.value ∙ c.in_ok-line.ensures in
    let here = held_then (g.K.Sink.tells c.args.out.now).held (g.K.Sink.tells c.loop-place.out).held (g.K.Sink.tells c.push.new.self).held (sends_text step (take place sends)) (send_line step c.link_at.result.0 c.bytes_at.result.now) c.loop-place.invariant.held (rw line at c.in_ok-push.ensures.all) in
    record {
      held = here ∙ ap (held_with (g.K.Sink.tells c.args.out.now).held) (one_more step sends place c.link_at.result c.bytes_at.result.now is);
      faults = omega (arith, c.loop-place.invariant.faults, c.in_ok-push.ensures.stays.faults);
      is_open = c.in_ok-push.ensures.stays.stays_open;
      mark = c.in_ok-push.ensures.stays.mark ∙ c.loop-place.invariant.mark;
    }
