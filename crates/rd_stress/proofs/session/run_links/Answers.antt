use Rattle.std.proofs.Common.{◌≡◌, false}
use Rattle.std.proofs.lemmas.List.Elements.{All-map}
use Rattle.rd_base.specs.MemSink.{sink_tells}
use Rattle.rd_base.specs.Outside.{SinkTold}
use Rattle.rd_turn.specs.Sinks.{no_sink}
use Rattle.rd_stress.proofs.session.run_links.Goals as goal

pub run_in-requires-clause-open : goal.run_in-requires-clause-open
run_in-requires-clause-open g c =
    let IsOpen : SinkTold → Type 0 = λ t. t.is_closed ≡ false in
    λ _ _ l lt. All-map IsOpen sink_tells c.args.sinks.now.items c.requires.open l no_sink lt

pub run_out-requires-clause-open : goal.run_out-requires-clause-open
run_out-requires-clause-open g c =
    let IsOpen : SinkTold → Type 0 = λ t. t.is_closed ≡ false in
    λ _ _ l lt. All-map IsOpen sink_tells c.args.sinks.now.items c.requires.open l no_sink lt
