use Rattle.std.proofs.Common.{◌≡◌, [], ◌∷◌, ◌++◌, false, arith}
use Rattle.std.proofs.lemmas.List.Elements.{All-push, All-same}
use Rattle.rd_base.specs.MemSink.{MemSinkView}
use Rattle.rd_stress.proofs.links.links_of.Goals as goal

pub loop-link-preserved : goal.loop-link-preserved
loop-link-preserved g c =
    let IsOpen : MemSinkView → Type 0 = λ s. s.is_closed ≡ false in
    let before = c.loop-link.invariant in
    record {
      sources = let len = c.in_ok-push.ensures.len in let e = before.sources in omega (arith, len, e);
      sinks = let len = c.in_ok-push-2.ensures.len in let e = before.sinks in omega (arith, len, e);
      is_open =
          All-same IsOpen c.push-in-loop-link.new.self.items (c.loop-link.sinks.items ++ c.in_ok-source.sink ∷ []) c.in_ok-push-2.ensures.items
          (All-push IsOpen c.loop-link.sinks.items c.in_ok-source.sink before.is_open c.in_ok-source.ensures);
    }
