use Rattle.std.proofs.Common.{◌≡◌, ◌+◌, ◌++◌, ℕ, List, take, drop, ap, sym, ◌∙◌, append_assoc}
use Rattle.rd_base.specs.Outside.{IsPrefixOf}
use Rattle.rd_http_frame.proofs.ChunkData.{data_pushed}
use Rattle.rd_http_frame.proofs.flat.push_chunks.Goals as goal

prefix_more : (old out more made : List ℕ) → IsPrefixOf old out → made ≡ out ++ more → IsPrefixOf old made
prefix_more old out more made begun e =
    record { rest = begun.rest ++ more; is = sym (append_assoc old begun.rest more) ∙ ap (λ (t : List ℕ). t ++ more) begun.is ∙ sym e }

pub loop-line-preserved : goal.loop-line-preserved
loop-line-preserved c =
    let line = c.in-Some.line in
    let rest = c.loop-line.rest.now in
    let out = c.loop-line.out in
    let made = c.push_slice.new.self in
    let pushed : made ≡ out ++ take line.size (drop line.len rest) =
    c.in_ok-push_slice.ensures.ok ∙ ap (λ (t : List ℕ). out ++ t) (c.front.ensures ∙ ap (λ (t : List ℕ). take line.size t) c.behind_front-data.ensures) in
    let after = c.behind_front-rest.ensures ∙ ap (λ (t : List ℕ). drop (line.size + 2) t) c.behind_front-data.ensures in
    record {
      same = data_pushed c.args.out.now out made c.args.bytes.now rest c.behind_front-rest.result.now c.front.result.now line
          (sym c.in-Some.ensures.line) after pushed c.loop-line.invariant.same;
      begun = prefix_more c.args.out.now out (take line.size (drop line.len rest)) made c.loop-line.invariant.begun pushed;
    }
