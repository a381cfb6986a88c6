use Rattle.std.proofs.Common.{◌≡◌, ◌+◌, ◌&&◌, ◌∙◌, ap, sym, take, drop}
use Rattle.std.proofs.lemmas.List.{take_rest}
use Rattle.rd_stream_verdict.specs.Heads.{is_behind, none_behind}
use Rattle.rd_stream_verdict.proofs.Behind.{only_by}
use Rattle.rd_stream_verdict.proofs.buffers.is_only_behind.Goals as goal
use Rattle.rd_stream_verdict.proofs.buffers.is_only_behind.Goals.{then-is_behind, else-is_behind}

pub returns-then-is_none_behind : goal.returns-then-is_none_behind
returns-then-is_none_behind c =
    let copies = c.args.copies.now in
    let copy = c.args.copy in
    let both : c.if-is_behind.value ≡ is_behind c.index-copies-copy.result && none_behind (drop (copy + 1) copies) = elim c.if-is_behind.branch [
      | then-is_behind w ↦ w.value-is ∙ w.is_none_behind.ensures ∙ ap none_behind (take_rest copies (copy + 1)) ∙ ap (λ b. b && none_behind (drop (copy + 1) copies)) (sym w.if-is_behind.true ∙ c.is_behind.ensures)
      | else-is_behind w ↦ w.value-is ∙ w.if-is_behind.false ∙ ap (λ b. b && none_behind (drop (copy + 1) copies)) (sym w.if-is_behind.false ∙ c.is_behind.ensures)
    ] in
    c.is_none_behind-then-is_none_behind.ensures
    ∙ ap (λ b. b && none_behind (take copy copies)) (sym c.if-is_none_behind.true ∙ both)
    ∙ sym (only_by copy copies c.index-copies-copy.result c.requires c.index-copies-copy.is)

pub returns-else-is_none_behind : goal.returns-else-is_none_behind
returns-else-is_none_behind c =
    let copies = c.args.copies.now in
    let copy = c.args.copy in
    let both : c.if-is_behind.value ≡ is_behind c.index-copies-copy.result && none_behind (drop (copy + 1) copies) = elim c.if-is_behind.branch [
      | then-is_behind w ↦ w.value-is ∙ w.is_none_behind.ensures ∙ ap none_behind (take_rest copies (copy + 1)) ∙ ap (λ b. b && none_behind (drop (copy + 1) copies)) (sym w.if-is_behind.true ∙ c.is_behind.ensures)
      | else-is_behind w ↦ w.value-is ∙ w.if-is_behind.false ∙ ap (λ b. b && none_behind (drop (copy + 1) copies)) (sym w.if-is_behind.false ∙ c.is_behind.ensures)
    ] in
    c.if-is_none_behind.false
    ∙ ap (λ b. b && none_behind (take copy copies)) (sym c.if-is_none_behind.false ∙ both)
    ∙ sym (only_by copy copies c.index-copies-copy.result c.requires c.index-copies-copy.is)
