use Rattle.std.proofs.Common.{◌-◌, length, ap, sym, ◌∙◌, arith, drop, length-drop}
use Rattle.std.proofs.lemmas.List.{take_rest}
use Rattle.rd_stream_verdict.specs.Heads.{only_behind}
use Rattle.rd_stream_verdict.proofs.Sharing.{length-sharing, only_sharer, only_past}
use Rattle.rd_stream_verdict.proofs.buffers.Buffers.is_only_behind_by_copies.Goals as goal

pub is_only_behind-requires : goal.is_only_behind-requires
is_only_behind-requires c =
    let all = c.as_slice.result.now in
    let n = c.self.inside.sharers in
    let size = length-sharing n c.self.inside.shared c.self.inside.kept.items in
    rw take_rest (omega (arith, c.requires, ap length c.self.view_is, size, length-drop n all, ap length c.as_slice.ensures.value))

pub returns-then-copy-self : goal.returns-then-copy-self
returns-then-copy-self c =
    sym (only_sharer c.self.inside.sharers c.self.inside.shared c.args.copy c.self.inside.kept.items c.if-copy-self.true)
    ∙ ap (only_behind c.args.copy) c.self.view_is

pub returns-else-copy-self : goal.returns-else-copy-self
returns-else-copy-self c =
    let n = c.self.inside.sharers in
    let items = c.self.inside.kept.items in
    let rest = c.args.copy - n in
    c.is_only_behind.ensures
    ∙ ap (only_behind rest) (take_rest c.as_slice.result.now n ∙ ap (drop n) c.as_slice.ensures.value)
    ∙ only_past n c.self.inside.shared c.args.copy rest items (omega (arith, c.if-copy-self.false))
    ∙ ap (only_behind c.args.copy) c.self.view_is
