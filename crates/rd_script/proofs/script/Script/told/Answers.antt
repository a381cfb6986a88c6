use Rattle.std.proofs.Common.{◌≡◌, ◌<◌, List, [], ◌∷◌, length, Some, option_map, map, refl, sym, ap, ◌∙◌, arith}
use Rattle.std.specs.Prelude.{slice_get}
use Rattle.std.proofs.lemmas.Option.{slice_get_read, slice_get-map}
use Rattle.std.proofs.lemmas.List.{length-map}
use Rattle.rd_base.specs.History.{Row}
use Rattle.rd_script.specs.Script.{ScriptState}
use Rattle.rd_script.specs.Seen.{entry_in, rows_in}
use Rattle.rd_script.proofs.script.Script.told.Goals as goal

empty : (rows : List Row) → length rows ≡ 0 → [] ≡ rows
empty [] none = refl
empty (row ∷ rows) none = absurd (omega arith)

pub returns-in-None : goal.returns-in-None
returns-in-None c =
    let steps = c.self.inside.steps.items in
    let entries : length (map entry_in steps) ≡ length c.args.self.now.entries = ap (λ (s : ScriptState). length s.entries) c.self.view_is in
    let within : c.args.place < length steps = omega (arith, length-map steps entry_in) in
    let step = slice_get_read steps (length steps) c.args.place c.index.result.now refl within c.index.ensures in
    let entry = slice_get-map entry_in steps c.args.place ∙ ap (option_map entry_in) step in
    ap (λ (s : ScriptState). option_map (λ e. e.told) (slice_get s.entries c.args.place)) (sym c.self.view_is)
    ∙ ap (option_map (λ e. e.told)) entry
    ∙ ap (λ told. Some (rows_in told)) c.in-None.is
    ∙ ap Some (empty c.self.inside.no_rows c.self.invariant.1)
