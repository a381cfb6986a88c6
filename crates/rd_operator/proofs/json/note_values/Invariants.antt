use Rattle.std.proofs.Common.{◌≡◌, take, map}
use Rattle.serde_json.specs.View.{view}
use Rattle.rd_operator.specs.Texts.{note_data}
use Rattle.rd_operator.proofs.json.note_values.Given as goal

abbrev pub invariant-notes : goal.invariant-notes
invariant-notes l = map view l.list.items ≡ map note_data (take l.place l.notes)
