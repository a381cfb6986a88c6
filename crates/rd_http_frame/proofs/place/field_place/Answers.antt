use Rattle.std.proofs.Common.{refl}
use Rattle.rd_http_frame.proofs.FieldPlaces.{at_field}
use Rattle.rd_http_frame.proofs.place.field_place.Goals as goal

pub returns : goal.returns
returns c = at_field c.args.bytes.now c.args.at _ c.first_at-name_end.ensures.value c.first_at-feed.result c.first_at-feed.ensures.value refl
