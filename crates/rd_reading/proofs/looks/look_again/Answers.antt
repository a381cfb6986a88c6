use Rattle.std.proofs.Common.{◌≡◌, ◌<◌, false, length, get_or, ap, ◌∙◌, arith}
use Rattle.std.proofs.lemmas.List.{get_or-map, length-map}
use Rattle.rd_base.specs.declared.values.Scan.TheVariants.{Whole}
use Rattle.rd_rules.specs.Step.{grow_by}
use Rattle.rd_reading.specs.declared.looks.Look.{Look}
use Rattle.rd_reading.specs.Looks.{look_of}
use Rattle.rd_reading.proofs.looks.look_again.Goals as goal

pub look_on-requires : goal.look_on-requires
look_on-requires g c =
    let i = c.loop-place.place in
    let o = c.index-opens-place.result in
    let was = c.requires.before in
    let bs = was.before in
    let look = look_of (g.D.Dialect.grammar c.args.dialect.now) c.args.due in
    let none : Look = record { link = record { 0 = 0 }; len = 0; is_ended = false; scan = Whole 0 } in
    let count : length c.args.opens.now ≡ length bs = ap length was.heard ∙ length-map bs (grow_by c.args.what.now) in
    let below : i < length bs = omega (arith, c.loop-place-test.true, count) in
    record {
      before = get_or bs i o;
      seen = ap (λ ls. get_or ls i none) was.seen ∙ get_or-map look bs i o none below;
      heard = c.index-opens-place.is ∙ ap (λ os. get_or os i o) was.heard ∙ get_or-map (grow_by c.args.what.now) bs i o o below;
    }
