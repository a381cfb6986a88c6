use Rattle.std.proofs.Common.{◌≡◌, length, replicate, sym, ap, arith}
use Rattle.std.specs.List.{position_or_len}
use Rattle.rd_board.specs.Notes.{is_unkept}
use Rattle.rd_board.proofs.Counts.{none_counted}
use Rattle.rd_board.proofs.latest.Latest.make.Goals as goal

pub invariant_of-result : goal.invariant_of-result
invariant_of-result c =
    let counts : c.in_ok-from_elem.field-0.items ≡ replicate 16384 0 = c.in_ok-from_elem.ensures.items_if_clones_equal (λ y h. h) in
    record {
      capacity = ap (λ b. b.capacity) c.in_ok-with_capacity.ensures;
      within = omega (arith, ap (λ b. length b.items) c.in_ok-with_capacity.ensures);
      counts_ids = none_counted c.in_ok-with_capacity.field-0.items c.in_ok-from_elem.field-0.items (ap (λ b. b.items) c.in_ok-with_capacity.ensures) counts;
      first = sym (ap (λ b. position_or_len is_unkept b.items) c.in_ok-with_capacity.ensures);
    }
