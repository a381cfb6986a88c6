use Rattle.std.proofs.Common.{◌≡◌, ℕ, ◌+◌, Some, refl, rules}
use Rattle.rd_mem_doors.proofs.mem_doors.MemDoorsDoors.next_visit.Goals as goal

pub returns-in-Some-checked_add-2-clause-may : goal.returns-in-Some-checked_add-2-clause-may
returns-in-Some-checked_add-2-clause-may g c =
    let fresh = c.if-are_fresh-2.ensures in
    let number = fresh.number refl in
    let next = c.in-Some-checked_add-2.ensures in
    let links = fresh.fresh refl in
    (search rules, λ copies is. search rules)
