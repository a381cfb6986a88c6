-- Checked lists of ports are empty or have one for each copy.
use Rattle.std.proofs.Common.{◌≡◌, ℕ, Bool, true, false, ◌||◌, ◌==◌, List, length, refl}
use Rattle.std.proofs.lemmas.Bool.{and_parts}
use Rattle.std.specs.List.{list_all}
use Rattle.rd_conf.specs.Rows.{is_address}
use Rattle.rd_conf.specs.Lists.{are_addresses, are_addresses_or_none}
use Rattle.rd_conf.specs.Ports.{is_none_or_each}

or_second : (a b : Bool) → b ≡ true → (a || b) ≡ true
or_second true b h = refl
or_second false b h = h

or_weaker : (a b c : Bool) → (b ≡ true → c ≡ true) → (a || b) ≡ true → (a || c) ≡ true
or_weaker true b c f h = refl
or_weaker false b c f h = f h

one_for_each : (copies : ℕ) (texts : List (List ℕ)) → are_addresses copies texts ≡ true → (length texts == copies) ≡ true
unfolding are_addresses
one_for_each copies texts h = (and_parts (length texts == copies) (list_all is_address texts) h).0

pub counted : (copies : ℕ) (texts made : List (List ℕ)) → are_addresses copies texts ≡ true → made ≡ texts → is_none_or_each copies made ≡ true
counted copies texts made h same = rw same (or_second (length texts == 0) (length texts == copies) (one_for_each copies texts h))

pub counted_or_none : (copies : ℕ) (texts made : List (List ℕ)) → are_addresses_or_none copies texts ≡ true → made ≡ texts
    → is_none_or_each copies made ≡ true
unfolding are_addresses_or_none
counted_or_none copies texts made h same =
    rw same (or_weaker (length texts == 0) (are_addresses copies texts) (length texts == copies) (one_for_each copies texts) h)
