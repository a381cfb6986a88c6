-- An entry, by its happening and the rows told to it.
use Rattle.std.proofs.Common.{◌≡◌, List, Option, Some, None, option_map, ap, ◌∙◌}
use Rattle.rd_base.specs.History.{Row, Entry}
use Rattle.rd_base.specs.declared.values.Happening.{Happening}
use Rattle.rd_script.specs.Script.{entry_of}
use Rattle.rd_script.specs.Seen.{happening_in}

both : (e : Entry) (happening : Happening) (told : List Row) → happening_in e ≡ happening → e.told ≡ told → e ≡ entry_of happening told
both e happening told what rows = ap (λ h. entry_of h e.told) what ∙ ap (entry_of happening) rows

-- the entry in a place of a script is its happening and its rows together
pub entry_at : (o : Option Entry) (happening : Happening) (told : List Row) → option_map happening_in o ≡ Some happening → option_map (λ (e : Entry). e.told) o ≡ Some told → o ≡ Some (entry_of happening told)
entry_at None happening told what rows = let no : None ≡ Some happening = what in cc
entry_at (Some e) happening told what rows =
    let is : Some (happening_in e) ≡ Some happening = what in
    let own : Some e.told ≡ Some told = rows in
    ap Some (both e happening told (cc is) (cc own))
