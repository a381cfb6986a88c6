-- The keys of a table, as the definitions see them.
use Rattle.std.proofs.Common.{◌≡◌, ℕ, Bool, true, false, not, cond, List, [], ◌∷◌, Option, Some, None, Ok, Err, option_map, String, Global, string_bytes, Less, Greater, nat_cmp, refl, sym, ap, ◌∙◌}
use Rattle.std.specs.List.{find, filter, AllByRecursion}
use Rattle.std.specs.List.Sorted.{IsStrictlySortedBy}
use Rattle.std.specs.Ordering.{ordering_reverse}
use Rattle.std.specs.String.{string_cmp}
use Rattle.std.specs.Cmp.Lexicographic.{slice_cmp}
use Rattle.std.proofs.lemmas.Cmp.{nat_list_cmp_total}
use Rattle.std.specs.Map.{keys_of}
use Rattle.std.specs.Borrow.{Bor}
use Rattle.toml.specs.declared.value.Value.{Value}
use Rattle.toml.specs.Data.{Data, string, integer, float, boolean, datetime, array, table, Members, as_table}
use Rattle.toml.specs.View.{members_view}
use Rattle.rd_conf.specs.declared.key.Key.TheVariants.{Ports}
use Rattle.rd_conf.specs.declared.settings.SettingsFail.TheVariants.{Unknown}
use Rattle.rd_conf.specs.Keys.{port_name, is_port_key}
use Rattle.rd_conf.specs.Rows.{value_at}
use Rattle.rd_conf.specs.Unknown.{keys, lesser, least, unknown_top_key, unknown_port_key, known_keys}

find_step : (b : Bool) (first : String Global) (rest : Option (String Global)) (due : Option (List ℕ)) → option_map string_bytes rest ≡ due
    → option_map string_bytes (cond b (Some first) rest) ≡ cond b (Some (string_bytes first)) due
find_step true first rest due h = refl
find_step false first rest due h = h

find_text : (p : List ℕ → Bool) (es : List (String Global × Value))
    → option_map string_bytes (find (λ k. p (string_bytes k)) (keys_of es)) ≡ find p (keys (members_view es))
find_text p [] = refl
find_text p (e ∷ es) = find_step (p (string_bytes e.0)) e.0 _ _ (find_text p es)

text_of_ref : (r : Option (Bor (String Global))) → option_map (λ key. string_bytes key.now) r ≡ option_map string_bytes (option_map (λ key. key.now) r)
text_of_ref None = refl
text_of_ref (Some key) = refl

lesser_step : (x : String Global) (first : String Global) (b : Bool) (rest : Option (List ℕ)) → string_cmp x first ≡ Less
    → lesser (string_bytes x) rest ≡ string_bytes x → lesser (string_bytes x) (cond b (Some (string_bytes first)) rest) ≡ string_bytes x
lesser_step x first false rest below h = h
lesser_step x first true rest below h =
    let above : slice_cmp nat_cmp (string_bytes first) (string_bytes x) ≡ Greater =
    nat_list_cmp_total.antisymm (string_bytes first) (string_bytes x) ∙ ap ordering_reverse below in
    rw above refl

-- a key below all the others is below any that is found among them
lesser_found : (p : List ℕ → Bool) (x : String Global) (es : List (String Global × Value))
    → AllByRecursion (λ y. string_cmp x y ≡ Less) (keys_of es)
    → lesser (string_bytes x) (find p (keys (members_view es))) ≡ string_bytes x
lesser_found p x [] h = refl
lesser_found p x (e ∷ es) h = lesser_step x e.0 (p (string_bytes e.0)) (find p (keys (members_view es))) h.0 (lesser_found p x es h.1)

least_step : (b : Bool) (text : List ℕ) (more : List (List ℕ)) (found : Option (List ℕ)) → least more ≡ found → lesser text found ≡ text
    → least (cond b (text ∷ more) more) ≡ cond b (Some text) found
least_step false text more found same low = same
least_step true text more found same low = rw (same, low) refl

-- among keys that ascend, the first that passes a test is the least
least_found : (p : List ℕ → Bool) (es : List (String Global × Value)) → IsStrictlySortedBy string_cmp (keys_of es)
    → least (filter p (keys (members_view es))) ≡ find p (keys (members_view es))
unfolding IsStrictlySortedBy
least_found p [] h = refl
least_found p (e ∷ es) h =
    least_step (p (string_bytes e.0)) (string_bytes e.0) _ _ (least_found p es h.1) (lesser_found p e.0 es h.0)

-- the first key of a table that passes a test, as a text, is the least
pub least_key : (p : List ℕ → Bool) (es : List (String Global × Value)) (r : Option (Bor (String Global)))
    → option_map (λ key. key.now) r ≡ find (λ key. p (string_bytes key)) (keys_of es) → IsStrictlySortedBy string_cmp (keys_of es)
    → option_map (λ key. string_bytes key.now) r ≡ least (filter p (keys (members_view es)))
least_key p es r h ordered = text_of_ref r ∙ (ap (option_map string_bytes) h ∙ (find_text p es ∙ sym (least_found p es ordered)))

-- the keys of the table that stands under the ports
ports_of_table : (d : Data) (ports : Members) → Some ports ≡ as_table d → least (filter (λ key. not (is_port_key key)) (keys ports)) ≡ unknown_port_key (Some d)
unfolding unknown_port_key
ports_of_table (table found) ports h = let e : ports ≡ found = cc h in rw e refl
ports_of_table (string text) ports h = absurd (cc h)
ports_of_table (integer z) ports h = absurd (cc h)
ports_of_table (float x) ports h = absurd (cc h)
ports_of_table (boolean x) ports h = absurd (cc h)
ports_of_table (datetime t) ports h = absurd (cc h)
ports_of_table (array items) ports h = absurd (cc h)

pub ports_seen : (o : Option Data) (d : Data) (ports : Members) → Some d ≡ o → Some ports ≡ as_table d
    → least (filter (λ key. not (is_port_key key)) (keys ports)) ≡ unknown_port_key o
ports_seen o d ports there h = ports_of_table d ports h ∙ ap unknown_port_key there

-- nothing, or no table, stands under the ports
pub ports_absent : (o : Option Data) → None ≡ o → None ≡ unknown_port_key o
unfolding unknown_port_key
ports_absent o h = ap unknown_port_key h

no_table : (d : Data) → None ≡ as_table d → None ≡ unknown_port_key (Some d)
unfolding unknown_port_key
no_table (table found) h = absurd (cc h)
no_table (string text) h = refl
no_table (integer z) h = refl
no_table (float x) h = refl
no_table (boolean x) h = refl
no_table (datetime t) h = refl
no_table (array items) h = refl

pub ports_other : (o : Option Data) (d : Data) → Some d ≡ o → None ≡ as_table d → None ≡ unknown_port_key o
ports_other o d there h = no_table d h ∙ ap unknown_port_key there

-- which fault is the first, or none
pub top_unknown : (all : Members) (key made : List ℕ) → Some key ≡ unknown_top_key all → made ≡ key → known_keys all ≡ Err (Unknown made)
unfolding known_keys
top_unknown all key made top same = rw (← top, same) refl

pub port_unknown : (all : Members) (key made : List ℕ) → None ≡ unknown_top_key all → Some key ≡ unknown_port_key (value_at Ports all)
    → made ≡ port_name key → known_keys all ≡ Err (Unknown made)
unfolding known_keys
port_unknown all key made top port same = rw (← top, ← port, same) refl

pub all_known : (all : Members) → None ≡ unknown_top_key all → None ≡ unknown_port_key (value_at Ports all) → known_keys all ≡ Ok tt
unfolding known_keys
all_known all top port = rw (← top, ← port) refl
