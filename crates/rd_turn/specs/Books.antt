-- What a step asks of a book of rows, and tells it.
use Rattle.std.specs.Prelude.{◌≡◌, ◌≤◌, ℕ, true, List, [], ◌∷◌, ◌++◌, length, map, take, Option, Some, None, option_map, Result, IfOk, OnOk, OnErr}
use Rattle.std.specs.List.{flat_map}
use Rattle.rd_base.specs.History.{History, Entry, Row, is_well_formed}
use Rattle.rd_base.specs.declared.values.Happening.{Happening}
use Rattle.rd_base.specs.Outside.{IsPrefixOf}
use Rattle.rd_core.specs.Clocks.{entry_of}
use Rattle.rd_rules.specs.Exchange.{Rules}
use Rattle.rd_rules.specs.Sent.{agreed_rows}
use Rattle.rd_rules.specs.Wanted.{wanted}
use Rattle.rd_token_map.specs.BookCalls.{BookCall, Found, Learned}

-- a word that was looked up, and the row that the book answered
pub record Lookup : Type 0 where
  pub word : List ℕ
  pub row : Option Row

abbrev pub row_of : Option Row → List Row
row_of None = []
row_of (Some row) = row ∷ []

-- the rows that the book answered, in order
abbrev pub rows_of : List Lookup → List Row
rows_of found = flat_map (λ l. row_of l.row) found

abbrev pub words_of : List Lookup → List (List ℕ)
words_of found = map (λ l. l.word) found

-- the calls: each word looked up, and then each row told
abbrev pub calls_of : List Lookup → List Row → List BookCall
calls_of found learnt = map (λ l. Found l.word l.row) found ++ map Learned learnt

-- what a book tells after further calls
abbrev pub told_calls : Option (List BookCall) → List BookCall → Option (List BookCall)
told_calls told calls = option_map (λ had. had ++ calls) told

abbrev pub untold : Entry → Entry
untold e = record { at = e.at; what = e.what; told = [] }

-- a step asks each word that it wants, and tells each row that it learns; without a step nothing is asked
abbrev pub AsksBook : Rules → History → History → List Lookup → List Row → Type 0
AsksBook r h [] found learnt = (found ≡ []) × (learnt ≡ [])
AsksBook r h (e ∷ more) found learnt = (words_of found ≡ wanted r h (untold e)) × (learnt ≡ agreed_rows r (h ++ e ∷ []))

-- a step that met want of memory got so far
abbrev pub BeginsBook : Rules → History → History → List Lookup → List Row → Type 0
BeginsBook r h [] found learnt = (found ≡ []) × (learnt ≡ [])
BeginsBook r h (e ∷ more) found learnt = IsPrefixOf (words_of found) (wanted r h (untold e)) × IsPrefixOf learnt (agreed_rows r (h ++ e ∷ []))

-- ---- what calls ask

-- these words were looked up, the first 4,096; after want of memory some first ones of them
pub record FindsAll {E : Type 0} (words : List (List ℕ)) (book book' : Option (List BookCall)) (result : Result (List Row) E) : Type 0 where
  pub found : List Lookup
  pub calls : book' ≡ told_calls book (calls_of found [])
  pub few : length found ≤ 4096
  pub ok : IfOk result (λ rows. (rows ≡ rows_of found) × (words_of found ≡ take 4096 words))
  pub err : OnErr result (IsPrefixOf (words_of found) words)

-- the words that a happening wants were looked up, wherever the session stood; after want of memory some first ones of them
pub record LooksUp {E : Type 0} (r : Rules) (at : History → Type 0) (happening : Happening) (book book' : Option (List BookCall)) (result : Result (List Row) E) : Type 0 where
  pub found : List Lookup
  pub calls : book' ≡ told_calls book (calls_of found [])
  pub few : length found ≤ 4096
  pub rows : IfOk result (λ rows. rows ≡ rows_of found)
  pub ok : OnOk result ((h : History) → is_well_formed r.limits.copies (h ++ entry_of happening [] ∷ []) ≡ true → at h → words_of found ≡ wanted r h (entry_of happening []))
  pub err : OnErr result ((h : History) → is_well_formed r.limits.copies (h ++ entry_of happening [] ∷ []) ≡ true → at h → IsPrefixOf (words_of found) (wanted r h (entry_of happening [])))

-- a book was told these rows, in order; after want of memory some first ones of them
pub record Tells {E : Type 0} (rows : List Row) (book book' : Option (List BookCall)) (result : Result (Unit {0}) E) : Type 0 where
  pub learnt : List Row
  pub calls : book' ≡ told_calls book (calls_of [] learnt)
  pub ok : OnOk result (learnt ≡ rows)
  pub err : OnErr result (IsPrefixOf learnt rows)
