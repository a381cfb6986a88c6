-- The words that a step asks of the shared book.
use Rattle.std.specs.Prelude.{ℕ, Bool, ◌&&◌, not, if◌then◌else◌, List, [], ◌∷◌, ◌++◌, length, take, drop, filter, find, fold, is_some, bytes_eq}
use Rattle.std.specs.List.{flat_map, list_any}
use Rattle.rd_base.specs.Swap.{is_row_word, shows}
use Rattle.rd_base.specs.History.{History, Entry, Row}
use Rattle.rd_rules.specs.Exchange.{Rules, Reading, reading, released, note, first_bytes}
use Rattle.rd_rules.specs.Given.{Release, releases}
use Rattle.rd_rules.specs.Step.{sent_before}
use Rattle.rd_rules.specs.Sent.{acted}

-- none of these rows shows the word
abbrev pub is_unknown : List Row → List ℕ → Bool
is_unknown own word = not (is_some (find (shows word) own))

-- the words of 16 to 128 bytes that are looked up in a request, and that the own rows before it don't show
abbrev pub unknown_words : Rules → Release → List (List ℕ)
unknown_words r rel =
    filter (λ word. is_row_word word && is_unknown rel.own word)
    (r.grammar.asked rel.ask.phase (note r.grammar rel.ask) (first_bytes rel.ask.units))

-- a word behind others, where it isn't among them
abbrev pub add_word : List (List ℕ) → List ℕ → List (List ℕ)
add_word words word = if list_any (λ other. bytes_eq other word) words then words else words ++ word ∷ []

-- each word once, at its first place
abbrev pub distinct : List (List ℕ) → List (List ℕ)
distinct words = fold add_word [] words

-- the requests that a later history releases past those of an earlier one
abbrev pub released_past : Rules → History → History → List Release
released_past r before now =
    drop (length (released (reading r (acted r before))))
    (releases r [] (reading r (acted r now)).done (reading r (acted r now)).out)

-- the words of these requests, each once, the first 4,096
abbrev pub words_of : Rules → List Release → List (List ℕ)
words_of r rels = take 4096 (distinct (flat_map (unknown_words r) rels))

-- those of a reading, past a request that was out before it
abbrev pub words_read : Rules → List Row → Bool → Reading → List (List ℕ)
words_read r own was_out now = words_of r (drop (sent_before was_out) (releases r own now.done now.out))

-- what an entry behind this history asks
abbrev pub wanted : Rules → History → Entry → List (List ℕ)
wanted r h e = words_of r (released_past r h (h ++ e ∷ []))
