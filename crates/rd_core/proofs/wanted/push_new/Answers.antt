use Rattle.std.proofs.Common.{◌≡◌, ◌++◌, ◌∷◌, [], List, ℕ, sym, ◌∙◌, arith, Result, Ok, Err}
use Rattle.std.specs.Prelude.{OnOk, take}
use Rattle.rd_base.specs.declared.bytes.NoMemory.{NoMemory}
use Rattle.rd_rules.specs.Wanted.{add_word}
use Rattle.rd_core.proofs.Asked.{full_add, had_add, new_add}
use Rattle.rd_core.proofs.wanted.push_new.Goals as goal

pub returns-then-len-ge-MOST_WORDS : goal.returns-then-len-ge-MOST_WORDS
returns-then-len-ge-MOST_WORDS c = full_add 4096 c.args.words.now c.args.word.now (omega (arith, c.requires, c.len.ensures, c.if-len-ge-MOST_WORDS.true))

pub returns-then-has_word : goal.returns-then-has_word
returns-then-has_word c = had_add 4096 c.args.words.now c.args.word.now c.requires (sym c.has_word.ensures ∙ c.if-has_word.true)

pushed : (r : Result (Unit {0}) NoMemory) (new words : List (List ℕ)) (word : List ℕ) → words ++ word ∷ [] ≡ take 4096 (add_word words word) → OnOk r (new ≡ words ++ word ∷ []) → OnOk r (new ≡ take 4096 (add_word words word))
pushed (Ok u) new words word is new_is = new_is ∙ is
pushed (Err e) new words word is new_is = tt

pub returns : goal.returns
returns c =
    pushed c.push.result c.push.new.self c.args.words.now c.args.word.now
    (new_add 4096 c.args.words.now c.args.word.now (omega (arith, c.len.ensures, c.if-len-ge-MOST_WORDS.false)) (sym c.has_word.ensures ∙ c.if-has_word.false))
    c.push.ensures.ok
