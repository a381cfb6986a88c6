use Rattle.std.proofs.Common.{◌≡◌, suc, ◌+◌, ◌-◌, ◌++◌, ◌∷◌, [], Some, None, Option, refl, sym, ap, ◌∙◌, arith, append-nil, length-append}
use Rattle.rd_base.specs.History.{Row}
use Rattle.rd_script.specs.Script.{words_of, row_of_words, row_word_of}
use Rattle.rd_script.proofs.ToldRows.{behind, more_words, no_word, too_few, too_many}
use Rattle.rd_script.proofs.told.read_row.Goals as goal

same_row : (o : Option Row) → o ≡ behind [] o
same_row None = refl
same_row (Some row) = refl

pub loop-copy-init : goal.loop-copy-init
loop-copy-init c =
    let here : c.args.copies + 1 - 1 ≡ c.args.copies = omega arith in
    rw c.blank-row.ensures (record {
      reads = rw here (same_row (row_of_words c.args.copies (words_of c.args.words.now)));
      count = refl;
    })

pub returns-in_default : goal.returns-in_default
returns-in_default c =
    let left : c.args.copies + 1 - c.loop-copy.copy ≡ suc (suc (c.args.copies - c.loop-copy.copy - 1)) = omega arith in
    sym (c.loop-copy.invariant.reads ∙ ap (λ m. behind c.loop-copy.row (row_of_words m (words_of c.loop-copy.rest.now))) left ∙ ap (λ parts. behind c.loop-copy.row (row_of_words (suc (suc (c.args.copies - c.loop-copy.copy - 1))) parts)) c.in_default.ensures.cut ∙ sym (too_few (c.args.copies - c.loop-copy.copy - 1) c.loop-copy.row c.loop-copy.rest.now))

pub returns-in_default-2 : goal.returns-in_default-2
returns-in_default-2 c =
    let none : None ≡ row_word_of c.in-Some.hex.now = sym c.in_default-2.is ∙ c.in_ok-word.ensures.value in
    sym (c.loop-copy.invariant.reads ∙ ap (λ parts. behind c.loop-copy.row (row_of_words (c.args.copies + 1 - c.loop-copy.copy) parts)) c.in-Some.ensures.cut ∙ sym (no_word (c.args.copies + 1 - c.loop-copy.copy) c.loop-copy.row c.in-Some.hex.now (words_of c.in-Some.more.now) none))

pub loop-copy-preserved : goal.loop-copy-preserved
loop-copy-preserved c =
    let left : c.args.copies + 1 - c.loop-copy.copy ≡ suc (c.args.copies - c.loop-copy.copy) = omega arith in
    let fewer : c.args.copies + 1 - (c.loop-copy.copy + 1) ≡ c.args.copies - c.loop-copy.copy = omega arith in
    let some : Some c.in-Some-2.word ≡ row_word_of c.in-Some.hex.now = sym c.in-Some-2.is ∙ c.in_ok-word.ensures.value in
    let on = more_words (c.args.copies - c.loop-copy.copy) c.loop-copy.row c.in-Some.hex.now c.in-Some-2.word (words_of c.in-Some.more.now) some in
    rw (c.push_own.ensures, c.as_slice.ensures, fewer) (record {
      reads = c.loop-copy.invariant.reads ∙ ap (λ m. behind c.loop-copy.row (row_of_words m (words_of c.loop-copy.rest.now))) left ∙ ap (λ parts. behind c.loop-copy.row (row_of_words (suc (c.args.copies - c.loop-copy.copy)) parts)) c.in-Some.ensures.cut ∙ on;
      count = omega (arith, length-append c.loop-copy.row (c.in-Some-2.word ∷ []), c.loop-copy.invariant.count);
    })

pub returns-in_default-only_word : goal.returns-in_default-only_word
returns-in_default-only_word c =
    let left : c.args.copies + 1 - c.loop-copy.copy ≡ 1 = omega arith in
    sym (c.loop-copy.invariant.reads ∙ ap (λ m. behind c.loop-copy.row (row_of_words m (words_of c.loop-copy.rest.now))) left ∙ sym (too_many c.loop-copy.row (words_of c.loop-copy.rest.now) c.in_default-only_word.ensures))

pub returns-in_default-3 : goal.returns-in_default-3
returns-in_default-3 c =
    let none : None ≡ row_word_of c.in-Some-only_word.hex.now = sym c.in_default-3.is ∙ c.in_ok-word-2.ensures.value in
    sym (c.loop-copy.invariant.reads ∙ ap (λ parts. behind c.loop-copy.row (row_of_words (c.args.copies + 1 - c.loop-copy.copy) parts)) c.in-Some-only_word.ensures ∙ sym (no_word (c.args.copies + 1 - c.loop-copy.copy) c.loop-copy.row c.in-Some-only_word.hex.now [] none))

pub returns : goal.returns
returns c =
    let left : c.args.copies + 1 - c.loop-copy.copy ≡ 1 = omega arith in
    let some : Some c.in-Some-3.word ≡ row_word_of c.in-Some-only_word.hex.now = sym c.in-Some-3.is ∙ c.in_ok-word-2.ensures.value in
    let on = more_words 0 c.loop-copy.row c.in-Some-only_word.hex.now c.in-Some-3.word [] some in
    let last : behind (c.loop-copy.row ++ c.in-Some-3.word ∷ []) (Some []) ≡ Some (c.loop-copy.row ++ c.in-Some-3.word ∷ []) = ap Some (append-nil (c.loop-copy.row ++ c.in-Some-3.word ∷ [])) in
    rw (c.push_own-2.ensures, c.as_slice-2.ensures) (sym (c.loop-copy.invariant.reads ∙ ap (λ m. behind c.loop-copy.row (row_of_words m (words_of c.loop-copy.rest.now))) left ∙ ap (λ parts. behind c.loop-copy.row (row_of_words 1 parts)) c.in-Some-only_word.ensures ∙ on ∙ last))
