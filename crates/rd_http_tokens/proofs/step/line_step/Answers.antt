use Rattle.std.proofs.Common.{◌≡◌, ◌∙◌, ◌+◌, ◌<◌, ◌≤◌, ℕ, Bool, false, true, List, drop, take, length, length-drop, sym, ap, arith, subst}
use Rattle.std.proofs.lemmas.Bool.Decides.{nat_tests}
use Rattle.rd_base.specs.declared.names.NameRules.{NameRules}
use Rattle.rd_base.specs.declared.values.Part.TheVariants.{Request}
use Rattle.rd_http_tokens.specs.declared.step.Found.{Found}
use Rattle.rd_http_tokens.specs.declared.stage.Stated.{Stated}
use Rattle.rd_http_tokens.specs.Tokens.{line_len, line_of, has_line, lines, state, is_blank, name_of, is_passed}
use Rattle.rd_http_tokens.specs.Steps.{IsFound, Goes, found_behind, goes_further, none_behind, shifted}
use Rattle.rd_http_tokens.proofs.Told.{has_it}
use Rattle.rd_http_tokens.proofs.step.line_step.Goals as goal

no_feed : (text rest : List ℕ) (at len : ℕ) → rest ≡ drop at text → len ≡ line_len rest → len ≡ length rest → has_line (drop at text) ≡ false
no_feed text rest at len r e is = ap has_line (sym r) ∙ grind (arith, nat_tests, e, is)

past_end : (text : List ℕ) (at : ℕ) → length text ≤ at → has_line (drop at text) ≡ false
past_end text at le = grind (arith, nat_tests, length-drop at text, le)

sizes : (names : NameRules) (said : Stated) (whole : Bool) (text rest : List ℕ) (at : ℕ) (found : Found) → rest ≡ drop at text → at ≤ length text → IsFound names (λ all t. lines names said all t) whole rest found
    → (at + found.start ≤ length text) × (at + found.end ≤ length text) × (at + found.next ≤ length text)
sizes names said whole text rest at found r le is =
    let size : length rest + at ≡ length text = omega (arith, ap length r, length-drop at text, le) in
    (omega (arith, size, is.ordered, is.within), omega (arith, size, is.within), omega (arith, size, (is.steps Request).within))

found_here : (names : NameRules) (stated said : Stated) (whole : Bool) (text rest : List ℕ) (at : ℕ) (found shift : Found) → rest ≡ drop at text → at ≤ length text → Goes names stated said text at
    → IsFound names (λ all t. lines names said all t) whole rest found → shift ≡ shifted at found → IsFound names (λ all t. lines names stated all t) whole text shift
found_here names stated said whole text rest at found shift r le goes is e =
    subst (λ (f : Found). IsFound names (λ all t. lines names stated all t) whole text f) (sym e)
    (found_behind names (λ all t. lines names stated all t) said whole text at found le goes (subst (λ (t : List ℕ). IsFound names (λ all u. lines names said all u) whole t found) r is))

goes_here : (names : NameRules) (stated said now : Stated) (text rest : List ℕ) (at len : ℕ) → rest ≡ drop at text → len ≡ line_len rest → len < length rest → Goes names stated said text at → is_blank (line_of rest) ≡ false → is_passed names (name_of (line_of rest)) ≡ true
    → now ≡ state said (take len rest) → Goes names stated now text (at + (len + 1))
goes_here names stated said now text rest at len r e lt goes blank pass is =
    let there : at + line_len (drop at text) + 1 ≡ at + (len + 1) = omega (arith, e, ap line_len r) in
    let same : state said (line_of (drop at text)) ≡ now = ap (λ t. state said (line_of t)) (sym r) ∙ ap (λ k. state said (take k rest)) (sym e) ∙ sym is in
    subst (λ (s : Stated). Goes names stated s text (at + (len + 1))) same
    (subst (λ n. Goes names stated (state said (line_of (drop at text))) text n) there
    (goes_further names stated said text at goes (ap has_line (sym r) ∙ has_it rest len e lt) (ap (λ t. is_blank (line_of t)) (sym r) ∙ blank) (ap (λ t. is_passed names (name_of (line_of t))) (sym r) ∙ pass)))

pub returns-then-len-rest : goal.returns-then-len-rest
returns-then-len-rest c =
    none_behind c.args.names.now c.args.stated c.loop-at.said c.args.whole c.args.text.now c.loop-at.at c.loop-at.invariant.goes
    (no_feed c.args.text.now c.from-rest.result.now c.loop-at.at c.place_of-len.result c.from-rest.ensures c.place_of-len.ensures.place c.if-len-rest.true)

pub returns : goal.returns
returns c = none_behind c.args.names.now c.args.stated c.loop-at.said c.args.whole c.args.text.now c.loop-at.at c.loop-at.invariant.goes (past_end c.args.text.now c.loop-at.at (omega arith))

pub behind-requires-clause-ends : goal.behind-requires-clause-ends
behind-requires-clause-ends c =
    omega (arith, (sizes c.args.names.now c.loop-at.said c.args.whole c.args.text.now c.from-rest.result.now c.loop-at.at c.in-Some.found c.from-rest.ensures c.loop-at.invariant.within (c.in-Some.ensures c.args.whole)).1)

pub behind-requires-clause-starts : goal.behind-requires-clause-starts
behind-requires-clause-starts c =
    omega (arith, (sizes c.args.names.now c.loop-at.said c.args.whole c.args.text.now c.from-rest.result.now c.loop-at.at c.in-Some.found c.from-rest.ensures c.loop-at.invariant.within (c.in-Some.ensures c.args.whole)).0)

pub behind-requires-clause-nexts : goal.behind-requires-clause-nexts
behind-requires-clause-nexts c =
    omega (arith, (sizes c.args.names.now c.loop-at.said c.args.whole c.args.text.now c.from-rest.result.now c.loop-at.at c.in-Some.found c.from-rest.ensures c.loop-at.invariant.within (c.in-Some.ensures c.args.whole)).2)

pub returns-in-Some : goal.returns-in-Some
returns-in-Some c =
    found_here c.args.names.now c.args.stated c.loop-at.said c.args.whole c.args.text.now c.from-rest.result.now c.loop-at.at c.in-Some.found c.behind.result c.from-rest.ensures c.loop-at.invariant.within c.loop-at.invariant.goes
    (c.in-Some.ensures c.args.whole) c.behind.ensures

pub loop-at-preserved : goal.loop-at-preserved
loop-at-preserved c =
    let size = length-drop c.loop-at.at c.args.text.now in
    record {
      within = omega (arith, ap length c.from-rest.ensures, size, c.place_of-len.ensures.within, c.if-len-rest.false, c.loop-at.invariant.within);
      goes = goes_here c.args.names.now c.args.stated c.loop-at.said c.state-said.result c.args.text.now c.from-rest.result.now c.loop-at.at c.place_of-len.result c.from-rest.ensures c.place_of-len.ensures.place
          (omega (arith, c.place_of-len.ensures.within, c.if-len-rest.false)) c.loop-at.invariant.goes c.in_default.ensures.0 c.in_default.ensures.1 c.state-said.ensures;
    }
