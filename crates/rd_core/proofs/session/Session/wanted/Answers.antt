use Rattle.std.proofs.Common.{◌≡◌, ◌∷◌, ◌++◌, ◌-◌, [], List, ℕ, Bool, true, Some, None, Result, Ok, Err, ap, sym, refl, ◌∙◌}
use Rattle.std.specs.Prelude.{is_some, IfOk}
use Rattle.rd_base.specs.declared.bytes.NoMemory.{NoMemory}
use Rattle.rd_base.specs.History.{Entry, is_well_formed}
use Rattle.rd_rules.specs.Trouble.{unsolicited_by}
use Rattle.rd_rules.specs.Wanted.{wanted, words_read}
use Rattle.rd_rules.specs.Exchange.{Front, read}
use Rattle.rd_reading.specs.Seen.{rules_of, seen_front, seen_request}
use Rattle.rd_core.specs.Clocks.{entry_of}
use Rattle.rd_core.specs.Stages.{seen_stage}
use Rattle.rd_core.specs.Standing.{IsAt, next_reading}
use Rattle.rd_core.proofs.Moves.{not_oversized, has_room_asking, is_some-map}
use Rattle.rd_core.proofs.Taken.{none_of}
use Rattle.rd_core.proofs.Alone.{none_wanted}
use Rattle.rd_core.proofs.WantedSteps.{wanted_over, wanted_held, wanted_on, wanted_alone}
use Rattle.rd_core.proofs.session.Session.wanted.Goals as goal

pub returns-then-is_some : goal.returns-then-is_some
returns-then-is_some g c =
    let old = c.args.self.now in
    let over : is_some old.ending ≡ true = sym (ap (λ v. is_some v.ending) c.self.view_is) ∙ sym c.is_some.ensures ∙ c.if-is_some.true in
    λ h w at. c.new.ensures ∙ wanted_over (rules_of (g.D.Dialect.grammar old.dialect) old.setup) (g.met.D.Dialect.lawful old.dialect) old h at (entry_of c.args.happening.now []) w over

pub returns-then-is_oversized : goal.returns-then-is_oversized
returns-then-is_oversized g c = λ h w at. absurd (not_oversized c.args.self.now.setup.limits.copies h (entry_of c.args.happening.now []) w (sym c.is_oversized.ensures ∙ c.if-is_oversized.true))

pub returns-then-is_alone : goal.returns-then-is_alone
returns-then-is_alone g c =
    let old = c.args.self.now in
    let inside = c.self.inside in
    let live = none_of old.ending (sym (ap (λ v. is_some v.ending) c.self.view_is) ∙ sym c.is_some.ensures ∙ c.if-is_some.false) in
    let rules = rules_of (g.D.Dialect.grammar old.dialect) old.setup in
    let e = entry_of c.args.happening.now [] in
    let alone = c.is_alone.ensures c.if-is_alone.true in
    let none : words_read rules old.at.stage.own (is_some old.at.stage.out) (next_reading rules old.at.stage e) ≡ [] =
    sym (ap (λ v. words_read (rules_of (g.D.Dialect.grammar v.dialect) v.setup) v.at.stage.own (is_some v.at.stage.out) (next_reading (rules_of (g.D.Dialect.grammar v.dialect) v.setup) v.at.stage e)) c.self.view_is)
    ∙ none_wanted (rules_of (g.D.Dialect.grammar inside.dialect) inside.setup) (g.met.D.Dialect.lawful inside.dialect) (seen_stage inside.stage inside.own) e alone c.self.invariant.out in
    λ h w at. c.new-then-is_alone.ensures ∙ wanted_alone rules (g.met.D.Dialect.lawful old.dialect) old h at e w live none

pub grown_front-requires-clause-asking : goal.grown_front-requires-clause-asking
grown_front-requires-clause-asking g c =
    let live = none_of c.self.inside.ending (sym c.is_some.ensures ∙ c.if-is_some.false) in
    has_room_asking c.self.inside.setup c.self.inside.stage c.self.inside.clock.entries c.args.happening.now.what c.self.invariant.limits.most_unit
    (sym c.is_oversized.ensures ∙ c.if-is_oversized.false) (c.self.invariant.more live)

pub returns-in-Some : goal.returns-in-Some
returns-in-Some g c =
    let old = c.args.self.now in
    let live = none_of old.ending (sym (ap (λ v. is_some v.ending) c.self.view_is) ∙ sym c.is_some.ensures ∙ c.if-is_some.false) in
    let grammar = g.D.Dialect.grammar old.dialect in
    let what = c.args.happening.now.what in
    let held : unsolicited_by grammar old.at.stage what ≡ Some c.in-Some.field-0 =
    sym (ap (λ v. unsolicited_by (g.D.Dialect.grammar v.dialect) v.at.stage what) c.self.view_is)
    ∙ sym (c.unsolicited.ensures (seen_stage c.self.inside.stage c.self.inside.own) refl (c.as_slice.ensures.value ∙ ap (λ (f : Front). f.answering) c.in_ok-front.ensures)) ∙ c.in-Some.is in
    λ h w at. c.new-in-Some.ensures ∙ wanted_held (rules_of grammar old.setup) (g.met.D.Dialect.lawful old.dialect) old h at (entry_of c.args.happening.now []) w c.in-Some.field-0 live held

map_ok : (res : Result (List (List ℕ)) NoMemory) (P Q : List (List ℕ) → Type 0) → ((x : List (List ℕ)) → P x → Q x) → IfOk res P → IfOk res Q
map_ok (Ok x) P Q f p = f x p
map_ok (Err e) P Q f p = tt

pub returns : goal.returns
returns g c =
    let old = c.args.self.now in
    let live = none_of old.ending (sym (ap (λ v. is_some v.ending) c.self.view_is) ∙ sym c.is_some.ensures ∙ c.if-is_some.false) in
    let grammar = g.D.Dialect.grammar old.dialect in
    let rules = rules_of grammar old.setup in
    let e = entry_of c.args.happening.now [] in
    let what = c.args.happening.now.what in
    let on : unsolicited_by grammar old.at.stage what ≡ None =
    sym (ap (λ v. unsolicited_by (g.D.Dialect.grammar v.dialect) v.at.stage what) c.self.view_is)
    ∙ sym (c.unsolicited.ensures (seen_stage c.self.inside.stage c.self.inside.own) refl (c.as_slice.ensures.value ∙ ap (λ (f : Front). f.answering) c.in_ok-front.ensures)) ∙ c.in-None.is in
    let in_rules = rules_of (g.D.Dialect.grammar c.self.inside.dialect) c.self.inside.setup in
    let stage = c.self.inside.stage in
    let here : words_read in_rules c.self.inside.own (is_some stage.out) (read in_rules.grammar in_rules.limits.mask (in_rules.limits.exchanges_max - stage.count) (seen_front c.in_ok-front.front)) ≡ words_read rules old.at.stage.own (is_some old.at.stage.out) (next_reading rules old.at.stage e) =
    ap (λ f. words_read in_rules c.self.inside.own (is_some stage.out) (read in_rules.grammar in_rules.limits.mask (in_rules.limits.exchanges_max - stage.count) f)) c.in_ok-front.ensures
    ∙ ap (λ (b : Bool). words_read in_rules c.self.inside.own b (next_reading in_rules (seen_stage stage c.self.inside.own) e)) (sym (is_some-map seen_request stage.out))
    ∙ ap (λ v. words_read (rules_of (g.D.Dialect.grammar v.dialect) v.setup) v.at.stage.own (is_some v.at.stage.out) (next_reading (rules_of (g.D.Dialect.grammar v.dialect) v.setup) v.at.stage e)) c.self.view_is in
    map_ok c.words_next.result _ (λ words. (h : List Entry) → is_well_formed old.setup.limits.copies (h ++ e ∷ []) ≡ true → IsAt rules old h → words ≡ wanted rules h e)
    (λ words is h w at. is ∙ here ∙ wanted_on rules (g.met.D.Dialect.lawful old.dialect) old h at e w live on)
    c.words_next.ensures
