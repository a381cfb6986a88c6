-- Nothing is out behind a farewell.
use Rattle.std.proofs.Common.{◌≡◌, ℕ, zero, suc, ◌<◌, map, Bool, true, false, List, [], ◌∷◌, ◌++◌, length, Option, Some, None, refl, sym, ap, ◌∙◌, true≢false, arith, length-append}
use Rattle.std.specs.Prelude.{if◌then◌else◌}
use Rattle.std.proofs.lemmas.List.{length-map}
use Rattle.rd_base.specs.History.{History}
use Rattle.rd_base.specs.Words.{below}
use Rattle.rd_base.specs.declared.values.MaskLimits.{MaskLimits}
use Rattle.rd_base.specs.declared.values.Note.{Note}
use Rattle.rd_base.specs.declared.values.Phase.{Phase}
use Rattle.rd_base.specs.declared.values.Scan.{Scan}
use Rattle.rd_base.specs.declared.values.Scan.TheVariants.{Whole, More, Bad, TooBig, Unsupported}
use Rattle.rd_base.specs.declared.values.Side.{Side}
use Rattle.rd_base.specs.declared.values.Side.TheVariants.{Incoming, Outgoing}
use Rattle.rd_dialect.specs.Due.{request_due, reply_due}
use Rattle.rd_dialect.specs.Grammar.{Grammar}
use Rattle.rd_dialect.specs.Laws.{Lawful}
use Rattle.rd_rules.specs.Exchange.{Rules, LinkUnit, Open, Ask, Exchange, Front, Reading, note, first_bytes, others, past, empty_unit, each_unit, unit_by, scan_open, units, askers, open_of, start_front, ask_at, agreed_ask, replies_at, agreed_replies, answered, asked, after, read, reading}
use Rattle.rd_rules.specs.Trouble.{ends_by}

-- no open bytes begin with a request behind a farewell
no_request : (g : Grammar) → Lawful g → (phase : Phase) (n : Note) → g.is_farewell n ≡ true → (o : Open)
    → unit_by o (scan_open g (request_due (g.phase_after phase n [])) o) ≡ None
no_request g laws phase n bye o = by (g.scan_request (g.phase_after phase n []) o.bytes) refl
  where
    by : (s : Scan) → g.scan_request (g.phase_after phase n []) o.bytes ≡ s → unit_by o s ≡ None
    by (Whole len) is = absurd (laws.last phase n o.bytes len bye is)
    by More is = refl
    by Bad is = refl
    by TooBig is = refl
    by (Unsupported code) is = refl

no_ask : (g : Grammar) → Lawful g → (most : MaskLimits) (phase : Phase) (n : Note) → g.is_farewell n ≡ true → (p : Front)
    → p.phase ≡ g.phase_after phase n [] → 0 < length p.asking → ask_at g most p ≡ None
no_ask g laws most phase n bye p at some =
    ap (λ ph. agreed_ask g most ph (units g (request_due ph) p.asking)) at
    ∙ ap (agreed_ask g most (g.phase_after phase n [])) (none p.asking some)
  where
    none : (opens : List Open) → 0 < length opens → units g (request_due (g.phase_after phase n [])) opens ≡ None
    none [] lt = absurd (omega (arith, lt))
    none (o ∷ os) lt =
        ap (λ u. each_unit (u ∷ map (λ x. unit_by x (scan_open g (request_due (g.phase_after phase n [])) x)) os))
        (no_request g laws phase n bye o)

past_len : (opens : List Open) (us : List LinkUnit) → length (past opens us) ≡ length opens
past_len [] us = refl
past_len (o ∷ os) us = ap suc (past_len os (others us))

empty_first : (opens : List Open) → first_bytes (map empty_unit opens) ≡ []
empty_first [] = refl
empty_first (o ∷ os) = refl

-- the replies to a farewell are empty
bye_replies : (b : Bool) (opens : List Open) (other : Option (List LinkUnit)) (rs : List LinkUnit) → b ≡ true
    → ◌≡◌ {A = Option (List LinkUnit)} (if b then Some (map empty_unit opens) else other) (Some rs) → first_bytes rs ≡ []
bye_replies true opens other rs b is = let same : map empty_unit opens ≡ rs = cc is in ap first_bytes (sym same) ∙ empty_first opens
bye_replies false opens other rs b is = absurd (true≢false (sym b))

still : (g : Grammar) → Lawful g → (most : MaskLimits) (fuel : ℕ) (before : Bool) (p : Front) → 0 < length p.asking
    → (before ≡ true → ask_at g most p ≡ None) → ends_by g before (read g most fuel p).done ≡ true → (read g most fuel p).out ≡ None
still g laws most zero before p some none bye = refl
still g laws most (suc more) before p some none bye =
    by_ask (λ b q enough quiet. still g laws most more b q enough quiet) (ask_at g most p) refl bye
  where
    StillAfter : Type 0
    StillAfter = (b : Bool) (q : Front) → 0 < length q.asking → (b ≡ true → ask_at g most q ≡ None) → ends_by g b (read g most more q).done ≡ true
        → (read g most more q).out ≡ None

    rest : Front → Reading
    rest q = read g most more q

    by_replies : StillAfter → (ask : Ask) → ask_at g most p ≡ Some ask → (rs : Option (List LinkUnit)) → replies_at g most p ask ≡ rs
        → ends_by g before (answered g rest p ask rs).done ≡ true → (answered g rest p ask rs).out ≡ None
    by_replies later ask is None at last = let no : Some ask ≡ None = sym is ∙ none last in absurd (cc no)
    by_replies later ask is (Some rs) at last =
        let x : Exchange = record { ask = ask; replies = rs } in
        let n : Note = note g ask in
        let other = agreed_replies g most ask (units g (reply_due ask.phase n) p.answering) in
        later (g.is_farewell n) (after g p x) (omega (arith, some, past_len p.asking ask.units))
        (λ b. no_ask g laws most ask.phase n b (after g p x)
        (ap (g.phase_after ask.phase n) (bye_replies (g.is_farewell n) p.answering other rs b at))
        (omega (arith, some, past_len p.asking ask.units)))
        last

    by_ask : StillAfter → (o : Option Ask) → ask_at g most p ≡ o → ends_by g before (asked g most rest p o).done ≡ true → (asked g most rest p o).out ≡ None
    by_ask later None is last = refl
    by_ask later (Some ask) is last = by_replies later ask is (replies_at g most p ask) refl last

some_askers : (h : History) (side : Side) (n : ℕ) → 0 < n → 0 < length (map (open_of h) (askers side n))
some_askers h Incoming n some = omega arith
some_askers h Outgoing zero some = absurd (omega (arith, some))
some_askers h Outgoing (suc n) some =
    let split = length-map (below n ++ n ∷ []) (open_of h) in
    let joined = length-append (below n) (n ∷ []) in
    omega (arith, split, joined)

pub farewells_are_last : (r : Rules) → Lawful r.grammar → 0 < r.limits.copies → (h : History) → ends_by r.grammar false (reading r h).done ≡ true
    → (reading r h).out ≡ None
farewells_are_last r laws some h bye =
    still r.grammar laws r.limits.mask r.limits.exchanges_max false (start_front r h) (some_askers h r.side r.limits.copies some)
    (λ e. absurd (true≢false (sym e))) bye
