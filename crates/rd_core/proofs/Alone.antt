-- Where nothing is open behind the request that is out, a happening of another link asks no words.
use Rattle.std.proofs.Common.{◌≡◌, ℕ, zero, suc, ◌-◌, map, List, [], ◌∷◌, ◌++◌, length, drop, Option, Some, None, refl, ap, ◌∙◌, append-nil, arith}
use Rattle.std.specs.Prelude.{is_some}
use Rattle.rd_base.specs.History.{Entry, Row, piece_of}
use Rattle.rd_base.specs.declared.values.MaskLimits.{MaskLimits}
use Rattle.rd_base.specs.declared.values.Scan.{Scan}
use Rattle.rd_base.specs.declared.values.Scan.TheVariants.{Whole, More, Bad, TooBig, Unsupported}
use Rattle.rd_dialect.specs.declared.due.Due.{Due}
use Rattle.rd_dialect.specs.Due.{request_due}
use Rattle.rd_dialect.specs.Grammar.{Grammar}
use Rattle.rd_dialect.specs.Laws.{Lawful}
use Rattle.rd_rules.specs.Exchange.{Rules, LinkUnit, Open, Ask, Exchange, Front, Reading, first_len, unit_by, each_unit, scan_open, units, past, agreed_ask, ask_at, replies_at, after, nothing_out, with_first, answered, asked, read}
use Rattle.rd_rules.specs.Given.{releases}
use Rattle.rd_rules.specs.Step.{grow_by, grow_front_by}
use Rattle.rd_rules.specs.Trouble.{Now}
use Rattle.rd_rules.specs.Wanted.{words_of, words_read}
use Rattle.rd_rules.proofs.Outs.{ask_grows}
use Rattle.rd_core.specs.Alone.{IsAlone}
use Rattle.rd_core.specs.Standing.{next_reading}

no_unit : (g : Grammar) → Lawful g → (due : Due) (o : Open) → o.bytes ≡ [] → unit_by o (scan_open g due o) ≡ None
no_unit g laws due o empty = by (scan_open g due o) refl
  where
    by : (s : Scan) → scan_open g due o ≡ s → unit_by o s ≡ None
    by (Whole len) is =
        let within = laws.within due.part due.phase due.note o.bytes o.is_ended len is in
        let some = laws.some_bytes due.part due.phase due.note o.bytes o.is_ended len is in
        absurd (omega (arith, within, some, ap length empty))
    by More is = refl
    by Bad is = refl
    by TooBig is = refl
    by (Unsupported code) is = refl

no_ask : (g : Grammar) → Lawful g → (most : MaskLimits) (p : Front) (o : Open) → p.asking ≡ o ∷ [] → o.bytes ≡ [] → ask_at g most p ≡ None
no_ask g laws most p o is empty =
    ap (λ os. agreed_ask g most p.phase (units g (request_due p.phase) os)) is
    ∙ ap (λ u. agreed_ask g most p.phase (each_unit (u ∷ []))) (no_unit g laws (request_due p.phase) o empty)

nothing : (g : Grammar) (most : MaskLimits) (m : ℕ) (p : Front) → ask_at g most p ≡ None → read g most m p ≡ nothing_out p
nothing g most zero p none = refl
nothing g most (suc m) p none = ap (asked g most (λ q. read g most m q) p) none

-- the words of the requests behind the first
abbrev past_first : Rules → List Row → Reading → List (List ℕ)
past_first r own now = words_of r (drop 1 (releases r own now.done now.out))

one_asked : (r : Rules) → Lawful r.grammar → (own : List Row) (m : ℕ) (p : Front) (ask : Ask) (o : Open) → past p.asking ask.units ≡ o ∷ [] → o.bytes ≡ []
    → (rs : Option (List LinkUnit)) → past_first r own (answered r.grammar (λ q. read r.grammar r.limits.mask m q) p ask rs) ≡ []
one_asked r laws own m p ask o is empty None = refl
one_asked r laws own m p ask o is empty (Some rs) =
    let x : Exchange = record { ask = ask; replies = rs } in
    let q : Front = after r.grammar p x in
    ap (λ rest. past_first r own (with_first x rest)) (nothing r.grammar r.limits.mask m q (no_ask r.grammar laws r.limits.mask q o is empty))

none_read : (r : Rules) → Lawful r.grammar → (own : List Row) (k : ℕ) (p : Front) (ask : Ask) (o : Open) → ask_at r.grammar r.limits.mask p ≡ Some ask
    → past p.asking ask.units ≡ o ∷ [] → o.bytes ≡ [] → past_first r own (read r.grammar r.limits.mask k p) ≡ []
none_read r laws own zero p ask o at is empty = refl
none_read r laws own (suc m) p ask o at is empty =
    ap (λ a. past_first r own (asked r.grammar r.limits.mask (λ q. read r.grammar r.limits.mask m q) p a)) at
    ∙ one_asked r laws own m p ask o is empty (replies_at r.grammar r.limits.mask p ask)

pub none_wanted : (r : Rules) → Lawful r.grammar → (now : Now) (e : Entry) → IsAlone now.left now.out e.what
    → ((ask : Ask) → now.out ≡ Some ask → ask_at r.grammar r.limits.mask now.left ≡ Some ask)
    → words_read r now.own (is_some now.out) (next_reading r now e) ≡ []
none_wanted r laws now e alone kept =
    let p : Front = grow_front_by e.what now.left in
    let size : ℕ = first_len alone.ask.units in
    let o : Open = record (grow_by e.what alone.one) { bytes = drop size (alone.one.bytes ++ piece_of alone.one.link e.what) } in
    let is : past p.asking alone.ask.units ≡ o ∷ [] = ap (λ os. past (map (grow_by e.what) os) alone.ask.units) alone.asking in
    let empty : o.bytes ≡ [] = ap (λ b. drop size (alone.one.bytes ++ b)) alone.unheard ∙ ap (drop size) (append-nil alone.one.bytes) ∙ alone.behind in
    ap (λ out. words_read r now.own (is_some out) (next_reading r now e)) alone.asked
    ∙ none_read r laws now.own (r.limits.exchanges_max - now.count) p alone.ask o
    (ask_grows r.grammar laws r.limits.mask e.what now.left alone.ask (kept alone.ask alone.asked)) is empty
