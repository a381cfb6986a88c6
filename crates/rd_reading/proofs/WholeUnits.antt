-- Units that were read are whole.
use Rattle.std.proofs.Common.{◌≡◌, ℕ, suc, ◌≤◌, true, List, [], ◌∷◌, length, take, map, Option, Some, None, refl, ap, sym, subst, ◌∙◌, arith}
use Rattle.std.specs.Prelude.{option_map, unwrap_or}
use Rattle.rd_base.specs.declared.values.Phase.{Phase}
use Rattle.rd_base.specs.declared.values.Note.{Note}
use Rattle.rd_base.specs.declared.values.Scan.{Scan}
use Rattle.rd_base.specs.declared.values.Scan.TheVariants.{Whole, More, Bad, TooBig, Unsupported}
use Rattle.rd_dialect.specs.declared.due.Due.{Due}
use Rattle.rd_dialect.specs.Grammar.{Grammar, IsRequest, IsReply}
use Rattle.rd_dialect.specs.Grammar.IsReply.{Scanned, Farewell}
use Rattle.rd_dialect.specs.Laws.{Lawful}
use Rattle.rd_dialect.specs.Due.{request_due, reply_due, IsDue}
use Rattle.rd_rules.specs.Exchange.{Open, LinkUnit, Ask, unit_by, each_unit, units, scan_open, first_bytes, note, empty_unit, past, others}
use Rattle.rd_reading.specs.Whole.{IsAsked, IsAnswered}

-- the first of the units that all begin with is whole
pub first_whole : (g : Grammar) → Lawful g → (due : Due) (os : List Open) (us : List LinkUnit) → 1 ≤ length os → units g due os ≡ Some us → IsDue g due (first_bytes us) true
first_whole g laws due [] us some is = absurd (omega arith)
first_whole g laws due (o ∷ os) us some is = go (scan_open g due o) refl is
  where
    rest : Option (List LinkUnit)
    rest = units g due os

    met : (len : ℕ) → scan_open g due o ≡ Whole len → IsDue g due (take len o.bytes) true
    met len e = record { ended = o.is_ended; scan = laws.itself due.part due.phase due.note o.bytes o.is_ended len e }

    more : (len : ℕ) → scan_open g due o ≡ Whole len → (c : Option (List LinkUnit)) → option_map (λ us. record { link = o.link; bytes = take len o.bytes } ∷ us) c ≡ Some us → IsDue g due (first_bytes us) true
    more len e None q = absurd (cc q)
    more len e (Some vs) q =
        let same : record { link = o.link; bytes = take len o.bytes } ∷ vs ≡ us = ap (λ m. unwrap_or m us) q in
        subst (λ (ws : List LinkUnit). IsDue g due (first_bytes ws) true) same (met len e)

    go : (c : Scan) → scan_open g due o ≡ c → each_unit (unit_by o c ∷ map (λ o. unit_by o (scan_open g due o)) os) ≡ Some us → IsDue g due (first_bytes us) true
    go (Whole len) e q = more len e rest q
    go More e q = absurd (cc q)
    go Bad e q = absurd (cc q)
    go TooBig e q = absurd (cc q)
    go (Unsupported code) e q = absurd (cc q)

whole_request : (g : Grammar) (phase : Phase) (unit : List ℕ) → IsDue g (request_due phase) unit true → IsRequest g phase unit
whole_request g phase unit part = part.scan

pub asked_whole : (g : Grammar) → Lawful g → (phase : Phase) (os : List Open) (us : List LinkUnit) → 1 ≤ length os → units g (request_due phase) os ≡ Some us → IsAsked g (record { phase = phase; units = us })
asked_whole g laws phase os us some is = whole_request g phase (first_bytes us) (first_whole g laws (request_due phase) os us some is)

pub answered_whole : (g : Grammar) → Lawful g → (ask : Ask) (os : List Open) (us : List LinkUnit) → 1 ≤ length os → units g (reply_due ask.phase (note g ask)) os ≡ Some us → IsAnswered g ask us
answered_whole g laws ask os us some is =
    let part = first_whole g laws (reply_due ask.phase (note g ask)) os us some is in
    Scanned part.ended part.scan

first_empty : (os : List Open) → first_bytes (map empty_unit os) ≡ []
first_empty [] = refl
first_empty (o ∷ os) = refl

pub answered_farewell : (g : Grammar) (ask : Ask) (os : List Open) (us : List LinkUnit) → g.is_farewell (note g ask) ≡ true → us ≡ map empty_unit os → IsAnswered g ask us
answered_farewell g ask os us bye is = Farewell bye (ap first_bytes is ∙ first_empty os)

-- the condition of the calls on a reply, by the note and the bytes that were computed
pub answered_by : (g : Grammar) (ask : Ask) (us : List LinkUnit) (n : Note) (bytes : List ℕ) → n ≡ note g ask → bytes ≡ first_bytes us → IsAnswered g ask us → IsReply g ask.phase n bytes
answered_by g ask us n bytes note_is bytes_are is =
    subst (λ (m : Note). IsReply g ask.phase m bytes) (sym note_is) (subst (λ (b : List ℕ). IsReply g ask.phase (note g ask) b) (sym bytes_are) is)

pub length-past : (os : List Open) (us : List LinkUnit) → length (past os us) ≡ length os
length-past [] us = refl
length-past (o ∷ os) us = ap suc (length-past os (others us))
