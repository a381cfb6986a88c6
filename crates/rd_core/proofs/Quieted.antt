-- A step that only brings more of a reply reads nothing, and sends nothing.
use Rattle.std.proofs.Common.{◌≡◌, ℕ, zero, suc, ◌+◌, ◌-◌, ◌<◌, Bool, true, false, cond, not, ◌||◌, List, [], ◌∷◌, ◌++◌, take, map, Option, Some, None, refl, sym, ap, ap₂, ◌∙◌, arith}
use Rattle.std.specs.Prelude.{is_some, option_map}
use Rattle.std.specs.List.{list_any, flat_map}
use Rattle.rd_base.specs.History.{Row}
use Rattle.rd_base.specs.Sent.{send_of, sends_to}
use Rattle.rd_base.specs.declared.values.Side.{Side}
use Rattle.rd_base.specs.declared.values.Side.TheVariants.{Incoming, Outgoing}
use Rattle.rd_base.specs.declared.values.Scan.{Scan}
use Rattle.rd_base.specs.declared.values.Scan.TheVariants.{Whole, More, Bad, TooBig, Unsupported}
use Rattle.rd_dialect.specs.declared.due.Due.{Due}
use Rattle.rd_dialect.specs.Due.{reply_due}
use Rattle.rd_dialect.specs.Grammar.{Grammar}
use Rattle.rd_rules.specs.Exchange as rule
use Rattle.rd_rules.specs.Exchange.{Rules, LinkUnit, Open, unit_by, each_unit, units, scan_open, agreed_replies, note}
use Rattle.rd_rules.specs.Given.{is_asker, exchange_rows}
use Rattle.rd_rules.specs.Step.{given_now, masked_now}
use Rattle.rd_rules.specs.Trouble.{is_whole, due_of, due_opens}
use Rattle.rd_reading.specs.declared.setup.Setup.{Setup}
use Rattle.rd_reading.specs.declared.looks.Look.{Look}
use Rattle.rd_reading.specs.declared.exchange.Request.{Request}
use Rattle.rd_reading.specs.Looks.{look_of}
use Rattle.rd_reading.specs.Seen.{seen_front, seen_request, rules_of}
use Rattle.rd_reading.proofs.ReadSteps.{read_out}
use Rattle.rd_core.specs.declared.stage.Stage.{Stage}
use Rattle.rd_core.specs.Stages.{seen_stage, read_now}
use Rattle.rd_core.specs.Kept.{IsOut}
use Rattle.rd_core.specs.Looks.{looks_at}
use Rattle.rd_core.specs.Quiet.{StillWaits}
use Rattle.rd_core.specs.Standing.{now_from}
use Rattle.rd_core.proofs.LinkSends.{sends_to-more}

-- ---- a link without a whole unit

no_units : (g : Grammar) (due : Due) (os : List Open) → list_any (λ (l : Look). not (is_whole l.scan)) (map (look_of g due) os) ≡ true → units g due os ≡ None
no_units g due [] e = absurd (cc e)
no_units g due (o ∷ os) e = by (λ q. no_units g due os q) (scan_open g due o) e
  where
    by : (list_any (λ (l : Look). not (is_whole l.scan)) (map (look_of g due) os) ≡ true → units g due os ≡ None) → (s : Scan) → (not (is_whole s) || list_any (λ (l : Look). not (is_whole l.scan)) (map (look_of g due) os)) ≡ true → each_unit (unit_by o s ∷ map (λ o. unit_by o (scan_open g due o)) os) ≡ None
    by rest (Whole len) q = ap (option_map (λ us. record { link = o.link; bytes = take len o.bytes } ∷ us)) (rest q)
    by rest More q = refl
    by rest Bad q = refl
    by rest TooBig q = refl
    by rest (Unsupported code) q = refl

pub waits-for : (g : Grammar) (setup : Setup) (s : Stage) (request : Request) (looks : List Look) → s.out ≡ Some request → s.count < setup.limits.exchanges_max
    → g.is_farewell (note g (seen_request request)) ≡ false → looks ≡ looks_at g s → list_any (λ (l : Look). not (is_whole l.scan)) looks ≡ true → StillWaits g setup s
waits-for g setup s request looks out spare other are part =
    let ask = seen_request request in
    let due = reply_due ask.phase (note g ask) in
    let opens = s.left.answering.opens.items in
    let here : looks ≡ map (look_of g due) opens =
    are ∙ ap (λ (o : Option Request). map (look_of g (due_of g (record { count = s.count; bye = s.bye; own = []; left = seen_front s.left; out = option_map seen_request o }))) (due_opens (record { count = s.count; bye = s.bye; own = []; left = seen_front s.left; out = option_map seen_request o }))) out in
    let none : units g due opens ≡ None = no_units g due opens (ap (list_any (λ (l : Look). not (is_whole l.scan))) (sym here) ∙ part) in
    record {
      ask = ask;
      out = ap (option_map seen_request) out;
      spare = spare;
      none = ap (λ b. cond b (Some (map rule.empty_unit opens)) (agreed_replies g setup.limits.mask ask (units g due opens))) other
          ∙ ap (agreed_replies g setup.limits.mask ask) none;
    }

-- ---- what is read then

quiet_sends : (n : ℕ) (f : ℕ → List ℕ) → ((l : ℕ) → f l ≡ []) → sends_to n f ≡ []
quiet_sends zero f none = refl
quiet_sends (suc n) f none = sends_to-more n f ∙ ap₂ (λ xs bytes. xs ++ send_of n bytes) (quiet_sends n f none) (none n)

module _ (g : Grammar) (setup : Setup) (s : Stage) (waits : StillWaits g setup s) (kept : IsOut g setup s) where
  abbrev r : Rules
  r = rules_of g setup

  abbrev still : rule.Reading
  still = record { done = []; left = seen_front s.left; out = Some waits.ask }

  read-still : read_now r s ≡ still
  read-still = read_out g setup.limits.mask (seen_front s.left) waits.ask (kept waits.ask waits.out) (setup.limits.exchanges_max - s.count) (omega (arith, waits.spare)) waits.none

  was-out : is_some s.out ≡ true
  was-out = by s.out waits.out
    where
      by : (o : Option Request) → option_map seen_request o ≡ Some waits.ask → is_some o ≡ true
      by None e = absurd (cc e)
      by (Some x) e = refl

  pub stage-still : (own : List Row) → seen_stage s own ≡ now_from r s.count s.bye own (read_now r s)
  stage-still own =
      let n : s.count ≡ s.count + 0 = omega arith in
      ap₂ (λ (k : ℕ) (o : Option rule.Ask). record { count = k; bye = s.bye; own = own; left = seen_front s.left; out = o }) n waits.out
      ∙ ap (now_from r s.count s.bye own) (sym read-still)

  pub sends-still : (own told : List Row) → [] ≡ sends_to (setup.limits.copies + 1) (λ link. given_now r link own told (is_some s.out) (read_now r s))
  sends-still own told =
      sym (quiet_sends (setup.limits.copies + 1) (λ link. given_now r link own told true still) (λ l. by (is_asker r l)))
      ∙ ap₂ (λ (b : Bool) (q : rule.Reading). sends_to (setup.limits.copies + 1) (λ link. given_now r link own told b q)) (sym was-out) (sym read-still)
    where
      nothing : List ℕ
      nothing = []

      by : (b : Bool) → cond b nothing nothing ≡ nothing
      by true = refl
      by false = refl

  pub rows-still : [] ≡ flat_map (exchange_rows r) (read_now r s).done
  rows-still = ap (λ (q : rule.Reading). flat_map (exchange_rows r) q.done) (sym read-still)

  pub masked-still : 0 ≡ masked_now setup.side r (is_some s.out) (read_now r s)
  masked-still = by setup.side ∙ ap₂ (λ (b : Bool) (q : rule.Reading). masked_now setup.side r b q) (sym was-out) (sym read-still)
    where
      by : (side : Side) → 0 ≡ masked_now side r true still
      by Incoming = refl
      by Outgoing = refl
