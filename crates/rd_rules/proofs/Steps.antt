-- What is read of a history, some happenings later.
use Rattle.std.specs.Prelude.{ℕ, zero, suc, ◌≡◌, ◌≤◌, ◌-◌, Bool, true, false, ◌||◌, List, [], ◌∷◌, ◌++◌, length, take, drop, map, Option, Some, None, unwrap_or, option_map}
use Rattle.rd_rules.specs.Exchange.{LinkUnit}
use Rattle.rd_rules.specs.Exchange.{Open}
use Rattle.rd_dialect.specs.Due.{request_due, reply_due}
use Rattle.rd_dialect.specs.declared.due.Due.{Due}
use Rattle.rd_base.specs.declared.values.Scan.TheVariants.{Whole, More, Bad, TooBig, Unsupported}
use Rattle.rd_base.specs.declared.values.Scan.{Scan}
use Rattle.rd_base.specs.declared.values.MaskLimits.{MaskLimits}
use Rattle.std.proofs.Common.{refl, sym, ap, ap₂, subst, ◌∙◌, append-nil, arith, length-take-le}
use Rattle.std.proofs.lemmas.List.{take-append-le, drop-append-le}
use Rattle.std.proofs.lemmas.Grind.{flat_map-append}
use Rattle.std.proofs.lemmas.List.Folds.{list_any-append}
use Rattle.rd_base.specs.History.{History, stream, ended, is_well_formed, piece_of, ends}
use Rattle.rd_dialect.specs.Grammar.{Grammar}
use Rattle.rd_dialect.specs.Laws.{Lawful}
use Rattle.rd_rules.specs.Exchange.{Rules, Ask, Exchange, Front, Reading, reading, read, asked, answered, with_first, ask_at, agreed_ask, replies_at, agreed_replies, after, start_front, past, units, unit_by, each_unit, scan_open, note, empty_unit, open_of, askers, answerers}
use Rattle.rd_rules.specs.Step.{grow, grow_front, with_done, read_further}
use Rattle.rd_rules.proofs.Grows.{if-some}
use Rattle.rd_rules.proofs.Streams.{silent, follows_well-append}

-- nothing more has come of a link that had ended
abbrev Quiet : History → Open → Type 0
Quiet e o = o.is_ended ≡ true → stream o.link e ≡ []

abbrev All_quiet : History → List Open → Type 0
All_quiet e [] = Unit {0}
All_quiet e (o ∷ os) = Quiet e o × All_quiet e os

scan-grow : (d : Grammar) → Lawful d → (s : Due) (e : History) (o : Open) (len : ℕ) → Quiet e o
    → scan_open d s o ≡ Whole len → scan_open d s (grow e o) ≡ Whole len
scan-grow d laws s e o len quiet whole = go o.is_ended refl
  where
    go : (b : Bool) → o.is_ended ≡ b → scan_open d s (grow e o) ≡ Whole len
    go true b = rw (quiet b, append-nil o.bytes, b) (rw b at whole)
    go false b = laws.stays s.part s.phase s.note o.bytes (stream o.link e) (o.is_ended || ended o.link e) len (rw b at whole)

abbrev drop_unit : LinkUnit → Open → Open
drop_unit u o = record o { bytes = drop (length u.bytes) o.bytes }

unit-grow : (d : Grammar) → Lawful d → (s : Due) (e : History) (o : Open) (u : LinkUnit) → Quiet e o
    → unit_by o (scan_open d s o) ≡ Some u
    → (unit_by (grow e o) (scan_open d s (grow e o)) ≡ Some u) × (drop_unit u (grow e o) ≡ grow e (drop_unit u o))
unit-grow d laws s e o u quiet is = go (scan_open d s o) refl is
  where
    go : (c : Scan) → scan_open d s o ≡ c → unit_by o c ≡ Some u
        → (unit_by (grow e o) (scan_open d s (grow e o)) ≡ Some u) × (drop_unit u (grow e o) ≡ grow e (drop_unit u o))
    go (Whole len) w q =
        let cut : LinkUnit = record { link = o.link; bytes = take len o.bytes } in
        let same : cut ≡ u = ap (λ m. unwrap_or m u) q in
        let fits : len ≤ length o.bytes = laws.within s.part s.phase s.note o.bytes o.is_ended len w in
        let n : length u.bytes ≡ len = ap (λ v. length v.bytes) (sym same) ∙ length-take-le len o.bytes fits in (
          ap (unit_by (grow e o)) (scan-grow d laws s e o len quiet w)
              ∙ (ap (λ b. Some (record { link = o.link; bytes = b })) (take-append-le len o.bytes (stream o.link e) fits) ∙ q),
          ap (λ b. record { link = o.link; bytes = b; is_ended = o.is_ended || ended o.link e })
              (rw n (drop-append-le len o.bytes (stream o.link e) fits)),
        )
    go More w q = absurd (cc q)
    go Bad w q = absurd (cc q)
    go TooBig w q = absurd (cc q)
    go (Unsupported code) w q = absurd (cc q)

record Grow_units (d : Grammar) (s : Due) (e : History) (os : List Open) (us : List LinkUnit) : Type 0 where
  is : units d s (map (grow e) os) ≡ Some us
  past_is : past (map (grow e) os) us ≡ map (grow e) (past os us)
  quiet : All_quiet e (past os us)

units-grow : (d : Grammar) → Lawful d → (s : Due) (e : History) (os : List Open) (us : List LinkUnit) → All_quiet e os
    → units d s os ≡ Some us → Grow_units d s e os us
units-grow d laws s e [] us quiet is = record { is = is; past_is = refl; quiet = tt }
units-grow d laws s e (o ∷ os) us quiet is = go (λ vs w. units-grow d laws s e os vs quiet.1 w) (unit_by o (scan_open d s o)) refl is
  where
    Tail : Type 0
    Tail = (vs : List LinkUnit) → units d s os ≡ Some vs → Grow_units d s e os vs

    both : (u : LinkUnit) → unit_by o (scan_open d s o) ≡ Some u → (vs : List LinkUnit) → Grow_units d s e os vs → (u ∷ vs) ≡ us → Grow_units d s e (o ∷ os) us
    both u w vs tail same =
        let head = unit-grow d laws s e o u quiet.0 w in
        subst (λ ws. Grow_units d s e (o ∷ os) ws) same (record {
          is = ap (λ c. each_unit (c ∷ map (λ o. unit_by o (scan_open d s o)) (map (grow e) os))) head.0
              ∙ ap (option_map (λ us. u ∷ us)) tail.is;
          past_is = ap₂ (λ x xs. x ∷ xs) head.1 tail.past_is;
          quiet = (quiet.0, tail.quiet);
        })

    more : Tail → (u : LinkUnit) → unit_by o (scan_open d s o) ≡ Some u → (c : Option (List LinkUnit)) → units d s os ≡ c
        → option_map (λ us. u ∷ us) c ≡ Some us → Grow_units d s e (o ∷ os) us
    more ih u w None w' q = absurd (cc q)
    more ih u w (Some vs) w' q = both u w vs (ih vs w') (ap (λ m. unwrap_or m us) q)

    go : Tail → (c : Option LinkUnit) → unit_by o (scan_open d s o) ≡ c → each_unit (c ∷ map (λ o. unit_by o (scan_open d s o)) os) ≡ Some us → Grow_units d s e (o ∷ os) us
    go ih None w q = absurd (cc q)
    go ih (Some u) w q = more ih u w (units d s os) refl q

empty-grow : (e : History) (os : List Open) → map empty_unit (map (grow e) os) ≡ map empty_unit os
empty-grow e [] = refl
empty-grow e (o ∷ os) = ap (λ us. empty_unit o ∷ us) (empty-grow e os)

past-empty-grow : (e : History) (os : List Open) → past (map (grow e) os) (map empty_unit os) ≡ map (grow e) (past os (map empty_unit os))
past-empty-grow e [] = refl
past-empty-grow e (o ∷ os) = ap (λ us. grow e o ∷ us) (past-empty-grow e os)

past-empty-quiet : (e : History) (os : List Open) → All_quiet e os → All_quiet e (past os (map empty_unit os))
past-empty-quiet e [] quiet = tt
past-empty-quiet e (o ∷ os) quiet = (quiet.0, past-empty-quiet e os quiet.1)

record Grow_ask (d : Grammar) (most : MaskLimits) (e : History) (p : Front) (ask : Ask) : Type 0 where
  is : ask_at d most (grow_front e p) ≡ Some ask
  past_is : past (map (grow e) p.asking) ask.units ≡ map (grow e) (past p.asking ask.units)
  quiet : All_quiet e (past p.asking ask.units)

ask-grow : (d : Grammar) → Lawful d → (most : MaskLimits) (e : History) (p : Front) (ask : Ask) → All_quiet e p.asking
    → ask_at d most p ≡ Some ask → Grow_ask d most e p ask
ask-grow d laws most e p ask quiet is = go (units d (request_due p.phase) p.asking) refl is
  where
    go : (c : Option (List LinkUnit)) → units d (request_due p.phase) p.asking ≡ c → agreed_ask d most p.phase c ≡ Some ask → Grow_ask d most e p ask
    go None w a = absurd (cc a)
    go (Some us) w a =
        let same : us ≡ ask.units = ap (λ (m : Ask). m.units) (if-some _ (record { phase = p.phase; units = us }) ask a) in
        let later = units-grow d laws (request_due p.phase) e p.asking us quiet w in
        record {
          is = ap (agreed_ask d most p.phase) later.is ∙ a;
          past_is = subst (λ ws. past (map (grow e) p.asking) ws ≡ map (grow e) (past p.asking ws)) same later.past_is;
          quiet = subst (λ ws. All_quiet e (past p.asking ws)) same later.quiet;
        }

record Grow_replies (d : Grammar) (most : MaskLimits) (e : History) (p : Front) (ask : Ask) (replies : List LinkUnit) : Type 0 where
  is : replies_at d most (grow_front e p) ask ≡ Some replies
  past_is : past (map (grow e) p.answering) replies ≡ map (grow e) (past p.answering replies)
  quiet : All_quiet e (past p.answering replies)

replies-grow : (d : Grammar) → Lawful d → (most : MaskLimits) (e : History) (p : Front) (ask : Ask) (replies : List LinkUnit) → All_quiet e p.answering
    → replies_at d most p ask ≡ Some replies → Grow_replies d most e p ask replies
replies-grow d laws most e p ask replies quiet is = by_note (d.is_farewell (note d ask)) refl
  where
    s : Due
    s = reply_due ask.phase (note d ask)

    met : d.is_farewell (note d ask) ≡ false → (c : Option (List LinkUnit)) → units d s p.answering ≡ c → agreed_replies d most ask c ≡ Some replies → Grow_replies d most e p ask replies
    met n None w a = absurd (cc a)
    met n (Some us) w a =
        let same : us ≡ replies = if-some _ us replies a in
        let later = units-grow d laws s e p.answering us quiet w in
        record {
          is = rw n (ap (agreed_replies d most ask) later.is ∙ a);
          past_is = subst (λ ws. past (map (grow e) p.answering) ws ≡ map (grow e) (past p.answering ws)) same later.past_is;
          quiet = subst (λ ws. All_quiet e (past p.answering ws)) same later.quiet;
        }

    by_note : (b : Bool) → d.is_farewell (note d ask) ≡ b → Grow_replies d most e p ask replies
    by_note true n =
        let same : map empty_unit p.answering ≡ replies = ap (λ m. unwrap_or m replies) (rw n at is) in
        record {
          is = rw n (ap Some (empty-grow e p.answering ∙ same));
          past_is = subst (λ ws. past (map (grow e) p.answering) ws ≡ map (grow e) (past p.answering ws)) same (past-empty-grow e p.answering);
          quiet = subst (λ ws. All_quiet e (past p.answering ws)) same (past-empty-quiet e p.answering quiet);
        }
    by_note false n = met n (units d s p.answering) refl (rw n at is)

minus_zero : (n : ℕ) → n - 0 ≡ n
minus_zero n = omega arith

minus_suc : (m n : ℕ) → suc m - suc n ≡ m - n
minus_suc m n = omega arith

abbrev Read_on : Grammar → MaskLimits → ℕ → History → Reading → Reading → Type 0
Read_on d most m e now later = later ≡ with_done now.done (read d most (m - length now.done) (grow_front e now.left))

read-grow : (d : Grammar) → Lawful d → (most : MaskLimits) (e : History) (m : ℕ) (p : Front) → All_quiet e p.asking → All_quiet e p.answering
    → Read_on d most m e (read d most m p) (read d most m (grow_front e p))
read-grow d laws most e zero p qa qr = refl
read-grow d laws most e (suc m) p qa qr = by_ask (λ p qa qr. read-grow d laws most e m p qa qr) (ask_at d most p) refl
  where
    rest : Front → Reading
    rest = λ o. read d most m o

    q : Front
    q = grow_front e p

    Later : Type 0
    Later = (p : Front) → All_quiet e p.asking → All_quiet e p.answering → Read_on d most m e (rest p) (rest (grow_front e p))

    again : asked d most rest q (ask_at d most q) ≡ with_done [] (read d most (suc m - 0) q)
    again = ap (λ k. read d most k q) (sym (minus_zero (suc m)))

    by_replies : Later → (ask : Ask) → Grow_ask d most e p ask → (c : Option (List LinkUnit)) → replies_at d most p ask ≡ c
        → Read_on d most (suc m) e (answered d rest p ask c) (asked d most rest q (Some ask))
    by_replies ih ask a None w = ap (asked d most rest q) (sym a.is) ∙ again
    by_replies ih ask a (Some replies) w =
        let later = replies-grow d laws most e p ask replies qr w in
        let x : Exchange = record { ask = ask; replies = replies } in
        let on = ih (after d p x) a.quiet later.quiet in
        let place : after d q x ≡ grow_front e (after d p x) =
        ap₂ (λ os ps. record { phase = (after d p x).phase; asking = os; answering = ps }) a.past_is later.past_is in
        ap (answered d rest q ask) later.is
        ∙ (ap (λ o. with_first x (rest o)) place
        ∙ (ap (with_first x) on
        ∙ ap (λ k. with_done (x ∷ (rest (after d p x)).done) (read d most k (grow_front e (rest (after d p x)).left))) (sym (minus_suc m (length (rest (after d p x)).done)))))

    by_ask : Later → (c : Option Ask) → ask_at d most p ≡ c → Read_on d most (suc m) e (asked d most rest p c) (asked d most rest q (ask_at d most q))
    by_ask ih None w = again
    by_ask ih (Some ask) w =
        let a = ask-grow d laws most e p ask qa w in
        ap (asked d most rest q) a.is ∙ by_replies ih ask a (replies_at d most p ask) refl

-- ---- histories

open-grow : (h e : History) (l : ℕ) → open_of (h ++ e) l ≡ grow e (open_of h l)
open-grow h e l = ap₂ (λ b c. record { link = l; bytes = b; is_ended = c }) (flat_map-append (λ x. piece_of l x.what) h e) (list_any-append (λ x. ends l x.what) h e)

opens-grow : (h e : History) (ls : List ℕ) → map (open_of (h ++ e)) ls ≡ map (grow e) (map (open_of h) ls)
opens-grow h e [] = refl
opens-grow h e (l ∷ ls) = ap₂ (λ x xs. x ∷ xs) (open-grow h e l) (opens-grow h e ls)

opens-quiet : (n : ℕ) (h e : History) (ls : List ℕ) → is_well_formed n (h ++ e) ≡ true → All_quiet e (map (open_of h) ls)
opens-quiet n h e [] w = tt
opens-quiet n h e (l ∷ ls) w = ((λ is. silent n l h e is (follows_well-append n [] h e w)), opens-quiet n h e ls w)

-- the machine reads what the definition reads
pub reading-append : (r : Rules) → Lawful r.grammar → (h e : History) → is_well_formed r.limits.copies (h ++ e) ≡ true
    → reading r (h ++ e) ≡ read_further r (reading r h) e
reading-append r laws h e w =
    let start : start_front r (h ++ e) ≡ grow_front e (start_front r h) =
    ap₂ (λ os ps. record { phase = r.grammar.first_phase; asking = os; answering = ps })
    (opens-grow h e (askers r.side r.limits.copies)) (opens-grow h e (answerers r.side r.limits.copies)) in
    ap (read r.grammar r.limits.mask r.limits.exchanges_max) start
    ∙ read-grow r.grammar laws r.limits.mask e r.limits.exchanges_max (start_front r h)
    (opens-quiet r.limits.copies h e (askers r.side r.limits.copies) w)
    (opens-quiet r.limits.copies h e (answerers r.side r.limits.copies) w)
