-- What is read of a history is read of each that goes on from it.
use Rattle.std.specs.Prelude.{ℕ, zero, suc, ◌≡◌, ◌≤◌, Bool, true, false, cond, List, [], ◌∷◌, ◌++◌, length, take, drop, map, Option, Some, None, option_map, unwrap_or}
use Rattle.rd_rules.specs.Exchange.{LinkUnit}
use Rattle.rd_rules.specs.Exchange.{Open}
use Rattle.rd_dialect.specs.Due.{request_due, reply_due}
use Rattle.rd_dialect.specs.declared.due.Due.{Due}
use Rattle.rd_base.specs.declared.values.Scan.TheVariants.{Whole, More, Bad, TooBig, Unsupported}
use Rattle.rd_base.specs.declared.values.Scan.{Scan}
use Rattle.rd_base.specs.declared.values.MaskLimits.{MaskLimits}
use Rattle.std.proofs.Common.{refl, sym, ap, subst, ◌∙◌, append-nil, length-take-le}
use Rattle.std.proofs.lemmas.List.{take-append-le, drop-append-le}
use Rattle.rd_dialect.specs.Grammar.{Grammar}
use Rattle.rd_dialect.specs.Laws.{Lawful}
use Rattle.rd_rules.specs.Exchange.{Ask, Exchange, Front, Reading, unit_by, each_unit, units, scan_open, past, agreed_ask, ask_at, agreed_replies, replies_at, empty_unit, after, note, read, asked, answered, nothing_out, with_first, released}

-- ys begins with xs
abbrev pub IsPrefixOf : {A : Type 0} → List A → List A → Type 0
IsPrefixOf {A} xs ys = (rest : List A) × (xs ++ rest ≡ ys)

-- the link has more bytes, and none where it had ended
pub record Longer (o p : Open) : Type 0 where
  pub link : p.link ≡ o.link
  pub more : List ℕ
  pub bytes : p.bytes ≡ o.bytes ++ more
  pub over : o.is_ended ≡ true → (more ≡ []) × (p.is_ended ≡ true)

abbrev pub Longer_all : List Open → List Open → Type 0
Longer_all [] [] = Unit {0}
Longer_all [] (p ∷ ps) = ⊥
Longer_all (o ∷ os) [] = ⊥
Longer_all (o ∷ os) (p ∷ ps) = Longer o p × Longer_all os ps

scan-longer : (d : Grammar) → Lawful d → (s : Due) (o p : Open) (len : ℕ) → Longer o p
    → scan_open d s o ≡ Whole len → scan_open d s p ≡ Whole len
scan-longer d laws s o p len g whole = go o.is_ended refl
  where
    go : (e : Bool) → o.is_ended ≡ e → scan_open d s p ≡ Whole len
    go true e =
        let b : p.bytes ≡ o.bytes = g.bytes ∙ (ap (λ m. o.bytes ++ m) (g.over e).0 ∙ append-nil o.bytes) in
        rw (b, (g.over e).1, ← e) whole
    go false e = rw g.bytes (laws.stays s.part s.phase s.note o.bytes g.more p.is_ended len (rw e at whole))

unit-longer : (d : Grammar) → Lawful d → (s : Due) (o p : Open) (u : LinkUnit) → Longer o p
    → unit_by o (scan_open d s o) ≡ Some u
    → (unit_by p (scan_open d s p) ≡ Some u) × Longer (record o { bytes = drop (length u.bytes) o.bytes }) (record p { bytes = drop (length u.bytes) p.bytes })
unit-longer d laws s o p u g is = go (scan_open d s o) refl is
  where
    go : (c : Scan) → scan_open d s o ≡ c → unit_by o c ≡ Some u
        → (unit_by p (scan_open d s p) ≡ Some u) × Longer (record o { bytes = drop (length u.bytes) o.bytes }) (record p { bytes = drop (length u.bytes) p.bytes })
    go (Whole len) e q =
        let cut : LinkUnit = record { link = o.link; bytes = take len o.bytes } in
        let same : cut ≡ u = ap (λ m. unwrap_or m u) q in
        let fits : len ≤ length o.bytes = laws.within s.part s.phase s.note o.bytes o.is_ended len e in
        let n : length u.bytes ≡ len = ap (λ v. length v.bytes) (sym same) ∙ length-take-le len o.bytes fits in
        let again : unit_by p (scan_open d s p) ≡ Some u =
        ap (unit_by p) (scan-longer d laws s o p len g e)
        ∙ (ap (λ b. Some (record { link = p.link; bytes = b })) (ap (take len) g.bytes ∙ take-append-le len o.bytes g.more fits)
        ∙ (ap (λ l. Some (record { link = l; bytes = take len o.bytes })) g.link ∙ q)) in (
          again,
          record {
            link = g.link;
            more = g.more;
            bytes = rw n (ap (drop len) g.bytes ∙ drop-append-le len o.bytes g.more fits);
            over = g.over;
          },
        )
    go More e q = absurd (cc q)
    go Bad e q = absurd (cc q)
    go TooBig e q = absurd (cc q)
    go (Unsupported code) e q = absurd (cc q)

-- the units that all begin with, they begin with later, and what is open past them is longer in the same way
units-longer : (d : Grammar) → Lawful d → (s : Due) (os ps : List Open) (us : List LinkUnit) → Longer_all os ps
    → units d s os ≡ Some us → (units d s ps ≡ Some us) × Longer_all (past os us) (past ps us)
units-longer d laws s [] [] us g is = (is, tt)
units-longer d laws s [] (p ∷ ps) us g is = absurd g
units-longer d laws s (o ∷ os) [] us g is = absurd g
units-longer d laws s (o ∷ os) (p ∷ ps) us g is = go (λ vs e. units-longer d laws s os ps vs g.1 e) (unit_by o (scan_open d s o)) refl is
  where
    Goal : Type 0
    Goal = (units d s (p ∷ ps) ≡ Some us) × Longer_all (past (o ∷ os) us) (past (p ∷ ps) us)

    Tail : Type 0
    Tail = (vs : List LinkUnit) → units d s os ≡ Some vs → (units d s ps ≡ Some vs) × Longer_all (past os vs) (past ps vs)

    both : (u : LinkUnit) → unit_by o (scan_open d s o) ≡ Some u → (vs : List LinkUnit)
        → (units d s ps ≡ Some vs) × Longer_all (past os vs) (past ps vs) → (u ∷ vs) ≡ us → Goal
    both u e vs tail same =
        let head = unit-longer d laws s o p u g.0 e in (
          ap (λ c. each_unit (c ∷ map (λ o. unit_by o (scan_open d s o)) ps)) head.0
              ∙ (ap (option_map (λ us. u ∷ us)) tail.0 ∙ ap Some same),
          subst (λ ws. Longer_all (past (o ∷ os) ws) (past (p ∷ ps) ws)) same (head.1, tail.1),
        )

    more : Tail → (u : LinkUnit) → unit_by o (scan_open d s o) ≡ Some u → (c : Option (List LinkUnit)) → units d s os ≡ c
        → option_map (λ us. u ∷ us) c ≡ Some us → Goal
    more ih u e None e' q = absurd (cc q)
    more ih u e (Some vs) e' q = both u e vs (ih vs e') (ap (λ m. unwrap_or m us) q)

    go : Tail → (c : Option LinkUnit) → unit_by o (scan_open d s o) ≡ c → each_unit (c ∷ map (λ o. unit_by o (scan_open d s o)) os) ≡ Some us → Goal
    go ih None e q = absurd (cc q)
    go ih (Some u) e q = more ih u e (units d s os) refl q

-- ---- places

pub if-some : {A : Type 0} (b : Bool) (x y : A) → cond b (Some x) None ≡ Some y → x ≡ y
if-some true x y h = ap (λ m. unwrap_or m y) h
if-some false x y h = absurd (cc h)

empty-longer : (os ps : List Open) → Longer_all os ps → map empty_unit ps ≡ map empty_unit os
empty-longer [] [] g = refl
empty-longer [] (p ∷ ps) g = absurd g
empty-longer (o ∷ os) [] g = absurd g
empty-longer (o ∷ os) (p ∷ ps) g = rw (g.0.link, empty-longer os ps g.1)

past-empty : (os ps : List Open) → Longer_all os ps → Longer_all (past os (map empty_unit os)) (past ps (map empty_unit os))
past-empty [] [] g = tt
past-empty [] (p ∷ ps) g = absurd g
past-empty (o ∷ os) [] g = absurd g
past-empty (o ∷ os) (p ∷ ps) g = (g.0, past-empty os ps g.1)

pub record Longer_front (p q : Front) : Type 0 where
  pub phase : q.phase ≡ p.phase
  pub asking : Longer_all p.asking q.asking
  pub answering : Longer_all p.answering q.answering

pub ask-longer : (d : Grammar) → Lawful d → (most : MaskLimits) (p q : Front) (ask : Ask) → Longer_front p q
    → ask_at d most p ≡ Some ask → (ask_at d most q ≡ Some ask) × Longer_all (past p.asking ask.units) (past q.asking ask.units)
ask-longer d laws most p q ask g is = go (units d (request_due p.phase) p.asking) refl is
  where
    go : (c : Option (List LinkUnit)) → units d (request_due p.phase) p.asking ≡ c → agreed_ask d most p.phase c ≡ Some ask
        → (ask_at d most q ≡ Some ask) × Longer_all (past p.asking ask.units) (past q.asking ask.units)
    go None e a = absurd (cc a)
    go (Some us) e a =
        let same : us ≡ ask.units = ap (λ (m : Ask). m.units) (if-some _ (record { phase = p.phase; units = us }) ask a) in
        let later = units-longer d laws (request_due p.phase) p.asking q.asking us g.asking e in (
          ap (λ n. agreed_ask d most n (units d (request_due n) q.asking)) g.phase ∙ (ap (agreed_ask d most p.phase) later.0 ∙ a),
          subst (λ ws. Longer_all (past p.asking ws) (past q.asking ws)) same later.1,
        )

pub replies-longer : (d : Grammar) → Lawful d → (most : MaskLimits) (p q : Front) (ask : Ask) (replies : List LinkUnit) → Longer_front p q
    → replies_at d most p ask ≡ Some replies → (replies_at d most q ask ≡ Some replies) × Longer_all (past p.answering replies) (past q.answering replies)
replies-longer d laws most p q ask replies g is = by_note (d.is_farewell (note d ask)) refl
  where
    Goal : Type 0
    Goal = (replies_at d most q ask ≡ Some replies) × Longer_all (past p.answering replies) (past q.answering replies)

    s : Due
    s = reply_due ask.phase (note d ask)

    met : d.is_farewell (note d ask) ≡ false → (c : Option (List LinkUnit)) → units d s p.answering ≡ c → agreed_replies d most ask c ≡ Some replies → Goal
    met n None e a = absurd (cc a)
    met n (Some us) e a =
        let same : us ≡ replies = if-some _ us replies a in
        let later = units-longer d laws s p.answering q.answering us g.answering e in (
          rw n (ap (agreed_replies d most ask) later.0 ∙ a),
          subst (λ ws. Longer_all (past p.answering ws) (past q.answering ws)) same later.1,
        )

    by_note : (b : Bool) → d.is_farewell (note d ask) ≡ b → Goal
    by_note true n =
        let same : map empty_unit p.answering ≡ replies = ap (λ m. unwrap_or m replies) (rw n at is) in (
          rw n (ap Some (empty-longer p.answering q.answering g.answering ∙ same)),
          subst (λ ws. Longer_all (past p.answering ws) (past q.answering ws)) same (past-empty p.answering q.answering g.answering),
        )
    by_note false n = met n (units d s p.answering) refl (rw n at is)

pub after-longer : (d : Grammar) (p q : Front) (x : Exchange)
    → Longer_all (past p.asking x.ask.units) (past q.asking x.ask.units)
    → Longer_all (past p.answering x.replies) (past q.answering x.replies)
    → Longer_front (after d p x) (after d q x)
after-longer d p q x a b = record { phase = refl; asking = a; answering = b }

-- ---- what is read

prefix_nil : {A : Type 0} (xs : List A) → IsPrefixOf [] xs
prefix_nil xs = (xs, refl)

prefix_cons : {A : Type 0} (x : A) (xs ys : List A) → IsPrefixOf xs ys → IsPrefixOf (x ∷ xs) (x ∷ ys)
prefix_cons x xs ys h = (h.0, ap (λ zs. x ∷ zs) h.1)

pub record Grown (now later : Reading) : Type 0 where
  pub done : IsPrefixOf now.done later.done
  pub requests : IsPrefixOf (released now) (released later)

with_first-grown : (x : Exchange) (now later : Reading) → Grown now later → Grown (with_first x now) (with_first x later)
with_first-grown x now later g = record {
  done = prefix_cons x now.done later.done g.done;
  requests = prefix_cons x.ask (released now) (released later) g.requests;
}

-- a request that is out stays released
out-grown : (d : Grammar) (rest : Front → Reading) (p q : Front) (ask : Ask) (c : Option (List LinkUnit))
    → Grown (answered d rest p ask None) (answered d rest q ask c)
out-grown d rest p q ask None = record { done = prefix_nil []; requests = prefix_cons ask [] [] (prefix_nil []) }
out-grown d rest p q ask (Some replies) = record {
  done = prefix_nil (answered d rest q ask (Some replies)).done;
  requests = prefix_cons ask [] _ (prefix_nil _);
}

nothing-grown : (p : Front) (later : Reading) → Grown (nothing_out p) later
nothing-grown p later = record { done = prefix_nil later.done; requests = prefix_nil (released later) }

pub read-grown : (d : Grammar) → Lawful d → (most : MaskLimits) (m : ℕ) (p q : Front) → Longer_front p q
    → Grown (read d most m p) (read d most m q)
read-grown d laws most zero p q g = nothing-grown p (nothing_out q)
read-grown d laws most (suc m) p q g = by_ask (λ p q. read-grown d laws most m p q) (ask_at d most p) refl
  where
    rest : Front → Reading
    rest = λ o. read d most m o

    by_replies : ((p q : Front) → Longer_front p q → Grown (rest p) (rest q)) → (ask : Ask) → Longer_all (past p.asking ask.units) (past q.asking ask.units)
        → (c : Option (List LinkUnit)) → replies_at d most p ask ≡ c → Grown (answered d rest p ask c) (answered d rest q ask (replies_at d most q ask))
    by_replies ih ask a None e = out-grown d rest p q ask (replies_at d most q ask)
    by_replies ih ask a (Some replies) e =
        let later = replies-longer d laws most p q ask replies g e in
        let x : Exchange = record { ask = ask; replies = replies } in
        rw later.0 (with_first-grown x (rest (after d p x)) (rest (after d q x))
        (ih (after d p x) (after d q x) (after-longer d p q x a later.1)))

    by_ask : ((p q : Front) → Longer_front p q → Grown (rest p) (rest q)) → (c : Option Ask) → ask_at d most p ≡ c
        → Grown (asked d most rest p c) (asked d most rest q (ask_at d most q))
    by_ask ih None e = nothing-grown p (asked d most rest q (ask_at d most q))
    by_ask ih (Some ask) e =
        let later = ask-longer d laws most p q ask g e in
        rw later.0 (by_replies ih ask later.1 (replies_at d most p ask) refl)
