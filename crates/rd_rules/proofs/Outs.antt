-- The request that is out, and how much of it is open.
use Rattle.std.proofs.Common.{◌≡◌, ℕ, zero, suc, ◌+◌, ◌-◌, ◌≤◌, Bool, true, false, cond, List, [], ◌∷◌, ◌++◌, length, map, drop, Option, Some, None, refl, sym, ap, subst, ◌∙◌, arith, length-append}
use Rattle.std.specs.Prelude.{option_map, unwrap_or}
use Rattle.std.specs.List.{All}
use Rattle.std.proofs.lemmas.List.{length-drop, length-take}
use Rattle.std.proofs.lemmas.List.Elements.{All-nil, All-cons, All-head, All-tail}
use Rattle.rd_base.specs.declared.values.MaskLimits.{MaskLimits}
use Rattle.rd_base.specs.declared.values.Phase.{Phase}
use Rattle.rd_base.specs.declared.values.What.{What}
use Rattle.rd_base.specs.declared.values.Scan.{Scan}
use Rattle.rd_base.specs.declared.values.Scan.TheVariants.{Whole, More, Bad, TooBig, Unsupported}
use Rattle.rd_base.specs.History.{piece_of}
use Rattle.rd_dialect.specs.Grammar.{Grammar}
use Rattle.rd_dialect.specs.Laws.{Lawful}
use Rattle.rd_dialect.specs.Due.{request_due}
use Rattle.rd_dialect.specs.declared.due.Due.{Due}
use Rattle.rd_rules.specs.Exchange.{Open, LinkUnit, Ask, Front, read, asked, answered, ask_at, agreed_ask, replies_at, after, past, units, unit_by, each_unit, scan_open, others, first_len, agree, token_lists}
use Rattle.rd_rules.specs.Step.{grow_by, grow_front_by}
use Rattle.rd_rules.proofs.Grows.{Longer_all, ask-longer}

-- so many bytes are open at most
abbrev pub IsShort : ℕ → Open → Type 0
IsShort most o = length o.bytes ≤ most

abbrev pub IsShortUnit : ℕ → LinkUnit → Type 0
IsShortUnit most u = length u.bytes ≤ most

-- ---- what is out is asked by what is left

pub out_at : (g : Grammar) (most : MaskLimits) (n : ℕ) (p : Front) (ask : Ask) → (read g most n p).out ≡ Some ask → ask_at g most (read g most n p).left ≡ Some ask
out_at g most zero p ask e = absurd (cc e)
out_at g most (suc n) p ask e = by_ask (out_at g most n) (ask_at g most p) refl e
  where
    Later : Type 0
    Later = (q : Front) (a : Ask) → (read g most n q).out ≡ Some a → ask_at g most (read g most n q).left ≡ Some a

    by_replies : Later → (a : Ask) → ask_at g most p ≡ Some a → (c : Option (List LinkUnit)) → (answered g (λ q. read g most n q) p a c).out ≡ Some ask
        → ask_at g most (answered g (λ q. read g most n q) p a c).left ≡ Some ask
    by_replies ih a is None q = is ∙ q
    by_replies ih a is (Some replies) q = ih (after g p (record { ask = a; replies = replies })) ask q

    by_ask : Later → (c : Option Ask) → ask_at g most p ≡ c → (asked g most (λ q. read g most n q) p c).out ≡ Some ask
        → ask_at g most (asked g most (λ q. read g most n q) p c).left ≡ Some ask
    by_ask ih None is q = absurd (cc q)
    by_ask ih (Some a) is q = by_replies ih a is (replies_at g most p a) q

-- ---- how much is open

pub short_past : (most : ℕ) (os : List Open) (us : List LinkUnit) → All (IsShort most) os → All (IsShort most) (past os us)
short_past most [] us all = All-nil (IsShort most)
short_past most (o ∷ os) us all =
    let here = All-head (IsShort most) o os all in
    All-cons (IsShort most) (record o { bytes = drop (first_len us) o.bytes }) (past os (others us))
    (rw (length-drop (first_len us) o.bytes) (omega (arith, here)))
    (short_past most os (others us) (All-tail (IsShort most) o os all))

pub short_left : (g : Grammar) (limits : MaskLimits) (most : ℕ) (n : ℕ) (p : Front) → All (IsShort most) p.asking → All (IsShort most) (read g limits n p).left.asking
short_left g limits most zero p all = all
short_left g limits most (suc n) p all = by_ask (short_left g limits most n) (ask_at g limits p)
  where
    Later : Type 0
    Later = (q : Front) → All (IsShort most) q.asking → All (IsShort most) (read g limits n q).left.asking

    by_replies : Later → (a : Ask) (c : Option (List LinkUnit)) → All (IsShort most) (answered g (λ q. read g limits n q) p a c).left.asking
    by_replies ih a None = all
    by_replies ih a (Some replies) = ih (after g p (record { ask = a; replies = replies })) (short_past most p.asking a.units all)

    by_ask : Later → (c : Option Ask) → All (IsShort most) (asked g limits (λ q. read g limits n q) p c).left.asking
    by_ask ih None = all
    by_ask ih (Some a) = by_replies ih a (replies_at g limits p a)

-- units that open bytes begin with are as short as these
short_unit : (most : ℕ) (o : Open) (s : Scan) (u : LinkUnit) → IsShort most o → unit_by o s ≡ Some u → IsShortUnit most u
short_unit most o (Whole len) u short is =
    subst (IsShortUnit most) (ap (λ m. unwrap_or m u) is) (rw (length-take len o.bytes) (omega (arith, short)))
short_unit most o More u short is = absurd (cc is)
short_unit most o Bad u short is = absurd (cc is)
short_unit most o TooBig u short is = absurd (cc is)
short_unit most o (Unsupported code) u short is = absurd (cc is)

short_units : (g : Grammar) (due : Due) (most : ℕ) (os : List Open) (us : List LinkUnit) → All (IsShort most) os → units g due os ≡ Some us → All (IsShortUnit most) us
short_units g due most [] us all is = subst (All (IsShortUnit most)) (ap (λ m. unwrap_or m us) is) (All-nil (IsShortUnit most))
short_units g due most (o ∷ os) us all is =
    go (λ vs e. short_units g due most os vs (All-tail (IsShort most) o os all) e) (unit_by o (scan_open g due o)) refl is
  where
    Tail : Type 0
    Tail = (vs : List LinkUnit) → units g due os ≡ Some vs → All (IsShortUnit most) vs

    more : Tail → (u : LinkUnit) → unit_by o (scan_open g due o) ≡ Some u → (c : Option (List LinkUnit)) → units g due os ≡ c → option_map (λ vs. u ∷ vs) c ≡ Some us → All (IsShortUnit most) us
    more ih u e None w q = absurd (cc q)
    more ih u e (Some vs) w q =
        subst (All (IsShortUnit most)) (ap (λ m. unwrap_or m us) q)
        (All-cons (IsShortUnit most) u vs (short_unit most o (scan_open g due o) u (All-head (IsShort most) o os all) e) (ih vs w))

    go : Tail → (c : Option LinkUnit) → unit_by o (scan_open g due o) ≡ c → each_unit (c ∷ map (λ o. unit_by o (scan_open g due o)) os) ≡ Some us → All (IsShortUnit most) us
    go ih None e q = absurd (cc q)
    go ih (Some u) e q = more ih u e (units g due os) refl q

pub short_ask : (g : Grammar) (limits : MaskLimits) (most : ℕ) (p : Front) (ask : Ask) → All (IsShort most) p.asking → ask_at g limits p ≡ Some ask → All (IsShortUnit most) ask.units
short_ask g limits most p ask all is = by (units g (request_due p.phase) p.asking) refl is
  where
    agreed : (us : List LinkUnit) → All (IsShortUnit most) us → (b : Bool) → cond b (Some (record { phase = p.phase; units = us })) None ≡ Some ask → All (IsShortUnit most) ask.units
    agreed us short true q = subst (λ (a : Ask). All (IsShortUnit most) a.units) (ap (λ m. unwrap_or m ask) q) short
    agreed us short false q = absurd (cc q)

    by : (c : Option (List LinkUnit)) → units g (request_due p.phase) p.asking ≡ c → agreed_ask g limits p.phase c ≡ Some ask → All (IsShortUnit most) ask.units
    by None e q = absurd (cc q)
    by (Some us) e q = agreed us (short_units g (request_due p.phase) most p.asking us all e) (agree limits (token_lists g (request_due p.phase) us)) q

-- ---- one happening further

abbrev clear : Open → Open
clear o = record o { is_ended = false }

clear_units : (g : Grammar) (phase : Phase) (os : List Open) → units g (request_due phase) (map clear os) ≡ units g (request_due phase) os
clear_units g phase [] = refl
clear_units g phase (o ∷ os) = go (unit_by o (scan_open g (request_due phase) o)) (clear_units g phase os)
  where
    go : (c : Option LinkUnit) → units g (request_due phase) (map clear os) ≡ units g (request_due phase) os
        → each_unit (c ∷ map (λ o. unit_by o (scan_open g (request_due phase) o)) (map clear os)) ≡ each_unit (c ∷ map (λ o. unit_by o (scan_open g (request_due phase) o)) os)
    go None ih = refl
    go (Some u) ih = ap (option_map (λ us. u ∷ us)) ih

-- a front whose askers haven't ended; a request doesn't look at that
abbrev clear_front : Front → Front
clear_front p = record { phase = p.phase; asking = map clear p.asking; answering = [] }

clear_ask : (g : Grammar) (limits : MaskLimits) (p : Front) → ask_at g limits (clear_front p) ≡ ask_at g limits p
clear_ask g limits p = ap (agreed_ask g limits p.phase) (clear_units g p.phase p.asking)

grown_clear : (w : What) (os : List Open) → Longer_all (map clear os) (map clear (map (grow_by w) os))
grown_clear w [] = tt
grown_clear w (o ∷ os) = (record { link = refl; more = piece_of o.link w; bytes = refl; over = λ e. absurd (cc e) }, grown_clear w os)

-- the request that is asked stays so
pub ask_grows : (g : Grammar) → Lawful g → (limits : MaskLimits) (w : What) (p : Front) (ask : Ask) → ask_at g limits p ≡ Some ask → ask_at g limits (grow_front_by w p) ≡ Some ask
ask_grows g laws limits w p ask is =
    sym (clear_ask g limits (grow_front_by w p))
    ∙ (ask-longer g laws limits (clear_front p) (clear_front (grow_front_by w p)) ask (record { phase = refl; asking = grown_clear w p.asking; answering = tt }) (clear_ask g limits p ∙ is)).0

pub short_grown : (most size : ℕ) (w : What) (os : List Open) → ((l : ℕ) → length (piece_of l w) ≤ size) → All (IsShort most) os → All (IsShort (most + size)) (map (grow_by w) os)
short_grown most size w [] piece all = All-nil (IsShort (most + size))
short_grown most size w (o ∷ os) piece all =
    let here = All-head (IsShort most) o os all in
    All-cons (IsShort (most + size)) (grow_by w o) (map (grow_by w) os)
    (rw (length-append o.bytes (piece_of o.link w)) (omega (arith, here, piece o.link)))
    (short_grown most size w os piece (All-tail (IsShort most) o os all))

-- behind the units of a request, a happening brings no more than its piece
short_behind : (most size : ℕ) (w : What) (os : List Open) (us : List LinkUnit) → ((l : ℕ) → length (piece_of l w) ≤ size) → All (IsShort most) (past os us) → All (IsShort (most + size)) (past (map (grow_by w) os) us)
short_behind most size w [] us piece all = All-nil (IsShort (most + size))
short_behind most size w (o ∷ os) us piece all =
    let n = first_len us in
    let here = All-head (IsShort most) (record o { bytes = drop n o.bytes }) (past os (others us)) all in
    let fits : length o.bytes - n ≤ most = rw (← length-drop n o.bytes) here in
    All-cons (IsShort (most + size)) (record (grow_by w o) { bytes = drop n (o.bytes ++ piece_of o.link w) }) (past (map (grow_by w) os) (others us))
    (rw (length-drop n (o.bytes ++ piece_of o.link w), length-append o.bytes (piece_of o.link w)) (omega (arith, fits, piece o.link)))
    (short_behind most size w os (others us) piece (All-tail (IsShort most) (record o { bytes = drop n o.bytes }) (past os (others us)) all))

-- what is open with the units of a request is what is open behind them, and they
pub short_with : (most long : ℕ) (os : List Open) (us : List LinkUnit) → All (IsShort most) (past os us) → All (IsShortUnit long) us → All (IsShort (most + long)) os
short_with most long [] us all short = All-nil (IsShort (most + long))
short_with most long (o ∷ os) [] all short =
    let here = All-head (IsShort most) (record o { bytes = o.bytes }) (past os []) all in
    All-cons (IsShort (most + long)) o os (omega (arith, here)) (short_with most long os [] (All-tail (IsShort most) (record o { bytes = o.bytes }) (past os []) all) short)
short_with most long (o ∷ os) (u ∷ us) all short =
    let here = All-head (IsShort most) (record o { bytes = drop (length u.bytes) o.bytes }) (past os us) all in
    let fits : length o.bytes - length u.bytes ≤ most = rw (← length-drop (length u.bytes) o.bytes) here in
    let unit = All-head (IsShortUnit long) u us short in
    All-cons (IsShort (most + long)) o os (omega (arith, fits, unit))
    (short_with most long os us (All-tail (IsShort most) (record o { bytes = drop (length u.bytes) o.bytes }) (past os us) all) (All-tail (IsShortUnit long) u us short))

-- the units of a request that is out, after a step from where nothing was out
pub short_out : (g : Grammar) (limits : MaskLimits) (most : ℕ) (n : ℕ) (p : Front) (ask : Ask) → All (IsShort most) p.asking → (read g limits n p).out ≡ Some ask → All (IsShortUnit most) ask.units
short_out g limits most n p ask all is = short_ask g limits most (read g limits n p).left ask (short_left g limits most n p all) (out_at g limits n p ask is)

-- and from where this one was
pub short_out_after : (g : Grammar) → Lawful g → (limits : MaskLimits) (most size : ℕ) (w : What) (n : ℕ) (p : Front) (before ask : Ask) → ((l : ℕ) → length (piece_of l w) ≤ size)
    → ask_at g limits p ≡ Some before → All (IsShort most) (past p.asking before.units) → All (IsShortUnit (most + size)) before.units
    → (read g limits n (grow_front_by w p)).out ≡ Some ask → All (IsShortUnit (most + size)) ask.units
short_out_after g laws limits most size w zero p before ask piece is behind short e = absurd (cc e)
short_out_after g laws limits most size w (suc n) p before ask piece is behind short e =
    by (replies_at g limits q before) (sym (ap (λ c. (asked g limits (λ x. read g limits n x) q c).out) (ask_grows g laws limits w p before is)) ∙ e)
  where
    q : Front
    q = grow_front_by w p

    by : (c : Option (List LinkUnit)) → (answered g (λ x. read g limits n x) q before c).out ≡ Some ask → All (IsShortUnit (most + size)) ask.units
    by None o = subst (λ (a : Ask). All (IsShortUnit (most + size)) a.units) (ap (λ m. unwrap_or m ask) o) short
    by (Some replies) o =
        short_out g limits (most + size) n (after g q (record { ask = before; replies = replies })) ask (short_behind most size w p.asking before.units piece behind) o
