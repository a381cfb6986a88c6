-- A history cut into exchanges: the requests of those that ask, and the replies of those that answer.
use Rattle.std.specs.Prelude.{ℕ, zero, suc, Bool, true, List, [], ◌∷◌, ◌++◌, length, take, drop, map, Option, Some, None, if◌then◌else◌, option_map}
use Rattle.rd_base.specs.declared.values.Phase.{Phase}
use Rattle.rd_base.specs.declared.values.Note.{Note}
use Rattle.rd_base.specs.declared.values.Side.{Side}
use Rattle.rd_base.specs.declared.values.Side.TheVariants.{Incoming, Outgoing}
use Rattle.rd_base.specs.declared.values.Limits.{Limits}
use Rattle.rd_base.specs.declared.values.MaskLimits.{MaskLimits}
use Rattle.rd_base.specs.declared.values.Scan.{Scan}
use Rattle.rd_base.specs.declared.values.Scan.TheVariants.{Whole, More, Bad, TooBig, Unsupported}
use Rattle.rd_base.specs.Words.{below}
use Rattle.rd_base.specs.Token.{Token}
use Rattle.rd_base.specs.History.{History, stream, ended}
use Rattle.rd_base.specs.Verdicts.{verdict, is_agreed}
use Rattle.rd_dialect.specs.declared.due.Due.{Due}
use Rattle.rd_dialect.specs.Grammar.{Grammar}
use Rattle.rd_dialect.specs.Due.{request_due, reply_due, scan_due, tokens_due}

-- what a session is run by
pub record Rules : Type 0 where
  pub side : Side
  pub grammar : Grammar
  pub limits : Limits

-- the links that ask, and those that answer, of n copies
abbrev pub askers : Side → ℕ → List ℕ
askers Incoming n = n ∷ []
askers Outgoing n = below n

abbrev pub answerers : Side → ℕ → List ℕ
answerers Incoming n = below n
answerers Outgoing n = n ∷ []

-- a link's bytes from some place on, and whether the link has ended
pub record Open : Type 0 where
  pub link : ℕ
  pub bytes : List ℕ
  pub is_ended : Bool

-- a unit of a link
pub record LinkUnit : Type 0 where
  pub link : ℕ
  pub bytes : List ℕ

-- the requests of an exchange, one by each that asks
pub record Ask : Type 0 where
  pub phase : Phase
  pub units : List LinkUnit

pub record Exchange : Type 0 where
  pub ask : Ask
  pub replies : List LinkUnit

-- what is open before an exchange
pub record Front : Type 0 where
  pub phase : Phase
  pub asking : List Open
  pub answering : List Open

-- the exchanges that are done, what is open past them, and the request that is out
pub record Reading : Type 0 where
  pub done : List Exchange
  pub left : Front
  pub out : Option Ask

-- the unit that open bytes begin with, by their scan
abbrev pub unit_by : Open → Scan → Option LinkUnit
unit_by o (Whole len) = Some (record { link = o.link; bytes = take len o.bytes })
unit_by o More = None
unit_by o Bad = None
unit_by o TooBig = None
unit_by o (Unsupported code) = None

abbrev pub each_unit : List (Option LinkUnit) → Option (List LinkUnit)
each_unit [] = Some []
each_unit (None ∷ more) = None
each_unit (Some u ∷ more) = option_map (λ us. u ∷ us) (each_unit more)

abbrev pub scan_open : Grammar → Due → Open → Scan
scan_open g due o = scan_due g due o.bytes o.is_ended

-- the units that all of these begin with
abbrev pub units : Grammar → Due → List Open → Option (List LinkUnit)
units g due opens = each_unit (map (λ o. unit_by o (scan_open g due o)) opens)

-- the bytes of the first of these units
abbrev pub first_bytes : List LinkUnit → List ℕ
first_bytes [] = []
first_bytes (u ∷ us) = u.bytes

-- the note of the first request
abbrev pub note : Grammar → Ask → Note
note g ask = g.note_of ask.phase (first_bytes ask.units)

-- the units' tokens
abbrev pub token_lists : Grammar → Due → List LinkUnit → List (List Token)
token_lists g due us = map (λ u. tokens_due g due u.bytes true) us

-- one unit agrees with itself, and those of three or more copies agree by their verdict
abbrev pub agree : MaskLimits → List (List Token) → Bool
agree most [] = true
agree most (a ∷ []) = true
agree most (a ∷ b ∷ []) = true
agree most (a ∷ b ∷ c ∷ more) = is_agreed (verdict most (a ∷ b ∷ c ∷ more))

abbrev pub if_agreed : {A : Type 0} → MaskLimits → List (List Token) → A → Option A
if_agreed most lists a = if agree most lists then Some a else None

-- a request of these units, where they agree
abbrev pub agreed_ask : Grammar → MaskLimits → Phase → Option (List LinkUnit) → Option Ask
agreed_ask g most phase None = None
agreed_ask g most phase (Some us) = if_agreed most (token_lists g (request_due phase) us) (record { phase = phase; units = us })

-- the request that all make that ask, where they agree
abbrev pub ask_at : Grammar → MaskLimits → Front → Option Ask
ask_at g most p = agreed_ask g most p.phase (units g (request_due p.phase) p.asking)

abbrev pub agreed_replies : Grammar → MaskLimits → Ask → Option (List LinkUnit) → Option (List LinkUnit)
agreed_replies g most ask None = None
agreed_replies g most ask (Some us) = if_agreed most (token_lists g (reply_due ask.phase (note g ask)) us) us

abbrev pub empty_unit : Open → LinkUnit
empty_unit o = record { link = o.link; bytes = [] }

-- the replies to a request, where all are there and agree; a farewell has empty ones
abbrev pub replies_at : Grammar → MaskLimits → Front → Ask → Option (List LinkUnit)
replies_at g most p ask =
    if g.is_farewell (note g ask)
    then Some (map empty_unit p.answering)
    else agreed_replies g most ask (units g (reply_due ask.phase (note g ask)) p.answering)

abbrev pub first_len : List LinkUnit → ℕ
first_len [] = 0
first_len (u ∷ us) = length u.bytes

abbrev pub others : List LinkUnit → List LinkUnit
others [] = []
others (u ∷ us) = us

-- what is open past these units
abbrev pub past : List Open → List LinkUnit → List Open
past [] us = []
past (o ∷ os) us = record o { bytes = drop (first_len us) o.bytes } ∷ past os (others us)

-- what is open after an exchange; the phase is that after the first reply
abbrev pub after : Grammar → Front → Exchange → Front
after g p x = record {
  phase = g.phase_after x.ask.phase (note g x.ask) (first_bytes x.replies);
  asking = past p.asking x.ask.units;
  answering = past p.answering x.replies;
}

abbrev pub nothing_out : Front → Reading
nothing_out p = record { done = []; left = p; out = None }

abbrev pub with_first : Exchange → Reading → Reading
with_first x r = record r { done = x ∷ r.done }

-- a request that is out, with its replies where they are there; `rest` reads on
abbrev pub answered : Grammar → (Front → Reading) → Front → Ask → Option (List LinkUnit) → Reading
answered g rest p ask None = record { done = []; left = p; out = Some ask }
answered g rest p ask (Some replies) =
    let x : Exchange = record { ask = ask; replies = replies } in with_first x (rest (after g p x))

abbrev pub asked : Grammar → MaskLimits → (Front → Reading) → Front → Option Ask → Reading
asked g most rest p None = nothing_out p
asked g most rest p (Some ask) = answered g rest p ask (replies_at g most p ask)

-- at most so many exchanges from this front on
abbrev pub read : Grammar → MaskLimits → ℕ → Front → Reading
read g most zero p = nothing_out p
read g most (suc more) p = asked g most (λ q. read g most more q) p (ask_at g most p)

-- all that a link has given
abbrev pub open_of : History → ℕ → Open
open_of h l = record { link = l; bytes = stream l h; is_ended = ended l h }

abbrev pub start_front : Rules → History → Front
start_front r h = record {
  phase = r.grammar.first_phase;
  asking = map (open_of h) (askers r.side r.limits.copies);
  answering = map (open_of h) (answerers r.side r.limits.copies);
}

-- a whole history, read
abbrev pub reading : Rules → History → Reading
reading r h = read r.grammar r.limits.mask r.limits.exchanges_max (start_front r h)

-- the requests that were released, in order
abbrev pub out_list : Option Ask → List Ask
out_list None = []
out_list (Some ask) = ask ∷ []

abbrev pub released : Reading → List Ask
released r = map (λ x. x.ask) r.done ++ out_list r.out
