-- What each link is given.
use Rattle.std.specs.Prelude.{ℕ, suc, Bool, false, List, [], ◌∷◌, ◌++◌, length, drop, sum_by, Option, Some, None, if◌then◌else◌, ◌==◌, nat_le, nat_lt, unwrap_or, option_map, option_and_then, fold}
use Rattle.std.specs.List.{flat_map}
use Rattle.rd_base.specs.declared.values.MaskLimits.{MaskLimits}
use Rattle.rd_base.specs.declared.values.Side.{Side}
use Rattle.rd_base.specs.declared.values.Side.TheVariants.{Incoming, Outgoing}
use Rattle.rd_base.specs.Token.{Token}
use Rattle.rd_base.specs.History.{History, Row, shortest}
use Rattle.rd_base.specs.Words.{last_of_list}
use Rattle.rd_base.specs.OwnRows.{learn_row}
use Rattle.rd_base.specs.Verdicts.{verdict, mask_of, rows_at}
use Rattle.rd_dialect.specs.Due.{request_due, reply_due}
use Rattle.rd_rules.specs.Exchange.{Rules, Reading, reading, Exchange, Ask, note, first_bytes, token_lists, released}

-- the token lists of an exchange's replies; a farewell has none
abbrev pub reply_lists : Rules → Exchange → List (List Token)
reply_lists r x =
    if r.grammar.is_farewell (note r.grammar x.ask)
    then []
    else token_lists r.grammar (reply_due x.ask.phase (note r.grammar x.ask)) x.replies

-- the token lists of a request, one by each that asks
abbrev pub ask_lists : Rules → Ask → List (List Token)
ask_lists r ask = token_lists r.grammar (request_due ask.phase) ask.units

-- the masked places of agreed lists; one list has none
abbrev pub agreed_mask : MaskLimits → List (List Token) → List ℕ
agreed_mask most [] = []
agreed_mask most (a ∷ []) = []
agreed_mask most (a ∷ b ∷ []) = []
agreed_mask most (a ∷ b ∷ c ∷ more) = mask_of (verdict most (a ∷ b ∷ c ∷ more))

-- rows are learnt of replies to a client, where the dialect learns any
abbrev pub learns_on : Side → Bool → Bool
learns_on Incoming learns = learns
learns_on Outgoing learns = false

-- the rows of these agreed lists, where any are learnt
abbrev pub learnt_rows : Bool → MaskLimits → List (List Token) → List Row
learnt_rows learns most lists = if learns then rows_at lists (agreed_mask most lists) else []

-- the rows of an exchange's agreed replies
abbrev pub exchange_rows : Rules → Exchange → List Row
exchange_rows r x = learnt_rows (learns_on r.side r.grammar.learns_rows) r.limits.mask (reply_lists r x)

-- own rows, with further ones learnt in their order: the newest first, one per shown word, the first 256
abbrev pub learnt : List Row → List Row → List Row
learnt own rows = fold (learn_row 256) own rows

-- the own rows after further exchanges
abbrev pub own_after : Rules → List Row → List Exchange → List Row
own_after r own xs = learnt own (flat_map (exchange_rows r) xs)

-- a released request, with the own rows as they were before it
pub record Release : Type 0 where
  pub ask : Ask
  pub own : List Row

abbrev pub last_release : List Row → Option Ask → List Release
last_release own None = []
last_release own (Some ask) = record { ask = ask; own = own } ∷ []

-- the requests of these exchanges and the one that is out, in order
abbrev pub releases : Rules → List Row → List Exchange → Option Ask → List Release
releases r own [] out = last_release own out
releases r own (x ∷ xs) out = record { ask = x.ask; own = own } ∷ releases r (learnt own (exchange_rows r x)) xs out

-- how many requests are released
abbrev pub released_count : Rules → History → ℕ
released_count r h = length (released (reading r h))

-- the rows told to the step that released request j, counted from 1
abbrev pub told_rows : Rules → History → ℕ → List Row
told_rows r h j =
    unwrap_or (option_map (λ e. e.told) (option_and_then last_of_list (shortest (λ g. nat_le j (released_count r g)) h))) []

-- a request as an answering link is given it: incoming, each copy's own text; outgoing, the first caller's bytes
abbrev pub forwarded_on : Side → Rules → ℕ → List Row → Release → List ℕ
forwarded_on Incoming r l told rel =
    r.grammar.to_copy rel.ask.phase (note r.grammar rel.ask) l rel.own told (first_bytes rel.ask.units)
forwarded_on Outgoing r l told rel = first_bytes rel.ask.units

abbrev pub forwarded : Rules → ℕ → List Row → Release → List ℕ
forwarded r l told rel = forwarded_on r.side r l told rel

-- requests from number j on, joined
abbrev pub forwarded_from : Rules → ℕ → (ℕ → List Row) → ℕ → List Release → List ℕ
forwarded_from r l told j [] = []
forwarded_from r l told j (rel ∷ rels) = forwarded r l (told j) rel ++ forwarded_from r l told (suc j) rels

-- the replies of an exchange as those that asked are given them: incoming, the shown part of the first reply; outgoing, its bytes
abbrev pub handed_on : Side → Rules → Exchange → List ℕ
handed_on Incoming r x =
    drop (r.grammar.shown_from x.ask.phase (note r.grammar x.ask) (first_bytes x.replies)) (first_bytes x.replies)
handed_on Outgoing r x = first_bytes x.replies

abbrev pub handed_back : Rules → Exchange → List ℕ
handed_back r x = handed_on r.side r x

abbrev pub asks_on : Side → ℕ → ℕ → Bool
asks_on Incoming n l = l == n
asks_on Outgoing n l = nat_lt l n

abbrev pub is_asker : Rules → ℕ → Bool
is_asker r l = asks_on r.side r.limits.copies l

-- what link l is given of these exchanges, and of these requests, the first of which has number j
abbrev pub given_of : Rules → ℕ → (ℕ → List Row) → List Exchange → ℕ → List Release → List ℕ
given_of r l told done j rels =
    if is_asker r l then flat_map (handed_back r) done else forwarded_from r l told j rels

-- all that link l is given by this history
abbrev pub given : Rules → ℕ → History → List ℕ
given r l h = given_of r l (told_rows r h) (reading r h).done 1 (releases r [] (reading r h).done (reading r h).out)

-- how many exchanges are agreed: incoming those that are done; outgoing the call that is out too
abbrev pub agreed_on : Side → Reading → ℕ
agreed_on Incoming now = length now.done
agreed_on Outgoing now = length (released now)

-- how many places are masked in the replies of an exchange, and in a request
abbrev pub replies_masked : Rules → Exchange → ℕ
replies_masked r x = length (agreed_mask r.limits.mask (reply_lists r x))

abbrev pub ask_masked : Rules → Ask → ℕ
ask_masked r ask = length (agreed_mask r.limits.mask (ask_lists r ask))

-- how many places are masked in agreed exchanges: incoming of replies, outgoing of calls
abbrev pub masked_on : Side → Rules → Reading → ℕ
masked_on Incoming r now = sum_by (replies_masked r) now.done
masked_on Outgoing r now = sum_by (ask_masked r) (released now)
