-- What the copies' tokens at one place say together: a fault and a mask by the tokens alone.
use Rattle.std.specs.Prelude.{ℕ, zero, suc, ◌+◌, nat_le, not, ◌&&◌, ◌||◌, Bool, true, false, if◌then◌else◌, List, [], ◌∷◌, ◌++◌, map, drop, Option, Some, None, slice_get, slice_set}
use Rattle.std.specs.List.{position, list_any, list_all}
use Rattle.rd_base.specs.Words.{is_empty}
use Rattle.rd_base.specs.Swap.{is_row_word}
use Rattle.rd_base.specs.Token.{Token}
use Rattle.rd_base.specs.Verdicts.{same, is_soft, is_long, one_alone, least_disagrees, or_fault, text_or_none}
use Rattle.rd_base.specs.declared.values.MaskLimits.{MaskLimits}
use Rattle.rd_base.specs.declared.verdict.Verdict.{Verdict}
use Rattle.rd_base.specs.declared.verdict.Verdict.TheVariants.{Disagree, Noise}
use Rattle.rd_stream_verdict.specs.Kept.{CopyKept}
use Rattle.rd_stream_verdict.specs.declared.judging.Judged.{Judged}
use Rattle.rd_stream_verdict.specs.declared.judging.Judged.TheVariants.{Fault, Masked, Same}

-- a copy that must say more before the next place is judged
abbrev pub is_behind : CopyKept → Bool
is_behind copy = not copy.is_whole && is_empty copy.waiting

abbrev pub none_behind : List CopyKept → Bool
none_behind copies = list_all (λ copy. not (is_behind copy)) copies

-- this copy is behind, and no other one
abbrev pub only_behind : ℕ → List CopyKept → Bool
only_behind copy [] = false
only_behind zero (c ∷ copies) = is_behind c && none_behind copies
only_behind (suc copy) (c ∷ copies) = not (is_behind c) && only_behind copy copies

-- one token more was counted
abbrev pub counted : CopyKept → CopyKept
counted c = record { fed = c.fed + 1; waiting = c.waiting; is_whole = c.is_whole }

-- a token more waits
abbrev pub waits : Token → CopyKept → CopyKept
waits t c = record { fed = c.fed + 1; waiting = c.waiting ++ t ∷ []; is_whole = c.is_whole }

abbrev pub closed : CopyKept → CopyKept
closed c = record { fed = c.fed; waiting = c.waiting; is_whole = true }

-- the first token that waits was judged
abbrev pub passed : CopyKept → CopyKept
passed c = record { fed = c.fed; waiting = drop 1 c.waiting; is_whole = c.is_whole }

-- nothing more is judged
abbrev pub cleared : CopyKept → CopyKept
cleared c = record { fed = c.fed; waiting = []; is_whole = c.is_whole }

-- the copies' next tokens, where one of the copies has this one now
abbrev pub heads_with : ℕ → Option Token → List CopyKept → List (Option Token)
heads_with copy head copies = slice_set (map (λ c. slice_get c.waiting 0) copies) copy head

abbrev pub joined : Option (Option Token) → Option Token
joined (Some head) = head
joined None = None

abbrev pub head_at : List (Option Token) → ℕ → Option Token
head_at heads copy = joined (slice_get heads copy)

abbrev pub heads_masked : List (Option Token) → Bool
heads_masked heads =
    is_soft (head_at heads 0) && is_soft (head_at heads 1) && not (same (head_at heads 0) (head_at heads 1))

-- a copy has a token and copy 0 has none, or the other way round
abbrev pub heads_alone_fault : ℕ → List (Option Token) → Option Verdict
heads_alone_fault place heads = least_disagrees place (position (λ head. one_alone head (head_at heads 0)) heads)

-- at a masked place below which so many are masked
abbrev pub heads_masked_fault : MaskLimits → ℕ → ℕ → List (Option Token) → Option Verdict
heads_masked_fault most place masked heads =
    if nat_le most.places masked || list_any (is_long most.bytes) heads
    then Some (Noise place)
    else least_disagrees place (position (λ head. not (is_soft head)) heads)

abbrev pub heads_plain_fault : ℕ → List (Option Token) → Option Verdict
heads_plain_fault place heads =
    if same (head_at heads 0) (head_at heads 1)
    then least_disagrees place (position (λ head. not (same head (head_at heads 0))) heads)
    else Some (Disagree 1 place)

abbrev pub heads_fault : MaskLimits → ℕ → ℕ → List (Option Token) → Option Verdict
heads_fault most place masked heads =
    or_fault (heads_alone_fault place heads)
    (if heads_masked heads then heads_masked_fault most place masked heads else heads_plain_fault place heads)

-- the copies' texts, where all are words that a row may hold
abbrev pub heads_row : List (Option Token) → Option (List (List ℕ))
heads_row heads = if list_all is_row_word (map text_or_none heads) then Some (map text_or_none heads) else None

-- what a place comes to below which so many are masked
abbrev pub judged_by : Option Verdict → Bool → Option (List (List ℕ)) → Judged
judged_by (Some fault) masked row = Fault fault
judged_by None true row = Masked row
judged_by None false row = Same

abbrev pub heads_judged : MaskLimits → ℕ → ℕ → List (Option Token) → Judged
heads_judged most place masked heads = judged_by (heads_fault most place masked heads) (heads_masked heads) (heads_row heads)
