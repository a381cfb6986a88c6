-- What the token lists of copies say together. Places count from 0; copies 0 and 1 are the identical pair.
use Rattle.std.specs.Prelude.{ℕ, zero, suc, nat_lt, not, ◌&&◌, ◌||◌, Bool, true, false, if◌then◌else◌, max, List, [], ◌∷◌, ◌++◌, length, map, filter, Option, Some, None, slice_get}
use Rattle.std.specs.List.{position, list_any, list_all}
use Rattle.std.specs.Str.{bytes_eq}
use Rattle.rd_base.specs.Token.{Token}
use Rattle.rd_base.specs.Swap.{is_row_word}
use Rattle.rd_base.specs.declared.values.MaskLimits.{MaskLimits}
use Rattle.rd_base.specs.declared.values.TokenKind.{TokenKind}
use Rattle.rd_base.specs.declared.values.TokenKind.TheVariants.{Soft, Firm, Name}
use Rattle.rd_base.specs.declared.verdict.Verdict.{Verdict}
use Rattle.rd_base.specs.declared.verdict.Verdict.TheVariants.{Agreed, Disagree, Noise}

abbrev pub same_kind : TokenKind → TokenKind → Bool
same_kind Soft Soft = true
same_kind Soft Firm = false
same_kind Soft Name = false
same_kind Firm Soft = false
same_kind Firm Firm = true
same_kind Firm Name = false
same_kind Name Soft = false
same_kind Name Firm = false
same_kind Name Name = true

-- equal in kind and bytes
abbrev pub same_token : Token → Token → Bool
same_token a b = same_kind a.kind b.kind && bytes_eq a.text b.text

-- no token in either place, or equal tokens
abbrev pub same : Option Token → Option Token → Bool
same (Some a) (Some b) = same_token a b
same (Some a) None = false
same None (Some b) = false
same None None = true

abbrev pub is_soft : Option Token → Bool
is_soft (Some a) = same_kind a.kind Soft
is_soft None = false

-- longer than a masked token may be
abbrev pub is_long : ℕ → Option Token → Bool
is_long most (Some a) = nat_lt most (length a.text)
is_long most None = false

-- one of the two has a token and the other has none
abbrev pub one_alone : Option Token → Option Token → Bool
one_alone (Some a) (Some b) = false
one_alone (Some a) None = true
one_alone None (Some b) = true
one_alone None None = false

abbrev pub in_list : Option (List Token) → ℕ → Option Token
in_list None place = None
in_list (Some tokens) place = slice_get tokens place

-- the token of a copy at a place
abbrev pub token_at : List (List Token) → ℕ → ℕ → Option Token
token_at lists copy place = in_list (slice_get lists copy) place

-- masked: both of the pair have a Soft token there and the two differ
abbrev pub is_masked : List (List Token) → ℕ → Bool
is_masked lists place =
    is_soft (token_at lists 0 place) && is_soft (token_at lists 1 place) && not (same (token_at lists 0 place) (token_at lists 1 place))

-- the masked places below this one, rising
abbrev pub masked_below : List (List Token) → ℕ → List ℕ
masked_below lists zero = []
masked_below lists (suc place) = masked_below lists place ++ (if is_masked lists place then place ∷ [] else [])

-- the least copy that passes a test disagrees
abbrev pub least_disagrees : ℕ → Option ℕ → Option Verdict
least_disagrees place (Some copy) = Some (Disagree copy place)
least_disagrees place None = None

abbrev pub or_fault : Option Verdict → Option Verdict → Option Verdict
or_fault (Some v) next = Some v
or_fault None next = next

-- at a masked place: too many places up to and with it are masked, or a token is too long to be; else some token isn't Soft
abbrev pub masked_fault : MaskLimits → List (List Token) → ℕ → Option Verdict
masked_fault most lists place =
    if nat_lt most.places (length (masked_below lists (suc place))) || list_any (λ tokens. is_long most.bytes (slice_get tokens place)) lists
    then Some (Noise place)
    else least_disagrees place (position (λ tokens. not (is_soft (slice_get tokens place))) lists)

-- at another place: the pair differs; else some copy differs from copy 0
abbrev pub plain_fault : List (List Token) → ℕ → Option Verdict
plain_fault lists place =
    if same (token_at lists 0 place) (token_at lists 1 place)
    then least_disagrees place (position (λ tokens. not (same (slice_get tokens place) (token_at lists 0 place))) lists)
    else Some (Disagree 1 place)

-- the first fault that applies at a place, if there is one
abbrev pub fault : MaskLimits → List (List Token) → ℕ → Option Verdict
fault most lists place =
    or_fault
    (least_disagrees place (position (λ tokens. one_alone (slice_get tokens place) (token_at lists 0 place)) lists))
    (if is_masked lists place then masked_fault most lists place else plain_fault lists place)

abbrev pub fault_or : Option Verdict → Verdict → Verdict
fault_or (Some v) rest = v
fault_or None rest = rest

-- the fault at the least of so many places from here on; else Agreed with the masked places
abbrev pub verdict_from : MaskLimits → List (List Token) → ℕ → ℕ → Verdict
verdict_from most lists place zero = Agreed (masked_below lists place)
verdict_from most lists place (suc count) = fault_or (fault most lists place) (verdict_from most lists (suc place) count)

-- the number of tokens of the longest list
abbrev pub longest : List (List Token) → ℕ
longest [] = 0
longest (tokens ∷ lists) = max (length tokens) (longest lists)

-- the fault at the least place that has one; else Agreed with the masked places
abbrev pub verdict : MaskLimits → List (List Token) → Verdict
verdict most lists = verdict_from most lists 0 (longest lists)

abbrev pub is_agreed : Verdict → Bool
is_agreed (Agreed mask) = true
is_agreed (Disagree copy place) = false
is_agreed (Noise place) = false

-- the masked places of an agreed verdict
abbrev pub mask_of : Verdict → List ℕ
mask_of (Agreed mask) = mask
mask_of (Disagree copy place) = []
mask_of (Noise place) = []

abbrev pub text_or_none : Option Token → List ℕ
text_or_none (Some t) = t.text
text_or_none None = []

-- the copies' texts at a place
abbrev pub texts_at : List (List Token) → ℕ → List (List ℕ)
texts_at lists place = map (λ tokens. text_or_none (slice_get tokens place)) lists

-- the rows of these masked places: the texts there, where all are words of 16 to 128 bytes
abbrev pub rows_at : List (List Token) → List ℕ → List (List (List ℕ))
rows_at lists mask = filter (list_all is_row_word) (map (texts_at lists) mask)
