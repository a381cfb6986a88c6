-- Units and fronts of units that are the same bytes.
use Rattle.std.specs.Prelude.{ℕ, ◌≡◌, ◌&&◌, Bool, true, List, [], length, take, nat_le, bytes_eq, Option, MatchOption}
use Rattle.std.specs.List.{list_all}
use Rattle.rd_base.specs.Token.{Token}
use Rattle.rd_base.specs.declared.values.MaskLimits.{MaskLimits}
use Rattle.rd_base.specs.declared.values.Scan.{Scan}
use Rattle.rd_base.specs.declared.values.Scan.TheVariants.{Whole, More, Bad, TooBig, Unsupported}
use Rattle.rd_dialect.specs.declared.due.Due.{Due}
use Rattle.rd_dialect.specs.Grammar.{Grammar}
use Rattle.rd_dialect.specs.Due.{IsDue}
use Rattle.rd_rules.specs.Exchange.{Open, LinkUnit, agree, scan_open}
use Rattle.rd_rules.specs.Given.{agreed_mask, learnt_rows}

-- lists that agree whatever is masked at most, without a mask and without rows
pub record AreBare (most : MaskLimits) (lists : List (List Token)) : Type 0 where
  pub agree : agree most lists ≡ true
  pub mask : agreed_mask most lists ≡ []
  pub rows : (learns : Bool) → learnt_rows learns most lists ≡ []

-- these lists were cut, or are those of equal units
abbrev pub AreJudged : List (List Token) → Option (List (List Token)) → Type 0
AreJudged lists copies = MatchOption copies ((most : MaskLimits) → AreBare most lists) (λ cut. cut ≡ lists)

-- each of these units has these bytes
abbrev pub are_units : List ℕ → List LinkUnit → Bool
are_units bytes units = list_all (λ u. bytes_eq u.bytes bytes) units

-- what is there of a due unit is the front of these bytes, and all of them where it is whole
abbrev pub in_front : Bool → List ℕ → Scan → List ℕ → Bool
in_front whole top (Whole len) bytes = whole && bytes_eq (take len bytes) top
in_front whole top More bytes = nat_le (length bytes) (length top) && bytes_eq bytes (take (length bytes) top)
in_front whole top Bad bytes = true
in_front whole top TooBig bytes = true
in_front whole top (Unsupported code) bytes = true

abbrev pub all_in_front : Grammar → Due → Bool → List ℕ → List Open → Bool
all_in_front g due whole top opens = list_all (λ o. in_front whole top (scan_open g due o) o.bytes) opens

-- all that is there of the due units is the front of one, or of a part of one
pub record HaveFronts (g : Grammar) (due : Due) (opens : List Open) : Type 0 where
  pub whole : Bool
  pub top : List ℕ
  pub stands : IsDue g due top whole
  pub each : all_in_front g due whole top opens ≡ true
