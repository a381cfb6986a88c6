-- A token found in a flat form is the trait's next token, and its cursor stands at the stage behind it.
use Rattle.std.proofs.Common.{◌≡◌, ℕ, ◌+◌, ◌-◌, ◌<◌, ◌≤◌, ◌⊎◌, inl, inr, Bool, true, false, List, ◌∷◌, ◌++◌, length, refl, sym, ap, ◌∙◌, arith}
use Rattle.std.specs.Prelude.{Option, Some, None, slice_range}
use Rattle.std.proofs.lemmas.Bool.{cases_lt}
use Rattle.rd_base.specs.Token.{Token, token}
use Rattle.rd_base.specs.History.{Row}
use Rattle.rd_base.specs.declared.names.NameRules.{NameRules}
use Rattle.rd_base.specs.declared.values.Cursor.{Cursor}
use Rattle.rd_base.specs.declared.values.TokenSpan.{TokenSpan}
use Rattle.rd_base.specs.declared.values.Part.{Part}
use Rattle.rd_base.specs.declared.values.Phase.{Phase}
use Rattle.rd_base.specs.declared.values.Note.{Note}
use Rattle.rd_dialect.specs.Grammar.{IsNext, Grows}
use Rattle.rd_body_tokens.specs.declared.place.BodyKind.{BodyKind}
use Rattle.rd_body_tokens.specs.declared.place.BodyKind.TheVariants.{Words, Json, Form, Raw}
use Rattle.rd_body_tokens.specs.declared.place.Place.{Place}
use Rattle.rd_body_tokens.specs.declared.place.Place.TheVariants.{Fresh, Running, Opened, Inside, Escaped, Block}
use Rattle.rd_http_scan.specs.Ends.{body_end}
use Rattle.rd_http_tokens.specs.declared.stage.Standing.{Standing}
use Rattle.rd_http_tokens.specs.declared.stage.Standing.TheVariants.{Plain, Fixed, Absent}
use Rattle.rd_http_tokens.specs.declared.stage.Stated.{Stated}
use Rattle.rd_http_tokens.specs.declared.stage.Stage.{Stage}
use Rattle.rd_http_tokens.specs.declared.stage.Stage.TheVariants.{AtStart, AtLine, AtValue, AtBody, AtTrailer, AtTrailerValue}
use Rattle.rd_http_tokens.specs.declared.step.Found.{Found}
use Rattle.rd_http_tokens.specs.HttpGrammar.{http, is_head, stage_of, cursor_of, stated_of, stated_number, kind_of_mark, kind_number, standing_of_mark, standing_number, stage_left, left_at}
use Rattle.rd_http_tokens.specs.HttpLawful.{ends_later}
use Rattle.rd_http_tokens.specs.Steps.{IsFoundIn, span_of}

-- ---- cursors

stated_back : (kind : Option BodyKind) (coded : Bool) → stated_of (stated_number (record { kind = kind; coded = coded })) ≡ record { kind = kind; coded = coded }
stated_back None false = refl
stated_back None true = refl
stated_back (Some Words) false = refl
stated_back (Some Words) true = refl
stated_back (Some Json) false = refl
stated_back (Some Json) true = refl
stated_back (Some Form) false = refl
stated_back (Some Form) true = refl
stated_back (Some Raw) false = refl
stated_back (Some Raw) true = refl

marked : (kind : BodyKind) (now : Standing) (place : Place) → AtBody (kind_of_mark (kind_number kind + standing_number now)) (standing_of_mark (kind_number kind + standing_number now)) place ≡ AtBody kind now place
marked Words Plain place = refl
marked Words Fixed place = refl
marked Words Absent place = refl
marked Json Plain place = refl
marked Json Fixed place = refl
marked Json Absent place = refl
marked Form Plain place = refl
marked Form Fixed place = refl
marked Form Absent place = refl
marked Raw Plain place = refl
marked Raw Fixed place = refl
marked Raw Absent place = refl

value_back : (now : Standing) (at count : ℕ) (stated : Stated) → stage_of (cursor_of at (AtValue now count stated)) ≡ AtValue now ((at + count) - at) (stated_of (stated_number stated))
value_back Plain at count stated = refl
value_back Fixed at count stated = refl
value_back Absent at count stated = refl

trailer_back : (now : Standing) (at count : ℕ) → stage_of (cursor_of at (AtTrailerValue now count)) ≡ AtTrailerValue now ((at + count) - at)
trailer_back Plain at count = refl
trailer_back Fixed at count = refl
trailer_back Absent at count = refl

body_back : (kind : BodyKind) (now : Standing) (place : Place) (at : ℕ)
    → stage_of (cursor_of at (AtBody kind now place)) ≡ AtBody (kind_of_mark (kind_number kind + standing_number now)) (standing_of_mark (kind_number kind + standing_number now)) place
body_back kind now Fresh at = refl
body_back kind now Running at = refl
body_back kind now Opened at = refl
body_back kind now Inside at = refl
body_back kind now Escaped at = refl
body_back kind now (Block count) at = refl

-- a stage's cursor stands at that stage
pub stage_of_cursor : (at : ℕ) (stage : Stage) → stage_of (cursor_of at stage) ≡ stage
stage_of_cursor at AtStart = refl
stage_of_cursor at (AtLine stated) = ap AtLine (stated_back stated.kind stated.coded)
stage_of_cursor at (AtValue now count stated) =
    let same : (at + count) - at ≡ count = omega arith in
    value_back now at count stated ∙ ap (λ n. AtValue now n (stated_of (stated_number stated))) same ∙ ap (AtValue now count) (stated_back stated.kind stated.coded)
stage_of_cursor at (AtBody kind now place) = body_back kind now place at ∙ marked kind now place
stage_of_cursor at AtTrailer = refl
stage_of_cursor at (AtTrailerValue now count) = let same : (at + count) - at ≡ count = omega arith in trailer_back now at count ∙ ap (AtTrailerValue now) same

-- ---- the trait's next token

-- the body of what a part becomes ends at or past all that the part has
grown_end : (names : NameRules) (learns : Bool) (asked : List ℕ → List (List ℕ)) (to_copy : ℕ → List Row → List ℕ → List ℕ) (part : Part) (phase : Phase) (note : Note) (flat more : List ℕ) (all : Bool)
    → Grows (http names learns asked to_copy) part phase note flat more all → length flat ≤ body_end all (flat ++ more)
grown_end names learns asked to_copy part phase note flat more all grows = by (cases_lt 0 (length flat))
  where
    by : (0 < length flat) ⊎ (length flat ≤ 0) → length flat ≤ body_end all (flat ++ more)
    by (inl some) =
        ends_later part (is_head note) grows.bytes grows.further flat more all some grows.before grows.after
    by (inr none) = omega (arith, none)

pub next_is : (names : NameRules) (learns : Bool) (asked : List ℕ → List (List ℕ)) (to_copy : ℕ → List Row → List ℕ → List ℕ) (part : Part) (phase : Phase) (note : Note) (flat : List ℕ) (whole : Bool) (cursor next : Cursor) (stage : Stage) (span : TokenSpan) (found : Found)
    → stage ≡ stage_of cursor → IsFoundIn names part whole flat cursor.at stage found → span ≡ span_of found → next ≡ cursor_of found.next found.stage
    → IsNext (http names learns asked to_copy) part phase note flat whole cursor span next
next_is names learns asked to_copy part phase note flat whole cursor next stage span found stage_is is s n =
    rw (s, n) (record {
      ordered = is.ordered;
      within = is.within;
      here = begins whole flat ∙ is.here ∙ goes whole flat;
      on = λ only more all grows. begins all (flat ++ more) ∙ is.on only more all (grown_end names learns asked to_copy part phase note flat more all grows) ∙ goes all (flat ++ more);
    })
  where
    t : Token
    t = token found.kind (slice_range flat found.start found.end)

    begins : (all : Bool) (bytes : List ℕ) → left_at names part all bytes cursor ≡ stage_left names part all bytes cursor.at stage
    begins all bytes = ap (λ (s : Stage). stage_left names part all bytes cursor.at s) (sym stage_is)

    goes : (all : Bool) (bytes : List ℕ) → t ∷ stage_left names part all bytes found.next found.stage ≡ t ∷ left_at names part all bytes (cursor_of found.next found.stage)
    goes all bytes = ap (λ (s : Stage). t ∷ stage_left names part all bytes found.next s) (sym (stage_of_cursor found.next found.stage))
