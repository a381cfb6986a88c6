-- Rows read as much of a row description as says anything of their values.
use Rattle.std.proofs.Common.{◌≡◌, ℕ, zero, suc, ◌+◌, ◌<◌, ◌≤◌, Bool, true, false, cond, eqb, ltb, leb, List, [], ◌∷◌, ◌++◌, length, take, drop, length-take, length-drop, Option, Some, None, refl, sym, ap, ◌∙◌, arith}
use Rattle.std.specs.Prelude.{slice_range, not, ◌||◌}
use Rattle.std.proofs.lemmas.Bool.{eqb-true, ltb-true}
use Rattle.std.proofs.lemmas.Bool.Decides.{nat_tests}
use Rattle.std.proofs.lemmas.List.{drop-take, take-take, drop_all}
use Rattle.std.proofs.Math.Nat.{min-le_left}
use Rattle.rd_base.specs.Token.{Token, token}
use Rattle.rd_base.specs.declared.names.NameRules.{NameRules}
use Rattle.rd_base.specs.declared.values.TokenKind.TheVariants.{Firm}
use Rattle.rd_pg_frame.specs.declared.message.Message.{Message}
use Rattle.rd_pg_frame.specs.Messages.{be_u16, be_u16_at, be_u32_at, message_at}
use Rattle.rd_pg_tokens.specs.declared.stage.Shown.{Shown}
use Rattle.rd_pg_tokens.specs.declared.stage.Shown.TheVariants.{AsSoft, AsFirm, Passed}
use Rattle.rd_pg_tokens.specs.Pieces.{text_len, has_text, text_of, column_len, shown_under, shown_null, is_soft, named_len, read_len}
use Rattle.rd_pg_tokens.specs.Walks.{shown_before, read_of}
use Rattle.rd_pg_tokens.specs.Tokens.{raw, authentication, parameter_status, ready_for_query, command_complete, row_description, column_names, shown_first, behind_first, value, values, data_row, fields}
use Rattle.rd_pg_tokens.specs.Units.{content_in, message_then, back_message, described_names, names_after, back_messages}

-- ---- names that say the same of each value

-- how the value in a column counts, where the columns have these names
abbrev pub shown_nth : NameRules → List (List ℕ) → ℕ → Shown
shown_nth rules [] i = AsSoft
shown_nth rules (name ∷ names) zero = shown_under rules name
shown_nth rules (name ∷ names) (suc i) = shown_nth rules names i

abbrev pub Alike : NameRules → List (List ℕ) → List (List ℕ) → Type 0
Alike rules ns ms = (i : ℕ) → shown_nth rules ns i ≡ shown_nth rules ms i

nth_zero : (rules : NameRules) (ns : List (List ℕ)) → shown_first rules ns ≡ shown_nth rules ns 0
nth_zero rules [] = refl
nth_zero rules (n ∷ ns) = refl

nth_suc : (rules : NameRules) (ns : List (List ℕ)) (i : ℕ) → shown_nth rules (behind_first ns) i ≡ shown_nth rules ns (suc i)
nth_suc rules [] i = refl
nth_suc rules (n ∷ ns) i = refl

first_alike : (rules : NameRules) (ns ms : List (List ℕ)) → Alike rules ns ms → shown_first rules ns ≡ shown_first rules ms
first_alike rules ns ms alike = nth_zero rules ns ∙ alike 0 ∙ sym (nth_zero rules ms)

behind_alike : (rules : NameRules) (ns ms : List (List ℕ)) → Alike rules ns ms → Alike rules (behind_first ns) (behind_first ms)
behind_alike rules ns ms alike = λ i. nth_suc rules ns i ∙ alike (suc i) ∙ sym (nth_suc rules ms i)

-- ---- they give the same tokens

value_same : (shown : Shown) (bytes : List ℕ) (p q : List ℕ → List Token) → ((b : List ℕ) → p b ≡ q b) → value shown bytes p ≡ value shown bytes q
value_same shown bytes p q same = by (ltb (length bytes) 4) (eqb len 4294967295) (leb 2147483648 len) (ltb (length bytes) (4 + len))
  where
    len : ℕ
    len = be_u32_at bytes 0

    all : Bool → Bool → Bool → Bool → (List ℕ → List Token) → List Token
    all t u v w rest =
        cond t (raw bytes) (cond u (shown_before (shown_null shown) (take 4 bytes) (rest (drop 4 bytes)))
        (cond v (raw bytes) (cond w (raw (drop 4 bytes)) (shown_before shown (slice_range bytes 4 (4 + len)) (rest (drop (4 + len) bytes))))))

    by : (t u v w : Bool) → all t u v w p ≡ all t u v w q
    by true u v w = refl
    by false true v w = ap (shown_before (shown_null shown) (take 4 bytes)) (same (drop 4 bytes))
    by false false true w = refl
    by false false false true = refl
    by false false false false = ap (shown_before shown (slice_range bytes 4 (4 + len))) (same (drop (4 + len) bytes))

values_alike : (n : ℕ) (rules : NameRules) (ns ms : List (List ℕ)) → Alike rules ns ms → (bytes : List ℕ) → values rules n ns bytes ≡ values rules n ms bytes
values_alike zero rules ns ms alike bytes = refl
values_alike (suc n) rules ns ms alike bytes =
    ap (λ s. value s bytes (values rules n (behind_first ns))) (first_alike rules ns ms alike)
    ∙ value_same (shown_first rules ms) bytes (values rules n (behind_first ns)) (values rules n (behind_first ms))
    (λ b. values_alike n rules (behind_first ns) (behind_first ms) (behind_alike rules ns ms alike) b)

row_alike : (rules : NameRules) (ns ms : List (List ℕ)) → Alike rules ns ms → (bytes : List ℕ) → data_row rules ns bytes ≡ data_row rules ms bytes
row_alike rules ns ms alike bytes =
    ap (λ (ts : List Token). cond (ltb (length bytes) 2) (raw bytes) (token Firm (take 2 bytes) ∷ ts)) (values_alike (be_u16_at bytes 0) rules ns ms alike (drop 2 bytes))

message_alike : (rules : NameRules) (ns ms : List (List ℕ)) → Alike rules ns ms → (bytes : List ℕ) (m : Message) → back_message rules ns bytes m ≡ back_message rules ms bytes m
message_alike rules ns ms alike bytes m =
    let here = content_in bytes m in
    let other : List Token → List Token = λ row.
    cond (eqb m.letter 82) (authentication here) (cond (eqb m.letter 83) (parameter_status rules here) (cond (eqb m.letter 90) (ready_for_query here) (cond (eqb m.letter 84) (row_description here)
    (cond (eqb m.letter 68) row (cond (eqb m.letter 67) (command_complete here) (cond (eqb m.letter 69 || eqb m.letter 78) (fields here) (raw here))))))) in
    ap (λ (row : List Token). cond (eqb m.letter 75) [] (token Firm (take 1 bytes) ∷ other row)) (row_alike rules ns ms alike here)

after_alike : (rules : NameRules) (ns ms : List (List ℕ)) → Alike rules ns ms → (bytes : List ℕ) (m : Message) → Alike rules (names_after ns bytes m) (names_after ms bytes m)
after_alike rules ns ms alike bytes m = by (eqb m.letter 84)
  where
    by : (t : Bool) → Alike rules (cond t (described_names (content_in bytes m)) ns) (cond t (described_names (content_in bytes m)) ms)
    by true = λ i. refl
    by false = alike

pub messages_alike : (n : ℕ) (rules : NameRules) (ns ms : List (List ℕ)) → Alike rules ns ms → (bytes : List ℕ) → back_messages n rules ns bytes ≡ back_messages n rules ms bytes
messages_alike zero rules ns ms alike bytes = refl
messages_alike (suc n) rules ns ms alike bytes = by (λ xs ys same rest. messages_alike n rules xs ys same rest) (message_at bytes 0)
  where
    by : ((xs ys : List (List ℕ)) → Alike rules xs ys → (rest : List ℕ) → back_messages n rules xs rest ≡ back_messages n rules ys rest)
        → (r : Option Message)
        → message_then r (λ m. back_message rules ns bytes m ++ back_messages n rules (names_after ns bytes m) (drop m.to bytes))
        ≡ message_then r (λ m. back_message rules ms bytes m ++ back_messages n rules (names_after ms bytes m) (drop m.to bytes))
    by ih None = refl
    by ih (Some m) =
        ap (λ ts. ts ++ back_messages n rules (names_after ns bytes m) (drop m.to bytes)) (message_alike rules ns ms alike bytes m)
        ∙ ap (λ ts. back_message rules ms bytes m ++ ts) (ih (names_after ns bytes m) (names_after ms bytes m) (after_alike rules ns ms alike bytes m) (drop m.to bytes))

-- ---- a description up to its last name under a rule

pub named_within : (rules : NameRules) (count : ℕ) (names : List ℕ) → named_len rules count names ≤ length names
named_within rules zero names = omega arith
named_within rules (suc count) names =
    by (has_text names) refl (eqb (named_len rules count (drop (column_len names) names)) 0) refl (is_soft (shown_under rules (text_of names)))
    (named_within rules count (drop (column_len names) names))
  where
    later : ℕ
    later = named_len rules count (drop (column_len names) names)

    by : (t : Bool) → has_text names ≡ t → (u : Bool) → eqb later 0 ≡ u → (v : Bool) → later ≤ length (drop (column_len names) names)
        → cond t (cond u (cond v 0 (text_len names + 1)) (text_len names + 19 + later)) 0 ≤ length names
    by false e u f v le = omega arith
    by true e true f true le = omega arith
    by true e true f false le = omega (arith, ltb-true (text_len names) (length names) e)
    by true e false f v le = let some : 0 < later = grind (arith, nat_tests, f) in omega (arith, some, le, length-drop (column_len names) names)

pub read_within : (rules : NameRules) (content : List ℕ) → read_len rules content ≤ length content
read_within rules content = by (ltb (length content) 2) refl
  where
    by : (t : Bool) → ltb (length content) 2 ≡ t → cond t 0 (2 + named_len rules (be_u16_at content 0) (drop 2 content)) ≤ length content
    by true e = omega arith
    by false e =
        let long : 2 ≤ length content = grind (arith, nat_tests, e) in
        omega (arith, long, named_within rules (be_u16_at content 0) (drop 2 content), length-drop 2 content)

pub none_named : (rules : NameRules) (count : ℕ) → named_len rules count [] ≡ 0
none_named rules zero = refl
none_named rules (suc count) = refl

no_names : (count : ℕ) → column_names count [] ≡ []
no_names zero = refl
no_names (suc count) = refl

-- a text that is there in so many bytes
text_there : (n : ℕ) (names : List ℕ) → text_len names < n → text_len (take n names) ≡ text_len names
text_there zero names lt = absurd (omega (arith, lt))
text_there (suc n) [] lt = refl
text_there (suc n) (x ∷ names) lt = by (eqb x 0) refl lt (λ lt. text_there n names lt)
  where
    by : (t : Bool) → eqb x 0 ≡ t → text_len (x ∷ names) < suc n → (text_len names < n → text_len (take n names) ≡ text_len names) → cond (not t) (1 + text_len (take n names)) 0 ≡ cond (not t) (1 + text_len names) 0
    by true e lt ih = refl
    by false e lt ih =
        let here : text_len (x ∷ names) ≡ 1 + text_len names = ap (λ t. cond (not t) (1 + text_len names) 0) e in
        ap (λ k. 1 + k) (ih (omega (arith, here, lt)))

-- the names of so many bytes, of which the first name is there and the others stand in the rest
cut_names : (count n : ℕ) (names rest : List ℕ) → has_text names ≡ true → text_len names < n → drop (column_len names) (take n names) ≡ rest
    → column_names (suc count) (take n names) ≡ text_of names ∷ column_names count rest
cut_names count n names rest has lt is =
    let len = text_there n names lt in
    let size = length-take n names in
    let some : has_text (take n names) ≡ true = grind (arith, nat_tests, len, size, lt, has) in
    let same : text_of (take n names) ≡ text_of names = ap (λ k. take k (take n names)) len ∙ take-take (text_len names) n names (omega (arith, lt)) in
    ap (λ t. cond t (text_of (take n names) ∷ column_names count (drop (column_len (take n names)) (take n names))) []) some
    ∙ ap (λ (t : List ℕ). t ∷ column_names count (drop (column_len (take n names)) (take n names))) same
    ∙ ap (λ (k : ℕ). text_of names ∷ column_names count (drop (k + 19) (take n names))) len
    ∙ ap (λ (r : List ℕ). text_of names ∷ column_names count r) is

soft_is : (s : Shown) → is_soft s ≡ true → AsSoft ≡ s
soft_is AsSoft e = refl
soft_is AsFirm e = absurd (cc e)
soft_is Passed e = absurd (cc e)

under_alike : (rules : NameRules) (name : List ℕ) (ns ms : List (List ℕ)) → Alike rules ns ms → Alike rules (name ∷ ns) (name ∷ ms)
under_alike rules name ns ms alike = by
  where
    by : (i : ℕ) → shown_nth rules (name ∷ ns) i ≡ shown_nth rules (name ∷ ms) i
    by zero = refl
    by (suc i) = alike i

none_alike : (rules : NameRules) (name : List ℕ) (ms : List (List ℕ)) → AsSoft ≡ shown_under rules name → Alike rules [] ms → Alike rules [] (name ∷ ms)
none_alike rules name ms soft alike = by
  where
    by : (i : ℕ) → AsSoft ≡ shown_nth rules (name ∷ ms) i
    by zero = soft
    by (suc i) = alike i

pub to_alike : (rules : NameRules) (ns ms all : List (List ℕ)) → ns ≡ ms → Alike rules ms all → Alike rules ns all
to_alike rules ns ms all same alike = λ i. ap (λ (l : List (List ℕ)). shown_nth rules l i) same ∙ alike i

named_alike : (rules : NameRules) (count : ℕ) (names : List ℕ) → Alike rules (column_names count (take (named_len rules count names) names)) (column_names count names)
named_alike rules zero names = λ i. refl
named_alike rules (suc count) names = by (has_text names) refl (eqb later 0) refl (is_soft (shown_under rules name)) refl (named_alike rules count rest)
  where
    rest : List ℕ
    rest = drop (column_len names) names

    later : ℕ
    later = named_len rules count rest

    name : List ℕ
    name = text_of names

    -- where no name behind it is under a rule
    last : eqb later 0 ≡ true → Alike rules (column_names count (take later rest)) (column_names count rest) → Alike rules [] (column_names count rest)
    last f ih = to_alike rules [] (column_names count (take later rest)) (column_names count rest) (sym (ap (λ k. column_names count (take k rest)) (eqb-true later 0 f) ∙ no_names count)) ih

    by : (t : Bool) → has_text names ≡ t → (u : Bool) → eqb later 0 ≡ u → (v : Bool) → is_soft (shown_under rules name) ≡ v
        → Alike rules (column_names count (take later rest)) (column_names count rest)
        → Alike rules (column_names (suc count) (take (cond t (cond u (cond v 0 (text_len names + 1)) (text_len names + 19 + later)) 0) names)) (cond t (name ∷ column_names count rest) [])
    by false e u f v g ih = λ i. refl
    by true e true f true g ih = none_alike rules name (column_names count rest) (soft_is (shown_under rules name) g) (last f ih)
    by true e true f false g ih =
        let n = text_len names + 1 in
        let gone = drop_all (column_len names) (take n names) (omega (arith, length-take n names, min-le_left n (length names))) in
        to_alike rules (column_names (suc count) (take n names)) (name ∷ column_names count []) (name ∷ column_names count rest) (cut_names count n names [] e (omega arith) gone)
        (under_alike rules name (column_names count []) (column_names count rest) (to_alike rules (column_names count []) [] (column_names count rest) (no_names count) (last f ih)))
    by true e false f v g ih =
        let n = text_len names + 19 + later in
        to_alike rules (column_names (suc count) (take n names)) (name ∷ column_names count (take later rest)) (name ∷ column_names count rest) (cut_names count n names (take later rest) e (omega arith) (drop-take (column_len names) later names))
        (under_alike rules name (column_names count (take later rest)) (column_names count rest) ih)

-- the names that rows read say of each value what all names say
pub read_alike : (rules : NameRules) (content : List ℕ) → Alike rules (described_names (read_of rules content)) (described_names content)
read_alike rules content = by (ltb (length content) 2) refl
  where
    count : ℕ
    count = be_u16_at content 0

    n : ℕ
    n = named_len rules count (drop 2 content)

    by : (t : Bool) → ltb (length content) 2 ≡ t → Alike rules (described_names (take (cond t 0 (2 + n)) content)) (cond t [] (column_names count (drop 2 content)))
    by true e = λ i. refl
    by false e =
        let long : 2 ≤ length content = grind (arith, nat_tests, e) in
        to_alike rules (described_names (take (2 + n) content)) (column_names count (take n (drop 2 content))) (column_names count (drop 2 content)) (read_names long) (named_alike rules count (drop 2 content))
      where
        count_stays : be_u16_at (take (2 + n) content) 0 ≡ be_u16_at content 0
        count_stays = ap be_u16 (take-take 2 (2 + n) content (omega arith))

        front : 2 ≤ length content → ltb (length (take (2 + n) content)) 2 ≡ false
        front long = grind (arith, nat_tests, length-take (2 + n) content, long)

        read_names : 2 ≤ length content → described_names (take (2 + n) content) ≡ column_names count (take n (drop 2 content))
        read_names long =
            ap (λ t. cond t [] (column_names (be_u16_at (take (2 + n) content) 0) (drop 2 (take (2 + n) content)))) (front long)
            ∙ ap (λ k. column_names k (drop 2 (take (2 + n) content))) count_stays
            ∙ ap (λ (r : List ℕ). column_names count r) (drop-take 2 n content)
