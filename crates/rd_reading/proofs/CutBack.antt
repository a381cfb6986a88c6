-- Links that are cut back to what they were.
use Rattle.std.proofs.Common.{◌≡◌, ℕ, zero, suc, ◌+◌, ◌<◌, List, [], ◌∷◌, ◌++◌, length, take, drop, map, set, get_or, refl, sym, ap, ap₂, ◌∙◌, arith}
use Rattle.std.proofs.lemmas.List.{take_more, take_more_set, take-set, take-append-drop, drop_more, drop-set, drop-set-lt, map-append}
use Rattle.rd_base.specs.declared.values.What.{What}
use Rattle.rd_base.specs.History.{piece_of}
use Rattle.rd_rules.specs.Exchange.{Open, Front}
use Rattle.rd_rules.specs.Step.{grow_by, grow_front_by}
use Rattle.rd_reading.specs.declared.growth.Extent.{Extent}
use Rattle.rd_reading.specs.Extents.{extent_of, cut_back, all_cut_back}

front_of : {A : Type 0} (xs ys : List A) → take (length xs) (xs ++ ys) ≡ xs
front_of [] ys = refl
front_of (x ∷ xs) ys = ap (λ zs. x ∷ zs) (front_of xs ys)

all_of : {A : Type 0} (xs : List A) → take (length xs) xs ≡ xs
all_of [] = refl
all_of (x ∷ xs) = ap (λ zs. x ∷ zs) (all_of xs)

-- ---- what was heard is forgotten

grown_back : (w : What) (o : Open) → cut_back (extent_of o) (grow_by w o) ≡ o
grown_back w o = ap (λ bs. record { link = o.link; bytes = bs; is_ended = o.is_ended }) (front_of o.bytes (piece_of o.link w))

same_back : (o : Open) → cut_back (extent_of o) o ≡ o
same_back o = ap (λ bs. record { link = o.link; bytes = bs; is_ended = o.is_ended }) (all_of o.bytes)

-- of some links
pub some_back : (w : What) (k : ℕ) (os : List Open) → all_cut_back (map extent_of os) (map (grow_by w) (take k os) ++ drop k os) ≡ os
some_back w k [] = none k
  where
    none : (k : ℕ) → all_cut_back [] (map (grow_by w) (take k []) ++ drop k []) ≡ []
    none zero = refl
    none (suc k) = refl
some_back w zero (o ∷ os) = ap₂ (λ x xs. x ∷ xs) (same_back o) (some_back w zero os)
some_back w (suc k) (o ∷ os) = ap₂ (λ x xs. x ∷ xs) (grown_back w o) (some_back w k os)

-- of all
pub all_back : (w : What) (os : List Open) → all_cut_back (map extent_of os) (map (grow_by w) os) ≡ os
all_back w [] = refl
all_back w (o ∷ os) = ap₂ (λ x xs. x ∷ xs) (grown_back w o) (all_back w os)

-- ---- one link more is cut back

pub cut_more : (es : List Extent) (os : List Open) (e : Extent) (o : Open) → length es ≡ length os
    → all_cut_back (es ++ e ∷ []) (os ++ o ∷ []) ≡ all_cut_back es os ++ cut_back e o ∷ []
cut_more [] [] e o same = refl
cut_more [] (p ∷ os) e o same = cc
cut_more (d ∷ es) [] e o same = cc
cut_more (d ∷ es) (p ∷ os) e o same = ap (λ xs. cut_back d p ∷ xs) (cut_more es os e o (omega (arith, same)))

pub length-cut : (es : List Extent) (os : List Open) → length es ≡ length os → length (all_cut_back es os) ≡ length os
length-cut [] os same = refl
length-cut (e ∷ es) [] same = refl
length-cut (e ∷ es) (o ∷ os) same = ap suc (length-cut es os (omega (arith, same)))

-- ---- one element more is written

same_drop : {X : Type 0} (xs olds : List X) (i : ℕ) (d : X) → i < length xs → length xs ≡ length olds → drop i xs ≡ drop i olds
    → get_or xs i d ∷ drop (i + 1) xs ≡ get_or olds i d ∷ drop (i + 1) olds
same_drop xs olds i d lt size same = sym (drop_more xs i d lt) ∙ same ∙ drop_more olds i d (omega (arith, lt, size))

pub same_at : {X : Type 0} (xs olds : List X) (i : ℕ) (d : X) → i < length xs → length xs ≡ length olds → drop i xs ≡ drop i olds → get_or xs i d ≡ get_or olds i d
same_at xs olds i d lt size same = ap (λ zs. get_or zs 0 d) (same_drop xs olds i d lt size same)

pub same_behind : {X : Type 0} (xs olds : List X) (i : ℕ) (y : X) → i < length xs → length xs ≡ length olds → drop i xs ≡ drop i olds → drop (i + 1) (set xs i y) ≡ drop (i + 1) olds
same_behind xs olds i y lt size same = drop-set-lt (i + 1) xs i y (omega arith) ∙ ap (drop 1) (same_drop xs olds i y lt size same)

pub written : {X : Type 0} (xs done : List X) (i : ℕ) (y : X) → i < length xs → take i xs ≡ done → take (i + 1) (set xs i y) ≡ done ++ y ∷ []
written xs done i y lt is = take_more_set xs i y lt ∙ ap (λ zs. zs ++ y ∷ []) is

pub mapped_more : {X Y : Type 0} (f : X → Y) (xs : List X) (i : ℕ) (d : X) → i < length xs → map f (take (i + 1) xs) ≡ map f (take i xs) ++ f (get_or xs i d) ∷ []
mapped_more f xs i d lt = ap (map f) (take_more xs i d lt) ∙ map-append f (take i xs) (get_or xs i d ∷ [])

-- a link that isn't heard, behind some that were
pub failed_back : (w : What) (xs olds : List Open) (i : ℕ) (y : Open) → i < length xs → take i xs ≡ map (grow_by w) (take i olds) → drop i xs ≡ drop i olds
    → y ≡ get_or xs i y → all_cut_back (map extent_of olds) (set xs i y) ≡ olds
failed_back w xs olds i y lt grown rest is =
    let behind : y ∷ drop (i + 1) xs ≡ drop i olds = ap (λ z. z ∷ drop (i + 1) xs) is ∙ sym (drop_more xs i y lt) ∙ rest in
    ap (all_cut_back (map extent_of olds))
    (sym (take-append-drop i (set xs i y)) ∙ ap₂ (λ a b. a ++ b) (take-set xs i y ∙ grown) (drop-set xs i y lt ∙ behind))
    ∙ some_back w i olds

-- ---- a front that is cut back to what it was

pub front_back : (w : What) (old grown new : Front) (asked answered : List Extent) → grown ≡ grow_front_by w old
    → asked ≡ map extent_of old.asking → answered ≡ map extent_of old.answering
    → new.phase ≡ grown.phase → new.asking ≡ all_cut_back asked grown.asking → new.answering ≡ all_cut_back answered grown.answering → new ≡ old
front_back w old grown new asked answered is asks answers phase asking answering =
    let p : new.phase ≡ old.phase = phase ∙ ap (λ (f : Front). f.phase) is in
    let a : new.asking ≡ old.asking = asking ∙ ap₂ all_cut_back asks (ap (λ (f : Front). f.asking) is) ∙ all_back w old.asking in
    let b : new.answering ≡ old.answering = answering ∙ ap₂ all_cut_back answers (ap (λ (f : Front). f.answering) is) ∙ all_back w old.answering in
    ap₂ (λ q xs. record { phase = q; asking = xs; answering = new.answering }) p a ∙ ap (λ ys. record { phase = old.phase; asking = old.asking; answering = ys }) b
