-- One link more.
use Rattle.std.proofs.Common.{◌≡◌, ℕ, zero, suc, ◌+◌, ◌<◌, List, [], ◌∷◌, ◌++◌, map, Option, Some, None, All, false, refl, sym, ap, ◌∙◌, subst, add-one, arith, length, take, get_or}
use Rattle.std.proofs.lemmas.List.{map-append, take_more}
use Rattle.std.proofs.lemmas.List.Elements.{All-append}
use Rattle.std.proofs.Math.Seq.{take-length}
use Rattle.rd_base.specs.Words.{below}
use Rattle.rd_base.specs.Outside.{Mark, SinkTold}
use Rattle.rd_base.specs.Sources.{SourceTold}
use Rattle.rd_doors.specs.Visits.{AreFresh, is_unasked, is_empty}
use Rattle.rd_serve_rows.specs.declared.links.WaitingSource.{WaitingSource}
use Rattle.rd_serve_rows.specs.declared.links.CountingSink.{CountingSink}
use Rattle.rd_serve_rows.specs.Marked.{source_told, sink_told, AreSources, AreSinks}

IsNone : {A : Type 0} → Option A → Type 0
IsNone None = Unit {0}
IsNone (Some a) = ⊥

none_some : {A : Type 0} (a : A) → None ≡ Some a → ⊥
unfolding IsNone
none_some a is = subst IsNone is tt

all_one : {A : Type 0} (P : A → Type 0) (x : A) → P x → All P (x ∷ [])
all_one P x holds zero d less = holds
all_one P x holds (suc k) d less = absurd (omega arith)

all_told : {A B : Type 0} (P : B → Type 0) (f : A → B) → ((x : A) → P (f x)) → (xs : List A) → All P (map f xs)
all_told P f each [] k d less = absurd (omega arith)
all_told P f each (x ∷ xs) zero d less = each x
all_told P f each (x ∷ xs) (suc k) d less = all_told P f each xs k d (omega arith)

marks_more : {A B : Type 0} (mark : B → Mark) (f : A → B) (number link : ℕ) (xs : List A) (x : A)
    → map mark (map f xs) ≡ map (λ l. record { first = number; second = l }) (below link) → mark (f x) ≡ record { first = number; second = link }
    → map mark (map f (xs ++ x ∷ [])) ≡ map (λ l. record { first = number; second = l }) (below (link + 1))
marks_more mark f number link xs x had one =
    ap (map mark) (map-append f xs (x ∷ []))
    ∙ map-append mark (map f xs) (f x ∷ [])
    ∙ ap (λ front. front ++ mark (f x) ∷ []) had
    ∙ ap (λ m. map (λ l. record { first = number; second = l }) (below link) ++ m ∷ []) one
    ∙ sym (map-append (λ (l : ℕ). record { first = number; second = l }) (below link) (link ∷ []))
    ∙ ap (λ n. map (λ (l : ℕ). record { first = number; second = l }) (below n)) (sym (add-one link))

pub sources_more : {R : Type 0} (number link : ℕ) (xs : List (WaitingSource R)) (x : WaitingSource R) → link < length xs → x ≡ get_or xs link x
    → AreSources number link (take link xs) → x.first ≡ number → x.second ≡ link → AreSources number (link + 1) (take (link + 1) xs)
sources_more {R} number link xs x within at had first second =
    subst (λ (ys : List (WaitingSource R)). AreSources number (link + 1) ys)
    (sym (take_more xs link x within ∙ ap (λ (y : WaitingSource R). take link xs ++ y ∷ []) (sym at)))
    (marks_more (λ (s : SourceTold). s.mark) source_told number link (take link xs) x had (rw (first, second) refl))

pub sinks_more : (number link : ℕ) (xs : List CountingSink) (x : CountingSink) → link < length xs → x ≡ get_or xs link x
    → AreSinks number link (take link xs) → x.first ≡ number → x.second ≡ link → x.is_closed ≡ false → AreSinks number (link + 1) (take (link + 1) xs)
sinks_more number link xs x within at had first second is_open =
    subst (λ (ys : List CountingSink). AreSinks number (link + 1) ys)
    (sym (take_more xs link x within ∙ ap (λ (y : CountingSink). take link xs ++ y ∷ []) (sym at)))
    (record {
      marks = marks_more (λ (s : SinkTold). s.mark) sink_told number link (take link xs) x had.marks (rw (first, second) refl);
      open_sinks = subst (All (λ (k : SinkTold). k.is_closed ≡ false)) (sym (map-append sink_told (take link xs) (x ∷ [])))
          (All-append (λ (k : SinkTold). k.is_closed ≡ false) (map sink_told (take link xs)) (sink_told x ∷ []) had.open_sinks
          (all_one (λ (k : SinkTold). k.is_closed ≡ false) (sink_told x) is_open));
    })

pub sources_all : {R : Type 0} (number link : ℕ) (xs : List (WaitingSource R)) → link ≡ length xs → AreSources number link (take link xs) → AreSources number (length xs) xs
sources_all {R} number link xs is had = subst (λ (ys : List (WaitingSource R)). AreSources number (length xs) ys) (take-length xs) (subst (λ n. AreSources number n (take n xs)) is had)

pub sinks_all : (number link : ℕ) (xs : List CountingSink) → link ≡ length xs → AreSinks number link (take link xs) → AreSinks number (length xs) xs
sinks_all number link xs is had = subst (λ (ys : List CountingSink). AreSinks number (length xs) ys) (take-length xs) (subst (λ n. AreSinks number n (take n xs)) is had)

pub no_sources : {R : Type 0} (number : ℕ) (xs : List (WaitingSource R)) → AreSources number 0 (take 0 xs)
no_sources number xs = refl

pub no_sinks : (number : ℕ) (xs : List CountingSink) → AreSinks number 0 (take 0 xs)
no_sinks number xs = record { marks = refl; open_sinks = λ k d less. absurd (omega arith) }

pub are_fresh : {R : Type 0} (copies number : ℕ) (ss : List (WaitingSource R)) (ks : List CountingSink) → length ss ≡ copies + 1 → length ks ≡ copies + 1
    → AreSources number (length ss) ss → AreSinks number (length ks) ks
    → AreFresh copies (record { number = number; sources = map source_told ss; sinks = map sink_told ks })
are_fresh {R} copies number ss ks sources sinks marked holes = record {
  source_marks = subst (λ n. AreSources number n ss) (sources ∙ add-one copies) marked;
  sink_marks = (subst (λ n. AreSinks number n ks) (sinks ∙ add-one copies) holes).marks;
  unasked = all_told is_unasked source_told (λ s given is. absurd (none_some given is)) ss;
  empty = all_told is_empty sink_told (λ k held is. absurd (none_some held is)) ks;
  open_sinks = holes.open_sinks;
}
