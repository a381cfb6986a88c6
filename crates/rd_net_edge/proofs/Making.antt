-- One link more.
use Rattle.std.proofs.Common.{◌≡◌, ℕ, zero, suc, ◌+◌, List, [], ◌∷◌, ◌++◌, map, Option, Some, None, All, false, sym, ap, ◌∙◌, subst, add-one, arith}
use Rattle.std.proofs.lemmas.List.{map-append}
use Rattle.std.proofs.lemmas.List.Elements.{All-append}
use Rattle.rd_base.specs.Words.{below}
use Rattle.rd_base.specs.Outside.{Mark}
use Rattle.rd_base.specs.Outside.{SinkTold}
use Rattle.rd_base.specs.Sources.{SourceTold}
use Rattle.rd_doors.specs.Visits.{AreFresh, is_unasked, is_empty}
use Rattle.rd_net_edge.specs.declared.links.TcpSource.{TcpSource}
use Rattle.rd_net_edge.specs.declared.links.TcpSink.{TcpSink}
use Rattle.rd_net_edge.specs.Made.{source_told, sink_told, AreMade}

IsNone : {A : Type 0} → Option A → Type 0
IsNone None = Unit {0}
IsNone (Some a) = ⊥

none_some : {A : Type 0} (a : A) → None ≡ Some a → ⊥
unfolding IsNone
none_some a is = subst IsNone is tt

all_one : {A : Type 0} (P : A → Type 0) (x : A) → P x → All P (x ∷ [])
all_one P x holds zero d less = holds
all_one P x holds (suc k) d less = absurd (omega arith)

all_more : {A B : Type 0} (P : B → Type 0) (f : A → B) (xs : List A) (x : A) → All P (map f xs) → P (f x) → All P (map f (xs ++ x ∷ []))
all_more P f xs x all one = subst (All P) (sym (map-append f xs (x ∷ []))) (All-append P (map f xs) (f x ∷ []) all (all_one P (f x) one))

marks_more : {A B : Type 0} (mark : B → Mark) (f : A → B) (number link : ℕ) (xs : List A) (x : A)
    → map mark (map f xs) ≡ map (λ l. record { first = number; second = l }) (below link) → mark (f x) ≡ record { first = number; second = link }
    → map mark (map f (xs ++ x ∷ [])) ≡ map (λ l. record { first = number; second = l }) (below (link + 1))
marks_more mark f number link xs x had one =
    ap (map mark) (map-append f xs (x ∷ []))
    ∙ map-append mark (map f xs) (f x ∷ [])
    ∙ ap (λ front. front ++ mark (f x) ∷ []) had
    ∙ ap (λ m. map (λ l. record { first = number; second = l }) (below link) ++ m ∷ []) one
    ∙ sym (map-append (λ (l : ℕ). record { first = number; second = l }) (below link) (link ∷ []))
    ∙ ap (λ n. map (λ (l : ℕ). record { first = number; second = l }) (below n)) (sym (add-one link))

abbrev mark_of : ℕ → ℕ → Mark
mark_of first second = record { first = first; second = second }

pub mark_is : (a b c d : ℕ) → a ≡ c → b ≡ d → record { first = a; second = b } ≡ mark_of c d
mark_is a b c d first second = ap (λ (x : ℕ). mark_of x b) first ∙ ap (λ (y : ℕ). mark_of c y) second

pub made_more : {R : Type 0} (number link : ℕ) (ss ss' : List TcpSource) (ks ks' : List (TcpSink R)) (s : TcpSource) (k : TcpSink R) → AreMade number link ss ks
    → ss' ≡ ss ++ s ∷ [] → ks' ≡ ks ++ k ∷ []
    → (source_told s).mark ≡ record { first = number; second = link } → (sink_told k).mark ≡ record { first = number; second = link } → k.is_closed ≡ false
    → AreMade number (link + 1) ss' ks'
made_more {R} number link ss ss' ks ks' s k made sources sinks source_mark sink_mark is_open = record {
  source_marks = subst (λ (xs : List TcpSource). map (λ (s : SourceTold). s.mark) (map source_told xs) ≡ map (λ l. record { first = number; second = l }) (below (link + 1))) (sym sources)
      (marks_more (λ (s : SourceTold). s.mark) source_told number link ss s made.source_marks source_mark);
  sink_marks = subst (λ (xs : List (TcpSink R)). map (λ (k : SinkTold). k.mark) (map sink_told xs) ≡ map (λ l. record { first = number; second = l }) (below (link + 1))) (sym sinks)
      (marks_more (λ (k : SinkTold). k.mark) sink_told number link ks k made.sink_marks sink_mark);
  unasked = subst (λ (xs : List TcpSource). All is_unasked (map source_told xs)) (sym sources) (all_more is_unasked source_told ss s made.unasked (λ given is. absurd (none_some given is)));
  empty = subst (λ (xs : List (TcpSink R)). All is_empty (map sink_told xs)) (sym sinks) (all_more is_empty sink_told ks k made.empty (λ held is. absurd (none_some held is)));
  open_sinks = subst (λ (xs : List (TcpSink R)). All (λ (k : SinkTold). k.is_closed ≡ false) (map sink_told xs)) (sym sinks) (all_more (λ (k : SinkTold). k.is_closed ≡ false) sink_told ks k made.open_sinks is_open);
}

pub fresh_made : {R : Type 0} (number link copies : ℕ) (ss : List TcpSource) (ks : List (TcpSink R)) → AreMade number link ss ks → link ≡ suc copies
    → AreFresh copies (record { number = number; sources = map source_told ss; sinks = map sink_told ks })
fresh_made {R} number link copies ss ks made is = record {
  source_marks = made.source_marks ∙ ap (λ n. map (λ (l : ℕ). record { first = number; second = l }) (below n)) is;
  sink_marks = made.sink_marks ∙ ap (λ n. map (λ (l : ℕ). record { first = number; second = l }) (below n)) is;
  unasked = made.unasked;
  empty = made.empty;
  open_sinks = made.open_sinks;
}
