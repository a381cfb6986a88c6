-- The links of a visit: how many they are, that they are open, and that a run leaves their marks.
use Rattle.std.proofs.Common.{◌≡◌, ℕ, zero, suc, ◌+◌, ◌<◌, ◌≤◌, ◌⊎◌, inl, inr, false, List, [], ◌∷◌, ◌++◌, length, map, Option, Some, None, refl, sym, ap, ap₂, ◌∙◌, arith, length-append}
use Rattle.std.proofs.lemmas.List.{length-map}
use Rattle.std.proofs.lemmas.List.Elements.{All-get_or}
use Rattle.std.proofs.lemmas.Bool.{cases_lt}
use Rattle.std.specs.List.{All}
use Rattle.rd_base.specs.Words.{below}
use Rattle.rd_base.specs.Outside.{Mark, SinkTold}
use Rattle.rd_base.specs.Sources.{SourceTold}
use Rattle.rd_base.specs.History.{History}
use Rattle.rd_base.specs.declared.values.Link.{Link}
use Rattle.rd_rules.specs.Exchange.{Rules}
use Rattle.rd_gate.specs.declared.gate.View.{View}
use Rattle.rd_gate.specs.declared.item.Item.{Item}
use Rattle.rd_doors.specs.Visits.{marks_of}
use Rattle.rd_turn.specs.Sinks.{sink_at, no_sink, AreOpen}
use Rattle.rd_turn.specs.Turns.{Outside}
use Rattle.rd_turn.specs.Runs.{WroteSent, BrokeOff}
use Rattle.rd_run.specs.Leaving.{AllClosed}
use Rattle.rd_run.specs.Links.{LinkDone, LinksDone}
use Rattle.rd_run.specs.Whole.{RunsWith, RunsBy}
use Rattle.rd_run.specs.declared.run.Run.{Run}

-- ---- how many

below_length : (n : ℕ) → length (below n) ≡ n
below_length zero = refl
below_length (suc n) = length-append (below n) (n ∷ []) ∙ (let e = below_length n in omega (arith, e))

marks_length : (copies number : ℕ) → length (marks_of copies number) ≡ copies + 1
marks_length copies number = length-map (below (suc copies)) (λ l. record { first = number; second = l }) ∙ below_length (suc copies) ∙ omega arith

pub links_many : {A B : Type 0} (tells : A → B) (mark : B → Mark) (copies number : ℕ) (xs : List A) → map mark (map tells xs) ≡ marks_of copies number → length xs ≡ copies + 1
links_many tells mark copies number xs is = sym (length-map (map tells xs) mark ∙ length-map xs tells) ∙ ap length is ∙ marks_length copies number

-- ---- open

pub are_open : (sinks : List SinkTold) → All (λ k. k.is_closed ≡ false) sinks → AreOpen sinks
are_open sinks all l lt = All-get_or (λ k. k.is_closed ≡ false) sinks l no_sink lt all

-- ---- marks

same_marks : (xs ys : List SinkTold) → length ys ≡ length xs → ((l : ℕ) → l < length xs → (sink_at ys l).mark ≡ (sink_at xs l).mark) → map (λ k. k.mark) ys ≡ map (λ k. k.mark) xs
same_marks [] [] size at = refl
same_marks [] (y ∷ ys) size at = absurd (omega (arith, size))
same_marks (x ∷ xs) [] size at = absurd (omega (arith, size))
same_marks (x ∷ xs) (y ∷ ys) size at = ap₂ (λ m ms. m ∷ ms) (at 0 (omega arith)) (same_marks xs ys (omega (arith, size)) (λ l lt. at (suc l) (omega (arith, lt))))

broken_at : (r : Rules) (h : History) (w : Link) (olds news : List SinkTold) → BrokeOff r h w olds news → (l : ℕ) → l < length olds → (sink_at news l).mark ≡ (sink_at olds l).mark
broken_at r h w olds news b l lt = elim (cases_lt l w.0) [
  | inl before ↦ (b.all l before).stays.mark
  | inr from ↦ elim (cases_lt w.0 l) [
    | inl behind ↦ (b.none l behind lt).stays.mark
    | inr upto ↦ let here : l ≡ w.0 = omega (arith, from, upto) in ap (λ k. (sink_at news k).mark) here ∙ b.mark ∙ sym (ap (λ k. (sink_at olds k).mark) here)
  ]
]

written_at : (r : Rules) (h : History) (failed : Option Link) (olds news : List SinkTold) → WroteSent r h failed olds news
    → (length news ≡ length olds) × ((l : ℕ) → l < length olds → (sink_at news l).mark ≡ (sink_at olds l).mark)
written_at r h None olds news w = (w.same, λ l lt. (w.wrote l lt).stays.mark)
written_at r h (Some k) olds news b = (b.same, broken_at r h k olds news b)

closed_marks : (olds news : List SinkTold) → AllClosed olds news → map (λ k. k.mark) news ≡ map (λ k. k.mark) olds
closed_marks olds news c = same_marks olds news c.same (λ l lt. (c.closed l lt).mark)

module _ {S R : Type 0} where
  sinks_by : (r : Rules) (before after : View → Outside) (f f' : ℕ) (p : Option View) (run : Run S R) (olds news : List SinkTold) → RunsWith r before after f f' p run olds news → map (λ k. k.mark) news ≡ map (λ k. k.mark) olds
  sinks_by r before after f f' None run olds news u = closed_marks olds news u.closed
  sinks_by r before after f f' (Some v) run olds news (inl u) = closed_marks olds news u.closed
  sinks_by r before after f f' (Some v) run olds news (inr t) =
      let wrote = written_at r _ t.failed olds t.session.mids t.session.history.truly.wrote in
      closed_marks t.session.mids news t.session.closed ∙ same_marks olds t.session.mids wrote.0 wrote.1

  -- a run leaves the marks of its sinks
  pub sinks_marked : (r : Rules) (before after : View → Outside) (f f' : ℕ) (run : Run S R) (olds news : List SinkTold) → RunsBy r before after f f' run olds news → map (λ k. k.mark) news ≡ map (λ k. k.mark) olds
  sinks_marked r before after f f' run olds news = sinks_by r before after f f' run.report.log.pass run olds news

link_marked : (stays : Type 0) (items : List Item) (x y : SourceTold) → LinkDone stays items x y → y.mark ≡ x.mark
link_marked stays items x y (inl read) = read.mark
link_marked stays items x y (inr left) = ap (λ (s : SourceTold). s.mark) left.2

-- and those of its sources
pub sources_marked : (stays : Type 0) (taken : ℕ → List Item) (k : ℕ) (xs ys : List SourceTold) → LinksDone stays taken k xs ys → map (λ s. s.mark) ys ≡ map (λ s. s.mark) xs
sources_marked stays taken k [] [] done = refl
sources_marked stays taken k [] (y ∷ ys) done = absurd done
sources_marked stays taken k (x ∷ xs) [] done = absurd done
sources_marked stays taken k (x ∷ xs) (y ∷ ys) done = ap₂ (λ m ms. m ∷ ms) (link_marked stays (taken k) x y done.0) (sources_marked stays taken (suc k) xs ys done.1)
