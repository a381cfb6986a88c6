-- The sessions beside the visits that are out.
use Rattle.std.proofs.Common.{◌≡◌, ℕ, zero, suc, ◌+◌, ◌<◌, ◌==◌, List, [], ◌∷◌, ◌++◌, length, map, take, drop, get_or, Option, Some, None, refl, sym, ap, ◌∙◌, subst, arith, add-one, length-append}
use Rattle.std.proofs.lemmas.List.{map-append}
use Rattle.rd_base.specs.Outside.{Mark}
use Rattle.rd_base.specs.Outside.{SinkTold}
use Rattle.rd_base.specs.Sources.{SourceTold}
use Rattle.rd_doors.specs.Visits.{Holds, without, marks_of}
use Rattle.rd_doors.specs.Calls.{DoorsTold}
use Rattle.rd_runner.specs.Runs.{Setup}
use Rattle.rd_run_session.specs.declared.left.SessionLeft.{SessionLeft}
use Rattle.rd_serve.specs.Serving.{one_if}
use Rattle.rd_serve.specs.Sessions.{AreOut, IsOut, Keeps, KeepsTold, Each, times}
use Rattle.rd_serve.specs.declared.session.Served.{Served}
use Rattle.rd_serve.specs.declared.session.Session.{Session}
use Rattle.rd_serve.proofs.Telling.{some_is, keeps_has}
use Rattle.rd_serve.proofs.Times.{times_snoc, times_without, length_without, holds_of_times, same_times}

pub times_split : {A : Type 0} (f : A → ℕ) (n : ℕ) (xs : List A) (i : ℕ) (d : A) → i < length xs
    → times n (map f xs) ≡ one_if (f (get_or xs i d) == n) + times n (map f (take i xs ++ drop (suc i) xs))
times_split f n [] i d within = absurd (omega arith)
times_split f n (x ∷ xs) zero d within = refl
times_split f n (x ∷ xs) (suc i) d within = let more = times_split f n xs i d (omega arith) in omega arith

pub length_split : {A : Type 0} (xs : List A) (i : ℕ) → i < length xs → length xs ≡ 1 + length (take i xs ++ drop (suc i) xs)
length_split [] i within = absurd (omega arith)
length_split (x ∷ xs) zero within = omega arith
length_split (x ∷ xs) (suc i) within = let more = length_split xs i (omega arith) in omega arith

pub all_left : {A : Type 0} (P : A → Type 0) (xs : List A) (i : ℕ) → Each P xs → Each P (take i xs ++ drop (suc i) xs)
all_left P [] zero all = all
all_left P [] (suc i) all = all
all_left P (x ∷ xs) zero all = all.1
all_left P (x ∷ xs) (suc i) all = (all.0, all_left P xs i all.1)

pub all_kept : {A : Type 0} (P Q : A → Type 0) → ((x : A) → P x → Q x) → (xs : List A) → Each P xs → Each Q xs
all_kept P Q more [] all = tt
all_kept P Q more (x ∷ xs) all = (more x all.0, all_kept P Q more xs all.1)

pub each_at : {A : Type 0} (P : A → Type 0) (xs : List A) (i : ℕ) (d : A) → i < length xs → Each P xs → P (get_or xs i d)
each_at P [] i d within all = absurd (omega arith)
each_at P (x ∷ xs) zero d within all = all.0
each_at P (x ∷ xs) (suc i) d within all = each_at P xs i d (omega arith) all.1

pub each_snoc : {A : Type 0} (P : A → Type 0) (xs : List A) (y : A) → Each P xs → P y → Each P (xs ++ y ∷ [])
each_snoc P [] y all last = (last, tt)
each_snoc P (x ∷ xs) y all last = (all.0, each_snoc P xs y all.1 last)

pub same_marks : (made : Option ℕ) (count copies n m : ℕ) (xs ys : List Mark) → made ≡ Some count → made ≡ Some copies
    → xs ≡ ys → ys ≡ marks_of count m → m ≡ n → xs ≡ marks_of copies n
same_marks made count copies n m xs ys has is same marks number =
    same ∙ marks ∙ ap (λ c. marks_of c m) (some_is count copies (sym has ∙ is)) ∙ ap (marks_of copies) number

module _ {S K P C T B R : Type 0} (source : S → SourceTold) (sink : K → SinkTold) (setup : Setup) where
  pub kept : (d d' : DoorsTold (SessionLeft R)) (ss : List (Session S K P C T B R)) → KeepsTold d d'
      → Each (λ s. IsOut source sink setup d s) ss → Each (λ s. IsOut source sink setup d' s) ss
  kept d d' ss keeps all = all_kept (λ s. IsOut source sink setup d s) (λ s. IsOut source sink setup d' s)
      (λ s is. record { held_to = is.held_to; side = is.side; ends = is.ends; number = is.number; fresh = is.fresh; given = keeps_has d d' _ keeps is.given }) ss all

  pub out_holds : (d : DoorsTold (SessionLeft R)) (w : Option ℕ) (ss : List (Session S K P C T B R)) (i : ℕ) (s : Session S K P C T B R)
      → AreOut source sink setup d w ss → i < length ss → s ≡ get_or ss i s → Holds s.number d.out
  out_holds d w ss i s are within at =
      let split = times_split (λ (x : Session S K P C T B R). x.number) s.number ss i s within in
      let is : (get_or ss i s).number ≡ s.number = ap (λ (x : Session S K P C T B R). x.number) (sym at) in
      let one : one_if ((get_or ss i s).number == s.number) ≡ 1 = ap (λ n. one_if (n == s.number)) is ∙ same_times s.number in
      let same = are.same s.number in
      holds_of_times s.number d.out (omega arith)

  pub out_is : (d : DoorsTold (SessionLeft R)) (w : Option ℕ) (ss : List (Session S K P C T B R)) (i : ℕ) (s : Session S K P C T B R)
      → AreOut source sink setup d w ss → i < length ss → s ≡ get_or ss i s → IsOut source sink setup d s
  out_is d w ss i s are within at = subst (λ x. IsOut source sink setup d x) (sym at) (each_at (λ x. IsOut source sink setup d x) ss i s within are.each)

  -- what a session's thread promised is what is kept of the visit that the doors told
  pub keeps_promise : (d : DoorsTold (SessionLeft R)) (s : Session S K P C T B R) (served : Served S K P C T B R) → IsOut source sink setup d s
      → Keeps source sink s.handle.promise.runner.value.setup s.handle.promise.side s.handle.promise.ends.value served
      → Keeps source sink setup s.side s.ends.value served
  keeps_promise d s served is keeps =
      subst (λ held_to. Keeps source sink held_to s.side s.ends.value served) is.held_to
      (subst (λ side. Keeps source sink s.handle.promise.runner.value.setup side s.ends.value served) is.side
      (subst (λ ends. Keeps source sink s.handle.promise.runner.value.setup s.handle.promise.side ends served) is.ends keeps))

  pub out_left : (d d' : DoorsTold (SessionLeft R)) (w : Option ℕ) (ss rest : List (Session S K P C T B R)) (i : ℕ) (s : Session S K P C T B R)
      → AreOut source sink setup d w ss → i < length ss → s ≡ get_or ss i s → rest ≡ take i ss ++ drop (i + 1) ss
      → d'.out ≡ without s.number d.out → KeepsTold d d' → AreOut source sink setup d' w rest
  out_left d d' w ss rest i s are within at left out keeps =
      let left' : rest ≡ take i ss ++ drop (suc i) ss = left ∙ ap (λ j. take i ss ++ drop j ss) (add-one i) in
      let holds = out_holds d w ss i s are within at in
      record {
        each = kept d d' rest keeps (subst (Each (λ s. IsOut source sink setup d s)) (sym left') (all_left (λ s. IsOut source sink setup d s) ss i are.each));
        same = λ n.
            let split = times_split (λ (x : Session S K P C T B R). x.number) n ss i s within in
            let is : (get_or ss i s).number ≡ s.number = ap (λ (x : Session S K P C T B R). x.number) (sym at) in
            let one : one_if ((get_or ss i s).number == n) ≡ one_if (s.number == n) = ap (λ m. one_if (m == n)) is in
            let had = are.same n in
            let less = times_without s.number n d.out holds in
            let now : times n d'.out ≡ times n (without s.number d.out) = ap (times n) out in
            let these : times n (map (λ (x : Session S K P C T B R). x.number) rest) ≡ times n (map (λ (x : Session S K P C T B R). x.number) (take i ss ++ drop (suc i) ss)) = ap (λ xs. times n (map (λ (x : Session S K P C T B R). x.number) xs)) left' in
            omega arith;
        count =
            let had = are.count in
            let less = length_without s.number d.out holds in
            let now : length d'.out ≡ length (without s.number d.out) = ap length out in
            let split = length_split ss i within in
            let these : length rest ≡ length (take i ss ++ drop (suc i) ss) = ap length left' in
            omega arith;
      }

  pub still_out : (d d' : DoorsTold (SessionLeft R)) (w : Option ℕ) (ss : List (Session S K P C T B R)) → AreOut source sink setup d w ss → d'.out ≡ d.out → KeepsTold d d' → AreOut source sink setup d' w ss
  still_out d d' w ss are out keeps = record {
    each = kept d d' ss keeps are.each;
    same = λ n. ap (times n) out ∙ are.same n;
    count = ap length out ∙ are.count;
  }

  -- ---- the visit that waits to be judged

  pub waiting_holds : (d : DoorsTold (SessionLeft R)) (n : ℕ) (ss : List (Session S K P C T B R)) → AreOut source sink setup d (Some n) ss → Holds n d.out
  waiting_holds d n ss are = let same = are.same n in let one = same_times n in holds_of_times n d.out (omega arith)

  pub waiting_ended : (d d' : DoorsTold (SessionLeft R)) (n : ℕ) (ss : List (Session S K P C T B R)) → AreOut source sink setup d (Some n) ss
      → d'.out ≡ without n d.out → KeepsTold d d' → AreOut source sink setup d' None ss
  waiting_ended d d' n ss are out keeps =
      let holds = waiting_holds d n ss are in
      record {
        each = kept d d' ss keeps are.each;
        same = λ m.
            let had = are.same m in
            let less = times_without n m d.out holds in
            let now : times m d'.out ≡ times m (without n d.out) = ap (times m) out in
            omega arith;
        count =
            let had = are.count in
            let less = length_without n d.out holds in
            let now : length d'.out ≡ length (without n d.out) = ap length out in
            omega arith;
      }

  pub waiting_begun : (d : DoorsTold (SessionLeft R)) (n : ℕ) (ss more : List (Session S K P C T B R)) (s : Session S K P C T B R) → AreOut source sink setup d (Some n) ss
      → IsOut source sink setup d s → s.number ≡ n → more ≡ ss ++ s ∷ [] → AreOut source sink setup d None more
  waiting_begun d n ss more s are is number at = record {
    each = subst (Each (λ s. IsOut source sink setup d s)) (sym at) (each_snoc (λ s. IsOut source sink setup d s) ss s are.each is);
    same = λ m.
        let had = are.same m in
        let last = times_snoc m s.number (map (λ (x : Session S K P C T B R). x.number) ss) in
        let these : times m (map (λ (x : Session S K P C T B R). x.number) more) ≡ times m (map (λ (x : Session S K P C T B R). x.number) ss ++ s.number ∷ []) =
        ap (λ xs. times m (map (λ (x : Session S K P C T B R). x.number) xs)) at ∙ ap (times m) (map-append (λ (x : Session S K P C T B R). x.number) ss (s ∷ [])) in
        let one : one_if (s.number == m) ≡ one_if (n == m) = ap (λ k. one_if (k == m)) number in
        omega arith;
    count =
        let had = are.count in
        let these : length more ≡ length ss + 1 = ap length at ∙ length-append ss (s ∷ []) in
        omega arith;
  }

  pub waiting_came : (d d' : DoorsTold (SessionLeft R)) (n : ℕ) (ss : List (Session S K P C T B R)) → AreOut source sink setup d None ss
      → d'.out ≡ d.out ++ n ∷ [] → KeepsTold d d' → AreOut source sink setup d' (Some n) ss
  waiting_came d d' n ss are out keeps = record {
    each = kept d d' ss keeps are.each;
    same = λ m.
        let had = are.same m in
        let last = times_snoc m n d.out in
        let now : times m d'.out ≡ times m (d.out ++ n ∷ []) = ap (times m) out in
        omega arith;
    count =
        let had = are.count in
        let now : length d'.out ≡ length d.out + 1 = ap length out ∙ length-append d.out (n ∷ []) in
        omega arith;
  }
