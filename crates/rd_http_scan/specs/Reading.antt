-- Whether a text begins with a piece of the grammar, may still come to begin with one, or never will.
use Rattle.std.proofs.Common.{◌≡◌, ℕ, Bool, true, false, eqb, List, [], ◌∷◌, ◌++◌, length, refl, sym, ap, ◌∙◌, subst, arith, ◌⊎◌, inl, inr}
use Rattle.std.proofs.lemmas.Bool.{eqb-true}
use Rattle.std.proofs.lemmas.Bool.Decides.{nat_tests}
use Rattle.std.proofs.lemmas.List.Elements.{All-nil, All-cons}
use Rattle.httparse.specs.Grammar.{AllPass, LineEnd, crlf, lf}
use Rattle.httparse.specs.Pieces.{Piece, Begins, Then, NotYet, Never, Completes, is_newline, Bytes, Newline, Word}
use Rattle.httparse.proofs.RunLemmas.{run_unique, run_unstopped}
use Rattle.httparse.proofs.PieceLemmas.{IsDeterministic, Refutes_by, Never_intro, NotYet_intro, Refutes_first, Refutes_next, front-append, newline_not_stopped}
use Rattle.httparse.proofs.OpenLemmas.{Completes_first, Completes_next, some_newline, some_bytes, Newline_after_cr, Word_cut}

pub data Reading {A : Type 0} (G : Piece A) (text : List ℕ) : Type 0 where
  Reads : (a : A) (rest : List ℕ) → G a text rest → Reading G text
  Open : NotYet (Begins G) text → Completes G text → Reading G text
  Wrong : Never (Begins G) text → Reading G text

-- ---- one piece and then another

pub next_reading : {A B : Type 0} {G : Piece A} {H : Piece B} {s : List ℕ} → IsDeterministic G → (a : A) (t : List ℕ) → G a s t → Reading H t → Reading (Then G H) s
next_reading {G} {H} det a t x (Reads b r y) = Reads (a, b) r (t, x, y)
next_reading {G} {H} det a t x (Open none may) = Open (Refutes_next H det {a = a} x none) (Completes_next det {a = a} x may)
next_reading {G} {H} det a t x (Wrong none) = Wrong (Refutes_next H det {a = a} x none)

pub then_reading : {A B : Type 0} {G : Piece A} {H : Piece B} {s : List ℕ} → IsDeterministic G → Completes H [] → Reading G s → ((t : List ℕ) → Reading H t) → Reading (Then G H) s
then_reading {G} {H} det some (Reads a t x) next = next_reading det a t x (next t)
then_reading {G} {H} det some (Open none may) next = Open (Refutes_first G H none) (Completes_first may some)
then_reading {G} {H} det some (Wrong none) next = Wrong (Refutes_first G H none)

-- ---- a run of bytes, and the byte that stops it

pub data Cut (test : ℕ → Bool) (text : List ℕ) : Type 0 where
  Run : AllPass test text → Cut test text
  At : (w : List ℕ) (b : ℕ) (rest : List ℕ) → AllPass test w → test b ≡ false → text ≡ w ++ b ∷ rest → Cut test text

pub cut : (test : ℕ → Bool) (text : List ℕ) → Cut test text
cut test [] = Run (All-nil _)
cut test (b ∷ text) = by (test b) refl (cut test text)
  where
    by : (t : Bool) → test b ≡ t → Cut test text → Cut test (b ∷ text)
    by false e more = At [] b text (All-nil _) e refl
    by true e (Run all) = Run (All-cons (λ v. test v ≡ true) b text e all)
    by true e (At w c rest all f g) = At (b ∷ w) c rest (All-cons (λ v. test v ≡ true) b w e all) f (ap (λ (t : List ℕ). b ∷ t) g)

-- ---- words

pub word_at : (test : ℕ → Bool) (stop : ℕ) → test stop ≡ false → (text w : List ℕ) (b : ℕ) (rest : List ℕ) → AllPass test w → test b ≡ false → text ≡ w ++ b ∷ rest
    → Word test stop w text rest ⊎ Never (Begins (Word test stop)) text
word_at test stop fails text w b rest all f e = by w all e (eqb b stop) refl
  where
    same : (w : List ℕ) → AllPass test w → text ≡ w ++ b ∷ rest → (more v r : List ℕ) → Word test stop v (text ++ more) r → (v ≡ w) × (stop ∷ r ≡ b ∷ (rest ++ more))
    same w all e more v r h = run_unique test v w (stop ∷ r) (b ∷ (rest ++ more)) h.1 all fails f (sym h.2 ∙ front-append text w (b ∷ rest) more e)

    by : (w : List ℕ) → AllPass test w → text ≡ w ++ b ∷ rest → (t : Bool) → eqb b stop ≡ t → Word test stop w text rest ⊎ Never (Begins (Word test stop)) text
    by [] all e t q = inr (Never_intro λ more h. let s = same [] all e more h.0 h.1 h.2 in omega (arith, ap length s.0, h.2.0))
    by (x ∷ w) all e true q = inl (omega arith, all, e ∙ ap (λ (n : ℕ). x ∷ (w ++ n ∷ rest)) (eqb-true b stop q))
    by (x ∷ w) all e false q = inr (Never_intro λ more h.
        let s = same (x ∷ w) all e more h.0 h.1 h.2 in
        let is : stop ≡ b = cc (s.1) in
        grind (arith, nat_tests, is, q))

pub word_reading : (test : ℕ → Bool) (stop b : ℕ) → test stop ≡ false → test b ≡ true → (text : List ℕ) → Reading (Word test stop) text
word_reading test stop b fails passes text = by (cut test text)
  where
    of : (w rest : List ℕ) → Word test stop w text rest ⊎ Never (Begins (Word test stop)) text → Reading (Word test stop) text
    of w rest (inl x) = Reads w rest x
    of w rest (inr none) = Wrong none

    by : Cut test text → Reading (Word test stop) text
    by (Run all) = Open (NotYet_intro λ h. run_unstopped test h.0 (stop ∷ h.1) (subst (AllPass test) h.2.2 all) fails) (Word_cut test stop b passes all)
    by (At w c rest all f e) = of w rest (word_at test stop fails text w c rest all f e)

-- ---- line ends

newline_of_nothing : (e : LineEnd) (rest : List ℕ) → Newline e [] rest → ⊥
newline_of_nothing crlf rest h = cc
newline_of_nothing lf rest h = cc

after_cr_ends : (e : LineEnd) (text rest : List ℕ) → Newline e (13 ∷ text) rest → text ≡ 10 ∷ rest
after_cr_ends crlf text rest h = cc
after_cr_ends lf text rest h = absurd (cc)

pub newline_reading : (text : List ℕ) → Reading Newline text
newline_reading [] = Open (NotYet_intro λ h. newline_of_nothing h.0 h.1 h.2) some_newline
newline_reading (b ∷ text) = by (is_newline b) refl (eqb b 10) refl
  where
    cr_then : (text : List ℕ) → Reading Newline (13 ∷ text)
    cr_then [] = Open (NotYet_intro λ h. let s = after_cr_ends h.0 [] h.1 h.2 in cc) (Newline_after_cr refl)
    cr_then (c ∷ text) = at (eqb c 10) refl
      where
        at : (t : Bool) → eqb c 10 ≡ t → Reading Newline (13 ∷ c ∷ text)
        at true q = Reads crlf text (ap (λ (n : ℕ). 13 ∷ n ∷ text) (eqb-true c 10 q))
        at false q = Wrong (Never_intro λ more h.
            let s = after_cr_ends h.0 (c ∷ (text ++ more)) h.1 h.2 in
            let is : c ≡ 10 = cc s in
            grind (arith, nat_tests, is, q))

    by : (n : Bool) → is_newline b ≡ n → (t : Bool) → eqb b 10 ≡ t → Reading Newline (b ∷ text)
    by false n t q = Wrong (Never_intro λ more h. newline_not_stopped h.0 h.1 (b ∷ (text ++ more)) (sym h.2) n)
    by true n true q = Reads lf text (ap (λ (n : ℕ). n ∷ text) (eqb-true b 10 q))
    by true n false q = let is : b ≡ 13 = grind (arith, nat_tests, n, q) in subst (λ (n : ℕ). Reading Newline (n ∷ text)) (sym is) (cr_then text)

-- ---- these bytes

pub bytes_reading : (bytes text : List ℕ) → Reading (Bytes bytes) text
bytes_reading [] text = Reads tt text refl
bytes_reading (x ∷ bytes) [] = Open (NotYet_intro λ h. cc (h.2)) (some_bytes (x ∷ bytes))
bytes_reading (x ∷ bytes) (b ∷ text) = by (eqb b x) refl (bytes_reading bytes text)
  where
    tail : (text rest : List ℕ) → b ∷ text ≡ x ∷ (bytes ++ rest) → text ≡ bytes ++ rest
    tail text rest h = cc h

    longer : b ≡ x → (text rest : List ℕ) → text ≡ bytes ++ rest → b ∷ text ≡ x ∷ (bytes ++ rest)
    longer is text rest h = cc (is, h)

    by : (t : Bool) → eqb b x ≡ t → Reading (Bytes bytes) text → Reading (Bytes (x ∷ bytes)) (b ∷ text)
    by true q (Reads t rest h) = Reads t rest (longer (eqb-true b x q) text rest h)
    by true q (Open none may) = Open (Refutes_by (λ more h. (h.0, h.1, tail (text ++ more) h.1 h.2)) none)
        (record { more = may.more; tree = may.tree; reads = λ rest. longer (eqb-true b x q) (text ++ (may.more ++ rest)) rest (may.reads rest) })
    by true q (Wrong none) = Wrong (Refutes_by (λ more h. (h.0, h.1, tail (text ++ more) h.1 h.2)) none)
    by false q any = Wrong (Never_intro λ more h.
        let is : b ≡ x = cc (h.2) in
        grind (arith, nat_tests, is, q))
