-- Bodies are cut in one way.
use Rattle.std.proofs.Common.{◌≡◌, ℕ, ◌+◌, ◌≤◌, Bool, true, false, cond, leb, nat_le, List, ◌++◌, length, take, drop, length-take, length-drop, length-append, Result, Ok, Err, refl, sym, ap, ◌∙◌, subst, arith}
use Rattle.std.proofs.lemmas.Bool.{leb-true, le-leb}
use Rattle.std.proofs.lemmas.List.{drop-append-le, drop-take, length-take-le}
use Rattle.rd_base.specs.Scans.{behind}
use Rattle.rd_base.specs.declared.values.Scan.{Scan}
use Rattle.rd_base.specs.declared.values.Scan.TheVariants.{Whole, More, Bad, TooBig, Unsupported}
use Rattle.rd_http_frame.specs.declared.body.BodyRule.{BodyRule}
use Rattle.rd_http_frame.specs.declared.body.BodyRule.TheVariants.{Empty, Length, Chunked, UntilEnd}
use Rattle.rd_http_frame.specs.Chunks.{trailer_from}
use Rattle.rd_http_frame.specs.Trailers.{IsTrailerScan}
use Rattle.rd_http_frame.specs.Units.{IsTrailerBehind, IsBodyScan}
use Rattle.rd_http_frame.proofs.ChunkSteps.{trailer_never}
use Rattle.rd_http_frame.proofs.ChunkCuts.{trailer_from_within, trailer_from_stays, trailer_from_longer}
use Rattle.rd_http_frame.proofs.TrailerCuts.{trailer_once, trailer_within, trailer_itself, trailer_stays, trailer_hopeless}

pub behind_whole : (before : ℕ) (scan : Scan) (len : ℕ) → Whole len ≡ behind before scan → (k : ℕ) × (scan ≡ Whole k) × (len ≡ before + k)
behind_whole before (Whole k) len e = (k, refl, cc e)
behind_whole before More len e = absurd (cc e)
behind_whole before Bad len e = absurd (cc e)
behind_whole before TooBig len e = absurd (cc e)
behind_whole before (Unsupported code) len e = absurd (cc e)

pub behind_bad : (before : ℕ) (scan : Scan) → Bad ≡ behind before scan → scan ≡ Bad
behind_bad before (Whole k) e = absurd (cc e)
behind_bad before More e = absurd (cc e)
behind_bad before Bad e = refl
behind_bad before TooBig e = absurd (cc e)
behind_bad before (Unsupported code) e = absurd (cc e)

-- ---- chunks and a trailer

pub record WholeChunked (bytes : List ℕ) (len : ℕ) : Type 0 where
  pub at : ℕ
  pub is : trailer_from bytes ≡ Ok at
  pub size : ℕ
  pub trailer : IsTrailerScan (drop at bytes) (Whole size)
  pub sum : len ≡ at + size

pub whole_chunked : (bytes : List ℕ) (len : ℕ) (r : Result ℕ Scan) → trailer_from bytes ≡ r → IsTrailerBehind bytes r (Whole len) → WholeChunked bytes len
whole_chunked bytes len (Ok place) e x =
    let w = behind_whole place x.0 len x.2 in
    record { at = place; is = e; size = w.0; trailer = subst (λ (s : Scan). IsTrailerScan (drop place bytes) s) w.1 x.1; sum = w.2 }
whole_chunked bytes len (Err stop) e x = absurd (trailer_never bytes stop len e (sym x))

pub chunked_made : (bytes : List ℕ) (at size len : ℕ) → trailer_from bytes ≡ Ok at → IsTrailerScan (drop at bytes) (Whole size) → len ≡ at + size → IsTrailerBehind bytes (trailer_from bytes) (Whole len)
chunked_made bytes at size len e x sum =
    subst (λ (r : Result ℕ Scan). IsTrailerBehind bytes r (Whole len)) (sym e) (Whole size, x, ap Whole sum)

behind_once : (bytes : List ℕ) (r : Result ℕ Scan) (a b : Scan) → IsTrailerBehind bytes r a → IsTrailerBehind bytes r b → a ≡ b
behind_once bytes (Ok place) a b x y = x.2 ∙ ap (behind place) (trailer_once (drop place bytes) x.0 y.0 x.1 y.1) ∙ sym y.2
behind_once bytes (Err stop) a b x y = x ∙ sym y

chunked_within : (bytes : List ℕ) (len : ℕ) → WholeChunked bytes len → len ≤ length bytes
chunked_within bytes len w =
    let trailer = trailer_within (drop w.at bytes) w.size w.trailer in
    let place = trailer_from_within bytes w.at w.is in
    omega (arith, trailer.1, place, w.sum, length-drop w.at bytes)

chunked_itself : (bytes : List ℕ) (len : ℕ) → WholeChunked bytes len → IsTrailerBehind (take len bytes) (trailer_from (take len bytes)) (Whole len)
chunked_itself bytes len w =
    let cut : drop w.at (take len bytes) ≡ take w.size (drop w.at bytes) = ap (λ n. drop w.at (take n bytes)) w.sum ∙ drop-take w.at w.size bytes in
    chunked_made (take len bytes) w.at w.size len (trailer_from_longer bytes w.at len (omega (arith, w.sum)) w.is)
    (subst (λ (t : List ℕ). IsTrailerScan t (Whole w.size)) (sym cut) (trailer_itself (drop w.at bytes) w.size w.trailer)) w.sum

told_at : (bytes more : List ℕ) (at : ℕ) → trailer_from bytes ≡ Ok at → trailer_from (bytes ++ more) ≡ Ok at
told_at bytes more at e = trailer_from_stays bytes more (λ q. let bad : Ok at ≡ Err More = sym e ∙ q in cc bad) ∙ e

chunked_stays : (bytes more : List ℕ) (len : ℕ) → WholeChunked bytes len → IsTrailerBehind (bytes ++ more) (trailer_from (bytes ++ more)) (Whole len)
chunked_stays bytes more len w =
    chunked_made (bytes ++ more) w.at w.size len (told_at bytes more w.at w.is)
    (subst (λ (t : List ℕ). IsTrailerScan t (Whole w.size)) (sym (drop-append-le w.at bytes more (trailer_from_within bytes w.at w.is)))
    (trailer_stays (drop w.at bytes) more w.size w.trailer)) w.sum

chunked_hopeless : (bytes more : List ℕ) (len : ℕ) (r : Result ℕ Scan) → trailer_from bytes ≡ r → IsTrailerBehind bytes r Bad → WholeChunked (bytes ++ more) len → ⊥
chunked_hopeless bytes more len (Ok place) e x w =
    let bad = behind_bad place x.0 x.2 in
    let there = told_at bytes more place e in
    let same : w.at ≡ place = let q : Ok w.at ≡ Ok place = sym w.is ∙ there in cc q in
    let trailer = subst (λ (n : ℕ). IsTrailerScan (drop n (bytes ++ more)) (Whole w.size)) same w.trailer in
    trailer_hopeless (drop place bytes) more w.size (subst (λ (s : Scan). IsTrailerScan (drop place bytes) s) bad x.1)
    (subst (λ (t : List ℕ). IsTrailerScan t (Whole w.size)) (drop-append-le place bytes more (trailer_from_within bytes place e)) trailer)
chunked_hopeless bytes more len (Err stop) e x w =
    let here : trailer_from bytes ≡ Err Bad = e ∙ ap Err (sym x) in
    let there : trailer_from (bytes ++ more) ≡ Err Bad = trailer_from_stays bytes more (λ q. let no_more : Err Bad ≡ Err More = sym here ∙ q in cc no_more) ∙ here in
    let clash : Ok w.at ≡ Err Bad = sym w.is ∙ there in
    absurd (cc clash)

-- ---- so many bytes

pub sized_shows : (size n len : ℕ) → Whole len ≡ cond (nat_le size n) (Whole size) More → (len ≡ size) × (size ≤ n)
sized_shows size n len e = by (leb size n) refl e
  where
    by : (t : Bool) → leb size n ≡ t → Whole len ≡ cond t (Whole size) More → (len ≡ size) × (size ≤ n)
    by true is q = (cc q, leb-true size n is)
    by false is q = absurd (cc q)

pub sized_made : (size n len : ℕ) → len ≡ size → size ≤ n → Whole len ≡ cond (nat_le size n) (Whole size) More
sized_made size n len e h = ap Whole e ∙ sym (ap (λ t. cond t (Whole size) More) (le-leb size n h))

never_bad : (t : Bool) (len : ℕ) → Bad ≡ cond t (Whole len) More → ⊥
never_bad true len e = absurd (cc e)
never_bad false len e = absurd (cc e)

-- ---- bodies

pub body_once : (rule : BodyRule) (ended : Bool) (bytes : List ℕ) (a b : Scan) → IsBodyScan rule ended bytes a → IsBodyScan rule ended bytes b → a ≡ b
body_once Empty ended bytes a b x y = x ∙ sym y
body_once (Length size) ended bytes a b x y = x ∙ sym y
body_once Chunked ended bytes a b x y = behind_once bytes (trailer_from bytes) a b x y
body_once UntilEnd ended bytes a b x y = x ∙ sym y

pub body_within : (rule : BodyRule) (ended : Bool) (bytes : List ℕ) (len : ℕ) → IsBodyScan rule ended bytes (Whole len) → len ≤ length bytes
body_within Empty ended bytes len x = let none : len ≡ 0 = cc x in omega (arith, none)
body_within (Length size) ended bytes len x = let s = sized_shows size (length bytes) len x in omega (arith, s.0, s.1)
body_within Chunked ended bytes len x = chunked_within bytes len (whole_chunked bytes len (trailer_from bytes) refl x)
body_within UntilEnd true bytes len x = let all : len ≡ length bytes = cc x in omega (arith, all)
body_within UntilEnd false bytes len x = absurd (cc x)

pub body_itself : (rule : BodyRule) (ended : Bool) (bytes : List ℕ) (len : ℕ) → IsBodyScan rule ended bytes (Whole len) → IsBodyScan rule ended (take len bytes) (Whole len)
body_itself Empty ended bytes len x = x
body_itself (Length size) ended bytes len x =
    let s = sized_shows size (length bytes) len x in
    sized_made size (length (take len bytes)) len s.0 (omega (arith, s.0, s.1, length-take len bytes))
body_itself Chunked ended bytes len x = chunked_itself bytes len (whole_chunked bytes len (trailer_from bytes) refl x)
body_itself UntilEnd true bytes len x =
    let all : len ≡ length bytes = cc x in
    ap Whole (sym (length-take-le len bytes (omega (arith, all))))
body_itself UntilEnd false bytes len x = absurd (cc x)

pub body_stays : (rule : BodyRule) (ended : Bool) (bytes more : List ℕ) (len : ℕ) → IsBodyScan rule false bytes (Whole len) → IsBodyScan rule ended (bytes ++ more) (Whole len)
body_stays Empty ended bytes more len x = x
body_stays (Length size) ended bytes more len x =
    let s = sized_shows size (length bytes) len x in
    sized_made size (length (bytes ++ more)) len s.0 (omega (arith, s.1, length-append bytes more))
body_stays Chunked ended bytes more len x = chunked_stays bytes more len (whole_chunked bytes len (trailer_from bytes) refl x)
body_stays UntilEnd ended bytes more len x = absurd (cc x)

pub body_hopeless : (rule : BodyRule) (before ended : Bool) (bytes more : List ℕ) (len : ℕ) → IsBodyScan rule before bytes Bad → IsBodyScan rule ended (bytes ++ more) (Whole len) → ⊥
body_hopeless Empty before ended bytes more len x y = absurd (cc x)
body_hopeless (Length size) before ended bytes more len x y = never_bad (nat_le size (length bytes)) size x
body_hopeless Chunked before ended bytes more len x y =
    chunked_hopeless bytes more len (trailer_from bytes) refl x (whole_chunked (bytes ++ more) len (trailer_from (bytes ++ more)) refl y)
body_hopeless UntilEnd before ended bytes more len x y = never_bad before (length bytes) x
