-- A final head is one, however many bytes follow it.
use Rattle.std.proofs.Common.{◌≡◌, ℕ, ◌+◌, ◌-◌, ◌<◌, ◌≤◌, true, false, List, ◌++◌, length, take, drop, length-drop, Result, Ok, Err, refl, sym, ap, ◌∙◌, subst, arith}
use Rattle.std.proofs.lemmas.Bool.{false≢true}
use Rattle.std.proofs.lemmas.List.{drop-append-le, drop-take}
use Rattle.rd_base.specs.declared.values.Scan.{Scan}
use Rattle.rd_base.specs.declared.values.Scan.TheVariants.{Bad}
use Rattle.rd_base.specs.declared.values.Part.{Part}
use Rattle.rd_http_frame.specs.declared.unit.FinalHead.{FinalHead}
use Rattle.rd_http_frame.specs.Places.{HeadPlaces}
use Rattle.rd_http_frame.specs.Heads.{IsHeadScan}
use Rattle.rd_http_frame.proofs.WholeHeads.{begins_fits}
use Rattle.rd_http_frame.specs.WholeHeads.{is_whole}
use Rattle.rd_http_frame.specs.Units.{IsFinalHead, head_behind, is_interim}
use Rattle.rd_http_frame.specs.Units.{IsFinalHead as found_of}
use Rattle.rd_http_frame.specs.Units.IsFinalHead.{Interim, Final}
use Rattle.rd_http_frame.proofs.Unique.{head_once}
use Rattle.rd_http_frame.proofs.HeadCuts.{head_framing}
use Rattle.rd_http_frame.proofs.HeadOnce.{begins_once, begins_or_not, begins_stays, begins_itself}

both : {A : Type 0} (s t : ℕ) → s ≡ t → is_interim s ≡ true → is_interim t ≡ false → A
both s t e mid fin = absurd (false≢true (sym fin ∙ ap is_interim (sym e) ∙ mid))

pub final_once : (part : Part) (bytes : List ℕ) (a b : Result FinalHead Scan) → IsFinalHead part bytes a → IsFinalHead part bytes b → a ≡ b
final_once part bytes a b (found_of.Missing bs s r x none e) (found_of.Missing cs t q y shut f) = e ∙ ap Err (head_once part bytes s t x y) ∙ sym f
final_once part bytes a b (found_of.Missing bs s r x none e) (found_of.Interim cs len head later q y mid z f) = absurd (begins_or_not part bytes len head s y x none)
final_once part bytes a b (found_of.Missing bs s r x none e) (found_of.Final cs len head q y fin f) = absurd (begins_or_not part bytes len head s y x none)
final_once part bytes a b (found_of.Interim bs m head later r x mid z e) (found_of.Missing cs t q y shut f) = absurd (begins_or_not part bytes m head t x y shut)
final_once part bytes a b (found_of.Interim bs m h later r x mid z e) (found_of.Interim cs n k after q y si w f) =
    let same = begins_once part bytes m n h k x y in
    let moved : IsFinalHead part (drop m bytes) after = subst (λ (i : ℕ). IsFinalHead part (drop i bytes) after) (sym same.0) w in
    e ∙ ap (λ (i : ℕ). head_behind i later) same.0 ∙ ap (head_behind n) (final_once part (drop m bytes) later after z moved) ∙ sym f
final_once part bytes a b (found_of.Interim bs m h later r x mid z e) (found_of.Final cs n k q y fin f) =
    both h.status k.status (ap (λ (p : HeadPlaces). p.status) (begins_once part bytes m n h k x y).1) mid fin
final_once part bytes a b (found_of.Final bs m h r x fin e) (found_of.Missing cs t q y shut f) = absurd (begins_or_not part bytes m h t x y shut)
final_once part bytes a b (found_of.Final bs m h r x fin e) (found_of.Interim cs n k after q y mid w f) =
    both k.status h.status (ap (λ (p : HeadPlaces). p.status) (begins_once part bytes n m k h y x).1) mid fin
final_once part bytes a b (found_of.Final bs m h r x fin e) (found_of.Final cs n k q y on f) =
    let same = begins_once part bytes m n h k x y in
    e ∙ ap (λ (i : ℕ). Ok (record { from = 0; to = i; body = h.body })) same.0 ∙ ap (λ (p : HeadPlaces). Ok (record { from = 0; to = n; body = p.body })) same.1 ∙ sym f

pub behind_err : (n : ℕ) (found : Result FinalHead Scan) (scan : Scan) → head_behind n found ≡ Err scan → found ≡ Err scan
behind_err n (Ok head) scan e = absurd (cc e)
behind_err n (Err s) scan e = e

pub behind_ok : (n : ℕ) (found : Result FinalHead Scan) (head : FinalHead) → head_behind n found ≡ Ok head → (later : FinalHead) × (found ≡ Ok later) × (head ≡ record { from = n + later.from; to = n + later.to; body = later.body })
behind_ok n (Ok later) head e = (later, refl, cc (sym e))
behind_ok n (Err s) head e = absurd (cc e)

-- what is missing isn't whole
pub missing_open : (part : Part) (bytes : List ℕ) (found : Result FinalHead Scan) (scan : Scan) → IsFinalHead part bytes found → found ≡ Err scan → is_whole scan ≡ false
missing_open part bytes found scan (found_of.Missing bs s r x none e) q = let same : s ≡ scan = cc (sym e ∙ q) in ap is_whole (sym same) ∙ none
missing_open part bytes found scan (found_of.Interim bs len head later r x mid z e) q =
    missing_open part (drop len bytes) later scan z (behind_err len later scan (sym e ∙ q))
missing_open part bytes found scan (found_of.Final bs len head r x fin e) q = absurd (cc (sym e ∙ q))

pub final_fits : (part : Part) (bytes : List ℕ) (found : Result FinalHead Scan) (head : FinalHead) → IsFinalHead part bytes found → found ≡ Ok head → (head.from < head.to) × (head.to ≤ length bytes)
final_fits part bytes found head (found_of.Missing bs s r x none e) q = absurd (cc (sym e ∙ q))
final_fits part bytes found head (found_of.Interim bs len h later r x mid z e) q =
    let w = behind_ok len later head (sym e ∙ q) in
    let rest = final_fits part (drop len bytes) later w.0 z w.1 in
    let from : head.from ≡ len + w.0.from = ap (λ (p : FinalHead). p.from) w.2 in
    let to : head.to ≡ len + w.0.to = ap (λ (p : FinalHead). p.to) w.2 in
    let fits = begins_fits part bytes len h x in
    (omega (arith, rest.0, from, to), omega (arith, rest.1, to, fits.1, length-drop len bytes))
final_fits part bytes found head (found_of.Final bs len h r x fin e) q =
    let same : record { from = 0; to = len; body = h.body } ≡ head = cc (sym e ∙ q) in
    let from : 0 ≡ head.from = ap (λ (p : FinalHead). p.from) same in
    let to : len ≡ head.to = ap (λ (p : FinalHead). p.to) same in
    let fits = begins_fits part bytes len h x in
    (omega (arith, from, to, fits.0), omega (arith, to, fits.1))

pub final_stays : (part : Part) (bytes more : List ℕ) (found : Result FinalHead Scan) (head : FinalHead) → IsFinalHead part bytes found → found ≡ Ok head → IsFinalHead part (bytes ++ more) (Ok head)
final_stays part bytes more found head (found_of.Missing bs s r x none e) q = absurd (cc (sym e ∙ q))
final_stays part bytes more found head (found_of.Interim bs len h later r x mid z e) q =
    let w = behind_ok len later head (sym e ∙ q) in
    let rest = final_stays part (drop len bytes) more later w.0 z w.1 in
    let fits = begins_fits part bytes len h x in
    Interim (bytes ++ more) len h (Ok w.0) (Ok head) (begins_stays part bytes more len h x) mid
    (subst (λ (t : List ℕ). IsFinalHead part t (Ok w.0)) (sym (drop-append-le len bytes more fits.1)) rest) (ap Ok w.2)
final_stays part bytes more found head (found_of.Final bs len h r x fin e) q =
    Final (bytes ++ more) len h (Ok head) (begins_stays part bytes more len h x) fin (sym q ∙ e)

pub final_longer : (part : Part) (bytes : List ℕ) (n : ℕ) (found : Result FinalHead Scan) (head : FinalHead) → head.to ≤ n → IsFinalHead part bytes found → found ≡ Ok head → IsFinalHead part (take n bytes) (Ok head)
final_longer part bytes n found head room (found_of.Missing bs s r x none e) q = absurd (cc (sym e ∙ q))
final_longer part bytes n found head room (found_of.Interim bs len h later r x mid z e) q =
    let w = behind_ok len later head (sym e ∙ q) in
    let to : head.to ≡ len + w.0.to = ap (λ (p : FinalHead). p.to) w.2 in
    let rest = final_longer part (drop len bytes) (n - len) later w.0 (omega (arith, room, to)) z w.1 in
    let sum : n ≡ len + (n - len) = omega (arith, room, to) in
    let cut : drop len (take n bytes) ≡ take (n - len) (drop len bytes) = ap (λ k. drop len (take k bytes)) sum ∙ drop-take len (n - len) bytes in
    Interim (take n bytes) len h (Ok w.0) (Ok head) (begins_itself part bytes len n h (omega (arith, room, to)) x) mid
    (subst (λ (t : List ℕ). IsFinalHead part t (Ok w.0)) (sym cut) rest) (ap Ok w.2)
final_longer part bytes n found head room (found_of.Final bs len h r x fin e) q =
    let same : record { from = 0; to = len; body = h.body } ≡ head = cc (sym e ∙ q) in
    let to : len ≡ head.to = ap (λ (p : FinalHead). p.to) same in
    Final (take n bytes) len h (Ok head) (begins_itself part bytes len n h (omega (arith, room, to)) x) fin (sym q ∙ e)

pub final_hopeless : (part : Part) (bytes more : List ℕ) (a b : Result FinalHead Scan) (head : FinalHead) → IsFinalHead part bytes a → a ≡ Err Bad → IsFinalHead part (bytes ++ more) b → b ≡ Ok head → ⊥
final_hopeless part bytes more a b head (found_of.Missing bs s r x none e) bad (found_of.Missing cs t q y shut f) is = absurd (cc (sym f ∙ is))
final_hopeless part bytes more a b head (found_of.Missing bs s r x none e) bad (found_of.Interim cs len h later q y mid z f) is =
    let same : s ≡ Bad = cc (sym e ∙ bad) in
    (head_framing part).hopeless bytes more len (subst (λ (k : Scan). IsHeadScan part bytes k) same x) y.whole
final_hopeless part bytes more a b head (found_of.Missing bs s r x none e) bad (found_of.Final cs len h q y fin f) is =
    let same : s ≡ Bad = cc (sym e ∙ bad) in
    (head_framing part).hopeless bytes more len (subst (λ (k : Scan). IsHeadScan part bytes k) same x) y.whole
final_hopeless part bytes more a b head (found_of.Interim bs m h later r x mid z e) bad (found_of.Missing cs t q y shut f) is = absurd (cc (sym f ∙ is))
final_hopeless part bytes more a b head (found_of.Interim bs m h later r x mid z e) bad (found_of.Interim cs n k after q y si w f) is =
    let same = begins_once part (bytes ++ more) m n h k (begins_stays part bytes more m h x) y in
    let fits = begins_fits part bytes m h x in
    let cut : drop n (bytes ++ more) ≡ drop m bytes ++ more = ap (λ (i : ℕ). drop i (bytes ++ more)) (sym same.0) ∙ drop-append-le m bytes more fits.1 in
    let left = behind_ok n after head (sym f ∙ is) in
    final_hopeless part (drop m bytes) more later after left.0 z (behind_err m later Bad (sym e ∙ bad))
    (subst (λ (t : List ℕ). IsFinalHead part t after) cut w) left.1
final_hopeless part bytes more a b head (found_of.Interim bs m h later r x mid z e) bad (found_of.Final cs n k q y fin f) is =
    both h.status k.status (ap (λ (p : HeadPlaces). p.status) (begins_once part (bytes ++ more) m n h k (begins_stays part bytes more m h x) y).1) mid fin
final_hopeless part bytes more a b head (found_of.Final bs len h r x fin e) bad other is = absurd (cc (sym e ∙ bad))
