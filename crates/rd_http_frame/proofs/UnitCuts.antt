-- Requests and replies are cut in one way.
use Rattle.std.proofs.Common.{◌≡◌, ℕ, ◌+◌, ◌<◌, ◌≤◌, Bool, false, List, ◌++◌, length, take, drop, length-drop, Result, Ok, Err, refl, sym, ap, ◌∙◌, subst, arith}
use Rattle.std.proofs.lemmas.Bool.{false≢true}
use Rattle.std.proofs.lemmas.List.{drop-append-le, drop-take}
use Rattle.rd_base.specs.Scans.{behind}
use Rattle.rd_base.specs.declared.values.Scan.{Scan}
use Rattle.rd_base.specs.declared.values.Scan.TheVariants.{Whole, Bad}
use Rattle.rd_base.specs.declared.values.Part.{Part}
use Rattle.rd_base.specs.declared.values.Part.TheVariants.{Request, Reply}
use Rattle.rd_http_frame.specs.declared.unit.FinalHead.{FinalHead}
use Rattle.rd_http_frame.specs.WholeHeads.{is_whole}
use Rattle.rd_http_frame.specs.Units.{IsFinalHead, rule_in, IsBodyScan, IsScanBehind, IsUnitScan, IsWholeRequestScan, IsShownFrom}
use Rattle.rd_http_frame.specs.UnitLaws.{IsUnitFraming}
use Rattle.rd_http_frame.proofs.FinalOnce.{final_once, missing_open, final_fits, final_stays, final_longer, final_hopeless}
use Rattle.rd_http_frame.proofs.BodyCuts.{behind_whole, behind_bad, body_once, body_within, body_itself, body_stays, body_hopeless}

scan_once : (head_request ended : Bool) (bytes : List ℕ) (found : Result FinalHead Scan) (a b : Scan) → IsScanBehind head_request ended bytes found a → IsScanBehind head_request ended bytes found b → a ≡ b
scan_once head_request ended bytes (Ok head) a b x y =
    x.2 ∙ ap (behind head.to) (body_once (rule_in head_request head.body) ended (drop head.to bytes) x.0 y.0 x.1 y.1) ∙ sym y.2
scan_once head_request ended bytes (Err stop) a b x y = x ∙ sym y

pub unit_once : (part : Part) (head_request ended : Bool) (bytes : List ℕ) (a b : Scan) → IsUnitScan part head_request ended bytes a → IsUnitScan part head_request ended bytes b → a ≡ b
unit_once part head_request ended bytes a b x y =
    scan_once head_request ended bytes y.0 a b
    (subst (λ (r : Result FinalHead Scan). IsScanBehind head_request ended bytes r a) (final_once part bytes x.0 y.0 x.1 y.1) x.2) y.2

-- a whole unit: its final head, and so many bytes of body
pub record WholeUnit (part : Part) (head_request ended : Bool) (bytes : List ℕ) (len : ℕ) : Type 0 where
  pub head : FinalHead
  pub found : IsFinalHead part bytes (Ok head)
  pub size : ℕ
  pub body : IsBodyScan (rule_in head_request head.body) ended (drop head.to bytes) (Whole size)
  pub sum : len ≡ head.to + size

pub whole_unit : (part : Part) (head_request ended : Bool) (bytes : List ℕ) (len : ℕ) → IsUnitScan part head_request ended bytes (Whole len) → WholeUnit part head_request ended bytes len
whole_unit part head_request ended bytes len x = by x.0 x.1 x.2
  where
    by : (r : Result FinalHead Scan) → IsFinalHead part bytes r → IsScanBehind head_request ended bytes r (Whole len) → WholeUnit part head_request ended bytes len
    by (Ok final) y z =
        let w = behind_whole final.to z.0 len z.2 in
        record {
          head = final;
          found = y;
          size = w.0;
          body = subst (λ (s : Scan). IsBodyScan (rule_in head_request final.body) ended (drop final.to bytes) s) w.1 z.1;
          sum = w.2;
        }
    by (Err stop) y z = absurd (false≢true (sym (missing_open part bytes (Err stop) stop y refl) ∙ ap is_whole (sym z)))

unit_made : (part : Part) (head_request ended : Bool) (bytes : List ℕ) (len size : ℕ) (head : FinalHead) → IsFinalHead part bytes (Ok head)
    → IsBodyScan (rule_in head_request head.body) ended (drop head.to bytes) (Whole size) → len ≡ head.to + size → IsUnitScan part head_request ended bytes (Whole len)
unit_made part head_request ended bytes len size head x y sum = (Ok head, x, (Whole size, y, ap Whole sum))

pub unit_some : (part : Part) (head_request ended : Bool) (bytes : List ℕ) (len : ℕ) → IsUnitScan part head_request ended bytes (Whole len) → 0 < len
unit_some part head_request ended bytes len x =
    let w = whole_unit part head_request ended bytes len x in
    let fits = final_fits part bytes (Ok w.head) w.head w.found refl in
    omega (arith, fits.0, w.sum)

pub unit_within : (part : Part) (head_request ended : Bool) (bytes : List ℕ) (len : ℕ) → IsUnitScan part head_request ended bytes (Whole len) → len ≤ length bytes
unit_within part head_request ended bytes len x =
    let w = whole_unit part head_request ended bytes len x in
    let fits = final_fits part bytes (Ok w.head) w.head w.found refl in
    let body = body_within (rule_in head_request w.head.body) ended (drop w.head.to bytes) w.size w.body in
    omega (arith, fits.1, body, w.sum, length-drop w.head.to bytes)

pub unit_itself : (part : Part) (head_request ended : Bool) (bytes : List ℕ) (len : ℕ) → IsUnitScan part head_request ended bytes (Whole len) → IsUnitScan part head_request ended (take len bytes) (Whole len)
unit_itself part head_request ended bytes len x =
    let w = whole_unit part head_request ended bytes len x in
    let rule = rule_in head_request w.head.body in
    let cut : drop w.head.to (take len bytes) ≡ take w.size (drop w.head.to bytes) = ap (λ n. drop w.head.to (take n bytes)) w.sum ∙ drop-take w.head.to w.size bytes in
    unit_made part head_request ended (take len bytes) len w.size w.head
    (final_longer part bytes len (Ok w.head) w.head (omega (arith, w.sum)) w.found refl)
    (subst (λ (t : List ℕ). IsBodyScan rule ended t (Whole w.size)) (sym cut) (body_itself rule ended (drop w.head.to bytes) w.size w.body)) w.sum

pub unit_stays : (part : Part) (head_request ended : Bool) (bytes more : List ℕ) (len : ℕ) → IsUnitScan part head_request false bytes (Whole len) → IsUnitScan part head_request ended (bytes ++ more) (Whole len)
unit_stays part head_request ended bytes more len x =
    let w = whole_unit part head_request false bytes len x in
    let rule = rule_in head_request w.head.body in
    let fits = final_fits part bytes (Ok w.head) w.head w.found refl in
    unit_made part head_request ended (bytes ++ more) len w.size w.head
    (final_stays part bytes more (Ok w.head) w.head w.found refl)
    (subst (λ (t : List ℕ). IsBodyScan rule ended t (Whole w.size)) (sym (drop-append-le w.head.to bytes more fits.1)) (body_stays rule ended (drop w.head.to bytes) more w.size w.body)) w.sum

pub unit_hopeless : (part : Part) (head_request before ended : Bool) (bytes more : List ℕ) (len : ℕ) → IsUnitScan part head_request before bytes Bad → IsUnitScan part head_request ended (bytes ++ more) (Whole len) → ⊥
unit_hopeless part head_request before ended bytes more len x y = by x.0 x.1 x.2
  where
    w : WholeUnit part head_request ended (bytes ++ more) len
    w = whole_unit part head_request ended (bytes ++ more) len y

    by : (r : Result FinalHead Scan) → IsFinalHead part bytes r → IsScanBehind head_request before bytes r Bad → ⊥
    by (Err stop) f z = final_hopeless part bytes more (Err stop) (Ok w.head) w.head f (ap Err (sym z)) w.found refl
    by (Ok head) f z =
        let rule = rule_in head_request head.body in
        let fits = final_fits part bytes (Ok head) head f refl in
        let there = final_stays part bytes more (Ok head) head f refl in
        let same : w.head ≡ head = let q : Ok w.head ≡ Ok head = final_once part (bytes ++ more) (Ok w.head) (Ok head) w.found there in cc q in
        let later = subst (λ (h : FinalHead). IsBodyScan (rule_in head_request h.body) ended (drop h.to (bytes ++ more)) (Whole w.size)) same w.body in
        body_hopeless rule before ended (drop head.to bytes) more w.size
        (subst (λ (s : Scan). IsBodyScan rule before (drop head.to bytes) s) (behind_bad head.to z.0 z.2) z.1)
        (subst (λ (t : List ℕ). IsBodyScan rule ended t (Whole w.size)) (drop-append-le head.to bytes more fits.1) later)

pub unit_framing : (part : Part) (head_request : Bool) → IsUnitFraming (λ ended. IsUnitScan part head_request ended)
unit_framing part head_request = record {
  some_bytes = λ ended bytes len x. unit_some part head_request ended bytes len x;
  within = λ ended bytes len x. unit_within part head_request ended bytes len x;
  itself = λ ended bytes len x. unit_itself part head_request ended bytes len x;
  stays = λ ended bytes more len x. unit_stays part head_request ended bytes more len x;
  hopeless = λ before ended bytes more len x y. unit_hopeless part head_request before ended bytes more len x y;
}

pub request_framing : IsUnitFraming (λ _. IsWholeRequestScan)
request_framing = record {
  some_bytes = λ ended bytes len x. unit_some Request false false bytes len x;
  within = λ ended bytes len x. unit_within Request false false bytes len x;
  itself = λ ended bytes len x. unit_itself Request false false bytes len x;
  stays = λ ended bytes more len x. unit_stays Request false false bytes more len x;
  hopeless = λ before ended bytes more len x y. unit_hopeless Request false false false bytes more len x y;
}

pub shown_once : (reply : List ℕ) (a b : ℕ) → IsShownFrom reply a → IsShownFrom reply b → a ≡ b
shown_once reply a b x y =
    let same : x.0 ≡ y.0 = let q : Ok x.0 ≡ Ok y.0 = final_once Reply reply (Ok x.0) (Ok y.0) x.1 y.1 in cc q in
    x.2 ∙ ap (λ (h : FinalHead). h.from) same ∙ sym y.2

-- a reply that is whole has its final head
pub found_whole : (part : Part) (head_request ended : Bool) (bytes : List ℕ) (found : Result FinalHead Scan) (stop : Scan) → IsUnitScan part head_request ended bytes (Whole (length bytes)) → IsFinalHead part bytes found → found ≡ Err stop → ⊥
found_whole part head_request ended bytes found stop x f e =
    let w = whole_unit part head_request ended bytes (length bytes) x in
    let clash : Ok w.head ≡ Err stop = final_once part bytes (Ok w.head) found w.found f ∙ e in
    absurd (cc clash)
