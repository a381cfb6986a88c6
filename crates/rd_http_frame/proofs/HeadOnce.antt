-- A head that is whole is one head, however many bytes follow it.
use Rattle.std.proofs.Common.{◌≡◌, ℕ, ◌+◌, ◌-◌, ◌≤◌, false, List, ◌++◌, take, drop, take-add, refl, sym, ap, ◌∙◌, subst, arith}
use Rattle.std.proofs.lemmas.Bool.{false≢true}
use Rattle.std.proofs.lemmas.List.{take-append-drop}
use Rattle.httparse.specs.Grammar.{ReadsRequest, ReadsResponse}
use Rattle.httparse.proofs.GrammarLemmas.{request_unique, response_unique, ReadsRequest-append, ReadsResponse-append}
use Rattle.rd_base.specs.declared.values.Scan.{Scan}
use Rattle.rd_base.specs.declared.values.Scan.TheVariants.{Whole}
use Rattle.rd_base.specs.declared.values.Part.{Part}
use Rattle.rd_base.specs.declared.values.Part.TheVariants.{Request, Reply}
use Rattle.rd_http_frame.specs.Heads.{IsHeadScan, seen}
use Rattle.rd_http_frame.specs.Places.{HeadPlaces, IsHead, request_places, reply_places}
use Rattle.rd_http_frame.specs.WholeHeads.{BeginsWith, is_whole}
use Rattle.rd_http_frame.proofs.Unique.{head_once}
use Rattle.rd_http_frame.proofs.HeadCuts.{seen_more, head_framing, whole_request, whole_reply}

places_once : (part : Part) (bytes : List ℕ) (a b : HeadPlaces) → IsHead part bytes a → IsHead part bytes b → a ≡ b
places_once Request bytes a b x y = x.3 ∙ ap request_places (request_unique (seen bytes) x.0 y.0 x.1 y.1 x.2 y.2).0 ∙ sym y.3
places_once Reply bytes a b x y = x.3 ∙ ap reply_places (response_unique (seen bytes) x.0 y.0 x.1 y.1 x.2 y.2).0 ∙ sym y.3

places_stay : (part : Part) (bytes more : List ℕ) (head : HeadPlaces) → IsHead part bytes head → IsHead part (bytes ++ more) head
places_stay Request bytes more head x =
    let z = seen_more bytes more in (
      x.0,
      x.1 ++ z.0,
      subst (λ (t : List ℕ). ReadsRequest t x.0 (x.1 ++ z.0)) (sym z.1) (ReadsRequest-append (seen bytes) x.0 x.1 z.0 x.2),
      x.3,
    )
places_stay Reply bytes more head x =
    let z = seen_more bytes more in (
      x.0,
      x.1 ++ z.0,
      subst (λ (t : List ℕ). ReadsResponse t x.0 (x.1 ++ z.0)) (sym z.1) (ReadsResponse-append (seen bytes) x.0 x.1 z.0 x.2),
      x.3,
    )

-- a whole head has places
places_there : (part : Part) (bytes : List ℕ) (len : ℕ) → IsHeadScan part bytes (Whole len) → (head : HeadPlaces) × IsHead part bytes head
places_there Request bytes len scan = let w = whole_request (seen bytes) len scan in (request_places w.h, (w.h, w.rest, w.reads, refl))
places_there Reply bytes len scan = let w = whole_reply (seen bytes) len scan in (reply_places w.h, (w.h, w.rest, w.reads, refl))

pub begins_once : (part : Part) (bytes : List ℕ) (m n : ℕ) (a b : HeadPlaces) → BeginsWith part bytes m a → BeginsWith part bytes n b → (m ≡ n) × (a ≡ b)
begins_once part bytes m n a b x y =
    let same : Whole m ≡ Whole n = head_once part bytes (Whole m) (Whole n) x.whole y.whole in
    (cc same, places_once part bytes a b x.places y.places)

pub begins_or_not : (part : Part) (bytes : List ℕ) (len : ℕ) (head : HeadPlaces) (scan : Scan) → BeginsWith part bytes len head → IsHeadScan part bytes scan → is_whole scan ≡ false → ⊥
begins_or_not part bytes len head scan x y none =
    false≢true (sym none ∙ ap is_whole (head_once part bytes scan (Whole len) y x.whole))

pub begins_stays : (part : Part) (bytes more : List ℕ) (len : ℕ) (head : HeadPlaces) → BeginsWith part bytes len head → BeginsWith part (bytes ++ more) len head
begins_stays part bytes more len head x =
    record { whole = (head_framing part).stays bytes more len x.whole; places = places_stay part bytes more head x.places }

-- so many bytes of a text, and more of it
pub take_longer : (bytes : List ℕ) (m n : ℕ) → m ≤ n → take n bytes ≡ take m bytes ++ take (n - m) (drop m bytes)
take_longer bytes m n h =
    let sum : n ≡ m + (n - m) = omega arith in
    ap (λ k. take k bytes) sum ∙ take-add m (n - m) bytes

pub begins_itself : (part : Part) (bytes : List ℕ) (len n : ℕ) (head : HeadPlaces) → len ≤ n → BeginsWith part bytes len head → BeginsWith part (take n bytes) len head
begins_itself part bytes len n head h x =
    let alone = (head_framing part).itself bytes len x.whole in
    let there = places_there part (take len bytes) len alone in
    let short : BeginsWith part (take len bytes) len there.0 = record { whole = alone; places = there.1 } in
    let back : BeginsWith part bytes len there.0 =
    subst (λ (t : List ℕ). BeginsWith part t len there.0) (take_back bytes len) (begins_stays part (take len bytes) (drop len bytes) len there.0 short) in
    let same : there.0 ≡ head = places_once part bytes there.0 head back.places x.places in
    subst (λ (t : List ℕ). BeginsWith part t len head) (sym (take_longer bytes len n h))
    (begins_stays part (take len bytes) (take (n - len) (drop len bytes)) len head (subst (λ (p : HeadPlaces). BeginsWith part (take len bytes) len p) same short))
  where
    take_back : (bytes : List ℕ) (len : ℕ) → take len bytes ++ drop len bytes ≡ bytes
    take_back bytes len = take-append-drop len bytes
