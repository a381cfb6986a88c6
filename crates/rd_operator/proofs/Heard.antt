-- What is heard of a source, an answer further.
use Rattle.std.proofs.Common.{◌≡◌, ℕ, ◌<◌, ◌≤◌, Bool, true, false, nat_le, List, [], ◌∷◌, ◌++◌, length, length-take, append_assoc, refl, sym, ap, ◌∙◌, subst, arith, inl, inr, fold, Option, if◌then◌else◌}
use Rattle.std.specs.Prelude.{MatchBool, Result, Ok, Err, OnOk, is_err}
use Rattle.std.proofs.lemmas.Bool.Decides.{nat_tests}
use Rattle.std.proofs.lemmas.List.Sums.{fold-append}
use Rattle.rd_base.specs.declared.values.Scan.{Scan}
use Rattle.rd_base.specs.declared.values.Scan.TheVariants.{Whole, More, Bad, TooBig, Unsupported}
use Rattle.rd_base.specs.declared.values.Part.TheVariants.{Request}
use Rattle.rd_http_frame.specs.Heads.{IsRequestScan, seen}
use Rattle.rd_http_frame.specs.Heads.IsRequestScan.{ManyLines, Complete, Hopeless, Open}
use Rattle.rd_http_scan.specs.Scans.{head_scan, head_scan_is}
use Rattle.rd_base.specs.declared.source.Give.{Give}
use Rattle.rd_base.specs.declared.source.Give.TheVariants as give
use Rattle.rd_base.specs.Counts.{told_with}
use Rattle.rd_base.specs.Outside.{Rose}
use Rattle.rd_base.specs.Sources.{SourceTold, Gives}
use Rattle.rd_operator.specs.declared.hearing.Heard.{Heard}
use Rattle.rd_operator.specs.declared.hearing.Heard.TheVariants.{ReadFail}
use Rattle.rd_operator.specs.declared.hearing.Heard.TheVariants as heard
use Rattle.rd_operator.specs.Hearing.{is_more, is_part, ended_with, Hears, Takes}

-- ---- a part of a head has fewer than 65,536 bytes

no_answer : (good connect trace : Bool) (len : ℕ)
    → More ≡ (if good then (if connect then Unsupported 1 else if trace then Unsupported 2 else Whole len) else Bad) → ⊥
no_answer true true trace len e = cc e
no_answer true false true len e = cc e
no_answer true false false len e = cc e
no_answer false connect trace len e = cc e

unfinished_short : (len : ℕ) (t : Bool) → nat_le 65536 len ≡ t → More ≡ (if t then TooBig else More) → len < 65536
unfinished_short len true h e = absurd (cc e)
unfinished_short len false h e = grind (arith, nat_tests, h)

scan_short : (bytes : List ℕ) → IsRequestScan bytes More → length bytes < 65536
scan_short bytes (ManyLines many e) = absurd (cc e)
scan_short bytes (Complete fits h rest reads few e) = absurd (no_answer _ _ _ _ e)
scan_short bytes (Hopeless hopeless e) = absurd (cc e)
scan_short bytes (Open unsettled e) = unfinished_short (length bytes) (nat_le 65536 (length bytes)) refl e

more_of : (scan : Scan) → is_more scan ≡ true → scan ≡ More
more_of (Whole len) h = absurd (cc h)
more_of More h = refl
more_of Bad h = absurd (cc h)
more_of TooBig h = absurd (cc h)
more_of (Unsupported code) h = absurd (cc h)

pub part_short : (bytes : List ℕ) → is_part bytes ≡ true → length bytes < 65536
part_short bytes h =
    let scan = subst (λ s. IsRequestScan (seen bytes) s) (more_of (head_scan Request bytes) h) (head_scan_is Request bytes) in
    omega (arith, scan_short (seen bytes) scan, length-take 65536 bytes)

-- ---- in the midst of a call

-- these bytes were read, and are a part of a head
pub record HearsOn (bytes : List ℕ) (before now : SourceTold) : Type 0 where
  pub gives : List Give
  pub given : now.given ≡ fold told_with before.given gives
  pub on : (further : List Give) (heard : Heard) → Hears bytes further heard → Hears [] (gives ++ further) heard
  pub short : length bytes < 65536
  pub faults : before.faults ≤ now.faults
  pub mark : now.mark ≡ before.mark

pub begins : (source : SourceTold) → HearsOn [] source source
begins source = record { gives = []; given = refl; on = λ further heard h. h; short = omega arith; faults = omega arith; mark = refl }

rose_later : (before now after : ℕ) → before ≤ now → Rose now after → Rose before after
rose_later before now after h (inl less) = inl (omega arith)
rose_later before now after h (inr last) = inr last

given_more : (before now after : Option (List Give)) (gives : List Give) (give : Give)
    → now ≡ fold told_with before gives → after ≡ told_with now give → after ≡ fold told_with before (gives ++ give ∷ [])
given_more before now after gives give h e =
    e ∙ ap (λ t. told_with t give) h ∙ sym (fold-append told_with before gives (give ∷ []))

part_on : (t : Bool) (P Q : Type 0) → t ≡ true → P → MatchBool t P Q
part_on true P Q h p = p
part_on false P Q h p = absurd (cc h)

whole_on : (t : Bool) (P Q : Type 0) → t ≡ false → Q → MatchBool t P Q
whole_on true P Q h q = absurd (cc h)
whole_on false P Q h q = q

-- a piece more, with which the bytes are still a part
pub piece_on : {most : ℕ} {before now after : SourceTold} (bytes piece all : List ℕ) → HearsOn bytes before now
    → Gives most (give.Piece piece) now after → all ≡ bytes ++ piece → is_part all ≡ true → HearsOn all before after
piece_on bytes piece all x y e part = rw e (record {
  gives = x.gives ++ give.Piece piece ∷ [];
  given = given_more _ _ _ x.gives (give.Piece piece) x.given y.given;
  on = λ further heard h.
      subst (λ (g : List Give). Hears [] g heard) (sym (append_assoc x.gives (give.Piece piece ∷ []) further))
      (x.on (give.Piece piece ∷ further) heard (part_on (is_part (bytes ++ piece)) _ _ (ap is_part (sym e) ∙ part) h));
  short = part_short (bytes ++ piece) (ap is_part (sym e) ∙ part);
  faults = omega (arith, x.faults, y.faults);
  mark = y.mark ∙ x.mark;
})

-- ---- the last answer

pub stops : {most : ℕ} {before now after : SourceTold} (bytes : List ℕ) (last : Give) (heard : Heard) → HearsOn bytes before now
    → Gives most last now after → Hears bytes (last ∷ []) heard → (heard ≡ ReadFail → last ≡ give.Failed) → Takes heard before after
stops bytes last heard x y h fails = record {
  gives = x.gives ++ last ∷ [];
  given = given_more _ _ _ x.gives last x.given y.given;
  hears = inr (x.on (last ∷ []) heard h);
  failed = λ e. rose_later _ _ _ x.faults (y.failed (fails e));
  faults = omega (arith, x.faults, y.faults);
  mark = y.mark ∙ x.mark;
}

-- with this piece the bytes are no longer a part
pub stops_whole : {most : ℕ} {before now after : SourceTold} (bytes piece all : List ℕ) → HearsOn bytes before now
    → Gives most (give.Piece piece) now after → all ≡ bytes ++ piece → is_part all ≡ false → Takes (heard.Bytes all) before after
stops_whole bytes piece all x y e part =
    rw e (stops bytes (give.Piece piece) (heard.Bytes (bytes ++ piece)) x y (whole_on (is_part (bytes ++ piece)) _ _ (ap is_part (sym e) ∙ part) (refl, refl)) (λ f. absurd (cc f)))

not_failed : (bytes : List ℕ) → ended_with bytes ≡ ReadFail → ⊥
not_failed [] e = cc e
not_failed (b ∷ bytes) e = cc e

pub stops_ended : {most : ℕ} {before now after : SourceTold} (bytes : List ℕ) → HearsOn bytes before now
    → Gives most give.End now after → Takes (ended_with bytes) before after
stops_ended bytes x y = stops bytes give.End (ended_with bytes) x y (refl, refl) (λ e. absurd (not_failed bytes e))

pub stops_failed : {most : ℕ} {before now after : SourceTold} (bytes : List ℕ) → HearsOn bytes before now
    → Gives most give.Failed now after → Takes ReadFail before after
stops_failed bytes x y = stops bytes give.Failed ReadFail x y (refl, refl) (λ e. refl)

-- want of memory, in the source or behind an answer
pub starves : {most : ℕ} {before now after : SourceTold} (bytes : List ℕ) (last : Give) → HearsOn bytes before now
    → Gives most last now after → Takes heard.NoMemory before after
starves bytes last x y = record {
  gives = x.gives ++ last ∷ [];
  given = given_more _ _ _ x.gives last x.given y.given;
  hears = inl refl;
  failed = λ e. absurd (cc e);
  faults = omega (arith, x.faults, y.faults);
  mark = y.mark ∙ x.mark;
}

-- bytes with a piece appended
pub appended : {E : Type 0} (r : Result (Unit {0}) E) (now bytes piece slice : List ℕ) → OnOk r (now ≡ bytes ++ slice) → is_err r ≡ false
    → slice ≡ piece → now ≡ bytes ++ piece
appended (Ok x) now bytes piece slice h ok same = h ∙ ap (λ (t : List ℕ). bytes ++ t) same
appended (Err e) now bytes piece slice h ok same = absurd (cc ok)
