-- Trailers are cut in one way.
use Rattle.std.proofs.Common.{◌≡◌, ℕ, ◌+◌, ◌<◌, ◌≤◌, List, [], ◌++◌, length, take, ap, sym, ◌∙◌, refl, subst, arith, append_assoc, append-nil}
use Rattle.httparse.specs.Grammar.{Field, LineEnd, print_end, print_section, ReadsSection, NeverHasSection}
use Rattle.httparse.proofs.GrammarLemmas.{section_unique}
use Rattle.rd_base.specs.declared.values.Scan.{Scan}
use Rattle.rd_base.specs.declared.values.Scan.TheVariants.{Whole, Bad}
use Rattle.rd_http_frame.specs.Fronts.{line_feeds, fresh}
use Rattle.rd_http_frame.specs.Heads.{seen}
use Rattle.rd_http_frame.specs.Trailers.{IsSectionScan, IsTrailerScan, trailer_feeds}
use Rattle.rd_http_frame.specs.Trailers.{IsSectionScan as section}
use Rattle.rd_http_frame.proofs.HeadLines.{feeds-fields}
use Rattle.rd_http_frame.proofs.HeadCuts.{seen_more, front_small, seen_itself, last_feeds, not_unfinished, not_open}

too_many : {A : Type 0} (bytes : List ℕ) → 100 < trailer_feeds bytes → trailer_feeds bytes ≤ 100 → A
too_many bytes over fits = absurd (omega (arith, over, fits))

never_reads : (bytes : List ℕ) → NeverHasSection bytes → (fields : List Field) (last : LineEnd) (rest : List ℕ) → ReadsSection bytes fields last rest → ⊥
never_reads bytes never fields last rest reads = never [] fields last rest (subst (λ (t : List ℕ). ReadsSection t fields last rest) (sym (append-nil bytes)) reads)

section_once : (bytes : List ℕ) (a b : Scan) → IsSectionScan bytes a → IsSectionScan bytes b → a ≡ b
section_once bytes a b (section.ManyLines over e) (section.ManyLines o f) = e ∙ sym f
section_once bytes a b (section.ManyLines over e) (section.Complete fits fields last rest reads few f) = too_many bytes over fits
section_once bytes a b (section.ManyLines over e) (section.Hopeless fits never f) = too_many bytes over fits
section_once bytes a b (section.ManyLines over e) (section.Open fits none may f) = too_many bytes over fits
section_once bytes a b (section.Complete fits fields last rest reads few e) (section.ManyLines over f) = too_many bytes over fits
section_once bytes a b (section.Complete fits fs last rest reads few e) (section.Complete ff gs end more found fw f) =
    let same = section_unique bytes fs gs last end rest more reads found in
    e ∙ ap (λ (t : List Field). Whole (length (print_section t last))) same.0 ∙ ap (λ (t : LineEnd). Whole (length (print_section gs t))) same.1 ∙ sym f
section_once bytes a b (section.Complete fits fields last rest reads few e) (section.Hopeless ff never f) = absurd (never_reads bytes never fields last rest reads)
section_once bytes a b (section.Complete fits fields last rest reads few e) (section.Open ff none may f) = absurd (none fields last rest reads)
section_once bytes a b (section.Hopeless fits never e) (section.ManyLines over f) = too_many bytes over fits
section_once bytes a b (section.Hopeless fits never e) (section.Complete ff fields last rest reads few f) = absurd (never_reads bytes never fields last rest reads)
section_once bytes a b (section.Hopeless fits never e) (section.Hopeless ff n f) = e ∙ sym f
section_once bytes a b (section.Hopeless fits never e) (section.Open ff none may f) = absurd (never may.0 may.1 may.2 [] may.3)
section_once bytes a b (section.Open fits none may e) (section.ManyLines over f) = too_many bytes over fits
section_once bytes a b (section.Open fits none may e) (section.Complete ff fields last rest reads few f) = absurd (none fields last rest reads)
section_once bytes a b (section.Open fits none may e) (section.Hopeless ff never f) = absurd (never may.0 may.1 may.2 [] may.3)
section_once bytes a b (section.Open fits none may e) (section.Open ff n m f) = e ∙ sym f

pub trailer_once : (bytes : List ℕ) (a b : Scan) → IsTrailerScan bytes a → IsTrailerScan bytes b → a ≡ b
trailer_once bytes a b x y = section_once (seen bytes) a b x y

pub record WholeSection (buf : List ℕ) (len : ℕ) : Type 0 where
  pub fields : List Field
  pub last : LineEnd
  pub rest : List ℕ
  pub reads : ReadsSection buf fields last rest
  pub few : length fields ≤ 100
  pub is : len ≡ length (print_section fields last)

pub whole_section : (buf : List ℕ) (len : ℕ) → IsSectionScan buf (Whole len) → WholeSection buf len
whole_section buf len (section.ManyLines over e) = absurd (cc e)
whole_section buf len (section.Complete fits fs end more found fw e) = record { fields = fs; last = end; rest = more; reads = found; few = fw; is = cc e }
whole_section buf len (section.Hopeless fits never e) = absurd (cc e)
whole_section buf len (section.Open fits nothing may e) = absurd (not_unfinished buf len e)

pub section_made : (buf : List ℕ) (fields : List Field) (last : LineEnd) (rest : List ℕ) → ReadsSection buf fields last rest → length fields ≤ 100 → IsSectionScan buf (Whole (length (print_section fields last)))
section_made buf fields last rest reads few =
    let feeds : trailer_feeds buf ≡ length fields + line_feeds fresh (print_end last ++ rest) =
    ap (λ (t : List ℕ). trailer_feeds t) (reads.1 ∙ append_assoc _ (print_end last) rest) ∙ feeds-fields fields (print_end last ++ rest) reads.0 in
    section.Complete (omega (arith, feeds, few, last_feeds last rest)) fields last rest reads few refl

section_again : (buf : List ℕ) (len : ℕ) (w : WholeSection buf len) (text rest : List ℕ) → text ≡ print_section w.fields w.last ++ rest → IsSectionScan text (Whole len)
section_again buf len w text rest e =
    subst (λ (n : ℕ). IsSectionScan text (Whole n)) (sym w.is) (section_made text w.fields w.last rest (w.reads.0, e) w.few)

pub trailer_within : (bytes : List ℕ) (len : ℕ) → IsTrailerScan bytes (Whole len) → (len ≤ 65536) × (len ≤ length bytes)
trailer_within bytes len scan =
    let w = whole_section (seen bytes) len scan in
    let small = front_small bytes (print_section w.fields w.last) w.rest w.reads.1 in
    (omega (arith, w.is, small.0), omega (arith, w.is, small.1))

pub trailer_itself : (bytes : List ℕ) (len : ℕ) → IsTrailerScan bytes (Whole len) → IsTrailerScan (take len bytes) (Whole len)
trailer_itself bytes len scan =
    let w = whole_section (seen bytes) len scan in
    let text = print_section w.fields w.last in
    section_again (seen bytes) len w (seen (take len bytes)) []
    (ap (λ (n : ℕ). seen (take n bytes)) w.is ∙ seen_itself bytes text w.rest w.reads.1 ∙ sym (append-nil text))

pub trailer_stays : (bytes more : List ℕ) (len : ℕ) → IsTrailerScan bytes (Whole len) → IsTrailerScan (bytes ++ more) (Whole len)
trailer_stays bytes more len scan =
    let w = whole_section (seen bytes) len scan in
    let z = seen_more bytes more in
    let text = print_section w.fields w.last in
    section_again (seen bytes) len w (seen (bytes ++ more)) (w.rest ++ z.0)
    (z.1 ∙ ap (λ (t : List ℕ). t ++ z.0) w.reads.1 ∙ append_assoc text w.rest z.0)

hopeless_here : (buf more : List ℕ) (len : ℕ) → IsSectionScan buf Bad → IsSectionScan (buf ++ more) (Whole len) → ⊥
hopeless_here buf more len (section.ManyLines over e) scan = absurd (cc e)
hopeless_here buf more len (section.Complete fits fields last rest reads few e) scan = absurd (cc e)
hopeless_here buf more len (section.Hopeless fits never e) scan =
    let w = whole_section (buf ++ more) len scan in
    never more w.fields w.last w.rest w.reads
hopeless_here buf more len (section.Open fits nothing may e) scan = absurd (not_open buf e)

pub trailer_hopeless : (bytes more : List ℕ) (len : ℕ) → IsTrailerScan bytes Bad → IsTrailerScan (bytes ++ more) (Whole len) → ⊥
trailer_hopeless bytes more len bad scan =
    let z = seen_more bytes more in
    hopeless_here (seen bytes) z.0 len bad (subst (λ (t : List ℕ). IsSectionScan t (Whole len)) z.1 scan)
