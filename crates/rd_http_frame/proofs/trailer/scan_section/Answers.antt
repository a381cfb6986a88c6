use Rattle.std.proofs.Common.{refl, ap, zero-add, Err, ◌∙◌, arith}
use Rattle.rd_base.specs.declared.values.Scan.TheVariants.{Whole}
use Rattle.rd_http_frame.specs.Trailers.IsSectionScan.{ManyLines, Complete}
use Rattle.rd_http_frame.proofs.Sections.{section_exceeds_feeds, section_fields_fit}
use Rattle.rd_http_frame.proofs.trailer.scan_section.Goals as goal

pub returns-in-Ok-Complete-clause-scan : goal.returns-in-Ok-Complete-clause-scan
returns-in-Ok-Complete-clause-scan c =
    let found = rw c.in-Ok-Complete.field-0-is at c.in-Ok-Complete.ensures.complete in
    Complete (omega (arith, c.line_feeds.ensures, c.if-line_feeds-gt-MOST_FIELDS.false))
    found.0 found.1 _ found.2.reads (section_fields_fit 100 _ _ _ _ _ found.0 found.1 found.2 (omega (arith, c.parse_headers.auto.headers)))
    (ap Whole (found.2.len_is ∙ zero-add _))

pub returns-in-Err-TooManyHeaders-clause-scan : goal.returns-in-Err-TooManyHeaders-clause-scan
returns-in-Err-TooManyHeaders-clause-scan c =
    ManyLines (section_exceeds_feeds 100 _ (c.in-Err-TooManyHeaders.ensures.too_many (ap (λ x. Err x) c.in-Err-TooManyHeaders.field-0-is))) refl
