-- Where the body of a flat form ends, and that a part's flat form has nothing past it.
use Rattle.std.proofs.Common.{◌≡◌, ℕ, ◌-◌, ◌<◌, ◌≤◌, ◌^◌, Bool, true, false, List, [], ◌++◌, length, drop, slice_range, length-take, length-append, append_assoc, append-nil, refl, sym, ap, ◌∙◌, subst, arith}
use Rattle.std.specs.Prelude.{Result, Ok, Err}
use Rattle.std.specs.Int.{to_be_bytes, from_be_bytes, w32}
use Rattle.std.proofs.lemmas.Nat.{from_be_bytes-to_be_bytes_4}
use Rattle.std.proofs.lemmas.List.{drop-append-le, drop_at}
use Rattle.rd_base.specs.declared.values.Scan.{Scan}
use Rattle.rd_base.specs.declared.values.Part.{Part}
use Rattle.rd_http_frame.specs.declared.body.BodyRule.{BodyRule}
use Rattle.rd_http_frame.specs.declared.body.BodyRule.TheVariants.{Empty, Length, Chunked, UntilEnd}
use Rattle.rd_http_frame.specs.declared.unit.FinalHead.{FinalHead}
use Rattle.rd_http_frame.specs.Units.{IsFinalHead, rule_in}
use Rattle.rd_http_frame.specs.Flats.{body_data, behind_last, trailer_of, with_length, answers_head, flat_behind, IsFlat}
use Rattle.rd_http_frame.specs.Chunks.{trailer_from}
use Rattle.rd_http_frame.proofs.FlatForms.{body_begins, slice_stays}
use Rattle.rd_http_frame.proofs.FinalOnce.{final_once, final_fits, final_stays}
use Rattle.rd_http_scan.specs.Scans.{flat_form, flat_form_is}

-- the last four bytes as a number
abbrev pub last_number : List ℕ → ℕ
last_number flat = from_be_bytes w32 (drop (length flat - 4) flat)

-- where the body ends in a flat form: before the trailer and its length in a whole one's
abbrev pub body_end : Bool → List ℕ → ℕ
body_end true flat = length flat - 4 - last_number flat
body_end false flat = length flat

four : (n : ℕ) → length (to_be_bytes w32 n) ≡ 4
four n = refl

-- what stands before a trailer with its length
pub end_at : (before trailer : List ℕ) → length trailer < 2 ^ 32 → body_end true (before ++ with_length trailer) ≡ length before
end_at before trailer small =
    let flat = before ++ with_length trailer in
    let size = length-append before (with_length trailer) in
    let more = length-append trailer (to_be_bytes w32 (length trailer)) in
    let joined : flat ≡ (before ++ trailer) ++ to_be_bytes w32 (length trailer) = sym (append_assoc before trailer (to_be_bytes w32 (length trailer))) in
    let at : length flat - 4 ≡ length (before ++ trailer) = omega (arith, size, more, four (length trailer), length-append before trailer) in
    let cut : drop (length flat - 4) flat ≡ to_be_bytes w32 (length trailer) =
    ap (λ (n : ℕ). drop n flat) at ∙ ap (λ (t : List ℕ). drop (length (before ++ trailer)) t) joined ∙ drop_at (before ++ trailer) (to_be_bytes w32 (length trailer)) (length (before ++ trailer)) refl in
    let number : last_number flat ≡ length trailer = ap (λ (t : List ℕ). from_be_bytes w32 t) cut ∙ from_be_bytes-to_be_bytes_4 (length trailer) small in
    omega (arith, size, more, four (length trailer), number)

last_few : (bytes : List ℕ) (r : Result ℕ Scan) → length (behind_last bytes r) ≤ 65536
last_few bytes (Ok place) = omega (arith, length-take 65536 (drop place bytes))
last_few bytes (Err scan) = omega arith

trailer_few : (rule : BodyRule) (bytes : List ℕ) → length (trailer_of rule bytes) ≤ 65536
trailer_few Empty bytes = omega arith
trailer_few (Length size) bytes = omega arith
trailer_few Chunked bytes = last_few bytes (trailer_from bytes)
trailer_few UntilEnd bytes = omega arith

-- with a final head there
behind_end : (head_request : Bool) (bytes more : List ℕ) (head : FinalHead) → head.from ≤ head.to → head.to ≤ length bytes
    → length (flat_behind head_request bytes false (Ok head)) ≤ body_end true (flat_behind head_request (bytes ++ more) true (Ok head))
behind_end head_request bytes more head order room =
    let rule = rule_in head_request head.body in
    let rest = drop head.to bytes in
    let front = slice_range bytes head.from head.to in
    let front_later = slice_range (bytes ++ more) head.from head.to in
    let rest_later = drop head.to (bytes ++ more) in
    let split : rest_later ≡ rest ++ more = drop-append-le head.to bytes more room in
    let grown = body_begins rule rest more in
    let data_later : body_data rule rest_later ≡ body_data rule rest ++ grown.0 = ap (λ (t : List ℕ). body_data rule t) split ∙ grown.1 in
    let same : front_later ≡ front = slice_stays bytes more head.from head.to order room in
    let trailer = trailer_of rule rest_later in
    let end : body_end true ((front_later ++ body_data rule rest_later) ++ with_length trailer) ≡ length (front_later ++ body_data rule rest_later) =
    end_at (front_later ++ body_data rule rest_later) trailer (omega (arith, trailer_few rule rest_later)) in
    let grouped = append_assoc front_later (body_data rule rest_later) (with_length trailer) in
    let end_here : body_end true (front_later ++ (body_data rule rest_later ++ with_length trailer)) ≡ length (front_later ++ body_data rule rest_later) =
    ap (λ (t : List ℕ). body_end true t) (sym grouped) ∙ end in
    omega (
      arith,
      end_here,
      length-append front_later (body_data rule rest_later),
      ap length same,
      ap length data_later,
      length-append (body_data rule rest) grown.0,
      length-append front (body_data rule rest ++ []),
      ap length (append-nil (body_data rule rest)),
    )

-- the body of what a part becomes ends at or past what its flat form has
pub end_stays : (part : Part) (head_request : Bool) (bytes further flat more : List ℕ) → 0 < length flat
    → flat_form part head_request bytes false ≡ flat → flat_form part head_request (bytes ++ further) true ≡ flat ++ more → length flat ≤ body_end true (flat ++ more)
end_stays part head_request bytes further flat more some before after = by x.0 x.1 x.2
  where
    hr : Bool
    hr = answers_head part head_request

    x : IsFlat part head_request bytes false (flat_form part head_request bytes false)
    x = flat_form_is part head_request bytes false

    y : IsFlat part head_request (bytes ++ further) true (flat_form part head_request (bytes ++ further) true)
    y = flat_form_is part head_request (bytes ++ further) true

    by : (r : Result FinalHead Scan) → IsFinalHead part bytes r → flat_form part head_request bytes false ≡ flat_behind hr bytes false r → length flat ≤ body_end true (flat ++ more)
    by (Err stop) f e = absurd (omega (arith, some, ap length (sym before ∙ e)))
    by (Ok head) f e =
        let fits = final_fits part bytes (Ok head) head f refl in
        let same = final_once part (bytes ++ further) y.0 (Ok head) y.1 (final_stays part bytes further (Ok head) head f refl) in
        let later : flat_behind hr (bytes ++ further) true (Ok head) ≡ flat ++ more = sym (y.2 ∙ ap (flat_behind hr (bytes ++ further) true) same) ∙ after in
        let end = behind_end hr bytes further head (omega (arith, fits.0)) fits.1 in
        let here : flat_behind hr bytes false (Ok head) ≡ flat = sym e ∙ before in
        subst (λ (t : List ℕ). length flat ≤ body_end true t) later
        (subst (λ (t : List ℕ). length t ≤ body_end true (flat_behind hr (bytes ++ further) true (Ok head))) here end)
