-- HTTP obeys the laws of a grammar.
use Rattle.std.proofs.Common.{◌≡◌, ◌≢◌, ℕ, ◌+◌, ◌-◌, ◌*◌, ◌<◌, ◌≤◌, ◌⊎◌, inl, inr, Bool, true, false, List, [], ◌∷◌, ◌++◌, length, take, drop, length-take, length-drop, length-append, append_assoc, append-nil, refl, sym, ap, ◌∙◌, subst, arith}
use Rattle.std.proofs.lemmas.Bool.{cases_lt}
use Rattle.std.proofs.lemmas.List.{take_all, take-append-le, drop_at}
use Rattle.rd_base.specs.History.{Row}
use Rattle.rd_base.specs.declared.values.Scan.{Scan}
use Rattle.rd_base.specs.declared.values.Scan.TheVariants.{Whole, Bad}
use Rattle.rd_base.specs.declared.values.Part.{Part}
use Rattle.rd_base.specs.declared.values.Part.TheVariants.{Request, Reply}
use Rattle.rd_base.specs.declared.values.Phase.{Phase}
use Rattle.rd_base.specs.declared.values.Note.{Note}
use Rattle.rd_dialect.specs.Grammar.{scan_of, tokens_of, IsPart}
use Rattle.rd_dialect.specs.Laws.{Lawful, IsFront}
use Rattle.rd_http_frame.specs.Units.{IsUnitScan}
use Rattle.rd_http_frame.proofs.UnitCuts.{unit_once, unit_some, unit_within, unit_itself, unit_stays, unit_hopeless}
use Rattle.rd_http_frame.proofs.FlatForms.{flat_forms}
use Rattle.rd_http_frame.proofs.HeadOnce.{take_longer}
use Rattle.rd_http_scan.specs.Scans.{unit_scan, unit_scan_is, flat_form, flat_form_is, flat_form_of_request}
use Rattle.rd_http_scan.specs.Ends.{body_end, end_stays}
use Rattle.rd_base.specs.declared.names.NameRules.{NameRules}
use Rattle.rd_http_tokens.specs.Tokens.{head_tokens}
use Rattle.rd_http_tokens.specs.TokenLaws.{head_online, head_few, trailer_few}
use Rattle.rd_http_tokens.specs.HttpGrammar.{http, is_head, flat_of, left_at, first, front, trailer_in, trailer_left}

-- ---- scans

pub scan_is : (part : Part) (hr ended : Bool) (bytes : List ℕ) (scan : Scan) → unit_scan part hr ended bytes ≡ scan → IsUnitScan part hr ended bytes scan
scan_is part hr ended bytes scan e = subst (IsUnitScan part hr ended bytes) e (unit_scan_is part hr ended bytes)

pub is_scan : (part : Part) (hr ended : Bool) (bytes : List ℕ) (scan : Scan) → IsUnitScan part hr ended bytes scan → unit_scan part hr ended bytes ≡ scan
is_scan part hr ended bytes scan x = unit_once part hr ended bytes (unit_scan part hr ended bytes) scan (unit_scan_is part hr ended bytes) x

itself : (part : Part) (hr ended : Bool) (bytes : List ℕ) (len : ℕ) → unit_scan part hr ended bytes ≡ Whole len → unit_scan part hr ended (take len bytes) ≡ Whole (length (take len bytes))
itself part hr ended bytes len e =
    let x = scan_is part hr ended bytes (Whole len) e in
    let size : len ≡ length (take len bytes) = omega (arith, length-take len bytes, unit_within part hr ended bytes len x) in
    is_scan part hr ended (take len bytes) (Whole len) (unit_itself part hr ended bytes len x) ∙ ap Whole size

-- ---- flat forms

begins : (part : Part) (note : Note) (bytes more : List ℕ) (whole : Bool) → IsFront (flat_of part note bytes false) (flat_of part note (bytes ++ more) whole)
begins part note bytes more whole =
    let hr = is_head note in
    let b = (flat_forms part hr).begins bytes more whole (flat_form part hr bytes false) (flat_form part hr (bytes ++ more) whole) (flat_form_is part hr bytes false) (flat_form_is part hr (bytes ++ more) whole) in
    record { rest = b.rest; is = b.is }

-- ---- the tokens of a part begin those of what it becomes

-- what stands before the body's end of a text that goes on
pub front_more : (flat more : List ℕ) (n : ℕ) → length flat ≤ n → take n (flat ++ more) ≡ flat ++ take (n - length flat) more
front_more flat more n le =
    take_longer (flat ++ more) (length flat) n le
    ∙ ap (λ (t : List ℕ). t ++ take (n - length flat) (drop (length flat) (flat ++ more))) (take-append-le (length flat) flat more (omega arith) ∙ take_all (length flat) flat (omega arith))
    ∙ ap (λ (t : List ℕ). flat ++ take (n - length flat) t) (drop_at flat more (length flat) refl)

-- on a part there is no trailer
part_left : (names : NameRules) (part : Part) (flat : List ℕ) → left_at names part false flat first ≡ head_tokens names part false flat
part_left names part flat = append-nil (head_tokens names part false (take (length flat) flat)) ∙ ap (head_tokens names part false) (take_all (length flat) flat (omega arith))

later_left : (names : NameRules) (part : Part) (flat more : List ℕ) (whole : Bool) → length flat ≤ body_end whole (flat ++ more) → IsFront (left_at names part false flat first) (left_at names part whole (flat ++ more) first)
later_left names part flat more whole le =
    let f = head_online names part whole flat (take (body_end whole (flat ++ more) - length flat) more) in
    let g = subst (λ (t : List ℕ). IsFront (head_tokens names part false flat) (head_tokens names part whole t)) (sym (front_more flat more (body_end whole (flat ++ more)) le)) f in
    let trailer = trailer_left names whole (flat ++ more) in
    record {
      rest = g.rest ++ trailer;
      is = ap (λ ts. ts ++ (g.rest ++ trailer)) (part_left names part flat) ∙ sym (append_assoc (head_tokens names part false flat) g.rest trailer) ∙ ap (λ ts. ts ++ trailer) g.is;
    }

nothing_left : (names : NameRules) (part : Part) → left_at names part false [] first ≡ []
nothing_left names part = part_left names part []

pub ends_later : (part : Part) (hr : Bool) (bytes further flat more : List ℕ) (whole : Bool) → 0 < length flat → flat_form part hr bytes false ≡ flat → flat_form part hr (bytes ++ further) whole ≡ flat ++ more
    → length flat ≤ body_end whole (flat ++ more)
ends_later part hr bytes further flat more true some before after = end_stays part hr bytes further flat more some before after
ends_later part hr bytes further flat more false some before after = omega (arith, length-append flat more)

online_left : (names : NameRules) (part : Part) (note : Note) (bytes further : List ℕ) (whole : Bool)
    → IsFront (left_at names part false (flat_of part note bytes false) first) (left_at names part whole (flat_of part note (bytes ++ further) whole) first)
online_left names part note bytes further whole = by (begins part note bytes further whole)
  where
    hr : Bool
    hr = is_head note

    flat : List ℕ
    flat = flat_of part note bytes false

    some : (more : List ℕ) → flat ++ more ≡ flat_of part note (bytes ++ further) whole → 0 < length flat → IsFront (left_at names part false flat first) (left_at names part whole (flat ++ more) first)
    some more is lt = later_left names part flat more whole (ends_later part hr bytes further flat more whole lt refl (sym is))

    none : (f : List ℕ) (later : List ℕ) → length f ≤ 0 → IsFront (left_at names part false f first) (left_at names part whole later first)
    none [] later le = record { rest = left_at names part whole later first; is = ap (λ ts. ts ++ left_at names part whole later first) (nothing_left names part) }
    none (b ∷ f) later le = absurd (omega (arith, le))

    at : (more : List ℕ) → flat ++ more ≡ flat_of part note (bytes ++ further) whole → (0 < length flat) ⊎ (length flat ≤ 0)
        → IsFront (left_at names part false flat first) (left_at names part whole (flat_of part note (bytes ++ further) whole) first)
    at more is (inl lt) = subst (λ (t : List ℕ). IsFront (left_at names part false flat first) (left_at names part whole t first)) is (some more is lt)
    at more is (inr le) = none flat (flat_of part note (bytes ++ further) whole) le

    by : IsFront flat (flat_of part note (bytes ++ further) whole) → IsFront (left_at names part false flat first) (left_at names part whole (flat_of part note (bytes ++ further) whole) first)
    by f = at f.rest f.is (cases_lt 0 (length flat))

-- ---- numbers

cut_sizes : (whole : Bool) (flat : List ℕ) → length (front whole flat) + length (trailer_in whole flat) ≤ length flat
cut_sizes true flat = omega (arith, length-take (body_end true flat) flat, length-drop (body_end true flat) (take (length flat - 4) flat), length-take (length flat - 4) flat)
cut_sizes false flat = omega (arith, length-take (length flat) flat)

left_few : (names : NameRules) (part : Part) (whole : Bool) (flat : List ℕ) → length (left_at names part whole flat first) ≤ length flat + 1
left_few names part whole flat =
    let text = front whole flat in
    let end = trailer_in whole flat in
    omega (arith, length-append (head_tokens names part whole text) (trailer_left names whole flat), head_few names part whole text, trailer_few (length end) names end, cut_sizes whole flat)

flat_size : (part : Part) (note : Note) (bytes : List ℕ) (whole : Bool) → length (flat_of part note bytes whole) ≤ 3 * length bytes + 4
flat_size part note bytes whole =
    let hr = is_head note in
    (flat_forms part hr).size bytes whole (flat_form part hr bytes whole) (flat_form_is part hr bytes whole)

-- ---- a request's form

request_flat : (note other : Note) (bytes : List ℕ) (whole : Bool) → flat_of Request note bytes whole ≡ flat_of Request other bytes whole
request_flat note other bytes whole = flat_form_of_request (is_head note) (is_head other) bytes whole

-- ---- the law

pub http_lawful : (names : NameRules) (learns : Bool) (asked : List ℕ → List (List ℕ)) (to_copy : ℕ → List Row → List ℕ → List ℕ) → Lawful (http names learns asked to_copy)
http_lawful names learns asked to_copy =
    record {
      within = within;
      some_bytes = some_bytes;
      itself = itself_of;
      stays = stays;
      hopeless = hopeless;
      online = online;
      all_left = all_left;
      flat_len = λ part phase note bytes whole. flat_size part note bytes whole;
      token_count = λ part phase note flat whole. left_few names part whole flat;
      flat_front = λ part phase note bytes more whole stands. begins part note bytes more whole;
      last = λ phase note bytes len farewell. absurd (cc farewell);
      note_free = note_free;
      flat_note_free = λ phase note other bytes whole. request_flat note other bytes whole;
    }
  where
    note_free : (phase : Phase) (note other : Note) (bytes : List ℕ) (whole : Bool)
        → tokens_of (http names learns asked to_copy) Request phase note bytes whole ≡ tokens_of (http names learns asked to_copy) Request phase other bytes whole
    note_free phase note other bytes true = ap (λ flat. left_at names Request true flat first) (request_flat note other bytes true)
    note_free phase note other bytes false = ap (λ flat. left_at names Request false flat first) (request_flat note other bytes false)

    within : (part : Part) (phase : Phase) (note : Note) (bytes : List ℕ) (ended : Bool) (len : ℕ) → scan_of (http names learns asked to_copy) part phase note bytes ended ≡ Whole len → len ≤ length bytes
    within Request phase note bytes ended len e = unit_within Request false false bytes len (scan_is Request false false bytes (Whole len) e)
    within Reply phase note bytes ended len e = unit_within Reply (is_head note) ended bytes len (scan_is Reply (is_head note) ended bytes (Whole len) e)

    some_bytes : (part : Part) (phase : Phase) (note : Note) (bytes : List ℕ) (ended : Bool) (len : ℕ) → scan_of (http names learns asked to_copy) part phase note bytes ended ≡ Whole len → 0 < len
    some_bytes Request phase note bytes ended len e = unit_some Request false false bytes len (scan_is Request false false bytes (Whole len) e)
    some_bytes Reply phase note bytes ended len e = unit_some Reply (is_head note) ended bytes len (scan_is Reply (is_head note) ended bytes (Whole len) e)

    itself_of : (part : Part) (phase : Phase) (note : Note) (bytes : List ℕ) (ended : Bool) (len : ℕ) → scan_of (http names learns asked to_copy) part phase note bytes ended ≡ Whole len
        → scan_of (http names learns asked to_copy) part phase note (take len bytes) ended ≡ Whole (length (take len bytes))
    itself_of Request phase note bytes ended len e = itself Request false false bytes len e
    itself_of Reply phase note bytes ended len e = itself Reply (is_head note) ended bytes len e

    stays : (part : Part) (phase : Phase) (note : Note) (bytes more : List ℕ) (ended : Bool) (len : ℕ) → scan_of (http names learns asked to_copy) part phase note bytes false ≡ Whole len
        → scan_of (http names learns asked to_copy) part phase note (bytes ++ more) ended ≡ Whole len
    stays Request phase note bytes more ended len e = is_scan Request false false (bytes ++ more) (Whole len) (unit_stays Request false false bytes more len (scan_is Request false false bytes (Whole len) e))
    stays Reply phase note bytes more ended len e = is_scan Reply (is_head note) ended (bytes ++ more) (Whole len) (unit_stays Reply (is_head note) ended bytes more len (scan_is Reply (is_head note) false bytes (Whole len) e))

    hopeless : (part : Part) (phase : Phase) (note : Note) (bytes more : List ℕ) (ended : Bool) (len : ℕ) → scan_of (http names learns asked to_copy) part phase note bytes false ≡ Bad
        → scan_of (http names learns asked to_copy) part phase note (bytes ++ more) ended ≢ Whole len
    hopeless Request phase note bytes more ended len e f =
        unit_hopeless Request false false false bytes more len (scan_is Request false false bytes Bad e) (scan_is Request false false (bytes ++ more) (Whole len) f)
    hopeless Reply phase note bytes more ended len e f =
        unit_hopeless Reply (is_head note) false ended bytes more len (scan_is Reply (is_head note) false bytes Bad e) (scan_is Reply (is_head note) ended (bytes ++ more) (Whole len) f)

    online : (part : Part) (phase : Phase) (note : Note) (bytes more : List ℕ) (whole : Bool) → IsPart (http names learns asked to_copy) part phase note (bytes ++ more) whole
        → IsFront (left_at names part false (flat_of part note bytes false) first) (tokens_of (http names learns asked to_copy) part phase note (bytes ++ more) whole)
    online part phase note bytes more true stands = online_left names part note bytes more true
    online part phase note bytes more false stands = online_left names part note bytes more false

    all_left : (part : Part) (phase : Phase) (note : Note) (bytes : List ℕ) (whole : Bool) → IsPart (http names learns asked to_copy) part phase note bytes whole
        → left_at names part whole (flat_of part note bytes whole) first ≡ tokens_of (http names learns asked to_copy) part phase note bytes whole
    all_left part phase note bytes true stands = refl
    all_left part phase note bytes false stands = refl
