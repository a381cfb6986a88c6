-- What flat forms have in common.
use Rattle.std.proofs.Common.{◌≡◌, ℕ, zero, suc, ◌+◌, ◌-◌, ◌*◌, ◌<◌, ◌≤◌, ◌⊎◌, inl, inr, Bool, true, false, if◌then◌else◌, List, [], ◌∷◌, ◌++◌, length, take, drop, slice_range, length-take, length-drop, length-append, append_assoc, append-nil, Result, Ok, Err, Option, Some, None, refl, sym, ap, ◌∙◌, arith}
use Rattle.std.proofs.lemmas.Bool.{cases_lt}
use Rattle.std.proofs.lemmas.List.{take-append-le, drop-append-le, drop_all}
use Rattle.std.specs.Int.{to_be_bytes, w32}
use Rattle.rd_base.specs.Outside.{IsPrefixOf}
use Rattle.rd_base.specs.declared.values.Scan.{Scan}
use Rattle.rd_base.specs.declared.values.Scan.TheVariants.{More}
use Rattle.rd_base.specs.declared.values.Part.{Part}
use Rattle.rd_http_frame.specs.declared.body.BodyRule.{BodyRule}
use Rattle.rd_http_frame.specs.declared.body.BodyRule.TheVariants.{Empty, Length, Chunked, UntilEnd}
use Rattle.rd_http_frame.specs.declared.chunk.SizeLine.{SizeLine}
use Rattle.rd_http_frame.specs.declared.unit.FinalHead.{FinalHead}
use Rattle.rd_http_frame.specs.Chunks.{size_line, data_line, chunk_data, trailer_from}
use Rattle.rd_http_frame.specs.Units.{IsFinalHead, rule_in}
use Rattle.rd_http_frame.specs.Flats.{body_data, behind_last, trailer_of, with_length, flat_body, answers_head, flat_behind, IsFlat}
use Rattle.rd_http_frame.specs.FlatLaws.{AreFlatForms}
use Rattle.rd_http_frame.proofs.HeadCuts.{take_cut}
use Rattle.rd_http_frame.proofs.ChunkSteps.{line_fits}
use Rattle.rd_http_frame.proofs.ChunkCuts.{size_line_stays}
use Rattle.rd_http_frame.proofs.ChunkData.{data_shows, data_fewer, data_here, data_none}
use Rattle.rd_http_frame.proofs.FinalOnce.{final_once, final_fits, final_stays}

flat_once : (part : Part) (head_request : Bool) (bytes : List ℕ) (whole : Bool) (a b : List ℕ) → IsFlat part head_request bytes whole a → IsFlat part head_request bytes whole b → a ≡ b
flat_once part head_request bytes whole a b x y =
    x.2 ∙ ap (flat_behind (answers_head part head_request) bytes whole) (final_once part bytes x.0 y.0 x.1 y.1) ∙ sym y.2

-- ---- a part's begins the whole's

data_stays : (bytes more : List ℕ) (line : SizeLine) → data_line (size_line bytes) ≡ Some line → data_line (size_line (bytes ++ more)) ≡ Some line
data_stays bytes more line e =
    let shown = data_shows (size_line bytes) line e in
    ap data_line (size_line_stays bytes more (λ q. let bad : Ok line ≡ Err More = sym shown ∙ q in cc bad)) ∙ e

data_begins : (k : ℕ) (bytes more : List ℕ) → length bytes ≤ k → (r : List ℕ) × (chunk_data (bytes ++ more) ≡ chunk_data bytes ++ r)
data_begins zero [] more h = (chunk_data more, refl)
data_begins zero (b ∷ bytes) more h = absurd (omega (arith, h))
data_begins (suc k) bytes more h = by (data_line (size_line bytes)) refl (λ rest. data_begins k rest more)
  where
    by : (r : Option SizeLine) → data_line (size_line bytes) ≡ r → ((rest : List ℕ) → length rest ≤ k → (r : List ℕ) × (chunk_data (rest ++ more) ≡ chunk_data rest ++ r))
        → (r : List ℕ) × (chunk_data (bytes ++ more) ≡ chunk_data bytes ++ r)
    by None is ih = (chunk_data (bytes ++ more), ap (λ (t : List ℕ). t ++ chunk_data (bytes ++ more)) (sym (data_none bytes is)))
    by (Some line) is ih = by_room (cases_lt (length d) (s + 2))
      where
        s : ℕ
        s = line.size

        d : List ℕ
        d = drop line.len bytes

        next : List ℕ
        next = drop (s + 2) d

        here : chunk_data bytes ≡ take s d ++ chunk_data next
        here = data_here bytes line is

        split : drop line.len (bytes ++ more) ≡ d ++ more
        split = drop-append-le line.len bytes more (line_fits bytes line (data_shows (size_line bytes) line is)).1

        there : chunk_data (bytes ++ more) ≡ take s (d ++ more) ++ chunk_data (drop (s + 2) (d ++ more))
        there = data_here (bytes ++ more) line (data_stays bytes more line is) ∙ ap (λ (t : List ℕ). take s t ++ chunk_data (drop (s + 2) t)) split

        by_room : (length d < s + 2) ⊎ (s + 2 ≤ length d) → (r : List ℕ) × (chunk_data (bytes ++ more) ≡ chunk_data bytes ++ r)
        by_room (inl short) =
            let tail = chunk_data (drop (s + 2) (d ++ more)) in
            let cut = take_cut s d more in
            let none : chunk_data next ≡ [] = ap chunk_data (drop_all (s + 2) d (omega (arith, short))) in
            let all : chunk_data bytes ≡ take s d = here ∙ ap (λ (t : List ℕ). take s d ++ t) none ∙ append-nil (take s d) in (
              cut.0 ++ tail,
              there ∙ ap (λ (t : List ℕ). t ++ tail) cut.1 ∙ append_assoc (take s d) cut.0 tail ∙ ap (λ (t : List ℕ). t ++ (cut.0 ++ tail)) (sym all),
            )
        by_room (inr room) =
            let less = data_fewer bytes line is in
            let later = ih next (omega (arith, less, h)) in (
              later.0,
              there
                  ∙ ap (λ (t : List ℕ). t ++ chunk_data (drop (s + 2) (d ++ more))) (take-append-le s d more (omega (arith, room)))
                  ∙ ap (λ (t : List ℕ). take s d ++ chunk_data t) (drop-append-le (s + 2) d more room)
                  ∙ ap (λ (t : List ℕ). take s d ++ t) later.1
                  ∙ sym (append_assoc (take s d) (chunk_data next) later.0)
                  ∙ ap (λ (t : List ℕ). t ++ later.0) (sym here),
            )

pub body_begins : (rule : BodyRule) (bytes more : List ℕ) → (r : List ℕ) × (body_data rule (bytes ++ more) ≡ body_data rule bytes ++ r)
body_begins Empty bytes more = ([], refl)
body_begins (Length size) bytes more = take_cut size bytes more
body_begins Chunked bytes more = data_begins (length bytes) bytes more (omega arith)
body_begins UntilEnd bytes more = (more, refl)

pub slice_stays : (bytes more : List ℕ) (m n : ℕ) → m ≤ n → n ≤ length bytes → slice_range (bytes ++ more) m n ≡ slice_range bytes m n
slice_stays bytes more m n order room =
    ap (λ (t : List ℕ). take (n - m) t) (drop-append-le m bytes more (omega (arith, order, room)))
    ∙ take-append-le (n - m) (drop m bytes) more (omega (arith, length-drop m bytes, order, room))

behind_begins : (head_request : Bool) (bytes more : List ℕ) (whole : Bool) (head : FinalHead) → head.from ≤ head.to → head.to ≤ length bytes
    → IsPrefixOf (flat_behind head_request bytes false (Ok head)) (flat_behind head_request (bytes ++ more) whole (Ok head))
behind_begins head_request bytes more whole head order room =
    record {
      rest = body.0 ++ end;
      is = append_assoc front (inner ++ []) (body.0 ++ end)
          ∙ ap (λ (t : List ℕ). front ++ (t ++ (body.0 ++ end))) (append-nil inner)
          ∙ ap (λ (t : List ℕ). front ++ t) (sym (append_assoc inner body.0 end) ∙ ap (λ (t : List ℕ). t ++ end) (sym body.1))
          ∙ ap (λ (t : List ℕ). t ++ (body_data rule (rest ++ more) ++ end)) (sym (slice_stays bytes more head.from head.to order room))
          ∙ ap (λ (t : List ℕ). slice_range (bytes ++ more) head.from head.to ++ flat_body rule t whole) (sym split);
    }
  where
    rule : BodyRule
    rule = rule_in head_request head.body

    rest : List ℕ
    rest = drop head.to bytes

    front : List ℕ
    front = slice_range bytes head.from head.to

    inner : List ℕ
    inner = body_data rule rest

    body : (r : List ℕ) × (body_data rule (rest ++ more) ≡ body_data rule rest ++ r)
    body = body_begins rule rest more

    end : List ℕ
    end = if whole then with_length (trailer_of rule (rest ++ more)) else []

    split : drop head.to (bytes ++ more) ≡ rest ++ more
    split = drop-append-le head.to bytes more room

flat_begins : (part : Part) (head_request : Bool) (bytes more : List ℕ) (whole : Bool) (flat later : List ℕ) → IsFlat part head_request bytes false flat → IsFlat part head_request (bytes ++ more) whole later → IsPrefixOf flat later
flat_begins part head_request bytes more whole flat later x y = by x.0 x.1 x.2
  where
    by : (r : Result FinalHead Scan) → IsFinalHead part bytes r → flat ≡ flat_behind (answers_head part head_request) bytes false r → IsPrefixOf flat later
    by (Err stop) f e = record { rest = later; is = ap (λ (t : List ℕ). t ++ later) e }
    by (Ok head) f e =
        let fits = final_fits part bytes (Ok head) head f refl in
        let same = final_once part (bytes ++ more) (Ok head) y.0 (final_stays part bytes more (Ok head) head f refl) y.1 in
        let begins = behind_begins (answers_head part head_request) bytes more whole head (omega (arith, fits.0)) fits.1 in
        record {
          rest = begins.rest;
          is = ap (λ (t : List ℕ). t ++ begins.rest) e ∙ begins.is ∙ ap (flat_behind (answers_head part head_request) (bytes ++ more) whole) same ∙ sym y.2;
        }

-- ---- sizes

data_size : (k : ℕ) (bytes : List ℕ) → length bytes ≤ k → length (chunk_data bytes) ≤ length bytes
data_size zero [] h = omega arith
data_size zero (b ∷ bytes) h = absurd (omega (arith, h))
data_size (suc k) bytes h = by (data_line (size_line bytes)) refl (λ rest. data_size k rest)
  where
    by : (r : Option SizeLine) → data_line (size_line bytes) ≡ r → ((rest : List ℕ) → length rest ≤ k → length (chunk_data rest) ≤ length rest) → length (chunk_data bytes) ≤ length bytes
    by None is ih = omega (arith, ap length (data_none bytes is))
    by (Some line) is ih =
        let d = drop line.len bytes in
        let next = drop (line.size + 2) d in
        let less = data_fewer bytes line is in
        let later = ih next (omega (arith, less, h)) in
        omega (arith, ap length (data_here bytes line is), length-append (take line.size d) (chunk_data next), later, length-take line.size d, length-drop (line.size + 2) d, length-drop line.len bytes)

body_size : (rule : BodyRule) (bytes : List ℕ) → length (body_data rule bytes) ≤ length bytes
body_size Empty bytes = omega arith
body_size (Length size) bytes = omega (arith, length-take size bytes)
body_size Chunked bytes = data_size (length bytes) bytes (omega arith)
body_size UntilEnd bytes = omega arith

last_size : (bytes : List ℕ) (r : Result ℕ Scan) → length (behind_last bytes r) ≤ length bytes
last_size bytes (Ok place) = omega (arith, length-take 65536 (drop place bytes), length-drop place bytes)
last_size bytes (Err scan) = omega arith

trailer_size : (rule : BodyRule) (bytes : List ℕ) → length (trailer_of rule bytes) ≤ length bytes
trailer_size Empty bytes = omega arith
trailer_size (Length size) bytes = omega arith
trailer_size Chunked bytes = last_size bytes (trailer_from bytes)
trailer_size UntilEnd bytes = omega arith

four : (n : ℕ) → length (to_be_bytes w32 n) ≡ 4
four n = refl

end_size : (whole : Bool) (trailer : List ℕ) → length (if whole then with_length trailer else []) ≤ length trailer + 4
end_size true trailer = omega (arith, length-append trailer (to_be_bytes w32 (length trailer)), four (length trailer))
end_size false trailer = omega arith

flat_size : (part : Part) (head_request : Bool) (bytes : List ℕ) (whole : Bool) (flat : List ℕ) → IsFlat part head_request bytes whole flat → length flat ≤ 3 * length bytes + 4
flat_size part head_request bytes whole flat x = by x.0 x.2
  where
    by : (r : Result FinalHead Scan) → flat ≡ flat_behind (answers_head part head_request) bytes whole r → length flat ≤ 3 * length bytes + 4
    by (Err stop) e = omega (arith, ap length e)
    by (Ok head) e =
        let rule = rule_in (answers_head part head_request) head.body in
        let rest = drop head.to bytes in
        let front = slice_range bytes head.from head.to in
        let trailer = trailer_of rule rest in
        let end = if whole then with_length trailer else [] in
        let front_size : length front ≤ length bytes = omega (arith, length-take (head.to - head.from) (drop head.from bytes), length-drop head.from bytes) in
        omega (arith, ap length e, length-append front (body_data rule rest ++ end), length-append (body_data rule rest) end, front_size, body_size rule rest, end_size whole trailer, trailer_size rule rest, length-drop head.to bytes)

pub flat_forms : (part : Part) (head_request : Bool) → AreFlatForms part head_request
flat_forms part head_request = record { once = flat_once part head_request; begins = flat_begins part head_request; size = flat_size part head_request }
