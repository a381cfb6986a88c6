-- One message of a scan.
use Rattle.std.proofs.Common.{◌≡◌, ℕ, ◌+◌, ◌≤◌, Bool, true, false, cond, eqb, List, [], ◌∷◌, length, drop, length-drop, drop-drop, Ok, Err, refl, sym, ap, ◌∙◌, arith}
use Rattle.std.proofs.lemmas.Bool.{ne_eqb}
use Rattle.rd_base.specs.Scans.{behind}
use Rattle.rd_base.specs.declared.values.Scan.{Scan}
use Rattle.rd_base.specs.declared.values.Scan.TheVariants.{Whole, More, Bad, TooBig, Unsupported}
use Rattle.rd_pg_frame.specs.declared.front.Front.{Front}
use Rattle.rd_pg_frame.specs.Letters.{Letters}
use Rattle.rd_pg_frame.specs.Fronts.{front_of}
use Rattle.rd_pg_frame.specs.FrontLaws.{front_fits}
use Rattle.rd_pg_frame.specs.Scanning.{go_on, scan_up_to}
use Rattle.rd_pg_frame.specs.MessageLaws.{enough}

behind_behind : (m n : ℕ) (scan : Scan) → behind m (behind n scan) ≡ behind (m + n) scan
behind_behind m n (Whole len) = ap Whole (omega arith)
behind_behind m n More = refl
behind_behind m n Bad = refl
behind_behind m n TooBig = refl
behind_behind m n (Unsupported code) = refl

pub behind_none : (scan : Scan) → scan ≡ behind 0 scan
behind_none (Whole len) = ap Whole (omega arith)
behind_none More = refl
behind_none Bad = refl
behind_none TooBig = refl
behind_none (Unsupported code) = refl

one_step : (letters : Letters) (is_first : Bool) (bytes : List ℕ) (front : Front) → front_of letters is_first bytes ≡ Ok front → scan_up_to (length bytes) letters is_first bytes ≡ cond front.is_last (Whole front.size) (behind front.size (scan_up_to (length (drop front.size bytes)) letters false (drop front.size bytes)))
one_step letters is_first [] front e = absurd (cc e)
one_step letters is_first (b ∷ bytes) front e =
    let fits = front_fits letters is_first (b ∷ bytes) front e in
    let rest = drop front.size (b ∷ bytes) in
    let room : length rest ≤ length bytes = omega (arith, length-drop front.size (b ∷ bytes), fits.0, fits.1) in
    ap (λ r. go_on r (λ size. scan_up_to (length bytes) letters false (drop size (b ∷ bytes)))) e
    ∙ ap (λ s. cond front.is_last (Whole front.size) (behind front.size s)) (enough (length bytes) (length rest) letters false rest room (omega arith))

pub step_stop : (letters : Letters) (is_first : Bool) (bytes : List ℕ) (scan : Scan) → front_of letters is_first bytes ≡ Err scan → scan_up_to (length bytes) letters is_first bytes ≡ scan
step_stop letters is_first [] scan e = cc e
step_stop letters is_first (b ∷ bytes) scan e = ap (λ r. go_on r (λ size. scan_up_to (length bytes) letters false (drop size (b ∷ bytes)))) e

pub step_last : (letters : Letters) (is_first : Bool) (bytes : List ℕ) (front : Front) → front_of letters is_first bytes ≡ Ok front → front.is_last ≡ true → scan_up_to (length bytes) letters is_first bytes ≡ Whole front.size
step_last letters is_first bytes front e last =
    one_step letters is_first bytes front e
    ∙ ap (λ t. cond t (Whole front.size) (behind front.size (scan_up_to (length (drop front.size bytes)) letters false (drop front.size bytes)))) last

pub step_inner : (letters : Letters) (bytes : List ℕ) (at : ℕ) (front : Front) → front_of letters (eqb at 0) (drop at bytes) ≡ Ok front → front.is_last ≡ false → behind at (scan_up_to (length (drop at bytes)) letters (eqb at 0) (drop at bytes)) ≡ behind (at + front.size) (scan_up_to (length (drop (at + front.size) bytes)) letters (eqb (at + front.size) 0) (drop (at + front.size) bytes))
step_inner letters bytes at front e inner =
    let rest = drop at bytes in
    let fits = front_fits letters (eqb at 0) rest front e in
    let left : drop front.size rest ≡ drop (at + front.size) bytes = drop-drop front.size at bytes in
    let later : false ≡ eqb (at + front.size) 0 = sym (ne_eqb (at + front.size) 0 (λ z. omega (arith, fits.0, z))) in
    ap (behind at) (one_step letters (eqb at 0) rest front e ∙ ap (λ t. cond t (Whole front.size) (behind front.size (scan_up_to (length (drop front.size rest)) letters false (drop front.size rest)))) inner)
    ∙ behind_behind at front.size (scan_up_to (length (drop front.size rest)) letters false (drop front.size rest))
    ∙ ap (λ b. behind (at + front.size) (scan_up_to (length b) letters false b)) left
    ∙ ap (λ t. behind (at + front.size) (scan_up_to (length (drop (at + front.size) bytes)) letters t (drop (at + front.size) bytes))) later
