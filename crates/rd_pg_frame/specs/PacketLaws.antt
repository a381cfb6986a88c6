-- Packets without a letter, answer bytes, and places where nothing may come, are cut in one way.
use Rattle.std.proofs.Common.{◌≡◌, ◌≢◌, ℕ, ◌-◌, ◌≤◌, Bool, true, false, ◌&&◌, cond, leb, ltb, eqb, List, [], ◌∷◌, ◌++◌, length, take, drop, length-append, length-take, length-drop, Option, Some, None, refl, sym, ap, subst, ◌∙◌, arith}
use Rattle.std.proofs.lemmas.Bool.{leb-true, ltb-false, le-leb, le-ltb, and_parts, eqb-true}
use Rattle.std.proofs.lemmas.List.{take-append-le, drop-append-le, drop-take, take-take}
use Rattle.rd_base.specs.declared.values.Scan.{Scan}
use Rattle.rd_base.specs.declared.values.Scan.TheVariants.{Whole, More, Bad, Unsupported}
use Rattle.rd_pg_frame.specs.Messages.{be_u32}
use Rattle.rd_pg_frame.specs.Scanning.{fitting, scan_packet, scan_answer, scan_nothing}
use Rattle.rd_pg_frame.specs.Framing.{IsFraming}

-- what is told stays
abbrev Keeps : Scan → Scan → Type 0
Keeps q r = q ≢ More → r ≡ q

keeps_cond : (t : Bool) (q r s : Scan) → Keeps q r → Keeps (cond t q s) (cond t r s)
keeps_cond true q r s k = k
keeps_cond false q r s k = λ told. refl

-- it is not yet told, or enough is there
keeps_open : (t u : Bool) (q r : Scan) → (t ≡ false → (u ≡ false) × Keeps q r) → Keeps (cond t More q) (cond u More r)
keeps_open true u q r k = λ told. absurd (told refl)
keeps_open false u q r k = subst (λ v. Keeps q (cond v More r)) (sym (k refl).0) (k refl).1

keeps_there : (len : ℕ) (bytes more : List ℕ) → Keeps (cond (leb len (length bytes)) (Whole len) More) (cond (leb len (length (bytes ++ more))) (Whole len) More)
keeps_there len bytes more = go (leb len (length bytes)) refl
  where
    go : (t : Bool) → leb len (length bytes) ≡ t → Keeps (cond t (Whole len) More) (cond (leb len (length (bytes ++ more))) (Whole len) More)
    go true is = λ told. ap (λ t. cond t (Whole len) More) (le-leb len (length (bytes ++ more)) (omega (arith, length-append bytes more, leb-true len (length bytes) is)))
    go false is = λ told. absurd (told refl)

keeps_fitting : (code : ℕ) (range : Option (ℕ × ℕ)) (len : ℕ) (bytes more : List ℕ) → Keeps (fitting code range len bytes) (fitting code range len (bytes ++ more))
keeps_fitting code None len bytes more = λ told. refl
keeps_fitting code (Some range) len bytes more =
    keeps_cond (leb range.0 len && leb len range.1) (cond (leb len (length bytes)) (Whole len) More) (cond (leb len (length (bytes ++ more))) (Whole len) More) Bad (keeps_there len bytes more)

-- a packet behind its length
abbrev coded : (ℕ → Option (ℕ × ℕ)) → ℕ → List ℕ → Scan
coded lengths len bytes =
    cond (ltb (length bytes) 8) More (fitting (be_u32 (take 4 (drop 4 bytes))) (lengths (be_u32 (take 4 (drop 4 bytes)))) len bytes)

keeps_coded : (lengths : ℕ → Option (ℕ × ℕ)) (len : ℕ) (bytes more : List ℕ) → Keeps (coded lengths len bytes) (coded lengths len (bytes ++ more))
keeps_coded lengths len bytes more =
    let code = be_u32 (take 4 (drop 4 bytes)) in
    let later = be_u32 (take 4 (drop 4 (bytes ++ more))) in
    keeps_open (ltb (length bytes) 8) (ltb (length (bytes ++ more)) 8) (fitting code (lengths code) len bytes) (fitting later (lengths later) len (bytes ++ more))
    (λ is.
    let eight : 8 ≤ length bytes = ltb-false (length bytes) 8 is in
    let past : 4 ≤ length bytes = omega arith in
    let room : 4 ≤ length (drop 4 bytes) = omega (arith, length-drop 4 bytes) in
    let same : later ≡ code = ap (λ b. be_u32 (take 4 b)) (drop-append-le 4 bytes more past) ∙ ap be_u32 (take-append-le 4 (drop 4 bytes) more room) in (
      le-ltb (length (bytes ++ more)) 8 (omega (arith, length-append bytes more)),
      subst (λ c. Keeps (fitting code (lengths code) len bytes) (fitting c (lengths c) len (bytes ++ more))) (sym same) (keeps_fitting code (lengths code) len bytes more),
    ))

keeps_packet : (lengths : ℕ → Option (ℕ × ℕ)) (bytes more : List ℕ) → Keeps (scan_packet lengths bytes) (scan_packet lengths (bytes ++ more))
keeps_packet lengths bytes more =
    let len = be_u32 (take 4 bytes) in
    let later = be_u32 (take 4 (bytes ++ more)) in
    keeps_open (ltb (length bytes) 4) (ltb (length (bytes ++ more)) 4) (cond (leb 8 len && leb len 10000) (coded lengths len bytes) Bad) (cond (leb 8 later && leb later 10000) (coded lengths later (bytes ++ more)) Bad)
    (λ is.
    let four : 4 ≤ length bytes = ltb-false (length bytes) 4 is in
    let same : later ≡ len = ap be_u32 (take-append-le 4 bytes more four) in (
      le-ltb (length (bytes ++ more)) 4 (omega (arith, length-append bytes more)),
      subst (λ n. Keeps (cond (leb 8 len && leb len 10000) (coded lengths len bytes) Bad) (cond (leb 8 n && leb n 10000) (coded lengths n (bytes ++ more)) Bad)) (sym same)
          (keeps_cond (leb 8 len && leb len 10000) (coded lengths len bytes) (coded lengths len (bytes ++ more)) Bad (keeps_coded lengths len bytes more)),
    ))

-- the packet that stands at the front
pub record IsWhole (lengths : ℕ → Option (ℕ × ℕ)) (bytes : List ℕ) (len : ℕ) : Type 0 where
  pub least : ℕ
  pub most : ℕ
  pub counts : be_u32 (take 4 bytes) ≡ len
  pub limits : (leb 8 len && leb len 10000) ≡ true
  pub stands : lengths (be_u32 (take 4 (drop 4 bytes))) ≡ Some (least, most)
  pub fits : (leb least len && leb len most) ≡ true
  pub there : len ≤ length bytes

pub whole_made : (lengths : ℕ → Option (ℕ × ℕ)) (bytes : List ℕ) (len : ℕ) → IsWhole lengths bytes len → scan_packet lengths bytes ≡ Whole len
whole_made lengths bytes len w =
    let code = be_u32 (take 4 (drop 4 bytes)) in
    let at_least = leb-true 8 len (and_parts (leb 8 len) (leb len 10000) w.limits).0 in
    let there = w.there in
    ap (λ t. cond t More (cond (leb 8 (be_u32 (take 4 bytes)) && leb (be_u32 (take 4 bytes)) 10000) (coded lengths (be_u32 (take 4 bytes)) bytes) Bad)) (le-ltb (length bytes) 4 (omega arith))
    ∙ ap (λ n. cond (leb 8 n && leb n 10000) (coded lengths n bytes) Bad) w.counts
    ∙ ap (λ t. cond t (coded lengths len bytes) Bad) w.limits
    ∙ ap (λ t. cond t More (fitting code (lengths code) len bytes)) (le-ltb (length bytes) 8 (omega arith))
    ∙ ap (λ r. fitting code r len bytes) w.stands
    ∙ ap (λ t. cond t (cond (leb len (length bytes)) (Whole len) More) Bad) w.fits
    ∙ ap (λ t. cond t (Whole len) More) (le-leb len (length bytes) there)

pub whole_shows : (lengths : ℕ → Option (ℕ × ℕ)) (bytes : List ℕ) (len : ℕ) → scan_packet lengths bytes ≡ Whole len → IsWhole lengths bytes len
whole_shows lengths bytes len e = by_four (ltb (length bytes) 4) e
  where
    given : ℕ
    given = be_u32 (take 4 bytes)

    code : ℕ
    code = be_u32 (take 4 (drop 4 bytes))

    by_there : (least most : ℕ) → lengths code ≡ Some (least, most) → (leb 8 given && leb given 10000) ≡ true → (leb least given && leb given most) ≡ true → (t : Bool) → leb given (length bytes) ≡ t → cond t (Whole given) More ≡ Whole len → IsWhole lengths bytes len
    by_there least most stands limits fits true is q =
        let same : given ≡ len = cc q in
        record {
          least = least;
          most = most;
          counts = same;
          limits = ap (λ n. leb 8 n && leb n 10000) (sym same) ∙ limits;
          stands = stands;
          fits = ap (λ n. leb least n && leb n most) (sym same) ∙ fits;
          there = omega (arith, leb-true given (length bytes) is);
        }
    by_there least most stands limits fits false is q = absurd (cc q)

    by_fit : (least most : ℕ) → lengths code ≡ Some (least, most) → (leb 8 given && leb given 10000) ≡ true → (t : Bool) → (leb least given && leb given most) ≡ t → cond t (cond (leb given (length bytes)) (Whole given) More) Bad ≡ Whole len → IsWhole lengths bytes len
    by_fit least most stands limits true is q = by_there least most stands limits is (leb given (length bytes)) refl q
    by_fit least most stands limits false is q = absurd (cc q)

    by_range : (leb 8 given && leb given 10000) ≡ true → (r : Option (ℕ × ℕ)) → lengths code ≡ r → fitting code r given bytes ≡ Whole len → IsWhole lengths bytes len
    by_range limits None is q = absurd (cc q)
    by_range limits (Some range) is q = by_fit range.0 range.1 is limits (leb range.0 given && leb given range.1) refl q

    by_eight : (leb 8 given && leb given 10000) ≡ true → (t : Bool) → cond t More (fitting code (lengths code) given bytes) ≡ Whole len → IsWhole lengths bytes len
    by_eight limits true q = absurd (cc q)
    by_eight limits false q = by_range limits (lengths code) refl q

    by_limits : (t : Bool) → (leb 8 given && leb given 10000) ≡ t → cond t (coded lengths given bytes) Bad ≡ Whole len → IsWhole lengths bytes len
    by_limits true is q = by_eight is (ltb (length bytes) 8) q
    by_limits false is q = absurd (cc q)

    by_four : (t : Bool) → cond t More (cond (leb 8 given && leb given 10000) (coded lengths given bytes) Bad) ≡ Whole len → IsWhole lengths bytes len
    by_four true q = absurd (cc q)
    by_four false q = by_limits (leb 8 given && leb given 10000) refl q

packet_itself : (lengths : ℕ → Option (ℕ × ℕ)) (bytes : List ℕ) (len : ℕ) → IsWhole lengths bytes len → IsWhole lengths (take len bytes) len
packet_itself lengths bytes len w =
    let at_least : 8 ≤ len = leb-true 8 len (and_parts (leb 8 len) (leb len 10000) w.limits).0 in
    let four : 4 ≤ len = omega arith in
    let room : 4 ≤ len - 4 = omega arith in
    let there = w.there in
    let same : take 4 (drop 4 (take len bytes)) ≡ take 4 (drop 4 bytes) =
    ap (λ n. take 4 (drop 4 (take n bytes))) (omega arith) ∙ ap (take 4) (drop-take 4 (len - 4) bytes) ∙ take-take 4 (len - 4) (drop 4 bytes) room in
    record {
      least = w.least;
      most = w.most;
      counts = ap be_u32 (take-take 4 len bytes four) ∙ w.counts;
      limits = w.limits;
      stands = ap (λ b. lengths (be_u32 b)) same ∙ w.stands;
      fits = w.fits;
      there = omega (arith, length-take len bytes);
    }

pub packet_framing : (lengths : ℕ → Option (ℕ × ℕ)) → IsFraming (scan_packet lengths)
packet_framing lengths =
    record {
      some_bytes = λ bytes len is.
          let at_least = leb-true 8 len (and_parts (leb 8 len) (leb len 10000) (whole_shows lengths bytes len is).limits).0 in
          omega arith;
      within = λ bytes len is. (whole_shows lengths bytes len is).there;
      itself = λ bytes len is.
          let shown = whole_shows lengths bytes len is in
          let size : len ≡ length (take len bytes) = omega (arith, length-take len bytes, shown.there) in
          whole_made lengths (take len bytes) len (packet_itself lengths bytes len shown) ∙ ap Whole size;
      told = λ bytes more. keeps_packet lengths bytes more;
    }

answer_told : (granting : ℕ) (bytes more : List ℕ) → scan_answer granting bytes ≢ More → scan_answer granting (bytes ++ more) ≡ scan_answer granting bytes
answer_told granting [] more told = absurd (told refl)
answer_told granting (answer ∷ rest) more told = refl

-- a whole answer is one byte
pub answer_one : (granting : ℕ) (bytes : List ℕ) (len : ℕ) → scan_answer granting bytes ≡ Whole len → (rest : List ℕ) × (78 ∷ rest ≡ bytes) × (len ≡ 1)
answer_one granting [] len e = absurd (cc e)
answer_one granting (answer ∷ rest) len e = go (eqb answer 78) refl e
  where
    by_grant : (t : Bool) → cond t (Unsupported granting) Bad ≡ Whole len → ⊥
    by_grant true q = cc q
    by_grant false q = cc q

    go : (t : Bool) → eqb answer 78 ≡ t → cond t (Whole 1) (cond (eqb answer granting) (Unsupported granting) Bad) ≡ Whole len → (rest' : List ℕ) × (78 ∷ rest' ≡ answer ∷ rest) × (len ≡ 1)
    go true is q = let same : 1 ≡ len = cc q in (rest, ap (λ a. a ∷ rest) (sym (eqb-true answer 78 is)), sym same)
    go false is q = absurd (by_grant (eqb answer granting) q)

answer_itself : (granting : ℕ) (bytes : List ℕ) (len : ℕ) → scan_answer granting bytes ≡ Whole len → scan_answer granting (take len bytes) ≡ Whole (length (take len bytes))
answer_itself granting bytes len is =
    let one = answer_one granting bytes len is in
    let P : List ℕ → ℕ → Type 0 = λ b n. scan_answer granting (take n b) ≡ Whole (length (take n b)) in
    subst (λ n. P bytes n) (sym one.2) (subst (λ b. P b 1) one.1 refl)

pub answer_framing : (granting : ℕ) → IsFraming (scan_answer granting)
answer_framing granting =
    record {
      some_bytes = λ bytes len is. omega (arith, (answer_one granting bytes len is).2);
      within = λ bytes len is. let one = answer_one granting bytes len is in omega (arith, one.2, ap length one.1);
      itself = λ bytes len is. answer_itself granting bytes len is;
      told = λ bytes more. answer_told granting bytes more;
    }

pub nothing_whole : (bytes : List ℕ) (len : ℕ) → scan_nothing bytes ≢ Whole len
nothing_whole [] len e = cc e
nothing_whole (b ∷ bytes) len e = cc e

nothing_told : (bytes more : List ℕ) → scan_nothing bytes ≢ More → scan_nothing (bytes ++ more) ≡ scan_nothing bytes
nothing_told [] more told = absurd (told refl)
nothing_told (b ∷ bytes) more told = refl

pub nothing_framing : IsFraming scan_nothing
nothing_framing =
    record {
      some_bytes = λ bytes len is. absurd (nothing_whole bytes len is);
      within = λ bytes len is. absurd (nothing_whole bytes len is);
      itself = λ bytes len is. absurd (nothing_whole bytes len is);
      told = λ bytes more. nothing_told bytes more;
    }
