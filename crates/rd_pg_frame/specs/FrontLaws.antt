-- What the front of some bytes shows, and that it stays as it is.
use Rattle.std.proofs.Common.{◌≡◌, ◌≢◌, ℕ, suc, ◌+◌, ◌-◌, ◌^◌, ◌≤◌, Bool, true, false, cond, leb, ltb, eqb, List, [], ◌∷◌, ◌++◌, length, take, drop, length-append, length-take, Result, Ok, Err, refl, sym, ap, subst, ◌∙◌, arith}
use Rattle.std.proofs.lemmas.Bool.{leb-true, ltb-false, le-leb, le-ltb, and_parts, eqb-true}
use Rattle.std.proofs.lemmas.List.{take-append-le, drop-append-le, drop-take, take-take}
use Rattle.rd_base.specs.Scans.{and_then}
use Rattle.rd_base.specs.declared.values.Scan.{Scan}
use Rattle.rd_base.specs.declared.values.Scan.TheVariants.{More, Bad}
use Rattle.rd_pg_frame.specs.declared.role.Role.{Role}
use Rattle.rd_pg_frame.specs.declared.role.Role.TheVariants.{Inner, Last, Authentication, Status}
use Rattle.rd_pg_frame.specs.declared.front.Front.{Front}
use Rattle.rd_pg_frame.specs.Letters.{Letters}
use Rattle.rd_pg_frame.specs.Messages.{be_u32, is_length}
use Rattle.rd_pg_frame.specs.Fronts.{role_of, code_ends, status_ends, ends, if_there, measured, sized, front_of}

-- the message that stands at the front
pub record IsFront (letters : Letters) (is_first : Bool) (bytes : List ℕ) (front : Front) : Type 0 where
  pub letter : ℕ
  pub rest : List ℕ
  pub role : Role
  pub is : letter ∷ rest ≡ bytes
  pub stands : role_of letters is_first letter ≡ Ok role
  pub four : 4 ≤ length rest
  pub counts : is_length (be_u32 (take 4 rest)) ≡ true
  pub judged : ends letters role (be_u32 (take 4 rest)) (drop 4 rest) ≡ Ok front.is_last
  pub there : be_u32 (take 4 rest) ≤ length rest
  pub size : front.size ≡ be_u32 (take 4 rest) + 1

then_ok : {A B : Type 0} (r : Result A Scan) (f : A → Result B Scan) (b : B) → and_then r f ≡ Ok b → (a : A) × (r ≡ Ok a) × (f a ≡ Ok b)
then_ok (Ok a) f b e = (a, refl, e)
then_ok (Err scan) f b e = absurd (cc e)

there_ok : (len : ℕ) (rest : List ℕ) (is_last : Bool) (front : Front) → if_there len rest is_last ≡ Ok front → (len ≤ length rest) × (front.size ≡ len + 1) × (front.is_last ≡ is_last)
there_ok len rest is_last front e = go (leb len (length rest)) refl e
  where
    go : (t : Bool) → leb len (length rest) ≡ t → cond t (Ok (record { size = len + 1; is_last = is_last })) (Err More) ≡ Ok front → (len ≤ length rest) × (front.size ≡ len + 1) × (front.is_last ≡ is_last)
    go true is e =
        let same : record { size = len + 1; is_last = is_last } ≡ front = cc e in
        (leb-true len (length rest) is, sym (ap (λ (f : Front). f.size) same), sym (ap (λ (f : Front). f.is_last) same))
    go false is e = absurd (cc e)

measured_ok : (letters : Letters) (role : Role) (len : ℕ) (rest : List ℕ) (front : Front) → measured letters role len rest ≡ Ok front → (is_length len ≡ true) × (ends letters role len (drop 4 rest) ≡ Ok front.is_last) × (len ≤ length rest) × (front.size ≡ len + 1)
measured_ok letters role len rest front e = go (is_length len) refl e
  where
    go : (t : Bool) → is_length len ≡ t → cond t (and_then (ends letters role len (drop 4 rest)) (if_there len rest)) (Err Bad) ≡ Ok front → (is_length len ≡ true) × (ends letters role len (drop 4 rest) ≡ Ok front.is_last) × (len ≤ length rest) × (front.size ≡ len + 1)
    go true is e =
        let judged = then_ok (ends letters role len (drop 4 rest)) (if_there len rest) front e in
        let there = there_ok len rest judged.0 front judged.2 in
        (is, judged.1 ∙ ap Ok (sym there.2), there.0, there.1)
    go false is e = absurd (cc e)

pub front_shows : (letters : Letters) (is_first : Bool) (bytes : List ℕ) (front : Front) → front_of letters is_first bytes ≡ Ok front → IsFront letters is_first bytes front
front_shows letters is_first [] front e = absurd (cc e)
front_shows letters is_first (letter ∷ rest) front e =
    let stands = then_ok (role_of letters is_first letter) (sized letters rest) front e in
    go stands.0 stands.1 (ltb (length rest) 4) refl stands.2
  where
    go : (role : Role) → role_of letters is_first letter ≡ Ok role → (t : Bool) → ltb (length rest) 4 ≡ t → cond t (Err More) (measured letters role (be_u32 (take 4 rest)) rest) ≡ Ok front → IsFront letters is_first (letter ∷ rest) front
    go role stands true is e = absurd (cc e)
    go role stands false is e =
        let m = measured_ok letters role (be_u32 (take 4 rest)) rest front e in
        record {
          letter = letter;
          rest = rest;
          role = role;
          is = refl;
          stands = stands;
          four = ltb-false (length rest) 4 is;
          counts = m.0;
          judged = m.1;
          there = m.2;
          size = m.3;
        }

-- what shows is there
pub front_made : (letters : Letters) (is_first : Bool) (bytes : List ℕ) (front : Front) → IsFront letters is_first bytes front → front_of letters is_first bytes ≡ Ok front
front_made letters is_first bytes front shown =
    let rest = shown.rest in
    let len = be_u32 (take 4 rest) in
    let made : ℕ → Result Front Scan = λ n. Ok (record { size = n; is_last = front.is_last }) in
    let tail = and_then (ends letters shown.role len (drop 4 rest)) (if_there len rest) in
    ap (front_of letters is_first) (sym shown.is)
    ∙ ap (λ r. and_then r (sized letters rest)) shown.stands
    ∙ ap (λ t. cond t (Err More) (measured letters shown.role len rest)) (le-ltb (length rest) 4 shown.four)
    ∙ ap (λ t. cond t tail (Err Bad)) shown.counts
    ∙ ap (λ r. and_then r (if_there len rest)) shown.judged
    ∙ ap (λ t. cond t (made (len + 1)) (Err More)) (le-leb len (length rest) shown.there)
    ∙ ap made (sym shown.size)

-- a message has five bytes or more, and they are there
pub front_fits : (letters : Letters) (is_first : Bool) (bytes : List ℕ) (front : Front) → front_of letters is_first bytes ≡ Ok front → (5 ≤ front.size) × (front.size ≤ length bytes)
front_fits letters is_first bytes front e =
    let shown = front_shows letters is_first bytes front e in
    let len = be_u32 (take 4 shown.rest) in
    let at_least = leb-true 4 len (and_parts (leb 4 len) (ltb len (2 ^ 31)) shown.counts).0 in
    (omega (arith, shown.size, at_least), omega (arith, shown.size, shown.there, ap length shown.is))

ends_itself : (letters : Letters) (role : Role) (len : ℕ) (content : List ℕ) (is_last : Bool) → 4 ≤ len → ends letters role len content ≡ Ok is_last → ends letters role len (take (len - 4) content) ≡ Ok is_last
ends_itself letters Inner len content is_last h e = e
ends_itself letters Last len content is_last h e = e
ends_itself letters Authentication len content is_last h e = by_len (ltb len 8) refl e
  where
    by_size : 8 ≤ len → (t : Bool) → ltb (length content) 4 ≡ t → cond t (Err More) (code_ends letters (be_u32 (take 4 content))) ≡ Ok is_last → cond (ltb (length (take (len - 4) content)) 4) (Err More) (code_ends letters (be_u32 (take 4 (take (len - 4) content)))) ≡ Ok is_last
    by_size room true is q = absurd (cc q)
    by_size room false is q =
        let there : 4 ≤ length (take (len - 4) content) = omega (arith, length-take (len - 4) content, ltb-false (length content) 4 is) in
        let four : 4 ≤ len - 4 = omega arith in
        ap (λ t. cond t (Err More) (code_ends letters (be_u32 (take 4 (take (len - 4) content))))) (le-ltb (length (take (len - 4) content)) 4 there)
        ∙ ap (λ n. code_ends letters (be_u32 n)) (take-take 4 (len - 4) content four)
        ∙ q

    by_len : (t : Bool) → ltb len 8 ≡ t → cond t (Err Bad) (cond (ltb (length content) 4) (Err More) (code_ends letters (be_u32 (take 4 content)))) ≡ Ok is_last → cond (ltb len 8) (Err Bad) (cond (ltb (length (take (len - 4) content)) 4) (Err More) (code_ends letters (be_u32 (take 4 (take (len - 4) content))))) ≡ Ok is_last
    by_len true is q = absurd (cc q)
    by_len false is q =
        ap (λ t. cond t (Err Bad) (cond (ltb (length (take (len - 4) content)) 4) (Err More) (code_ends letters (be_u32 (take 4 (take (len - 4) content)))))) is
        ∙ by_size (ltb-false len 8 is) (ltb (length content) 4) refl q
ends_itself letters Status len content is_last h e = by_len (eqb len 5) refl e
  where
    by_content : (content : List ℕ) → len ≡ 5 → status_ends content ≡ Ok is_last → status_ends (take (len - 4) content) ≡ Ok is_last
    by_content [] five q = absurd (cc q)
    by_content (status ∷ rest) five q =
        let one : len - 4 ≡ 1 = omega arith in
        ap (λ n. status_ends (take n (status ∷ rest))) one ∙ q

    by_len : (t : Bool) → eqb len 5 ≡ t → cond t (status_ends content) (Err Bad) ≡ Ok is_last → cond (eqb len 5) (status_ends (take (len - 4) content)) (Err Bad) ≡ Ok is_last
    by_len true is q = ap (λ t. cond t (status_ends (take (len - 4) content)) (Err Bad)) is ∙ by_content content (eqb-true len 5 is) q
    by_len false is q = absurd (cc q)

-- a message is one by itself
pub front_itself : (letters : Letters) (is_first : Bool) (bytes : List ℕ) (front : Front) → front_of letters is_first bytes ≡ Ok front → front_of letters is_first (take front.size bytes) ≡ Ok front
front_itself letters is_first bytes front e =
    let shown = front_shows letters is_first bytes front e in
    let rest = shown.rest in
    let len = be_u32 (take 4 rest) in
    let at_least : 4 ≤ len = leb-true 4 len (and_parts (leb 4 len) (ltb len (2 ^ 31)) shown.counts).0 in
    let size : front.size ≡ suc len = omega (arith, shown.size) in
    let cut : shown.letter ∷ take len rest ≡ take front.size bytes = ap (λ n. take n (shown.letter ∷ rest)) (sym size) ∙ ap (take front.size) shown.is in
    let all : length (take len rest) ≡ len = omega (arith, length-take len rest, shown.there) in
    let same : take 4 (take len rest) ≡ take 4 rest = take-take 4 len rest at_least in
    let content : drop 4 (take len rest) ≡ take (len - 4) (drop 4 rest) = ap (λ n. drop 4 (take n rest)) (omega arith) ∙ drop-take 4 (len - 4) rest in
    front_made letters is_first (take front.size bytes) front (record {
      letter = shown.letter;
      rest = take len rest;
      role = shown.role;
      is = cut;
      stands = shown.stands;
      four = omega (arith, all);
      counts = ap (λ b. is_length (be_u32 b)) same ∙ shown.counts;
      judged = ap (λ b. ends letters shown.role (be_u32 b) (drop 4 (take len rest))) same ∙ ap (ends letters shown.role len) content ∙ ends_itself letters shown.role len (drop 4 rest) front.is_last at_least shown.judged;
      there = let counted : be_u32 (take 4 (take len rest)) ≡ len = ap be_u32 same in omega (arith, counted, all);
      size = shown.size ∙ ap (λ b. be_u32 b + 1) (sym same);
    })

-- what is told stays as it is, however the bytes go on
abbrev pub Keeps : {A : Type 0} → Result A Scan → Result A Scan → Type 0
Keeps (Ok a) r = r ≡ Ok a
Keeps (Err scan) r = scan ≢ More → r ≡ Err scan

keeps_same : {A : Type 0} (q r : Result A Scan) → q ≡ r → Keeps q r
keeps_same (Ok a) r e = sym e
keeps_same (Err scan) r e = λ told. sym e

keeps_then : {A B : Type 0} (q r : Result A Scan) (f g : A → Result B Scan) → Keeps q r → ((a : A) → Keeps (f a) (g a)) → Keeps (and_then q f) (and_then r g)
keeps_then (Ok a) r f g k each = subst (λ s. Keeps (f a) (and_then s g)) (sym k) (each a)
keeps_then (Err scan) r f g k each = λ told. ap (λ s. and_then s g) (k told)

keeps_cond : {A : Type 0} (t : Bool) (q r s : Result A Scan) → Keeps q r → Keeps (cond t q s) (cond t r s)
keeps_cond true q r s k = k
keeps_cond false q r s k = keeps_same s s refl

keeps_bad : {A : Type 0} (t : Bool) (q r s : Result A Scan) → Keeps q r → Keeps (cond t s q) (cond t s r)
keeps_bad true q r s k = keeps_same s s refl
keeps_bad false q r s k = k

-- it is not yet told, or enough is there
keeps_open : {A : Type 0} (t u : Bool) (q r : Result A Scan) → (t ≡ false → (u ≡ false) × Keeps q r) → Keeps (cond t (Err More) q) (cond u (Err More) r)
keeps_open true u q r k = λ told. absurd (told refl)
keeps_open false u q r k = subst (λ v. Keeps q (cond v (Err More) r)) (sym (k refl).0) (k refl).1

ends_keeps : (letters : Letters) (role : Role) (len : ℕ) (content more : List ℕ) → Keeps (ends letters role len content) (ends letters role len (content ++ more))
ends_keeps letters Inner len content more = refl
ends_keeps letters Last len content more = refl
ends_keeps letters Authentication len content more =
    let before = code_ends letters (be_u32 (take 4 content)) in
    let after = code_ends letters (be_u32 (take 4 (content ++ more))) in
    keeps_bad (ltb len 8) _ _ (Err Bad)
    (keeps_open (ltb (length content) 4) (ltb (length (content ++ more)) 4) before after
    (λ is.
    let four : 4 ≤ length content = ltb-false (length content) 4 is in (
      le-ltb (length (content ++ more)) 4 (omega (arith, length-append content more)),
      keeps_same before after (ap (λ b. code_ends letters (be_u32 b)) (sym (take-append-le 4 content more four))),
    )))
ends_keeps letters Status len [] more = keeps_cond (eqb len 5) (Err More) (status_ends more) (Err Bad) (λ told. absurd (told refl))
ends_keeps letters Status len (status ∷ rest) more = keeps_same _ _ refl

there_keeps : (len : ℕ) (rest more : List ℕ) (is_last : Bool) → Keeps (if_there len rest is_last) (if_there len (rest ++ more) is_last)
there_keeps len rest more is_last = go (leb len (length rest)) refl
  where
    go : (t : Bool) → leb len (length rest) ≡ t → Keeps (cond t (Ok (record { size = len + 1; is_last = is_last })) (Err More)) (if_there len (rest ++ more) is_last)
    go true is = ap (λ t. cond t (Ok (record { size = len + 1; is_last = is_last })) (Err More)) (le-leb len (length (rest ++ more)) (omega (arith, length-append rest more, leb-true len (length rest) is)))
    go false is = λ told. absurd (told refl)

measured_keeps : (letters : Letters) (role : Role) (len : ℕ) (rest more : List ℕ) → 4 ≤ length rest → Keeps (measured letters role len rest) (measured letters role len (rest ++ more))
measured_keeps letters role len rest more four =
    keeps_cond (is_length len) _ _ (Err Bad)
    (keeps_then (ends letters role len (drop 4 rest)) (ends letters role len (drop 4 (rest ++ more))) (if_there len rest) (if_there len (rest ++ more))
    (subst (λ c. Keeps (ends letters role len (drop 4 rest)) (ends letters role len c)) (sym (drop-append-le 4 rest more four)) (ends_keeps letters role len (drop 4 rest) more))
    (there_keeps len rest more))

sized_keeps : (letters : Letters) (rest more : List ℕ) (role : Role) → Keeps (sized letters rest role) (sized letters (rest ++ more) role)
sized_keeps letters rest more role =
    keeps_open (ltb (length rest) 4) (ltb (length (rest ++ more)) 4) (measured letters role (be_u32 (take 4 rest)) rest) (measured letters role (be_u32 (take 4 (rest ++ more))) (rest ++ more))
    (λ is.
    let four : 4 ≤ length rest = ltb-false (length rest) 4 is in (
      le-ltb (length (rest ++ more)) 4 (omega (arith, length-append rest more)),
      subst (λ b. Keeps (measured letters role (be_u32 (take 4 rest)) rest) (measured letters role (be_u32 b) (rest ++ more))) (sym (take-append-le 4 rest more four)) (measured_keeps letters role (be_u32 (take 4 rest)) rest more four),
    ))

pub front_keeps : (letters : Letters) (is_first : Bool) (bytes more : List ℕ) → Keeps (front_of letters is_first bytes) (front_of letters is_first (bytes ++ more))
front_keeps letters is_first [] more = λ told. absurd (told refl)
front_keeps letters is_first (letter ∷ rest) more =
    keeps_then (role_of letters is_first letter) (role_of letters is_first letter) (sized letters rest) (sized letters (rest ++ more)) (keeps_same _ _ refl) (sized_keeps letters rest more)
