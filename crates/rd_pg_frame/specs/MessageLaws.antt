-- Units of messages are cut in one way.
use Rattle.std.proofs.Common.{◌≡◌, ◌≢◌, ℕ, zero, suc, ◌+◌, ◌<◌, ◌≤◌, Bool, true, false, ◌&&◌, cond, List, [], ◌∷◌, ◌++◌, length, take, drop, take-add, leb, length-append, length-take, length-drop, Result, Ok, Err, refl, sym, ap, subst, ◌∙◌, arith}
use Rattle.std.proofs.lemmas.List.{drop-append-le, drop-take}
use Rattle.rd_base.specs.Scans.{behind, and_then}
use Rattle.rd_base.specs.declared.values.Scan.{Scan}
use Rattle.rd_base.specs.declared.values.Scan.TheVariants.{Whole, More, Bad, TooBig, Unsupported}
use Rattle.rd_pg_frame.specs.declared.role.Role.{Role}
use Rattle.rd_pg_frame.specs.declared.role.Role.TheVariants.{Inner, Last, Authentication, Status}
use Rattle.rd_pg_frame.specs.declared.front.Front.{Front}
use Rattle.rd_pg_frame.specs.Letters.{Letters}
use Rattle.rd_pg_frame.specs.Messages.{be_u32, is_among}
use Rattle.rd_pg_frame.specs.Fronts.{role_of, ends, if_there, sized, front_of}
use Rattle.rd_pg_frame.specs.FrontLaws.{Keeps, front_fits, front_itself, front_keeps}
use Rattle.rd_pg_frame.specs.Scanning.{go_on, scan_up_to, scan_messages}
use Rattle.rd_pg_frame.specs.Framing.{IsFraming}

-- without a whole message there is no whole unit
record NotWhole {A : Type 0} (r : Result A Scan) : Type 0 where
  never : (len : ℕ) → r ≢ Err (Whole len)

not_ok : {A : Type 0} (a : A) → NotWhole (Ok a)
not_ok a = record { never = λ len e. cc e }

not_more : {A : Type 0} → NotWhole {A = A} (Err More)
not_more = record { never = λ len e. cc e }

not_bad : {A : Type 0} → NotWhole {A = A} (Err Bad)
not_bad = record { never = λ len e. cc e }

not_supported : {A : Type 0} (code : ℕ) → NotWhole {A = A} (Err (Unsupported code))
not_supported code = record { never = λ len e. cc e }

not_cond : {A : Type 0} {q r : Result A Scan} (t : Bool) → NotWhole q → NotWhole r → NotWhole (cond t q r)
not_cond true h k = h
not_cond false h k = k

not_then : {A B : Type 0} (r : Result A Scan) (f : A → Result B Scan) → NotWhole r → ((a : A) → NotWhole (f a)) → NotWhole (and_then r f)
not_then (Ok a) f h each = each a
not_then (Err scan) f h each = record { never = λ len e. let same : scan ≡ Whole len = cc e in h.never len (ap Err same) }

not_role : (letters : Letters) (is_first : Bool) (letter : ℕ) → NotWhole (role_of letters is_first letter)
not_role letters is_first letter =
    not_cond (is_first && is_among letters.alone letter) (not_ok Last)
    (not_cond (is_among letters.inner letter) (not_ok Inner)
    (not_cond (is_among letters.last letter) (not_ok Last)
    (not_cond (is_among letters.authentication letter) (not_ok Authentication)
    (not_cond (is_among letters.status letter) (not_ok Status)
    (not_cond (is_among letters.unsupported letter) (not_supported letter) not_bad)))))

not_ends : (letters : Letters) (role : Role) (len : ℕ) (content : List ℕ) → NotWhole (ends letters role len content)
not_ends letters Inner len content = not_ok false
not_ends letters Last len content = not_ok true
not_ends letters Authentication len content =
    not_cond _ not_bad (not_cond _ not_more (not_cond _ (not_ok false) (not_cond _ (not_ok true) (not_supported (be_u32 (take 4 content))))))
not_ends letters Status len [] = not_cond _ not_more not_bad
not_ends letters Status len (status ∷ rest) = not_cond _ (not_cond _ (not_ok true) not_bad) not_bad

not_there : (len : ℕ) (rest : List ℕ) (is_last : Bool) → NotWhole (if_there len rest is_last)
not_there len rest is_last = not_cond (leb len (length rest)) (not_ok (record { size = len + 1; is_last = is_last })) not_more

not_sized : (letters : Letters) (rest : List ℕ) (role : Role) → NotWhole (sized letters rest role)
not_sized letters rest role =
    let len = be_u32 (take 4 rest) in
    not_cond _ not_more (not_cond _ (not_then (ends letters role len (drop 4 rest)) (if_there len rest) (not_ends letters role len (drop 4 rest)) (not_there len rest)) not_bad)

not_front : (letters : Letters) (is_first : Bool) (bytes : List ℕ) → NotWhole (front_of letters is_first bytes)
not_front letters is_first [] = not_more
not_front letters is_first (letter ∷ rest) = not_then (role_of letters is_first letter) (sized letters rest) (not_role letters is_first letter) (not_sized letters rest)

-- what is no unit has no length that bytes before it could change
pub stopped_behind : (size : ℕ) (letters : Letters) (is_first : Bool) (bytes : List ℕ) (scan : Scan) → front_of letters is_first bytes ≡ Err scan → behind size scan ≡ scan
stopped_behind size letters is_first bytes (Whole len) e = absurd ((not_front letters is_first bytes).never len e)
stopped_behind size letters is_first bytes More e = refl
stopped_behind size letters is_first bytes Bad e = refl
stopped_behind size letters is_first bytes TooBig e = refl
stopped_behind size letters is_first bytes (Unsupported code) e = refl

pub stopped_never : (letters : Letters) (is_first : Bool) (bytes : List ℕ) (scan : Scan) (len : ℕ) → front_of letters is_first bytes ≡ Err scan → scan ≢ Whole len
stopped_never letters is_first bytes scan len e q = (not_front letters is_first bytes).never len (e ∙ ap Err q)

pub behind_whole : (size : ℕ) (scan : Scan) (len : ℕ) → behind size scan ≡ Whole len → (k : ℕ) × (scan ≡ Whole k) × (size + k ≡ len)
behind_whole size (Whole k) len e = let same : size + k ≡ len = cc e in (k, refl, same)
behind_whole size More len e = absurd (cc e)
behind_whole size Bad len e = absurd (cc e)
behind_whole size TooBig len e = absurd (cc e)
behind_whole size (Unsupported code) len e = absurd (cc e)

-- as many messages as there are bytes are enough
pub enough : (n m : ℕ) (letters : Letters) (is_first : Bool) (bytes : List ℕ) → length bytes ≤ n → length bytes ≤ m → scan_up_to n letters is_first bytes ≡ scan_up_to m letters is_first bytes
enough zero zero letters is_first bytes h k = refl
enough zero (suc m) letters is_first [] h k = refl
enough zero (suc m) letters is_first (b ∷ bytes) h k = absurd (omega arith)
enough (suc n) zero letters is_first [] h k = refl
enough (suc n) zero letters is_first (b ∷ bytes) h k = absurd (omega arith)
enough (suc n) (suc m) letters is_first bytes h k = go (λ rest. enough n m letters false rest) (front_of letters is_first bytes) refl
  where
    go : ((rest : List ℕ) → length rest ≤ n → length rest ≤ m → scan_up_to n letters false rest ≡ scan_up_to m letters false rest)
        → (r : Result Front Scan) → front_of letters is_first bytes ≡ r
        → go_on r (λ size. scan_up_to n letters false (drop size bytes)) ≡ go_on r (λ size. scan_up_to m letters false (drop size bytes))
    go ih (Ok front) is =
        let fits = front_fits letters is_first bytes front is in
        let left = length-drop front.size bytes in
        ap (λ s. cond front.is_last (Whole front.size) (behind front.size s)) (ih (drop front.size bytes) (omega (arith, fits.0, fits.1, left)) (omega (arith, fits.0, fits.1, left)))
    go ih (Err scan) is = refl

whole_within : (n : ℕ) (letters : Letters) (is_first : Bool) (bytes : List ℕ) (len : ℕ) → scan_up_to n letters is_first bytes ≡ Whole len → (0 < len) × (len ≤ length bytes)
whole_within zero letters is_first bytes len e = absurd (cc e)
whole_within (suc n) letters is_first bytes len e = go (λ rest k. whole_within n letters false rest k) (front_of letters is_first bytes) refl (not_front letters is_first bytes) e
  where
    by_last : ((rest : List ℕ) (k : ℕ) → scan_up_to n letters false rest ≡ Whole k → (0 < k) × (k ≤ length rest))
        → (front : Front) → front_of letters is_first bytes ≡ Ok front → (t : Bool)
        → cond t (Whole front.size) (behind front.size (scan_up_to n letters false (drop front.size bytes))) ≡ Whole len → (0 < len) × (len ≤ length bytes)
    by_last ih front is true q =
        let fits = front_fits letters is_first bytes front is in
        let same : front.size ≡ len = cc q in
        (omega (arith, fits.0), omega (arith, fits.1))
    by_last ih front is false q =
        let fits = front_fits letters is_first bytes front is in
        let more = behind_whole front.size (scan_up_to n letters false (drop front.size bytes)) len q in
        let rest = ih (drop front.size bytes) more.0 more.1 in
        (omega (arith, fits.0, more.2), omega (arith, fits.1, more.2, rest.1, length-drop front.size bytes))

    go : ((rest : List ℕ) (k : ℕ) → scan_up_to n letters false rest ≡ Whole k → (0 < k) × (k ≤ length rest))
        → (r : Result Front Scan) → front_of letters is_first bytes ≡ r → NotWhole r
        → go_on r (λ size. scan_up_to n letters false (drop size bytes)) ≡ Whole len → (0 < len) × (len ≤ length bytes)
    go ih (Ok front) is none q = by_last ih front is front.is_last q
    go ih (Err scan) is none q = absurd (none.never len (ap Err q))

-- the first messages of a unit, and the last, where nothing follows it
last_itself : (n : ℕ) (letters : Letters) (is_first : Bool) (bytes : List ℕ) (front : Front) → front_of letters is_first bytes ≡ Ok front → front.is_last ≡ true → scan_up_to (suc n) letters is_first (take front.size bytes) ≡ Whole front.size
last_itself n letters is_first bytes front is last =
    ap (λ r. go_on r (λ size. scan_up_to n letters false (drop size (take front.size bytes)))) (front_itself letters is_first bytes front is)
    ∙ ap (λ t. cond t (Whole front.size) (behind front.size (scan_up_to n letters false (drop front.size (take front.size bytes))))) last

inner_itself : (n : ℕ) (letters : Letters) (is_first : Bool) (bytes : List ℕ) (front : Front) (k : ℕ) → front_of letters is_first bytes ≡ Ok front → front.is_last ≡ false → scan_up_to n letters false (take k (drop front.size bytes)) ≡ Whole k → scan_up_to (suc n) letters is_first (take (front.size + k) bytes) ≡ Whole (front.size + k)
inner_itself n letters is_first bytes front k is inner rest =
    let short = take front.size bytes in
    let more = take k (drop front.size bytes) in
    let cut : take (front.size + k) bytes ≡ short ++ more = take-add front.size k bytes in
    let keeps = subst (λ r. Keeps r (front_of letters is_first (short ++ more))) (front_itself letters is_first bytes front is) (front_keeps letters is_first short more) in
    let stands : front_of letters is_first (take (front.size + k) bytes) ≡ Ok front = ap (front_of letters is_first) cut ∙ keeps in
    ap (λ r. go_on r (λ size. scan_up_to n letters false (drop size (take (front.size + k) bytes)))) stands
    ∙ ap (λ t. cond t (Whole front.size) (behind front.size (scan_up_to n letters false (drop front.size (take (front.size + k) bytes))))) inner
    ∙ ap (λ b. behind front.size (scan_up_to n letters false b)) (drop-take front.size k bytes)
    ∙ ap (behind front.size) rest

whole_itself : (n : ℕ) (letters : Letters) (is_first : Bool) (bytes : List ℕ) (len : ℕ) → scan_up_to n letters is_first bytes ≡ Whole len → scan_up_to n letters is_first (take len bytes) ≡ Whole len
whole_itself zero letters is_first bytes len e = absurd (cc e)
whole_itself (suc n) letters is_first bytes len e = go (λ rest k. whole_itself n letters false rest k) (front_of letters is_first bytes) refl (not_front letters is_first bytes) e
  where
    by_last : ((rest : List ℕ) (k : ℕ) → scan_up_to n letters false rest ≡ Whole k → scan_up_to n letters false (take k rest) ≡ Whole k)
        → (front : Front) → front_of letters is_first bytes ≡ Ok front → (t : Bool) → front.is_last ≡ t
        → cond t (Whole front.size) (behind front.size (scan_up_to n letters false (drop front.size bytes))) ≡ Whole len
        → scan_up_to (suc n) letters is_first (take len bytes) ≡ Whole len
    by_last ih front is true last q =
        let same : front.size ≡ len = cc q in
        subst (λ k. scan_up_to (suc n) letters is_first (take k bytes) ≡ Whole k) same (last_itself n letters is_first bytes front is last)
    by_last ih front is false inner q =
        let more = behind_whole front.size (scan_up_to n letters false (drop front.size bytes)) len q in
        subst (λ k. scan_up_to (suc n) letters is_first (take k bytes) ≡ Whole k) more.2
        (inner_itself n letters is_first bytes front more.0 is inner (ih (drop front.size bytes) more.0 more.1))

    go : ((rest : List ℕ) (k : ℕ) → scan_up_to n letters false rest ≡ Whole k → scan_up_to n letters false (take k rest) ≡ Whole k)
        → (r : Result Front Scan) → front_of letters is_first bytes ≡ r → NotWhole r
        → go_on r (λ size. scan_up_to n letters false (drop size bytes)) ≡ Whole len
        → scan_up_to (suc n) letters is_first (take len bytes) ≡ Whole len
    go ih (Ok front) is none q = by_last ih front is front.is_last refl q
    go ih (Err scan) is none q = absurd (none.never len (ap Err q))

told_stays : (n m : ℕ) (letters : Letters) (is_first : Bool) (bytes more : List ℕ) → n ≤ m → scan_up_to n letters is_first bytes ≢ More → scan_up_to m letters is_first (bytes ++ more) ≡ scan_up_to n letters is_first bytes
told_stays zero m letters is_first bytes more h told = absurd (told refl)
told_stays (suc n) zero letters is_first bytes more h told = absurd (omega arith)
told_stays (suc n) (suc m) letters is_first bytes more h told = go (λ rest. told_stays n m letters false rest more (omega arith)) (front_of letters is_first bytes) refl (front_keeps letters is_first bytes more) told
  where
    by_last : ((rest : List ℕ) → scan_up_to n letters false rest ≢ More → scan_up_to m letters false (rest ++ more) ≡ scan_up_to n letters false rest)
        → (front : Front) → front.size ≤ length bytes → (t : Bool)
        → cond t (Whole front.size) (behind front.size (scan_up_to n letters false (drop front.size bytes))) ≢ More
        → cond t (Whole front.size) (behind front.size (scan_up_to m letters false (drop front.size (bytes ++ more)))) ≡ cond t (Whole front.size) (behind front.size (scan_up_to n letters false (drop front.size bytes)))
    by_last ih front fits true told = refl
    by_last ih front fits false told =
        ap (λ b. behind front.size (scan_up_to m letters false b)) (drop-append-le front.size bytes more fits)
        ∙ ap (behind front.size) (ih (drop front.size bytes) (λ e. told (ap (behind front.size) e)))

    go : ((rest : List ℕ) → scan_up_to n letters false rest ≢ More → scan_up_to m letters false (rest ++ more) ≡ scan_up_to n letters false rest)
        → (r : Result Front Scan) → front_of letters is_first bytes ≡ r → Keeps r (front_of letters is_first (bytes ++ more))
        → go_on r (λ size. scan_up_to n letters false (drop size bytes)) ≢ More
        → go_on (front_of letters is_first (bytes ++ more)) (λ size. scan_up_to m letters false (drop size (bytes ++ more))) ≡ go_on r (λ size. scan_up_to n letters false (drop size bytes))
    go ih (Ok front) is keeps told =
        ap (λ r. go_on r (λ size. scan_up_to m letters false (drop size (bytes ++ more)))) keeps
        ∙ by_last ih front (front_fits letters is_first bytes front is).1 front.is_last told
    go ih (Err scan) is keeps told = ap (λ r. go_on r (λ size. scan_up_to m letters false (drop size (bytes ++ more)))) (keeps told)

pub messages_framing : (letters : Letters) → IsFraming (scan_messages letters)
messages_framing letters =
    record {
      some_bytes = λ bytes len is. (whole_within (length bytes) letters true bytes len is).0;
      within = λ bytes len is. (whole_within (length bytes) letters true bytes len is).1;
      itself = λ bytes len is.
          let fits = (whole_within (length bytes) letters true bytes len is).1 in
          let size : length (take len bytes) ≡ len = omega (arith, length-take len bytes, fits) in
          enough (length (take len bytes)) (length bytes) letters true (take len bytes) (omega arith) (omega (arith, size, fits))
          ∙ whole_itself (length bytes) letters true bytes len is ∙ ap Whole (sym size);
      told = λ bytes more told. told_stays (length bytes) (length (bytes ++ more)) letters true bytes more (omega (arith, length-append bytes more)) told;
    }
