-- A token and the bytes that join it.
use Rattle.std.proofs.Common.{◌≡◌, ℕ, zero, suc, ◌+◌, ◌-◌, ◌<◌, ◌≤◌, Bool, true, false, cond, not, List, [], ◌∷◌, ◌++◌, length, take, drop, get_or, drop-cons, drop-drop, length-append, length-drop, refl, sym, ap, ◌∙◌, arith, add-one, append_assoc, append-nil, take-add, subst}
use Rattle.std.specs.Prelude.{◌&&◌, ◌==◌, slice_range}
use Rattle.std.proofs.lemmas.List.{drop-append-le, drop_all}
use Rattle.std.proofs.lemmas.Bool.Decides.{nat_tests}
use Rattle.rd_base.specs.Token.{Token, text_of, token_of}
use Rattle.rd_base.specs.declared.values.Cursor.{Cursor}
use Rattle.rd_base.specs.declared.values.TokenSpan.{TokenSpan}
use Rattle.rd_base.specs.declared.values.TokenKind.{TokenKind}
use Rattle.rd_base.specs.declared.values.TokenKind.TheVariants.{Soft, Firm, Name}
use Rattle.rd_base.proofs.Cutting.{same_byte, same_range}
use Rattle.rd_body_tokens.specs.declared.place.BodyKind.{BodyKind}
use Rattle.rd_body_tokens.specs.declared.place.BodyKind.TheVariants.{Words, Json, Form, Raw}
use Rattle.rd_body_tokens.specs.declared.place.Place.{Place}
use Rattle.rd_body_tokens.specs.declared.place.Place.TheVariants.{Fresh, Running, Opened, Inside, Escaped, Block}
use Rattle.rd_body_tokens.specs.Tiles.{next, joins, is_open, is_soft, soft_or_firm, kind_at, Going, Ends, Waits, Joins, going, onto, tiles, Joined, one_more, joined_front, IsRun, IsNextBody, body_left, place_of, cursor_at}

-- ---- the tokens behind a first one

abbrev pub made_by : BodyKind → Bool → Token → Place → List ℕ → List Token
made_by kind whole token place [] = cond (not whole && is_open place) [] (token ∷ [])
made_by kind whole token place (c ∷ rest) = token ∷ tiles kind whole place (c ∷ rest)

made_longer : (kind : BodyKind) (whole : Bool) (k l : TokenKind) (b : ℕ) (w : List ℕ) (q : Place) (rest : List ℕ)
    → onto k b Joins (made_by kind whole (record { kind = l; text = w }) q rest) ≡ made_by kind whole (record { kind = k; text = b ∷ w }) q rest
made_longer kind whole k l b w q (c ∷ rest) = refl
made_longer kind whole k l b w q [] = by (not whole && is_open q)
  where
    by : (t : Bool) → onto k b Joins (cond t [] (record { kind = l; text = w } ∷ [])) ≡ cond t [] (record { kind = k; text = b ∷ w } ∷ [])
    by true = refl
    by false = refl

pub run_tiles : (kind : BodyKind) (whole : Bool) (k : TokenKind) (b : ℕ) (p : Place) (bytes : List ℕ)
    → onto k b (going kind whole p bytes) (tiles kind whole p bytes) ≡ made_by kind whole (record { kind = k; text = b ∷ (joined_front kind p bytes).text }) (joined_front kind p bytes).place (joined_front kind p bytes).rest
run_tiles kind whole k b p [] = by (not whole && is_open p)
  where
    by : (t : Bool) → onto k b (cond t Waits Ends) [] ≡ cond t [] (record { kind = k; text = b ∷ [] } ∷ [])
    by true = refl
    by false = refl
run_tiles kind whole k b p (c ∷ bytes) = by (joins kind p c) (run_tiles kind whole (kind_at kind p c) c (next kind p c) bytes)
  where
    q : Place
    q = next kind p c

    j : Joined
    j = joined_front kind q bytes

    later : List Token
    later = onto (kind_at kind p c) c (going kind whole q bytes) (tiles kind whole q bytes)

    by : (t : Bool) → later ≡ made_by kind whole (record { kind = kind_at kind p c; text = c ∷ j.text }) j.place j.rest
        → onto k b (cond t Joins Ends) later
        ≡ made_by kind whole (record { kind = k; text = b ∷ (cond t (one_more c j) (record { text = []; place = p; rest = c ∷ bytes })).text }) (cond t (one_more c j) (record { text = []; place = p; rest = c ∷ bytes })).place (cond t (one_more c j) (record { text = []; place = p; rest = c ∷ bytes })).rest
    by true ih = ap (onto k b Joins) ih ∙ made_longer kind whole k (kind_at kind p c) b (c ∷ j.text) j.place j.rest
    by false ih = refl

pub made_some : (kind : BodyKind) (whole : Bool) (token : Token) (q : Place) (rest : List ℕ) → (length rest ≡ 0 → (not whole && is_open q) ≡ false) → made_by kind whole token q rest ≡ token ∷ tiles kind whole q rest
made_some kind whole token q [] shut = ap (λ t. cond t [] (token ∷ [])) (shut refl)
made_some kind whole token q (c ∷ rest) shut = refl

-- ---- more bytes

fresh_joins : (kind : BodyKind) (b : ℕ) → (joins kind Fresh b ≡ false) × (joins kind Opened b ≡ false)
fresh_joins Words b = (refl, refl)
fresh_joins Json b = (refl, refl)
fresh_joins Form b = (refl, refl)
fresh_joins Raw b = (refl, refl)

-- where no token may go on, no byte joins one
pub shut_joins : (kind : BodyKind) (p : Place) (b : ℕ) → is_open p ≡ false → joins kind p b ≡ false
shut_joins kind Fresh b e = (fresh_joins kind b).0
shut_joins kind Running b e = absurd (cc e)
shut_joins kind Opened b e = (fresh_joins kind b).1
shut_joins kind Inside b e = absurd (cc e)
shut_joins kind Escaped b e = absurd (cc e)
shut_joins kind (Block count) b e = absurd (cc e)

joined_more : (kind : BodyKind) (p : Place) (bytes more : List ℕ) → (length (joined_front kind p bytes).rest ≡ 0 → is_open (joined_front kind p bytes).place ≡ false)
    → joined_front kind p (bytes ++ more) ≡ record { text = (joined_front kind p bytes).text; place = (joined_front kind p bytes).place; rest = (joined_front kind p bytes).rest ++ more }
joined_more kind p [] [] shut = refl
joined_more kind p [] (c ∷ more) shut = ap (λ t. cond t (one_more c (joined_front kind (next kind p c) more)) (record { text = []; place = p; rest = c ∷ more })) (shut_joins kind p c (shut refl))
joined_more kind p (b ∷ bytes) more shut = by (joins kind p b) (joined_more kind (next kind p b) bytes more) shut
  where
    j : Joined
    j = joined_front kind (next kind p b) bytes

    k : Joined
    k = joined_front kind (next kind p b) (bytes ++ more)

    by : (t : Bool) → ((length j.rest ≡ 0 → is_open j.place ≡ false) → k ≡ record { text = j.text; place = j.place; rest = j.rest ++ more })
        → (length (cond t (one_more b j) (record { text = []; place = p; rest = b ∷ bytes })).rest ≡ 0 → is_open (cond t (one_more b j) (record { text = []; place = p; rest = b ∷ bytes })).place ≡ false)
        → cond t (one_more b k) (record { text = []; place = p; rest = b ∷ (bytes ++ more) })
        ≡ record {
          text = (cond t (one_more b j) (record { text = []; place = p; rest = b ∷ bytes })).text;
          place = (cond t (one_more b j) (record { text = []; place = p; rest = b ∷ bytes })).place;
          rest = (cond t (one_more b j) (record { text = []; place = p; rest = b ∷ bytes })).rest ++ more;
        }
    by true ih shut = ap (one_more b) (ih shut)
    by false ih shut = refl

-- ---- the token at a place of a body

-- the byte at a place and a slice behind it
slice_cons : (body : List ℕ) (at end : ℕ) → at < length body → at + 1 ≤ end → slice_range body at end ≡ get_or body at 0 ∷ slice_range body (at + 1) end
slice_cons body at end lt le =
    let size : end - at ≡ suc (end - (at + 1)) = omega arith in
    let place : suc at ≡ at + 1 = omega arith in
    ap (λ n. take n (drop at body)) size ∙ ap (take (suc (end - (at + 1)))) (drop-cons body at 0 lt) ∙ ap (λ n. get_or body at 0 ∷ take (end - (at + 1)) (drop n body)) place

drop_next : (body : List ℕ) (end : ℕ) → end < length body → drop end body ≡ get_or body end 0 ∷ drop (end + 1) body
drop_next body end lt = let place : suc end ≡ end + 1 = omega arith in drop-cons body end 0 lt ∙ ap (λ n. get_or body end 0 ∷ drop n body) place

pub token_here : (kind : BodyKind) (whole : Bool) (body : List ℕ) (at end : ℕ) (p q : Place) → at < length body → IsRun kind (next kind p (get_or body at 0)) body (at + 1) end q
    → (end ≡ length body → (not whole && is_open q) ≡ false)
    → tiles kind whole p (drop at body) ≡ record { kind = kind_at kind p (get_or body at 0); text = slice_range body at end } ∷ tiles kind whole q (drop end body)
token_here kind whole body at end p q lt run shut =
    let b = get_or body at 0 in
    let rest = drop (at + 1) body in
    let place : suc at ≡ at + 1 = omega arith in
    let cut : drop at body ≡ b ∷ rest = drop-cons body at 0 lt ∙ ap (λ n. b ∷ drop n body) place in
    ap (tiles kind whole p) cut
    ∙ run_tiles kind whole (kind_at kind p b) b (next kind p b) rest
    ∙ ap (λ (j : Joined). made_by kind whole (record { kind = kind_at kind p b; text = b ∷ j.text }) j.place j.rest) run.is
    ∙ made_some kind whole (record { kind = kind_at kind p b; text = b ∷ slice_range body (at + 1) end }) q (drop end body) (λ none. shut (omega (arith, none, run.within, length-drop end body)))
    ∙ ap (λ (w : List ℕ). record { kind = kind_at kind p b; text = w } ∷ tiles kind whole q (drop end body)) (sym (slice_cons body at end lt run.ordered))

-- a run that has ended is one in each longer body
pub run_more : (kind : BodyKind) (p : Place) (body more : List ℕ) (from end : ℕ) (q : Place) → IsRun kind p body from end q → (end ≡ length body → is_open q ≡ false) → IsRun kind p (body ++ more) from end q
run_more kind p body more from end q run shut =
    let inside : from ≤ length body = omega (arith, run.ordered, run.within) in
    let rest = drop from body in
    let same_rest : (joined_front kind p rest).rest ≡ drop end body = ap (λ (j : Joined). j.rest) run.is in
    let same_place : (joined_front kind p rest).place ≡ q = ap (λ (j : Joined). j.place) run.is in
    let closed : length (joined_front kind p rest).rest ≡ 0 → is_open (joined_front kind p rest).place ≡ false =
    λ none. ap is_open same_place ∙ shut (omega (arith, none, ap length same_rest, run.within, length-drop end body)) in
    record {
      ordered = run.ordered;
      within = omega (arith, run.within, length-append body more);
      is = ap (joined_front kind p) (drop-append-le from body more inside)
          ∙ joined_more kind p rest more closed
          ∙ ap (λ (j : Joined). record { text = j.text; place = j.place; rest = j.rest ++ more }) run.is
          ∙ ap (λ (t : List ℕ). record { text = t; place = q; rest = drop end body ++ more }) (sym (same_range body more from end run.ordered run.within))
          ∙ ap (λ (t : List ℕ). record { text = slice_range (body ++ more) from end; place = q; rest = t }) (sym (drop-append-le end body more run.within));
    }

-- ---- kinds and cursors

-- no token of a body is a name
pub plain_text : (kind : BodyKind) (p : Place) (b : ℕ) (text : List ℕ) → text_of (kind_at kind p b) text ≡ text
plain_text kind p b text = by (is_soft kind p b)
  where
    by : (t : Bool) → text_of (soft_or_firm t) text ≡ text
    by true = refl
    by false = refl

pub place_of_cursor : (at : ℕ) (p : Place) → place_of (cursor_at at p) ≡ p
place_of_cursor at Fresh = refl
place_of_cursor at Running = refl
place_of_cursor at Opened = refl
place_of_cursor at Inside = refl
place_of_cursor at Escaped = refl
place_of_cursor at (Block count) = refl

pub at_of_cursor : (at : ℕ) (p : Place) → (cursor_at at p).at ≡ at
at_of_cursor at Fresh = refl
at_of_cursor at Running = refl
at_of_cursor at Opened = refl
at_of_cursor at Inside = refl
at_of_cursor at Escaped = refl
at_of_cursor at (Block count) = refl

-- ---- the loop

pub record IsGoing (kind : BodyKind) (place : Place) (body : List ℕ) (from end : ℕ) (here : Place) : Type 0 where
  pub ordered : from ≤ end
  pub within : end ≤ length body
  pub is : joined_front kind place (drop from body) ≡ record { text = slice_range body from end ++ (joined_front kind here (drop end body)).text; place = (joined_front kind here (drop end body)).place; rest = (joined_front kind here (drop end body)).rest }

pub going_begins : (kind : BodyKind) (p : Place) (body : List ℕ) (from : ℕ) → from ≤ length body → IsGoing kind p body from from p
going_begins kind p body from le =
    let j = joined_front kind p (drop from body) in
    let none : slice_range body from from ≡ [] = let zero_is : from - from ≡ 0 = omega arith in ap (λ n. take n (drop from body)) zero_is in
    record { ordered = omega arith; within = le; is = ap (λ (w : List ℕ). record { text = w ++ j.text; place = j.place; rest = j.rest }) (sym none) }

slice_push : (body : List ℕ) (from end : ℕ) → from ≤ end → end < length body → slice_range body from (end + 1) ≡ slice_range body from end ++ get_or body end 0 ∷ []
slice_push body from end le lt =
    let size : (end + 1) - from ≡ (end - from) + 1 = omega arith in
    let place : from + (end - from) ≡ end = omega arith in
    ap (λ n. take n (drop from body)) size
    ∙ take-add (end - from) 1 (drop from body)
    ∙ ap (λ (t : List ℕ). slice_range body from end ++ take 1 t) (drop-drop (end - from) from body ∙ ap (λ n. drop n body) place ∙ drop-cons body end 0 lt)

pub going_more : (kind : BodyKind) (p : Place) (body : List ℕ) (from end : ℕ) (here : Place) → IsGoing kind p body from end here → end < length body → joins kind here (get_or body end 0) ≡ true
    → IsGoing kind p body from (end + 1) (next kind here (get_or body end 0))
going_more kind p body from end here going lt joined =
    let c = get_or body end 0 in
    let rest = drop (end + 1) body in
    let j = joined_front kind (next kind here c) rest in
    let step : joined_front kind here (drop end body) ≡ one_more c j =
    ap (joined_front kind here) (drop_next body end lt) ∙ ap (λ t. cond t (one_more c j) (record { text = []; place = here; rest = c ∷ rest })) joined in
    record {
      ordered = omega (arith, going.ordered);
      within = omega arith;
      is = going.is
          ∙ ap (λ (k : Joined). record { text = slice_range body from end ++ k.text; place = k.place; rest = k.rest }) step
          ∙ ap (λ (w : List ℕ). record { text = w; place = j.place; rest = j.rest }) (sym (append_assoc (slice_range body from end) (c ∷ []) j.text) ∙ ap (λ (w : List ℕ). w ++ j.text) (sym (slice_push body from end going.ordered lt)));
    }

run_ends : (kind : BodyKind) (p : Place) (body : List ℕ) (from end : ℕ) (here : Place) → IsGoing kind p body from end here → joined_front kind here (drop end body) ≡ record { text = []; place = here; rest = drop end body }
    → IsRun kind p body from end here
run_ends kind p body from end here going stop =
    record {
      ordered = going.ordered;
      within = going.within;
      is = going.is
          ∙ ap (λ (k : Joined). record { text = slice_range body from end ++ k.text; place = k.place; rest = k.rest }) stop
          ∙ ap (λ (w : List ℕ). record { text = w; place = here; rest = drop end body }) (append-nil (slice_range body from end));
    }

pub run_at_end : (kind : BodyKind) (p : Place) (body : List ℕ) (from end : ℕ) (here : Place) → IsGoing kind p body from end here → length body ≤ end → IsRun kind p body from end here
run_at_end kind p body from end here going past =
    let none : drop end body ≡ [] = drop_all end body past in
    run_ends kind p body from end here going (ap (joined_front kind here) none ∙ ap (λ (t : List ℕ). record { text = []; place = here; rest = t }) (sym none))

pub run_at_byte : (kind : BodyKind) (p : Place) (body : List ℕ) (from end : ℕ) (here : Place) → IsGoing kind p body from end here → end < length body → joins kind here (get_or body end 0) ≡ false → IsRun kind p body from end here
run_at_byte kind p body from end here going lt other =
    let c = get_or body end 0 in
    let rest = drop (end + 1) body in
    run_ends kind p body from end here going
    (ap (joined_front kind here) (drop_next body end lt)
    ∙ ap (λ t. cond t (one_more c (joined_front kind (next kind here c) rest)) (record { text = []; place = here; rest = c ∷ rest })) other
    ∙ ap (λ (t : List ℕ). record { text = []; place = here; rest = t }) (sym (drop_next body end lt)))

-- a token that may still go on isn't there yet
pub token_waits : (kind : BodyKind) (whole : Bool) (body : List ℕ) (at end : ℕ) (p q : Place) → at < length body → IsRun kind (next kind p (get_or body at 0)) body (at + 1) end q
    → end ≡ length body → (not whole && is_open q) ≡ true → tiles kind whole p (drop at body) ≡ []
token_waits kind whole body at end p q lt run last open_here =
    let b = get_or body at 0 in
    let k = kind_at kind p b in
    let rest = drop (at + 1) body in
    let text = b ∷ slice_range body (at + 1) end in
    ap (tiles kind whole p) (drop_next body at lt)
    ∙ run_tiles kind whole k b (next kind p b) rest
    ∙ ap (λ (j : Joined). made_by kind whole (record { kind = k; text = b ∷ j.text }) j.place j.rest) run.is
    ∙ ap (λ (t : List ℕ). made_by kind whole (record { kind = k; text = text }) q t) (drop_all end body (omega (arith, last)))
    ∙ ap (λ t. cond t [] (record { kind = k; text = text } ∷ [])) open_here

-- a token at a place of a body has the kind and the bytes of its span
pub span_token : (kind : BodyKind) (p : Place) (b : ℕ) (body : List ℕ) (at end : ℕ) (k : TokenKind) → k ≡ kind_at kind p b
    → token_of body (record { kind = k; start = at; end = end }) ≡ record { kind = kind_at kind p b; text = slice_range body at end }
span_token kind p b body at end k is =
    ap (λ (l : TokenKind). token_of body (record { kind = l; start = at; end = end })) is
    ∙ ap (λ (t : List ℕ). record { kind = kind_at kind p b; text = t }) (plain_text kind p b (slice_range body at end))

-- the next cursor has before it what follows the token
pub cursor_left : (kind : BodyKind) (whole : Bool) (body : List ℕ) (end : ℕ) (q : Place) (after : Cursor) → after ≡ cursor_at end q → tiles kind whole q (drop end body) ≡ body_left kind whole after body
cursor_left kind whole body end q after is =
    ap (λ (p : Place). tiles kind whole p (drop end body)) (sym (place_of_cursor end q))
    ∙ ap (λ n. tiles kind whole (place_of (cursor_at end q)) (drop n body)) (sym (at_of_cursor end q))
    ∙ ap (λ (c : Cursor). body_left kind whole c body) (sym is)

pub next_is : (kind : BodyKind) (whole : Bool) (body : List ℕ) (cursor : Cursor) (end : ℕ) (q : Place) (k : TokenKind) (after : Cursor) → cursor.at < length body
    → IsRun kind (next kind (place_of cursor) (get_or body cursor.at 0)) body (cursor.at + 1) end q
    → (end == length body && not whole && is_open q) ≡ false → k ≡ kind_at kind (place_of cursor) (get_or body cursor.at 0) → after ≡ cursor_at end q
    → IsNextBody kind body whole cursor (record { kind = k; start = cursor.at; end = end }) after
next_is kind whole body cursor end q k after lt run shut kind_is after_is =
    let at = cursor.at in
    let b = get_or body at 0 in
    let p = place_of cursor in
    record {
      from = refl;
      past = omega (arith, run.ordered);
      within = run.within;
      behind = ap (λ (c : Cursor). c.at) after_is ∙ at_of_cursor end q;
      here = token_here kind whole body at end p q lt run (λ last. shut_here whole (is_open q) end (length body) shut last)
          ∙ ap (λ (t : Token). t ∷ tiles kind whole q (drop end body)) (sym (span_token kind p b body at end k kind_is))
          ∙ ap (λ ts. token_of body (record { kind = k; start = at; end = end }) ∷ ts) (cursor_left kind whole body end q after after_is);
      on = λ part more all.
          let longer = body ++ more in
          let lt_longer : at < length longer = omega (arith, lt, length-append body more) in
          let closed : end ≡ length body → is_open q ≡ false = λ last. shut_part whole (is_open q) end (length body) shut last part in
          let same : get_or longer at 0 ≡ b = same_byte body more at lt in
          let run_longer = run_more kind (next kind p b) body more (at + 1) end q run closed in
          let run_here = subst (λ (c : ℕ). IsRun kind (next kind p c) longer (at + 1) end q) (sym same) run_longer in
          let shut_longer : end ≡ length longer → (not all && is_open q) ≡ false = λ last. not_open all (is_open q) (closed (omega (arith, last, run.within, length-append body more))) in
          token_here kind all longer at end p q lt_longer run_here shut_longer
          ∙ ap (λ (c : ℕ). record { kind = kind_at kind p c; text = slice_range longer at end } ∷ tiles kind all q (drop end longer)) same
          ∙ ap (λ (t : List ℕ). record { kind = kind_at kind p b; text = t } ∷ tiles kind all q (drop end longer)) (same_range body more at end (omega (arith, run.ordered)) run.within)
          ∙ ap (λ (t : Token). t ∷ tiles kind all q (drop end longer)) (sym (span_token kind p b body at end k kind_is))
          ∙ ap (λ ts. token_of body (record { kind = k; start = at; end = end }) ∷ ts) (cursor_left kind all longer end q after after_is);
    }
  where
    shut_here : (whole may : Bool) (end len : ℕ) → (end == len && not whole && may) ≡ false → end ≡ len → (not whole && may) ≡ false
    shut_here whole may end len shut is = grind (arith, nat_tests, shut, is)

    shut_part : (whole may : Bool) (end len : ℕ) → (end == len && not whole && may) ≡ false → end ≡ len → whole ≡ false → may ≡ false
    shut_part false may end len shut is part = grind (arith, nat_tests, shut, is)
    shut_part true may end len shut is part = absurd (cc part)

    not_open : (all may : Bool) → may ≡ false → (not all && may) ≡ false
    not_open true may e = refl
    not_open false may e = e
