-- That the words of a request are those of its head.
use Rattle.std.proofs.Common.{◌≡◌, ℕ, ◌+◌, ◌&&◌, true, false, Bool, List, [], ◌∷◌, ◌++◌, length, take, drop, refl, sym, ap, ◌∙◌, arith}
use Rattle.std.specs.List.{prefix_len, AllPass, list_all}
use Rattle.std.proofs.lemmas.Bool.Decides.{nat_tests}
use Rattle.std.proofs.Math.Seq.{take-append_seam}
use Rattle.std.proofs.lemmas.Grind.{common_steps}
use Rattle.std.proofs.lemmas.List.Elements.{All-head, All-tail}
use Rattle.httparse.specs.Grammar.{is_token_byte, RequestHead, ReadsRequest, print_end}
use Rattle.rd_http_frame.specs.Fronts.{after_front, is_target_byte}
use Rattle.rd_http_frame.proofs.HeadLines.{head_front, drop-word, from_version}
use Rattle.rd_operator.specs.Asked.{is_word_byte, word, method_of}
use Rattle.rd_operator.specs.HeadWords.{is_no_query, before_query, AreOfHead}

token_is_word : (b : ℕ) → is_token_byte b ≡ true → is_word_byte b ≡ true
unfolding is_token_byte
token_is_word b h = grind (arith, nat_tests, h)

-- a method ends at its space
token_len : (w rest : List ℕ) → AllPass is_token_byte w → prefix_len is_word_byte (w ++ 32 ∷ rest) ≡ length w
token_len [] rest h = refl
token_len (b ∷ w) rest h =
    let here : is_word_byte b ≡ true = token_is_word b (All-head (λ v. is_token_byte v ≡ true) b w h) in
    rw here (ap (λ (n : ℕ). 1 + n) (token_len w rest (All-tail (λ v. is_token_byte v ≡ true) b w h)) ∙ omega arith)

token_word : (w rest : List ℕ) → AllPass is_token_byte w → word (w ++ 32 ∷ rest) ≡ w
token_word w rest h = ap (λ (n : ℕ). take n (w ++ 32 ∷ rest)) (token_len w rest h) ∙ take-append_seam w (32 ∷ rest)

take_one : (n b : ℕ) (xs : List ℕ) → take (1 + n) (b ∷ xs) ≡ b ∷ take n xs
take_one n b xs = grind (arith, common_steps)

-- a target ends at its space, or at a `?`
target_word : (t rest : List ℕ) → list_all is_target_byte t ≡ true → word (t ++ 32 ∷ rest) ≡ before_query t
target_word [] rest h = refl
target_word (b ∷ t) rest h = by (is_target_byte b) (is_no_query b) refl refl h (target_word t rest)
  where
    by : (v q : Bool) → is_target_byte b ≡ v → is_no_query b ≡ q → (v && list_all is_target_byte t) ≡ true
        → (list_all is_target_byte t ≡ true → word (t ++ 32 ∷ rest) ≡ before_query t)
        → word (b ∷ (t ++ 32 ∷ rest)) ≡ before_query (b ∷ t)
    by true true e f g more =
        rw (e, f)
        (take_one (prefix_len is_word_byte (t ++ 32 ∷ rest)) b (t ++ 32 ∷ rest) ∙ ap (λ (xs : List ℕ). b ∷ xs) (more g)
        ∙ sym (take_one (prefix_len is_no_query t) b t))
    by true false e f g more = rw (e, f) refl
    by false q e f g more = absurd (cc g)

pub head_words : (bytes : List ℕ) (h : RequestHead) (rest : List ℕ) → ReadsRequest bytes h rest
    → list_all is_target_byte h.target ≡ true → AreOfHead bytes h
head_words bytes h rest x visible =
    let behind = from_version h (print_end h.last ++ rest) in
    let front : after_front bytes ≡ h.method ++ 32 ∷ (h.target ++ 32 ∷ behind) = head_front bytes h rest x in
    let method : method_of bytes ≡ h.method = ap word front ∙ token_word h.method (h.target ++ 32 ∷ behind) x.0.method.1 in
    let dropped : drop (length (method_of bytes) + 1) (after_front bytes) ≡ h.target ++ 32 ∷ behind =
    ap (λ (m : List ℕ). drop (length m + 1) (after_front bytes)) method
    ∙ ap (λ (t : List ℕ). drop (length h.method + 1) t) front
    ∙ drop-word h.method (h.target ++ 32 ∷ behind) 32 in
    record { method = method; path = ap word dropped ∙ target_word h.target behind visible }
