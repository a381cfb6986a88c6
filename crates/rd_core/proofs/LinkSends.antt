-- Sends in the order of links.
use Rattle.std.proofs.Common.{◌≡◌, ℕ, zero, suc, ◌<◌, List, [], ◌∷◌, ◌++◌, ap, ◌∙◌, arith, append-nil}
use Rattle.std.specs.List.{All}
use Rattle.std.proofs.lemmas.List.Elements.{All-same, All-append, All-nil, All-cons, All-weaker}
use Rattle.std.proofs.lemmas.Grind.{flat_map-append}
use Rattle.rd_base.specs.Words.{below}
use Rattle.rd_base.specs.Sent.{send_of, sends_to}
use Rattle.rd_base.specs.declared.sends.Send.{Send}

pub sends_to-more : (n : ℕ) (f : ℕ → List ℕ) → sends_to (suc n) f ≡ sends_to n f ++ send_of n (f n)
sends_to-more n f =
    flat_map-append (λ link. send_of link (f link)) (below n) (n ∷ [])
    ∙ ap (λ xs. sends_to n f ++ xs) (append-nil (send_of n (f n)))

one_link : (n m : ℕ) (bytes : List ℕ) → m < n → All (λ (s : Send). s.link.0 < n) (send_of m bytes)
one_link n m [] lt = All-nil (λ (s : Send). s.link.0 < n)
one_link n m (b ∷ bytes) lt = All-cons (λ (s : Send). s.link.0 < n) (record { link = record { 0 = m }; bytes = b ∷ bytes }) [] lt (All-nil (λ (s : Send). s.link.0 < n))

pub sends_below : (n : ℕ) (f : ℕ → List ℕ) → All (λ (s : Send). s.link.0 < n) (sends_to n f)
sends_below zero f = All-nil (λ (s : Send). s.link.0 < 0)
sends_below (suc n) f =
    All-same (λ (s : Send). s.link.0 < suc n) (sends_to (suc n) f) (sends_to n f ++ send_of n (f n)) (sends_to-more n f)
    (All-append (λ (s : Send). s.link.0 < suc n) (sends_to n f) (send_of n (f n))
    (All-weaker (λ (s : Send). s.link.0 < n) (λ (s : Send). s.link.0 < suc n) (λ s lt. omega arith) (sends_to n f) (sends_below n f))
    (one_link (suc n) n (f n) (omega arith)))
