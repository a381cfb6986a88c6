-- Counts of masked places that are kept are those of the definitions.
use Rattle.std.proofs.Common.{◌≡◌, ◌+◌, Bool, true, false, List, [], ◌∷◌, ◌++◌, drop, map, Option, Some, None, refl, sym, ap₂, ◌∙◌, arith}
use Rattle.std.specs.Prelude.{sum_by, IfSome, option_map}
use Rattle.std.specs.List.{All}
use Rattle.std.proofs.lemmas.List.Sums.{sum_by-append, sum_by-cons}
use Rattle.std.proofs.lemmas.List.Elements.{All-head, All-tail}
use Rattle.rd_rules.specs.Exchange.{Rules, out_list}
use Rattle.rd_rules.specs.Given.{ask_masked, replies_masked}
use Rattle.rd_rules.specs.Step.{sent_before}
use Rattle.rd_reading.specs.declared.exchange.Request.{Request}
use Rattle.rd_reading.specs.declared.exchange.DoneExchange.{DoneExchange}
use Rattle.rd_reading.specs.Seen.{seen_request, seen_exchange, IsMasked, AreMasked}
use Rattle.rd_core.specs.Masks.{masked_out, masked_asked}

pub replies_counted : (r : Rules) (xs : List DoneExchange) → All (AreMasked r) xs → sum_by (λ x. x.replies.masked) xs ≡ sum_by (replies_masked r) (map seen_exchange xs)
replies_counted r [] all = refl
replies_counted r (x ∷ xs) all =
    sum_by-cons (λ (x : DoneExchange). x.replies.masked) x xs
    ∙ ap₂ (λ m n. m + n) (All-head (AreMasked r) x xs all).answered (replies_counted r xs (All-tail (AreMasked r) x xs all))
    ∙ sym (sum_by-cons (replies_masked r) (seen_exchange x) (map seen_exchange xs))

asks_counted : (r : Rules) (xs : List DoneExchange) → All (AreMasked r) xs → sum_by (λ x. x.request.masked) xs ≡ sum_by (ask_masked r) (map (λ x. x.ask) (map seen_exchange xs))
asks_counted r [] all = refl
asks_counted r (x ∷ xs) all =
    sum_by-cons (λ (x : DoneExchange). x.request.masked) x xs
    ∙ ap₂ (λ m n. m + n) (All-head (AreMasked r) x xs all).asked (asks_counted r xs (All-tail (AreMasked r) x xs all))
    ∙ sym (sum_by-cons (ask_masked r) (seen_request x.request) (map (λ x. x.ask) (map seen_exchange xs)))

out_counted : (r : Rules) (out : Option Request) → IfSome out (IsMasked r) → masked_out out ≡ sum_by (ask_masked r) (out_list (option_map seen_request out))
out_counted r None is = refl
out_counted r (Some request) is = is ∙ (let n : ask_masked r (seen_request request) ≡ 0 + ask_masked r (seen_request request) = omega arith in n)

all_counted : (r : Rules) (xs : List DoneExchange) (out : Option Request) → All (AreMasked r) xs → IfSome out (IsMasked r)
    → sum_by (λ x. x.request.masked) xs + masked_out out ≡ sum_by (ask_masked r) (map (λ x. x.ask) (map seen_exchange xs) ++ out_list (option_map seen_request out))
all_counted r xs out all is =
    ap₂ (λ m n. m + n) (asks_counted r xs all) (out_counted r out is)
    ∙ sym (sum_by-append (ask_masked r) (map (λ x. x.ask) (map seen_exchange xs)) (out_list (option_map seen_request out)))

pub fresh_counted : (r : Rules) (was_out : Bool) (xs : List DoneExchange) (out : Option Request) → All (AreMasked r) xs → IfSome out (IsMasked r)
    → masked_asked was_out xs out ≡ sum_by (ask_masked r) (drop (sent_before was_out) (map (λ x. x.ask) (map seen_exchange xs) ++ out_list (option_map seen_request out)))
fresh_counted r false xs out all is = all_counted r xs out all is
fresh_counted r true [] None all is = refl
fresh_counted r true [] (Some request) all is = refl
fresh_counted r true (x ∷ xs) out all is = all_counted r xs out (All-tail (AreMasked r) x xs all) is
