-- Where a session stands after what was read, from what its parts answer.
use Rattle.std.proofs.Common.{◌≡◌, ℕ, ◌+◌, ◌-◌, ◌≤◌, Bool, List, [], ◌∷◌, ◌++◌, length, map, Option, refl, sym, ap, ap₂, ◌∙◌, arith}
use Rattle.std.specs.Prelude.{option_map}
use Rattle.std.specs.List.{flat_map}
use Rattle.std.proofs.lemmas.List.{length-map}
use Rattle.rd_base.specs.History.{Row}
use Rattle.rd_rules.specs.Exchange as rule
use Rattle.rd_rules.specs.Exchange.{Rules, Exchange, Ask}
use Rattle.rd_rules.specs.Given.{learnt, own_after, exchange_rows}
use Rattle.rd_rules.specs.Trouble.{ends_by}
use Rattle.rd_reading.specs.declared.exchange.DoneExchange.{DoneExchange}
use Rattle.rd_reading.specs.declared.exchange.Reading.{Reading}
use Rattle.rd_reading.specs.declared.exchange.Front.{Front}
use Rattle.rd_core.specs.declared.stage.Next.{Next}
use Rattle.rd_reading.specs.Seen.{seen_request, seen_exchange, seen_front, latest_front, seen_reading, rows_are}
use Rattle.rd_core.specs.Stages.{seen_next}
use Rattle.rd_core.specs.Standing.{now_from}

flat_by : {A : Type 0} (f : A → List Row) (xs : List A) → flat_map f xs ≡ flat_map (λ rows. rows) (map f xs)
flat_by f [] = refl
flat_by f (x ∷ xs) = ap (λ rows. f x ++ rows) (flat_by f xs)

flat_seen : (r : Rules) (xs : List DoneExchange) → flat_map (λ x. exchange_rows r (seen_exchange x)) xs ≡ flat_map (exchange_rows r) (map seen_exchange xs)
flat_seen r [] = refl
flat_seen r (x ∷ xs) = ap (λ rows. exchange_rows r (seen_exchange x) ++ rows) (flat_seen r xs)

pub rows_of : (r : Rules) (xs : List DoneExchange) → rows_are r xs → flat_map (λ x. x.replies.rows) xs ≡ flat_map (exchange_rows r) (map seen_exchange xs)
rows_of r xs are =
    flat_by (λ (x : DoneExchange). x.replies.rows) xs
    ∙ ap (flat_map (λ rows. rows)) are
    ∙ sym (flat_by (λ x. exchange_rows r (seen_exchange x)) xs)
    ∙ flat_seen r xs

pub stage_is : (r : Rules) (count : ℕ) (bye : Bool) (own rows : List Row) (made : Reading) (left : Front) (stage : Next) (next : rule.Reading)
    → seen_reading made ≡ next → length made.done.items + made.spare ≡ r.limits.exchanges_max - count → count ≤ r.limits.exchanges_max
    → stage.count ≡ r.limits.exchanges_max - made.spare → stage.bye ≡ ends_by r.grammar bye (map seen_exchange made.done.items) → latest_front left stage.left ≡ latest_front made.from.now made.left → stage.out ≡ made.out
    → rows ≡ flat_map (λ x. x.replies.rows) made.done.items → rows_are r made.done.items
    → seen_next left stage (learnt own rows) ≡ now_from r count bye own next
stage_is r count bye own rows made left stage next is spare most count_is bye_is left_is out_is rows_is are =
    let n : stage.count ≡ count + length (map seen_exchange made.done.items) = omega (arith, length-map made.done.items seen_exchange) in
    let learns : learnt own rows ≡ own_after r own (map seen_exchange made.done.items) = ap (learnt own) (rows_is ∙ rows_of r made.done.items are) in
    ap₂ (λ (k : ℕ) (b : Bool). record { count = k; bye = b; own = learnt own rows; left = seen_front (latest_front left stage.left); out = option_map seen_request stage.out }) n bye_is
    ∙ ap₂ (λ (f : rule.Front) (o : Option Ask). record { count = count + length (map seen_exchange made.done.items); bye = ends_by r.grammar bye (map seen_exchange made.done.items); own = learnt own rows; left = f; out = o })
    (ap seen_front left_is) (ap (option_map seen_request) out_is)
    ∙ ap (λ (o : List Row). record { count = count + length (map seen_exchange made.done.items); bye = ends_by r.grammar bye (map seen_exchange made.done.items); own = o; left = seen_front (latest_front made.from.now made.left); out = option_map seen_request made.out }) learns
    ∙ ap (now_from r count bye own) is
