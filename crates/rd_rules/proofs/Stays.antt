-- What a session was, it stays: endings.
use Rattle.std.specs.Prelude.{◌≡◌, Bool, true, false, cond, [], ◌∷◌, ◌++◌, Option, Some, None, is_some, option_and_then}
use Rattle.std.proofs.Common.{refl, ap, ◌∙◌}
use Rattle.rd_base.specs.History.{History, shortest_from}
use Rattle.rd_rules.specs.Exchange.{Rules}
use Rattle.rd_rules.specs.Trouble.{trouble}
use Rattle.rd_base.specs.declared.values.Ending.{Ending}
use Rattle.rd_rules.specs.Sent.{stop, final}

-- the shortest prefix that passes stays so, however the history goes on
pub shortest_from-append : (test : History → Bool) (seen h e g : History) → shortest_from test seen h ≡ Some g → shortest_from test seen (h ++ e) ≡ Some g
shortest_from-append test seen [] [] g p = p
shortest_from-append test seen [] (x ∷ more) g p =
    (elim (test seen) as (λ b. cond b (Some seen) None ≡ Some g → cond b (Some seen) (shortest_from test (seen ++ x ∷ []) more) ≡ Some g)
    [ true ↦ λ q. q | false ↦ λ q. cc ]) p
shortest_from-append test seen (x ∷ h) e g p =
    (elim (test seen) as (λ b. cond b (Some seen) (shortest_from test (seen ++ x ∷ []) h) ≡ Some g → cond b (Some seen) (shortest_from test (seen ++ x ∷ []) (h ++ e)) ≡ Some g)
    [ true ↦ λ q. q | false ↦ λ q. shortest_from-append test (seen ++ x ∷ []) h e g q ]) p

pub stop-append : (r : Rules) (h e g : History) → stop r h ≡ Some g → stop r (h ++ e) ≡ Some g
stop-append r h e g p = shortest_from-append (λ g. is_some (trouble r g)) [] h e g p

-- an ending stays for every continuation
pub final-append : (r : Rules) (h e : History) (t : Ending) → final r h ≡ Some t → final r (h ++ e) ≡ Some t
final-append r h e t p = go (stop r h) refl p
  where
    go : (o : Option History) → stop r h ≡ o → option_and_then (trouble r) o ≡ Some t → final r (h ++ e) ≡ Some t
    go None s q = cc
    go (Some g) s q = ap (option_and_then (trouble r)) (stop-append r h e g s) ∙ q
