-- One exchange more is read.
use Rattle.std.proofs.Common.{◌≡◌, ℕ, zero, suc, ◌-◌, ◌<◌, List, [], ◌∷◌, ◌++◌, map, Some, None, refl, ap, ap₂, sym, ◌∙◌, arith, append_assoc, cond, Bool, true, false}
use Rattle.std.proofs.lemmas.List.{map-append}
use Rattle.rd_base.specs.declared.values.MaskLimits.{MaskLimits}
use Rattle.rd_dialect.specs.Grammar.{Grammar}
use Rattle.rd_dialect.specs.Due.{reply_due}
use Rattle.rd_rules.specs.Exchange.{Rules, Front, Ask, Exchange, Reading, LinkUnit, read, asked, answered, ask_at, replies_at, after, with_first, note, token_lists}
use Rattle.rd_rules.specs.Given.{exchange_rows, learnt_rows, learns_on}
use Rattle.rd_rules.specs.Step.{with_done}
use Rattle.rd_reading.specs.declared.exchange.DoneExchange.{DoneExchange}
use Rattle.rd_reading.specs.Seen.{seen_exchange, rows_are}

module _ (g : Grammar) (most : MaskLimits) (p : Front) (ask : Ask) (asks : ask_at g most p ≡ Some ask) where
  -- a request without all its replies is out
  pub read_out : (n : ℕ) → 0 < n → replies_at g most p ask ≡ None → read g most n p ≡ record { done = []; left = p; out = Some ask }
  read_out zero lt none = absurd (omega arith)
  read_out (suc n) lt none = ap (asked g most (λ q. read g most n q) p) asks ∙ ap (answered g (λ q. read g most n q) p ask) none

  one_less : (n : ℕ) → suc n - 1 ≡ n
  one_less n = omega arith

  -- with them it is done
  pub read_more : (n : ℕ) (replies : List LinkUnit) → 0 < n → replies_at g most p ask ≡ Some replies
      → read g most n p ≡ with_first (record { ask = ask; replies = replies }) (read g most (n - 1) (after g p (record { ask = ask; replies = replies })))
  read_more zero replies lt some = absurd (omega arith)
  read_more (suc n) replies lt some =
      let x : Exchange = record { ask = ask; replies = replies } in
      ap (asked g most (λ q. read g most n q) p) asks
      ∙ ap (answered g (λ q. read g most n q) p ask) some
      ∙ ap (λ k. with_first x (read g most k (after g p x))) (sym (one_less n))

pub read_none : (g : Grammar) (most : MaskLimits) (p : Front) (n : ℕ) → ask_at g most p ≡ None → read g most n p ≡ record { done = []; left = p; out = None }
read_none g most p zero none = refl
read_none g most p (suc n) none = ap (asked g most (λ q. read g most n q) p) none

-- what was done, with one exchange more
pub done_more : (done made : List DoneExchange) (x : DoneExchange) (later : Reading) → made ≡ done ++ x ∷ [] → with_done (map seen_exchange done) (with_first (seen_exchange x) later) ≡ with_done (map seen_exchange made) later
done_more done made x later is =
    ap (λ xs. record later { done = xs })
    (sym (append_assoc (map seen_exchange done) (seen_exchange x ∷ []) later.done)
    ∙ ap (λ xs. xs ++ later.done) (sym (map-append seen_exchange done (x ∷ [])) ∙ ap (map seen_exchange) (sym is)))

pub rows_more : (r : Rules) (done made : List DoneExchange) (x : DoneExchange) → made ≡ done ++ x ∷ [] → rows_are r done → x.replies.rows ≡ exchange_rows r (seen_exchange x) → rows_are r made
rows_more r done made x is before here =
    ap (map (λ x. x.replies.rows)) is
    ∙ map-append (λ (x : DoneExchange). x.replies.rows) done (x ∷ [])
    ∙ ap₂ (λ a b. a ++ b) before (ap (λ row. row ∷ []) here)
    ∙ sym (map-append (λ x. exchange_rows r (seen_exchange x)) done (x ∷ []))
    ∙ ap (map (λ x. exchange_rows r (seen_exchange x))) (sym is)

-- rows of a farewell, and of other replies
pub farewell_rows : (r : Rules) (x : Exchange) → r.grammar.is_farewell (note r.grammar x.ask) ≡ true → exchange_rows r x ≡ []
farewell_rows r x bye =
    ap (learnt_rows (learns_on r.side r.grammar.learns_rows) r.limits.mask) (ap (λ b. cond b [] (token_lists r.grammar (reply_due x.ask.phase (note r.grammar x.ask)) x.replies)) bye)
    ∙ none (learns_on r.side r.grammar.learns_rows)
  where
    none : (b : Bool) → learnt_rows b r.limits.mask [] ≡ []
    none true = refl
    none false = refl

pub reply_rows : (r : Rules) (x : Exchange) → r.grammar.is_farewell (note r.grammar x.ask) ≡ false
    → exchange_rows r x ≡ learnt_rows (learns_on r.side r.grammar.learns_rows) r.limits.mask (token_lists r.grammar (reply_due x.ask.phase (note r.grammar x.ask)) x.replies)
reply_rows r x other =
    ap (learnt_rows (learns_on r.side r.grammar.learns_rows) r.limits.mask) (ap (λ b. cond b [] (token_lists r.grammar (reply_due x.ask.phase (note r.grammar x.ask)) x.replies)) other)
