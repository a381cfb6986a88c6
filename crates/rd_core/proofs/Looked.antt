-- What is seen of the due links tells their troubles.
use Rattle.std.proofs.Common.{◌≡◌, ℕ, Bool, true, false, cond, List, [], ◌∷◌, map, length, Option, Some, None, refl, sym, ap, ◌∙◌}
use Rattle.std.specs.Prelude.{find, is_some, not, option_map, nat_lt, ◌||◌, if◌then◌else◌}
use Rattle.rd_base.specs.declared.values.Link.{Link}
use Rattle.rd_base.specs.declared.values.Ending.{Ending}
use Rattle.rd_base.specs.declared.values.Ending.TheVariants as ending
use Rattle.rd_dialect.specs.declared.due.Due.{Due}
use Rattle.rd_dialect.specs.Grammar.{Grammar}
use Rattle.rd_rules.specs.Exchange.{Open, scan_open}
use Rattle.rd_base.specs.declared.values.Side.{Side}
use Rattle.rd_base.specs.declared.values.Side.TheVariants.{Incoming, Outgoing}
use Rattle.rd_rules.specs.Trouble.{least_open, link_of, is_bad, is_big, malformed, unsupported, is_cut, is_left, big_among, unsupported_in, or_else, code_of, by_links, broken_on, due_of, due_opens, open_asking}
use Rattle.rd_rules.specs.Wait.{some_open}
use Rattle.rd_reading.specs.declared.looks.Look.{Look}
use Rattle.rd_reading.specs.Looks.{look_of}
use Rattle.rd_reading.specs.declared.exchange.Request.{Request}
use Rattle.rd_reading.specs.Seen.{seen_request}
use Rattle.rd_core.specs.declared.stage.Stage.{Stage}
use Rattle.rd_core.specs.Stages.{seen_stage}
use Rattle.rd_core.specs.Looks.{looks_at, least_look, looks_big, looks_cut, unsupported_look}
use Rattle.rd_core.proofs.Moves.{is_some-map}

-- the first link of which a test of what is seen holds
pub least_looked : (g : Grammar) (due : Due) (end : Link → Ending) (test : Look → Bool) (os : List Open) → least_look end test (map (look_of g due) os) ≡ least_open end (λ o. test (look_of g due o)) os
least_looked g due end test [] = refl
least_looked g due end test (o ∷ os) = by (least_looked g due end test os) (test (look_of g due o))
  where
    by : least_look end test (map (look_of g due) os) ≡ least_open end (λ o. test (look_of g due o)) os
        → (b : Bool) → option_map (λ (l : Look). end l.link) (cond b (Some (look_of g due o)) (find test (map (look_of g due) os))) ≡ option_map (λ (p : Open). end (link_of p.link)) (cond b (Some o) (find (λ p. test (look_of g due p)) os))
    by rest true = refl
    by rest false = rest

pub unsupported-looked : (g : Grammar) (due : Due) (os : List Open) → unsupported_look (map (look_of g due) os) ≡ unsupported_in g due os
unsupported-looked g due [] = refl
unsupported-looked g due (o ∷ os) = ap (or_else (code_of o.link (scan_open g due o))) (unsupported-looked g due os)

-- on links where nothing is due only sizes count
pub long-big : (g : Grammar) (most : ℕ) (due : Due) (os : List Open) → least_open ending.TooBig (λ o. nat_lt most (length o.bytes)) os ≡ big_among g most false due os
long-big g most due [] = refl
long-big g most due (o ∷ os) = by (long-big g most due os) (nat_lt most (length o.bytes))
  where
    by : least_open ending.TooBig (λ o. nat_lt most (length o.bytes)) os ≡ big_among g most false due os
        → (b : Bool) → option_map (λ (p : Open). ending.TooBig (link_of p.link)) (cond b (Some o) (find (λ p. nat_lt most (length p.bytes)) os))
        ≡ option_map (λ (p : Open). ending.TooBig (link_of p.link)) (cond (b || false) (Some o) (find (is_big g most false due) os))
    by rest true = refl
    by rest false = rest

-- ---- the due links of a stage

pub due-answering : (s : Stage) → is_some s.out ≡ true → due_opens (seen_stage s []) ≡ s.left.answering.opens.items
due-answering s out = ap (λ b. cond b s.left.answering.opens.items s.left.asking.opens.items) (is_some-map seen_request s.out ∙ out)

pub due-asking : (s : Stage) → is_some s.out ≡ false → due_opens (seen_stage s []) ≡ s.left.asking.opens.items
due-asking s none = ap (λ b. cond b s.left.answering.opens.items s.left.asking.opens.items) (is_some-map seen_request s.out ∙ none)

module _ (g : Grammar) (s : Stage) (looks : List Look) (are : looks ≡ looks_at g s) where
  abbrev due : Due
  due = due_of g (seen_stage s [])

  least_due : (end : Link → Ending) (test : Look → Bool) → least_look end test looks ≡ least_open end (λ o. test (look_of g due o)) (due_opens (seen_stage s []))
  least_due end test = ap (least_look end test) are ∙ least_looked g due end test (due_opens (seen_stage s []))

  pub malformed-due : least_look ending.Malformed (λ l. is_bad l.scan) looks ≡ malformed g (seen_stage s [])
  malformed-due = least_due ending.Malformed (λ l. is_bad l.scan)

  pub unsupported-due : unsupported_look looks ≡ unsupported g (seen_stage s [])
  unsupported-due = ap unsupported_look are ∙ unsupported-looked g due (due_opens (seen_stage s []))

  pub answerer-due : (most : ℕ) → is_some s.out ≡ true → least_look ending.TooBig (looks_big most) looks ≡ big_among g most (is_some s.out) due s.left.answering.opens.items
  answerer-due most out =
      least_due ending.TooBig (looks_big most)
      ∙ ap (big_among g most true due) (due-answering s out)
      ∙ ap (λ b. big_among g most b due s.left.answering.opens.items) (sym out)

  pub asker-due : (most : ℕ) (side : Side) → s.out ≡ None → least_look ending.TooBig (looks_big most) looks ≡ big_among g most (not (is_some s.out)) due (open_asking side s.left.asking.opens.items (option_map seen_request s.out))
  asker-due most side none =
      least_due ending.TooBig (looks_big most)
      ∙ ap (big_among g most true due) (due-asking s (ap is_some none) ∙ sym (all side))
      ∙ ap (λ (o : Option Request). big_among g most (not (is_some o)) due (open_asking side s.left.asking.opens.items (option_map seen_request o))) (sym none)
    where
      all : (side : Side) → open_asking side s.left.asking.opens.items None ≡ s.left.asking.opens.items
      all Incoming = refl
      all Outgoing = refl

  pub cut-due : is_some s.out ≡ true → (side : Side) → least_look ending.Broken looks_cut looks ≡ broken_on side g due (is_some s.out) s.left.asking.opens.items s.left.answering.opens.items
  cut-due out side =
      least_due ending.Broken looks_cut
      ∙ ap (least_open ending.Broken (is_cut g due)) (due-answering s out)
      ∙ ap (λ b. broken_on side g due b s.left.asking.opens.items s.left.answering.opens.items) (sym out)

  pub left-due : is_some s.out ≡ false → (side : Side) → by_links side (least_open ending.Broken is_left s.left.answering.opens.items) (if some_open s.left.asking.opens.items then least_look ending.Broken looks_cut looks else None)
      ≡ broken_on side g due (is_some s.out) s.left.asking.opens.items s.left.answering.opens.items
  left-due none side =
      ap (λ e. by_links side (least_open ending.Broken is_left s.left.answering.opens.items) (if some_open s.left.asking.opens.items then e else None))
      (least_due ending.Broken looks_cut ∙ ap (least_open ending.Broken (is_cut g due)) (due-asking s none))
      ∙ ap (λ b. broken_on side g due b s.left.asking.opens.items s.left.answering.opens.items) (sym none)
