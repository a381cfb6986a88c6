-- What is kept of the due links, where a session stands as before, and where what is open heard a happening.
use Rattle.std.proofs.Common.{◌≡◌, Bool, true, false, cond, List, [], map, Option, refl, sym, ap, ap₂, ◌∙◌}
use Rattle.std.specs.Prelude.{is_some, option_map}
use Rattle.rd_base.specs.declared.values.What.{What}
use Rattle.rd_dialect.specs.declared.due.Due.{Due}
use Rattle.rd_dialect.specs.Grammar.{Grammar}
use Rattle.rd_rules.specs.Exchange as rule
use Rattle.rd_rules.specs.Step.{grow_by, grow_front_by}
use Rattle.rd_rules.specs.Trouble.{Now, due_of, due_opens}
use Rattle.rd_reading.specs.declared.looks.Look.{Look}
use Rattle.rd_reading.specs.declared.exchange.Request.{Request}
use Rattle.rd_reading.specs.Looks.{look_of, WereLooks}
use Rattle.rd_reading.specs.Seen.{seen_front, seen_request}
use Rattle.rd_core.specs.declared.stage.Stage.{Stage}
use Rattle.rd_core.specs.declared.watch.Watch.{Watch}
use Rattle.rd_core.specs.Stages.{seen_stage}
use Rattle.rd_core.specs.Looks.{looks_at}
use Rattle.rd_core.specs.Watches.{IsWatch, WasWatch}

-- where a session stands, by what is open and what is out alone
abbrev at : rule.Front → Option Request → Now
at left out = record { count = 0; bye = false; own = []; left = left; out = option_map seen_request out }

pub watch_same : (g : Grammar) (old new : Stage) (watch : Watch) → new.out ≡ old.out → seen_front new.left ≡ seen_front old.left → IsWatch g old watch → IsWatch g new watch
watch_same g old new watch out left is = record {
  due = is.due ∙ ap₂ (λ (f : rule.Front) (o : Option Request). due_of g (at f o)) (sym left) (sym out);
  looks = is.looks ∙ ap₂ (λ (f : rule.Front) (o : Option Request). map (look_of g (due_of g (at f o))) (due_opens (at f o))) (sym left) (sym out);
}

module _ (g : Grammar) (stage : Stage) (w : What) (watch : Watch) (was : WasWatch g stage w watch) where
  abbrev b : Stage
  b = was.before

  pub due_again : watch.due ≡ due_of g (seen_stage stage [])
  due_again = was.kept.due ∙ ap₂ (λ (f : rule.Front) (o : Option Request). due_of g (at f o)) (sym was.left) (sym was.out)

  grown : due_opens (seen_stage stage []) ≡ map (grow_by w) (due_opens (seen_stage b []))
  grown =
      ap₂ (λ (f : rule.Front) (o : Option Request). due_opens (at f o)) was.left was.out
      ∙ by (is_some (option_map seen_request b.out))
    where
      by : (c : Bool) → cond c (map (grow_by w) b.left.answering.opens.items) (map (grow_by w) b.left.asking.opens.items)
          ≡ map (grow_by w) (cond c b.left.answering.opens.items b.left.asking.opens.items)
      by true = refl
      by false = refl

  pub were_looks : WereLooks g watch.due w (due_opens (seen_stage stage [])) watch.looks.items
  were_looks = record {
    before = due_opens (seen_stage b []);
    seen = was.kept.looks ∙ ap (λ (d : Due). map (look_of g d) (due_opens (seen_stage b []))) (sym was.kept.due);
    heard = grown;
  }

  pub looks_again : (looks : List Look) → looks ≡ map (look_of g watch.due) (due_opens (seen_stage stage [])) → looks ≡ looks_at g stage
  looks_again looks is = is ∙ ap (λ (d : Due). map (look_of g d) (due_opens (seen_stage stage []))) due_again
