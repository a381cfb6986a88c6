-- How a run comes to what holds of it.
use Rattle.std.proofs.Common.{◌≡◌, ◌+◌, ℕ, List, [], map, Option, Some, None, refl, sym, ap, ap₂, ◌∙◌, subst, ◌⊎◌, inl, inr}
use Rattle.rd_base.specs.Outside.{SinkTold, Rose}
use Rattle.rd_base.specs.History.{Row}
use Rattle.rd_base.specs.Sources.{SourceTold}
use Rattle.rd_base.specs.declared.values.Ending.TheVariants as ending
use Rattle.rd_rules.specs.Exchange.{Rules}
use Rattle.rd_gate.specs.declared.item.Item.{Item}
use Rattle.rd_gate.specs.declared.gate.View.{View}
use Rattle.rd_gate.specs.Gate.{of, owner}
use Rattle.rd_turn.specs.declared.log.LogEntry.{LogEntry}
use Rattle.rd_turn.specs.Turns.{Outside}
use Rattle.rd_run.specs.Leaving.{AllClosed, Keeps}
use Rattle.rd_run.specs.Ran.{SessionRan}
use Rattle.rd_run.specs.Links.{LinksDone, TakesAll}
use Rattle.rd_run.specs.Logs.{LogView}
use Rattle.rd_run.specs.Whole.{Unmade, Unstarted, RanThrough, RunsWith, RunsBy, may_stay, taken_of, taken_in}
use Rattle.rd_run.specs.declared.items.LeftOver.TheVariants.{All}
use Rattle.rd_run.specs.declared.session.Left.{Left}
use Rattle.rd_run.specs.declared.run.Run.{Run}
use Rattle.rd_run.proofs.Links.{links_weaker}

module _ {S R : Type 0} where
  pub was_unmade : (r : Rules) (before after : View → Outside) (n n' : ℕ) (run : Run S R) (olds news : List SinkTold)
      → run.report.ending ≡ ending.NoMemory → run.report.log ≡ record { entries = []; pass = None } → run.report.told ≡ []
      → run.report.exchanges ≡ 0 → run.report.masked ≡ 0 → run.left_over ≡ All []
      → ((v : View) → after v ≡ before v) → n' ≡ n → AllClosed olds news
      → RunsBy r before after n n' run olds news
  was_unmade r before after n n' run olds news end log told exchanges masked left asked refused closed =
      subst (λ p. RunsWith r before after n n' p run olds news) (sym (ap (λ (l : LogView). l.pass) log)) (record {
        end = end;
        entries = ap (λ (l : LogView). l.entries) log;
        told = told;
        exchanges = exchanges;
        masked = masked;
        left = left;
        asked = asked;
        refused = refused;
        closed = closed;
      })

  pub was_unstarted : (r : Rules) (before after : View → Outside) (n n' : ℕ) (v : View) (run : Run S R) (left : Left) (entries : List LogEntry) (olds news : List SinkTold)
      → run.report.ending ≡ left.ending → run.report.log ≡ record { entries = entries; pass = Some v } → run.report.told ≡ []
      → run.report.exchanges ≡ 0 → run.report.masked ≡ 0 → run.left_over ≡ left.left
      → left.ending ≡ ending.Unstarted → entries ≡ [] → TakesAll v left.left
      → ((w : View) → after w ≡ before w) → Rose n n' → AllClosed olds news
      → RunsBy r before after n n' run olds news
  was_unstarted r before after n n' v run left entries olds news end log told exchanges masked left_is unstarted none takes asked rose closed =
      subst (λ p. RunsWith r before after n n' p run olds news) (sym (ap (λ (l : LogView). l.pass) log)) (inl (record {
        items = takes.items;
        end = end ∙ unstarted;
        entries = ap (λ (l : LogView). l.entries) log ∙ none;
        told = told;
        exchanges = exchanges;
        masked = masked;
        taken = takes.taken;
        left = subst (λ l. Keeps (All []) l takes.items) (sym left_is) takes.keeps;
        asked = asked;
        refused = rose;
        closed = closed;
      }))

  pub ran_through : (r : Rules) (before after : View → Outside) (n n' : ℕ) (v : View) (run : Run S R) (left : Left) (entries : List LogEntry) (told : List Row) (olds news : List SinkTold)
      → run.report.ending ≡ left.ending → run.report.log ≡ record { entries = entries; pass = Some v } → run.report.told ≡ told
      → run.report.exchanges ≡ left.counts.exchanges → run.report.masked ≡ left.counts.masked → run.left_over ≡ left.left
      → n' ≡ n
      → SessionRan r (before (owner (r.limits.copies + 1) [] [] [])) (after v) entries told left olds news
      → RunsBy r before after n n' run olds news
  ran_through r before after n n' v run left entries told olds news end log told_is exchanges masked left_is refused session =
      let seen : Left = record { ending = run.report.ending; failed = left.failed; counts = record { exchanges = run.report.exchanges; masked = run.report.masked }; left = run.left_over } in
      let same : seen ≡ left =
      ap₂ (λ e l. record { ending = e; failed = left.failed; counts = record { exchanges = run.report.exchanges; masked = run.report.masked }; left = l }) end left_is
      ∙ ap₂ (λ x m. record { ending = left.ending; failed = left.failed; counts = record { exchanges = x; masked = m }; left = left.left }) exchanges masked in
      let b = before (owner (r.limits.copies + 1) [] [] []) in
      subst (λ p. RunsWith r before after n n' p run olds news) (sym (ap (λ (l : LogView). l.pass) log)) (inr (record {
        failed = left.failed;
        session = subst (λ l. SessionRan r b (after v) run.report.log.entries run.report.told l olds news) (sym same)
            (subst (λ e. SessionRan r b (after v) e run.report.told left olds news) (sym (ap (λ (l : LogView). l.entries) log))
            (subst (λ t. SessionRan r b (after v) entries t left olds news) (sym told_is) session));
        refused = refused;
      }))

  pub taken_is : (run : Run S R) (entries : List LogEntry) (v : View) → run.report.log ≡ record { entries = entries; pass = Some v } → (l : ℕ) → taken_in run l ≡ of l v.taken
  taken_is run entries v log l = ap (λ (x : LogView). taken_of x.pass l) log

  pub none_is : (run : Run S R) → run.report.log ≡ record { entries = []; pass = None } → (l : ℕ) → taken_in run l ≡ []
  none_is run log l = ap (λ (x : LogView). taken_of x.pass l) log

  pub links_in : (run : Run S R) (stays : Type 0) (entries : List LogEntry) (v : View) (os bs : List SourceTold) → (stays → may_stay run)
      → run.report.log ≡ record { entries = entries; pass = Some v }
      → LinksDone stays (λ l. of l v.taken) 0 os bs → LinksDone (may_stay run) (taken_in run) 0 os bs
  links_in run stays entries v os bs weaker log links = links_weaker stays (may_stay run) (λ l. of l v.taken) (taken_in run) 0 os bs weaker (taken_is run entries v log) links
