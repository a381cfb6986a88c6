-- What holds of a run, however it ended.
use Rattle.std.specs.Prelude.{◌≡◌, ◌⊎◌, ℕ, ◌+◌, List, [], Option, Some, None}
use Rattle.rd_base.specs.Outside.{SinkTold, Rose}
use Rattle.rd_base.specs.declared.values.Side.{Side}
use Rattle.rd_base.specs.declared.values.Link.{Link}
use Rattle.rd_base.specs.declared.values.Limits.{Limits}
use Rattle.rd_base.specs.declared.values.Ending.TheVariants as ending
use Rattle.rd_dialect.specs.Grammar.{Grammar}
use Rattle.rd_rules.specs.Exchange.{Rules}
use Rattle.rd_gate.specs.declared.item.Item.{Item}
use Rattle.rd_gate.specs.declared.gate.View.{View}
use Rattle.rd_gate.specs.Gate.{of, owner}
use Rattle.rd_turn.specs.Turns.{Outside}
use Rattle.rd_run.specs.Leaving.{AllClosed, Keeps, plain}
use Rattle.rd_run.specs.Ran.{SessionRan}
use Rattle.rd_run.specs.declared.items.LeftOver.TheVariants.{All}
use Rattle.rd_run.specs.declared.run.Run.{Run}

-- a session of this side, in a dialect of this grammar, held to these limits
abbrev pub rules_on : Side → Grammar → Limits → Rules
rules_on side grammar limits = record { side = side; grammar = grammar; limits = limits }

-- the items that were taken of a link
abbrev pub taken_of : Option View → ℕ → List Item
taken_of None l = []
taken_of (Some v) l = of l v.taken

module _ {S R : Type 0} where
  -- a source may have been left unasked: a reader's start was refused, or there was no memory for a gate
  abbrev pub may_stay : Run S R → Type 0
  may_stay run = (run.report.ending ≡ ending.Unstarted) ⊎ (run.report.log.pass ≡ None)

  -- the items that the owner took of a link
  abbrev pub taken_in : Run S R → ℕ → List Item
  taken_in run l = taken_of run.report.log.pass l

  -- ---- its ending

  -- there was no memory to begin with: nothing was asked or written
  pub record Unmade (before after : View → Outside) (refusals refusals' : ℕ) (run : Run S R) (olds news : List SinkTold) : Type 0 where
    pub end : run.report.ending ≡ ending.NoMemory
    pub entries : run.report.log.entries ≡ []
    pub told : run.report.told ≡ []
    pub exchanges : run.report.exchanges ≡ 0
    pub masked : run.report.masked ≡ 0
    pub left : run.left_over ≡ All []
    pub asked : (v : View) → after v ≡ before v
    pub refused : refusals' ≡ refusals
    pub closed : AllClosed olds news

  -- a reader's start was refused: nothing was stepped or written, and what other readers had read is left over
  pub record Unstarted (before after : View → Outside) (refusals refusals' : ℕ) (v : View) (run : Run S R) (olds news : List SinkTold) : Type 0 where
    pub items : List (Link × Item)
    pub end : run.report.ending ≡ ending.Unstarted
    pub entries : run.report.log.entries ≡ []
    pub told : run.report.told ≡ []
    pub exchanges : run.report.exchanges ≡ 0
    pub masked : run.report.masked ≡ 0
    pub taken : v.taken ≡ plain items
    pub left : Keeps (All []) run.left_over items
    pub asked : (w : View) → after w ≡ before w
    pub refused : Rose refusals refusals'
    pub closed : AllClosed olds news

  -- it ran to its end
  pub record RanThrough (r : Rules) (before after : View → Outside) (refusals refusals' : ℕ) (v : View) (run : Run S R) (olds news : List SinkTold) : Type 0 where
    -- whose write failed
    pub failed : Option Link
    pub session : SessionRan r (before (owner (r.limits.copies + 1) [] [] [])) (after v) run.report.log.entries run.report.told
        (record { ending = run.report.ending; failed = failed; counts = record { exchanges = run.report.exchanges; masked = run.report.masked }; left = run.left_over }) olds news
    pub refused : refusals' ≡ refusals

  abbrev pub RunsWith : Rules → (View → Outside) → (View → Outside) → ℕ → ℕ → Option View → Run S R → List SinkTold → List SinkTold → Type 0
  RunsWith r before after refusals refusals' None run olds news = Unmade before after refusals refusals' run olds news
  RunsWith r before after refusals refusals' (Some v) run olds news =
      Unstarted before after refusals refusals' v run olds news ⊎ RanThrough r before after refusals refusals' v run olds news

  abbrev pub RunsBy : Rules → (View → Outside) → (View → Outside) → ℕ → ℕ → Run S R → List SinkTold → List SinkTold → Type 0
  RunsBy r before after refusals refusals' run olds news = RunsWith r before after refusals refusals' run.report.log.pass run olds news
