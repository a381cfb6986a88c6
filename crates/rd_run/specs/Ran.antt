-- What holds of a session that has run.
use Rattle.std.specs.Prelude.{◌≡◌, ℕ, ◌≤◌, ◌+◌, true, false, List, [], ◌∷◌, ◌++◌, length, map, fold, Option, Some}
use Rattle.std.specs.List.{AllByRecursion as Each}
use Rattle.rd_base.specs.Outside.{SinkTold, Rose}
use Rattle.rd_base.specs.Sources.{SourceTold}
use Rattle.rd_base.specs.History.{History, Row, is_well_formed}
use Rattle.rd_base.specs.declared.source.Give.{Give}
use Rattle.rd_base.specs.declared.values.Link.{Link}
use Rattle.rd_rules.specs.Exchange.{Rules}
use Rattle.rd_gate.specs.declared.item.Item.{Item}
use Rattle.rd_gate.specs.declared.item.Item.TheVariants.{ReadFail}
use Rattle.rd_gate.specs.declared.gate.View.{View}
use Rattle.rd_gate.specs.Gate.{of}
use Rattle.rd_gate.specs.Items.{is_piece, IsFit}
use Rattle.rd_gate.specs.Reads.{AreAnswers, told_all}
use Rattle.rd_turn.specs.declared.log.LogEntry.{LogEntry}
use Rattle.rd_turn.specs.declared.running.Over.{Over}
use Rattle.rd_turn.specs.Drawn.{draw}
use Rattle.rd_turn.specs.Turns.{Turn, Outside, outside, after_turn, clock_after, history_of, items_of, told_of}
use Rattle.rd_turn.specs.Runs.{Truly}
use Rattle.rd_run.specs.Leaving.{AllClosed, Keeps, plain, given_back}
use Rattle.rd_run.specs.declared.items.LeftOver.TheVariants.{All}
use Rattle.rd_run.specs.declared.session.Left.{Left}

-- all that was taken of a link, in the end: what its source answered, up to its last answer
pub record LinkRead (items : List Item) (before after : SourceTold) : Type 0 where
  pub pieces : List Item
  pub last : Item
  pub answers : List Give
  pub are : items ≡ pieces ++ last ∷ []
  pub fit : Each (λ x. IsFit x × (is_piece x ≡ true)) pieces
  pub ends : is_piece last ≡ false
  pub answered : AreAnswers items answers
  pub given : after.given ≡ told_all before.given answers
  pub failed : last ≡ ReadFail → Rose before.faults after.faults
  pub mark : after.mark ≡ before.mark

-- the log stands for a history, and the session is what its history says
pub record HasHistory (r : Rules) (base : ℕ) (before after : Outside) (entries : List LogEntry) (told : List Row) (taken left : List (ℕ × Item)) (over : Over) (olds news : List SinkTold) : Type 0 where
  pub turns : List Turn
  pub given_up : List Turn
  pub asks : after ≡ fold after_turn before (turns ++ given_up)
  pub items : taken ≡ items_of (turns ++ given_up) ++ left
  pub rows : told ≡ told_of turns
  pub is : draw entries (λ l. of l taken) told ≡ history_of base turns
  pub well_formed : is_well_formed r.limits.copies (history_of base (turns ++ given_up)) ≡ true
  pub truly : Truly r base turns given_up over olds news

-- the base is a clock's first answer
abbrev pub with_base : Outside → ℕ → Outside
with_base o base = record { gate = o.gate; clock = clock_after o.clock base; stopper = o.stopper; book = o.book }

abbrev pub with_gate : Outside → View → Outside
with_gate o view = record { gate = view; clock = o.clock; stopper = o.stopper; book = o.book }

abbrev pub over_by : Left → Option (Link × Item) → Over
over_by l back = record { ending = l.ending; failed = l.failed; back = back; counts = l.counts }

-- what a session tells once it has ended: the base is the clock's first answer; each turn asks the clock and the stopper
-- once. The looks behind those of the turns found the gate empty as readers ended
pub record SessionRan (r : Rules) (before after : Outside) (entries : List LogEntry) (told : List Row) (result : Left) (olds news : List SinkTold) : Type 0 where
  pub base : ℕ
  pub back : Option (Link × Item)
  pub mids : List SinkTold
  pub view : View
  pub looks : List ℕ
  pub rest : List (Link × Item)
  pub history : HasHistory r base (with_base before base) (with_gate after view) entries told after.gate.taken (plain rest) (over_by result back) olds mids
  pub looked : after.gate.looks ≡ view.looks ++ looks
  pub kept : Keeps (All []) result.left (given_back back ++ rest)
  pub closed : AllClosed mids news
