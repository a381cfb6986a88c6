-- What a call on an operator's connection does.
use Rattle.std.specs.Prelude.{◌≡◌, ◌⊎◌, ◌≤◌, ℕ, true, List}
use Rattle.rd_base.specs.declared.session_note.OperatorEnd.{OperatorEnd}
use Rattle.rd_base.specs.declared.session_note.OperatorEnd.TheVariants as over
use Rattle.rd_base.specs.Outside.{SinkTold, Rose, HoldsPrefix, held_with}
use Rattle.rd_base.specs.Sources.{SourceTold}
use Rattle.rd_board.specs.Board.{BoardView}
use Rattle.rd_keeper.specs.Keeping.{KeeperTold}
use Rattle.rd_operator.specs.declared.hearing.Heard.{Heard}
use Rattle.rd_operator.specs.declared.hearing.Heard.TheVariants as heard
use Rattle.rd_operator.specs.Asked.{asked}
use Rattle.rd_operator.specs.Hearing.{Takes}
use Rattle.rd_operator.specs.Replies.{Replies}
use Rattle.rd_operator.specs.Texts.{ReplyView, refusal, reply_text}

-- a reply is written: all of it, or a prefix where the sink failed by its count
abbrev pub Written : ReplyView → OperatorEnd → SinkTold → SinkTold → Type 0
Written reply (over.Answered status) before after =
    (status ≡ reply.status) × (after.held ≡ held_with before.held (reply_text reply))
Written reply over.WriteFail before after =
    HoldsPrefix before.held after.held (reply_text reply) × Rose before.faults after.faults
Written reply over.Nothing before after = ⊥
Written reply over.ReadFail before after = ⊥

-- the same, or 500 is written for want of memory
abbrev pub WritesEither : ReplyView → OperatorEnd → SinkTold → SinkTold → Type 0
WritesEither reply end before after = Written reply end before after ⊎ Written (refusal 500) end before after

-- the page of these bytes is written, or 500 for want of memory
pub record WritesPage (bytes : List ℕ) (board : BoardView) (end : OperatorEnd) (sink sink_after : SinkTold) (keeper keeper_after : KeeperTold) : Type 0 where
  pub reply : ReplyView
  pub is : (reply ≡ refusal 500) ⊎ Replies board (asked bytes) reply keeper keeper_after
  pub written : Written reply end sink sink_after

-- how the call ends, by what was heard
abbrev pub EndsBy : Heard → BoardView → OperatorEnd → SinkTold → SinkTold → KeeperTold → KeeperTold → Type 0
EndsBy (heard.Bytes bytes) board end sink sink_after keeper keeper_after =
    WritesPage bytes board end sink sink_after keeper keeper_after
EndsBy heard.Nothing board end sink sink_after keeper keeper_after =
    (end ≡ over.Nothing) × (sink_after.held ≡ sink.held)
EndsBy heard.ReadFail board end sink sink_after keeper keeper_after =
    (end ≡ over.ReadFail) × (sink_after.held ≡ sink.held)
EndsBy heard.NoMemory board end sink sink_after keeper keeper_after = Written (refusal 500) end sink sink_after

-- what was heard of the source, and what came of it
pub record Operates (board : BoardView) (end : OperatorEnd) (source source_after : SourceTold) (sink sink_after : SinkTold) (keeper keeper_after : KeeperTold) : Type 0 where
  pub heard : Heard
  pub takes : Takes heard source source_after
  pub ends : EndsBy heard board end sink sink_after keeper keeper_after

-- a sink is closed; its mark stays, and its count doesn't fall
pub record IsClosed (before after : SinkTold) : Type 0 where
  pub closed : after.is_closed ≡ true
  pub faults : before.faults ≤ after.faults
  pub mark : after.mark ≡ before.mark
