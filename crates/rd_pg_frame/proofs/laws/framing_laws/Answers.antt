use Rattle.rd_pg_frame.specs.ScanLaws.{request_framing, reply_framing}
use Rattle.rd_pg_frame.specs.MessageLaws.{messages_framing}
use Rattle.rd_pg_frame.specs.RequestLaws.{request_finds}
use Rattle.rd_pg_frame.specs.ReplyLaws.{reply_finds}
use Rattle.rd_pg_frame.proofs.laws.framing_laws.Goals as goal

pub returns : goal.returns
returns c =
    record {
      request_units = request_finds;
      reply_units = reply_finds;
      request_framing = request_framing;
      reply_framing = reply_framing;
      messages_framing = messages_framing;
    }
