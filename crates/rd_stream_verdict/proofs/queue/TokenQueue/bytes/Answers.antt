use Rattle.std.proofs.Common.{◌≡◌, ◌-◌, length, drop, ap, sym, ◌∙◌, arith, length-drop}
use Rattle.rd_stream_verdict.specs.Queue.{bytes_in, cut_bytes, tokens_of}
use Rattle.rd_stream_verdict.proofs.Queued.{bytes_of_tokens}
use Rattle.rd_stream_verdict.proofs.queue.TokenQueue.bytes.Goals as goal

pub returns-clause-bytes : goal.returns-clause-bytes
returns-clause-bytes c =
    let flat = c.self.inside.flat.items in
    let start = c.self.inside.start in
    let cuts = c.self.inside.cuts.items in
    let size : length (drop start flat) ≡ length flat - start = length-drop start flat in
    let here : bytes_in (tokens_of (drop start flat) cuts) ≡ cut_bytes cuts = bytes_of_tokens (drop start flat) cuts (omega arith) in
    let count : c.len.result - start ≡ cut_bytes cuts = omega arith in
    count ∙ sym here ∙ ap bytes_in c.self.view_is
