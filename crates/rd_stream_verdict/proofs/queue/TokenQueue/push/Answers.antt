use Rattle.std.proofs.Common.{◌≡◌, cond, not, length, ◌++◌, ◌∷◌, [], drop, refl, ap, ◌∙◌, arith, length-append, length-drop}
use Rattle.std.proofs.lemmas.List.{drop-append-le}
use Rattle.rd_base.specs.Token.{token}
use Rattle.rd_stream_verdict.specs.Queue.{cut_bytes, tokens_of}
use Rattle.rd_stream_verdict.proofs.Queued.{cut_bytes_push, tokens_push}
use Rattle.rd_stream_verdict.proofs.queue.TokenQueue.push.Goals as goal

cut_pushed : (c : goal.In-Ok) → c.push_back.new.self.items ≡ c.self.inside.cuts.items ++ record { kind = c.token.inside.kind; len = length c.token.inside.text.now } ∷ []
cut_pushed c =
    c.push_back.ensures.items
    ∙ ap (λ b. cond b (c.self.inside.cuts.items ++ record { kind = c.token.inside.kind; len = length c.token.inside.text.now } ∷ []) c.self.inside.cuts.items) (c.is_err.ensures.negation ∙ ap not c.if-is_err.false)

pub invariant_of-self-in-Ok : goal.invariant_of-self-in-Ok
invariant_of-self-in-Ok c =
    let flat = ap length (c.in-Ok.ensures.items) ∙ length-append c.self.inside.flat.items c.token.inside.text.now in
    let bytes = ap cut_bytes (cut_pushed c) ∙ cut_bytes_push c.self.inside.cuts.items (record { kind = c.token.inside.kind; len = length c.token.inside.text.now }) in
    record { all = omega arith; least = omega arith }

pub returns-in-Ok-clause-ok : goal.returns-in-Ok-clause-ok
returns-in-Ok-clause-ok c =
    let flat = c.self.inside.flat.items in
    let start = c.self.inside.start in
    let cuts = c.self.inside.cuts.items in
    let text = c.token.inside.text.now in
    let size : cut_bytes cuts ≡ length (drop start flat) = omega (arith, length-drop start flat) in
    ap (λ f. tokens_of (drop start f) c.push_back.new.self.items) c.in-Ok.ensures.items
    ∙ ap (λ f. tokens_of f c.push_back.new.self.items) (drop-append-le start flat text (omega arith))
    ∙ ap (tokens_of (drop start flat ++ text)) (cut_pushed c)
    ∙ tokens_push (drop start flat) text cuts (record { kind = c.token.inside.kind; len = length text }) size refl
    ∙ ap (λ ts. ts ++ token c.token.inside.kind text ∷ []) c.self.view_is
    ∙ ap (λ t. c.args.self.now ++ t ∷ []) c.token.view_is
