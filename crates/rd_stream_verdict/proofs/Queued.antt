-- A queue's tokens, one more behind them, and their bytes.
use Rattle.std.proofs.Common.{◌≡◌, ℕ, ◌+◌, ◌≤◌, List, [], ◌∷◌, ◌++◌, length, take, drop, refl, ap, ◌∙◌, arith, length-drop, length-take}
use Rattle.std.proofs.lemmas.List.{take-append-le, drop-append-le, take_all, length-map}
use Rattle.rd_base.specs.Token.{token, text_of}
use Rattle.rd_base.specs.declared.values.TokenKind.{TokenKind}
use Rattle.rd_base.specs.declared.values.TokenKind.TheVariants.{Soft, Firm, Name}
use Rattle.rd_stream_verdict.specs.Queue.{tokens_of, cut_bytes, bytes_in}
use Rattle.rd_stream_verdict.specs.declared.queue.Cut.{Cut}

pub cut_bytes_push : (cuts : List Cut) (cut : Cut) → cut_bytes (cuts ++ cut ∷ []) ≡ cut_bytes cuts + cut.len
cut_bytes_push [] cut = omega arith
cut_bytes_push (c ∷ cuts) cut = omega (arith, cut_bytes_push cuts cut)

pub tokens_push : (flat text : List ℕ) (cuts : List Cut) (cut : Cut) → cut_bytes cuts ≡ length flat → cut.len ≡ length text → tokens_of (flat ++ text) (cuts ++ cut ∷ []) ≡ tokens_of flat cuts ++ token cut.kind text ∷ []
tokens_push [] text [] cut filled size = ap (λ t. token cut.kind t ∷ []) (take_all cut.len text (omega arith))
tokens_push (b ∷ flat) text [] cut filled size = absurd (omega arith)
tokens_push flat text (c ∷ cuts) cut filled size =
    let within : c.len ≤ length flat = omega arith in
    ap (λ t. token c.kind t ∷ tokens_of (drop c.len (flat ++ text)) (cuts ++ cut ∷ [])) (take-append-le c.len flat text within)
    ∙ ap (λ f. token c.kind (take c.len flat) ∷ tokens_of f (cuts ++ cut ∷ [])) (drop-append-le c.len flat text within)
    ∙ ap (λ ts. token c.kind (take c.len flat) ∷ ts) (tokens_push (drop c.len flat) text cuts cut (omega (arith, length-drop c.len flat)) size)

pub length-text_of : (kind : TokenKind) (text : List ℕ) → length (text_of kind text) ≡ length text
length-text_of Soft text = refl
length-text_of Firm text = refl
length-text_of Name text = length-map text _

pub bytes_of_tokens : (flat : List ℕ) (cuts : List Cut) → cut_bytes cuts ≤ length flat → bytes_in (tokens_of flat cuts) ≡ cut_bytes cuts
bytes_of_tokens flat [] within = refl
bytes_of_tokens flat (c ∷ cuts) within =
    omega (arith, length-text_of c.kind (take c.len flat), length-take c.len flat, bytes_of_tokens (drop c.len flat) cuts (omega (arith, length-drop c.len flat)))
