-- A scan has one answer.
use Rattle.std.proofs.Common.{◌≡◌, ℕ, ◌≤◌, ◌<◌, List, [], inl, inr, sym, ap, ◌∙◌, arith, append-nil, subst}
use Rattle.std.proofs.lemmas.Bool.{false≢true}
use Rattle.httparse.specs.Grammar.{RequestHead, ReadsRequest, NeverHasRequest, ResponseHead, ReadsResponse, NeverHasResponse}
use Rattle.httparse.proofs.GrammarLemmas.{request_unique, response_unique}
use Rattle.rd_base.specs.declared.values.Scan.{Scan}
use Rattle.rd_base.specs.declared.values.Part.{Part}
use Rattle.rd_base.specs.declared.values.Part.TheVariants.{Request, Reply}
use Rattle.rd_http_frame.specs.Fronts.{head_feeds, IsOpen}
use Rattle.rd_http_frame.specs.Heads.{IsRequestScan, IsReplyScan, IsHeadScan, IsHopeless, request_answer, reply_answer, seen}
use Rattle.rd_http_frame.specs.Heads.{IsRequestScan as request}
use Rattle.rd_http_frame.specs.Heads.{IsReplyScan as reply}
use Rattle.rd_http_frame.proofs.HeadLines.{head_is_past_target}

too_many : {A : Type 0} (bytes : List ℕ) → 101 < head_feeds bytes → head_feeds bytes ≤ 101 → A
too_many bytes over fits = absurd (omega (arith, over, fits))

begins_none : (bytes : List ℕ) → NeverHasRequest bytes → (h : RequestHead) (rest : List ℕ) → ReadsRequest bytes h rest → ⊥
begins_none bytes never h rest reads = never [] h rest (subst (λ (t : List ℕ). ReadsRequest t h rest) (sym (append-nil bytes)) reads)

hopeless_none : (bytes : List ℕ) → IsHopeless bytes → (h : RequestHead) (rest : List ℕ) → ReadsRequest bytes h rest → ⊥
hopeless_none bytes (fits, inl bad) h rest reads = false≢true (sym (head_is_past_target bytes h rest reads) ∙ bad.0)
hopeless_none bytes (fits, inr none) h rest reads = begins_none bytes none.1 h rest reads

hopeless_or_open : (bytes : List ℕ) → IsHopeless bytes → IsOpen bytes → ⊥
hopeless_or_open bytes (fits, inl bad) (more_fits, none, inl good) = false≢true (sym bad.1 ∙ good.1)
hopeless_or_open bytes (fits, inl bad) (more_fits, none, inr out) = false≢true (sym out.0 ∙ bad.0)
hopeless_or_open bytes (fits, inr never) (more_fits, none, inl good) = false≢true (sym never.0 ∙ good.0)
hopeless_or_open bytes (fits, inr never) (more_fits, none, inr out) = never.1 out.1.0 out.1.1 out.1.2 out.1.3

pub request_once : (bytes : List ℕ) (a b : Scan) → IsRequestScan bytes a → IsRequestScan bytes b → a ≡ b
request_once bytes a b (request.ManyLines over e) (request.ManyLines o f) = e ∙ sym f
request_once bytes a b (request.ManyLines over e) (request.Complete fits h rest reads few f) = too_many bytes over fits
request_once bytes a b (request.ManyLines over e) (request.Hopeless is f) = too_many bytes over is.0
request_once bytes a b (request.ManyLines over e) (request.Open is f) = too_many bytes over is.0
request_once bytes a b (request.Complete fits h rest reads few e) (request.ManyLines over f) = too_many bytes over fits
request_once bytes a b (request.Complete fits h rest reads few e) (request.Complete ff k more found fw f) =
    e ∙ ap request_answer (request_unique bytes h k rest more reads found).0 ∙ sym f
request_once bytes a b (request.Complete fits h rest reads few e) (request.Hopeless is f) = absurd (hopeless_none bytes is h rest reads)
request_once bytes a b (request.Complete fits h rest reads few e) (request.Open is f) = absurd (is.1 h rest reads)
request_once bytes a b (request.Hopeless is e) (request.ManyLines over f) = too_many bytes over is.0
request_once bytes a b (request.Hopeless is e) (request.Complete fits h rest reads few f) = absurd (hopeless_none bytes is h rest reads)
request_once bytes a b (request.Hopeless is e) (request.Hopeless i f) = e ∙ sym f
request_once bytes a b (request.Hopeless is e) (request.Open i f) = absurd (hopeless_or_open bytes is i)
request_once bytes a b (request.Open is e) (request.ManyLines over f) = too_many bytes over is.0
request_once bytes a b (request.Open is e) (request.Complete fits h rest reads few f) = absurd (is.1 h rest reads)
request_once bytes a b (request.Open is e) (request.Hopeless i f) = absurd (hopeless_or_open bytes i is)
request_once bytes a b (request.Open is e) (request.Open i f) = e ∙ sym f

reply_none : (bytes : List ℕ) → NeverHasResponse bytes → (h : ResponseHead) (rest : List ℕ) → ReadsResponse bytes h rest → ⊥
reply_none bytes never h rest reads = never [] h rest (subst (λ (t : List ℕ). ReadsResponse t h rest) (sym (append-nil bytes)) reads)

pub reply_once : (bytes : List ℕ) (a b : Scan) → IsReplyScan bytes a → IsReplyScan bytes b → a ≡ b
reply_once bytes a b (reply.ManyLines over e) (reply.ManyLines o f) = e ∙ sym f
reply_once bytes a b (reply.ManyLines over e) (reply.Complete fits h rest reads few f) = too_many bytes over fits
reply_once bytes a b (reply.ManyLines over e) (reply.Hopeless fits never f) = too_many bytes over fits
reply_once bytes a b (reply.ManyLines over e) (reply.Open fits none may f) = too_many bytes over fits
reply_once bytes a b (reply.Complete fits h rest reads few e) (reply.ManyLines over f) = too_many bytes over fits
reply_once bytes a b (reply.Complete fits h rest reads few e) (reply.Complete ff k more found fw f) =
    e ∙ ap reply_answer (response_unique bytes h k rest more reads found).0 ∙ sym f
reply_once bytes a b (reply.Complete fits h rest reads few e) (reply.Hopeless ff never f) = absurd (reply_none bytes never h rest reads)
reply_once bytes a b (reply.Complete fits h rest reads few e) (reply.Open ff none may f) = absurd (none h rest reads)
reply_once bytes a b (reply.Hopeless fits never e) (reply.ManyLines over f) = too_many bytes over fits
reply_once bytes a b (reply.Hopeless fits never e) (reply.Complete ff h rest reads few f) = absurd (reply_none bytes never h rest reads)
reply_once bytes a b (reply.Hopeless fits never e) (reply.Hopeless ff n f) = e ∙ sym f
reply_once bytes a b (reply.Hopeless fits never e) (reply.Open ff none may f) = absurd (never may.0 may.1 [] may.2)
reply_once bytes a b (reply.Open fits none may e) (reply.ManyLines over f) = too_many bytes over fits
reply_once bytes a b (reply.Open fits none may e) (reply.Complete ff h rest reads few f) = absurd (none h rest reads)
reply_once bytes a b (reply.Open fits none may e) (reply.Hopeless ff never f) = absurd (never may.0 may.1 [] may.2)
reply_once bytes a b (reply.Open fits none may e) (reply.Open ff n m f) = e ∙ sym f

pub head_once : (part : Part) (bytes : List ℕ) (a b : Scan) → IsHeadScan part bytes a → IsHeadScan part bytes b → a ≡ b
head_once Request bytes a b x y = request_once (seen bytes) a b x y
head_once Reply bytes a b x y = reply_once (seen bytes) a b x y
