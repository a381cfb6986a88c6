-- The lines of a step's sends.
use Rattle.std.proofs.Common.{◌≡◌, ℕ, ◌+◌, ◌<◌, List, [], ◌∷◌, ◌++◌, length, take, drop, get_or, Some, option_map, sym, ap, ◌∙◌}
use Rattle.std.specs.List.{slice_get}
use Rattle.std.proofs.lemmas.List.{take_more, take-append-drop, append-nil}
use Rattle.std.proofs.lemmas.List.Concat.{flat_map-append}
use Rattle.std.proofs.lemmas.Option.{slice_get-get_or}
use Rattle.rd_base.specs.declared.sends.Send.{Send}
use Rattle.rd_base.specs.declared.values.Link.{Link}
use Rattle.rd_script.specs.Printed.{send_line}
use Rattle.rd_session_run.specs.Transcripts.{sends_text}

-- the send at a place has this link and these bytes
pub record IsSendAt (sends : List Send) (place : ℕ) (link : Link) (bytes : List ℕ) : Type 0 where
  pub here : place < length sends
  pub link_is : option_map (λ s. s.link) (slice_get sends place) ≡ Some link
  pub bytes_are : option_map (λ s. s.bytes) (slice_get sends place) ≡ Some bytes

abbrev line_of : ℕ → Send → List ℕ
line_of step s = send_line step s.link.0 s.bytes

line_at : (step : ℕ) (sends : List Send) (place : ℕ) (link : Link) (bytes : List ℕ) (d : Send) → IsSendAt sends place link bytes → line_of step (get_or sends place d) ≡ send_line step link.0 bytes
line_at step sends place link bytes d is =
    let at = slice_get-get_or sends place d is.here in
    let l : (get_or sends place d).link ≡ link = let e : Some (get_or sends place d).link ≡ Some link = sym (ap (option_map (λ s. s.link)) at) ∙ is.link_is in cc in
    let b : (get_or sends place d).bytes ≡ bytes = let e : Some (get_or sends place d).bytes ≡ Some bytes = sym (ap (option_map (λ s. s.bytes)) at) ∙ is.bytes_are in cc in
    ap (λ (k : Link). send_line step k.0 (get_or sends place d).bytes) l ∙ ap (send_line step link.0) b

-- one more send, one more line
pub one_more : (step : ℕ) (sends : List Send) (place : ℕ) (link : Link) (bytes : List ℕ) → IsSendAt sends place link bytes → sends_text step (take place sends) ++ send_line step link.0 bytes ≡ sends_text step (take (place + 1) sends)
one_more step sends place link bytes is =
    let d : Send = record { link = link; bytes = bytes } in
    let line = sym (line_at step sends place link bytes d is) ∙ sym (append-nil (line_of step (get_or sends place d))) in
    ap (λ x. sends_text step (take place sends) ++ x) line
    ∙ sym (flat_map-append (line_of step) (take place sends) (get_or sends place d ∷ []))
    ∙ ap (sends_text step) (sym (take_more sends place d is.here))

-- the lines before a place and those from it on are all
pub front_rest : (step : ℕ) (sends : List Send) (place : ℕ) → sends_text step (take place sends) ++ sends_text step (drop place sends) ≡ sends_text step sends
front_rest step sends place = sym (flat_map-append (line_of step) (take place sends) (drop place sends)) ∙ ap (sends_text step) (take-append-drop place sends)

-- the lines before a send, its own and the rest are all
pub with_rest : (step : ℕ) (sends : List Send) (place : ℕ) (link : Link) (bytes : List ℕ) → IsSendAt sends place link bytes → (sends_text step (take place sends) ++ send_line step link.0 bytes) ++ sends_text step (drop (place + 1) sends) ≡ sends_text step sends
with_rest step sends place link bytes is =
    ap (λ x. x ++ sends_text step (drop (place + 1) sends)) (one_more step sends place link bytes is) ∙ front_rest step sends (place + 1)
