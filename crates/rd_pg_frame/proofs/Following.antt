-- The last letter of the messages that stand one behind another.
use Rattle.std.proofs.Common.{◌≡◌, ℕ, zero, suc, ◌+◌, ◌-◌, ◌≤◌, List, length, drop, drop-drop, Some, None, refl, ap, ◌∙◌, arith}
use Rattle.rd_pg_frame.specs.declared.message.Message.{Message}
use Rattle.rd_pg_frame.specs.Messages.{message_at}
use Rattle.rd_pg_frame.specs.Phases.{letter_behind, last_letter_up_to}
use Rattle.rd_pg_frame.specs.MessagePlaces.{message_shows, message_made, message_from, none_from}

pub letters_on : (bytes : List ℕ) (at letter count : ℕ) (m : Message) → length bytes ≤ at + count → message_at bytes at ≡ Some m → (k : ℕ) × (length bytes ≤ m.to + k) × (last_letter_up_to count letter (drop at bytes) ≡ last_letter_up_to k m.letter (drop m.to bytes))
letters_on bytes at letter zero m room e =
    let shown = message_shows bytes at m e in
    let from = shown.from in
    let ordered = shown.ordered in
    let within = shown.within in
    absurd (omega arith)
letters_on bytes at letter (suc k) m room e =
    let shown = message_shows bytes at m e in
    let from = shown.from in
    let ordered = shown.ordered in
    let here : Message = record { letter = m.letter; from = m.from - at; to = m.to - at } in
    let to : at + (m.to - at) ≡ m.to = omega arith in (
      k,
      omega arith,
      ap (λ r. letter_behind r letter (λ m. last_letter_up_to k m.letter (drop m.to (drop at bytes)))) (message_made (drop at bytes) 0 here (message_from bytes at m shown))
          ∙ ap (last_letter_up_to k m.letter) (drop-drop (m.to - at) at bytes ∙ ap (λ n. drop n bytes) to),
    )

pub letters_end : (bytes : List ℕ) (at letter count : ℕ) → message_at bytes at ≡ None → last_letter_up_to count letter (drop at bytes) ≡ letter
letters_end bytes at letter zero e = refl
letters_end bytes at letter (suc k) e = ap (λ r. letter_behind r letter (λ m. last_letter_up_to k m.letter (drop m.to (drop at bytes)))) (none_from bytes at e)
