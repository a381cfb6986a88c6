-- The text of a transcript.
use Rattle.std.specs.Prelude.{ℕ, ◌+◌, List, ◌++◌, take}
use Rattle.std.specs.List.{flat_map}
use Rattle.rd_base.specs.declared.sends.Send.{Send}
use Rattle.rd_base.specs.History.{History}
use Rattle.rd_rules.specs.Exchange.{Rules}
use Rattle.rd_rules.specs.Sent.{StepSends, Transcript, transcript, step_sends}
use Rattle.rd_script.specs.Printed.{send_line, last_line}

-- a line for each send of a step
abbrev pub sends_text : ℕ → List Send → List ℕ
sends_text step sends = flat_map (λ s. send_line step s.link.0 s.bytes) sends

abbrev pub steps_text : List StepSends → List ℕ
steps_text steps = flat_map (λ s. sends_text s.step s.sends) steps

-- the sends, step by step, and then how the session ended
abbrev pub transcript_text : Transcript → List ℕ
transcript_text t = steps_text t.steps ++ last_line t.last

-- what the step of an entry writes, whose place is counted from 0
abbrev pub step_text : Rules → History → ℕ → List ℕ
step_text r h place = sends_text (place + 1) (step_sends r (take place h) (take (place + 1) h))

-- the text of all steps of a history
abbrev pub all_steps_text : Rules → History → List ℕ
all_steps_text r h = steps_text (transcript r h).steps
