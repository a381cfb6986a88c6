-- Which unit is due, and what a grammar says of it.
use Rattle.std.specs.Prelude.{ℕ, Bool, List}
use Rattle.rd_base.specs.Token.{Token}
use Rattle.rd_base.specs.declared.values.Phase.{Phase}
use Rattle.rd_base.specs.declared.values.Note.{Note}
use Rattle.rd_base.specs.declared.values.Scan.{Scan}
use Rattle.rd_base.specs.declared.values.Part.TheVariants.{Request, Reply}
use Rattle.rd_dialect.specs.declared.due.Due.{Due}
use Rattle.rd_dialect.specs.Grammar.{Grammar, scan_of, tokens_of, IsPart}

-- the request of a phase; its note isn't looked at
abbrev pub request_due : Phase → Due
request_due phase = record { part = Request; phase = phase; note = record { 0 = 0 } }

-- the reply to a request that has this note
abbrev pub reply_due : Phase → Note → Due
reply_due phase note = record { part = Reply; phase = phase; note = note }

abbrev pub scan_due : Grammar → Due → List ℕ → Bool → Scan
scan_due g due bytes ended = scan_of g due.part due.phase due.note bytes ended

-- the tokens of a whole unit, and those of a part that are closed
abbrev pub tokens_due : Grammar → Due → List ℕ → Bool → List Token
tokens_due g due bytes whole = tokens_of g due.part due.phase due.note bytes whole

-- a whole unit, or a part of one
abbrev pub IsDue : Grammar → Due → List ℕ → Bool → Type 0
IsDue g due bytes whole = IsPart g due.part due.phase due.note bytes whole
