-- A session on one side, seen as the engine's.
use Rattle.std.proofs.Common.{◌≡◌, sym, ap, subst, ◌∙◌, List, ◌++◌, ◌∷◌, [], true, ℕ, Result, Ok, Err}
use Rattle.std.specs.Prelude.{IfOk, OnOk}
use Rattle.rd_base.specs.History.{History, Entry, is_well_formed}
use Rattle.rd_base.specs.declared.values.Side.{Side}
use Rattle.rd_base.specs.declared.bytes.NoMemory.{NoMemory}
use Rattle.rd_base.specs.declared.sends.Send.{Send}
use Rattle.rd_dialect.specs.Grammar.{Grammar}
use Rattle.rd_rules.specs.Exchange.{Rules}
use Rattle.rd_rules.specs.Sent.{sent, sent_past}
use Rattle.rd_rules.specs.Wanted.{wanted}
use Rattle.rd_reading.specs.Seen.{rules_of}
use Rattle.rd_core.specs.Standing as core
use Rattle.rd_core.specs.Standing.{IsOn, SendsMore}
use Rattle.rd_core.specs.Faces.{Face, face_of, rules_on, StandsAt}

module _ {D : Type 0} (side : Side) (g : D → Grammar) (s : core.Seen D) (on : IsOn side s) where
  rules_here : rules_on side (g s.dialect) (face_of s) ≡ rules_of (g s.dialect) s.setup
  rules_here = ap (λ (x : Side). record { side = x; grammar = g s.dialect; limits = s.setup.limits }) (sym on)

  at_here : (h : History) → StandsAt side (rules_on side (g s.dialect) (face_of s)) (face_of s) h → core.IsAt (rules_of (g s.dialect) s.setup) s h
  at_here h at =
      subst (λ (x : Side). core.IsAt (record { side = x; grammar = g s.dialect; limits = s.setup.limits })
      (record { dialect = s.dialect; setup = record { side = x; limits = s.setup.limits }; at = s.at; tally = s.tally; ending = s.ending }) h) (sym on) at

  pub rules_in : (now : Face D) → face_of s ≡ now → rules_on side (g now.dialect) now ≡ rules_of (g s.dialect) s.setup
  rules_in now is = sym (ap (λ (v : Face D). rules_on side (g v.dialect) v) is) ∙ rules_here

  pub at_in : (now : Face D) → face_of s ≡ now → (h : History) → StandsAt side (rules_on side (g now.dialect) now) now h → core.IsAt (rules_of (g s.dialect) s.setup) s h
  at_in now is h at = at_here h (subst (λ (v : Face D). StandsAt side (rules_on side (g v.dialect) v) v h) (sym is) at)

  -- what was sent is never taken back
  abbrev pub Adds : Face D → Entry → Type 0
  Adds v e = (h : History) → is_well_formed v.limits.copies (h ++ e ∷ []) ≡ true → StandsAt side (rules_on side (g v.dialect) v) v h
      → (l : ℕ) → sent (rules_on side (g v.dialect) v) l (h ++ e ∷ []) ≡ sent (rules_on side (g v.dialect) v) l h ++ sent_past (rules_on side (g v.dialect) v) h (h ++ e ∷ []) l

  adds_here : (e : Entry) (res : Result (List Send) NoMemory)
      → IfOk res (λ sends. (h : History) → is_well_formed s.setup.limits.copies (h ++ e ∷ []) ≡ true → core.IsAt (rules_of (g s.dialect) s.setup) s h → SendsMore (rules_of (g s.dialect) s.setup) h e sends)
      → OnOk res (Adds (face_of s) e)
  adds_here e (Ok sends) more = λ h w at l.
      subst (λ (r : Rules). sent r l (h ++ e ∷ []) ≡ sent r l h ++ sent_past r h (h ++ e ∷ []) l) (sym rules_here) ((more h w (at_here h at)).adds l)
  adds_here e (Err fail) more = tt

  pub adds_in : (now : Face D) → face_of s ≡ now → (e : Entry) (res : Result (List Send) NoMemory)
      → IfOk res (λ sends. (h : History) → is_well_formed s.setup.limits.copies (h ++ e ∷ []) ≡ true → core.IsAt (rules_of (g s.dialect) s.setup) s h → SendsMore (rules_of (g s.dialect) s.setup) h e sends)
      → OnOk res (Adds now e)
  adds_in now is e res more = subst (λ (v : Face D). OnOk res (Adds v e)) is (adds_here e res more)

  -- the words that an entry asks
  abbrev Wants : Face D → Entry → List (List ℕ) → Type 0
  Wants v e words = (h : History) → is_well_formed v.limits.copies (h ++ e ∷ []) ≡ true → StandsAt side (rules_on side (g v.dialect) v) v h
      → words ≡ wanted (rules_on side (g v.dialect) v) h e

  wanted_here : (e : Entry) (res : Result (List (List ℕ)) NoMemory)
      → IfOk res (λ words. (h : History) → is_well_formed s.setup.limits.copies (h ++ e ∷ []) ≡ true → core.IsAt (rules_of (g s.dialect) s.setup) s h → words ≡ wanted (rules_of (g s.dialect) s.setup) h e)
      → IfOk res (Wants (face_of s) e)
  wanted_here e (Ok words) are = λ h w at. are h w (at_here h at) ∙ sym (ap (λ (r : Rules). wanted r h e) rules_here)
  wanted_here e (Err fail) are = tt

  pub wanted_in : (now : Face D) → face_of s ≡ now → (e : Entry) (res : Result (List (List ℕ)) NoMemory)
      → IfOk res (λ words. (h : History) → is_well_formed s.setup.limits.copies (h ++ e ∷ []) ≡ true → core.IsAt (rules_of (g s.dialect) s.setup) s h → words ≡ wanted (rules_of (g s.dialect) s.setup) h e)
      → IfOk res (Wants now e)
  wanted_in now is e res are = subst (λ (v : Face D). IfOk res (Wants v e)) is (wanted_here e res are)
