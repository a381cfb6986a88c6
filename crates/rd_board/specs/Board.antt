-- What contracts see of a board.
use Rattle.std.specs.Prelude.{◌≡◌, ℕ, ◌+◌, ◌-◌, ◌^◌, ◌<◌, ◌≤◌, min, List, [], ◌∷◌, ◌++◌, Option, MatchOption, length, sum_by, count_by, option_to_list}
use Rattle.rd_base.specs.declared.session_note.SessionNote.{SessionNote}
use Rattle.rd_board.specs.declared.latest.BoardNote.{BoardNote}
use Rattle.rd_board.specs.Notes.{fresh, is_unkept, latest, before_latest, let_go}
use Rattle.rd_board.specs.Calls.{Call, accepted, begun}

-- the last id drawn; the live sessions; sums over the accepted notes; and the last 10,000 of these
pub record BoardView : Type 0 where
  pub drawn : ℕ
  pub live : ℕ
  pub sessions : ℕ
  pub exchanges : ℕ
  pub masked : ℕ
  pub unkept : ℕ
  pub latest : List BoardNote

abbrev pub empty : ℕ → BoardView
empty drawn = record { drawn = drawn; live = 0; sessions = 0; exchanges = 0; masked = 0; unkept = 0; latest = [] }

-- a sum stops at 2^64-1
abbrev pub capped : ℕ → ℕ
capped n = min n (2 ^ 64 - 1)

-- a board is what these calls come to
pub record IsAfter (board : BoardView) (calls : List Call) : Type 0 where
  pub live : board.live + length (accepted calls) ≡ begun calls
  pub sessions : board.sessions ≡ capped (length (accepted calls))
  pub exchanges : board.exchanges ≡ capped (sum_by (λ n. n.note.exchanges) (accepted calls))
  pub masked : board.masked ≡ capped (sum_by (λ n. n.note.masked) (accepted calls))
  pub unkept : board.unkept ≡ capped (count_by is_unkept (before_latest (accepted calls)))
  pub latest : board.latest ≡ latest (accepted calls)

-- where a board was what some calls come to, it is then what these come to and this one
abbrev pub Follows : BoardView → Call → BoardView → Type 0
Follows before call after =
    (calls : List Call) → IsAfter before calls → IsAfter after (calls ++ call ∷ [])

-- a note is accepted
pub record Accepts (before : BoardView) (note : SessionNote) (after : BoardView) : Type 0 where
  pub drawn : after.drawn ≡ before.drawn
  pub live : after.live + 1 ≡ before.live
  pub sessions : after.sessions ≡ capped (before.sessions + 1)
  pub exchanges : after.exchanges ≡ capped (before.exchanges + note.exchanges)
  pub masked : after.masked ≡ capped (before.masked + note.masked)
  pub unkept : after.unkept ≡ capped (before.unkept + count_by is_unkept (option_to_list (let_go before.latest)))
  pub latest : after.latest ≡ latest (before.latest ++ fresh note ∷ [])

-- the id is one more than the last; none is drawn past 2^63-1
abbrev pub Draws : BoardView → Option ℕ → BoardView → Type 0
Draws before id after =
    MatchOption id ((2 ^ 63 - 1 ≤ before.drawn) × (after ≡ before))
    (λ n. (before.drawn < 2 ^ 63 - 1) × (n ≡ before.drawn + 1) × (after ≡ record before { drawn = n }))
