-- Sessions of plain lines written out: a history, what its steps send, and how it ends.
use Rattle.std.specs.Prelude.{ℕ, ◌≡◌, ◌+◌, ◌/◌, ◌%◌, List, [], ◌∷◌, ◌++◌, map, replicate, codes, Option, Some, None, if◌then◌else◌, nat_lt}
use Rattle.std.specs.List.{join_with_byte}
use Rattle.rd_base.specs.declared.sends.Send.{Send}
use Rattle.rd_base.specs.declared.values.Ending.{Ending}
use Rattle.rd_base.specs.declared.values.Ending.TheVariants as ending
use Rattle.rd_base.specs.declared.values.Limits.{Limits}
use Rattle.rd_base.specs.declared.values.Link.{Link}
use Rattle.rd_base.specs.declared.values.Side.TheVariants.{Incoming, Outgoing}
use Rattle.rd_base.specs.declared.values.What.TheVariants.{Piece, End, Timer}
use Rattle.rd_base.specs.declared.values.Which.TheVariants.{Gather}
use Rattle.rd_base.specs.History.{Entry, History}
use Rattle.rd_base.specs.Words.{below}
use Rattle.rd_dialect.specs.LineGrammar.{line}
use Rattle.rd_rules.specs.Exchange.{Rules}
use Rattle.rd_rules.specs.Sent.{StepSends, Transcript, transcript}

-- three copies; a unit of 1,048,576 bytes, 10,000 exchanges, 64 masked places of 128 bytes
abbrev pub usual_limits : Limits
usual_limits = record {
  copies = 3;
  unit_max = 1048576;
  exchanges_max = 10000;
  idle_ms = 60000;
  request_ms = 30000;
  gather_ms = 5000;
  reply_ms = 30000;
  mask = record { places = 64; bytes = 128 };
}

-- a client of plain lines, link 3, before three instances
abbrev pub line_rules : Rules
line_rules = record { side = Incoming; grammar = line; limits = usual_limits }

-- three callers of plain lines before a backend, link 3
abbrev pub call_rules : Rules
call_rules = record line_rules { side = Outgoing }

abbrev pub link : ℕ → Link
link l = record { 0 = l }

abbrev pub line_of : List ℕ → List ℕ
line_of text = text ++ 10 ∷ []

-- at this moment a link says this
abbrev pub says : ℕ → ℕ → List ℕ → Entry
says at l bytes = record { at = at; what = Piece (link l) bytes; told = [] }

abbrev pub ends_at : ℕ → ℕ → Entry
ends_at at l = record { at = at; what = End (link l); told = [] }

abbrev pub looks : ℕ → Entry
looks at = record { at = at; what = Timer; told = [] }

-- the client asks 'get a', and the instances reply this in turn
abbrev pub replied : List ℕ → List ℕ → List ℕ → History
replied a b c = says 0 3 (line_of (codes "get a")) ∷ says 5 0 a ∷ says 6 1 b ∷ says 7 2 c ∷ []

abbrev pub to : ℕ → List ℕ → Send
to l bytes = record { link = link l; bytes = bytes }

abbrev pub step : ℕ → List Send → StepSends
step n sends = record { step = n; sends = sends }

abbrev pub ends_with : List StepSends → Option Ending → Transcript
ends_with steps last = record { steps = steps; last = last }

-- each instance is asked 'get a', and no more is sent in the next two steps
abbrev pub asked_first : List StepSends → List StepSends
asked_first later =
    step 1 (map (λ l. to l (line_of (codes "get a"))) (0 ∷ 1 ∷ 2 ∷ [])) ∷ step 2 [] ∷ step 3 [] ∷ later

-- the last reply comes in step 4, and the client is sent this
abbrev pub shown : List ℕ → List StepSends
shown bytes = asked_first (step 4 (to 3 bytes ∷ []) ∷ [])

-- the client is sent nothing
abbrev pub not_shown : List StepSends
not_shown = asked_first (step 4 [] ∷ [])

abbrev pub ok_1 : List ℕ
ok_1 = line_of (codes "ok 1")

-- three equal replies: the first goes out in the step of the last
abbrev pub ThreeEqualReplies : Type 0
ThreeEqualReplies = transcript line_rules (replied ok_1 ok_1 ok_1) ≡ ends_with (shown ok_1) None

-- a line with a word of 32 equal digits, and a further word
abbrev pub id_line : ℕ → List ℕ → List ℕ
id_line digit word = line_of (codes "id " ++ replicate 32 digit ++ codes " " ++ word)

-- a word in which the pair differs is masked, and the third copy may have its own there
abbrev pub AMask : Type 0
AMask =
    transcript line_rules (replied (id_line 48 (codes "ok")) (id_line 49 (codes "ok")) (id_line 50 (codes "ok")))
    ≡ ends_with (shown (id_line 48 (codes "ok"))) None

-- beside the masked word the third copy differs
abbrev pub BesideTheMask : Type 0
BesideTheMask =
    transcript line_rules (replied (id_line 48 (codes "ok")) (id_line 49 (codes "ok")) (id_line 50 (codes "no")))
    ≡ ends_with not_shown (Some (ending.Disagree 1 2 4))

-- no mask where the pair differs in a byte that is no word's
abbrev pub AFirmByte : Type 0
AFirmByte =
    transcript line_rules (replied (line_of (codes "a:b")) (line_of (codes "a;b")) (line_of (codes "a:b")))
    ≡ ends_with not_shown (Some (ending.Disagree 1 1 1))

-- a number below 100, without a leading zero
abbrev pub decimal : ℕ → List ℕ
decimal n = if nat_lt n 10 then (48 + n) ∷ [] else (48 + n / 10) ∷ (48 + n % 10) ∷ []

-- so many words, word i of copy k being w, i, k and k, as in w1k0
abbrev pub own_words : ℕ → ℕ → List ℕ
own_words count k =
    line_of (join_with_byte 32 (map (λ i. codes "w" ++ decimal (i + 1) ++ codes "k" ++ decimal k) (below count)))

-- 64 places may be masked
abbrev pub SixtyFourMasks : Type 0
SixtyFourMasks =
    transcript line_rules (replied (own_words 64 0) (own_words 64 1) (own_words 64 2))
    ≡ ends_with (shown (own_words 64 0)) None

-- and no more
abbrev pub SixtyFiveMasks : Type 0
SixtyFiveMasks =
    transcript line_rules (replied (own_words 65 0) (own_words 65 1) (own_words 65 2))
    ≡ ends_with not_shown (Some (ending.Noise 1 128))

-- a copy has a token more
abbrev pub OneTokenMore : Type 0
OneTokenMore =
    transcript line_rules (replied (line_of (codes "ok")) (line_of (codes "ok")) ok_1)
    ≡ ends_with not_shown (Some (ending.Disagree 1 2 1))

-- a byte behind the last reply, in its piece: that reply's agreement isn't shown
abbrev pub OneByteTooMany : Type 0
OneByteTooMany =
    transcript line_rules (replied ok_1 ok_1 (ok_1 ++ codes "X"))
    ≡ ends_with not_shown (Some (ending.Unsolicited (link 2)))

-- the same byte later
abbrev pub OneByteLater : Type 0
OneByteLater =
    transcript line_rules (replied ok_1 ok_1 ok_1 ++ says 8 2 (codes "X") ∷ [])
    ≡ ends_with (shown ok_1 ++ step 5 [] ∷ []) (Some (ending.Unsolicited (link 2)))

-- nothing has happened
abbrev pub NothingHeard : Type 0
NothingHeard = transcript line_rules [] ≡ ends_with [] None

-- the client ends at once
abbrev pub AnEmptySession : Type 0
AnEmptySession = transcript line_rules (ends_at 0 3 ∷ []) ≡ ends_with (step 1 [] ∷ []) (Some ending.Done)

-- one exchange is all that a session may have
abbrev pub OneExchange : Type 0
OneExchange =
    transcript (record line_rules { limits = record usual_limits { exchanges_max = 1 } }) (replied ok_1 ok_1 ok_1)
    ≡ ends_with (shown ok_1) (Some ending.Retired)

-- the third copy's first word has ended and differs: the session ends before the line does
abbrev pub CutEarly : Type 0
CutEarly =
    transcript line_rules (replied ok_1 ok_1 (codes "no "))
    ≡ ends_with not_shown (Some (ending.Disagree 1 2 0))

-- a word that may go on isn't judged
abbrev pub NotYet : Type 0
NotYet = transcript line_rules (replied ok_1 ok_1 (codes "no")) ≡ ends_with not_shown None

-- a reply that ends with a word, and a request that brings it back
abbrev pub gives : List ℕ → List ℕ
gives word = line_of (codes "is " ++ word)

abbrev pub asks_with : List ℕ → List ℕ
asks_with word = line_of (codes "get " ++ word)

-- each copy's word was masked, and comes back as its own in the next request
abbrev pub AWordComesBack : Type 0
AWordComesBack =
    transcript line_rules
    (replied (gives (replicate 16 97)) (gives (replicate 16 98)) (gives (replicate 17 99))
    ++ says 8 3 (asks_with (replicate 16 97)) ∷ [])
    ≡ ends_with
    (shown (gives (replicate 16 97))
    ++ step 5 (to 0 (asks_with (replicate 16 97)) ∷ to 1 (asks_with (replicate 16 98)) ∷ to 2 (asks_with (replicate 17 99)) ∷ []) ∷ [])
    None

-- a word of 15 bytes is too short for that
abbrev pub AShortWordStays : Type 0
AShortWordStays =
    transcript line_rules
    (replied (gives (replicate 15 97)) (gives (replicate 16 98)) (gives (replicate 17 99))
    ++ says 8 3 (asks_with (replicate 15 97)) ∷ [])
    ≡ ends_with
    (shown (gives (replicate 15 97)) ++ step 5 (map (λ l. to l (asks_with (replicate 15 97))) (0 ∷ 1 ∷ 2 ∷ [])) ∷ [])
    None

abbrev pub q_1 : List ℕ
q_1 = line_of (codes "q 1")

-- the callers call in this order, and the backend replies 'r'
abbrev pub called : List ℕ → History
called callers = map (λ l. says 0 l q_1) callers ++ says 0 3 (line_of (codes "r")) ∷ []

-- one call goes out for the three, and its reply to each
abbrev pub merged_steps : List StepSends
merged_steps =
    step 1 [] ∷ step 2 [] ∷ step 3 (to 3 q_1 ∷ [])
    ∷ step 4 (map (λ l. to l (line_of (codes "r"))) (0 ∷ 1 ∷ 2 ∷ [])) ∷ []

abbrev pub MergedCalls : Type 0
MergedCalls = transcript call_rules (called (0 ∷ 1 ∷ 2 ∷ [])) ≡ ends_with merged_steps None

abbrev pub MergedCallsTurned : Type 0
MergedCallsTurned = transcript call_rules (called (2 ∷ 0 ∷ 1 ∷ [])) ≡ ends_with merged_steps None

-- two of three have called, and the clock is looked at
abbrev pub waited_for : List Entry → History
waited_for later = says 100 0 q_1 ∷ says 200 1 q_1 ∷ looks 5099 ∷ later

-- 4,999 ms after the first call the third is still awaited
abbrev pub StillAwaited : Type 0
StillAwaited = transcript call_rules (waited_for []) ≡ ends_with (step 1 [] ∷ step 2 [] ∷ step 3 [] ∷ []) None

-- 5,000 ms after it the session ends
abbrev pub LateCall : Type 0
LateCall =
    transcript call_rules (waited_for (looks 5100 ∷ []))
    ≡ ends_with (step 1 [] ∷ step 2 [] ∷ step 3 [] ∷ step 4 [] ∷ []) (Some (ending.Late Gather))
