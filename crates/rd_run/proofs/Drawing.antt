-- The history of turns is well formed where what was taken came in turn, and it is what the log stands for.
use Rattle.std.proofs.Common.{◌≡◌, ◌≢◌, ℕ, zero, suc, ◌+◌, ◌<◌, ◌≤◌, Bool, true, false, true≢false, cond, List, [], ◌∷◌, ◌++◌, length, map, drop, take, Option, Some, None, refl, sym, ap, ap₂, ◌∙◌, subst, ⊎_elim, ◌⊎◌, inl, inr, append_assoc, append-nil, arith}
use Rattle.std.specs.Prelude.{◌==◌, ◌&&◌, ◌||◌, not, nat_le}
use Rattle.std.specs.List.{list_any, flat_map}
use Rattle.std.proofs.lemmas.Bool.{eqb-true, eq-eqb}
use Rattle.std.proofs.lemmas.Bool.Decides.{nat_tests}
use Rattle.rd_base.specs.History.{History, Entry, Row, ends, read_fails, is_over, may_follow, follows_well, is_well_formed}
use Rattle.rd_base.specs.declared.values.Link.{Link}
use Rattle.rd_base.specs.declared.values.What.{What}
use Rattle.rd_base.specs.declared.values.What.TheVariants as what
use Rattle.rd_gate.specs.declared.item.Item.{Item}
use Rattle.rd_gate.specs.declared.item.Item.TheVariants as item
use Rattle.rd_gate.specs.Gate.{of}
use Rattle.rd_rules.specs.Exchange.{Rules}
use Rattle.rd_turn.specs.Books.{rows_of, AsksBook}
use Rattle.rd_gate.specs.Items.{is_piece, IsFit, IsInTurn}
use Rattle.rd_turn.specs.declared.log.LogEntry.{LogEntry}
use Rattle.rd_turn.specs.declared.log.Act.{Act}
use Rattle.rd_turn.specs.declared.log.Act.TheVariants as act
use Rattle.rd_turn.specs.Drawn.{heard_of, first_heard, what_of, takes, left_by, entry_by, draw}
use Rattle.rd_turn.specs.Turns.{Turn, Did, Took, Looked, Stopped, stamp, entry_at, step_of, failure, told_in, told_of, turn_entries, turn_step, history_of, act_of, logged, taken_by, items_of, IsInTime, AreTimely, IsAmong, AreAmong}
use Rattle.rd_rules.proofs.FailedWrites.{any_snoc, or_false}

-- ---- of one link

of_here : (l : ℕ) (x : Item) (more : List (ℕ × Item)) → of l ((l, x) ∷ more) ≡ x ∷ of l more
of_here l x more = ap (λ b. cond b (x ∷ of l more) (of l more)) (eq-eqb l l refl)

of_else : (m l : ℕ) (x : Item) (more : List (ℕ × Item)) → (l == m) ≡ false → of m ((l, x) ∷ more) ≡ of m more
of_else m l x more other = ap (λ b. cond b (x ∷ of m more) (of m more)) other

-- ---- well formed

and_both : (a b : Bool) → a ≡ true → b ≡ true → (a && b) ≡ true
and_both a b p q = ap₂ (λ x y. x && y) p q

follows_join : (n : ℕ) (seen xs ys : History) → follows_well n seen xs ≡ true → follows_well n (seen ++ xs) ys ≡ true → follows_well n seen (xs ++ ys) ≡ true
follows_join n seen [] ys p q = ap (λ s. follows_well n s ys) (sym (append-nil seen)) ∙ q
follows_join n seen (x ∷ xs) ys p q = go (may_follow n seen x.what) p (λ f. follows_join n (seen ++ x ∷ []) xs ys f (ap (λ s. follows_well n s ys) (append_assoc seen (x ∷ []) xs) ∙ q))
  where
    go : (b : Bool) → (b && follows_well n (seen ++ x ∷ []) xs) ≡ true → (follows_well n (seen ++ x ∷ []) xs ≡ true → follows_well n (seen ++ x ∷ []) (xs ++ ys) ≡ true) → (b && follows_well n (seen ++ x ∷ []) (xs ++ ys)) ≡ true
    go true f k = k f
    go false f k = absurd (cc f)

over_snoc : (m : ℕ) (seen : History) (e : Entry) → is_over m (seen ++ e ∷ []) ≡ (is_over m seen || (ends m e.what || read_fails m e.what))
over_snoc m seen e = any_snoc (λ x. ends m x.what || read_fails m x.what) seen e ∙ ap (λ b. is_over m seen || b) (or_false (ends m e.what || read_fails m e.what))

-- what is still to be taken fits behind what was seen
pub record Fits (n : ℕ) (seen : History) (items : List (ℕ × Item)) : Type 0 where
  pub turns : (l : ℕ) → IsInTurn (of l items)
  pub over : (l : ℕ) → is_over l seen ≡ true → of l items ≡ []
  pub others : (l : ℕ) → n < l → of l items ≡ []

le_true : (a b : ℕ) → a ≤ b → nat_le a b ≡ true
le_true a b e = grind (arith, nat_tests)

le_or : (a b : ℕ) → (a ≤ b) ⊎ (b < a)
le_or zero b = inl (omega arith)
le_or (suc a) zero = inr (omega arith)
le_or (suc a) (suc b) = ⊎_elim (λ t. inl (omega (arith, t))) (λ t. inr (omega (arith, t))) (le_or a b)

some_left : (x : Item) (xs : List Item) → x ∷ xs ≡ [] → ⊥
some_left x xs e = cc

turn_fit : (x : Item) (xs : List Item) → IsInTurn (x ∷ xs) → IsFit x
turn_fit x [] h = h
turn_fit x (y ∷ ys) h = h.0

turn_rest : (x : Item) (xs : List Item) → IsInTurn (x ∷ xs) → IsInTurn xs
turn_rest x [] h = tt
turn_rest x (y ∷ ys) h = h.2

turn_last : (x : Item) (xs : List Item) → IsInTurn (x ∷ xs) → is_piece x ≡ false → xs ≡ []
turn_last x [] h e = refl
turn_last x (y ∷ ys) h e = absurd (true≢false (sym h.1 ∙ e))

heard_follows : (n : ℕ) (seen : History) (l : Link) (x : Item) → IsFit x → nat_le l.0 n ≡ true → is_over l.0 seen ≡ false → may_follow n seen (heard_of l x) ≡ true
heard_follows n seen l (item.Piece bytes) fit le live =
    and_both (nat_le l.0 n && nat_le 1 (length bytes) && nat_le (length bytes) 16384) (not (is_over l.0 seen))
    (and_both (nat_le l.0 n && nat_le 1 (length bytes)) (nat_le (length bytes) 16384)
    (and_both (nat_le l.0 n) (nat_le 1 (length bytes)) le (le_true 1 (length bytes) fit.0)) (le_true (length bytes) 16384 fit.1))
    (ap not live)
heard_follows n seen l item.End fit le live = and_both (nat_le l.0 n) (not (is_over l.0 seen)) le (ap not live)
heard_follows n seen l item.ReadFail fit le live = and_both (nat_le l.0 n) (not (is_over l.0 seen)) le (ap not live)
heard_follows n seen l item.NoMemory fit le live = and_both (nat_le l.0 n) (not (is_over l.0 seen)) le (ap not live)

-- a link is over by an item only where it is that link's and no piece
heard_over : (m : ℕ) (l : Link) (x : Item) → (ends m (heard_of l x) || read_fails m (heard_of l x)) ≡ true → (m ≡ l.0) × (is_piece x ≡ false)
heard_over m l (item.Piece bytes) e = absurd (cc e)
heard_over m l item.End e = (eqb-true m l.0 (sym (or_false (m == l.0)) ∙ e), refl)
heard_over m l item.ReadFail e = (eqb-true m l.0 e, refl)
heard_over m l item.NoMemory e = (eqb-true m l.0 (sym (or_false (m == l.0)) ∙ e), refl)

or_true : (a b : Bool) → (a || b) ≡ true → (a ≡ true) ⊎ (b ≡ true)
or_true true b e = inl refl
or_true false b e = inr e

of_shorter : (m l : ℕ) (x : Item) (more : List (ℕ × Item)) → of m ((l, x) ∷ more) ≡ [] → of m more ≡ []
of_shorter m l x more e = go (l == m) e
  where
    go : (b : Bool) → cond b (x ∷ of m more) (of m more) ≡ [] → of m more ≡ []
    go true p = absurd (some_left x (of m more) p)
    go false p = p

in_turn_shorter : (m l : ℕ) (x : Item) (more : List (ℕ × Item)) → IsInTurn (of m ((l, x) ∷ more)) → IsInTurn (of m more)
in_turn_shorter m l x more e = go (l == m) e
  where
    go : (b : Bool) → IsInTurn (cond b (x ∷ of m more) (of m more)) → IsInTurn (of m more)
    go true p = turn_rest x (of m more) p
    go false p = p

-- one item is taken
item_follows : (n at : ℕ) (told : List Row) (seen : History) (l : Link) (x : Item) (more : List (ℕ × Item)) → Fits n seen ((l.0, x) ∷ more)
    → (may_follow n seen (heard_of l x) ≡ true) × Fits n (seen ++ entry_at at (heard_of l x) told ∷ []) more
item_follows n at told seen l x more fits = (
  heard_follows n seen l x (turn_fit x (of l.0 more) here) below live,
  record {
    turns = λ m. in_turn_shorter m l.0 x more (fits.turns m);
    over = λ m e. ⊎_elim (λ (t : is_over m seen ≡ true). of_shorter m l.0 x more (fits.over m t))
        (λ t. let both = heard_over m l x t in ap (λ k. of k more) both.0 ∙ turn_last x (of l.0 more) here both.1)
        (or_true (is_over m seen) (ends m (heard_of l x) || read_fails m (heard_of l x)) (sym (over_snoc m seen (entry_at at (heard_of l x) told)) ∙ e));
    others = λ m lt. of_shorter m l.0 x more (fits.others m lt);
  },
)
  where
    here : IsInTurn (x ∷ of l.0 more)
    here = subst IsInTurn (of_here l.0 x more) (fits.turns l.0)

    below : nat_le l.0 n ≡ true
    below = ⊎_elim (λ (t : l.0 ≤ n). le_true l.0 n t) (λ (t : n < l.0). absurd (some_left x (of l.0 more) (sym (of_here l.0 x more) ∙ fits.others l.0 t))) (le_or l.0 n)

    live : is_over l.0 seen ≡ false
    live = go (is_over l.0 seen) (fits.over l.0)
      where
        go : (b : Bool) → (b ≡ true → of l.0 ((l.0, x) ∷ more) ≡ []) → b ≡ false
        go true e = absurd (some_left x (of l.0 more) (sym (of_here l.0 x more) ∙ e refl))
        go false e = refl

-- an entry that ends no link
quiet_fits : (n : ℕ) (seen : History) (e : Entry) (items : List (ℕ × Item)) → ((m : ℕ) → (ends m e.what || read_fails m e.what) ≡ false) → Fits n seen items → Fits n (seen ++ e ∷ []) items
quiet_fits n seen e items quiet fits = record {
  turns = fits.turns;
  over = λ m o. fits.over m (sym (or_false (is_over m seen)) ∙ ap (λ b. is_over m seen || b) (sym (quiet m)) ∙ sym (over_snoc m seen e) ∙ o);
  others = fits.others;
}

one_follows : (n : ℕ) (seen : History) (e : Entry) → may_follow n seen e.what ≡ true → follows_well n seen (e ∷ []) ≡ true
one_follows n seen e p = and_both (may_follow n seen e.what) true p refl

step_follows : (n at : ℕ) (told : List Row) (seen : History) (did : Did) (more : List (ℕ × Item)) → Fits n seen (taken_by did ++ more)
    → (follows_well n seen (step_of at did told) ≡ true) × Fits n (seen ++ step_of at did told) more
step_follows n at told seen (Took l x) more fits =
    let both = item_follows n at told seen l x more fits in (one_follows n seen (entry_at at (heard_of l x) told) both.0, both.1)
step_follows n at told seen (Looked true) more fits = (refl, quiet_fits n seen (entry_at at what.Timer told) more (λ m. refl) fits)
step_follows n at told seen (Looked false) more fits = (refl, subst (λ s. Fits n s more) (sym (append-nil seen)) fits)
step_follows n at told seen Stopped more fits = (refl, quiet_fits n seen (entry_at at what.Stop told) more (λ m. refl) fits)

failure_follows : (n at : ℕ) (seen : History) (failed : Option Link) (more : List (ℕ × Item)) → IsAmong (n + 1) failed → Fits n seen more
    → (follows_well n seen (failure at failed) ≡ true) × Fits n (seen ++ failure at failed) more
failure_follows n at seen None more among fits = (refl, subst (λ s. Fits n s more) (sym (append-nil seen)) fits)
failure_follows n at seen (Some w) more among fits =
    (one_follows n seen (entry_at at (what.WriteFail w) []) (le_true w.0 n (omega (arith, among))), quiet_fits n seen (entry_at at (what.WriteFail w) []) more (λ m. refl) fits)

pub turns_follow : (n base : ℕ) (seen : History) (turns : List Turn) (behind : List (ℕ × Item)) → AreAmong (n + 1) turns → Fits n seen (items_of turns ++ behind) → follows_well n seen (history_of base turns) ≡ true
turns_follow n base seen [] behind among fits = refl
turns_follow n base seen (t ∷ turns) behind among fits =
    let at = stamp base t in
    let told = told_in t in
    let joined : items_of (t ∷ turns) ++ behind ≡ taken_by t.did ++ (items_of turns ++ behind) = append_assoc (taken_by t.did) (items_of turns) behind in
    let step = step_follows n at told seen t.did (items_of turns ++ behind) (subst (Fits n seen) joined fits) in
    let failed = failure_follows n at (seen ++ step_of at t.did told) t.failed (items_of turns ++ behind) among.0 step.1 in
    let both = follows_join n seen (step_of at t.did told) (failure at t.failed) step.0 failed.0 in
    let rest = turns_follow n base (seen ++ turn_entries base t) turns behind among.1 (subst (λ s. Fits n s (items_of turns ++ behind)) (append_assoc seen (step_of at t.did told) (failure at t.failed)) failed.1) in
    follows_join n seen (turn_entries base t) (history_of base turns) both rest

-- ---- drawn

pub draw_same : (log : List LogEntry) (f g : ℕ → List Item) (told : List Row) → ((l : ℕ) → f l ≡ g l) → draw log f told ≡ draw log g told
draw_same [] f g told same = refl
draw_same (e ∷ log) f g told same =
    ap₂ (λ x xs. x ∷ xs) (by e.act) (draw_same log (left_by e.act f) (left_by e.act g) (drop e.told told) (λ l. ap (drop (takes l e.act)) (same l)))
  where
    by : (a : Act) → entry_by f told (record e { act = a }) ≡ entry_by g told (record e { act = a })
    by (act.Took l) = ap (λ xs. record { at = e.at; what = first_heard l xs; told = take e.told told }) (same l.0)
    by act.Timer = refl
    by act.Stop = refl
    by (act.WriteFail l) = refl

act_heard : (l : Link) (x : Item) → act_of (heard_of l x) ≡ act.Took l
act_heard l (item.Piece bytes) = refl
act_heard l item.End = refl
act_heard l item.ReadFail = refl
act_heard l item.NoMemory = refl

drop_none : (xs : List Item) → drop 0 xs ≡ xs
drop_none [] = refl
drop_none (x ∷ xs) = refl

left_taken : (l : Link) (x : Item) (more : List (ℕ × Item)) (m : ℕ) → left_by (act.Took l) (λ k. of k ((l.0, x) ∷ more)) m ≡ of m more
left_taken l x more m = go (l.0 == m)
  where
    go : (b : Bool) → drop (cond b 1 0) (cond b (x ∷ of m more) (of m more)) ≡ of m more
    go true = refl
    go false = drop_none (of m more)

take_front : (rows told : List Row) → take (length rows) (rows ++ told) ≡ rows
take_front [] told = refl
take_front (row ∷ rows) told = ap (λ l. row ∷ l) (take_front rows told)

drop_front : (rows told : List Row) → drop (length rows) (rows ++ told) ≡ told
drop_front [] told = refl
drop_front (row ∷ rows) told = drop_front rows told

draw_took : (at : ℕ) (l : Link) (x : Item) (rows : List Row) (more : List (ℕ × Item)) (log : List LogEntry) (rest : History) (told : List Row)
    → draw log (λ k. of k more) told ≡ rest
    → draw (logged (entry_at at (heard_of l x) rows) ∷ log) (λ k. of k ((l.0, x) ∷ more)) (rows ++ told) ≡ entry_at at (heard_of l x) rows ∷ rest
draw_took at l x rows more log rest told is =
    ap (λ a. draw (record { at = at; act = a; told = length rows } ∷ log) (λ k. of k ((l.0, x) ∷ more)) (rows ++ told)) (act_heard l x)
    ∙ ap₂ (λ e es. e ∷ es)
    (ap₂ (λ xs t. record { at = at; what = first_heard l xs; told = t }) (of_here l.0 x more) (take_front rows told))
    (ap (draw log (left_by (act.Took l) (λ k. of k ((l.0, x) ∷ more)))) (drop_front rows told)
    ∙ draw_same log (left_by (act.Took l) (λ k. of k ((l.0, x) ∷ more))) (λ k. of k more) told (left_taken l x more) ∙ is)

-- an act that takes nothing
draw_quiet : (e : LogEntry) (f : ℕ → List Item) (rows : List Row) (log : List LogEntry) (rest : History) (told : List Row) → ((l : ℕ) → takes l e.act ≡ 0) → e.told ≡ length rows
    → draw log f told ≡ rest → draw (e ∷ log) f (rows ++ told) ≡ record { at = e.at; what = what_of f e.act; told = rows } ∷ rest
draw_quiet e f rows log rest told quiet size is =
    ap₂ (λ x xs. x ∷ xs)
    (ap (λ t. record { at = e.at; what = what_of f e.act; told = t }) (ap (λ n. take n (rows ++ told)) size ∙ take_front rows told))
    (draw_same log (left_by e.act f) f (drop e.told (rows ++ told)) (λ l. ap (λ k. drop k (f l)) (quiet l) ∙ drop_none (f l))
    ∙ ap (draw log f) (ap (λ n. drop n (rows ++ told)) size ∙ drop_front rows told) ∙ is)

draw_failure : (at : ℕ) (failed : Option Link) (f : ℕ → List Item) (log : List LogEntry) (rest : History) (told : List Row) → draw log f told ≡ rest → draw (map logged (failure at failed) ++ log) f told ≡ failure at failed ++ rest
draw_failure at None f log rest told is = is
draw_failure at (Some w) f log rest told is = draw_quiet (record { at = at; act = act.WriteFail w; told = 0 }) f [] log rest told (λ l. refl) refl is

no_rows : (rows told : List Row) → rows ≡ [] → rows ++ told ≡ told
no_rows rows told none = ap (λ l. l ++ told) none

draw_step : (at : ℕ) (did : Did) (rows : List Row) (more : List (ℕ × Item)) (log : List LogEntry) (rest : History) (told : List Row) → (step_of at did rows ≡ [] → rows ≡ []) → draw log (λ k. of k more) told ≡ rest
    → draw (map logged (step_of at did rows) ++ log) (λ k. of k (taken_by did ++ more)) (rows ++ told) ≡ step_of at did rows ++ rest
draw_step at (Took l x) rows more log rest told none is = draw_took at l x rows more log rest told is
draw_step at (Looked true) rows more log rest told none is = draw_quiet (record { at = at; act = act.Timer; told = length rows }) (λ k. of k more) rows log rest told (λ l. refl) refl is
draw_step at (Looked false) rows more log rest told none is = ap (draw log (λ k. of k more)) (no_rows rows told (none refl)) ∙ is
draw_step at Stopped rows more log rest told none is = draw_quiet (record { at = at; act = act.Stop; told = length rows }) (λ k. of k more) rows log rest told (λ l. refl) refl is

map_append : (xs ys : History) → map logged (xs ++ ys) ≡ map logged xs ++ map logged ys
map_append [] ys = refl
map_append (x ∷ xs) ys = ap (λ l. logged x ∷ l) (map_append xs ys)

-- a turn without a step was told nothing
untold : (r : Rules) (base : ℕ) (h : History) (t : Turn) → IsInTime r base h t → turn_step base t ≡ [] → told_in t ≡ []
untold r base h t timely none = ap rows_of (subst (λ s. AsksBook r h s t.found t.learnt) none timely.asks).0

pub drawn : (r : Rules) (base : ℕ) (h : History) (turns : List Turn) (behind : List (ℕ × Item)) → AreTimely r base h turns → draw (map logged (history_of base turns)) (λ k. of k (items_of turns ++ behind)) (told_of turns) ≡ history_of base turns
drawn r base h [] behind timely = refl
drawn r base h (t ∷ turns) behind timely =
    let at = stamp base t in
    let rows = told_in t in
    let log = map logged (history_of base turns) in
    let parts : map logged (history_of base (t ∷ turns)) ≡ map logged (step_of at t.did rows) ++ (map logged (failure at t.failed) ++ log) =
    map_append (turn_entries base t) (history_of base turns) ∙ ap (λ l. l ++ log) (map_append (step_of at t.did rows) (failure at t.failed)) ∙ append_assoc (map logged (step_of at t.did rows)) (map logged (failure at t.failed)) log in
    ap₂ (λ l f. draw l f (told_of (t ∷ turns))) parts (λ i k. of k (append_assoc (taken_by t.did) (items_of turns) behind i))
    ∙ draw_step at t.did rows (items_of turns ++ behind) (map logged (failure at t.failed) ++ log) (failure at t.failed ++ history_of base turns) (told_of turns) (untold r base h t timely.0)
    (draw_failure at t.failed (λ k. of k (items_of turns ++ behind)) log (history_of base turns) (told_of turns) (drawn r base (h ++ turn_entries base t) turns behind timely.1))
    ∙ sym (append_assoc (step_of at t.did rows) (failure at t.failed) (history_of base turns))
