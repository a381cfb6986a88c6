-- Once all readers were joined and the gate was found empty, what was taken is all that was read: so the history is well formed.
use Rattle.std.proofs.Common.{◌≡◌, ℕ, zero, suc, ◌+◌, ◌<◌, ◌≤◌, Bool, true, false, List, [], ◌∷◌, ◌++◌, length, map, fold, Option, Some, None, refl, sym, ap, ap₂, ◌∙◌, subst, ⊎_elim, ◌⊎◌, inl, inr, append_assoc, append-nil, arith, true≢false}
use Rattle.std.specs.List.{flat_map, AllByRecursion as Each}
use Rattle.std.proofs.lemmas.List.Concat.{flat_map-append}
use Rattle.rd_base.specs.Outside.{SinkTold}
use Rattle.rd_base.specs.Sources.{SourceTold}
use Rattle.rd_base.specs.History.{History, Row, is_well_formed, is_over}
use Rattle.rd_rules.specs.Exchange.{Rules}
use Rattle.rd_rules.proofs.Acted.{front_follows}
use Rattle.rd_gate.specs.declared.item.Item.{Item}
use Rattle.rd_gate.specs.declared.item.Item.TheVariants as item
use Rattle.rd_gate.specs.declared.gate.Ended.{Ended}
use Rattle.rd_gate.specs.declared.gate.View.{View}
use Rattle.rd_gate.specs.Gate.{Whole, of, owner, reader, known}
use Rattle.rd_gate.specs.Items.{is_piece, IsFit, IsInTurn}
use Rattle.rd_gate.specs.Reads.{Reads, pushes, AreAnswers}
use Rattle.rd_start.specs.Back.{IsIn, WasRead}
use Rattle.atomic_table.specs.Seated.{TableId}
use Rattle.rd_turn.specs.declared.log.LogEntry.{LogEntry}
use Rattle.rd_turn.specs.declared.running.Over.{Over}
use Rattle.rd_turn.specs.Drawn.{draw}
use Rattle.rd_turn.specs.Turns.{Turn, Did, Took, Looked, Stopped, Outside, after_turn, history_of, items_of, told_of, taken_by, view_after, logged}
use Rattle.rd_turn.specs.Runs.{HasRun, Truly}
use Rattle.rd_run.specs.Ran.{LinkRead, HasHistory}
use Rattle.rd_run.proofs.Drawing.{Fits, turns_follow, drawn}

-- ---- what was taken

taken_after : (v : View) (did : Did) → (view_after v did).taken ≡ v.taken ++ taken_by did
taken_after v (Took l x) = refl
taken_after v (Looked timer) = sym (append-nil v.taken)
taken_after v Stopped = sym (append-nil v.taken)

pub taken_in : (v : View) (turns : List Turn) → (fold (λ w (t : Turn). view_after w t.did) v turns).taken ≡ v.taken ++ items_of turns
taken_in v [] = sym (append-nil v.taken)
taken_in v (t ∷ turns) =
    taken_in (view_after v t.did) turns
    ∙ ap (λ xs. xs ++ items_of turns) (taken_after v t.did)
    ∙ append_assoc v.taken (taken_by t.did) (items_of turns)

pub gate_in : (o : Outside) (turns : List Turn) → (fold after_turn o turns).gate ≡ fold (λ w (t : Turn). view_after w t.did) o.gate turns
gate_in o [] = refl
gate_in o (t ∷ turns) = gate_in (after_turn o t) turns

-- ---- what was read of a link

pub each_in : (P : Ended → Type 0) (es : List Ended) (e : Ended) → Each P es → IsIn e es → P e
each_in P [] e all here = absurd here
each_in P (x ∷ es) e all (inl same) = subst P same all.0
each_in P (x ∷ es) e all (inr more) = each_in P es e all.1 more

pub link_read : {S : Type 0} (tells : S → SourceTold) (gate : TableId) (k : ℕ) (source back : S) (v : View)
    → WasRead tells source (known gate (reader k [])) back v.ended → Whole v []
    → LinkRead (of k v.taken) (tells source) (tells back)
link_read tells gate k source back v was whole =
    let reads = was.reads in
    let ended : Ended = record { link = was.view.link; pushed = was.view.pushed } in
    let same : of was.view.link (v.taken ++ []) ≡ was.view.pushed = each_in (λ e. of e.link (v.taken ++ []) ≡ e.pushed) v.ended ended whole.ended was.is_in in
    let link : was.view.link ≡ k = ap (λ (x : View). x.link) reads.pushed in
    let pushed : was.view.pushed ≡ reads.pieces ++ reads.last ∷ [] = ap (λ (x : View). x.pushed) reads.pushed in
    let items : of k v.taken ≡ reads.pieces ++ reads.last ∷ [] = ap (λ xs. of k xs) (sym (append-nil v.taken)) ∙ ap (λ l. of l (v.taken ++ [])) (sym link) ∙ same ∙ pushed in
    record {
      pieces = reads.pieces;
      last = reads.last;
      answers = reads.answers;
      are = items;
      fit = reads.fit;
      ends = reads.ends;
      answered = subst (λ xs. AreAnswers xs reads.answers) (sym items) reads.are;
      given = reads.told;
      failed = reads.failed;
      mark = reads.mark;
    }

last_fit : (x : Item) → is_piece x ≡ false → IsFit x
last_fit (item.Piece bytes) e = absurd (true≢false e)
last_fit item.End e = tt
last_fit item.ReadFail e = tt
last_fit item.NoMemory e = tt

in_turn : (pieces : List Item) (last : Item) → Each (λ x. IsFit x × (is_piece x ≡ true)) pieces → is_piece last ≡ false → IsInTurn (pieces ++ last ∷ [])
in_turn [] last all ends = last_fit last ends
in_turn (x ∷ []) last all ends = (all.0.0, all.0.1, last_fit last ends)
in_turn (x ∷ y ∷ xs) last all ends = (all.0.0, all.0.1, in_turn (y ∷ xs) last all.1 ends)

pub reads_in_turn : (items : List Item) (before after : SourceTold) → LinkRead items before after → IsInTurn items
reads_in_turn items before after read = subst IsInTurn (sym read.are) (in_turn read.pieces read.last read.fit read.ends)

-- ---- the end of a run

le_or : (a b : ℕ) → (a ≤ b) ⊎ (b < a)
le_or a b = go a b
  where
    go : (a b : ℕ) → (a ≤ b) ⊎ (b < a)
    go zero b = inl (omega arith)
    go (suc a) zero = inr (omega arith)
    go (suc a) (suc b) = ⊎_elim (λ t. inl (omega (arith, t))) (λ t. inr (omega (arith, t))) (go a b)

pub has_history : (r : Rules) (base : ℕ) (before after : Outside) (v : View) (entries : List LogEntry) (told : List Row) (left : List (ℕ × Item)) (over : Over) (olds news : List SinkTold)
    → HasRun r base before after entries told over olds news
    → before.gate ≡ owner (r.limits.copies + 1) [] [] []
    → v.taken ≡ after.gate.taken ++ left
    → v.made ≡ r.limits.copies + 1
    → Whole v []
    → ((l : ℕ) → l ≤ r.limits.copies → IsInTurn (of l v.taken))
    → HasHistory r base before after entries told v.taken left over olds news
has_history r base before after v entries told left over olds news run begins more is_made whole in_turns =
    let all = run.turns ++ run.given_up in
    let first : before.gate.taken ≡ [] = ap (λ (x : View). x.taken) begins in
    let so_far : after.gate.taken ≡ items_of all =
    ap (λ (o : Outside). o.gate.taken) run.asks ∙ ap (λ (x : View). x.taken) (gate_in before all) ∙ taken_in before.gate all ∙ ap (λ xs. xs ++ items_of all) first in
    let taken : v.taken ≡ items_of all ++ left = more ∙ ap (λ xs. xs ++ left) so_far in
    let behind = items_of run.given_up ++ left in
    let parts : v.taken ≡ items_of run.turns ++ behind =
    taken ∙ ap (λ xs. xs ++ left) (flat_map-append (λ (t : Turn). taken_by t.did) run.turns run.given_up) ∙ append_assoc (items_of run.turns) (items_of run.given_up) left in
    let others : (l : ℕ) → r.limits.copies < l → of l v.taken ≡ [] = λ l lt. ap (of l) (sym (append-nil v.taken)) ∙ whole.others l (omega (arith, is_made, lt)) in
    let fits : Fits r.limits.copies [] (items_of all ++ left) = subst (Fits r.limits.copies []) taken (record {
      turns = λ l. ⊎_elim (λ (t : l ≤ r.limits.copies). in_turns l t) (λ (t : r.limits.copies < l). subst IsInTurn (sym (others l t)) tt) (le_or l r.limits.copies);
      over = λ l e. absurd (true≢false (sym e));
      others = others;
    }) in
    let well : is_well_formed r.limits.copies (history_of base all) ≡ true = turns_follow r.limits.copies base [] all left run.among fits in
    let truly : Truly r base run.turns run.given_up over olds news = run.truly well in
    record {
      turns = run.turns;
      given_up = run.given_up;
      asks = run.asks;
      items = taken;
      rows = run.rows;
      is = ap₂ (λ es xs. draw es (λ l. of l xs) told) run.log parts ∙ ap (draw (map logged (history_of base run.turns)) (λ l. of l (items_of run.turns ++ behind))) run.rows
          ∙ drawn r base [] run.turns behind truly.timely;
      well_formed = well;
      truly = truly;
    }
