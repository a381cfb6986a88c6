-- How a reader goes on.
use Rattle.std.proofs.Common.{◌≡◌, ◌≤◌, ℕ, ◌+◌, true, false, List, [], ◌∷◌, ◌++◌, Option, sym, refl, ap, ◌∙◌, inl, inr, append_assoc, append-nil, length-append, arith, map, subst}
use Rattle.std.specs.List.{AllByRecursion as Each}
use Rattle.rd_base.specs.Counts.{told_with}
use Rattle.rd_base.specs.Outside.{Rose}
use Rattle.rd_base.specs.Sources.{SourceTold, IsGive, Gives}
use Rattle.rd_base.specs.declared.source.Give.{Give}
use Rattle.rd_base.specs.declared.source.Give.TheVariants as give
use Rattle.rd_gate.specs.declared.item.Item.{Item}
use Rattle.rd_gate.specs.declared.item.Item.TheVariants.{End, ReadFail}
use Rattle.rd_gate.specs.declared.gate.View.{View}
use Rattle.rd_gate.specs.Gate.{pushed}
use Rattle.rd_gate.specs.Items.{is_piece, item_of, IsFit}
use Rattle.rd_gate.specs.Reads.{Reads, Reading, pushes, told_all}

each_snoc : {X : Type 0} (P : X → Type 0) (xs : List X) (y : X) → Each P xs → P y → Each P (xs ++ y ∷ [])
each_snoc P [] y h p = (p, tt)
each_snoc P (x ∷ xs) y h p = (h.0, each_snoc P xs y h.1 p)

map_snoc : (xs : List Give) (y : Give) → map item_of (xs ++ y ∷ []) ≡ map item_of xs ++ item_of y ∷ []
map_snoc [] y = refl
map_snoc (x ∷ xs) y = ap (λ l. item_of x ∷ l) (map_snoc xs y)

told_snoc : (told : Option (List Give)) (xs : List Give) (y : Give) → told_all told (xs ++ y ∷ []) ≡ told_with (told_all told xs) y
told_snoc told [] y = refl
told_snoc told (x ∷ xs) y = told_snoc (told_with told x) xs y

pushes_more : (v w u : View) (xs : List Item) (x : Item) → w ≡ pushes v xs → u ≡ pushed w x → u ≡ pushes v (xs ++ x ∷ [])
pushes_more v w u xs x e f = f ∙ ap (λ z. pushed z x) e ∙ ap (λ l. record v { pushed = l }) (append_assoc v.pushed xs (x ∷ []))

fit_item : (x : Give) → IsGive 16384 x → IsFit (item_of x)
fit_item (give.Piece bytes) h = h
fit_item give.End h = tt
fit_item give.Failed h = tt
fit_item give.NoMemory h = tt

failed_item : (x : Give) → item_of x ≡ ReadFail → x ≡ give.Failed
failed_item (give.Piece bytes) e = absurd (cc e)
failed_item give.End e = absurd (cc e)
failed_item give.Failed e = refl
failed_item give.NoMemory e = absurd (cc e)

rose_on : (n m k : ℕ) → n ≤ m → Rose m k → Rose n k
rose_on n m k le (inl lt) = inl (omega (arith, le, lt))
rose_on n m k le (inr last) = inr last

pub reading_starts : (before : SourceTold) (v : View) → Reading before before v v 0
reading_starts before v = record {
  answers = [];
  pushed = ap (λ l. record v { pushed = l }) (sym (append-nil v.pushed));
  fit = tt;
  count = refl;
  told = refl;
  faults = omega arith;
  mark = refl;
}

pub reading_more : (before after later : SourceTold) (v w u : View) (count : ℕ) (x : Give) → Reading before after v w count → Gives 16384 x after later → is_piece (item_of x) ≡ true → u ≡ pushed w (item_of x) → Reading before later v u (count + 1)
reading_more before after later v w u count x h gives piece f = record {
  answers = h.answers ++ x ∷ [];
  pushed = pushes_more v w u (map item_of h.answers) (item_of x) h.pushed f ∙ ap (pushes v) (sym (map_snoc h.answers x));
  fit = subst (Each (λ y. IsFit y × (is_piece y ≡ true))) (sym (map_snoc h.answers x)) (each_snoc (λ y. IsFit y × (is_piece y ≡ true)) (map item_of h.answers) (item_of x) h.fit (fit_item x gives.piece, piece));
  count = (let e = h.count in omega (arith, length-append h.answers (x ∷ []), e));
  told = gives.given ∙ ap (λ o. told_with o x) h.told ∙ sym (told_snoc before.given h.answers x);
  faults = (let e = h.faults in let le = gives.faults in omega (arith, e, le));
  mark = gives.mark ∙ h.mark;
}

pub reading_ends : (before after later : SourceTold) (v w u : View) (count : ℕ) (x : Give) → Reading before after v w count → Gives 16384 x after later → is_piece (item_of x) ≡ false → u ≡ pushed w (item_of x) → Reads before later v u
reading_ends before after later v w u count x h gives none f = record {
  pieces = map item_of h.answers;
  last = item_of x;
  answers = h.answers ++ x ∷ [];
  pushed = pushes_more v w u (map item_of h.answers) (item_of x) h.pushed f;
  fit = h.fit;
  ends = none;
  told = gives.given ∙ ap (λ o. told_with o x) h.told ∙ sym (told_snoc before.given h.answers x);
  are = inl (sym (map_snoc h.answers x));
  faults = (let e = h.faults in let le = gives.faults in omega (arith, e, le));
  failed = λ e. rose_on before.faults after.faults later.faults h.faults (gives.failed (failed_item x e));
  mark = gives.mark ∙ h.mark;
}

pub reading_full : (before after : SourceTold) (v w u : View) → Reading before after v w 1048576 → u ≡ pushed w End → Reads before after v u
reading_full before after v w u h f = record {
  pieces = map item_of h.answers;
  last = End;
  answers = h.answers;
  pushed = pushes_more v w u (map item_of h.answers) End h.pushed f;
  fit = h.fit;
  ends = refl;
  told = h.told;
  are = inr (refl, h.count);
  faults = h.faults;
  failed = λ e. absurd (cc e);
  mark = h.mark;
}
