-- The streams of a history, and of one that goes on from it.
use Rattle.std.specs.Prelude.{ℕ, ◌≡◌, Bool, true, false, not, ◌||◌, ◌==◌, List, [], ◌∷◌, ◌++◌, map}
use Rattle.rd_base.specs.declared.values.What.TheVariants.{Piece, End, ReadFail, WriteFail, Timer, Stop}
use Rattle.rd_base.specs.declared.values.What.{What}
use Rattle.std.proofs.Common.{refl, sym, ap, ◌∙◌, append_assoc, append-nil, true≢false}
use Rattle.std.proofs.lemmas.Bool.{and_parts, not-true, eqb-true}
use Rattle.std.proofs.lemmas.Grind.{flat_map-append}
use Rattle.std.proofs.lemmas.List.Folds.{list_any-append}
use Rattle.rd_base.specs.History.{History, stream, ended, piece_of, ends, read_fails, is_over, may_follow, follows_well, is_well_formed}
use Rattle.rd_dialect.specs.Laws.{Lawful}
use Rattle.rd_rules.specs.Exchange.{Rules, open_of, start_front, reading, askers, answerers}
use Rattle.rd_rules.proofs.Grows.{Longer, Longer_all, Longer_front, Grown, read-grown}

-- what comes last is well formed behind what came first
pub follows_well-append : (n : ℕ) (seen h e : History) → follows_well n seen (h ++ e) ≡ true → follows_well n (seen ++ h) e ≡ true
follows_well-append n seen [] e w = rw (append-nil seen) w
follows_well-append n seen (x ∷ h) e w =
    let later = follows_well-append n (seen ++ x ∷ []) h e (and_parts (may_follow n seen x.what) _ w).1 in
    rw (append_assoc seen (x ∷ []) h) at later

or_left : (a b : Bool) → a ≡ true → (a || b) ≡ true
or_left true b e = refl
or_left false b e = absurd (true≢false (sym e))

or_right : (a b : Bool) → b ≡ true → (a || b) ≡ true
or_right true b e = refl
or_right false b e = e

ended-append : (l : ℕ) (h e : History) → ended l h ≡ true → ended l (h ++ e) ≡ true
ended-append l h e is = list_any-append (λ x. ends l x.what) h e ∙ or_left _ _ is

ended_over : (l : ℕ) (h : History) → ended l h ≡ true → is_over l h ≡ true
ended_over l [] is = is
ended_over l (x ∷ h) is = (elim (ends l x.what) as (λ b. (b || ended l h) ≡ true → ((b || read_fails l x.what) || is_over l h) ≡ true)
    [ true ↦ λ e. refl | false ↦ λ e. or_right (read_fails l x.what) (is_over l h) (ended_over l h e) ]) is

-- nothing more is heard of a link that has ended
no_piece : (n l : ℕ) (seen : History) (w : What) → ended l seen ≡ true → may_follow n seen w ≡ true → piece_of l w ≡ []
no_piece n l seen (Piece m bytes) is may = go (l == m.0) refl
  where
    open_still : not (is_over m.0 seen) ≡ true
    open_still = (and_parts _ (not (is_over m.0 seen)) may).1

    go : (b : Bool) → (l == m.0) ≡ b → piece_of l (Piece m bytes) ≡ []
    go false e = rw e
    go true e = absurd (true≢false (sym (ended_over l seen is) ∙ (ap (λ k. is_over k seen) (eqb-true l m.0 e) ∙ not-true (is_over m.0 seen) open_still)))
no_piece n l seen (End m) is may = refl
no_piece n l seen (ReadFail m) is may = refl
no_piece n l seen (WriteFail m) is may = refl
no_piece n l seen Timer is may = refl
no_piece n l seen Stop is may = refl

pub silent : (n l : ℕ) (seen e : History) → ended l seen ≡ true → follows_well n seen e ≡ true → stream l e ≡ []
silent n l seen [] is w = refl
silent n l seen (x ∷ e) is w =
    let parts = and_parts (may_follow n seen x.what) _ w in
    rw (no_piece n l seen x.what is parts.0) (silent n l (seen ++ x ∷ []) e (ended-append l seen (x ∷ []) is) parts.1)

open-longer : (n l : ℕ) (h e : History) → is_well_formed n (h ++ e) ≡ true → Longer (open_of h l) (open_of (h ++ e) l)
open-longer n l h e w = record {
  link = refl;
  more = stream l e;
  bytes = flat_map-append (λ x. piece_of l x.what) h e;
  over = λ is. (silent n l h e is (follows_well-append n [] h e w), ended-append l h e is);
}

all-longer : (n : ℕ) (h e : History) (ls : List ℕ) → is_well_formed n (h ++ e) ≡ true → Longer_all (map (open_of h) ls) (map (open_of (h ++ e)) ls)
all-longer n h e [] w = tt
all-longer n h e (l ∷ ls) w = (open-longer n l h e w, all-longer n h e ls w)

start-longer : (r : Rules) (h e : History) → is_well_formed r.limits.copies (h ++ e) ≡ true → Longer_front (start_front r h) (start_front r (h ++ e))
start-longer r h e w = record {
  phase = refl;
  asking = all-longer r.limits.copies h e (askers r.side r.limits.copies) w;
  answering = all-longer r.limits.copies h e (answerers r.side r.limits.copies) w;
}

pub reading-grown : (r : Rules) → Lawful r.grammar → (h e : History) → is_well_formed r.limits.copies (h ++ e) ≡ true
    → Grown (reading r h) (reading r (h ++ e))
reading-grown r laws h e w = read-grown r.grammar laws r.limits.mask r.limits.exchanges_max (start_front r h) (start_front r (h ++ e)) (start-longer r h e w)
