-- The shortest prefix that passes a test.
use Rattle.std.specs.Prelude.{◌≡◌, Bool, true, false, cond, [], ◌∷◌, ◌++◌, Some, None, unwrap_or}
use Rattle.std.proofs.Common.{refl, sym, ap, ◌∙◌, append_assoc, append-nil}
use Rattle.rd_base.specs.History.{History, shortest_from}

pub test_of_shortest : (test : History → Bool) (seen h g : History) → shortest_from test seen h ≡ Some g → test g ≡ true
test_of_shortest test seen [] g p = go (test seen) refl p
  where
    go : (b : Bool) → test seen ≡ b → cond b (Some seen) None ≡ Some g → test g ≡ true
    go true e q = ap test (sym (ap (λ o. unwrap_or o g) q)) ∙ e
    go false e q = absurd (cc q)
test_of_shortest test seen (x ∷ h) g p = go (test_of_shortest test (seen ++ x ∷ []) h g) (test seen) refl p
  where
    go : (shortest_from test (seen ++ x ∷ []) h ≡ Some g → test g ≡ true) → (b : Bool) → test seen ≡ b
        → cond b (Some seen) (shortest_from test (seen ++ x ∷ []) h) ≡ Some g → test g ≡ true
    go ih true e q = ap test (sym (ap (λ o. unwrap_or o g) q)) ∙ e
    go ih false e q = ih q

-- where no prefix of h passes, the search goes on from h
pub none_so_far : (test : History → Bool) (seen h e : History) → shortest_from test seen h ≡ None
    → (test (seen ++ h) ≡ false) × (shortest_from test seen (h ++ e) ≡ shortest_from test (seen ++ h) e)
none_so_far test seen [] e p = go (test seen) refl p
  where
    go : (b : Bool) → test seen ≡ b → cond b (Some seen) None ≡ None → (test (seen ++ []) ≡ false) × (shortest_from test seen e ≡ shortest_from test (seen ++ []) e)
    go true t q = absurd (cc q)
    go false t q = (ap test (append-nil seen) ∙ t, ap (λ s. shortest_from test s e) (sym (append-nil seen)))
none_so_far test seen (x ∷ h) e p = go (none_so_far test (seen ++ x ∷ []) h e) (test seen) refl p
  where
    go : (shortest_from test (seen ++ x ∷ []) h ≡ None → (test ((seen ++ x ∷ []) ++ h) ≡ false) × (shortest_from test (seen ++ x ∷ []) (h ++ e) ≡ shortest_from test ((seen ++ x ∷ []) ++ h) e))
        → (b : Bool) → test seen ≡ b → cond b (Some seen) (shortest_from test (seen ++ x ∷ []) h) ≡ None
        → (test (seen ++ x ∷ h) ≡ false) × (shortest_from test seen (x ∷ (h ++ e)) ≡ shortest_from test (seen ++ x ∷ h) e)
    go ih true t q = absurd (cc q)
    go ih false t q =
        let later = ih q in
        let same : (seen ++ x ∷ []) ++ h ≡ seen ++ x ∷ h = append_assoc seen (x ∷ []) h in
        (ap test (sym same) ∙ later.0, rw t (later.1 ∙ ap (λ s. shortest_from test s e) same))

-- the shortest prefix is one
pub shortest_is_prefix : (test : History → Bool) (seen e g : History) → shortest_from test seen e ≡ Some g
    → (a : History) × (b : History) × (a ++ b ≡ e) × (g ≡ seen ++ a)
shortest_is_prefix test seen [] g p = go (test seen) p
  where
    go : (c : Bool) → cond c (Some seen) None ≡ Some g → (a : History) × (b : History) × (a ++ b ≡ []) × (g ≡ seen ++ a)
    go true q = ([], [], refl, sym (ap (λ o. unwrap_or o g) q) ∙ sym (append-nil seen))
    go false q = absurd (cc q)
shortest_is_prefix test seen (x ∷ e) g p = go (shortest_is_prefix test (seen ++ x ∷ []) e g) (test seen) p
  where
    go : (shortest_from test (seen ++ x ∷ []) e ≡ Some g → (a : History) × (b : History) × (a ++ b ≡ e) × (g ≡ (seen ++ x ∷ []) ++ a))
        → (c : Bool) → cond c (Some seen) (shortest_from test (seen ++ x ∷ []) e) ≡ Some g
        → (a : History) × (b : History) × (a ++ b ≡ x ∷ e) × (g ≡ seen ++ a)
    go ih true q = ([], x ∷ e, refl, sym (ap (λ o. unwrap_or o g) q) ∙ sym (append-nil seen))
    go ih false q = let r = ih q in (x ∷ r.0, r.1, ap (λ z. x ∷ z) r.2, r.3 ∙ append_assoc seen (x ∷ []) r.0)
