-- The tables of letters: no letter stands in two lists of one.
use Rattle.std.proofs.Common.{◌≡◌, ℕ, Bool, true, false, eqb, List, [], ◌∷◌, Ok, refl, subst}
use Rattle.std.proofs.lemmas.Bool.{or_cases, eqb-true}
use Rattle.std.specs.Prelude.{◌⊎◌, codes}
use Rattle.std.proofs.Common.{inl, inr}
use Rattle.rd_base.specs.declared.values.Side.{Side}
use Rattle.rd_base.specs.declared.values.Side.TheVariants.{Incoming, Outgoing}
use Rattle.rd_pg_frame.specs.declared.role.Role.{Role}
use Rattle.rd_pg_frame.specs.declared.role.Role.TheVariants.{Inner, Last, Authentication, Status}
use Rattle.rd_pg_frame.specs.Letters.{Letters, password, ready, logging_in, asking_codes, query_reply}
use Rattle.rd_pg_frame.specs.Messages.{is_among}
use Rattle.rd_pg_frame.specs.Fronts.{role_of, code_ends}
use Rattle.rd_pg_frame.specs.UnitLaws.{IsTable}

abbrev pub Each : (ℕ → Type 0) → List ℕ → Type 0
Each P [] = Unit {0}
Each P (x ∷ xs) = P x × Each P xs

-- what holds of each letter of a list holds of a letter among them
pub each_among : (P : ℕ → Type 0) (xs : List ℕ) → Each P xs → (y : ℕ) → is_among xs y ≡ true → P y
each_among P [] each y among = absurd (cc among)
each_among P (x ∷ xs) each y among = go (λ later. each_among P xs each.1 y later) (or_cases (eqb x y) (is_among xs y) among)
  where
    go : (is_among xs y ≡ true → P y) → (eqb x y ≡ true) ⊎ (is_among xs y ≡ true) → P y
    go ih (inl here) = subst P (eqb-true x y here) each.0
    go ih (inr later) = ih later

-- first or not, the letter has this role
abbrev HasRole : Letters → Role → ℕ → Type 0
HasRole letters role letter = (role_of letters true letter ≡ Ok role) × (role_of letters false letter ≡ Ok role)

all_roles : (letters : Letters) (role : Role) (list : List ℕ) → Each (HasRole letters role) list → (is_first : Bool) (letter : ℕ) → is_among list letter ≡ true → role_of letters is_first letter ≡ Ok role
all_roles letters role list each true letter among = (each_among (HasRole letters role) list each letter among).0
all_roles letters role list each false letter among = (each_among (HasRole letters role) list each letter among).1

pub password_table : IsTable password
password_table =
    record {
      inner = all_roles password Inner [] tt;
      last = all_roles password Last [] tt;
      authentication = all_roles password Authentication [] tt;
      status = all_roles password Status [] tt;
      last_codes = λ code among. absurd (cc among);
    }

pub ready_table : IsTable ready
ready_table =
    record {
      inner = all_roles ready Inner (codes "PBDEC") ((refl, refl), ((refl, refl), ((refl, refl), ((refl, refl), ((refl, refl), tt)))));
      last = all_roles ready Last (codes "S") ((refl, refl), tt);
      authentication = all_roles ready Authentication [] tt;
      status = all_roles ready Status [] tt;
      last_codes = λ code among. absurd (cc among);
    }

login_table : (asking : List ℕ) → ((code : ℕ) → is_among asking code ≡ true → code_ends (logging_in asking) code ≡ Ok true) → IsTable (logging_in asking)
login_table asking asks =
    record {
      inner = all_roles (logging_in asking) Inner (codes "KSN") ((refl, refl), ((refl, refl), ((refl, refl), tt)));
      last = all_roles (logging_in asking) Last (codes "E") ((refl, refl), tt);
      authentication = all_roles (logging_in asking) Authentication (codes "R") ((refl, refl), tt);
      status = all_roles (logging_in asking) Status (codes "Z") ((refl, refl), tt);
      last_codes = asks;
    }

pub startup_table : (side : Side) → IsTable (logging_in (asking_codes side))
startup_table Incoming = login_table (3 ∷ []) (each_among (λ code. code_ends (logging_in (3 ∷ [])) code ≡ Ok true) (3 ∷ []) (refl, tt))
startup_table Outgoing = login_table (3 ∷ 5 ∷ []) (each_among (λ code. code_ends (logging_in (3 ∷ 5 ∷ [])) code ≡ Ok true) (3 ∷ 5 ∷ []) (refl, (refl, tt)))

pub password_reply_table : IsTable (logging_in [])
password_reply_table = login_table [] (λ code among. absurd (cc among))

pub query_table : IsTable query_reply
query_table =
    record {
      inner = all_roles query_reply Inner (codes "TDCENIS123nst") (
        (refl, refl),
        (
          (refl, refl),
          (
            (refl, refl),
            (
              (refl, refl),
              (
                (refl, refl),
                (
                  (refl, refl),
                  (
                    (refl, refl),
                    ((refl, refl), ((refl, refl), ((refl, refl), ((refl, refl), ((refl, refl), ((refl, refl), tt)))))),
                  ),
                ),
              ),
            ),
          ),
        ),
      );
      last = all_roles query_reply Last [] tt;
      authentication = all_roles query_reply Authentication [] tt;
      status = all_roles query_reply Status (codes "Z") ((refl, refl), tt);
      last_codes = λ code among. absurd (cc among);
    }
