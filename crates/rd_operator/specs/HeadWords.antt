-- That the method and the path which a request is answered by are those of its head.
use Rattle.std.specs.Prelude.{◌≡◌, ℕ, ◌==◌, not, Bool, true, List, take}
use Rattle.std.specs.List.{prefix_len, list_all}
use Rattle.httparse.specs.Grammar.{RequestHead, ReadsRequest}
use Rattle.rd_http_frame.specs.Fronts.{is_target_byte}
use Rattle.rd_operator.specs.Asked.{method_of, path_of}

-- a target up to its first `?`
abbrev pub is_no_query : ℕ → Bool
is_no_query b = not (b == 63)

abbrev pub before_query : List ℕ → List ℕ
before_query target = take (prefix_len is_no_query target) target

pub record AreOfHead (bytes : List ℕ) (h : RequestHead) : Type 0 where
  pub method : method_of bytes ≡ h.method
  pub path : path_of bytes ≡ before_query h.target

-- wherever bytes begin with a head whose target is visible ASCII, as that of each whole head is
abbrev pub AreHeadWords : Type 0
AreHeadWords =
    (bytes : List ℕ) (h : RequestHead) (rest : List ℕ) → ReadsRequest bytes h rest
    → list_all is_target_byte h.target ≡ true → AreOfHead bytes h
