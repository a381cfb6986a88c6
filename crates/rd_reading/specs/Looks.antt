-- What is seen of the links on which a unit is due.
use Rattle.std.specs.Prelude.{ℕ, ◌≡◌, ◌==◌, ◌&&◌, Bool, true, false, List, map, length, nat_le}
use Rattle.std.specs.List.{list_all}
use Rattle.rd_base.specs.declared.values.What.{What}
use Rattle.rd_base.specs.declared.values.Scan.{Scan}
use Rattle.rd_base.specs.declared.values.Scan.TheVariants.{Whole, More, Bad, TooBig, Unsupported}
use Rattle.rd_dialect.specs.declared.due.Due.{Due}
use Rattle.rd_dialect.specs.Grammar.{Grammar}
use Rattle.rd_rules.specs.Exchange.{Open, scan_open}
use Rattle.rd_rules.specs.Step.{grow_by}
use Rattle.rd_rules.specs.Trouble.{link_of}
use Rattle.rd_reading.specs.declared.looks.Look.{Look}

abbrev pub look_of : Grammar → Due → Open → Look
look_of g due o = record { link = link_of o.link; len = length o.bytes; is_ended = o.is_ended; scan = scan_open g due o }

-- what was seen of a link before it heard a happening
pub record WasLook (g : Grammar) (due : Due) (w : What) (now : Open) (look : Look) : Type 0 where
  pub before : Open
  pub seen : look ≡ look_of g due before
  pub heard : now ≡ grow_by w before

-- the same of all links
pub record WereLooks (g : Grammar) (due : Due) (w : What) (now : List Open) (looks : List Look) : Type 0 where
  pub before : List Open
  pub seen : looks ≡ map (look_of g due) before
  pub heard : now ≡ map (grow_by w) before

-- what is there of a due unit is no longer than that, and as long where it is whole; it may be that no unit can come
abbrev pub fits : Bool → ℕ → ℕ → Scan → Bool
fits whole most size (Whole len) = whole && (len == most)
fits whole most size More = nat_le size most
fits whole most size Bad = true
fits whole most size TooBig = true
fits whole most size (Unsupported code) = true

abbrev pub all_fit : Bool → ℕ → List Look → Bool
all_fit whole most looks = list_all (λ l. fits whole most l.len l.scan) looks

-- all fit what is there of one
abbrev pub fit_one : ℕ → Scan → List Look → Bool
fit_one size (Whole len) looks = all_fit true len looks
fit_one size More looks = all_fit false size looks
fit_one size Bad looks = false
fit_one size TooBig looks = false
fit_one size (Unsupported code) looks = false
