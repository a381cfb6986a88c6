-- Nothing is asked behind the request that is out.
use Rattle.std.specs.Prelude.{◌≡◌, [], ◌∷◌, drop, Option, Some}
use Rattle.rd_base.specs.declared.values.What.{What}
use Rattle.rd_base.specs.History.{piece_of}
use Rattle.rd_rules.specs.Exchange as rule

-- one link asks, a happening has no bytes of it, and none of it are open behind the request that is out
pub record IsAlone (left : rule.Front) (out : Option rule.Ask) (w : What) : Type 0 where
  pub one : rule.Open
  pub ask : rule.Ask
  pub asking : left.asking ≡ one ∷ []
  pub asked : out ≡ Some ask
  pub behind : drop (rule.first_len ask.units) one.bytes ≡ []
  pub unheard : piece_of one.link w ≡ []
