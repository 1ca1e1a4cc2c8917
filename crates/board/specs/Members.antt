-- What a member is seen as, and what holds of each.
use Rattle.std.specs.Prelude.{◌≡◌, ℕ, ◌<◌, ◌≤◌, Bool, All, is_some}
use Rattle.tk_shape.specs.Lengths.{turn_count}
use Rattle.tk_client.specs.declared.written.Written.{Written}
use Rattle.tk_client.specs.declared.waiting.Waiting.{Waiting}
use Rattle.tk_client.specs.Client.{ClientState}

-- its client, and in how many turns it wrote
pub record MemberView : Type 0 where
  pub client : ClientState
  pub written : ℕ

-- it wrote in some of the turns, and said at most so many texts, of which each has a number below them
pub record IsMember (client : ClientState) (written said : ℕ) (is_open : Bool) : Type 0 where
  pub written_in : written ≤ turn_count client.shape
  pub said_in : said ≤ turn_count client.shape
  pub counts : All (λ (f : Written). f.count ≤ said) client.writing.logs
  pub numbers : All (λ (y : Waiting). y.number < said) client.writing.waiting
  pub open_is : is_open ≡ is_some client.read
