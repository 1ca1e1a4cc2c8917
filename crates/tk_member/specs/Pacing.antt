-- What holds of every member.
use Rattle.std.specs.Prelude.{◌≡◌, ℕ, ◌+◌, ◌<◌, ◌≤◌, Bool, List, [], length, All, slice_index_or, Option, None}
use Rattle.std.specs.Option.{is_some}
use Rattle.tk_shape.specs.Lengths.{turn_count}
use Rattle.tk_client.specs.declared.written.Written.{Written}
use Rattle.tk_client.specs.declared.waiting.Waiting.{Waiting}
use Rattle.tk_client.specs.Writing.{Writing}
use Rattle.tk_client.specs.Client.{ClientState}
use Rattle.tk_member.specs.Keeping.{EpochsState}

-- Each text that waits has a number that is no greater than that of the turn in which it will be
-- written, where the first is written in this turn; and so has each text that is said next.
pub record IsPaced (turn : ℕ) (writing : Writing) : Type 0 where
  pub waits : (i : ℕ) (d : Waiting) → i < length writing.waiting →
      (slice_index_or writing.waiting i d).number ≤ turn + i
  pub counts : All (λ (f : Written). f.count ≤ turn + length writing.waiting) writing.logs

-- a client to which nothing was said, and which asked nothing
pub record IsFresh (client : ClientState) : Type 0 where
  pub silent : client.writing.waiting ≡ []
  pub counts : All (λ (f : Written). f.count ≡ 0) client.writing.logs
  pub closed : client.read ≡ None

-- the client is as far as the member says, and both have one shape with what it keeps of epochs
pub record IsMember (client : ClientState) (is_open : Bool) (written asked ticks ahead : ℕ)
    (epochs : EpochsState) (replies : List (Option (List ℕ))) : Type 0 where
  pub one_shape : epochs.shape ≡ client.shape
  pub open_is : is_open ≡ is_some client.read
  pub paced : IsPaced written client.writing
  pub written_in : written ≤ turn_count client.shape
  pub asked_in : asked ≤ written
  pub ticks_in : ticks ≤ turn_count client.shape
  pub ahead_in : ahead ≤ turn_count client.shape
  pub replies_counted : length replies ≡ client.shape.servers
