-- A history as far as it was gone through.
use Rattle.std.specs.Prelude.{◌≡◌, ℕ, List}
use Rattle.tk_schedule.specs.declared.history.History.{History}
use Rattle.tk_script.specs.declared.script.Script.{Script}
use Rattle.tk_words.specs.Words.{WordBook, words_of}
use Rattle.tk_client.specs.Client.{ClientState}
use Rattle.tk_client.specs.Looking.{FollowerState}
use Rattle.tk_report.specs.Clients.{known_first, AreFollowers, follower_before, joined}
use Rattle.tk_report.specs.Groups.{IsGroup}
use Rattle.tk_report.specs.Ledgers.{Keeps, IsLeftBy}
use Rattle.tk_report.specs.Report.{read_over}
use Rattle.tk_report.specs.Turns.{placed_before}
use Rattle.tk_report.specs.declared.fold.Fold.{Fold}
use Rattle.tk_report.specs.declared.ledger.Ledger.{Ledger}
use Rattle.tk_report.specs.declared.marked.Marked.{Marked}

-- a ledger has taken the entries of the turns before turn g
abbrev pub KeepsBefore : Script → WordBook → History → ℕ → Ledger → Type 0
KeepsBefore S b H g l = Keeps S.shape (placed_before S (words_of S.shape b) H g) l

-- one who follows knows what client c does before turn g, and each what its client does
abbrev pub KnowsBefore : Script → WordBook → History → ℕ → ℕ → FollowerState → Type 0
KnowsBefore S b H g c follower = follower ≡ follower_before S (words_of S.shape b) H g c

abbrev pub KnowBefore : Script → WordBook → History → ℕ → List FollowerState → Type 0
KnowBefore S b H g followers =
    AreFollowers S.shape.clients (follower_before S (words_of S.shape b) H g) followers

-- this is what lies open to the read of client c in turn g
abbrev pub IsOpenTo : Script → WordBook → History → ℕ → ℕ → Marked → Type 0
IsOpenTo S b H g c m = IsLeftBy S.shape (read_over S (words_of S.shape b) H g c) m

-- the clients, of which each knows what one who reads in its place does
abbrev pub clients_of : Fold → List ClientState
clients_of f = joined f.group.clients.items f.followers.items

-- before turn g all is as the definitions say of it
pub record IsFoldBefore (S : Script) (b : WordBook) (H : History) (g : ℕ) (f : Fold)
    : Type 0 where
  pub group : IsGroup S (known_first S) g f.group
  pub followers : KnowBefore S b H g f.followers.items
  pub ledger : KeepsBefore S b H g f.ledger
