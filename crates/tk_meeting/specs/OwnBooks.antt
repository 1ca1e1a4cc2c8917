-- Each client has a book of its own, with the keys that it uses and no others.
use Rattle.std.specs.Prelude.{◌≡◌, ◌⊎◌, ℕ, ◌<◌, true, List}
use Rattle.tk_handle.specs.declared.handle.Handle.{Handle}
use Rattle.tk_script.specs.declared.script.Script.{Script}
use Rattle.tk_script.specs.Sent.{writer_of}
use Rattle.tk_words.specs.Words.{WordBook, keyed, handle_at, seed_at, pair_of, hits_of, pad_of, tag_of, shows_vectors}
use Rattle.tk_words.specs.Words.{fresh_write, fresh_pair, fresh_seeds, fresh_vectors}
use Rattle.tk_report.specs.Report.{is_follower}

-- a client writes a log, or follows it
abbrev pub Uses : Script → ℕ → ℕ → Type 0
Uses S c log = (writer_of S log ≡ c) ⊎ (is_follower S c log ≡ true)

-- A client's own book says what the group's book says of each log that the client uses, and draws what
-- that draws for the client. Of other logs and other clients it may say anything.
pub record AgreesForClient (S : Script) (b : WordBook) (c : ℕ) (own : WordBook) : Type 0 where
  pub pairs : (log s : ℕ) → log < S.shape.logs → Uses S c log →
      pair_of S.shape own log s ≡ pair_of S.shape b log s
  pub hits : (log s : ℕ) → log < S.shape.logs → Uses S c log →
      hits_of S.shape own log s ≡ hits_of S.shape b log s
  pub pads : (log s : ℕ) → log < S.shape.logs → Uses S c log →
      pad_of S.shape own log s ≡ pad_of S.shape b log s
  pub tags : (log s : ℕ) (masked : List ℕ) → log < S.shape.logs → Uses S c log →
      tag_of S.shape own log s masked ≡ tag_of S.shape b log s masked
  pub writes : (g : ℕ) → fresh_write S.shape own g c ≡ fresh_write S.shape b g c
  pub targets : (g : ℕ) → fresh_pair S.shape own g c ≡ fresh_pair S.shape b g c
  pub seeds : (g : ℕ) → fresh_seeds S.shape own g c ≡ fresh_seeds S.shape b g c
  pub vectors : (g : ℕ) → fresh_vectors S.shape own g c ≡ fresh_vectors S.shape b g c
  pub shows : shows_vectors own ≡ shows_vectors b

-- and so has each client
abbrev pub HaveKeys : Script → WordBook → (ℕ → WordBook) → Type 0
HaveKeys S b books = (c : ℕ) → c < S.shape.clients → AgreesForClient S b c (books c)

-- ---- keys

-- the handle of each log that a client uses, and the client's seed
pub record HasHandles (S : Script) (handles : List Handle) (seeds : List (List ℕ)) (c : ℕ)
    (own_handles : List Handle) (own_seeds : List (List ℕ)) : Type 0 where
  pub of_logs : (log : ℕ) → log < S.shape.logs → Uses S c log →
      handle_at own_handles log ≡ handle_at handles log
  pub of_client : seed_at own_seeds c ≡ seed_at seeds c

-- a book with these is one with the client's keys, whatever stands in the place of the others
abbrev pub OwnKeysServe : Type 0
OwnKeysServe =
    (S : Script) (handles own_handles : List Handle) (seeds own_seeds : List (List ℕ)) (c : ℕ) →
    HasHandles S handles seeds c own_handles own_seeds →
    AgreesForClient S (keyed handles seeds) c (keyed own_handles own_seeds)
