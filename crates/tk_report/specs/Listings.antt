-- What each client sends, listed text by text.
use Rattle.std.specs.Prelude.{◌≡◌, ◌≤◌, ◌<◌, ℕ, ◌==◌, Bool, List, [], ◌++◌, length, drop, filter}
use Rattle.std.specs.Prelude.{count_by, slice_index_or}
use Rattle.tk_script.specs.declared.script.Script.{Script}
use Rattle.tk_script.specs.declared.say.Say.{Say}
use Rattle.tk_script.specs.Sent.{Sending, sendings, sendings_from, in_run, writer_of}
use Rattle.tk_report.specs.declared.sent_list.Listing.{Listing}

-- what a client sends in the run, in order
abbrev pub sent_by : Script → ℕ → List Sending
sent_by S c = filter (in_run S.shape) (sendings S c)

-- whether a client writes the log of a text
abbrev pub is_written_by : Script → ℕ → Say → Bool
is_written_by S c y = writer_of S y.log == c

-- what a client sends of these texts, after earlier ones of its own, where turns are free from this
-- one on
unfoldable pub sent_after : Script → ℕ → ℕ → List Say → List Say → List Sending
sent_after S c free earlier says =
    filter (in_run S.shape) (sendings_from S.shape free earlier (filter (is_written_by S c) says))

-- what is listed of a client, and what the texts from a place on bring, are all that it sends; these
-- are the first turn that is free for it, and how many texts of each log are sent
pub record IsListed (S : Script) (c place free : ℕ) (numbers : List ℕ) (listed : List Sending)
    : Type 0 where
  pub earlier : List Say
  pub few : length earlier ≤ free
  pub counts : (log : ℕ) → log < S.shape.logs → writer_of S log ≡ c →
      slice_index_or numbers log 0 ≡ count_by (λ (y : Say). y.log == log) earlier
  pub split : listed ++ sent_after S c free earlier (drop place S.says) ≡ sent_by S c

-- all texts before a place are listed
pub record IsListing (S : Script) (place : ℕ) (l : Listing) : Type 0 where
  pub turns : length l.free.items ≡ S.shape.clients
  pub numbers : length l.counts.items ≡ S.shape.logs
  pub clients : length l.sent.items ≡ S.shape.clients
  pub each : (c : ℕ) → c < S.shape.clients →
      IsListed S c place (slice_index_or l.free.items c 0) l.counts.items
      (slice_index_or l.sent.items c [])
