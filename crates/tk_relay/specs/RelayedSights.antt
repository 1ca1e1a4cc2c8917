-- What server 1's tap gains of a relayed read of a run: nothing but the sight of the read, which is
-- the sight of a read of any other buckets with the moved pads.
use Rattle.std.specs.Prelude.{◌≡◌, ℕ, ◌<◌, List}
use Rattle.tk_schedule.specs.declared.history.History.{History}
use Rattle.tk_schedule.specs.Schedule.{IsLegal, epoch_at}
use Rattle.tk_shape.specs.Lengths.{turn_count}
use Rattle.tk_script.specs.declared.script.Script.{Script}
use Rattle.tk_words.specs.Words.{WordBook, IsBook, words_of, fresh_seeds, fresh_vectors, shows_vectors}
use Rattle.tk_report.specs.Exchange.{read_pair}
use Rattle.tk_relay.specs.Relayed.{blocks_read, pads_read, relayed_read, sight_frames}
use Rattle.tk_relay.specs.Sights.{DrawnRead, frames_for, AreBuckets, sight, moved_pads}

-- client c's read in turn g, and what is drawn for it
abbrev pub reading_at : Script → WordBook → History → ℕ → ℕ → DrawnRead
reading_at S b H g c =
    record {
      client = c;
      turn = g;
      epoch = epoch_at H g c;
      shows = shows_vectors b;
      seeds = fresh_seeds S.shape b g c;
      drawn = fresh_vectors S.shape b g c;
    }

-- the two buckets that it asks for
abbrev pub buckets_read : Script → WordBook → History → ℕ → ℕ → ℕ × ℕ
buckets_read S b H g c = read_pair S (words_of S.shape b) H g c

-- what server 1's tap gains of it is the sight of a read of these buckets
abbrev pub TapGainsSight : Type 0
TapGainsSight =
    (S : Script) (b : WordBook) (seeds : List (List ℕ)) (H : History) (g c : ℕ) →
    relayed_read S b seeds H 1 g c
    ≡ sight_frames (sight S.shape (blocks_read S b H g c) (pads_read S seeds g c)
    (frames_for S.shape (reading_at S b H g c) (buckets_read S b H g c)))

-- a read of a run
pub record IsReadOf (S : Script) (b : WordBook) (H : History) (g c : ℕ) : Type 0 where
  pub book : IsBook S.shape b
  pub legal : IsLegal S.shape H
  pub turn_in : g < turn_count S.shape
  pub client_in : c < S.shape.clients

-- so it gains the same of a read of any other buckets, with the moved pads
abbrev pub TapGainsTheSame : Type 0
TapGainsTheSame =
    (S : Script) (b : WordBook) (seeds : List (List ℕ)) (H : History) (g c : ℕ) (new : ℕ × ℕ) →
    IsReadOf S b H g c → AreBuckets S.shape new →
    let blocks = blocks_read S b H g c in
    relayed_read S b seeds H 1 g c
    ≡ sight_frames (sight S.shape blocks
    (moved_pads S.shape blocks (buckets_read S b H g c) new (pads_read S seeds g c))
    (frames_for S.shape (reading_at S b H g c) new))
