-- What server 1's tap gains of a relayed read.
use Rattle.std.proofs.Common.{◌≡◌, refl, ap, ◌∙◌, ℕ, List}
use Rattle.tk_schedule.specs.declared.history.History.{History}
use Rattle.tk_schedule.specs.Schedule.{epoch_at}
use Rattle.tk_script.specs.declared.script.Script.{Script}
use Rattle.tk_words.specs.Words.{WordBook, words_of, seed_at}
use Rattle.tk_frames.specs.declared.read_frame.ReadFrame.{ReadFrame}
use Rattle.tk_client.proofs.Offers.{fresh-whole, pair-in_range}
use Rattle.tk_report.specs.Exchange.{read_at, read_pair}
use Rattle.tk_report.specs.Report.{read_over, target_at}
use Rattle.tk_report.proofs.Offers.{epochs-ordered, epochs-storable}
use Rattle.tk_relay.specs.RelayedSights.{reading_at, buckets_read, IsReadOf, TapGainsSight, TapGainsTheSame}
use Rattle.tk_relay.specs.Relayed.{blocks_read, frames_read, pads_read, relayed_read, sight_frames}
use Rattle.tk_relay.specs.Sights.{frames_for, sight, AreBlocks, AreBuckets}
use Rattle.tk_relay.proofs.Joins.{blocks-whole}
use Rattle.tk_relay.proofs.PadLaws.{keyed-are}
use Rattle.tk_relay.proofs.Sights.{same_sight}

-- the frames that the client would send are those of its reading for its buckets
frames-are : (S : Script) (b : WordBook) (H : History) (g c : ℕ) →
    frames_read S b H g c ≡ frames_for S.shape (reading_at S b H g c) (buckets_read S b H g c)
unfolding read_at
frames-are S b H g c = refl

pub tap-gains-sight : TapGainsSight
unfolding relayed_read
tap-gains-sight S b seeds H g c =
    ap (λ (frames : List ReadFrame). sight_frames
    (sight S.shape (blocks_read S b H g c) (pads_read S seeds g c) frames)) (frames-are S b H g c)

blocks-are : (S : Script) (b : WordBook) (H : History) (g c : ℕ) → IsReadOf S b H g c →
    AreBlocks S.shape (blocks_read S b H g c)
unfolding blocks_read
blocks-are S b H g c is =
    blocks-whole S.shape (read_over S (words_of S.shape b) H g c)
    (epochs-ordered S b H (epoch_at H g c)) (epochs-storable S b H (epoch_at H g c) is.book is.legal)

buckets-are : (S : Script) (b : WordBook) (H : History) (g c : ℕ) →
    AreBuckets S.shape (buckets_read S b H g c)
unfolding read_pair
buckets-are S b H g c =
    let within = pair-in_range S.shape b g c (target_at S (words_of S.shape b) H g c) in
    record { first = within.0; second = within.1 }

pub tap-gains-the-same : TapGainsTheSame
tap-gains-the-same S b seeds H g c new is to =
    tap-gains-sight S b seeds H g c
    ∙ ap sight_frames
    (same_sight S.shape (blocks_read S b H g c) (pads_read S seeds g c) (reading_at S b H g c)
    (buckets_read S b H g c) new (blocks-are S b H g c is) (keyed-are S.shape (seed_at seeds c) g)
    (fresh-whole S.shape b g c is.book is.turn_in is.client_in) (buckets-are S b H g c) to)
