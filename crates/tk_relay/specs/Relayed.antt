-- What each server sees of a run in which all reads go by way of server 1.
use Rattle.std.specs.Prelude.{ℕ, ◌==◌, cond, List, [], ◌∷◌, map}
use Rattle.std.specs.List.{range_with_len}
use Rattle.tk_shape.specs.Lengths.{turn_count}
use Rattle.tk_schedule.specs.declared.history.History.{History}
use Rattle.tk_script.specs.declared.script.Script.{Script}
use Rattle.tk_words.specs.Words.{WordBook, words_of, keyed, drawn, seed_at}
use Rattle.tk_frames.specs.declared.read_frame.ReadFrame.{ReadFrame}
use Rattle.tk_table.specs.Table.{layout, blocks_of}
use Rattle.tk_report.specs.Entries.{write_at}
use Rattle.tk_report.specs.Report.{read_over}
use Rattle.tk_report.specs.Exchange.{read_at, turn_frames, frames_before, bytes_of}
use Rattle.tk_relay.specs.declared.part.Part.{Part}
use Rattle.tk_relay.specs.Pads.{PadLists, keyed_pads}
use Rattle.tk_relay.specs.Parts.{part_frame, masked_reply_frame}
use Rattle.tk_relay.specs.Bundles.{part_for}
use Rattle.tk_relay.specs.Serving.{served_part}
use Rattle.tk_relay.specs.Sights.{RelayedSight, sight}

-- the seeds of a book, one for each client; a tape has none
abbrev pub seeds_of : WordBook → List (List ℕ)
seeds_of (keyed handles seeds) = seeds
seeds_of (drawn tape) = []

-- ---- a read

-- the blocks that a client's read in a turn is over
unfoldable pub blocks_read : Script → WordBook → History → ℕ → ℕ → List (List ℕ)
blocks_read S b H g c = blocks_of (layout S.shape (read_over S (words_of S.shape b) H g c))

-- what it would send to all servers if none stood in between
abbrev pub frames_read : Script → WordBook → History → ℕ → ℕ → List ReadFrame
frames_read S b H g c = map (read_at S b H g c) (range_with_len 1 S.shape.servers)

-- its pads, where each client has one of these seeds
abbrev pub pads_read : Script → List (List ℕ) → ℕ → ℕ → PadLists
pads_read S seeds g c = keyed_pads S.shape (seed_at seeds c) g

-- server j's part of it, and the server's reply
unfoldable pub part_read : Script → WordBook → List (List ℕ) → History → ℕ → ℕ → ℕ → Part
part_read S b seeds H g c j = part_for (pads_read S seeds g c) (frames_read S b H g c) j

unfoldable pub reply_read : Script → WordBook → List (List ℕ) → History → ℕ → ℕ → ℕ → Part
reply_read S b seeds H g c j =
    served_part S.shape (blocks_read S b H g c) (pads_read S seeds g c) j
    (part_read S b seeds H g c j)

-- what server 1 sees of it: the bundle, and then the masked replies of all others
abbrev pub sight_read : Script → WordBook → List (List ℕ) → History → ℕ → ℕ → RelayedSight
sight_read S b seeds H g c =
    sight S.shape (blocks_read S b H g c) (pads_read S seeds g c) (frames_read S b H g c)

abbrev pub sight_frames : RelayedSight → List (List ℕ)
sight_frames s = s.bundle ∷ s.replies

-- what another server sees of it: its part, and then its masked reply
abbrev pub part_frames : Part → Part → List (List ℕ)
part_frames part reply = part_frame part ∷ masked_reply_frame reply ∷ []

-- what server j sees of it
unfoldable pub relayed_read :
    Script → WordBook → List (List ℕ) → History → ℕ → ℕ → ℕ → List (List ℕ)
relayed_read S b seeds H j g c =
    cond (j == 1) (sight_frames (sight_read S b seeds H g c))
    (part_frames (part_read S b seeds H g c j) (reply_read S b seeds H g c j))

-- ---- a run

-- what server j sees of a turn: its entries in order, and then for each client that of its read
unfoldable pub relayed_turn : Script → WordBook → List (List ℕ) → History → ℕ → ℕ → List ℕ
relayed_turn S b seeds H g j =
    bytes_of
    (turn_frames S.shape H (write_at S (words_of S.shape b)) (relayed_read S b seeds H j) g)

-- the frames that it sees of the whole run, turn after turn
abbrev pub relayed_exchange : Script → WordBook → List (List ℕ) → History → ℕ → List (List ℕ)
relayed_exchange S b seeds H j =
    frames_before S.shape H (write_at S (words_of S.shape b)) (relayed_read S b seeds H j)
    (turn_count S.shape)
