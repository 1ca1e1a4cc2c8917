-- What each server sees of a run, and what it replies.
use Rattle.std.specs.Prelude.{ℕ, List, [], ◌∷◌, ◌++◌, map, flat_map}
use Rattle.std.specs.List.{range_with_len}
use Rattle.tk_shape.specs.declared.shape.Shape.{Shape}
use Rattle.tk_shape.specs.Lengths.{turn_count}
use Rattle.tk_schedule.specs.declared.history.History.{History}
use Rattle.tk_schedule.specs.Schedule.{epoch_at}
use Rattle.tk_script.specs.declared.script.Script.{Script}
use Rattle.tk_words.specs.Words.{WordBook, BookWords, words_of}
use Rattle.tk_frames.specs.declared.write_frame.WriteFrame.{WriteFrame}
use Rattle.tk_frames.specs.declared.read_frame.ReadFrame.{ReadFrame}
use Rattle.tk_frames.specs.declared.seeds.Seeds.TheVariants.{Plain}
use Rattle.tk_frames.specs.Spelling.{placed_frame, read_frame, reply_frame}
use Rattle.tk_frames.specs.Order.{Record}
use Rattle.tk_table.specs.Replies.{reply_to}
use Rattle.tk_client.specs.Asked.{pair_for, frame_for}
use Rattle.tk_report.specs.Entries.{write_at, entries_at}
use Rattle.tk_report.specs.Report.{target_at, read_over}

-- ---- a read

-- what stands for a read where a list of reads has none
abbrev pub blank_read : ReadFrame
blank_read =
    record { client = 0; turn = 0; epoch = 0; first = []; second = []; seeds = Plain }

unfoldable pub read_pair : Script → BookWords → History → ℕ → ℕ → ℕ × ℕ
read_pair S w H g c = pair_for w g c (target_at S w H g c)

-- the read frame that a client sends to server j in a turn
unfoldable pub read_at : Script → WordBook → History → ℕ → ℕ → ℕ → ReadFrame
read_at S b H g c j =
    frame_for S.shape b g c (epoch_at H g c) (read_pair S (words_of S.shape b) H g c) j

-- a read frame, and after it the reply over these writes
unfoldable pub with_reply : Shape → List Record → ReadFrame → List (List ℕ)
with_reply shape R r = read_frame r ∷ reply_frame (reply_to shape R r) ∷ []

-- ---- a run

-- What a turn or a client's read in it gives is told by functions: write gives each turn's and
-- client's write, and reads the frames of each turn's and client's read.

-- the frames of a turn: those of its entries in order, and then for each client those of its read
abbrev pub turn_frames :
    Shape → History → (ℕ → ℕ → WriteFrame) → (ℕ → ℕ → List (List ℕ)) → ℕ → List (List ℕ)
turn_frames shape H write reads g =
    map placed_frame (entries_at write H g) ++ flat_map (reads g) (range_with_len 0 shape.clients)

-- the frames of the turns before turn g, turn after turn
unfoldable pub frames_before :
    Shape → History → (ℕ → ℕ → WriteFrame) → (ℕ → ℕ → List (List ℕ)) → ℕ → List (List ℕ)
frames_before shape H write reads g =
    flat_map (turn_frames shape H write reads) (range_with_len 0 g)

-- a client's read in a turn as server j sees it
abbrev pub read_seen : Script → WordBook → History → ℕ → ℕ → ℕ → List (List ℕ)
read_seen S b H j g c = read_frame (read_at S b H g c j) ∷ []

-- the same with the reply of server j after it
abbrev pub read_answered : Script → WordBook → History → ℕ → ℕ → ℕ → List (List ℕ)
read_answered S b H j g c =
    with_reply S.shape (read_over S (words_of S.shape b) H g c) (read_at S b H g c j)

-- the frames that server j sees of a run
abbrev pub view : Script → WordBook → History → ℕ → List (List ℕ)
view S b H j =
    let w = words_of S.shape b in
    frames_before S.shape H (write_at S w) (read_seen S b H j) (turn_count S.shape)

-- the same with each read's reply after it
abbrev pub exchange : Script → WordBook → History → ℕ → List (List ℕ)
exchange S b H j =
    let w = words_of S.shape b in
    frames_before S.shape H (write_at S w) (read_answered S b H j) (turn_count S.shape)

-- frames one after the other
abbrev pub bytes_of : List (List ℕ) → List ℕ
bytes_of frames = flat_map (λ f. f) frames
