-- Frames: each value's one spelling.
use Rattle.std.specs.Prelude.{ℕ, List, ◌∷◌, ◌++◌}
use Rattle.std.specs.List.{flat_map}
use Rattle.std.specs.Int.{w32, w64, to_be_bytes}
use Rattle.tk_frames.specs.declared.write_frame.WriteFrame.{WriteFrame}
use Rattle.tk_frames.specs.declared.read_frame.ReadFrame.{ReadFrame}
use Rattle.tk_frames.specs.declared.seeds.Seeds.{Seeds}
use Rattle.tk_frames.specs.declared.seeds.Seeds.TheVariants.{Plain, Seeded, Shown}
use Rattle.tk_frames.specs.declared.reply_frame.ReplyFrame.{ReplyFrame}
use Rattle.tk_frames.specs.declared.entry.Placed.{Placed}
use Rattle.tk_frames.specs.declared.entry.Entry.{Entry}
use Rattle.tk_frames.specs.declared.entry.Entry.TheVariants.{Write, Mark}

abbrev pub be32 : ℕ → List ℕ
be32 = to_be_bytes w32

abbrev pub be64 : ℕ → List ℕ
be64 = to_be_bytes w64

-- the fields of a write
abbrev pub write_fields : WriteFrame → List ℕ
write_fields w =
    be32 w.client ++ be32 w.turn ++ be32 w.first ++ be32 w.second ++ flat_map be32 w.hits ++ w.block

abbrev pub write_frame : WriteFrame → List ℕ
write_frame w = 1 ∷ 1 ∷ write_fields w

-- the kind of a read
abbrev pub read_kind : Seeds → ℕ
read_kind Plain = 2
read_kind (Seeded seeds) = 6
read_kind (Shown seeds) = 7

-- what tells a read's vectors
abbrev pub told : Seeds → List ℕ → List ℕ → List ℕ
told Plain first second = first ++ second
told (Seeded seeds) first second = seeds
told (Shown seeds) first second = seeds ++ (first ++ second)

-- a frame of a kind that names a client, a turn and an epoch, and has these bytes behind them
abbrev pub asked_frame : ℕ → ℕ → ℕ → ℕ → List ℕ → List ℕ
asked_frame kind client turn epoch rest = kind ∷ 1 ∷ (be32 client ++ be32 turn ++ be32 epoch ++ rest)

abbrev pub read_frame : ReadFrame → List ℕ
read_frame r = asked_frame (read_kind r.seeds) r.client r.turn r.epoch (told r.seeds r.first r.second)

abbrev pub reply_frame : ReplyFrame → List ℕ
reply_frame r = asked_frame 3 r.client r.turn r.epoch (r.first ++ r.second)

-- an entry of the order with its position: a mark, or a record
abbrev pub entry_frame : ℕ → Entry → List ℕ
entry_frame position (Mark e) = 4 ∷ 1 ∷ (be64 position ++ be32 e)
entry_frame position (Write w) = 5 ∷ 1 ∷ (be64 position ++ write_fields w)

abbrev pub placed_frame : Placed → List ℕ
placed_frame p = entry_frame p.position p.entry
