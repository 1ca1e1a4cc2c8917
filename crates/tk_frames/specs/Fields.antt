-- What stands where in the bytes of a frame.
use Rattle.std.specs.Prelude.{ℕ, zero, suc, ◌*◌, List, [], ◌∷◌, take, drop, slice_index, ◌==◌, if◌then◌else◌}
use Rattle.std.specs.Int.{w32, w64, from_be_bytes}
use Rattle.tk_shape.specs.declared.shape.Shape.{Shape}
use Rattle.tk_shape.specs.Lengths.{vector_len, width}
use Rattle.tk_handle.specs.Handle.{expanded}
use Rattle.tk_frames.specs.declared.write_frame.WriteFrame.{WriteFrame}
use Rattle.tk_frames.specs.declared.read_frame.ReadFrame.{ReadFrame}
use Rattle.tk_frames.specs.declared.seeds.Seeds.{Seeds}
use Rattle.tk_frames.specs.declared.seeds.Seeds.TheVariants.{Plain, Seeded, Shown}
use Rattle.tk_frames.specs.declared.reply_frame.ReplyFrame.{ReplyFrame}
use Rattle.tk_frames.specs.declared.entry.Placed.{Placed}
use Rattle.tk_frames.specs.declared.entry.Entry.TheVariants.{Write, Mark}

-- the number of four bytes, and that of eight, from a place on
abbrev pub number_at : ℕ → List ℕ → ℕ
number_at place bytes = from_be_bytes w32 (take 4 (drop place bytes))

abbrev pub long_at : ℕ → List ℕ → ℕ
long_at place bytes = from_be_bytes w64 (take 8 (drop place bytes))

-- the first so many numbers of four bytes
unfoldable pub numbers : ℕ → List ℕ → List ℕ
numbers zero bytes = []
numbers (suc count) bytes = number_at 0 bytes ∷ numbers count (drop 4 bytes)

-- the write whose fields these are
abbrev pub write_in : Shape → List ℕ → WriteFrame
write_in shape fields =
    record {
      client = number_at 0 fields;
      turn = number_at 4 fields;
      first = number_at 8 fields;
      second = number_at 12 fields;
      hits = numbers shape.hits (drop 16 fields);
      block = drop (4 * shape.hits) (drop 16 fields);
    }

-- the seeds of a read of this kind, where this comes after its asker
abbrev pub seeds_by : ℕ → List ℕ → Seeds
seeds_by kind rest =
    if kind == 6 then Seeded rest else if kind == 7 then Shown (take 64 rest) else Plain

-- its vector for the first bucket, and for the second
abbrev pub first_by : Shape → Seeds → List ℕ → List ℕ
first_by shape Plain rest = take (vector_len shape) rest
first_by shape (Seeded seeds) rest = expanded (vector_len shape) (take 32 seeds)
first_by shape (Shown seeds) rest = take (vector_len shape) (drop 64 rest)

abbrev pub second_by : Shape → Seeds → List ℕ → List ℕ
second_by shape Plain rest = drop (vector_len shape) rest
second_by shape (Seeded seeds) rest = expanded (vector_len shape) (drop 32 seeds)
second_by shape (Shown seeds) rest = drop (vector_len shape) (drop 64 rest)

-- the read that these bytes spell, where its seeds are these
abbrev pub read_with : Shape → Seeds → List ℕ → ReadFrame
read_with shape seeds bytes =
    record {
      client = number_at 2 bytes;
      turn = number_at 6 bytes;
      epoch = number_at 10 bytes;
      first = first_by shape seeds (drop 14 bytes);
      second = second_by shape seeds (drop 14 bytes);
      seeds = seeds;
    }

abbrev pub read_in : Shape → List ℕ → ReadFrame
read_in shape bytes = read_with shape (seeds_by (slice_index bytes 0) (drop 14 bytes)) bytes

abbrev pub reply_in : Shape → List ℕ → ReplyFrame
reply_in shape bytes =
    record {
      client = number_at 2 bytes;
      turn = number_at 6 bytes;
      epoch = number_at 10 bytes;
      first = take (width shape) (drop 14 bytes);
      second = drop (width shape) (drop 14 bytes);
    }

abbrev pub placed_mark_in : List ℕ → Placed
placed_mark_in bytes = record { position = long_at 2 bytes; entry = Mark (number_at 10 bytes) }

abbrev pub placed_record_in : Shape → List ℕ → Placed
placed_record_in shape bytes = record { position = long_at 2 bytes; entry = Write (write_in shape (drop 10 bytes)) }

abbrev pub placed_in : Shape → List ℕ → Placed
placed_in shape bytes = if slice_index bytes 0 == 4 then placed_mark_in bytes else placed_record_in shape bytes
