-- The words that clients use: a book of keys, or a tape of drawn bytes.
use Rattle.std.specs.Prelude.{◌≡◌, ℕ, ◌+◌, ◌-◌, ◌*◌, ◌%◌, ◌==◌, Bool, true, false, cond, List, [], ◌++◌, length, take, drop, map}
use Rattle.std.specs.Prelude.{slice_index_or, flat_map, Option}
use Rattle.std.specs.List.{range_with_len}
use Rattle.tk_shape.specs.declared.shape.Shape.{Shape}
use Rattle.tk_handle.specs.declared.handle.Handle.{Handle}
use Rattle.tk_kernel.specs.Pieces.{pieces}
use Rattle.tk_words.specs.declared.log_seeds.LogSeeds.{LogSeeds}
use Rattle.tk_words.specs.Pieces.{piece, word_at_byte}
use Rattle.tk_shape.specs.Lengths.{turn_count, seed_len, vector_len, piece_len, cell_len, read_cell_len, tape_len}
use Rattle.tk_handle.specs.Handle.{word, key_bytes, expanded}
use Rattle.tk_choice.specs.Choice.{keyed_pair, keyed_hits}
use Rattle.tk_seal.specs.Seal.{sealed_with, opened_with, keyed_pad, keyed_tag}

-- where words come from: each log's handle and each client's seed, or a tape
pub data WordBook : Type 0 where
  keyed : (handles : List Handle) → (seeds : List (List ℕ)) → WordBook
  drawn : (tape : List ℕ) → WordBook

-- the book serves a shape: it has each log's handle and each client's seed, or a tape of the shape's length
abbrev pub IsBook : Shape → WordBook → Type 0
IsBook shape (keyed handles seeds) = (length handles ≡ shape.logs) × (length seeds ≡ shape.clients)
IsBook shape (drawn tape) = length tape ≡ tape_len shape

-- ---- the cells of a tape: the write cells by turn and client, the read cells likewise, the keyed cells by log and number

abbrev pub write_cells_len : Shape → ℕ
write_cells_len shape = turn_count shape * shape.clients * cell_len shape

abbrev pub read_cells_len : Shape → ℕ
read_cells_len shape = turn_count shape * shape.clients * read_cell_len shape

-- a tape's three parts
abbrev pub write_part : Shape → List ℕ → List ℕ
write_part shape tape = take (write_cells_len shape) tape

abbrev pub read_part : Shape → List ℕ → List ℕ
read_part shape tape = take (read_cells_len shape) (drop (write_cells_len shape) tape)

abbrev pub keyed_part : Shape → List ℕ → List ℕ
keyed_part shape tape = drop (write_cells_len shape + read_cells_len shape) tape

abbrev pub write_cell : Shape → List ℕ → ℕ → ℕ → List ℕ
write_cell shape tape g c = piece (cell_len shape) (g * shape.clients + c) (write_part shape tape)

abbrev pub read_cell : Shape → List ℕ → ℕ → ℕ → List ℕ
read_cell shape tape g c = piece (read_cell_len shape) (g * shape.clients + c) (read_part shape tape)

abbrev pub keyed_cell : Shape → List ℕ → ℕ → ℕ → List ℕ
keyed_cell shape tape log s = piece (cell_len shape) (log * turn_count shape + s) (keyed_part shape tape)

-- ---- what a write cell or a keyed cell has

abbrev pub cell_pair : Shape → List ℕ → ℕ × ℕ
cell_pair shape cell = (word_at_byte 0 cell % shape.buckets, word_at_byte 4 cell % shape.buckets)

abbrev pub cell_hits : Shape → List ℕ → List ℕ
cell_hits shape cell = map (λ i. word_at_byte (8 + 4 * i) cell % shape.filter_bits) (range_with_len 0 shape.hits)

-- the bytes in front of a cell's block
abbrev pub cell_words : Shape → List ℕ → List ℕ
cell_words shape cell = take (8 + 4 * shape.hits) cell

abbrev pub cell_block : Shape → List ℕ → List ℕ
cell_block shape cell = drop (8 + 4 * shape.hits) cell

abbrev pub cell_pad : Shape → List ℕ → List ℕ
cell_pad shape cell = take (shape.block - 16) (cell_block shape cell)

abbrev pub cell_tag : Shape → List ℕ → List ℕ
cell_tag shape cell = drop (shape.block - 16) (cell_block shape cell)

-- the block that a text is sealed to under a cell: the tag doesn't depend on the text
abbrev pub cell_sealed : Shape → List ℕ → List ℕ → List ℕ
cell_sealed shape cell text = sealed_with (cell_pad shape cell) (λ masked. cell_tag shape cell) text

-- ---- what a read cell has

-- for each of the two buckets of a read something for each server but the last
pub record BothBuckets : Type 0 where
  pub first : List (List ℕ)
  pub second : List (List ℕ)

-- bytes cut into as many as a read has, of one size: the first bucket's, and then the second's
abbrev pub cut_for_both : Shape → ℕ → List ℕ → BothBuckets
cut_for_both shape size bytes =
    let each = shape.servers - 1 in
    record {
      first = pieces size each bytes;
      second = pieces size each (drop (each * size) bytes);
    }

-- what becomes of each of them
abbrev pub for_each : (List ℕ → List ℕ) → BothBuckets → BothBuckets
for_each f both = record { first = map f both.first; second = map f both.second }

-- all of them, one after the other
abbrev pub joined : BothBuckets → List ℕ
joined both = flat_map (λ v. v) both.first ++ flat_map (λ v. v) both.second

-- the pieces of a read cell
abbrev pub cell_pieces : Shape → List ℕ → BothBuckets
cell_pieces shape cell = cut_for_both shape (piece_len shape) (drop 8 cell)

-- the seed of a piece, and the vector after it
abbrev pub piece_seed : Shape → List ℕ → List ℕ
piece_seed shape p = take (seed_len shape) p

abbrev pub piece_vector : Shape → List ℕ → List ℕ
piece_vector shape p = drop (seed_len shape) p

-- ---- what a book gives for a number s of a log

abbrev pub blank_handle : Handle
blank_handle = record { id = 0; seed1 = []; seed2 = []; key = [] }

abbrev pub handle_at : List Handle → ℕ → Handle
handle_at handles log = slice_index_or handles log blank_handle

unfoldable pub pair_of : Shape → WordBook → ℕ → ℕ → ℕ × ℕ
pair_of shape (keyed handles seeds) log s = keyed_pair shape.buckets (handle_at handles log) s
pair_of shape (drawn tape) log s = cell_pair shape (keyed_cell shape tape log s)

unfoldable pub hits_of : Shape → WordBook → ℕ → ℕ → List ℕ
hits_of shape (keyed handles seeds) log s = keyed_hits shape.filter_bits shape.hits (handle_at handles log) s
hits_of shape (drawn tape) log s = cell_hits shape (keyed_cell shape tape log s)

unfoldable pub pad_of : Shape → WordBook → ℕ → ℕ → List ℕ
pad_of shape (keyed handles seeds) log s = keyed_pad shape.block (handle_at handles log) s
pad_of shape (drawn tape) log s = cell_pad shape (keyed_cell shape tape log s)

unfoldable pub tag_of : Shape → WordBook → ℕ → ℕ → List ℕ → List ℕ
tag_of shape (keyed handles seeds) log s masked = keyed_tag (handle_at handles log) s masked
tag_of shape (drawn tape) log s masked = cell_tag shape (keyed_cell shape tape log s)

-- the buckets of a number s that come from these seeds
abbrev pub pair_under : ℕ → LogSeeds → ℕ → ℕ × ℕ
pair_under buckets seeds s = (word seeds.first s 0 % buckets, word seeds.second s 0 % buckets)

-- the filter positions of a number s that come from a seed
abbrev pub hits_under : ℕ → ℕ → List ℕ → ℕ → List ℕ
hits_under bits count seed s = map (λ i. word seed s i % bits) (range_with_len 1 count)

-- ---- what a book gives afresh for a client's turn

-- what a write holds beside its client and turn
pub record FreshWrite : Type 0 where
  pub first : ℕ
  pub second : ℕ
  pub hits : List ℕ
  pub block : List ℕ

abbrev pub seed_at : List (List ℕ) → ℕ → List ℕ
seed_at seeds c = slice_index_or seeds c []

-- a write cell as it stands
abbrev pub cell_write : Shape → List ℕ → FreshWrite
cell_write shape cell =
    record {
      first = (cell_pair shape cell).0;
      second = (cell_pair shape cell).1;
      hits = cell_hits shape cell;
      block = cell_block shape cell;
    }

abbrev pub keyed_write : Shape → List ℕ → ℕ → FreshWrite
keyed_write shape seed g =
    let stream = 2 * g in
    record {
      first = word seed stream 0 % shape.buckets;
      second = word seed stream 1 % shape.buckets;
      hits = map (λ i. word seed stream i % shape.filter_bits) (range_with_len 2 shape.hits);
      block = key_bytes seed stream 16 shape.block;
    }

unfoldable pub fresh_write : Shape → WordBook → ℕ → ℕ → FreshWrite
fresh_write shape (keyed handles seeds) g c = keyed_write shape (seed_at seeds c) g
fresh_write shape (drawn tape) g c = cell_write shape (write_cell shape tape g c)

-- the two buckets of a dummy read
unfoldable pub fresh_pair : Shape → WordBook → ℕ → ℕ → ℕ × ℕ
fresh_pair shape (keyed handles seeds) g c =
    (word (seed_at seeds c) (2 * g + 1) 0 % shape.buckets, word (seed_at seeds c) (2 * g + 1) 1 % shape.buckets)
fresh_pair shape (drawn tape) g c = cell_pair shape (read_cell shape tape g c)

-- what a client's seed gives for both buckets of a read, of one size
abbrev pub keyed_for_both : Shape → ℕ → List ℕ → ℕ → BothBuckets
keyed_for_both shape size seed g =
    cut_for_both shape size (key_bytes seed (2 * g + 1) 16 (2 * (shape.servers - 1) * size))

-- the seeds of a read, which are empty in format 1
unfoldable pub fresh_seeds : Shape → WordBook → ℕ → ℕ → BothBuckets
fresh_seeds shape (keyed handles seeds) g c = keyed_for_both shape (seed_len shape) (seed_at seeds c) g
fresh_seeds shape (drawn tape) g c = for_each (piece_seed shape) (cell_pieces shape (read_cell shape tape g c))

-- the vectors of a read: keyed ones are those that the seeds expand to in format 2
unfoldable pub fresh_vectors : Shape → WordBook → ℕ → ℕ → BothBuckets
fresh_vectors shape (keyed handles seeds) g c =
    cond (shape.format == 2)
    (for_each (expanded (vector_len shape)) (keyed_for_both shape (seed_len shape) (seed_at seeds c) g))
    (keyed_for_both shape (vector_len shape) (seed_at seeds c) g)
fresh_vectors shape (drawn tape) g c = for_each (piece_vector shape) (cell_pieces shape (read_cell shape tape g c))

-- whether vectors are shown beside their seeds: those of a tape are, since they aren't what the seeds expand to
abbrev pub shows_vectors : WordBook → Bool
shows_vectors (keyed handles seeds) = false
shows_vectors (drawn tape) = true

-- ---- all words of a book but the seeds and vectors of reads: what is said, sent, shown and read depends on these alone

pub record BookWords : Type 0 where
  pub pair : ℕ → ℕ → ℕ × ℕ
  pub hits : ℕ → ℕ → List ℕ
  pub pad : ℕ → ℕ → List ℕ
  pub tag : ℕ → ℕ → List ℕ → List ℕ
  pub fresh_write : ℕ → ℕ → FreshWrite
  pub fresh_pair : ℕ → ℕ → ℕ × ℕ

abbrev pub words_of : Shape → WordBook → BookWords
words_of shape b =
    record {
      pair = pair_of shape b;
      hits = hits_of shape b;
      pad = pad_of shape b;
      tag = tag_of shape b;
      fresh_write = Rattle.tk_words.specs.Words.fresh_write shape b;
      fresh_pair = Rattle.tk_words.specs.Words.fresh_pair shape b;
    }

-- the block that a text is sealed to as number s of a log
abbrev pub sealed : BookWords → ℕ → ℕ → List ℕ → List ℕ
sealed w log s text = sealed_with (w.pad log s) (w.tag log s) text

-- the text that seals to a block, where there is one
unfoldable pub opened : BookWords → ℕ → ℕ → List ℕ → Option (List ℕ)
opened w log s block = opened_with (w.pad log s) (w.tag log s) block
