-- Which frames are in range for a shape.
use Rattle.std.specs.Prelude.{◌≡◌, ℕ, ◌+◌, ◌*◌, ◌<◌, ◌≤◌, List, length, take, drop}
use Rattle.std.specs.List.{AllByRecursion}
use Rattle.tk_shape.specs.declared.shape.Shape.{Shape}
use Rattle.tk_shape.specs.Lengths.{turn_count, vector_len, width}
use Rattle.tk_handle.specs.Handle.{expanded}
use Rattle.tk_frames.specs.declared.write_frame.WriteFrame.{WriteFrame}
use Rattle.tk_frames.specs.declared.read_frame.ReadFrame.{ReadFrame}
use Rattle.tk_frames.specs.declared.seeds.Seeds.{Seeds}
use Rattle.tk_frames.specs.declared.seeds.Seeds.TheVariants.{Plain, Seeded, Shown}
use Rattle.tk_frames.specs.declared.reply_frame.ReplyFrame.{ReplyFrame}
use Rattle.tk_frames.specs.declared.entry.Placed.{Placed}
use Rattle.tk_frames.specs.declared.entry.Entry.{Entry}
use Rattle.tk_frames.specs.declared.entry.Entry.TheVariants.{Write, Mark}

pub record IsWrite (shape : Shape) (w : WriteFrame) : Type 0 where
  pub client : w.client < shape.clients
  pub turn : w.turn < turn_count shape
  pub first : w.first < shape.buckets
  pub second : w.second < shape.buckets
  pub hits : AllByRecursion (λ h. h < shape.filter_bits) w.hits
  pub hits_counted : length w.hits ≡ shape.hits
  pub block_len : length w.block ≡ shape.block

-- two seeds of a read, which there are in format 2 alone
pub record AreTwoSeeds (shape : Shape) (seeds : List ℕ) : Type 0 where
  pub format : shape.format ≡ 2
  pub long : length seeds ≡ 64

-- the seeds that a read has, if it has any
abbrev pub AreSeeds : Shape → Seeds → Type 0
AreSeeds shape Plain = Unit {0}
AreSeeds shape (Seeded seeds) = AreTwoSeeds shape seeds
AreSeeds shape (Shown seeds) = AreTwoSeeds shape seeds

-- two vectors are what two seeds expand to
pub record Expand (seeds first second : List ℕ) : Type 0 where
  pub first_is : first ≡ expanded (length first) (take 32 seeds)
  pub second_is : second ≡ expanded (length second) (drop 32 seeds)

-- vectors that are told by seeds alone are what these expand to
abbrev pub AreTold : Seeds → List ℕ → List ℕ → Type 0
AreTold Plain first second = Unit {0}
AreTold (Seeded seeds) first second = Expand seeds first second
AreTold (Shown seeds) first second = Unit {0}

pub record IsRead (shape : Shape) (r : ReadFrame) : Type 0 where
  pub client : r.client < shape.clients
  pub turn : r.turn < turn_count shape
  pub epoch : r.epoch ≤ shape.phases
  pub first_len : length r.first ≡ vector_len shape
  pub second_len : length r.second ≡ vector_len shape
  pub seeds : AreSeeds shape r.seeds
  pub told : AreTold r.seeds r.first r.second

pub record IsReply (shape : Shape) (r : ReplyFrame) : Type 0 where
  pub client : r.client < shape.clients
  pub turn : r.turn < turn_count shape
  pub epoch : r.epoch ≤ shape.phases
  pub first_len : length r.first ≡ width shape
  pub second_len : length r.second ≡ width shape

abbrev pub IsEntry : Shape → Entry → Type 0
IsEntry shape (Write w) = IsWrite shape w
IsEntry shape (Mark e) = (1 ≤ e) × (e ≤ shape.phases)

pub record IsPlaced (shape : Shape) (p : Placed) : Type 0 where
  pub position_low : 1 ≤ p.position
  pub position_high : p.position ≤ shape.clients * turn_count shape + shape.phases
  pub entry : IsEntry shape p.entry
