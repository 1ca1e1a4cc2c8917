-- Vectors that lie one after the other, and the frames that carry them.
use Rattle.std.proofs.Common.{◌≡◌, refl, ap, ap₂, sym, ◌∙◌, subst, arith, Bool, true, false, cond}
use Rattle.std.proofs.Common.{ℕ, zero, suc, ◌+◌, ◌-◌, ◌*◌, ◌/◌, ◌%◌, ◌<◌, ◌≤◌, ltb-true}
use Rattle.std.proofs.Common.{List, [], ◌∷◌, ◌++◌, length, map, get_or, take, drop, append_assoc}
use Rattle.std.proofs.Common.{append-nil, length-append, Option}
use Rattle.std.specs.Prelude.{slice_index_or, nat_lt, ◌==◌, ◌&&◌}
use Rattle.std.specs.List.{range_with_len, flat_map, concat}
use Rattle.std.proofs.Math.Seq.{take-append_seam}
use Rattle.std.proofs.lemmas.List.{map-append, take_at, drop_at, take_all, take-append-le, drop-append-le, length-drop}
use Rattle.std.proofs.lemmas.List.FromFn.{map-range_with_len_more}
use Rattle.std.proofs.lemmas.Nat.{le-div, mod-mul-add}
use Rattle.std.proofs.Math.Nat.{mul-div_cancel}
use Rattle.tk_shape.specs.declared.shape.Shape.{Shape}
use Rattle.tk_shape.specs.Lengths.{seed_len, vector_len}
use Rattle.tk_kernel.specs.Pieces.{pieces, all_pieces, AllSized}
use Rattle.tk_kernel.proofs.Offers.{pieces-append, all_pieces-append, all_pieces_short, get_or-pieces}
use Rattle.tk_kernel.proofs.Offers.{concat-all_pieces, AllSized-all_pieces}
use Rattle.tk_bits.specs.Shares.{last_share, completed, shares, share_at}
use Rattle.tk_bits.proofs.Offers.{vector-at, seed-at}
use Rattle.tk_words.specs.Words.{WordBook, words_of, BothBuckets, joined, fresh_seeds, fresh_vectors, shows_vectors}
use Rattle.tk_frames.specs.declared.read_frame.ReadFrame.{ReadFrame}
use Rattle.tk_frames.specs.Spelling.{read_frame}
use Rattle.tk_frames.specs.declared.seeds.Seeds.{Seeds}
use Rattle.tk_frames.specs.declared.seeds.Seeds.TheVariants.{Plain, Seeded, Shown}
use Rattle.tk_client.specs.declared.query.Asker.{Asker}
use Rattle.tk_client.specs.Reader.{Target}
use Rattle.tk_client.specs.Asked.{pair_for, seeds_told, frame_with, frame_for, asked, AreForBoth}
use Rattle.tk_client.specs.Framing.{Cut, cut, frame_from}

-- ---- vectors have bytes

pub vector_some : (shape : Shape) → 0 < vector_len shape
vector_some shape = let low = shape.in_range.buckets_low in omega (arith, low)

pub whole_vectors : (count size : ℕ) → 0 < size → count * size % size ≡ 0
whole_vectors count size some =
    let same : count * size ≡ count * size + 0 = omega arith in
    ap (λ n. n % size) same ∙ mod-mul-add count size 0 some

-- ---- vectors one after the other

pub vector_at : (size i taken start : ℕ) (bytes : List ℕ) → 0 < size → taken ≡ size →
    start ≡ i * size →
    (i + 1) * size ≤ length bytes →
    take taken (drop start bytes) ≡ slice_index_or (all_pieces size bytes) i []
vector_at size i taken start bytes some whole from long =
    let low = le-div (i + 1) (length bytes) size some long in
    ap₂ (λ n k. take n (drop k bytes)) whole from
    ∙ sym (get_or-pieces size (length bytes / size) i bytes [] (omega (arith, low)))

-- a vector of those that lie before the last, and the last
pub vector_before : (size i taken start : ℕ) (drawn last : List ℕ) → 0 < size → taken ≡ size →
    start ≡ i * size → (i + 1) * size ≤ length drawn →
    take taken (drop start drawn) ≡ slice_index_or (all_pieces size (drawn ++ last)) i []
vector_before size i taken start drawn last some whole from long =
    let both = length-append drawn last in
    let front = drop-append-le start drawn last (omega (arith, from, long)) in
    let behind = length-drop start drawn in
    sym (ap (take taken) front
    ∙ take-append-le taken (drop start drawn) last (omega (arith, behind, whole, from, long)))
    ∙ vector_at size i taken start (drawn ++ last) some whole from (omega (arith, both, long))

pub vector_behind : (size i : ℕ) (drawn last : List ℕ) → 0 < size → length drawn ≡ i * size →
    length last ≡ size → last ≡ slice_index_or (all_pieces size (drawn ++ last)) i []
vector_behind size i drawn last some long whole =
    let both = length-append drawn last in
    sym (ap (take size) (drop_at drawn last (i * size) long) ∙ take_all size last (omega (arith, whole)))
    ∙ vector_at size i size (i * size) (drawn ++ last) some refl refl (omega (arith, both, long, whole))

all_pieces-last : (size : ℕ) (blocks : List (List ℕ)) (last : List ℕ) → 0 < size →
    AllSized size blocks → length last ≡ size →
    all_pieces size (concat blocks ++ last) ≡ blocks ++ last ∷ []
all_pieces-last size [] last some h e =
    ap (all_pieces size) (sym (append-nil last)) ∙ all_pieces-append size last [] some e
    ∙ ap (λ ps. last ∷ ps) (all_pieces_short size [] some)
all_pieces-last size (b ∷ bs) last some h e =
    ap (all_pieces size) (append_assoc b (concat bs) last)
    ∙ all_pieces-append size b (concat bs ++ last) some h.0
    ∙ ap (λ ps. b ∷ ps) (all_pieces-last size bs last some h.1 e)

-- the drawn vectors and then the last share are the completed vectors of a bucket
pub completed_behind : (size bucket : ℕ) (drawn_bytes last all : List ℕ) → 0 < size →
    length drawn_bytes % size ≡ 0 → length last ≡ size →
    last ≡ last_share size bucket (all_pieces size drawn_bytes) → all ≡ drawn_bytes ++ last →
    all_pieces size all ≡ completed size bucket (all_pieces size drawn_bytes)
completed_behind size bucket drawn_bytes last all some whole long is joined =
    let ps = all_pieces size drawn_bytes in
    ap (all_pieces size) joined
    ∙ ap (λ (bytes : List ℕ). all_pieces size (bytes ++ last))
    (sym (concat-all_pieces size drawn_bytes whole))
    ∙ all_pieces-last size ps last some (AllSized-all_pieces size drawn_bytes) long
    ∙ ap (λ v. ps ++ v ∷ []) is

-- what is written through a slice of a vector is what it has
pub written_back : {X : Type 0} (len : ℕ) (items new : List X) → len ≡ length new →
    take len (new ++ drop (length new) items) ≡ new
written_back len items new same =
    let rest = drop (length new) items in
    ap (λ n. take n (new ++ rest)) same ∙ take-append_seam new rest

-- ---- what is drawn

length-joined : (size : ℕ) (vs : List (List ℕ)) → AllSized size vs →
    length (flat_map (λ v. v) vs) ≡ length vs * size
length-joined size [] h = omega arith
length-joined size (v ∷ vs) h =
    let both = length-append v (flat_map (λ x. x) vs) in
    let rest = length-joined size vs h.1 in
    let here = h.0 in
    omega (arith, both, rest, here)

pieces-joined : (size : ℕ) (vs : List (List ℕ)) → AllSized size vs →
    pieces size (length vs) (flat_map (λ v. v) vs) ≡ vs
pieces-joined size [] h = refl
pieces-joined size (v ∷ vs) h =
    pieces-append size (length vs) v (flat_map (λ x. x) vs) h.0
    ∙ ap (λ ps. v ∷ ps) (pieces-joined size vs h.1)

-- bytes that hold what is drawn for one bucket, and those for the other
pub record AreHalves (shape : Shape) (size : ℕ) (both : BothBuckets) (front back : List ℕ)
    : Type 0 where
  pub front_is : pieces size (shape.servers - 1) front ≡ both.first
  pub back_is : pieces size (shape.servers - 1) back ≡ both.second

pub halves : (shape : Shape) (size : ℕ) (both : BothBuckets) (bytes front back : List ℕ)
    (each : ℕ) → AreForBoth shape size both → bytes ≡ joined both →
    each ≡ (shape.servers - 1) * size → front ≡ take each bytes → back ≡ drop each bytes →
    AreHalves shape size both front back
halves shape size both bytes front back each whole is_joined each_is front_is back_is =
    let first = flat_map (λ v. v) both.first in
    let second = flat_map (λ v. v) both.second in
    let long : length first ≡ each =
    length-joined size both.first whole.first_sized ∙ ap (λ n. n * size) whole.first_each
    ∙ sym each_is in
    let cut = λ (n : ℕ) (xs : List ℕ). pieces size n xs in
    record {
      front_is =
          ap₂ cut (sym whole.first_each)
          (front_is ∙ ap (take each) is_joined ∙ take_at first second each long)
          ∙ pieces-joined size both.first whole.first_sized;
      back_is =
          ap₂ cut (sym whole.second_each)
          (back_is ∙ ap (drop each) is_joined ∙ drop_at first second each long)
          ∙ pieces-joined size both.second whole.second_sized;
    }

-- as many whole pieces as there are
pub all-pieces : (size count : ℕ) (bytes : List ℕ) → 0 < size → length bytes ≡ count * size →
    all_pieces size bytes ≡ pieces size count bytes
all-pieces size count bytes some long =
    ap (λ n. pieces size n bytes) (ap (λ n. n / size) long ∙ mul-div_cancel count some)

-- ---- the frames

-- the frame that carries these two vectors
abbrev pub framed : Asker → List ℕ → List ℕ → Seeds → ReadFrame
framed a x y s =
    record { client = a.client; turn = a.turn; epoch = a.epoch; first = x; second = y; seeds = s }

-- a frame for server j is made of these two vectors and of what it is told
pub frame_of_parts : (shape : Shape) (shows : Bool) (a : Asker) (one other : Cut) (j : ℕ)
    (x y : List ℕ) (s : Seeds) → x ≡ one.vector j → y ≡ other.vector j →
    s ≡ seeds_told shape shows j (one.seed j ++ other.seed j) →
    framed a x y s ≡ frame_from shape shows a one other j
unfolding frame_from
frame_of_parts shape shows a one other j x y s x_is y_is s_is =
    λ i. framed a (x_is i) (y_is i) (s_is i)

-- one server further
pub frames_more : (each : ℕ → ReadFrame) (frames more : List ReadFrame) (server : ℕ) (f : ReadFrame) →
    1 ≤ server → f ≡ each server → more ≡ frames ++ f ∷ [] →
    frames ≡ map each (range_with_len 1 (server - 1)) →
    more ≡ map each (range_with_len 1 (server + 1 - 1))
frames_more each frames more server f low is pushed so_far =
    let count : server - 1 + 1 ≡ server + 1 - 1 = omega (arith, low) in
    pushed ∙ ap₂ (λ (fs : List ReadFrame) (x : ReadFrame). fs ++ x ∷ []) so_far is
    ∙ sym (map-range_with_len_more each 1 (server - 1) server (omega (arith, low)))
    ∙ ap (λ n. map each (range_with_len 1 n)) count

-- one server further, spelled
pub spelled_more : (each : ℕ → ReadFrame) (spelled more : List (List ℕ)) (server : ℕ) (f : ReadFrame)
    (bytes : List ℕ) → 1 ≤ server → f ≡ each server → bytes ≡ read_frame f →
    more ≡ spelled ++ bytes ∷ [] →
    spelled ≡ map read_frame (map each (range_with_len 1 (server - 1))) →
    more ≡ map read_frame (map each (range_with_len 1 (server + 1 - 1)))
spelled_more each spelled more server f bytes low is spells pushed so_far =
    let frames = map each (range_with_len 1 (server - 1)) in
    pushed
    ∙ ap₂ (λ (fs : List (List ℕ)) (x : List ℕ). fs ++ x ∷ []) so_far spells
    ∙ sym (map-append read_frame frames (f ∷ []))
    ∙ ap (λ (fs : List ReadFrame). map read_frame fs)
    (frames_more each frames (frames ++ f ∷ []) server f low is refl refl)

-- the seeds that server j is told, where it is told any
pub told-alike : (shape : Shape) (shows : Bool) (j : ℕ) (s t : List ℕ) →
    (j < shape.servers → s ≡ t) → seeds_told shape shows j s ≡ seeds_told shape shows j t
told-alike shape shows j s t same =
    elim (nat_lt j shape.servers) as
    (λ low. nat_lt j shape.servers ≡ low →
    cond (low && shape.format == 2) (cond shows (Shown s) (Seeded s)) Plain
    ≡ cond (low && shape.format == 2) (cond shows (Shown t) (Seeded t)) Plain) [
      | true ↦ λ e.
          ap (λ (x : List ℕ). cond (shape.format == 2) (cond shows (Shown x) (Seeded x)) Plain)
          (same (ltb-true j shape.servers e))
      | false ↦ λ e. refl
    ] refl

-- one bucket's part of a frame: the bytes of its seeds and of its vectors, and what they are
pub record IsCut (shape : Shape) (bucket : ℕ) (seeds drawn : List (List ℕ))
    (seed_bytes vector_bytes : List ℕ) : Type 0 where
  pub seeds_each : length seeds ≡ shape.servers - 1
  pub drawn_each : length drawn ≡ shape.servers - 1
  pub seeds_are : pieces (seed_len shape) (shape.servers - 1) seed_bytes ≡ seeds
  pub vectors_are : all_pieces (vector_len shape) vector_bytes
      ≡ completed (vector_len shape) bucket drawn

module _ (shape : Shape) (bucket : ℕ) (seeds drawn : List (List ℕ))
    (seed_bytes vector_bytes : List ℕ)
    (is : IsCut shape bucket seeds drawn seed_bytes vector_bytes) (j : ℕ) (low : 1 ≤ j) where
  vector-of : (cut shape seed_bytes vector_bytes).vector j
      ≡ (share_at (shares (vector_len shape) bucket seeds drawn) (j - 1)).vector
  vector-of =
      ap (λ vs. slice_index_or vs (j - 1) []) is.vectors_are
      ∙ sym (vector-at (vector_len shape) bucket (j - 1) seeds drawn)

  seed-of : j < shape.servers → (cut shape seed_bytes vector_bytes).seed j
      ≡ (share_at (shares (vector_len shape) bucket seeds drawn) (j - 1)).seed
  seed-of high =
      let place : j - 1 < shape.servers - 1 = omega (arith, low, high) in
      sym (get_or-pieces (seed_len shape) (shape.servers - 1) (j - 1) seed_bytes [] place)
      ∙ ap (λ ps. get_or ps (j - 1) []) is.seeds_are
      ∙ sym (seed-at (vector_len shape) bucket (j - 1) seeds drawn
      (omega (arith, place, is.drawn_each)))

-- what bytes say of server j is its frame
frame-is : (shape : Shape) (shows : Bool) (a : Asker) (pair : ℕ × ℕ) (seeds drawn : BothBuckets)
    (first_seeds second_seeds first second : List ℕ) →
    IsCut shape pair.0 seeds.first drawn.first first_seeds first →
    IsCut shape pair.1 seeds.second drawn.second second_seeds second → (j : ℕ) → 1 ≤ j →
    frame_from shape shows a (cut shape first_seeds first) (cut shape second_seeds second) j
    ≡ frame_with shape shows a.turn a.client a.epoch
    (shares (vector_len shape) pair.0 seeds.first drawn.first)
    (shares (vector_len shape) pair.1 seeds.second drawn.second)
    j
unfolding frame_from frame_with
frame-is shape shows a pair seeds drawn first_seeds second_seeds first second one other j low =
    let x = vector-of shape pair.0 seeds.first drawn.first first_seeds first one j low in
    let y = vector-of shape pair.1 seeds.second drawn.second second_seeds second other j low in
    let told = told-alike shape shows j _ _ (λ high.
    ap₂ (λ (s t : List ℕ). s ++ t)
    (seed-of shape pair.0 seeds.first drawn.first first_seeds first one j low high)
    (seed-of shape pair.1 seeds.second drawn.second second_seeds second other j low high)) in
    λ i. framed a (x i) (y i) (told i)

-- functions that agree on a range give the same list of it
map-agree : {A : Type 0} (f h : ℕ → A) (a n : ℕ) → ((k : ℕ) → a ≤ k → f k ≡ h k) →
    map f (range_with_len a n) ≡ map h (range_with_len a n)
map-agree f h a zero same = refl
map-agree {A} f h a (suc n) same =
    ap₂ (λ (x : A) (xs : List A). x ∷ xs) (same a (omega arith))
    (map-agree f h (a + 1) n (λ k low. same k (omega (arith, low))))

-- what is drawn over one shape is drawn over the same
pub fresh_joined : (fresh : Shape → BothBuckets) (own shape : Shape) (bytes : List ℕ) →
    own ≡ shape → bytes ≡ joined (fresh own) → bytes ≡ joined (fresh shape)
fresh_joined fresh own shape bytes same is_joined =
    is_joined ∙ ap (λ s. joined (fresh s)) same

-- the bytes of seeds and vectors of both buckets give the frames
pub frames_asked : (own shape : Shape) (b : WordBook) (a : Asker) (t : Option Target)
    (pair : ℕ × ℕ) (first_seeds second_seeds first second : List ℕ) →
    let seeds = fresh_seeds shape b a.turn a.client in
    let drawn = fresh_vectors shape b a.turn a.client in
    own ≡ shape → pair ≡ pair_for (words_of own b) a.turn a.client t →
    IsCut shape pair.0 seeds.first drawn.first first_seeds first →
    IsCut shape pair.1 seeds.second drawn.second second_seeds second →
    map (frame_from shape (shows_vectors b) a (cut shape first_seeds first) (cut shape second_seeds second))
    (range_with_len 1 shape.servers)
    ≡ asked shape b a.turn a.client a.epoch t
frames_asked own shape b a t pair first_seeds second_seeds first second same pair_is one other =
    let seeds = fresh_seeds shape b a.turn a.client in
    let drawn = fresh_vectors shape b a.turn a.client in
    let is_pair : pair ≡ pair_for (words_of shape b) a.turn a.client t =
    subst (λ s. pair ≡ pair_for (words_of s b) a.turn a.client t) same pair_is
    in
    map-agree
    (frame_from shape (shows_vectors b) a (cut shape first_seeds first) (cut shape second_seeds second))
    (frame_for shape b a.turn a.client a.epoch pair) 1 shape.servers
    (frame-is shape (shows_vectors b) a pair seeds drawn first_seeds second_seeds first second one other)
    ∙ ap (λ (p : ℕ × ℕ). map (frame_for shape b a.turn a.client a.epoch p) (range_with_len 1 shape.servers))
    is_pair
