-- The sums for the two vectors of each read, side by side.
use Rattle.std.proofs.Common.{◌≡◌, ℕ, zero, suc, ◌*◌, refl, ap, ap₂, sym, ◌∙◌, arith, List, []}
use Rattle.std.proofs.Common.{◌∷◌, ◌++◌, length, map, append_assoc}
use Rattle.std.specs.Prelude.{All}
use Rattle.std.specs.List.{AllByRecursion}
use Rattle.tk_shape.specs.Lengths.{vector_len}
use Rattle.tk_frames.specs.declared.read_frame.ReadFrame.{ReadFrame}
use Rattle.tk_frames.specs.Ranges.{IsRead}
use Rattle.tk_frames.specs.Spelling.{reply_frame}
use Rattle.tk_replica.specs.declared.epoch.Epoch.{Epoch}
use Rattle.tk_replica.specs.declared.asker.Asker.{Asker}
use Rattle.tk_replica.specs.Replies.{sum_over, frame_over, asker_of, asker_reply, both_vectors, frames_with}
use Rattle.tk_shape.proofs.Offers.{vector_bits}

-- ---- the vectors

-- a vector of the right length has a bit for each block of an epoch
bits-fit : (epoch : Epoch) (v : List ℕ) → length v ≡ vector_len epoch.shape →
    8 * length v ≡ length epoch.blocks.blocks
bits-fit epoch v long =
    let counted = epoch.counted in
    omega (arith, counted, vector_bits epoch.shape, long)

pub vectors-fit : (epoch : Epoch) (rs : List ReadFrame) → AllByRecursion (IsRead epoch.shape) rs →
    All (λ v. 8 * length v ≡ length epoch.blocks.blocks) (both_vectors rs)
vectors-fit epoch [] all k d low = absurd (omega (arith, low))
vectors-fit epoch (r ∷ rs) all zero d low = bits-fit epoch r.first all.0.first_len
vectors-fit epoch (r ∷ rs) all (suc zero) d low = bits-fit epoch r.second all.0.second_len
vectors-fit epoch (r ∷ rs) all (suc (suc k)) d low =
    vectors-fit epoch rs all.1 k d (omega (arith, low))

-- one more read
pub both-push : (rs : List ReadFrame) (r : ReadFrame) →
    both_vectors (rs ++ r ∷ []) ≡ both_vectors rs ++ r.first ∷ r.second ∷ []
both-push [] r = refl
both-push (y ∷ rs) r = ap (λ (vs : List (List ℕ)). y.first ∷ y.second ∷ vs) (both-push rs r)

-- ---- the sums

-- two sums for each asker give the frames over the epoch
pub frames-over : (epoch : Epoch) (rs : List ReadFrame) →
    frames_with (map asker_of rs) (map (sum_over epoch) (both_vectors rs))
    ≡ map (frame_over epoch) rs
frames-over epoch [] = refl
frames-over epoch (r ∷ rs) =
    ap (λ (fs : List (List ℕ)). frame_over epoch r ∷ fs) (frames-over epoch rs)

-- there are two sums for each asker
pub two-for-each : (epoch : Epoch) (rs : List ReadFrame) →
    length (map (sum_over epoch) (both_vectors rs)) ≡ 2 * length (map asker_of rs)
two-for-each epoch [] = refl
two-for-each epoch (r ∷ rs) = omega (arith, two-for-each epoch rs)

-- one more of the frames, with the next two sums
pub frames-push : (left behind : List Asker) (asker : Asker) (first second : List ℕ)
    (sums rest old new all : List (List ℕ)) → left ≡ asker ∷ behind →
    sums ≡ first ∷ second ∷ rest → new ≡ old ++ reply_frame (asker_reply asker first second) ∷ [] →
    old ++ frames_with left sums ≡ all → new ++ frames_with behind rest ≡ all
frames-push left behind asker first second sums rest old new all one two pushed so_far =
    let frame = reply_frame (asker_reply asker first second) in
    ap (λ (xs : List (List ℕ)). xs ++ frames_with behind rest) pushed
    ∙ append_assoc old (frame ∷ []) (frames_with behind rest)
    ∙ ap₂ (λ (those : List Asker) (xs : List (List ℕ)). old ++ frames_with those xs) (sym one)
    (sym two)
    ∙ so_far
