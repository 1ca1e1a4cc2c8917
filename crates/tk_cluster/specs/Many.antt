-- Frames that a set answers together.
use Rattle.std.specs.Prelude.{◌≡◌, ℕ, List, [], ◌∷◌, map}
use Rattle.tk_shape.specs.declared.shape.Shape.{Shape}
use Rattle.tk_frames.specs.declared.read_frame.ReadFrame.{ReadFrame}
use Rattle.tk_replica.specs.declared.asker.Asker.{Asker}
use Rattle.tk_replica.specs.Replies.{asker_of, both_vectors}
use Rattle.tk_cluster.specs.Refusals.{SpellsRead}

-- the bytes spell this read, which names the epoch
pub record NamesEpoch (shape : Shape) (number : ℕ) (bytes : List ℕ) (r : ReadFrame) : Type 0 where
  pub spells : SpellsRead shape bytes r
  pub named : r.epoch ≡ number

-- frame by frame
abbrev pub AreNamed : Shape → ℕ → List (List ℕ) → List ReadFrame → Type 0
AreNamed shape number [] [] = Unit {0}
AreNamed shape number (f ∷ fs) (r ∷ rs) = NamesEpoch shape number f r × AreNamed shape number fs rs
AreNamed shape number (f ∷ fs) [] = ⊥
AreNamed shape number [] (r ∷ rs) = ⊥

-- the reads that the frames spell, all of which name the epoch: who asks, and the vectors
pub record AreReads (shape : Shape) (number : ℕ) (frames : List (List ℕ)) (askers : List Asker)
    (vectors : List (List ℕ)) : Type 0 where
  pub reads : List ReadFrame
  pub spelled : AreNamed shape number frames reads
  pub askers_are : askers ≡ map asker_of reads
  pub vectors_are : vectors ≡ both_vectors reads
