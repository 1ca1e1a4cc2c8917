-- Frames of what a client sends, one after the other.
use Rattle.tk_meeting.proofs.Terms.{◌≡◌, ℕ, List, [], ◌∷◌, length, ◌+◌, ◌++◌, refl, ap, arith, WordBook, write_frame}
use Rattle.tk_meeting.proofs.Terms.{read_frame, Script}
use Rattle.tk_meeting.proofs.Canonical.{write_in, read_from}
use Rattle.tk_meeting.proofs.Pace.{Kind, Wrote, Asked}
use Rattle.tk_meeting.proofs.Standing.{frames_of}
use Rattle.tk_meeting.proofs.courses.Acting.{wrote_in, asked_in}

module _ (S : Script) (b : WordBook) (c j : ℕ) where
  same_turns : (g k l n : ℕ) (kinds : List Kind) → g ≡ l → k ≡ n →
      frames_of S b c j g k kinds ≡ frames_of S b c j l n kinds
  same_turns g k l n kinds e f = λ i. frames_of S b c j (e i) (f i) kinds

  -- the frames of what is sent later are those of the turns that follow
  pub frames-append : (g k l n : ℕ) (xs ys : List Kind) → g + wrote_in xs ≡ l → k + asked_in xs ≡ n →
      frames_of S b c j g k (xs ++ ys) ≡ frames_of S b c j g k xs ++ frames_of S b c j l n ys
  unfolding frames_of
  frames-append g k l n [] ys e f = same_turns g k l n ys (omega (arith, e)) (omega (arith, f))
  frames-append g k l n (Wrote ∷ xs) ys e f =
      ap (λ (fs : List (List ℕ)). write_frame (write_in S b c g) ∷ fs)
      (frames-append (g + 1) k l n xs ys (omega (arith, e)) f)
  frames-append g k l n (Asked ∷ xs) ys e f =
      ap (λ (fs : List (List ℕ)). read_frame (read_from S b c j k) ∷ fs)
      (frames-append g (k + 1) l n xs ys e (omega (arith, f)))

  -- where none is on its way nothing was sent
  pub frames-none : (g k : ℕ) (kinds : List Kind) → frames_of S b c j g k kinds ≡ [] → kinds ≡ []
  unfolding frames_of
  frames-none g k [] is = refl
  frames-none g k (Wrote ∷ kinds) is = absurd (cc is)
  frames-none g k (Asked ∷ kinds) is = absurd (cc is)

  pub frames-length : (g k : ℕ) (kinds : List Kind) →
      length (frames_of S b c j g k kinds) ≡ wrote_in kinds + asked_in kinds
  unfolding frames_of
  frames-length g k [] = refl
  frames-length g k (Wrote ∷ kinds) = omega (arith, frames-length (g + 1) k kinds)
  frames-length g k (Asked ∷ kinds) = omega (arith, frames-length g (k + 1) kinds)
