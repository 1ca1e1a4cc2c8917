-- The kinds and lengths of frames on a link, where two groups have one shape and reads of the same kinds.
use Rattle.tk_meeting.proofs.Terms.{◌≡◌, ℕ, ◌≤◌, ◌<◌, min, List, [], ◌∷◌, map, flat_map, ◌+◌, cond, ◌++◌, Bool, true}
use Rattle.tk_meeting.proofs.Terms.{false, ◌∙◌, refl, ap, sym, zero, suc, arith, drop, ap₂, map-append, range_with_len}
use Rattle.tk_meeting.proofs.Terms.{◌&&◌, nat_le, turn_count, Shape, WordBook, IsBook, is_closing, phase_of, Script}
use Rattle.tk_meeting.proofs.Terms.{turns_read, epoch_bytes, closing_told, outline}
use Rattle.tk_meeting.proofs.Canonical.{read_from, whole, told_in_turn, stream}
use Rattle.tk_meeting.proofs.Pace.{Kind, Wrote, Asked}
use Rattle.tk_meeting.proofs.Standing.{frames_of}
use Rattle.tk_meeting.proofs.servers.Places.{read-turn}
use Rattle.tk_meeting.proofs.hidden.SameStreams.{AreOfRun}
use Rattle.tk_meeting.proofs.hidden.Outlines.{KindsAgree, same-reply, same-read_outline, same-epoch, same-write_outline}

pub outlines-drop : (n : ℕ) (xs ys : List (List ℕ)) → map outline xs ≡ map outline ys →
    map outline (drop n xs) ≡ map outline (drop n ys)
outlines-drop n xs ys same = dropped n xs ∙ ap (drop n) same ∙ sym (dropped n ys)
  where
    dropped : (n : ℕ) (xs : List (List ℕ)) → map outline (drop n xs) ≡ drop n (map outline xs)
    dropped zero xs = refl
    dropped (suc n) [] = refl
    dropped (suc n) (x ∷ xs) = dropped n xs

outlines-flat : (f h : ℕ → List (List ℕ)) (a n : ℕ) →
    ((k : ℕ) → k < a + n → map outline (f k) ≡ map outline (h k)) →
    map outline (flat_map f (range_with_len a n)) ≡ map outline (flat_map h (range_with_len a n))
outlines-flat f h a zero same = refl
outlines-flat f h a (suc n) same =
    map-append outline (f a) (flat_map f (range_with_len (a + 1) n))
    ∙ ap₂ (λ (xs ys : List (ℕ × ℕ)). xs ++ ys) (same a (omega arith))
    (outlines-flat f h (a + 1) n (λ k low. same k (omega (arith, low))))
    ∙ sym (map-append outline (h a) (flat_map h (range_with_len (a + 1) n)))

-- what a condition lets through has one outline
cond-alike : (x : Bool) (p q : List ℕ) → outline p ≡ outline q →
    map outline (cond x (p ∷ []) []) ≡ map outline (cond x (q ∷ []) [])
cond-alike true p q same = ap (λ (o : ℕ × ℕ). o ∷ []) same
cond-alike false p q same = refl

module _ (A B : Script) (b d : WordBook) (shapes : A.shape ≡ B.shape)
    (kinds_agree : KindsAgree A.shape b d) (served : IsBook A.shape b) (serves : IsBook B.shape d) where
  same-closing : (c j n g : ℕ) →
      map outline (closing_told A.shape (whole A b) n (read_from A b c j g).turn)
      ≡ map outline (closing_told B.shape (whole B d) n (read_from B d c j g).turn)
  same-closing c j n g =
      let turn = (read_from B d c j g).turn in
      let phase = phase_of A.shape turn in
      ap (λ (t : ℕ). map outline (closing_told A.shape (whole A b) n t))
      (read-turn A b c j g ∙ sym (read-turn B d c j g))
      ∙ cond-alike (is_closing A.shape turn && nat_le phase n) (epoch_bytes A.shape (whole A b) phase)
      (epoch_bytes A.shape (whole B d) phase) (same-epoch A.shape (whole A b) (whole B d) phase)
      ∙ ap (λ (shape : Shape). map outline (closing_told shape (whole B d) n turn)) shapes

  same-told : (c j n g : ℕ) →
      map outline (told_in_turn A b c j n g) ≡ map outline (told_in_turn B d c j n g)
  same-told c j n g =
      ap₂ (λ (x : ℕ × ℕ) (xs : List (ℕ × ℕ)). x ∷ xs)
      (same-reply A B b d (read_from A b c j g) (read_from B d c j g) shapes served serves)
      (same-closing c j n g)

  pub stream-outlines : (c j n k : ℕ) →
      map outline (stream A b c j n k) ≡ map outline (stream B d c j n k)
  unfolding stream
  stream-outlines c j n k =
      outlines-flat (told_in_turn A b c j n) (told_in_turn B d c j n) 0 (min k (turns_read A.shape n))
      (λ g low. same-told c j n g)
      ∙ ap (λ (shape : Shape). map outline (flat_map (told_in_turn B d c j n)
      (range_with_len 0 (min k (turns_read shape n))))) shapes

  pub frames-outlines : (c j g k : ℕ) (kinds : List Kind) → 1 ≤ j → j ≤ A.shape.servers →
      c < A.shape.clients → AreOfRun (turn_count A.shape) g k kinds →
      map outline (frames_of A b c j g k kinds) ≡ map outline (frames_of B d c j g k kinds)
  unfolding frames_of
  frames-outlines c j g k [] low high client turns = refl
  frames-outlines c j g k (Wrote ∷ kinds) low high client turns =
      ap₂ (λ (x : ℕ × ℕ) (xs : List (ℕ × ℕ)). x ∷ xs)
      (same-write_outline A B b d c g shapes served serves client turns.0)
      (frames-outlines c j (g + 1) k kinds low high client turns.1)
  frames-outlines c j g k (Asked ∷ kinds) low high client turns =
      ap₂ (λ (x : ℕ × ℕ) (xs : List (ℕ × ℕ)). x ∷ xs)
      (same-read_outline A B b d shapes kinds_agree served serves c j k low high turns.0 client)
      (frames-outlines c j g (k + 1) kinds low high client turns.1)
