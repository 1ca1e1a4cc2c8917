-- Frames that are served together.
use Rattle.std.proofs.Common.{◌≡◌, ℕ, zero, suc, ◌<◌, inl, inr, refl, ap, ap₂, sym, ◌∙◌, arith}
use Rattle.std.proofs.Common.{subst, List, [], ◌∷◌, ◌++◌, length, take, map, Option, Some, None, append_assoc}
use Rattle.std.specs.Prelude.{slice_index_or}
use Rattle.std.specs.Option.{option_or}
use Rattle.std.specs.List.{AllByRecursion}
use Rattle.std.proofs.lemmas.List.{map-append}
use Rattle.tk_shape.specs.declared.shape.Shape.{Shape}
use Rattle.tk_frames.specs.declared.entry.Placed.{Placed}
use Rattle.tk_frames.specs.declared.read_frame.ReadFrame.{ReadFrame}
use Rattle.tk_frames.specs.Lists.{first_some}
use Rattle.tk_frames.specs.Ranges.{IsRead}
use Rattle.tk_frames.specs.Spelling.{reply_frame}
use Rattle.tk_replica.specs.declared.epoch.Epoch.{Epoch}
use Rattle.tk_replica.specs.declared.error.ServeError.{ServeError}
use Rattle.tk_replica.specs.Epochs.{IsEpochOf}
use Rattle.tk_replica.specs.Refusals.{serve_refusal, first_refusal, IsServeRefusal}
use Rattle.tk_replica.specs.Replica.{ReplicaView, StandsFor}
use Rattle.tk_replica.specs.Replies.{frame_over, reply_for, reply_bytes, IsServed, IsAsked, AreAsked}
use Rattle.tk_replica.proofs.Replying.{over-epoch, for-bytes}

-- ---- what is refused

module _ {X Y : Type 0} (f : X → Option Y) where
  -- after some that give nothing comes the one that gives y
  first-at : (xs : List X) (i : ℕ) (x : X) (y : Y) → first_some f (take i xs) ≡ None →
      i < length xs → x ≡ slice_index_or xs i x → f x ≡ Some y → first_some f xs ≡ Some y
  first-at [] i x y none low at is = absurd (omega (arith, low))
  first-at (z ∷ xs) zero x y none low at is =
      ap (λ o. option_or o (first_some f xs)) (ap f (sym at) ∙ is)
  first-at (z ∷ xs) (suc i) x y none low at is =
      elim (f z) as (λ o. option_or o (first_some f (take i xs)) ≡ None →
      option_or o (first_some f xs) ≡ Some y) [
        | None ↦ λ rest. first-at xs i x y rest (omega (arith, low)) at is
        | Some w ↦ λ h. absurd cc
      ] none

  -- one more that gives nothing
  pub first-push : (xs : List X) (x : X) → first_some f xs ≡ None → f x ≡ None →
      first_some f (xs ++ x ∷ []) ≡ None
  first-push [] x none is = ap (λ o. option_or o None) is
  first-push (z ∷ xs) x none is =
      elim (f z) as (λ o. option_or o (first_some f xs) ≡ None →
      option_or o (first_some f (xs ++ x ∷ [])) ≡ None) [
        | None ↦ λ rest. first-push xs x rest is
        | Some w ↦ λ h. absurd cc
      ] none

-- the first frame that is refused decides
pub refused-at : (s : ReplicaView) (frames : List (List ℕ)) (i : ℕ) (frame : List ℕ)
    (error : ServeError) → first_refusal s (take i frames) ≡ None → i < length frames →
    frame ≡ slice_index_or frames i frame → IsServeRefusal (serve_refusal s frame) error →
    IsServeRefusal (first_refusal s frames) error
refused-at s frames i frame error none low at refused = elim refused [
  | inl memory ↦ inl memory
  | inr is ↦ inr (first-at (serve_refusal s) frames i frame error none low at is)
]

-- ---- what is asked

pub asked-push : (s : ReplicaView) (fs : List (List ℕ)) (rs : List ReadFrame) (f : List ℕ)
    (r : ReadFrame) → AreAsked s fs rs → IsAsked s f r → AreAsked s (fs ++ f ∷ []) (rs ++ r ∷ [])
asked-push s [] [] f r asked one = (one, tt)
asked-push s (x ∷ fs) (y ∷ rs) f r asked one = (asked.0, asked-push s fs rs f r asked.1 one)
asked-push s (x ∷ fs) [] f r asked one = absurd asked
asked-push s [] (y ∷ rs) f r asked one = absurd asked

pub asked-served : (s : ReplicaView) (fs : List (List ℕ)) (rs : List ReadFrame) →
    AreAsked s fs rs → AllByRecursion (IsServed s) rs
asked-served s [] [] asked = tt
asked-served s (f ∷ fs) (r ∷ rs) asked = (asked.0.served, asked-served s fs rs asked.1)
asked-served s (f ∷ fs) [] asked = absurd asked
asked-served s [] (r ∷ rs) asked = absurd asked

pub served-in_range : (s : ReplicaView) (shape : Shape) (rs : List ReadFrame) → shape ≡ s.shape →
    AllByRecursion (IsServed s) rs → AllByRecursion (IsRead shape) rs
served-in_range s shape [] same served = tt
served-in_range s shape (r ∷ rs) same served = (
  subst (λ sh. IsRead sh r) (sym same) served.0.in_range,
  served-in_range s shape rs same served.1,
)

-- the frame of the reply to a read
abbrev pub frame_for : Shape → List Placed → ReadFrame → List ℕ
frame_for shape E r = reply_frame (reply_for shape E r)

pub asked-replies : (shape : Shape) (E : List Placed) (s : ReplicaView) (fs : List (List ℕ))
    (rs : List ReadFrame) → StandsFor shape E s → AreAsked s fs rs →
    map (frame_for shape E) rs ≡ map (reply_bytes shape E) fs
asked-replies shape E s [] [] is asked = refl
asked-replies shape E s (f ∷ fs) (r ∷ rs) is asked =
    ap₂ (λ (x : List ℕ) (xs : List (List ℕ)). x ∷ xs)
    (ap reply_frame (for-bytes shape E s f r is asked.0)) (asked-replies shape E s fs rs is asked.1)
asked-replies shape E s (f ∷ fs) [] is asked = absurd asked
asked-replies shape E s [] (r ∷ rs) is asked = absurd asked

-- ---- those in a row

module _ {X : Type 0} (P : X → Type 0) where
  pub all-front : (xs ys : List X) → AllByRecursion P (xs ++ ys) → AllByRecursion P xs
  all-front [] ys all = tt
  all-front (x ∷ xs) ys all = (all.0, all-front xs ys all.1)

  pub all-behind : (xs ys : List X) → AllByRecursion P (xs ++ ys) → AllByRecursion P ys
  all-behind [] ys all = all
  all-behind (x ∷ xs) ys all = all-behind xs ys all.1

row-replies : (shape : Shape) (E : List Placed) (e : ℕ) (epoch : Epoch) (row : List ReadFrame) →
    IsEpochOf shape E e epoch → AllByRecursion (λ r. r.epoch ≡ e) row →
    map (frame_over epoch) row ≡ map (frame_for shape E) row
row-replies shape E e epoch [] is named = refl
row-replies shape E e epoch (r ∷ row) is named =
    ap₂ (λ (x : List ℕ) (xs : List (List ℕ)). x ∷ xs)
    (ap reply_frame (over-epoch shape E e epoch r is named.0))
    (row-replies shape E e epoch row is named.1)

-- the replies to a row, and those to what is after it
pub row-served : (shape : Shape) (E : List Placed) (e : ℕ) (epoch : Epoch)
    (row behind rest : List ReadFrame) (old new all : List (List ℕ)) →
    IsEpochOf shape E e epoch → AllByRecursion (λ r. r.epoch ≡ e) row → rest ≡ row ++ behind →
    new ≡ old ++ map (frame_over epoch) row → old ++ map (frame_for shape E) rest ≡ all →
    new ++ map (frame_for shape E) behind ≡ all
row-served shape E e epoch row behind rest old new all is named split pushed so_far =
    let f = frame_for shape E in
    ap (λ (xs : List (List ℕ)). xs ++ map f behind)
    (pushed
    ∙ ap (λ (xs : List (List ℕ)). old ++ xs) (row-replies shape E e epoch row is named))
    ∙ append_assoc old (map f row) (map f behind)
    ∙ ap (λ (xs : List (List ℕ)). old ++ xs) (sym (ap (map f) split ∙ map-append f row behind))
    ∙ so_far
