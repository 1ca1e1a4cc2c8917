-- Replies that show the same are refused alike.
use Rattle.tk_meeting.proofs.Terms.{◌≡◌, ℕ, List, [], ◌∷◌, map, ◌+◌, Option, Some, None, ◌∙◌, refl, ap, zero, suc, ap₂}
use Rattle.tk_meeting.proofs.Terms.{slice_index_or, slice_set, is_some, option_or, option_map, Shape, frames_in}
use Rattle.tk_meeting.proofs.Terms.{refusal, first_unread, first_other, other_number, OpenRead, TakeError, all_of, Face}
use Rattle.tk_meeting.proofs.Terms.{face, read_shown}
use Rattle.tk_client.specs.Client.{refusal_of}
use Rattle.tk_client.specs.declared.take_error.TakeError.TheVariants as fault

-- ---- lists of what may be missing

pub all-mapped : {X Y : Type 0} (f : X → Y) (xs : List (Option X)) →
    option_map (map f) (all_of xs) ≡ all_of (map (option_map f) xs)
all-mapped f [] = refl
all-mapped f (None ∷ xs) = refl
all-mapped {X} {Y} f (Some x ∷ xs) =
    behind (all_of xs) ∙ ap (option_map (λ ys. f x ∷ ys)) (all-mapped f xs)
  where
    behind : (o : Option (List X)) →
        option_map (map f) (option_map (λ ys. x ∷ ys) o) ≡ option_map (λ ys. f x ∷ ys) (option_map (map f) o)
    behind None = refl
    behind (Some ys) = refl

some-mapped : {X Y : Type 0} (f : X → Y) (o : Option X) → is_some (option_map f o) ≡ is_some o
some-mapped f None = refl
some-mapped f (Some x) = refl

pub there-mapped : {X Y : Type 0} (f : X → Y) (xs : List (Option X)) (i : ℕ) →
    is_some (slice_index_or (map (option_map f) xs) i None) ≡ is_some (slice_index_or xs i None)
there-mapped f [] i = refl
there-mapped f (x ∷ xs) zero = some-mapped f x
there-mapped f (x ∷ xs) (suc i) = there-mapped f xs i

pub set-mapped : {X Y : Type 0} (f : X → Y) (xs : List X) (i : ℕ) (x : X) →
    map f (slice_set xs i x) ≡ slice_set (map f xs) i (f x)
set-mapped f [] i x = refl
set-mapped f (y ∷ ys) zero x = refl
set-mapped f (y ∷ ys) (suc i) x = ap (λ zs. f y ∷ zs) (set-mapped f ys i x)

-- ---- refusals

unread_faces : ℕ → List Face → Option TakeError
unread_faces server [] = None
unread_faces server (x ∷ xs) = option_or (option_map (fault.Frame server) x.fault) (unread_faces (server + 1) xs)

other_face : ℕ → ℕ → ℕ → ℕ → Face → Option TakeError
other_face client turn epoch server x =
    option_or (other_number server client x.client)
    (option_or (other_number server turn x.turn) (other_number server epoch x.epoch))

other_faces : ℕ → ℕ → ℕ → ℕ → List Face → Option TakeError
other_faces client turn epoch server [] = None
other_faces client turn epoch server (x ∷ xs) =
    option_or (other_face client turn epoch server x) (other_faces client turn epoch (server + 1) xs)

unread-is : (shape : Shape) (server : ℕ) (replies : List (List ℕ)) →
    first_unread shape server replies ≡ unread_faces server (map (face shape) replies)
unfolding unread_faces
unread-is shape server [] = refl
unread-is shape server (x ∷ xs) =
    ap (option_or (option_map (fault.Frame server) (face shape x).fault)) (unread-is shape (server + 1) xs)

other-is : (shape : Shape) (client turn epoch server : ℕ) (replies : List (List ℕ)) →
    first_other client turn epoch server (frames_in shape replies)
    ≡ other_faces client turn epoch server (map (face shape) replies)
unfolding other_faces other_face
other-is shape client turn epoch server [] = refl
other-is shape client turn epoch server (x ∷ xs) =
    ap (option_or (other_face client turn epoch server (face shape x)))
    (other-is shape client turn epoch (server + 1) xs)

faces_refused : ℕ → ℕ → ℕ → List Face → Option TakeError
faces_refused client turn epoch faces =
    option_or (unread_faces 1 faces) (other_faces client turn epoch 1 faces)

refusal-is : (shape : Shape) (client turn epoch : ℕ) (replies : List (List ℕ)) →
    refusal shape client turn epoch replies ≡ faces_refused client turn epoch (map (face shape) replies)
unfolding faces_refused
refusal-is shape client turn epoch replies =
    ap₂ option_or (unread-is shape 1 replies) (other-is shape client turn epoch 1 replies)

pub refused_by : ℕ → List Face → Option (ℕ × ℕ) → Option TakeError
refused_by number faces None = None
refused_by number faces (Some read) = faces_refused number read.0 read.1 faces

-- why replies to an open read are refused follows from what they show
pub refusal-shown : (shape : Shape) (number : ℕ) (replies : List (List ℕ)) (read : Option OpenRead) →
    refusal_of shape number replies read ≡ refused_by number (map (face shape) replies) (read_shown read)
unfolding refused_by
refusal-shown shape number replies None = refl
refusal-shown shape number replies (Some read) = refusal-is shape number read.turn read.epoch replies
