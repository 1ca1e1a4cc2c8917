-- The member of a client at a pace: all of it is told by the pace and by what was said to it.
use Rattle.tk_meeting.proofs.Terms.{◌≡◌, ℕ, List, [], ◌∷◌, length, map, ◌+◌, cond, ◌-◌, replicate, Option, Some, None}
use Rattle.tk_meeting.proofs.Terms.{◌∙◌, refl, ap, sym, zero, suc, subst, ap₂, range_with_len, WordBook, words_of}
use Rattle.tk_meeting.proofs.Terms.{Script, new_client, ClientState, Reader, Writing, OpenRead, writing_before}
use Rattle.tk_meeting.proofs.Terms.{writes_of, reader_before, follows_of, ToldMarks, MemberState, new_member, Saying}
use Rattle.tk_meeting.proofs.Canonical.{serial, with_sayings, telling_of}
use Rattle.tk_meeting.proofs.Pace.{Pace, first_pace, settled}
use Rattle.tk_meeting.proofs.Standing.{IsAt, read_of, reply_there}

-- what it tells of epochs and has of replies
abbrev pub tellings_at : Script → WordBook → Pace → List ToldMarks
tellings_at S b p = map (λ j. telling_of S b (p.epochs j)) (range_with_len 1 S.shape.servers)

abbrev pub replies_at : Script → WordBook → ℕ → Pace → List (Option (List ℕ))
replies_at S b c p = map (reply_there S b c p) (range_with_len 1 S.shape.servers)

-- what it has to write, what it knows as a reader, and its read
abbrev pub writing_at : Script → ℕ → Pace → List Saying → Writing
writing_at S c p saids = with_sayings saids (writing_before S c p.written)

abbrev pub reader_at : Script → WordBook → ℕ → Pace → Reader
reader_at S b c p = reader_before S (words_of S.shape b) (serial S) c (settled p)

abbrev pub open_at : Script → WordBook → ℕ → Pace → Option OpenRead
open_at S b c p = cond p.is_open (Some (read_of S b c (p.asked - 1))) None

abbrev pub client_at : Script → WordBook → ℕ → Pace → List Saying → ClientState
client_at S b c p saids =
    record {
      shape = S.shape;
      number = c;
      writing = writing_at S c p saids;
      reader = reader_at S b c p;
      read = open_at S b c p;
    }

abbrev pub member_at : Script → WordBook → ℕ → Pace → List Saying → MemberState
member_at S b c p saids =
    record {
      client = client_at S b c p saids;
      written = p.written;
      asked = p.asked;
      ticks = p.ticks;
      ahead = p.ahead;
      told = tellings_at S b p;
      replies = replies_at S b c p;
    }

-- a member that stands so is that one
pub at-is : {S : Script} {b : WordBook} {c : ℕ} {p : Pace} {saids : List Saying} {m : MemberState} →
    IsAt S b c p saids m → m ≡ member_at S b c p saids
at-is at =
    λ i. record {
      client =
          record {
            shape = at.shape_is i;
            number = at.number_is i;
            writing = at.writing_is i;
            reader = at.reader_is i;
            read = at.read_is i;
          };
      written = at.written_is i;
      asked = at.asked_is i;
      ticks = at.ticks_is i;
      ahead = at.ahead_is i;
      told = at.told_is i;
      replies = at.replies_is i;
    }

pub is-at : (S : Script) (b : WordBook) (c : ℕ) (p : Pace) (saids : List Saying) →
    IsAt S b c p saids (member_at S b c p saids)
is-at S b c p saids =
    record {
      shape_is = refl;
      number_is = refl;
      writing_is = refl;
      reader_is = refl;
      read_is = refl;
      written_is = refl;
      asked_is = refl;
      ticks_is = refl;
      ahead_is = refl;
      told_is = refl;
      replies_is = refl;
    }

pub at-from : {S : Script} {b : WordBook} {c : ℕ} {p : Pace} {saids : List Saying} {m : MemberState} →
    m ≡ member_at S b c p saids → IsAt S b c p saids m
at-from {S} {b} {c} {p} {saids} e = subst (IsAt S b c p saids) (sym e) (is-at S b c p saids)

-- ---- before anything

pub all-same : {X Y : Type 0} (f : X → Y) (y : Y) → ((x : X) → f x ≡ y) → (xs : List X) →
    map f xs ≡ replicate (length xs) y
all-same f y same [] = refl
all-same f y same (x ∷ xs) = ap₂ (λ z zs. z ∷ zs) (same x) (all-same f y same xs)

pub length-range : (a n : ℕ) → length (range_with_len a n) ≡ n
length-range a zero = refl
length-range a (suc n) = ap suc (length-range (a + 1) n)

pub all-same-range : {Y : Type 0} (f : ℕ → Y) (y : Y) → ((k : ℕ) → f k ≡ y) → (a n : ℕ) →
    map f (range_with_len a n) ≡ replicate n y
all-same-range f y same a n =
    all-same f y same (range_with_len a n) ∙ ap (λ k. replicate k y) (length-range a n)

-- a client to which nothing was said and that was told nothing
pub first-at : (S : Script) (b : WordBook) (c : ℕ) →
    IsAt S b c first_pace [] (new_member (new_client S.shape c (writes_of S c) (follows_of S c)))
unfolding with_sayings writing_before reader_before
first-at S b c =
    record {
      shape_is = refl;
      number_is = refl;
      writing_is = refl;
      reader_is = refl;
      read_is = refl;
      written_is = refl;
      asked_is = refl;
      ticks_is = refl;
      ahead_is = refl;
      told_is =
          sym (all-same-range (λ j. telling_of S b (first_pace.epochs j)) [] (λ j. refl) 1
          S.shape.servers);
      replies_is =
          sym (all-same-range (reply_there S b c first_pace) None (λ j. refl) 1 S.shape.servers);
    }
