-- What was said to a client only grows, at the end of what was said for the turn that it writes next.
use Rattle.tk_meeting.proofs.Terms.{◌≡◌, ℕ, ◌≤◌, ◌<◌, List, [], ◌∷◌, ◌==◌, cond, ◌++◌, Bool, true, Option, Some, None}
use Rattle.tk_meeting.proofs.Terms.{Result, Ok, ◌∙◌, refl, ap, sym, arith, subst, append-nil, ◌⊎◌, append_assoc, ne_eqb}
use Rattle.tk_meeting.proofs.Terms.{◌≢◌, Err, ⊎_elim, Shape, WordBook, SayError, ActedMember, served, heard, Fault, HostWord}
use Rattle.tk_meeting.proofs.Terms.{Say, Event, comes_down, happens, after_events, hears, noted, say_fault, comes_up}
use Rattle.tk_meeting.proofs.Terms.{Saying, changed, Meeting, member_went}
use Rattle.tk_meeting.proofs.telling.Rising.{RisesIn, heard-rises, served-rises}
use Rattle.tk_meeting.proofs.telling.Ways.{event-has}
use Rattle.tk_meeting.proofs.courses.Picks.{at-place}

-- A client that wrote g turns wrote n turns later. What was said for earlier turns stays; for turn g more
-- may be said; and nothing was said for a turn that is still to come.
pub record GrowsOf (g n : ℕ) (said later : ℕ → List Saying) : Type 0 where
  pub rises : g ≤ n
  pub past : (k : ℕ) → k < g → later k ≡ said k
  pub more : List Saying
  pub here : later g ≡ said g ++ more
  pub behind : (k : ℕ) → n < k → later k ≡ said k

abbrev pub Grows : Meeting → Meeting → Type 0
Grows m n =
    (c : ℕ) → GrowsOf (m.members c).written (n.members c).written (m.said c) (n.said c)

-- ---- none, and one after the other

grows_of-none : (g n : ℕ) (said : ℕ → List Saying) → g ≤ n → GrowsOf g n said said
grows_of-none g n said h =
    record {
      rises = h;
      past = λ k low. refl;
      more = [];
      here = sym (append-nil (said g));
      behind = λ k high. refl;
    }

pub grows-none : (m : Meeting) → Grows m m
grows-none m c = grows_of-none (m.members c).written (m.members c).written (m.said c) (omega arith)

-- what was said for turn g after both
here-next : (g n : ℕ) (before mid after front back : List Saying) (stays : g < n → after ≡ mid) →
    (g ≡ n → after ≡ mid ++ back) → mid ≡ before ++ front → g ≤ n →
    (more : List Saying) × (after ≡ before ++ more)
here-next g n before mid after front back stays grows is low =
    ⊎_elim
    (λ (h : g < n). (front, stays h ∙ is))
    (λ (h : g ≡ n). (
      front ++ back,
      grows h ∙ ap (λ xs. xs ++ back) is ∙ append_assoc before front back,
    ))
    (cases g n low)
  where
    cases : (g n : ℕ) → g ≤ n → (g < n) ⊎ (g ≡ n)
    cases g n h = grind arith

grows_of-next : (g n k : ℕ) (said mid later : ℕ → List Saying) → GrowsOf g n said mid →
    GrowsOf n k mid later → GrowsOf g k said later
grows_of-next g n k said mid later a b =
    let at : g ≡ n → later g ≡ mid g ++ b.more
    = λ (e : g ≡ n). subst (λ (x : ℕ). later x ≡ mid x ++ b.more) (sym e) b.here in
    let next : (more : List Saying) × (later g ≡ said g ++ more)
    = here-next g n (said g) (mid g) (later g) a.more b.more (λ (h : g < n). b.past g h) at a.here a.rises in
    record {
      rises = omega (arith, a.rises, b.rises);
      past = λ i low. let low_mid : i < n = omega (arith, low, a.rises) in b.past i low_mid ∙ a.past i low;
      more = next.0;
      here = next.1;
      behind = λ i high. let high_mid : n < i = omega (arith, high, b.rises) in b.behind i high ∙ a.behind i high_mid;
    }

pub grows-next : (l m n : Meeting) → Grows l m → Grows m n → Grows l n
grows-next l m n a b c =
    grows_of-next (l.members c).written (m.members c).written (n.members c).written (l.said c) (m.said c)
    (n.said c) (a c) (b c)

-- ---- a text is noted

-- for one turn and no other
noted-of : (g : ℕ) (y : Saying) (said : ℕ → List Saying) →
    GrowsOf g g said (changed g (said g ++ y ∷ []) said)
noted-of g y said =
    record {
      rises = omega arith;
      past = λ k low. other k (omega (arith, low));
      more = y ∷ [];
      here = same (g == g) (eqb-same g);
      behind = λ k high. other k (omega (arith, high));
    }
  where
    eqb-same : (g : ℕ) → (g == g) ≡ true
    eqb-same g = search arith

    same : (t : Bool) → t ≡ true → cond t (said g ++ y ∷ []) (said g) ≡ said g ++ y ∷ []
    same t e = rw e refl

    other : (k : ℕ) → k ≢ g → changed g (said g ++ y ∷ []) said k ≡ said k
    other k ne = rw (ne_eqb k g ne) refl

pub grows-noted : (c : ℕ) (y : Saying) (o : Option SayError) (m : Meeting) → Grows m (noted c y o m)
grows-noted c y (Some error) m d = grows-none m d
grows-noted c y None m d =
    let g = (m.members c).written in
    at-place (λ x t.
    GrowsOf (m.members x).written (m.members x).written (m.said x)
    (cond t (changed g (m.said c g ++ y ∷ []) (m.said c)) (m.said x))) c d (noted-of g y (m.said c))
    (λ _. grows_of-none (m.members d).written (m.members d).written (m.said d) (omega arith))

-- ---- a member goes on

pub grows-went : (m : Meeting) (c : ℕ) (r : Result ActedMember Fault) → RisesIn (m.members c).written r →
    Grows m (member_went m c r)
grows-went m c (Ok t) h d =
    grows_of-none (m.members d).written (changed c t.member m.members d).written (m.said d)
    (at-place (λ x k. (m.members x).written ≤ (cond k t.member (m.members x)).written) c d h (λ _. omega arith))
grows-went m c (Err fault) h d = grows-none m d

-- the host of a client tells it something
pub grows-hears : (b : ℕ → WordBook) (m : Meeting) (c : ℕ) (word : HostWord) → Grows m (hears b m c word)
grows-hears b m c word =
    grows-went m c (heard (b c) (m.members c) (Some word)) (heard-rises (b c) (m.members c) (Some word))

-- ---- links

pub grows-up : (shape : Shape) (m : Meeting) (c j : ℕ) (frames : List (List ℕ)) →
    Grows m (comes_up shape m c j frames)
grows-up shape m c j [] = grows-none m
grows-up shape m c j (frame ∷ frames) = grows-none m

pub grows-down : (b : ℕ → WordBook) (m : Meeting) (j c : ℕ) (frames : List (List ℕ)) →
    Grows m (comes_down b m j c frames)
grows-down b m j c [] = grows-none m
grows-down b m j c (frame ∷ frames) =
    let left : Meeting = record m { down = changed j (changed c frames (m.down j)) m.down } in
    grows-went left c (served (b c) (m.members c) j frame) (served-rises (b c) (m.members c) j frame)

-- ---- events

pub grows-event : (shape : Shape) (b : ℕ → WordBook) (m : Meeting) (x : Event) →
    Grows m (happens shape b m x)
grows-event shape b m x =
    event-has shape b m (Grows m) (record {
      stays = grows-none m;
      says = λ c log text.
          let y : Saying = record { log = log; text = text } in
          let n : Meeting = noted c y (say_fault m c log text) m in
          grows-next m n (hears b n c (Say log text)) (grows-noted c y (say_fault m c log text) m)
          (grows-hears b n c (Say log text));
      hears_word = λ c word. grows-hears b m c word;
      goes_up = λ c j. grows-up shape m c j (m.up c j);
      goes_down = λ j c. grows-down b m j c (m.down j c);
    }) x

pub grows-events : (shape : Shape) (b : ℕ → WordBook) (m : Meeting) (events : List Event) →
    Grows m (after_events shape b m events)
unfolding after_events
grows-events shape b m [] = grows-none m
grows-events shape b m (x ∷ xs) =
    grows-next m (happens shape b m x) (after_events shape b (happens shape b m x) xs)
    (grows-event shape b m x) (grows-events shape b (happens shape b m x) xs)

pub after-append : (shape : Shape) (b : ℕ → WordBook) (m : Meeting) (events more : List Event) →
    after_events shape b m (events ++ more)
    ≡ after_events shape b (after_events shape b m events) more
unfolding after_events
after-append shape b m [] more = refl
after-append shape b m (x ∷ xs) more = after-append shape b (happens shape b m x) xs more
