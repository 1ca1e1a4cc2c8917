-- The clients before the first turn, and the logs that each writes and follows.
use Rattle.std.proofs.Common.{◌≡◌, ◌∙◌, refl, ap, ap₂, sym, subst, arith}
use Rattle.std.proofs.Common.{ℕ, zero, suc, ◌+◌, ◌<◌, ◌≤◌, add-one, append-nil, zero-add}
use Rattle.std.proofs.Common.{Bool, true, false, cond, List, [], ◌∷◌, ◌++◌, length, filter}
use Rattle.std.proofs.Common.{inl, inr, length-append, flat_map}
use Rattle.std.proofs.Math.ListN.{get_or-append}
use Rattle.std.proofs.lemmas.Bool.{cases_lt}
use Rattle.std.specs.Prelude.{All, slice_index, slice_index_or}
use Rattle.std.specs.List.{range_with_len, AllByRecursion}
use Rattle.std.specs.List.Sorted.{IsStrictlyIncreasing}
use Rattle.std.proofs.lemmas.List.Elements.{filter-append, All-from_recursion}
use Rattle.tk_schedule.specs.declared.history.History.{History}
use Rattle.tk_script.specs.declared.script.Script.{Script}
use Rattle.tk_words.specs.Words.{BookWords}
use Rattle.tk_client.specs.declared.got.Got.{Got}
use Rattle.tk_client.specs.Reader.{got_in}
use Rattle.tk_client.specs.Client.{ClientState, new_client}
use Rattle.tk_client.specs.Looking.{FollowerState, new_follower}
use Rattle.tk_report.specs.Clients.{AreClients, client_before, client_knowing}
use Rattle.tk_report.specs.Clients.{known_first, known_before, AreFollowers, follower_before, joined}
use Rattle.tk_report.specs.Groups.{IsGroup}
use Rattle.tk_report.specs.Leaving.{got_by, unsent_by}
use Rattle.tk_report.specs.Queues.{writes_of, writing_before}
use Rattle.tk_report.specs.Report.{follows_of, reader_before}
use Rattle.tk_report.specs.declared.group.Group.{Group}
use Rattle.tk_lists.proofs.Offers.{numbers-more, flat_map-range_more, last-at}
use Rattle.tk_report.proofs.SayOrder.{said-none}

-- ---- the logs that pass a test

-- what one more number gives
pub flat_map-next : {A : Type 0} (f : ℕ → List A) (n : ℕ) →
    flat_map f (range_with_len 0 (n + 1)) ≡ flat_map f (range_with_len 0 n) ++ f n
flat_map-next f n = flat_map-range_more f 0 n n (zero-add n)

one-more : (p : ℕ → Bool) (log : ℕ) (b : Bool) → p log ≡ b →
    filter p (range_with_len 0 (log + 1))
    ≡ filter p (range_with_len 0 log) ++ cond b (log ∷ []) []
one-more p log b here =
    ap (filter p) (numbers-more log)
    ∙ filter-append p (range_with_len 0 log) (log ∷ [])
    ∙ ap (λ a. filter p (range_with_len 0 log) ++ cond a (log ∷ []) []) here

-- one log more passes
pub passes-next : (p : ℕ → Bool) (log : ℕ) → p log ≡ true →
    filter p (range_with_len 0 log) ++ log ∷ [] ≡ filter p (range_with_len 0 (log + 1))
passes-next p log here = sym (one-more p log true here)

-- or does not
pub fails-next : (p : ℕ → Bool) (log : ℕ) → p log ≡ false →
    filter p (range_with_len 0 log) ≡ filter p (range_with_len 0 (log + 1))
fails-next p log here =
    sym (one-more p log false here ∙ append-nil (filter p (range_with_len 0 log)))

-- the logs that pass are below all
below : (p : ℕ → Bool) (a n top : ℕ) → a + n ≤ top →
    AllByRecursion (λ log. log < top) (filter p (range_with_len a n))
below p a zero top within = tt
below p a (suc n) top within =
    elim (p a) as (λ b. AllByRecursion (λ log. log < top)
    (cond b (a ∷ filter p (range_with_len (a + 1) n)) (filter p (range_with_len (a + 1) n)))) [
      | true ↦ (omega (arith, within), below p (a + 1) n top (omega (arith, within)))
      | false ↦ below p (a + 1) n top (omega (arith, within))
    ]

pub passing-below : (p : ℕ → Bool) (count : ℕ) →
    All (λ log. log < count) (filter p (range_with_len 0 count))
passing-below p count =
    All-from_recursion (λ log. log < count) (filter p (range_with_len 0 count))
    (below p 0 count count (omega arith))

from-start : (p : ℕ → Bool) (a n low : ℕ) → low ≤ a →
    AllByRecursion (λ log. low ≤ log) (filter p (range_with_len a n))
from-start p a zero low from = tt
from-start p a (suc n) low from =
    elim (p a) as (λ b. AllByRecursion (λ log. low ≤ log)
    (cond b (a ∷ filter p (range_with_len (a + 1) n)) (filter p (range_with_len (a + 1) n)))) [
      | true ↦ (from, from-start p (a + 1) n low (omega (arith, from)))
      | false ↦ from-start p (a + 1) n low (omega (arith, from))
    ]

first-from : (low : ℕ) (xs : List ℕ) → AllByRecursion (λ log. low ≤ log) xs → 0 < length xs →
    low ≤ slice_index xs 0
first-from low [] all some = absurd (omega (arith, some))
first-from low (x ∷ xs) all some = all.0

-- a number below all that follow, which ascend
below-all : (a : ℕ) (xs : List ℕ) (k : ℕ) → AllByRecursion (λ log. a + 1 ≤ log) xs →
    ((j : ℕ) → suc j < length xs → slice_index xs j < slice_index xs (suc j)) →
    suc k < length (a ∷ xs) → slice_index (a ∷ xs) k < slice_index xs k
below-all a xs zero all rise within =
    let low : a + 1 ≤ slice_index xs 0 = first-from (a + 1) xs all (omega (arith, within)) in
    omega (arith, low)
below-all a xs (suc k) all rise within = rise k (omega (arith, within))

ascends : (p : ℕ → Bool) (a n k : ℕ) → suc k < length (filter p (range_with_len a n)) →
    slice_index (filter p (range_with_len a n)) k
    < slice_index (filter p (range_with_len a n)) (suc k)
ascends p a zero k within = absurd (omega (arith, within))
ascends p a (suc n) k within =
    let rest = filter p (range_with_len (a + 1) n) in
    elim (p a) as (λ b. suc k < length (cond b (a ∷ rest) rest) →
    slice_index (cond b (a ∷ rest) rest) k < slice_index (cond b (a ∷ rest) rest) (suc k)) [
      | true ↦ below-all a rest k (from-start p (a + 1) n (a + 1) (omega arith))
          (λ j. ascends p (a + 1) n j)
      | false ↦ ascends p (a + 1) n k
    ]
    within

-- and they ascend
pub passing-ascend : (p : ℕ → Bool) (count : ℕ) →
    IsStrictlyIncreasing (filter p (range_with_len 0 count))
passing-ascend p count = λ k within.
    let logs = filter p (range_with_len 0 count) in
    subst (λ n. slice_index logs k < slice_index logs n) (sym (add-one k))
    (ascends p 0 count k (omega (arith, within)))

-- ---- lists that grow by the one of the next number

-- the first ones are as they are told
abbrev pub AreSoFar : {X : Type 0} → (ℕ → X) → List X → Type 0
AreSoFar {X} state xs = (i : ℕ) (d : X) → i < length xs → slice_index_or xs i d ≡ state i

pub none-yet : {X : Type 0} (state : ℕ → X) → AreSoFar state []
none-yet state i d low = absurd (omega (arith, low))

-- one more
pub one-next : {X : Type 0} (state : ℕ → X) (xs more : List X) (x : X) (n : ℕ) →
    more ≡ xs ++ x ∷ [] → length xs ≡ n → x ≡ state n → AreSoFar state xs → AreSoFar state more
one-next {X} state xs more x n pushed counted is so_far =
    subst (AreSoFar state) (sym pushed) longer
  where
    longer : AreSoFar state (xs ++ x ∷ [])
    longer i d low = elim (cases_lt i (length xs)) [
      | inl earlier ↦ get_or-append xs (x ∷ []) d i earlier ∙ so_far i d earlier
      | inr later ↦
          let counts = length-append xs (x ∷ []) in
          let last : i ≡ length xs = omega (arith, low, later, counts) in
          ap (λ k. slice_index_or (xs ++ x ∷ []) k d) last
          ∙ last-at xs x d ∙ is ∙ ap state (sym (last ∙ counted))
    ]

-- ---- the clients

-- a client before the first turn
abbrev pub opened : Script → ℕ → ClientState
opened S c = new_client S.shape c (writes_of S c) (follows_of S c)

opened-knowing : (S : Script) (c : ℕ) → opened S c ≡ client_knowing S (known_first S) 0 c
unfolding client_knowing writing_before
opened-knowing S c = refl

-- when all are open they are the clients before the first turn
pub open-all : (S : Script) (clients : List ClientState) → length clients ≡ S.shape.clients →
    AreSoFar (opened S) clients →
    AreClients S.shape.clients (client_knowing S (known_first S) 0) clients
open-all S clients counted all =
    record {
      counted = counted;
      each = λ c d low. all c d low ∙ opened-knowing S c;
    }

first-before : (S : Script) (w : BookWords) (H : History) (c : ℕ) →
    client_knowing S (known_first S) 0 c ≡ client_before S w H 0 c
unfolding client_knowing client_before reader_before
first-before S w H c = refl

-- so they are before the first turn of a run
pub clients-first : (S : Script) (w : BookWords) (H : History) (clients : List ClientState) →
    AreClients S.shape.clients (client_knowing S (known_first S) 0) clients →
    AreClients S.shape.clients (client_before S w H 0) clients
clients-first S w H clients are =
    record {
      counted = are.counted;
      each = λ c d low. are.each c d low ∙ first-before S w H c;
    }

knowing-before : (S : Script) (w : BookWords) (H : History) (g c : ℕ) →
    client_before S w H g c ≡ client_knowing S (known_before S w H g) g c
unfolding client_knowing client_before
knowing-before S w H g c = refl

-- the clients of a run before a turn know what they know
pub clients-know : (S : Script) (w : BookWords) (H : History) (g : ℕ)
    (clients : List ClientState) → AreClients S.shape.clients (client_before S w H g) clients →
    AreClients S.shape.clients (client_knowing S (known_before S w H g) g) clients
clients-know S w H g clients are =
    record {
      counted = are.counted;
      each = λ c d low. are.each c d low ∙ knowing-before S w H g c;
    }

-- clients that are so, of whose texts none was said, are the group before the first turn
pub group-first : (S : Script) (group : Group) → group.said ≡ 0 →
    AreClients S.shape.clients (client_knowing S (known_first S) 0) group.clients.items →
    IsGroup S (known_first S) 0 group
group-first S group none are = record { said = none ∙ sym (said-none S); clients = are }

-- ---- those who look in their place

first-look : (S : Script) (w : BookWords) (H : History) (c : ℕ) →
    new_follower S.shape (follows_of S c) ≡ follower_before S w H 0 c
unfolding reader_before
first-look S w H c = refl

pub followers-first : (S : Script) (w : BookWords) (H : History) (followers : List FollowerState) →
    AreFollowers S.shape.clients (λ c. new_follower S.shape (follows_of S c)) followers →
    AreFollowers S.shape.clients (follower_before S w H 0) followers
followers-first S w H followers are =
    record {
      counted = are.counted;
      each = λ c d low. are.each c d low ∙ first-look S w H c;
    }

length-joined : (clients : List ClientState) (followers : List FollowerState) →
    length clients ≡ length followers → length (joined clients followers) ≡ length clients
length-joined [] [] same = refl
length-joined [] (l ∷ followers) same = refl
length-joined (k ∷ clients) [] same = absurd (omega (arith, same))
length-joined (k ∷ clients) (l ∷ followers) same =
    ap suc (length-joined clients followers (omega (arith, same)))

-- there are no more of them than of either
pub joined-within : (clients : List ClientState) (followers : List FollowerState) (c : ℕ) →
    c < length (joined clients followers) → (c < length clients) × (c < length followers)
joined-within [] followers c low = absurd (omega (arith, low))
joined-within (k ∷ clients) [] c low = absurd (omega (arith, low))
joined-within (k ∷ clients) (l ∷ followers) zero low = (omega arith, omega arith)
joined-within (k ∷ clients) (l ∷ followers) (suc c) low =
    let both = joined-within clients followers c (omega (arith, low)) in
    (omega (arith, both.0), omega (arith, both.1))

-- what a log gave to the one at a place, and how many texts it has left
pub got-joined : (clients : List ClientState) (followers : List FollowerState) (log c : ℕ)
    (follower : FollowerState) (got : List Got) → c < length (joined clients followers) →
    follower ≡ slice_index_or followers c follower → got ≡ got_in follower.reader.follows log →
    got ≡ got_by (joined clients followers) c log
got-joined [] followers log c follower got low here is = absurd (omega (arith, low))
got-joined (k ∷ clients) [] log c follower got low here is = absurd (omega (arith, low))
got-joined (k ∷ clients) (l ∷ followers) log zero follower got low here is =
    is ∙ ap (λ (x : FollowerState). got_in x.reader.follows log) here
got-joined (k ∷ clients) (l ∷ followers) log (suc c) follower got low here is =
    got-joined clients followers log c follower got (omega (arith, low)) here is

pub unsent-joined : (clients : List ClientState) (followers : List FollowerState) (c : ℕ)
    (client : ClientState) (count : ℕ) → c < length (joined clients followers) →
    client ≡ slice_index_or clients c client → count ≡ length client.writing.waiting →
    count ≡ unsent_by (joined clients followers) c
unsent-joined [] followers c client count low here is = absurd (omega (arith, low))
unsent-joined (k ∷ clients) [] c client count low here is = absurd (omega (arith, low))
unsent-joined (k ∷ clients) (l ∷ followers) zero client count low here is =
    is ∙ ap (λ (x : ClientState). length x.writing.waiting) here
unsent-joined (k ∷ clients) (l ∷ followers) (suc c) client count low here is =
    unsent-joined clients followers c client count (omega (arith, low)) here is

-- the one at a place is the client of the place, and knows what the follower there does
pub joined-at : (clients : List ClientState) (followers : List FollowerState) (c : ℕ)
    (d k : ClientState) (l : FollowerState) → c < length (joined clients followers) →
    slice_index_or (joined clients followers) c d
    ≡ record (slice_index_or clients c k) { reader = (slice_index_or followers c l).reader }
joined-at [] followers c d k l low = absurd (omega (arith, low))
joined-at (x ∷ clients) [] c d k l low = absurd (omega (arith, low))
joined-at (x ∷ clients) (y ∷ followers) zero d k l low = refl
joined-at (x ∷ clients) (y ∷ followers) (suc c) d k l low =
    joined-at clients followers c d k l (omega (arith, low))

knows-reader : (S : Script) (w : BookWords) (H : History) (g c : ℕ) →
    record (client_knowing S (known_first S) g c) { reader = (follower_before S w H g c).reader }
    ≡ client_before S w H g c
unfolding client_knowing client_before
knows-reader S w H g c = refl

-- clients that write and those who look for them are together the clients of a run
pub joined-are : (S : Script) (w : BookWords) (H : History) (g : ℕ) (clients : List ClientState)
    (followers : List FollowerState) →
    AreClients S.shape.clients (client_knowing S (known_first S) g) clients →
    AreFollowers S.shape.clients (follower_before S w H g) followers →
    AreClients S.shape.clients (client_before S w H g) (joined clients followers)
joined-are S w H g clients followers are look =
    record {
      counted = length-joined clients followers (are.counted ∙ sym look.counted) ∙ are.counted;
      each = λ c d low.
          let both = joined-within clients followers c low in
          let l = follower_before S w H g c in
          joined-at clients followers c d d l low
          ∙ ap₂ (λ (k : ClientState) (m : FollowerState). record k { reader = m.reader })
          (are.each c d both.0) (look.each c l both.1)
          ∙ knows-reader S w H g c;
    }
