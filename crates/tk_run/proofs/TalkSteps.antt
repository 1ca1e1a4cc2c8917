-- A turn's reads, step by step: all have asked, all are answered, all have taken the replies. What is
-- known of a client with its read doesn't ask where among the others it stands.
use Rattle.std.proofs.Common.{◌≡◌, refl, ap, sym, ◌∙◌, subst, arith, ℕ, zero, suc, ◌+◌, ◌<◌, List, [], ◌∷◌, length, map}
use Rattle.std.proofs.Common.{All}
use Rattle.std.specs.Prelude.{slice_index_or, IsPermutation}
use Rattle.std.proofs.lemmas.List.Sorted.{All-permutation, length_permutation}
use Rattle.std.specs.Arc.{arc_value}
use Rattle.std.specs.List.{range_with_len}
use Rattle.std.specs.List.Sorted.{IsNonDecreasingBy}
use Rattle.std.proofs.lemmas.List.{length-map}
use Rattle.std.proofs.lemmas.List.FromFn.{length-map-range_with_len}
use Rattle.tk_shape.specs.Lengths.{turn_count}
use Rattle.tk_frames.specs.declared.entry.Placed.{Placed}
use Rattle.tk_frames.specs.Spelling.{read_frame}
use Rattle.tk_schedule.specs.declared.history.History.{History}
use Rattle.tk_schedule.specs.Schedule.{IsLegal, epoch_at}
use Rattle.tk_script.specs.declared.script.Script.{Script}
use Rattle.tk_words.specs.Words.{WordBook, IsBook, words_of}
use Rattle.tk_client.specs.Client.{ClientState}
use Rattle.tk_report.specs.Serving.{Serving, read_under}
use Rattle.tk_cluster.specs.declared.set.EpochSet.{EpochSet}
use Rattle.tk_cluster.specs.Refusals.{IsAsked}
use Rattle.tk_cluster.specs.Sets.{StandsAtMark}
use Rattle.tk_run.specs.declared.talk.Reading.{Reading}
use Rattle.tk_run.specs.declared.talk.Talk.{Talk}
use Rattle.tk_run.specs.Rows.{Frame}
use Rattle.tk_report.specs.Clients.{AreClients, client_knowing}
use Rattle.tk_run.specs.Turns.{placed_before}
use Rattle.tk_run.specs.Courses.{IsTalk, AreTalks, MayRead, AreBlank}
use Rattle.tk_run.specs.declared.pinned_write.PinnedWrite.{PinnedWrite}
use Rattle.tk_run.specs.Reading.{MayReadOn, HasAsked, MayTakeEntry, TookReplies, EachAt, readers, talks_of}
use Rattle.tk_run.specs.Answering.{AreAllAsked, IsAnswered, AllStand, set_of}
use Rattle.tk_report.proofs.Offers.{map-map}
use Rattle.tk_run.specs.Ranged.{Summing, MakesBlocks}
use Rattle.tk_run.specs.Ranging.{over_ranges, bytes_made}
use Rattle.tk_run.specs.Under.{client_under, asked_under}
use Rattle.tk_run.proofs.AnswerLaws.{asked-shape, asked-open}
use Rattle.tk_run.proofs.OrderedPlaces.{Numbers, numbers-told, numbers-moved, numbers-kept, in_places}
use Rattle.tk_run.proofs.AskedSets.{asked-of}
use Rattle.tk_run.proofs.TalkAll.{Begins, all-begin}
use Rattle.tk_run.proofs.TalkReads.{has_taken}
use Rattle.tk_run.proofs.UnderLaws.{reads-whole}

under-number : (S : Script) (b : WordBook) (H : History) (V : Serving) (g c : ℕ) →
    (client_under S b H V g c).number ≡ c
unfolding client_knowing
under-number S b H V g c = refl

-- the number of a client with its read
abbrev pub number_of : Reading → ℕ
number_of r = r.client.number

-- what is known of so many clients with their reads, in any order: one for each number
pub record Stage (n : ℕ) (P : Reading → Type 0) (rs : List Reading) : Type 0 where
  pub all : All P rs
  pub numbers : Numbers number_of 0 n rs
  pub counted : length rs ≡ n

module _ {n : ℕ} {P : Reading → Type 0} {old new : List Reading} where
  pub stage-same : new ≡ old → Stage n P old → Stage n P new
  stage-same same h = subst (Stage n P) (sym same) h

  pub stage-moved : IsPermutation old new → Stage n P old → Stage n P new
  stage-moved moved h =
      record {
        all = All-permutation P old new moved h.all;
        numbers = numbers-moved number_of 0 n old new moved h.numbers;
        counted = length_permutation old new moved ∙ h.counted;
      }

stage-next : {n : ℕ} {P Q : Reading → Type 0} {old new : List Reading} → length new ≡ length old →
    All Q new → EachAt (λ r s. number_of s ≡ number_of r) old new → Stage n P old → Stage n Q new
stage-next {n} {P} {Q} {old} {new} counted all same h =
    record {
      all = all;
      numbers = numbers-kept number_of 0 n old new counted same h.numbers;
      counted = counted ∙ h.counted;
    }

module _ (S : Script) (b : WordBook) (H : History) (shards : ℕ) (sum : Summing) (g : ℕ) where
  -- the servers of the run
  abbrev pub serving : Serving
  serving = over_ranges S b shards sum H

  -- the entries that a set stands for in turn g
  abbrev order : List Placed
  order = placed_before S (words_of S.shape b) H (g + 1)

  -- what client c asks in turn g
  abbrev asks : ℕ → List Frame
  asks c = map (λ j. read_frame (read_under S b H serving g c j)) (range_with_len 1 S.shape.servers)

  asks-counted : (c : ℕ) → length (asks c) ≡ S.shape.servers
  asks-counted c =
      length-map-range_with_len (λ j. read_frame (read_under S b H serving g c j)) 1 S.shape.servers

  -- a client that asked as the history says, of a set of the epoch that it reads
  pub record Asking (r : Reading) : Type 0 where
    pub c : ℕ
    pub is : number_of r ≡ c
    pub low : c < S.shape.clients
    pub client : r.client ≡ asked_under S b H serving g c
    pub asked : r.talk.asked.items ≡ asks c
    pub stands : StandsAtMark S.shape order (epoch_at H g c) (set_of r)
    pub unreplied : r.talk.replies.items ≡ []

  -- one that was replied what is made of the sums, over the entries of that epoch
  pub record Replied (r : Reading) : Type 0 where
    pub c : ℕ
    pub is : number_of r ≡ c
    pub low : c < S.shape.clients
    pub client : r.client ≡ asked_under S b H serving g c
    pub asked : r.talk.asked.items ≡ asks c
    pub replies : r.talk.replies.items
        ≡ map (bytes_made sum shards S.shape order) r.talk.asked.items

  -- one that took the replies
  pub record Ended (r : Reading) : Type 0 where
    pub c : ℕ
    pub is : number_of r ≡ c
    pub client : r.client ≡ client_under S b H serving (g + 1) c
    pub talk : IsTalk S b H serving g c r.talk

-- ---- asking

module _ {S : Script} {b : WordBook} {H : History} (shards : ℕ) (sum : Summing) {g : ℕ} where
  -- who begins may ask
  pub all-begun : {n : ℕ} {rs : List Reading} → Stage n (Begins S b H (serving S b H shards sum g) g) rs → All (MayReadOn S.shape) rs
  all-begun h k d low = (h.all k d low).reads

  all-asking : (old new : List Reading) → length new ≡ length old →
      All (Begins S b H (serving S b H shards sum g) g) old → EachAt (HasAsked b) old new → All (Asking S b H shards sum g) new
  all-asking old new counted begin asked k d low =
      let inside : k < length old = omega (arith, low, counted) in
      let r = slice_index_or old k d in
      let s = slice_index_or new k d in
      let w = words_of S.shape b in
      let V = serving S b H shards sum g in
      let c = r.client.number in
      let t = r.talk.turn in
      let begins = begin k d inside in
      let asks_so = asked k d inside in
      let due = asks_so.due S H V begins.asks in
      let stands : StandsAtMark S.shape (order S b H shards sum g) (epoch_at H g c) (set_of r) =
      subst (λ m. StandsAtMark S.shape (placed_before S w H (m + 1)) (epoch_at H m c) (set_of r))
      begins.turn_is begins.asks.stands
      in
      record {
        c = c;
        is = asks_so.number;
        low = begins.asks.client_in;
        client = due.client ∙ ap (λ m. asked_under S b H V m c) begins.turn_is;
        asked =
            due.asked
            ∙ ap (λ m. map (λ j. read_frame (read_under S b H V m c j)) (range_with_len 1 S.shape.servers))
            begins.turn_is;
        stands =
            subst (λ (e : EpochSet). StandsAtMark S.shape (order S b H shards sum g) (epoch_at H g c) e)
            (sym (ap arc_value asks_so.set)) stands;
        unreplied = asks_so.unreplied ∙ begins.reads.talk.none_replied;
      }

  -- what they ask may be answered
  pub all-answerable : {n : ℕ} {rs : List Reading} → IsBook S.shape b → IsLegal S.shape H →
      g < turn_count S.shape → Stage n (Asking S b H shards sum g) rs → All (AreAllAsked S.shape) rs
  all-answerable {n} {rs} book legal turn_in h k d low =
      let r = slice_index_or rs k d in
      let is = h.all k d low in
      let js = range_with_len 1 S.shape.servers in
      let V = serving S b H shards sum g in
      record {
        same = is.stands.same;
        counted = ap length is.asked ∙ asks-counted S b H shards sum g is.c;
        asked =
            subst (All (IsAsked (set_of r)))
            (map-map read_frame (read_under S b H V g is.c) js ∙ sym is.asked)
            (asked-of S b H V g is.c js (set_of r) is.stands.same (sym is.stands.number)
            (reads-whole S b H V g is.c book legal turn_in is.low));
        unreplied = is.unreplied;
      }

  -- by sets that stand for the entries of the turn
  pub all-stand : {n : ℕ} {rs : List Reading} → Stage n (Asking S b H shards sum g) rs →
      AllStand rs S.shape (order S b H shards sum g)
  all-stand {n} {rs} h k d low =
      let stands = (h.all k d low).stands in
      subst (λ e. StandsAtMark S.shape (order S b H shards sum g) e (set_of (slice_index_or rs k d))) (sym stands.number)
      stands

  -- ---- answers

  all-replied : {n : ℕ} {old : List Reading} (new : List Reading) → length new ≡ length old →
      Stage n (Asking S b H shards sum g) old → EachAt (IsAnswered (bytes_made sum shards) (AllStand old)) old new →
      All (Replied S b H shards sum g) new
  all-replied {n} {old} new counted h answered k d low =
      let inside : k < length old = omega (arith, low, counted) in
      let is = h.all k d inside in
      let answer = answered k d inside in
      record {
        c = is.c;
        is = ap (λ (x : ClientState). x.number) answer.client ∙ is.is;
        low = is.low;
        client = answer.client ∙ is.client;
        asked = answer.asked ∙ is.asked;
        replies =
            answer.replies S.shape (order S b H shards sum g) (all-stand h)
            ∙ ap (map (bytes_made sum shards S.shape (order S b H shards sum g))) (sym answer.asked);
      }

  -- what they are replied may be taken
  pub all-takeable : {n : ℕ} {rs : List Reading} → Stage n (Replied S b H shards sum g) rs →
      All (MayTakeEntry S.shape) rs
  all-takeable {n} {rs} h k d low =
      let r = slice_index_or rs k d in
      let V = serving S b H shards sum g in
      let is = h.all k d low in
      record {
        same = asked-shape S b H V g is.c r.client is.client;
        waits = asked-open S b H V g is.c r.client is.client;
        counted =
            ap length is.replies
            ∙ length-map r.talk.asked.items (bytes_made sum shards S.shape (order S b H shards sum g))
            ∙ ap length is.asked ∙ asks-counted S b H shards sum g is.c;
      }

  -- ---- taking

  all-ended : MakesBlocks sum → IsBook S.shape b → IsLegal S.shape H → g < turn_count S.shape →
      (old new : List Reading) → length new ≡ length old → All (Replied S b H shards sum g) old →
      EachAt (TookReplies b) old new → All (Ended S b H shards sum g) new
  all-ended sized book legal turn_in old new counted replied taken k d low =
      let inside : k < length old = omega (arith, low, counted) in
      let r = slice_index_or old k d in
      let s = slice_index_or new k d in
      let w = words_of S.shape b in
      let is = replied k d inside in
      let took = taken k d inside in
      let read =
      has_taken S b H shards sum g is.c sized book legal turn_in is.low is.client is.asked is.replies took.client
      in
      record {
        c = is.c;
        is =
            ap (λ (x : ClientState). x.number) read.client
            ∙ under-number S b H (serving S b H shards sum g) (g + 1) is.c;
        client = read.client;
        talk = record {
          asked = ap (λ (t : Talk). t.asked.items) took.talk ∙ read.asks;
          replied = ap (λ (t : Talk). t.replies.items) took.talk ∙ read.replies_are;
        };
      }

  -- ---- all of them

  pub begun : {clients : List ClientState} {deeds : List PinnedWrite} (rs : List Reading) →
      MayRead S b H (serving S b H shards sum g) g clients deeds → readers rs ≡ clients → AreBlank g deeds (talks_of rs) →
      Stage S.shape.clients (Begins S b H (serving S b H shards sum g) g) rs
  begun {clients} {deeds} rs may same blank =
      let all =
      all-begin S b H (serving S b H shards sum g) g clients deeds rs may (λ c. refl) same blank
      in
      record {
        all = λ k d low. (all.1 k d low).1;
        numbers =
            numbers-told number_of 0 S.shape.clients rs all.0 (λ k d low. (all.1 k d low).0);
        counted = all.0;
      }

  pub asking : {n : ℕ} {old : List Reading} (new : List Reading) → length new ≡ length old →
      EachAt (HasAsked b) old new → Stage n (Begins S b H (serving S b H shards sum g) g) old → Stage n (Asking S b H shards sum g) new
  asking {n} {old} new counted asked h =
      stage-next counted (all-asking old new counted h.all asked) (λ k d low. (asked k d low).number) h

  pub replied : {n : ℕ} {old : List Reading} (new : List Reading) → length new ≡ length old →
      EachAt (IsAnswered (bytes_made sum shards) (AllStand old)) old new → Stage n (Asking S b H shards sum g) old →
      Stage n (Replied S b H shards sum g) new
  replied new counted answered h =
      stage-next counted (all-replied new counted h answered)
      (λ k d low. ap (λ (x : ClientState). x.number) (answered k d low).client) h

  pub ended : {n : ℕ} {old : List Reading} (new : List Reading) → MakesBlocks sum → IsBook S.shape b →
      IsLegal S.shape H → g < turn_count S.shape → length new ≡ length old →
      EachAt (TookReplies b) old new → Stage n (Replied S b H shards sum g) old → Stage n (Ended S b H shards sum g) new
  ended {n} {old} new sized book legal turn_in counted taken h =
      stage-next counted (all-ended sized book legal turn_in old new counted h.all taken)
      (λ k d low. ap (λ (x : ClientState). x.number) (taken k d low).client) h

-- ---- in the order of their numbers

element : {X : Type 0} (xs : List X) (k : ℕ) → k < length xs → X
element [] k low = absurd (omega (arith, low))
element (x ∷ xs) zero low = x
element (x ∷ xs) (suc k) low = element xs k (omega (arith, low))

map-element : {X Y : Type 0} (f : X → Y) (xs : List X) (k : ℕ) (d : Y) (low : k < length xs) →
    slice_index_or (map f xs) k d ≡ f (slice_index_or xs k (element xs k low))
unfolding element
map-element f [] k d low = absurd (omega (arith, low))
map-element f (x ∷ xs) zero d low = refl
map-element f (x ∷ xs) (suc k) d low = map-element f xs k d (omega (arith, low))

pub all-talked : {S : Script} {b : WordBook} {H : History} {shards : ℕ} {sum : Summing} {g : ℕ}
    {rs : List Reading} → let V = over_ranges S b shards sum H in
    Stage S.shape.clients (Ended S b H shards sum g) rs → IsNonDecreasingBy number_of rs →
    AreClients S.shape.clients (client_under S b H V (g + 1)) (readers rs)
    × AreTalks S b H V g (talks_of rs)
all-talked {S} {b} {H} {shards} {sum} {g} {rs} h up =
    let V = over_ranges S b shards sum H in
    let ended = h.all in
    let clients_long : length (readers rs) ≡ length rs = length-map rs (λ (r : Reading). r.client) in
    let talks_long : length (talks_of rs) ≡ length rs = length-map rs (λ (r : Reading). r.talk) in
    let place : (k : ℕ) (d : Reading) (low : k < length rs) → (ended k d low).c ≡ k = λ k d low.
    let told : number_of (slice_index_or rs k d) ≡ 0 + k =
    in_places number_of 0 S.shape.clients rs h.numbers up k d low
    in
    let mine = (ended k d low).is in
    omega (arith, told, mine)
    in (
      record {
        counted = clients_long ∙ h.counted;
        each = λ k d low.
            let inside : k < length rs = omega (arith, low, clients_long) in
            let x = element rs k inside in
            map-element (λ (r : Reading). r.client) rs k d inside
            ∙ (ended k x inside).client
            ∙ ap (client_under S b H V (g + 1)) (place k x inside);
      },
      record {
        counted = talks_long ∙ h.counted;
        each = λ k d low.
            let inside : k < length rs = omega (arith, low, talks_long) in
            let x = element rs k inside in
            subst (IsTalk S b H V g k) (sym (map-element (λ (r : Reading). r.talk) rs k d inside))
            (subst (λ c. IsTalk S b H V g c (slice_index_or rs k x).talk) (place k x inside)
            (ended k x inside).talk);
      },
    )
