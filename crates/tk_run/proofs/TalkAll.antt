-- All clients with their reads, before and after.
use Rattle.std.proofs.Common.{◌≡◌, refl, ap, ap₂, sym, ◌∙◌, subst, arith, ℕ, zero, suc, ◌+◌, ◌<◌, ◌≤◌, List, [], ◌∷◌}
use Rattle.std.proofs.Common.{◌++◌, length, map, length-append, take}
use Rattle.std.proofs.lemmas.List.{map-append, length-map}
use Rattle.std.specs.Prelude.{slice_index_or}
use Rattle.std.specs.Arc.{arc_value}
use Rattle.tk_shape.specs.Lengths.{turn_count}
use Rattle.tk_schedule.specs.declared.history.History.{History}
use Rattle.tk_schedule.specs.Schedule.{IsLegal, epoch_at}
use Rattle.tk_cluster.specs.Sets.{StandsAtMark}
use Rattle.tk_script.specs.declared.script.Script.{Script}
use Rattle.tk_words.specs.Words.{WordBook, words_of}
use Rattle.tk_client.specs.Client.{ClientState}
use Rattle.tk_cluster.specs.declared.set.EpochSet.{EpochSet}
use Rattle.tk_run.specs.declared.pinned_write.PinnedWrite.{PinnedWrite}
use Rattle.tk_run.specs.declared.talk.Talk.{Talk}
use Rattle.tk_run.specs.declared.talk.Reading.{Reading}
use Rattle.tk_report.specs.Serving.{Serving}
use Rattle.tk_run.specs.Ran.{set_on}
use Rattle.tk_run.specs.Turns.{placed_before}
use Rattle.tk_run.specs.Courses.{MayAskIn, MayRead, AreBlank, IsBlank, TellsInTurn}
use Rattle.tk_run.specs.Under.{wrote_under}
use Rattle.tk_run.specs.Reading.{MayReadOn, readers, talks_of}
use Rattle.tk_run.proofs.Cuts.{take_one_more}
use Rattle.tk_report.proofs.Offers.{epoch-most}
use Rattle.tk_run.proofs.AskingLaws.{wrote-shape, wrote-number, wrote-closed}

-- ---- before

-- a blank read has the set of its deed
blank-at : (turn : ℕ) (ds : List PinnedWrite) (ts : List Talk) → AreBlank turn ds ts →
    (k : ℕ) (d : PinnedWrite) (t : Talk) → k < length ts →
    IsBlank turn (slice_index_or ds k d) (slice_index_or ts k t)
blank-at turn [] [] are k d t low = absurd (omega (arith, low))
blank-at turn (e ∷ ds) (u ∷ ts) are zero d t low = are.0
blank-at turn (e ∷ ds) (u ∷ ts) are (suc k) d t low =
    blank-at turn ds ts are.1 k d t (omega (arith, low))
blank-at turn _ _ are k d t low = absurd are

pub map-at : {X Y : Type 0} (f : X → Y) (xs : List X) (k : ℕ) (d : X) → k < length xs →
    slice_index_or (map f xs) k (f d) ≡ f (slice_index_or xs k d)
map-at f [] k d low = absurd (omega (arith, low))
map-at f (x ∷ xs) zero d low = refl
map-at f (x ∷ xs) (suc k) d low = map-at f xs k d (omega (arith, low))

-- a client with a blank read of its set, in a turn of this history
pub record Begins (S : Script) (b : WordBook) (H : History) (V : Serving) (g : ℕ) (r : Reading)
    : Type 0 where
  pub reads : MayReadOn S.shape r
  pub turn_is : r.talk.turn ≡ g
  pub asks : MayAskIn S b H V r.client r.talk

may_ask : (S : Script) (b : WordBook) (H : History) (V : Serving) (g c : ℕ) (a : ClientState)
    (s : PinnedWrite) (d : Talk) → IsLegal S.shape H → g < turn_count S.shape →
    c < S.shape.clients → a ≡ wrote_under S b H V g c → TellsInTurn S b H V g c →
    StandsAtMark S.shape (placed_before S (words_of S.shape b) H (g + 1)) (epoch_at H g c) (set_on s) →
    IsBlank g s d → MayAskIn S b H V a d
may_ask S b H V g c a s d legal inside low is told from blank =
    let w = words_of S.shape b in
    let mine : a.number ≡ c = wrote-number S b H V g c a is in
    let turn : d.turn ≡ g = blank.turn_is in
    record {
      legal = legal;
      turn_in = omega (arith, turn, inside);
      client_in = omega (arith, mine, low);
      wrote = is ∙ (λ i. wrote_under S b H V (sym turn i) (sym mine i));
      stands =
          subst (λ t. StandsAtMark S.shape (placed_before S w H (t + 1)) (epoch_at H t a.number)
          (arc_value d.set)) (sym turn)
          (subst (λ n. StandsAtMark S.shape (placed_before S w H (g + 1)) (epoch_at H g n)
          (arc_value d.set)) (sym mine)
          (subst (StandsAtMark S.shape (placed_before S w H (g + 1)) (epoch_at H g c)) (sym blank.set)
          from));
      told = subst (λ t. TellsInTurn S b H V t a.number) (sym turn)
          (subst (λ n. TellsInTurn S b H V g n) (sym mine) told);
    }

begin-at : (S : Script) (b : WordBook) (H : History) (V : Serving) (g : ℕ)
    (clients : List ClientState) (deeds : List PinnedWrite) (rs : List Reading) →
    MayRead S b H V g clients deeds → ((c : ℕ) → TellsInTurn S b H V g c) →
    readers rs ≡ clients → AreBlank g deeds (talks_of rs) → length rs ≡ S.shape.clients →
    (k : ℕ) (d : Reading) → k < length rs →
    ((slice_index_or rs k d).client.number ≡ 0 + k) × Begins S b H V g (slice_index_or rs k d)
begin-at S b H V g clients deeds rs may told same blank counted k d low =
    let low_c : k < S.shape.clients = omega (arith, low, counted) in
    let r = slice_index_or rs k d in
    let inside : k < length clients = omega (arith, low_c, may.wrote.counted) in
    let client : r.client ≡ wrote_under S b H V g k =
    sym (map-at (λ (x : Reading). x.client) rs k d low)
    ∙ ap (λ (xs : List ClientState). slice_index_or xs k d.client) same
    ∙ may.wrote.each k d.client inside
    in
    let deed : PinnedWrite = record { position = 0; set = d.talk.set } in
    let few : k < length (talks_of rs) =
    omega (arith, low, length-map rs (λ (x : Reading). x.talk))
    in
    let is = blank-at g deeds (talks_of rs) blank k deed d.talk few in
    let talk : slice_index_or (talks_of rs) k d.talk ≡ r.talk =
    map-at (λ (x : Reading). x.talk) rs k d low
    in
    let is_here : IsBlank g (slice_index_or deeds k deed) r.talk =
    subst (IsBlank g (slice_index_or deeds k deed)) talk is
    in
    let stands = may.sets.each k deed (omega (arith, low_c, may.sets.counted)) in
    let set : arc_value r.talk.set ≡ set_on (slice_index_or deeds k deed) = is_here.set in
    let number : r.client.number ≡ k = wrote-number S b H V g k r.client client in (
      omega (arith, number),
      record {
        reads = record {
          client = record {
            same = wrote-shape S b H V g k r.client client;
            closed = wrote-closed S b H V g k r.client client;
          };
          talk = record {
            turn_in = subst (λ n. n < turn_count S.shape) (sym is_here.turn_is) may.turn_in;
            set = ap (λ (s : EpochSet). s.shape) set ∙ stands.same;
            epoch_in =
                let number : (arc_value r.talk.set).number ≡ epoch_at H g k =
                ap (λ (s : EpochSet). s.number) set ∙ stands.number
                in
                subst (λ n. n ≤ S.shape.phases) (sym number)
                (epoch-most S H g k may.legal may.turn_in low_c);
            none_asked = is_here.none_asked;
            none_replied = is_here.none_replied;
          };
        };
        turn_is = is_here.turn_is;
        asks =
            may_ask S b H V g k r.client (slice_index_or deeds k deed) r.talk may.legal may.turn_in
            low_c client (told k) stands is_here;
      },
    )

-- so do all, who have their numbers
pub all-begin : (S : Script) (b : WordBook) (H : History) (V : Serving) (g : ℕ)
    (clients : List ClientState) (deeds : List PinnedWrite) (rs : List Reading) →
    MayRead S b H V g clients deeds → ((c : ℕ) → TellsInTurn S b H V g c) →
    readers rs ≡ clients → AreBlank g deeds (talks_of rs) →
    (length rs ≡ S.shape.clients)
    × ((k : ℕ) (d : Reading) → k < length rs →
    ((slice_index_or rs k d).client.number ≡ 0 + k) × Begins S b H V g (slice_index_or rs k d))
all-begin S b H V g clients deeds rs may told same blank =
    let long : length (readers rs) ≡ length rs = length-map rs (λ (r : Reading). r.client) in
    let counted : length rs ≡ S.shape.clients =
    sym long ∙ ap length same ∙ may.wrote.counted
    in (
      counted,
      λ k d low. begin-at S b H V g clients deeds rs may told same blank counted k d low,
    )

-- two that may read are of one shape, if their clients are the same
pub one-shape : (S T : Script) (b : WordBook) (H K : History) (V W : Serving) (g : ℕ)
    (clients : List ClientState) (deeds others : List PinnedWrite) →
    MayRead S b H V g clients deeds → MayRead T b K W g clients others → S.shape ≡ T.shape
one-shape S T b H K V W g [] deeds others may may_too =
    let some = S.shape.in_range.clients_low in
    let none = may.wrote.counted in
    absurd (omega (arith, some, none))
one-shape S T b H K V W g (x ∷ clients) deeds others may may_too =
    sym (wrote-shape S b H V g 0 x (may.wrote.each 0 x (omega arith)))
    ∙ wrote-shape T b K W g 0 x (may_too.wrote.each 0 x (omega arith))

-- ---- one by one

-- one more blank read
pub blank-next : (turn : ℕ) (ds : List PinnedWrite) (d : PinnedWrite) (ts : List Talk) (t : Talk) →
    AreBlank turn ds ts → IsBlank turn d t → AreBlank turn (ds ++ d ∷ []) (ts ++ t ∷ [])
blank-next turn [] d [] t are is = (is, tt)
blank-next turn (e ∷ ds) d (u ∷ ts) t are is = (are.0, blank-next turn ds d ts t are.1 is)
blank-next turn _ d _ t are is = absurd are

-- what is known of the first readings
pub record Paired (turn : ℕ) (deeds : List PinnedWrite) (clients : List ClientState) (rs : List Reading)
    : Type 0 where
  pub counted : length rs ≡ length clients
  pub clients_are : readers rs ≡ clients
  pub talks : AreBlank turn (take (length clients) deeds) (talks_of rs)

pub paired-next : (turn : ℕ) (deeds : List PinnedWrite) (clients : List ClientState)
    (rs more : List Reading) (deed : PinnedWrite) (client : ClientState) (r : Reading) →
    length clients < length deeds → deed ≡ slice_index_or deeds (length clients) deed →
    Paired turn deeds clients rs → more ≡ rs ++ r ∷ [] → r.client ≡ client →
    IsBlank turn deed r.talk → Paired turn deeds (clients ++ client ∷ []) more
paired-next turn deeds clients rs more deed client r low at h pushed of is =
    let long : length (clients ++ client ∷ []) ≡ length clients + 1 =
    length-append clients (client ∷ [])
    in
    record {
      counted =
          ap length pushed ∙ length-append rs (r ∷ []) ∙ omega (arith, h.counted, long);
      clients_are =
          ap readers pushed ∙ map-append (λ (x : Reading). x.client) rs (r ∷ [])
          ∙ ap₂ (λ xs x. xs ++ x ∷ []) h.clients_are of;
      talks =
          subst (λ n. AreBlank turn (take n deeds) (talks_of more)) (sym long)
          (subst (λ ds. AreBlank turn ds (talks_of more))
          (sym (take_one_more deeds (length clients) deed low at))
          (subst (AreBlank turn (take (length clients) deeds ++ deed ∷ []))
          (sym (ap talks_of pushed ∙ map-append (λ (x : Reading). x.talk) rs (r ∷ [])))
          (blank-next turn (take (length clients) deeds) deed (talks_of rs) r.talk h.talks is)));
    }
