-- The reads of a turn under a serving: what clients ask, what servers reply, and what clients know then.
use Rattle.std.proofs.Common.{◌≡◌, refl, ap, ap₂, sym, subst, ◌∙◌, arith, inl, inr, ℕ, zero, suc, ◌+◌, ◌<◌, ◌≤◌}
use Rattle.std.proofs.Common.{List, [], ◌∷◌, ◌++◌, map, flat_map, add-one, Bool, Option, Some}
use Rattle.std.specs.Prelude.{slice_index_or}
use Rattle.std.specs.List.{AllByRecursion, range_with_len}
use Rattle.std.proofs.lemmas.Bool.{cases_lt}
use Rattle.std.proofs.lemmas.List.{map-append, get_or_default}
use Rattle.std.proofs.lemmas.List.Folds.{flat_map-map}
use Rattle.std.proofs.lemmas.List.FromFn.{map-range_with_len_more}
use Rattle.tk_shape.specs.Lengths.{turn_count}
use Rattle.tk_schedule.specs.declared.history.History.{History}
use Rattle.tk_schedule.specs.Schedule.{IsLegal, epoch_at}
use Rattle.tk_script.specs.declared.script.Script.{Script}
use Rattle.tk_words.specs.Words.{WordBook, BookWords, IsBook, words_of}
use Rattle.tk_frames.specs.declared.entry.Placed.{Placed}
use Rattle.tk_frames.specs.declared.read_frame.ReadFrame.{ReadFrame}
use Rattle.tk_frames.specs.declared.reply_frame.ReplyFrame.{ReplyFrame}
use Rattle.tk_frames.specs.InOrder.{IsOrder}
use Rattle.tk_frames.specs.Order.{before, records}
use Rattle.tk_frames.specs.Ranges.{IsRead, IsReply}
use Rattle.tk_frames.specs.Spelling.{read_frame, reply_frame}
use Rattle.tk_bloom.specs.Filters.{all_marked}
use Rattle.tk_table.specs.Laws.{IsStorable}
use Rattle.tk_table.specs.Ordered.{AreOrdered}
use Rattle.tk_table.specs.Replies.{reply_to}
use Rattle.tk_table.specs.Shown.{is_shown}
use Rattle.tk_table.proofs.Offers.{order-writes}
use Rattle.tk_replica.specs.declared.epoch.Epoch.{Epoch}
use Rattle.tk_replica.specs.Epochs.{IsEpochOf}
use Rattle.tk_replica.specs.Replies.{reply_for}
use Rattle.tk_checkpoint.proofs.Offers.{order-fitting, fitting-storable}
use Rattle.tk_client.specs.declared.target.Target.{Target}
use Rattle.tk_client.specs.Asked.{asked, frame_with, shown_by}
use Rattle.tk_client.specs.Client.{ClientState, after_replies, opened, target_over}
use Rattle.tk_client.specs.Reader.{Reader, after_read, at_epoch, new_reader, target}
use Rattle.tk_client.specs.Replies.{answer_in, frames_in}
use Rattle.tk_client.specs.Writing.{new_writing}
use Rattle.tk_client.proofs.Offers.{frames_in-spelled, asked-in_range}
use Rattle.tk_checkpoint.specs.Saved.{saved}
use Rattle.tk_report.specs.Clients.{AreClients, client_knowing, idle, known_first}
use Rattle.tk_report.specs.Entries.{entries_before}
use Rattle.tk_report.specs.Exchange.{with_reply, bytes_of}
use Rattle.tk_report.specs.Groups.{IsSomeGroup}
use Rattle.tk_report.specs.Queues.{said_before, writing_before}
use Rattle.tk_report.specs.Serving.{Serving, reader_under, read_under, read_replied, target_under}
use Rattle.tk_report.specs.declared.group.Group.{Group}
use Rattle.tk_report.proofs.Offers.{flat_map-next, map-map, each-made, epoch-most}
use Rattle.tk_report.proofs.Offers.{before-front, ordered-front, each-front}
use Rattle.tk_run.specs.Rows.{Frame, AreRows, AreAdded}
use Rattle.tk_report.specs.Turns.{placed_before}
use Rattle.tk_run.specs.declared.server.Server.{Server}
use Rattle.tk_run.specs.Keeping.{saved_before}
use Rattle.tk_run.specs.Servers.{AreReadFrames, AreReady, answered}
use Rattle.tk_run.specs.Turns.{entries_seen}
use Rattle.tk_run.specs.Under.{ServesAs, IsIdle, AreIdle, AskedInTurn, client_under, wrote_under, asked_under}
use Rattle.tk_run.specs.Under.{reads_for, posed, reply_under, replies_from, replied_under, turn_under}
use Rattle.tk_run.proofs.AnswerLaws.{reply-in_range}
use Rattle.tk_run.proofs.RowsLaws.{rows-next, frames-told}
use Rattle.tk_run.proofs.SeenLaws.{turn-parts}

-- ---- lists

-- what two give alike for the numbers below one
flat_map-below : {A : Type 0} (f h : ℕ → List A) (n : ℕ) → ((c : ℕ) → c < n → f c ≡ h c) →
    flat_map f (range_with_len 0 n) ≡ flat_map h (range_with_len 0 n)
flat_map-below f h zero same = refl
flat_map-below f h (suc n) same =
    ap (λ k. flat_map f (range_with_len 0 k)) (sym (add-one n))
    ∙ flat_map-next f n
    ∙ ap₂ (λ front back. front ++ back)
    (flat_map-below f h n (λ c low. same c (omega (arith, low)))) (same n (omega arith))
    ∙ sym (flat_map-next h n)
    ∙ ap (λ k. flat_map h (range_with_len 0 k)) (add-one n)

map-below : {A : Type 0} (f h : ℕ → A) (n : ℕ) → ((c : ℕ) → c < n → f c ≡ h c) →
    map f (range_with_len 0 n) ≡ map h (range_with_len 0 n)
map-below f h zero same = refl
map-below f h (suc n) same =
    ap (λ k. map f (range_with_len 0 k)) (sym (add-one n))
    ∙ map-range_with_len_more f 0 n n (omega arith)
    ∙ ap₂ (λ front back. front ++ back ∷ [])
    (map-below f h n (λ c low. same c (omega (arith, low)))) (same n (omega arith))
    ∙ sym (map-range_with_len_more h 0 n n (omega arith))
    ∙ ap (λ k. map h (range_with_len 0 k)) (add-one n)

pub each-of : {X : Type 0} (P : X → Type 0) (f : ℕ → X) (a n : ℕ) →
    AllByRecursion P (map f (range_with_len a n)) → (k : ℕ) → a ≤ k → k < a + n → P (f k)
each-of P f a zero all k low high = absurd (omega (arith, low, high))
each-of P f a (suc n) all k low high =
    elim (cases_lt a k) [
      | inl later ↦
          each-of P f (a + 1) n all.1 k (omega (arith, later)) (omega (arith, high))
      | inr first ↦
          let same : a ≡ k = omega (arith, low, first) in
          subst (λ (i : ℕ). P (f i)) same all.0
    ]

module _ (S : Script) (b : WordBook) (H : History) (V : Serving) where
  -- ---- frames, client by client and server by server

  -- the frames for a server, with one client's more
  posed-next : (g c i : ℕ) →
      posed S b H V g c i ++ read_frame (read_under S b H V g c (i + 1)) ∷ []
      ≡ posed S b H V g (c + 1) i
  unfolding reads_for
  posed-next g c i =
      let read = λ (k : ℕ). read_under S b H V g k (i + 1) in
      sym (map-append read_frame (map read (range_with_len 0 c)) (read c ∷ []))
      ∙ ap (map read_frame) (sym (map-range_with_len_more read 0 c c (omega arith)))

  pub posed-none : (g i : ℕ) → [] ≡ posed S b H V g 0 i
  unfolding reads_for
  posed-none g i = refl

  -- the replies to a client, with one server's more
  replied-next : (g n c : ℕ) →
      replied_under S b H V g n c ++ reply_frame (reply_under S b H V g (n + 1) c) ∷ []
      ≡ replied_under S b H V g (n + 1) c
  unfolding replies_from
  replied-next g n c =
      let reply = λ (j : ℕ). reply_under S b H V g j c in
      sym (map-append reply_frame (map reply (range_with_len 1 n)) (reply (n + 1) ∷ []))
      ∙ ap (map reply_frame) (sym (map-range_with_len_more reply 1 n (n + 1) (omega arith)))

  pub replied-none : (g c : ℕ) → [] ≡ replied_under S b H V g 0 c
  unfolding replies_from
  replied-none g c = refl

  -- what a client asks is put after what those before it ask
  pub rows-asked : (g c : ℕ) (old new : List (List Frame)) (frames : List Frame) →
      AreRows S.shape.servers (posed S b H V g c) old →
      frames ≡ map (λ j. read_frame (read_under S b H V g c j)) (range_with_len 1 S.shape.servers) →
      AreAdded old frames new → AreRows S.shape.servers (posed S b H V g (c + 1)) new
  rows-asked g c old new frames rows are added =
      let frame = λ (j : ℕ). read_frame (read_under S b H V g c j) in
      rows-next S.shape.servers (posed S b H V g c) (posed S b H V g (c + 1))
      (λ (i : ℕ). frame (i + 1)) old new frames rows added
      (λ i d low. frames-told frame 1 S.shape.servers frames are i d low ∙ ap frame (omega arith))
      (λ i. posed-next g c i)

  -- what a server replies is put after what those before it reply
  pub rows-replied : (g n : ℕ) (old new : List (List Frame)) (frames : List Frame) →
      AreRows S.shape.clients (replied_under S b H V g n) old →
      frames
      ≡ map (λ c. reply_frame (reply_under S b H V g (n + 1) c)) (range_with_len 0 S.shape.clients) →
      AreAdded old frames new → AreRows S.shape.clients (replied_under S b H V g (n + 1)) new
  rows-replied g n old new frames rows are added =
      let frame = λ (c : ℕ). reply_frame (reply_under S b H V g (n + 1) c) in
      rows-next S.shape.clients (replied_under S b H V g n) (replied_under S b H V g (n + 1)) frame
      old new frames rows added
      (λ i d low. frames-told frame 0 S.shape.clients frames are i d low ∙ ap frame (omega arith))
      (λ c. replied-next g n c)

  -- ---- what a server answers

  -- a read in a turn is of the epoch that the client reads, and in range
  read-epoch : (g c j : ℕ) → (read_under S b H V g c j).epoch ≡ epoch_at H g c
  unfolding frame_with
  read-epoch g c j = refl

  pub reads-whole : (g c : ℕ) → IsBook S.shape b → IsLegal S.shape H → g < turn_count S.shape →
      c < S.shape.clients →
      AllByRecursion (IsRead S.shape) (map (read_under S b H V g c) (range_with_len 1 S.shape.servers))
  reads-whole g c serves legal turn_in client_in =
      asked-in_range S.shape b g c (epoch_at H g c)
      (target_under S H V g c (reader_under S b H V c g)) serves turn_in client_in
      (epoch-most S H g c legal turn_in client_in)

  -- so what lies for a server are the frames of reads in range
  pub posed-are : (g i : ℕ) (frames : List Frame) →
      IsBook S.shape b → IsLegal S.shape H → g < turn_count S.shape → i < S.shape.servers →
      frames ≡ posed S b H V g S.shape.clients i →
      AreReadFrames S.shape (reads_for S b H V g S.shape.clients (i + 1)) frames
  unfolding reads_for
  posed-are g i frames serves legal turn_in low are =
      record {
        in_range =
            each-made (IsRead S.shape) (λ (c : ℕ). read_under S b H V g c (i + 1)) 0 S.shape.clients
            (λ c from below.
            each-of (IsRead S.shape) (read_under S b H V g c) 1 S.shape.servers
            (reads-whole g c serves legal turn_in (omega (arith, below))) (i + 1) (omega arith)
            (omega (arith, low)));
        spelled = are;
      }

  module _ (g : ℕ) (Es : ℕ → List Placed) (tells : ServesAs S b H V g Es) where
    -- the reply of a server to a client
    reply-is : (c j : ℕ) → c < S.shape.clients →
        reply_for S.shape (Es j) (read_under S b H V g c j) ≡ reply_under S b H V g j c
    reply-is c j low =
        ap (λ e. reply_to S.shape (before (Es j) e) (read_under S b H V g c j)) (read-epoch g c j)
        ∙ sym (tells.reply c j (read_under S b H V g c j) low)

    -- what a server saw of a turn, when it has answered all reads
    pub seen-answered : (j : ℕ) →
        entries_seen S (words_of S.shape b) H g j
        ++ answered S.shape (Es j) (reads_for S b H V g S.shape.clients j)
        ≡ turn_under S b H V g j
    unfolding answered reads_for with_reply
    seen-answered j =
        let sees = λ (r : ReadFrame). bytes_of (with_reply S.shape (before (Es j) r.epoch) r) in
        let read = λ (c : ℕ). read_under S b H V g c j in
        let each : (c : ℕ) → c < S.shape.clients →
        sees (read c) ≡ bytes_of (read_replied S b H V j g c) =
        λ c low. ap (λ (r : ReplyFrame). bytes_of (read_frame (read c) ∷ reply_frame r ∷ []))
        (reply-is c j low)
        in
        ap (λ bytes. entries_seen S (words_of S.shape b) H g j ++ bytes)
        (flat_map-map sees read (range_with_len 0 S.shape.clients)
        ∙ flat_map-below (λ c. sees (read c)) (λ c. bytes_of (read_replied S b H V j g c))
        S.shape.clients each)
        ∙ turn-parts S b H (read_replied S b H V) g j

    -- the replies of server j in a turn, by client
    pub replies-by_client : (j : ℕ) →
        map reply_frame (map (reply_for S.shape (Es j)) (reads_for S b H V g S.shape.clients j))
        ≡ map (λ c. reply_frame (reply_under S b H V g j c)) (range_with_len 0 S.shape.clients)
    unfolding reads_for
    replies-by_client j =
        let clients = range_with_len 0 S.shape.clients in
        ap (map reply_frame) (map-map (reply_for S.shape (Es j)) (λ c. read_under S b H V g c j) clients)
        ∙ map-map reply_frame (λ c. reply_for S.shape (Es j) (read_under S b H V g c j)) clients
        ∙ map-below (λ c. reply_frame (reply_for S.shape (Es j) (read_under S b H V g c j)))
        (λ c. reply_frame (reply_under S b H V g j c)) S.shape.clients
        (λ c low. ap reply_frame (reply-is c j low))

    -- ---- what a client asks

    -- a filter that shows what the first server's writes before an epoch do
    abbrev Shows : ℕ → List Bool → Type 0
    Shows c marks =
        (hits : List ℕ) →
        all_marked marks hits ≡ is_shown S.shape (before (Es 1) (epoch_at H g c)) hits

    pub filter-shows : (c e : ℕ) (epoch : Epoch) (marks : List Bool) → e ≡ epoch_at H g c →
        IsEpochOf S.shape (Es 1) e epoch → marks ≡ epoch.filter → Shows c marks
    filter-shows c e epoch marks named is same hits =
        ap (λ (m : List Bool). all_marked m hits) same
        ∙ is.stands.shows hits
        ∙ ap (λ (n : ℕ). is_shown S.shape (before (Es 1) n) hits) named

    -- a client that has written asks for its target of the turn
    target-is : (c e : ℕ) (marks : List Bool) (client : ClientState) → c < S.shape.clients →
        client ≡ wrote_under S b H V g c → e ≡ epoch_at H g c → Shows c marks →
        target_over (words_of client.shape b) marks e client
        ≡ target_under S H V g c (reader_under S b H V c g)
    unfolding client_knowing
    target-is c e marks client low wrote epoch shows =
        let w = words_of S.shape b in
        let r = reader_under S b H V c g in
        let same : shown_by marks w ≡ V.shows g c =
        (λ i log s. shows (w.hits log s) i) ∙ sym (tells.shows c low)
        in
        ap (λ (s : ClientState). target_over (words_of s.shape b) marks e s) wrote
        ∙ ap (λ n. target S.shape (shown_by marks w) (at_epoch n r)) epoch
        ∙ ap (λ (f : ℕ → ℕ → Bool). target S.shape f (at_epoch (epoch_at H g c) r)) same

    -- so its frames are those that the servers read
    pub frames-are : (c e : ℕ) (marks : List Bool) (client : ClientState) → c < S.shape.clients →
        client ≡ wrote_under S b H V g c → e ≡ epoch_at H g c → Shows c marks →
        map read_frame (asked client.shape b g client.number e
        (target_over (words_of client.shape b) marks e client))
        ≡ map (λ j. read_frame (read_under S b H V g c j)) (range_with_len 1 S.shape.servers)
    unfolding client_knowing
    frames-are c e marks client low wrote epoch shows =
        let t = target_under S H V g c (reader_under S b H V c g) in
        ap (λ (t : Option Target). map read_frame (asked client.shape b g client.number e t))
        (target-is c e marks client low wrote epoch shows)
        ∙ ap (λ (s : ClientState). map read_frame (asked s.shape b g s.number e t)) wrote
        ∙ ap (λ n. map read_frame (asked S.shape b g c n t)) epoch
        ∙ map-map read_frame (read_under S b H V g c) (range_with_len 1 S.shape.servers)

    -- and then the client waits for the replies
    pub client-asked : (c e : ℕ) (marks : List Bool) (client new : ClientState) →
        c < S.shape.clients →
        client ≡ wrote_under S b H V g c → e ≡ epoch_at H g c → Shows c marks →
        new ≡ opened g e (target_over (words_of client.shape b) marks e client) client →
        new ≡ asked_under S b H V g c
    unfolding asked_under
    client-asked c e marks client new low wrote epoch shows is =
        let t = target_under S H V g c (reader_under S b H V c g) in
        is
        ∙ ap (λ (t : Option Target). opened g e t client)
        (target-is c e marks client low wrote epoch shows)
        ∙ ap (λ n. opened g n t client) epoch
        ∙ ap (opened g (epoch_at H g c) t) wrote

    -- ---- what a client takes

    -- writes before a mark of entries in order are in order, and their table's blocks are whole
    module _ (orders : (j : ℕ) → 1 ≤ j → j ≤ S.shape.servers → IsOrder S.shape (Es j)) where
      reply-whole : (c j : ℕ) → c < S.shape.clients → 1 ≤ j → j ≤ S.shape.servers →
          IsRead S.shape (read_under S b H V g c j) → IsReply S.shape (reply_under S b H V g j c)
      reply-whole c j low from to in_range =
          let E = Es j in
          let e = epoch_at H g c in
          let R = before E e in
          let front = before-front E e in
          let order = orders j from to in
          let ordered = ordered-front S.shape R front.0
          (subst (AreOrdered S.shape) front.1 (order-writes S.shape E order)) in
          let storable = each-front (IsStorable S.shape) R front.0
          (subst (AllByRecursion (IsStorable S.shape)) front.1
          (fitting-storable S.shape (records E) (order-fitting S.shape E order)))
          in
          subst (IsReply S.shape) (sym (tells.reply c j (read_under S b H V g c j) low))
          (reply-in_range S.shape R (read_under S b H V g c j) ordered storable in_range)

      -- the replies to a client are in range
      replies-whole : (c : ℕ) → IsBook S.shape b → IsLegal S.shape H → g < turn_count S.shape →
          c < S.shape.clients →
          AllByRecursion (IsReply S.shape) (replies_from S b H V g S.shape.servers c)
      unfolding replies_from
      replies-whole c serves legal turn_in low =
          each-made (IsReply S.shape) (λ (j : ℕ). reply_under S b H V g j c) 1 S.shape.servers
          (λ j from below.
          reply-whole c j low from (omega (arith, below))
          (each-of (IsRead S.shape) (read_under S b H V g c) 1 S.shape.servers
          (reads-whole g c serves legal turn_in low) j from below))

      -- from which it goes on
      pub client-took : (c : ℕ) (old new : ClientState) (replies : List (List ℕ)) →
          IsBook S.shape b → IsLegal S.shape H → g < turn_count S.shape → c < S.shape.clients →
          old ≡ asked_under S b H V g c → replies ≡ replied_under S b H V g S.shape.servers c →
          new ≡ after_replies (words_of old.shape b) replies old →
          new ≡ client_under S b H V (g + 1) c
      unfolding asked_under client_knowing reader_under replies_from
      client-took c old new replies serves legal turn_in low asked_is replies_are is =
          let w = words_of S.shape b in
          let e = epoch_at H g c in
          let r = reader_under S b H V c g in
          let t = target_under S H V g c r in
          let rs = replies_from S b H V g S.shape.servers c in
          let read : frames_in S.shape replies ≡ rs =
          ap (frames_in S.shape) replies_are
          ∙ frames_in-spelled S.shape rs (replies-whole c serves legal turn_in low)
          in
          is
          ∙ ap (λ (s : ClientState). after_replies (words_of s.shape b) replies s) asked_is
          ∙ ap (λ (fs : List ReplyFrame). idle S.shape c (writing_before S c (g + 1))
          (after_read S.shape (at_epoch e r) t (answer_in S.shape w fs t))) read
          ∙ ap (λ (n : ℕ). idle S.shape c (writing_before S c (g + 1)) (reader_under S b H V c n))
          (sym (add-one g))

-- ---- clients, whatever they know

module _ (S : Script) (H : History) (g c : ℕ) where
  -- one that is idle and one that asked
  pub idle-opened : (client new : ClientState) (e : ℕ) (t : Option Target) →
      IsIdle S (g + 1) c client → e ≡ epoch_at H g c → new ≡ opened g e t client →
      AskedInTurn S H g c new
  idle-opened client new e t is named opens =
      record {
        same = ap (λ (s : ClientState). s.shape) opens ∙ is.same;
        number = ap (λ (s : ClientState). s.number) opens ∙ is.number;
        writing = ap (λ (s : ClientState). s.writing) opens ∙ is.writing;
        target = t;
        waits =
            ap (λ (s : ClientState). s.read) opens
            ∙ ap (λ n. Some (record { turn = g; epoch = n; target = t })) named;
      }

  pub asking-taken : (client new : ClientState) (w : BookWords) (replies : List (List ℕ)) →
      AskedInTurn S H g c client → new ≡ after_replies w replies client → IsIdle S (g + 1) c new
  asking-taken client new w replies is after =
      record {
        same = ap (λ (s : ClientState). s.shape) after ∙ is.same;
        number = ap (λ (s : ClientState). s.number) after ∙ is.number;
        writing = ap (λ (s : ClientState). s.writing) after ∙ is.writing;
        closed = ap (λ (s : ClientState). s.read) after;
      }

module _ (S : Script) (g : ℕ) where
  -- an idle client, by what it knows
  idle-is : (c : ℕ) (client : ClientState) → IsIdle S g c client →
      client ≡ idle S.shape c (writing_before S c g) client.reader
  idle-is c client is i =
      record {
        shape = is.same i;
        number = is.number i;
        writing = is.writing i;
        reader = client.reader;
        read = is.closed i;
      }

  abbrev blank : ClientState
  blank = idle S.shape 0 (new_writing []) (new_reader [])

  abbrev known-by : List ClientState → ℕ → Reader
  known-by clients c = (slice_index_or clients c blank).reader

  -- idle clients as those who write
  pub idle-group : (group : Group) → group.said ≡ said_before S g →
      AreIdle S g group.clients.items → IsSomeGroup S g group
  unfolding client_knowing
  idle-group group said are =
      let clients = group.clients.items in
      record {
        knows = known-by clients;
        is = record {
          said = said;
          clients = record {
            counted = are.counted;
            each = λ c d within.
                idle-is c (slice_index_or clients c d) (are.each c d within)
                ∙ ap (λ (s : ClientState). idle S.shape c (writing_before S c g) s.reader)
                (get_or_default clients c d blank within);
          };
        };
      }

  pub group-idle : (knows : ℕ → Reader) (clients : List ClientState) →
      AreClients S.shape.clients (client_knowing S knows g) clients → AreIdle S g clients
  unfolding client_knowing
  group-idle knows clients are =
      record {
        counted = are.counted;
        each = λ c d within.
            let is = are.each c d within in
            record {
              same = ap (λ (s : ClientState). s.shape) is;
              number = ap (λ (s : ClientState). s.number) is;
              writing = ap (λ (s : ClientState). s.writing) is;
              closed = ap (λ (s : ClientState). s.read) is;
            };
      }

-- ---- before the first turn

module _ (S : Script) (b : WordBook) (H : History) where
  pub placed-first : placed_before S (words_of S.shape b) H 0 ≡ []
  unfolding entries_before
  placed-first = refl

  pub saved-first : saved S.shape [] ≡ saved_before S b H 0
  unfolding entries_before
  saved-first = refl

  pub ready-first : (servers : List Server) → AreReady S.shape [] servers →
      AreReady S.shape (placed_before S (words_of S.shape b) H 0) servers
  unfolding entries_before
  ready-first servers are = are

  pub clients-first : (V : Serving) (clients : List ClientState) →
      AreClients S.shape.clients (client_knowing S (known_first S) 0) clients →
      AreClients S.shape.clients (client_under S b H V 0) clients
  unfolding client_knowing reader_under
  clients-first V clients are =
      record { counted = are.counted; each = λ c d within. are.each c d within }
