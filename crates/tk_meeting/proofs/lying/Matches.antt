-- Each tape of a group is matched with just one of another: the reads over it are found read by read.
use Rattle.tk_meeting.proofs.Terms.{◌≡◌, ℕ, ◌≤◌, ◌<◌, List, [], ◌∷◌, length, ◌==◌, cond, Bool, true, false, Option}
use Rattle.tk_meeting.proofs.Terms.{Some, None, Result, ◌∙◌, refl, ap, sym, arith, subst, ltb-true, turn_count}
use Rattle.tk_meeting.proofs.Terms.{tape_len, vector_len, Shape, shares, WordBook, words_of, drawn, BookWords}
use Rattle.tk_meeting.proofs.Terms.{read_cell, for_each, cell_pieces, piece_seed, piece_vector, fresh_seeds}
use Rattle.tk_meeting.proofs.Terms.{fresh_vectors, reply_frame, ReadFrame, reply_to, Script, frame_with, pair_for}
use Rattle.tk_meeting.proofs.Terms.{frame_for, OpenRead, Pairs, shown_read_cell, normal_for, regained, unnormal_for}
use Rattle.tk_meeting.proofs.Terms.{MemberState, Fault, is_client, Deed, Hidden, doer, pair_open, answer_to, frame_open}
use Rattle.tk_meeting.proofs.Terms.{pair_noted, no_pairs, pairs_of, shown_tape, MatchedOneToOne, opening}
use Rattle.tk_meeting.proofs.lying.Outcomes.{table_of}
use Rattle.tk_meeting.proofs.lying.Books.{IsOf}
use Rattle.tk_meeting.proofs.lying.Cores.{Core, core, left, does_with, own_answer, unless_core, went_core, next_core}
use Rattle.tk_meeting.proofs.lying.Cores.{core_step, core_noted, core_pairs, pairs-core}
use Rattle.tk_meeting.proofs.lying.Same.{does-same}
use Rattle.tk_meeting.proofs.lying.Reads.{IsBelow}
use Rattle.tk_meeting.proofs.lying.Asked.{AllInRun, opening-runs, step-moves, AreNoted, all-noted, pairs-stay}
use Rattle.tk_privacy.proofs.Offers as privacy

-- the read frame for server j of a client's read of two buckets, whose words are this read cell
abbrev pub frame_from : Shape → List ℕ → ℕ → ℕ → ℕ → ℕ × ℕ → ℕ → ReadFrame
frame_from shape cell g c e pair j =
    let size = vector_len shape in
    let seeds = for_each (piece_seed shape) (cell_pieces shape cell) in
    let vectors = for_each (piece_vector shape) (cell_pieces shape cell) in
    frame_with shape true g c e (shares size pair.0 seeds.first vectors.first)
    (shares size pair.1 seeds.second vectors.second) j

-- the members of a group over what is regained from a tape that is shown: what the hidden server gets of a read is
-- found once its buckets are known
module _ (S : Script) (h : Hidden) (z : List ℕ) where
  abbrev pub found_book : WordBook
  found_book = drawn (regained S z)

  abbrev pub found_frame : ℕ → OpenRead → ReadFrame
  found_frame c read =
      let pair = pair_open S.shape found_book c read in
      frame_from S.shape (shown_read_cell S.shape h.server pair (read_cell S.shape (regained S z) read.turn c))
      read.turn c read.epoch pair h.server

  abbrev pub found_reply : ℕ → ℕ → Option OpenRead → List ℕ
  found_reply table c None = []
  found_reply table c (Some read) = reply_frame (reply_to S.shape (h.held table) (found_frame c read))

  abbrev pub found_answer : ℕ → MemberState → List ℕ
  found_answer table m = found_reply table m.client.number m.client.read

  abbrev pub found_pairs : List Deed → Pairs
  found_pairs ds = core_pairs S.shape h.server found_answer found_book (core (opening S)) no_pairs ds

  -- the tape that shows this
  abbrev pub found_tape : List Deed → List ℕ
  found_tape ds = unnormal_for S h.server (found_pairs ds) z

  module _ (low : 1 ≤ h.server) (whole : length z ≡ tape_len S.shape) where
    -- ---- over a tape whose change is undone

    module _ (pairs : Pairs) where
      abbrev undone : WordBook
      undone = drawn (unnormal_for S h.server pairs z)

      words-same : words_of S.shape undone ≡ words_of S.shape found_book
      words-same = privacy.words-undone S h.server low pairs z whole

      -- where the buckets of an open read are those of the change, the hidden server gets the same frame
      frame-same : (c : ℕ) (read : OpenRead) → read.turn < turn_count S.shape → c < S.shape.clients →
          pair_open S.shape found_book c read ≡ pairs read.turn c →
          frame_open S.shape undone c h.server read ≡ found_frame c read
      unfolding fresh_seeds fresh_vectors
      frame-same c read turn client is =
          let pair = pair_open S.shape found_book c read in
          let g = read.turn in
          ap (λ (w : BookWords).
          frame_for S.shape undone g c read.epoch (pair_for w g c read.target) h.server)
          words-same
          ∙ ap (λ (cell : List ℕ). frame_from S.shape cell g c read.epoch pair h.server)
          (privacy.reads-undone S h.server low pairs z whole g c turn client)
          ∙ ap (λ (p : ℕ × ℕ).
          frame_from S.shape (shown_read_cell S.shape h.server p (read_cell S.shape (regained S z) g c)) g c read.epoch
          pair h.server) (sym is)

      -- so it answers the same
      reply-same : (table c : ℕ) (o : Option OpenRead) → c < S.shape.clients → IsBelow (turn_count S.shape) o →
          IsOf S.shape found_book pairs c o →
          answer_to h undone table S.shape c o ≡ found_reply table c o
      reply-same table c None client turn is = refl
      reply-same table c (Some read) client turn is =
          ap (λ (r : ReadFrame). reply_frame (reply_to S.shape (h.held table) r)) (frame-same c read turn client is)

      -- ---- the same members

      -- clients of the script
      abbrev AreClients : Core → Type 0
      AreClients k =
          (c : ℕ) → (k.members c).client.shape ≡ S.shape

      abbrev AreNumbered : Core → Type 0
      AreNumbered k =
          (c : ℕ) → (k.members c).client.number ≡ c

      next-same : (k : Core) (d : Deed) → AllInRun k → AreClients k → AreNumbered k →
          ((c : ℕ) → IsOf S.shape found_book pairs c (k.members c).client.read) →
          core_step S.shape h.server (own_answer h undone) undone k d
          ≡ core_step S.shape h.server found_answer found_book k d
      next-same k d run shapes numbers are = either (is_client S.shape (doer d)) refl
        where
          either : (t : Bool) → is_client S.shape (doer d) ≡ t →
              core_step S.shape h.server (own_answer h undone) undone k d
              ≡ core_step S.shape h.server found_answer found_book k d
          either true client =
              let c = doer d in
              let m = k.members c in
              let there : c < S.shape.clients = ltb-true c S.shape.clients client in
              let turns : IsBelow (turn_count S.shape) m.client.read =
              below m.client.read
              (subst (λ (x : Shape). m.written ≤ turn_count x) (shapes c) (run c).within) (run c).behind (run c).below
              in
              let own : own_answer h undone (table_of d) m ≡ found_answer (table_of d) m =
              (λ i. answer_to h undone (table_of d) (shapes c i) (numbers c i) m.client.read)
              ∙ reply-same (table_of d) c m.client.read there turns (are c)
              ∙ ap (λ (x : ℕ). found_reply (table_of d) x m.client.read) (sym (numbers c))
              in
              let words : words_of m.client.shape undone ≡ words_of m.client.shape found_book =
              subst (λ (x : Shape). words_of x undone ≡ words_of x found_book) (sym (shapes c)) words-same
              in
              ap (λ (answer : List ℕ). next_core S.shape c (left (does_with h.server answer undone m d)) k) own
              ∙ ap (λ (r : Result MemberState Fault). next_core S.shape c r k)
              (does-same undone found_book h.server (found_answer (table_of d) m) m d words)
            where
              below : (o : Option OpenRead) → (k.members (doer d)).written ≤ turn_count S.shape →
                  (k.members (doer d)).asked ≤ (k.members (doer d)).written → IsBelow (k.members (doer d)).asked o →
                  IsBelow (turn_count S.shape) o
              below None within behind low = tt
              below (Some read) within behind low = omega (arith, within, behind, low)
          either false client =
              let c = doer d in
              let m = k.members c in
              ap (λ (t : Bool).
              cond t (unless_core (k.ended c) k (went_core c (left (does_with h.server (own_answer h undone (table_of d) m) undone m d)) k)) k)
              client
              ∙ sym (ap (λ (t : Bool).
              cond t (unless_core (k.ended c) k (went_core c (left (does_with h.server (found_answer (table_of d) m) found_book m d)) k)) k)
              client)

      noted-same : (k : Core) (p : Pairs) → AreClients k →
          core_noted S.shape undone k p ≡ core_noted S.shape found_book k p
      noted-same k p shapes = λ i g c. at g c (p g c) (k.members c).client.read i
        where
          at : (g c : ℕ) (old : ℕ × ℕ) (o : Option OpenRead) →
              pair_noted S.shape undone g c old o
              ≡ pair_noted S.shape found_book g c old o
          at g c old None = refl
          at g c old (Some read) =
              ap (λ (w : BookWords).
              cond (read.turn == g) (pair_for w read.turn c read.target) old)
              words-same

      -- The buckets that are changed are those that either run notes in the end. Then both runs note the same.
      abbrev AreOfEither : Core → Pairs → List Deed → Type 0
      AreOfEither k p ds =
          (g c : ℕ) (pair : ℕ × ℕ) →
          core_pairs S.shape h.server (own_answer h undone) undone k p ds g c ≡ pair →
          core_pairs S.shape h.server found_answer found_book k p ds g c ≡ pair → pairs g c ≡ pair

      runs-same : (ds : List Deed) (k : Core) (p : Pairs) → AllInRun k → AreClients k → AreNumbered k →
          AreNoted S.shape h.server found_answer found_book k p → AreOfEither k p ds →
          core_pairs S.shape h.server (own_answer h undone) undone k p ds
          ≡ core_pairs S.shape h.server found_answer found_book k p ds
      unfolding core_pairs
      runs-same [] k p run shapes numbers noted of = refl
      runs-same (d ∷ ds) k p run shapes numbers noted of =
          let next = core_step S.shape h.server found_answer found_book k d in
          let later = core_noted S.shape found_book next p in
          let moves = step-moves S.shape h.server found_answer found_book k d run in
          let same_next = next-same k d run shapes numbers (λ c. of-open c (k.members c).client.read refl) in
          let lift : core_pairs S.shape h.server (own_answer h undone) undone k p (d ∷ ds)
          ≡ core_pairs S.shape h.server (own_answer h undone) undone next later ds =
          ap (λ (n : Core). core_pairs S.shape h.server (own_answer h undone) undone n (core_noted S.shape undone n p) ds)
          same_next
          ∙ ap (λ (q : Pairs). core_pairs S.shape h.server (own_answer h undone) undone next q ds)
          (noted-same next p (λ c. (moves c).shape_is ∙ shapes c))
          in
          lift
          ∙ runs-same ds next later (λ c. (moves c).run) (λ c. (moves c).shape_is ∙ shapes c)
          (λ c. (moves c).number_is ∙ numbers c)
          (all-noted S.shape h.server found_answer found_book next p)
          (λ g c pair one two. of g c pair (ap (λ (q : Pairs). q g c) lift ∙ one) two)
        where
          undone-noted : (c : ℕ) → IsOf S.shape undone p c (k.members c).client.read
          undone-noted c = at (k.members c).client.read (noted c)
            where
              at : (o : Option OpenRead) → IsOf S.shape found_book p c o → IsOf S.shape undone p c o
              at None is = tt
              at (Some read) is = ap (λ (w : BookWords). pair_for w read.turn c read.target) words-same ∙ is

          of-open : (c : ℕ) (o : Option OpenRead) → (k.members c).client.read ≡ o → IsOf S.shape found_book pairs c o
          of-open c None is = tt
          of-open c (Some read) is =
              let g = read.turn in
              let here : pair_open S.shape found_book c read ≡ p g c = subst (IsOf S.shape found_book p c) is (noted c) in
              let low_turn : g < (k.members c).asked = subst (IsBelow (k.members c).asked) is (run c).below in
              let one = pairs-stay S.shape h.server (own_answer h undone) undone (d ∷ ds) k p run undone-noted g c low_turn
              in
              let two = pairs-stay S.shape h.server found_answer found_book (d ∷ ds) k p run noted g c low_turn in
              here ∙ sym (of g c (p g c) one two)

      pub notes-same : (ds : List Deed) → AreOfEither (core (opening S)) no_pairs ds →
          pairs_of S h undone ds ≡ found_pairs ds
      notes-same ds of =
          pairs-core S.shape h undone (opening S) no_pairs ds
          ∙ runs-same ds (core (opening S)) no_pairs (opening-runs S) (λ c. refl) (λ c. refl) (λ c. tt) of

    -- ---- the one tape that shows this

    module _ (ds : List Deed) where
      pub found-shows : shown_tape S h ds (found_tape ds) ≡ z
      found-shows =
          ap (λ (q : Pairs). normal_for S h.server q (found_tape ds))
          (notes-same (found_pairs ds) ds (λ g c pair one two. two))
          ∙ privacy.normal-unnormal S h.server low (found_pairs ds) z whole

      pub found-long : length (found_tape ds) ≡ tape_len S.shape
      found-long = privacy.length-unnormal S h.server low (found_pairs ds) z whole

      pub found-only : (v : List ℕ) → length v ≡ tape_len S.shape → shown_tape S h ds v ≡ z → v ≡ found_tape ds
      found-only v long shows =
          let own : Pairs = pairs_of S h (drawn v) ds in
          let back : v ≡ unnormal_for S h.server own z =
          sym (privacy.unnormal-normal S h.server low own v long) ∙ ap (unnormal_for S h.server own) shows
          in
          let same : own ≡ pairs_of S h (drawn (unnormal_for S h.server own z)) ds =
          ap (λ (t : List ℕ). pairs_of S h (drawn t) ds) back
          in
          let found : own ≡ found_pairs ds =
          same
          ∙ notes-same own ds (λ g c pair one two.
          ap (λ (q : Pairs). q g c)
          (same ∙ pairs-core S.shape h (drawn (unnormal_for S h.server own z)) (opening S) no_pairs ds)
          ∙ one)
          in
          back ∙ ap (λ (q : Pairs). unnormal_for S h.server q z) found

pub matched-one_to_one : MatchedOneToOne
matched-one_to_one A B h are deeds others u whole =
    let z : List ℕ = shown_tape A h deeds u in
    let long : length z ≡ tape_len B.shape =
    (privacy.normal-IsTape A u whole h.server (pairs_of A h (drawn u) deeds)).whole ∙ ap tape_len are.one_shape
    in
    record {
      tape = found_tape B h z others;
      are =
          record {
            tape = whole;
            other_tape = found-long B h z are.hidden_low long others;
            shown = sym (found-shows B h z are.hidden_low long others);
          };
      only = λ v matched. found-only B h z are.hidden_low long others v matched.other_tape (sym matched.shown);
    }
