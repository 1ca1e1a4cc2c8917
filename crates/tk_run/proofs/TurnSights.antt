-- What servers see of a turn of threads, and where it leaves the run.
use Rattle.std.proofs.Common.{◌≡◌, ℕ, suc, ◌+◌, ◌<◌, ◌≤◌, List, [], ◌∷◌, ◌++◌, length, All, refl, ap, ap₂, sym, ◌∙◌}
use Rattle.std.proofs.Common.{arith, append-nil}
use Rattle.std.specs.Prelude.{slice_index_or, flat_map}
use Rattle.std.specs.List.{range_with_len}
use Rattle.std.proofs.lemmas.List.FromFn.{length-map-range_with_len, get_or-map-range_with_len}
use Rattle.tk_shape.specs.declared.shape.Shape.{Shape}
use Rattle.tk_shape.specs.Lengths.{turn_count}
use Rattle.tk_frames.specs.declared.write_frame.WriteFrame.{WriteFrame}
use Rattle.tk_frames.specs.Spelling.{placed_frame, read_frame, reply_frame}
use Rattle.tk_schedule.specs.declared.history.TurnOrder.{TurnOrder}
use Rattle.tk_schedule.specs.declared.history.History.{History}
use Rattle.tk_script.specs.declared.script.Script.{Script}
use Rattle.tk_words.specs.Words.{WordBook, words_of}
use Rattle.tk_report.specs.Entries.{write_at, entries_at}
use Rattle.tk_report.specs.Exchange.{bytes_of}
use Rattle.tk_report.specs.Serving.{Serving, read_under, read_replied}
use Rattle.tk_cluster.specs.Passes.{Passing}
use Rattle.tk_cluster.specs.Tellings.{Telling}
use Rattle.tk_report.specs.declared.group.Group.{Group}
use Rattle.tk_run.specs.declared.pinned_write.PinnedWrite.{PinnedWrite}
use Rattle.tk_run.specs.declared.talk.Talk.{Talk}
use Rattle.tk_report.specs.Clients.{AreClients}
use Rattle.tk_run.specs.Under.{client_under, reply_under}
use Rattle.tk_run.specs.Ran.{Ran}
use Rattle.tk_run.specs.Rows.{AreRows}
use Rattle.tk_run.specs.Courses.{GoesOn, IsTalk, AreTalks, HasTalked, talk_seen, AreSights, IsCourse, HasWritten}
use Rattle.tk_run.proofs.SeenLaws.{turn-parts}
use Rattle.tk_run.proofs.GoesOnLaws.{filled, filled_legal, filled_begins}

-- what a list gives, place by place
flat_map-by : {X A : Type 0} (f : X → List A) (h : ℕ → List A) (off : ℕ) (xs : List X) →
    ((k : ℕ) (d : X) → k < length xs → f (slice_index_or xs k d) ≡ h (off + k)) →
    flat_map f xs ≡ flat_map h (range_with_len off (length xs))
flat_map-by f h off [] same = refl
flat_map-by {X} {A} f h off (x ∷ xs) same =
    let here : off + 0 ≡ off = omega arith in
    ap₂ (λ (a c : List A). a ++ c) (same 0 x (omega arith) ∙ ap h here)
    (flat_map-by f h (off + 1) xs
    (λ k d low.
    let next : off + suc k ≡ off + 1 + k = omega arith in
    same (suc k) d (omega (arith, low)) ∙ ap h next))

-- a run may always go on
pub some_goes_on : {shape : Shape} {write : ℕ → ℕ → WriteFrame} {K : List TurnOrder} {xs : List Passing}
    {p : Telling} → Ran shape write K xs p → length K ≤ turn_count shape → GoesOn shape K (filled shape K)
some_goes_on {shape} {write} {K} ran within =
    record {
      legal = filled_legal shape K within ran.turns;
      begins = filled_begins shape K;
    }

module _ {S : Script} {b : WordBook} {H : History} {V : Serving} {g : ℕ} where
  -- a read and its reply, as the server at a place sees them
  talk_read : {c : ℕ} {talk : Talk} (i : ℕ) → IsTalk S b H V g c talk → i < S.shape.servers →
      talk_seen i talk ≡ bytes_of (read_replied S b H V (i + 1) g c)
  talk_read {c} {talk} i is low =
      let server : 1 + i ≡ i + 1 = omega arith in
      let asked : slice_index_or talk.asked.items i [] ≡ read_frame (read_under S b H V g c (i + 1)) =
      ap (λ frames. slice_index_or frames i []) is.asked
      ∙ get_or-map-range_with_len (λ j. read_frame (read_under S b H V g c j)) 1 S.shape.servers i
      (i + 1) [] low server
      in
      let replied : slice_index_or talk.replies.items i []
      ≡ reply_frame (reply_under S b H V g (i + 1) c) =
      ap (λ frames. slice_index_or frames i []) is.replied
      ∙ get_or-map-range_with_len (λ j. reply_frame (reply_under S b H V g j c)) 1 S.shape.servers i
      (i + 1) [] low server
      in
      ap₂ (λ (x y : List ℕ). x ++ y) asked
      (replied ∙ sym (append-nil (reply_frame (reply_under S b H V g (i + 1) c))))

  -- every server was asked, and replied
  pub have_talked : {talks : List Talk} → AreTalks S b H V g talks →
      All (HasTalked S.shape.servers) talks
  have_talked are k d low =
      let is = are.each k d low in
      record {
        asked = ap length is.asked ∙ length-map-range_with_len
            (λ j. read_frame (read_under S b H V g k j)) 1 S.shape.servers;
        replied = ap length is.replied ∙ length-map-range_with_len
            (λ j. reply_frame (reply_under S b H V g j k)) 1 S.shape.servers;
      }

  pub sights_seen : {bytes : List ℕ} {talks : List Talk} {sights : List (List ℕ)} →
      bytes ≡ flat_map placed_frame (entries_at (write_at S (words_of S.shape b)) H g) →
      AreTalks S b H V g talks →
      AreRows S.shape.servers (λ i. bytes ++ flat_map (talk_seen i) talks) sights →
      AreSights S b H V g sights
  sights_seen {bytes} {talks} {sights} are spoken rows =
      record {
        counted = rows.counted;
        each = λ i d low.
            let server : i < S.shape.servers = omega (arith, low, rows.counted) in
            let reads = λ (c : ℕ). bytes_of (read_replied S b H V (i + 1) g c) in
            let back =
            flat_map-by (talk_seen i) reads 0 talks
            (λ k x inside.
            let here : k ≡ 0 + k = omega arith in
            talk_read i (spoken.each k x inside) server ∙ ap reads here)
            in
            rows.each i d low
            ∙ (ap₂ (λ (x y : List ℕ). x ++ y) are
            (back ∙ ap (λ n. flat_map reads (range_with_len 0 n)) spoken.counted)
            ∙ turn-parts S b H (read_replied S b H V) g (i + 1));
      }

-- when all have read, the run stands before the next turn
pub read_course : {S : Script} {b : WordBook} {V : History → Serving} {g : ℕ}
    {turns : List TurnOrder} {old : Group} {passes : List Passing} {p : Telling} {deeds : List PinnedWrite} {bytes : List ℕ} (new : Group) →
    HasWritten S b V g turns old passes p deeds bytes → new.said ≡ old.said →
    ((H : History) → GoesOn S.shape turns H →
    AreClients S.shape.clients (client_under S b H (V H) (g + 1)) new.clients.items) →
    IsCourse S b V (g + 1) turns new passes p
read_course new h said clients =
    record { counted = h.counted; said = said ∙ h.said; ran = h.ran; clients = clients }
