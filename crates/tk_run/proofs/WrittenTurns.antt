-- A turn of a run of threads in which all have written and pinned.
use Rattle.std.proofs.Common.{◌≡◌, ℕ, ◌+◌, ◌<◌, ◌≤◌, List, [], ◌∷◌, ◌++◌, length, map, Some, All, ap, ap₂, sym, ◌∙◌}
use Rattle.std.proofs.Common.{subst, arith, length-append, count_by}
use Rattle.std.specs.Prelude.{IsTrue, slice_index, slice_index_or, flat_map}
use Rattle.std.specs.List.{list_all}
use Rattle.std.proofs.lemmas.List.{get_or-map}
use mathlib.Core.List.{IsPrefix}
use Rattle.tk_shape.specs.Lengths.{turn_count}
use Rattle.tk_frames.specs.declared.write_frame.WriteFrame.{WriteFrame}
use Rattle.tk_frames.specs.declared.entry.Placed.{Placed}
use Rattle.tk_frames.specs.Laws.{IsOneSpelling}
use Rattle.tk_frames.specs.Ranges.{IsWrite}
use Rattle.tk_frames.specs.Spelling.{write_frame, placed_frame}
use Rattle.tk_frames.specs.Order.{is_mark_entry}
use Rattle.tk_schedule.specs.declared.item.Item.{Item}
use Rattle.tk_schedule.specs.declared.history.TurnOrder.{TurnOrder}
use Rattle.tk_schedule.specs.declared.history.History.{History}
use Rattle.tk_schedule.specs.Schedule.{IsTurn, phase_of, phases_over, order_at, epoch_at, is_within, is_mark}
use Rattle.tk_schedule.proofs.Offers.{turn_within}
use Rattle.tk_script.specs.declared.script.Script.{Script}
use Rattle.tk_words.specs.Words.{WordBook, words_of}
use Rattle.tk_order.proofs.Offers.{marks_under_zero}
use Rattle.tk_report.specs.Entries.{write_at, placed_from, placed_after, entries_before, entries_at}
use Rattle.tk_report.specs.Queues.{said_before}
use Rattle.tk_report.proofs.Offers.{write_at-client, one-mark}
use Rattle.tk_cluster.specs.Sets.{StandsAtMark}
use Rattle.tk_cluster.specs.Passes.{Passing}
use Rattle.tk_cluster.specs.Tellings.{Telling}
use Rattle.tk_report.specs.declared.group.Group.{Group}
use Rattle.tk_run.specs.declared.pinned_write.PinnedWrite.{PinnedWrite}
use Rattle.tk_run.specs.declared.actors.Desk.{Desk}
use Rattle.tk_run.specs.Acting.{Acted, AreFrames, frames_on, deeds_on}
use Rattle.tk_report.specs.Clients.{AreClients}
use Rattle.tk_report.specs.Serving.{Serving}
use Rattle.tk_run.specs.Turns.{placed_before}
use Rattle.tk_run.specs.Under.{wrote_under}
use Rattle.tk_run.specs.Ran.{HasTurned, turn_of, set_on, Ran}
use Rattle.tk_run.specs.Courses.{IsCourse, GoesOn, AreSets, HasWritten, IsInTurn, entries_behind}
use Rattle.tk_run.proofs.ActedLaws.{frames_stay, acted_turned}
use Rattle.tk_run.proofs.Brought.{brings_within}
use Rattle.tk_run.proofs.RanNext.{Passed, passed, passed_brings, ran_counted, came_legal, ran_next, sets_stand}
use Rattle.tk_run.proofs.GoesOnLaws.{begins_before, begins_entries, begins_turn}

module _ (S : Script) (b : WordBook) where
  -- what the clients of the run write
  abbrev pub writes : ℕ → ℕ → WriteFrame
  writes = write_at S (words_of S.shape b)

  own_writes : (g c : ℕ) → (writes g c).client ≡ c
  own_writes g c = write_at-client S (words_of S.shape b) g c

  -- what is known of turn g before it is noted: which turn came about, and what follows of what is seen of it
  pub record Came (g : ℕ) (K : List TurnOrder) (zs : List Passing) (q : Telling) (deeds : List PinnedWrite)
      (frames : List (List ℕ)) (now : TurnOrder) : Type 0 where
    pub counted : length deeds ≡ S.shape.clients
    pub within : All (IsInTurn S.shape g) deeds
    pub order : IsTrue (list_all (is_within S.shape.clients) now.order)
    pub marks : count_by is_mark now.order ≤ 1
    pub few : length now.order ≤ S.shape.clients + 1
    pub frames_are : AreFrames S.shape (writes g) frames
    pub written : (V : History → Serving) (after : Group) (bytes : List ℕ) → after.said ≡ said_before S (g + 1) →
        ((H : History) → GoesOn S.shape K H →
        AreClients S.shape.clients (wrote_under S b H (V H) g) after.clients.items) →
        bytes ≡ flat_map placed_frame
        (placed_from (writes g) (entries_behind S.shape g + 1) (phase_of S.shape g) now.order) →
        HasWritten S b V g (K ++ now ∷ []) after zs q deeds bytes

  module _ (K : List TurnOrder) (xs : List Passing) (p : Telling) (deeds : List PinnedWrite)
      (zs : List Passing) (q : Telling) (ran : Ran S.shape writes K xs p)
      (t : HasTurned S.shape (writes (length K)) (length K) xs p deeds zs q) where
    through : Passed S.shape writes K p q xs deeds zs
    through = passed ran t

    start : length p.seen ≡ entries_behind S.shape (length K)
    start = ran_counted ran

    deeds_counted : length deeds ≡ S.shape.clients
    deeds_counted = (passed_brings ran through).counted

    -- each write stands among the entries of the turn
    deeds_within : All (IsInTurn S.shape (length K)) deeds
    deeds_within k d low =
        let at = brings_within (own_writes (length K)) (passed_brings ran through) k d low in
        record { behind = omega (arith, at.0, start); within = omega (arith, at.1, start) }

    -- the turn that came about
    abbrev now : TurnOrder
    now = turn_of S.shape (length K) (entries_behind S.shape (length K)) deeds

    now_is : turn_of S.shape (length K) (length p.seen) deeds ≡ now
    now_is = ap (λ n. turn_of S.shape (length K) n deeds) start

    now_legal : IsTurn S.shape (length K) now
    now_legal =
        subst (IsTurn S.shape (length K)) now_is
        (came_legal own_writes ran through)

    now_ran : Ran S.shape writes (K ++ now ∷ []) zs q
    now_ran =
        subst (λ (x : TurnOrder). Ran S.shape writes (K ++ x ∷ []) zs q) now_is
        (ran_next own_writes ran through)

    now_length : length (K ++ now ∷ []) ≡ length K + 1
    now_length = length-append K (now ∷ [])

    -- in a history that goes on from it
    module _ (H : History) (begins : IsPrefix (K ++ now ∷ []) H) where
      entries_now : q.seen ≡ placed_before S (words_of S.shape b) H (length K + 1)
      entries_now =
          now_ran.order ∙ (sym (begins_entries writes (K ++ now ∷ []) H begins)
          ∙ ap (entries_before writes H) now_length)

      epoch_now : (c : ℕ) (d : PinnedWrite) → c < length deeds →
          epoch_at H (length K) c ≡ (set_on (slice_index_or deeds c d)).number
      epoch_now c d low =
          ap (λ (x : TurnOrder). slice_index x.epochs c) (begins_turn K now H begins)
          ∙ get_or-map (λ (x : PinnedWrite). (set_on x).number) deeds c d 0 low

      sets_now : AreSets S b H (length K) deeds
      sets_now =
          record {
            counted = deeds_counted;
            each = λ c d low.
                let set = set_on (slice_index_or deeds c d) in
                let stands : StandsAtMark S.shape q.seen set.number set =
                sets_stand own_writes ran through t.shows c d low
                in
                subst (λ (E : List Placed). StandsAtMark S.shape E (epoch_at H (length K) c) set)
                entries_now
                (subst (λ e. StandsAtMark S.shape q.seen e set) (sym (epoch_now c d low)) stands);
          }

      bytes_now : flat_map placed_frame (placed_from (writes (length K))
          (entries_behind S.shape (length K) + 1) (phase_of S.shape (length K)) now.order)
          ≡ flat_map placed_frame (entries_at writes H (length K))
      bytes_now =
          let g = length K in
          let before : entries_before writes H g ≡ p.seen =
          begins_entries writes K H (begins_before K now H begins) ∙ sym ran.order
          in
          let marks : count_by is_mark_entry p.seen ≡ phases_over S.shape g =
          sym (marks_under_zero p.seen) ∙ ran.marked
          in
          let order : order_at H g ≡ now.order =
          ap (λ (x : TurnOrder). x.order) (begins_turn K now H begins)
          in
          let one : placed_after (writes g) (entries_before writes H g) (order_at H g)
          ≡ placed_after (writes g) p.seen now.order =
          ap₂ (λ (E : List Placed) (items : List Item). placed_after (writes g) E items) before order
          in
          let two : placed_after (writes g) p.seen now.order
          ≡ placed_from (writes g) (entries_behind S.shape g + 1) (phase_of S.shape g) now.order =
          ap₂ (λ (n e : ℕ). placed_from (writes g) (n + 1) (e + 1) now.order) start marks
          in
          ap (flat_map placed_frame) (sym (one ∙ two))

    came_here : (frames : List (List ℕ)) → AreFrames S.shape (writes (length K)) frames →
        length K < turn_count S.shape → Came (length K) K zs q deeds frames now
    came_here frames are low =
        let most = one-mark S.shape (length K) in
        let turn = now_legal in
        record {
          counted = deeds_counted;
          within = deeds_within;
          order = turn_within S.shape (length K) now turn;
          marks = omega (arith, turn.marks, most);
          few = omega (arith, turn.counted, most);
          frames_are = are;
          written = λ V after bytes said clients spelled. record {
            counted = now_length;
            said = said;
            ran = now_ran;
            reads = λ H goes. record {
              legal = goes.legal;
              turn_in = low;
              wrote = clients H (record { legal = goes.legal; begins = begins_before K now H goes.begins });
              sets = sets_now H goes.begins;
            };
            seen = λ H goes. spelled ∙ bytes_now H goes.begins;
          };
        }

  -- all have acted, whose desks had the frames of what the clients write
  pub came : {V : History → Serving} {g : ℕ} {K : List TurnOrder} {group : Group} {xs : List Passing} {p : Telling}
      {ds es : List Desk} {zs : List Passing} {q : Telling} (deeds : List PinnedWrite) →
      IsCourse S b V g K group xs p → g < turn_count S.shape →
      IsOneSpelling (IsWrite S.shape) write_frame → Acted S.shape g xs p ds es zs q →
      AreFrames S.shape (writes g) (frames_on ds) → deeds_on es ≡ map Some deeds →
      Came g K zs q deeds (frames_on es) (turn_of S.shape g (entries_behind S.shape g) deeds)
  came {V} {g} {K} {group} {xs} {p} {ds} {es} {zs} {q} deeds course low one acted frames lie =
      subst (λ n. n < turn_count S.shape → Acted S.shape n xs p ds es zs q →
      AreFrames S.shape (writes n) (frames_on ds) →
      Came n K zs q deeds (frames_on es) (turn_of S.shape n (entries_behind S.shape n) deeds)) course.counted
      (λ inside did are.
      came_here K xs p deeds zs q course.ran (acted_turned deeds one course.ran did are lie) (frames_on es)
      (subst (AreFrames S.shape (writes (length K))) (sym (frames_stay did)) are) inside)
      low acted frames
