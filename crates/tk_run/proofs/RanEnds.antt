-- How a run of threads begins and ends.
use Rattle.std.proofs.Common.{◌≡◌, ℕ, zero, suc, ◌+◌, ◌<◌, ◌≤◌, List, [], ◌∷◌, ◌++◌, length, map, replicate, All, refl}
use Rattle.std.proofs.Common.{ap, sym, ◌∙◌, subst, arith, length-append, append_assoc}
use Rattle.std.specs.Prelude.{slice_set, slice_index_or}
use Rattle.std.specs.List.{range_with_len}
use Rattle.std.proofs.lemmas.List.{length-replicate}
use Rattle.std.proofs.lemmas.List.FromFn.{length-map-range_with_len}
use mathlib.Core.List.{IsPrefix}
use Rattle.tk_shape.specs.declared.shape.Shape.{Shape}
use Rattle.tk_shape.specs.Lengths.{turn_count}
use Rattle.tk_frames.specs.declared.write_frame.WriteFrame.{WriteFrame}
use Rattle.tk_frames.specs.declared.entry.Placed.{Placed}
use Rattle.tk_schedule.specs.declared.history.TurnOrder.{TurnOrder}
use Rattle.tk_schedule.specs.Schedule.{IsLegal, phases_over}
use Rattle.tk_order.specs.Legality.{of}
use Rattle.tk_order.proofs.Offers.{prefix_self}
use Rattle.tk_report.proofs.Offers.{phases-next}
use Rattle.tk_report.specs.Entries.{entries_before}
use Rattle.tk_cluster.specs.declared.set.EpochSet.{EpochSet}
use Rattle.tk_cluster.specs.Passes.{Passing, fresh}
use Rattle.tk_cluster.specs.Tellings.{Telling}
use Rattle.tk_cluster.specs.Clusters.{Opened}
use Rattle.tk_cluster.specs.Closings.{Ended, Apart, AllOnce, by_client, EndsPass, Closes}
use Rattle.tk_run.specs.Acting.{IsReadyServer}
use Rattle.tk_run.specs.Ran.{epochs_in, PassesAt, Ran}
use Rattle.tk_run.proofs.EntryLists.{same_list}
use Rattle.tk_run.proofs.TurnNumbers.{over_first}

-- ---- the opening

fresh_at : (shape : Shape) (p : Telling) (first : EpochSet) → p.seen ≡ [] → p.shown ≡ first ∷ [] →
    (off n : ℕ) → PassesAt shape [] p off (map (fresh p.board first) (range_with_len off n))
fresh_at shape p first seen shown off zero = tt
fresh_at shape p first seen shown off (suc n) = (
  record {
    client = refl;
    seen = sym seen;
    board = refl;
    shown = subst (λ (xs : List EpochSet). IsPrefix xs (first ∷ [])) (sym shown)
        (prefix_self (first ∷ []));
    known = sym (over_first shape);
    pinned = refl;
    count = refl;
  },
  fresh_at shape p first seen shown (off + 1) n,
)

pub ran_first : {shape : Shape} (write : ℕ → ℕ → WriteFrame) {p : Telling} {xs : List Passing} →
    Opened shape p xs → Ran shape write [] xs p
unfolding entries_before
ran_first {shape} write {p} {xs} h =
    record {
      turns = λ g low. absurd (omega (arith, low));
      order = h.seen;
      marked = ap (λ E. length (of 0 E)) h.seen ∙ sym (over_first shape);
      shown = ap length h.shown ∙ omega (arith, over_first shape);
      clients = ap length h.all ∙ length-map-range_with_len (fresh p.board h.first) 0 shape.clients;
      passes = subst (PassesAt shape [] p 0) (sym h.all)
          (fresh_at shape p h.first h.seen h.shown 0 shape.clients);
    }

-- ---- before a turn

all_ready : (shape : Shape) (K : List TurnOrder) (p : Telling) (most off : ℕ)
    (xs : List Passing) → length K < turn_count shape → phases_over shape (length K) ≤ most →
    PassesAt shape K p off xs → All (IsReadyServer shape most) xs
all_ready shape K p most off [] low le at k d inside = absurd (omega (arith, inside))
all_ready shape K p most off (a ∷ xs) low le at zero d inside =
    record {
      room = omega (arith, (at.0).count, low);
      known = omega (arith, (at.0).known, le);
    }
all_ready shape K p most off (a ∷ xs) low le at (suc k) d inside =
    all_ready shape K p most (off + 1) xs low le at.1 k d (omega (arith, inside))

module _ {shape : Shape} {write : ℕ → ℕ → WriteFrame} {K : List TurnOrder} {xs : List Passing}
    {p : Telling} (ran : Ran shape write K xs p) where
  pub ran_ready : length K < turn_count shape →
      All (IsReadyServer shape (phases_over shape (length K + 1))) xs
  ran_ready low =
      all_ready shape K p (phases_over shape (length K + 1)) 0 xs low
      (omega (arith, phases-next shape (length K))) ran.passes

  -- ---- the end

  each_client : (off : ℕ) (ys : List Passing) → PassesAt shape K p off ys → (k : ℕ)
      (d : Passing) → k < length ys → (slice_index_or ys k d).client ≡ off + k
  each_client off [] at k d low = absurd (omega (arith, low))
  each_client off (a ∷ ys) at zero d low = (at.0).client ∙ omega arith
  each_client off (a ∷ ys) at (suc k) d low =
      each_client (off + 1) ys at.1 k d (omega (arith, low)) ∙ omega arith

  all_apart : (off : ℕ) (ys : List Passing) → PassesAt shape K p off ys → Apart ys
  all_apart off [] at = tt
  all_apart off (a ∷ ys) at = (
    λ k d low same.
        absurd (omega (arith, same, (at.0).client, each_client (off + 1) ys at.1 k d low)),
    all_apart (off + 1) ys at.1,
  )

  all_board : (off : ℕ) (ys : List Passing) → PassesAt shape K p off ys →
      All (λ (a : Passing). a.reads.board ≡ p.board) ys
  all_board off [] at k d low = absurd (omega (arith, low))
  all_board off (a ∷ ys) at zero d low = (at.0).board
  all_board off (a ∷ ys) at (suc k) d low = all_board (off + 1) ys at.1 k d (omega (arith, low))

  -- all are of the publisher's board
  pub ran_on : All (λ (a : Passing). a.reads.board ≡ p.board) xs
  ran_on = all_board 0 xs ran.passes

  -- these are all passes, each once
  pub ran_all : AllOnce shape p.board xs
  ran_all =
      record {
        counted = ran.clients;
        of_board = ran_on;
        apart = all_apart 0 xs ran.passes;
      }

  -- ---- what a closed cluster had

  ends_own : (shown : List EpochSet) (order : List Placed) (off : ℕ) (ys : List Passing) →
      PassesAt shape K p off ys → All (EndsPass shown order) ys → (k : ℕ) → k < length ys →
      (c : ℕ) → c ≡ off + k → of (c + 1) order ≡ of (c + 1) p.seen
  ends_own shown order off [] at h k low c is = absurd (omega (arith, low))
  ends_own shown order off (a ∷ ys) at h zero low c is =
      let mine : a.client ≡ c = (at.0).client ∙ omega (arith, is) in
      let here : EndsPass shown order a = h 0 a (omega arith) in
      (λ i. of (sym mine i + 1) order) ∙ (here.own ∙ (λ i. of (mine i + 1) ((at.0).seen i)))
  ends_own shown order off (a ∷ ys) at h (suc k) low c is =
      ends_own shown order (off + 1) ys at.1 (λ j d l. h (suc j) d (omega (arith, l))) k
      (omega (arith, low)) c (omega (arith, is))

  set_mid : (front : List (List ℕ)) (y z : List ℕ) (back : List (List ℕ)) →
      slice_set (front ++ y ∷ back) (length front) z ≡ front ++ z ∷ back
  set_mid [] y z back = refl
  set_mid (x ∷ front) y z back = ap (λ ys. x ∷ ys) (set_mid front y z back)

  -- by client, what the passes pinned
  pinned_by : (off : ℕ) (front back : List (List ℕ)) (ys : List Passing) →
      PassesAt shape K p off ys → length front ≡ off → length back ≡ length ys →
      by_client (front ++ back) ys ≡ front ++ map (epochs_in K) (range_with_len off (length ys))
  pinned_by off front [] [] at here there = refl
  pinned_by off front (y ∷ back) [] at here there = absurd (omega (arith, there))
  pinned_by off front [] (a ∷ ys) at here there = absurd (omega (arith, there))
  pinned_by off front (y ∷ back) (a ∷ ys) at here there =
      let own_place : a.client ≡ length front = (at.0).client ∙ sym here in
      let one : List (List ℕ) = epochs_in K off ∷ [] in
      let set : slice_set (front ++ y ∷ back) a.client a.reads.pinned ≡ (front ++ one) ++ back =
      (λ i. slice_set (front ++ y ∷ back) (own_place i) ((at.0).pinned i))
      ∙ (set_mid front y (epochs_in K off) back ∙ sym (append_assoc front one back))
      in
      ap (λ es. by_client es ys) set
      ∙ (pinned_by (off + 1) (front ++ one) back ys at.1
      (length-append front one ∙ ap (λ n. n + 1) here) (omega (arith, there))
      ∙ append_assoc front one (map (epochs_in K) (range_with_len (off + 1) (length ys))))

  -- its order is the entries of the turns, and its epochs are those that the clients read
  pub ran_ends : {c : Ended} → Closes shape xs p c →
      (c.order ≡ entries_before write K (length K))
      × (c.epochs ≡ map (epochs_in K) (range_with_len 0 shape.clients))
  ran_ends {c} h =
      let same : c.order ≡ p.seen =
      same_list shape p.seen c.order h.begins h.legal.order (under h.each h.marks)
      in
      let all : by_client (replicate shape.clients []) xs
      ≡ map (epochs_in K) (range_with_len 0 (length xs)) =
      pinned_by 0 [] (replicate shape.clients []) xs ran.passes refl
      (length-replicate shape.clients [] ∙ sym ran.clients)
      in (
        same ∙ ran.order,
        h.epochs ∙ (all ∙ ap (λ n. map (epochs_in K) (range_with_len 0 n)) ran.clients),
      )
    where
      under : {shown : List EpochSet} {order : List Placed} → All (EndsPass shown order) xs →
          of 0 order ≡ of 0 p.seen → (k : ℕ) → k ≤ shape.clients → of k order ≡ of k p.seen
      under {shown} {order} each none zero le = none
      under {shown} {order} each none (suc k) le =
          let e : k + 1 ≡ suc k = omega arith in
          subst (λ m. of m order ≡ of m p.seen) e
          (ends_own shown order 0 xs ran.passes each k (omega (arith, le, ran.clients)) k
          (omega arith))

  -- after all turns the history is legal
  pub ran_legal : length K ≡ turn_count shape → IsLegal shape K
  ran_legal all =
      record {
        turns_counted = all;
        each_turn = λ g low. ran.turns g (omega (arith, low, all));
      }
