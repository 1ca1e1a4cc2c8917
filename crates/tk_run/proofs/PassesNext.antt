-- What the passes know after one turn more.
use Rattle.std.proofs.Common.{◌≡◌, ℕ, zero, suc, ◌+◌, ◌<◌, ◌≤◌, List, [], ◌∷◌, ◌++◌, length, map, refl}
use Rattle.std.proofs.Common.{ap, sym, ◌∙◌, subst, arith, length-append, append_assoc}
use Rattle.std.specs.Prelude.{slice_index, slice_index_or}
use Rattle.std.proofs.lemmas.List.{append_cancel_left, length-map}
use Rattle.std.proofs.lemmas.Option.{slice_get-get_or}
use mathlib.Core.List.{IsPrefix}
use Rattle.tk_shape.specs.declared.shape.Shape.{Shape}
use Rattle.tk_frames.specs.declared.write_frame.WriteFrame.{WriteFrame}
use Rattle.tk_frames.specs.declared.entry.Placed.{Placed}
use Rattle.tk_schedule.specs.declared.history.TurnOrder.{TurnOrder}
use Rattle.tk_schedule.specs.Schedule.{phases_over}
use Rattle.tk_order.specs.Legality.{of}
use Rattle.tk_order.proofs.Offers.{of-append, prefix_get}
use Rattle.tk_cluster.specs.declared.set.EpochSet.{EpochSet}
use Rattle.tk_cluster.specs.Sets.{StandsAtMark, AreShown}
use Rattle.tk_cluster.specs.Passes.{Passing, own}
use Rattle.tk_cluster.specs.Tellings.{Telling}
use Rattle.tk_run.specs.declared.pinned_write.PinnedWrite.{PinnedWrite}
use Rattle.tk_run.specs.Ran.{EachBy, set_on, PassAt, PassesAt}
use Rattle.tk_run.proofs.TurnItems.{AtPlaces}
use Rattle.tk_run.proofs.Steps.{Stepped, entry_on}
use Rattle.tk_run.proofs.TurnNumbers.{index_mid, epochs_more}

module _ (shape : Shape) (write : ℕ → ℕ → WriteFrame) (K : List TurnOrder) (p q : Telling)
    (shown : List EpochSet) where
  abbrev pub Step : Passing → PinnedWrite → Passing → Type 0
  Step a d z =
      Stepped (write (length K)) (phases_over shape (length K + 1)) q.seen p.shown shown a d z

  pub same_length : (xs : List Passing) (ds : List PinnedWrite) (zs : List Passing) →
      EachBy Step xs ds zs → (length ds ≡ length xs) × (length zs ≡ length xs)
  same_length [] [] [] h = (refl, refl)
  same_length (a ∷ xs) (d ∷ ds) (z ∷ zs) h =
      let rest = same_length xs ds zs h.1 in (ap suc rest.0, ap suc rest.1)
  same_length _ _ _ h = absurd h

  -- the epochs that were pinned
  abbrev numbers : List PinnedWrite → List ℕ
  numbers ds = map (λ (d : PinnedWrite). (set_on d).number) ds

  pub numbers_counted : (ds : List PinnedWrite) → length (numbers ds) ≡ length ds
  numbers_counted ds = length-map ds (λ (d : PinnedWrite). (set_on d).number)

  pub numbers_bounded : (off : ℕ) (xs : List Passing) (ds : List PinnedWrite) (zs : List Passing) →
      EachBy Step xs ds zs → PassesAt shape K p off xs → (c : ℕ) → c < length xs →
      (phases_over shape (length K) ≤ slice_index (numbers ds) c)
      × (slice_index (numbers ds) c ≤ phases_over shape (length K + 1))
  numbers_bounded off [] ds zs h at c low = absurd (omega (arith, low))
  numbers_bounded off (a ∷ xs) (d ∷ ds) (z ∷ zs) h at zero low =
      (omega (arith, (h.0).least, (at.0).known), (h.0).greatest)
  numbers_bounded off (a ∷ xs) (d ∷ ds) (z ∷ zs) h at (suc c) low =
      numbers_bounded (off + 1) xs ds zs h.1 at.1 c (omega (arith, low))
  numbers_bounded off _ _ _ h at c low = absurd h

  -- each client has one entry more
  pub places_next : (T : List Placed) → p.seen ++ T ≡ q.seen → (off : ℕ) (xs : List Passing)
      (ds : List PinnedWrite) (zs : List Passing) → EachBy Step xs ds zs → PassesAt shape K p off xs →
      AtPlaces (write (length K)) T off ds
  places_next T whole off [] [] [] h at = tt
  places_next T whole off (a ∷ xs) (d ∷ ds) (z ∷ zs) h at =
      let mine : a.client ≡ off = (at.0).client in
      let left : own z ≡ of (off + 1) q.seen =
      λ i. of (((h.0).client ∙ mine) i + 1) ((h.0).seen_is i)
      in
      let right : own a ≡ of (off + 1) p.seen = λ i. of (mine i + 1) ((at.0).seen i) in
      let all : of (off + 1) p.seen ++ of (off + 1) T
      ≡ of (off + 1) p.seen ++ entry_on (write (length K)) off d ∷ [] =
      sym (of-append (off + 1) p.seen T) ∙ (ap (of (off + 1)) whole ∙ (sym left
      ∙ ((h.0).own_is ∙ (λ i. right i ++ entry_on (write (length K)) (mine i) d ∷ []))))
      in (
        append_cancel_left (of (off + 1) p.seen) (of (off + 1) T)
            (entry_on (write (length K)) off d ∷ []) all,
        places_next T whole (off + 1) xs ds zs h.1 at.1,
      )
  places_next T whole off _ _ _ h at = absurd h

  module _ (turn : TurnOrder) (board : q.board ≡ p.board) (is_shown : q.shown ≡ shown) where
    pass_next : (off : ℕ) (a : Passing) (d : PinnedWrite) (z : Passing) → PassAt shape K p off a →
        Step a d z → slice_index turn.epochs off ≡ (set_on d).number →
        PassAt shape (K ++ turn ∷ []) q off z
    pass_next off a d z at s here =
        let n : length (K ++ turn ∷ []) ≡ length K + 1 = length-append K (turn ∷ []) in
        record {
          client = s.client ∙ at.client;
          seen = s.seen_is;
          board = s.board ∙ (at.board ∙ sym board);
          shown = subst (λ (ys : List EpochSet). IsPrefix ys z.reads.shown) (sym is_shown)
              (s.hears at.shown);
          known = s.known ∙ ap (phases_over shape) (sym n);
          pinned = s.pinned ∙ ((λ i. at.pinned i ++ sym here i ∷ [])
              ∙ sym (epochs_more K turn off));
          count = ap length s.own_is
              ∙ (length-append (own a) (entry_on (write (length K)) a.client d ∷ [])
              ∙ (ap (λ k. k + 1) at.count ∙ sym n));
        }

    pub passes_next : (off : ℕ) (front : List ℕ) (xs : List Passing) (ds : List PinnedWrite)
        (zs : List Passing) → EachBy Step xs ds zs → PassesAt shape K p off xs →
        length front ≡ off → turn.epochs ≡ front ++ numbers ds →
        PassesAt shape (K ++ turn ∷ []) q off zs
    passes_next off front [] [] [] h at len is = tt
    passes_next off front (a ∷ xs) (d ∷ ds) (z ∷ zs) h at len is =
        let e = (set_on d).number in
        let here : slice_index turn.epochs off ≡ e =
        ap (λ ys. slice_index ys off) is
        ∙ (ap (λ k. slice_index (front ++ e ∷ numbers ds) k) (sym len)
        ∙ index_mid front e (numbers ds))
        in (
          pass_next off a d z at.0 h.0 here,
          passes_next (off + 1) (front ++ e ∷ []) xs ds zs h.1 at.1
              (length-append front (e ∷ []) ∙ ap (λ k. k + 1) len)
              (is ∙ sym (append_assoc front (e ∷ []) (numbers ds))),
        )
    passes_next off front _ _ _ h at len is = absurd h

  -- ---- the sets that were pinned

  -- each stands for the entries before its mark
  pub all_stand : (H : List TurnOrder) → AreShown shape q.shown q.seen →
      length q.shown ≡ phases_over shape (length K + 1) + 1 → (off : ℕ) (xs : List Passing)
      (ds : List PinnedWrite) (zs : List Passing) → EachBy Step xs ds zs → PassesAt shape H q off zs →
      (c : ℕ) (d : PinnedWrite) → c < length ds →
      StandsAtMark shape q.seen (set_on (slice_index_or ds c d)).number (set_on (slice_index_or ds c d))
  all_stand H shows long off [] [] [] h at c d low = absurd (omega (arith, low))
  all_stand H shows long off (a ∷ xs) (e ∷ ds) (z ∷ zs) h at zero d low =
      let n = (set_on e).number in
      let inside : n < length q.shown = omega (arith, (h.0).greatest, long) in
      let there = slice_get-get_or q.shown n (set_on e) inside in
      shows n (set_on e)
      (there ∙ sym (prefix_get q.shown z.reads.shown n _ (at.0).shown there) ∙ (h.0).shows)
  all_stand H shows long off (a ∷ xs) (e ∷ ds) (z ∷ zs) h at (suc c) d low =
      all_stand H shows long (off + 1) xs ds zs h.1 at.1 c d (omega (arith, low))
  all_stand H shows long off _ _ _ h at c d low = absurd h
