-- What a turn leaves of each pass.
use Rattle.std.proofs.Common.{◌≡◌, ℕ, ◌+◌, ◌≤◌, inl, inr, List, [], ◌∷◌, ◌++◌, length, Some, slice_get, refl, ap, sym}
use Rattle.std.proofs.Common.{◌∙◌, subst, arith, length-append}
use mathlib.Core.List.{IsPrefix}
use Rattle.tk_shape.specs.declared.shape.Shape.{Shape}
use Rattle.tk_frames.specs.declared.write_frame.WriteFrame.{WriteFrame}
use Rattle.tk_frames.specs.declared.entry.Placed.{Placed}
use Rattle.tk_frames.specs.declared.entry.Entry.TheVariants.{Write}
use Rattle.tk_schedule.specs.declared.history.TurnOrder.{TurnOrder}
use Rattle.tk_schedule.specs.Schedule.{phases_over}
use Rattle.tk_order.specs.Legality.{of}
use Rattle.tk_order.proofs.Offers.{prefix_trans, prefix_get}
use Rattle.tk_cluster.specs.declared.set.EpochSet.{EpochSet}
use Rattle.tk_cluster.specs.Passes.{Reading, Passing, own, Learns, ReadsOnly, MeetsAt}
use Rattle.tk_cluster.specs.Tellings.{Telling, told_of}
use Rattle.tk_cluster.specs.Clusters.{Each}
use Rattle.tk_run.specs.declared.pinned_write.PinnedWrite.{PinnedWrite}
use Rattle.tk_run.specs.Ran.{ActsOn, EachBy, AllLearn, PassesAt, set_on}

-- the entry of a client that lies at the place that its deed says
abbrev pub entry_on : (ℕ → WriteFrame) → ℕ → PinnedWrite → Placed
entry_on write c d = record { position = d.position; entry = Write (write c) }

-- What a whole turn did to a pass: it wrote once, pinned once, and has seen what all have seen. It
-- knows the newest set, and those of which it was told.
pub record Stepped (write : ℕ → WriteFrame) (most : ℕ) (seen : List Placed)
    (before shown : List EpochSet) (a : Passing) (d : PinnedWrite) (z : Passing) : Type 0 where
  pub client : z.client ≡ a.client
  pub seen_is : z.seen ≡ seen
  pub own_is : own z ≡ own a ++ entry_on write a.client d ∷ []
  pub board : z.reads.board ≡ a.reads.board
  pub hears : IsPrefix before a.reads.shown → IsPrefix shown z.reads.shown
  pub least : a.reads.known ≤ (set_on d).number
  pub greatest : (set_on d).number ≤ most
  pub pinned : z.reads.pinned ≡ a.reads.pinned ++ (set_on d).number ∷ []
  pub known : z.reads.known ≡ most
  pub shows : slice_get z.reads.shown (set_on d).number ≡ Some (set_on d)

own_same : (a b : Passing) → b.client ≡ a.client → b.seen ≡ a.seen → own b ≡ own a
own_same a b c s = λ i. of (c i + 1) (s i)

module _ (write : ℕ → WriteFrame) (most : ℕ) (seen : List Placed) where
  -- after the write, the pin and the meeting
  own_after : (a : Passing) (d : PinnedWrite) (b c z : Passing) → ActsOn write most a d b →
      c.client ≡ b.client → c.seen ≡ b.seen → MeetsAt seen c z →
      own z ≡ own a ++ entry_on write a.client d ∷ []
  own_after a d b c z h client same m =
      let at : d.position ≡ length h.wrote.before + 1 =
      h.position ∙ (ap length h.wrote.after ∙ length-append h.wrote.before (_ ∷ []))
      in
      let entry : own h.mid ≡ own a ++ entry_on write a.client d ∷ [] =
      h.wrote.own
      ∙ (λ i. own a ++ record { position = sym at i; entry = Write (write a.client) } ∷ [])
      in
      m.own ∙ (own_same b c client same ∙ (own_same h.mid b h.pins.client h.pins.seen ∙ entry))

  client_after : (a : Passing) (d : PinnedWrite) (b c z : Passing) → ActsOn write most a d b →
      c.client ≡ b.client → MeetsAt seen c z → z.client ≡ a.client
  client_after a d b c z h client m =
      m.client ∙ (client ∙ (h.pins.client ∙ h.wrote.client))

  -- where the publisher told of a set more
  pub stepped_closing : (told : Telling) (before : List EpochSet) (a : Passing) (d : PinnedWrite)
      (b c z : Passing) → length told.shown ≡ most + 1 → ActsOn write most a d b →
      ReadsOnly (λ r s. Learns r (told_of told) s) b c → MeetsAt seen c z →
      Stepped write most seen before told.shown a d z
  stepped_closing told before a d b c z long h l m =
      let r = h.pins.reads in
      let s = l.reads in
      let same : h.mid.reads ≡ a.reads = h.wrote.reads in
      let reads : z.reads ≡ c.reads = m.reads in
      let learned : c.reads.known ≡ most = elim s.known [
        | inl kept ↦ omega (arith, kept, r.greatest, s.last, long)
        | inr new ↦ omega (arith, new, long)
      ]
      in
      let there : slice_get b.reads.shown (set_on d).number ≡ Some (set_on d) =
      ap (slice_get b.reads.shown) r.number ∙ r.shows
      in
      record {
        client = client_after a d b c z h l.client m;
        seen_is = m.seen;
        own_is = own_after a d b c z h l.client l.seen m;
        board = ap (λ (x : Reading). x.board) reads
            ∙ (s.board ∙ (r.board ∙ ap (λ (x : Reading). x.board) same));
        hears = λ p. subst (λ (x : Reading). IsPrefix told.shown x.shown) (sym reads) s.hears;
        least = omega (arith, r.least, r.number, ap (λ (x : Reading). x.known) same);
        greatest = omega (arith, r.greatest, r.number);
        pinned = ap (λ (x : Reading). x.pinned) reads ∙ (s.pinned ∙ (r.pinned
            ∙ (λ i. (same i).pinned ++ sym r.number i ∷ [])));
        known = ap (λ (x : Reading). x.known) reads ∙ learned;
        shows = ap (λ (x : Reading). slice_get x.shown (set_on d).number) reads
            ∙ prefix_get b.reads.shown c.reads.shown (set_on d).number (set_on d) s.shown there;
      }

  -- where it told of none
  pub stepped_open : (before : List EpochSet) (a : Passing) (d : PinnedWrite) (b z : Passing) →
      most ≤ a.reads.known → ActsOn write most a d b → MeetsAt seen b z →
      Stepped write most seen before before a d z
  stepped_open before a d b z newest h m =
      let r = h.pins.reads in
      let same : h.mid.reads ≡ a.reads = h.wrote.reads in
      let reads : z.reads ≡ b.reads = m.reads in
      let was = ap (λ (x : Reading). x.known) same in
      record {
        client = client_after a d b b z h refl m;
        seen_is = m.seen;
        own_is = own_after a d b b z h refl refl m;
        board = ap (λ (x : Reading). x.board) reads
            ∙ (r.board ∙ ap (λ (x : Reading). x.board) same);
        hears = λ p.
            let grown : IsPrefix a.reads.shown b.reads.shown =
            subst (λ (x : Reading). IsPrefix x.shown b.reads.shown) same r.shown
            in
            subst (λ (x : Reading). IsPrefix before x.shown) (sym reads)
            (prefix_trans before a.reads.shown b.reads.shown p grown);
        least = omega (arith, r.least, r.number, was);
        greatest = omega (arith, r.greatest, r.number);
        pinned = ap (λ (x : Reading). x.pinned) reads ∙ (r.pinned
            ∙ (λ i. (same i).pinned ++ sym r.number i ∷ []));
        known = ap (λ (x : Reading). x.known) reads
            ∙ omega (arith, r.least, r.greatest, was, newest);
        shows = ap (λ (x : Reading). slice_get x.shown (set_on d).number) reads
            ∙ (ap (slice_get b.reads.shown) r.number ∙ r.shows);
      }

  -- ---- all passes

  pub all_closing : (told : Telling) (before : List EpochSet) (xs : List Passing) (ds : List PinnedWrite)
      (ys cs zs : List Passing) → length told.shown ≡ most + 1 →
      EachBy (ActsOn write most) xs ds ys → AllLearn told ys cs → Each (MeetsAt seen) cs zs →
      EachBy (Stepped write most seen before told.shown) xs ds zs
  all_closing told before [] [] [] [] [] long h l m = tt
  all_closing told before (a ∷ xs) (d ∷ ds) (b ∷ ys) (c ∷ cs) (z ∷ zs) long h l m = (
    stepped_closing told before a d b c z long h.0 l.0 m.0,
    all_closing told before xs ds ys cs zs long h.1 l.1 m.1,
  )
  all_closing told before [] [] [] (c ∷ cs) zs long h l m = absurd l
  all_closing told before (a ∷ xs) (d ∷ ds) (b ∷ ys) [] zs long h l m = absurd l
  all_closing told before [] [] [] [] (z ∷ zs) long h l m = absurd m
  all_closing told before (a ∷ xs) (d ∷ ds) (b ∷ ys) (c ∷ cs) [] long h l m = absurd m
  all_closing told before _ _ _ cs zs long h l m = absurd h

  pub all_open : (shape : Shape) (K : List TurnOrder) (p : Telling) (off : ℕ)
      (before : List EpochSet) (xs : List Passing) (ds : List PinnedWrite) (ys zs : List Passing) →
      most ≤ phases_over shape (length K) → PassesAt shape K p off xs →
      EachBy (ActsOn write most) xs ds ys → Each (MeetsAt seen) ys zs →
      EachBy (Stepped write most seen before before) xs ds zs
  all_open shape K p off before [] [] [] [] low at h m = tt
  all_open shape K p off before (a ∷ xs) (d ∷ ds) (b ∷ ys) (z ∷ zs) low at h m = (
    stepped_open before a d b z (omega (arith, low, (at.0).known)) h.0 m.0,
    all_open shape K p (off + 1) before xs ds ys zs low at.1 h.1 m.1,
  )
  all_open shape K p off before [] [] [] (z ∷ zs) low at h m = absurd m
  all_open shape K p off before (a ∷ xs) (d ∷ ds) (b ∷ ys) [] low at h m = absurd m
  all_open shape K p off before _ _ _ zs low at h m = absurd h
