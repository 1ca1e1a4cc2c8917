-- Each step is the machine's.
use Rattle.std.proofs.Common.{◌≡◌, ℕ, zero, suc, ◌+◌, ◌-◌, ◌<◌, ◌≤◌, refl, ap, ap₂, sym, ◌∙◌}
use Rattle.std.proofs.Common.{subst, arith, List, [], ◌∷◌, ◌++◌, length, take, drop, map, set, cond, true, false}
use Rattle.std.proofs.Common.{take-append-drop, nat_lt, lt-ltb}
use Rattle.std.specs.Prelude.{slice_index_or, slice_index, position, option_map, Option, Some, None, Bool, not, find}
use Rattle.std.specs.List.{concat, prefix_len, position_or_len}
use Rattle.std.proofs.Math.Seq.{take-append_seam}
use Rattle.std.proofs.lemmas.Bool.{ltb-true, le-ltb}
use Rattle.std.proofs.lemmas.List.{get_or-map, map-set, set-get_or, length-map}
use Rattle.tk_shape.specs.declared.shape.Shape.{Shape}
use Rattle.tk_answer.specs.Runs.{IsRun}
use Rattle.tk_kernel.specs.Pieces.{AllSized}
use Rattle.tk_frames.specs.declared.write_frame.WriteFrame.{WriteFrame}
use Rattle.tk_frames.specs.declared.entry.Placed.{Placed}
use Rattle.tk_frames.specs.declared.entry.Entry.TheVariants.{Write, Mark}
use Rattle.tk_frames.specs.Order.{before, is_mark_of}
use Rattle.tk_table.specs.Table.{layout, blocks_of}
use Rattle.tk_replica.specs.declared.epoch.Epoch.{Epoch}
use Rattle.tk_replica.specs.Epochs.{IsEpochOf}
use Rattle.tk_frames.specs.InOrder.{mark_count, IsNextAt}
use Rattle.tk_replica.specs.Shelf.{IsHeld}
use Rattle.tk_replica.specs.Replica.{ReplicaView, StandsFor}
use Rattle.tk_frames.proofs.Offers.{order-entry, before-more}
use Rattle.tk_replica.proofs.Offers.{entry-next}
use Rattle.tk_core.specs.declared.event.Event.TheVariants as events
use Rattle.tk_core.specs.declared.reply.Reply.TheVariants as replies
use Rattle.tk_core.specs.Machine.{stays, with_entry, world_step, applied_by, next_mark, show_next, show_mark}
use Rattle.tk_core.specs.World.{WorldView, machine_of, applied_in, Follows, IsWorld, IsServer, AreReleased}
use Rattle.tk_core.proofs.Worlds.{follows-next, world-applied}
use Rattle.tk_core.proofs.Released.{applied-released}

-- a server's place among the replicas, where v is what w is seen as
pub server-there : (w v : WorldView) (server : ℕ) → w ≡ v → IsWorld w → IsServer v.shape server →
    server - 1 < length w.replicas
server-there w v server same is server_in =
    let counted = is.counted in
    let inside : IsServer w.shape server =
    subst (λ (x : WorldView). IsServer x.shape server) (sym same) server_in
    in
    omega (arith, inside.low, inside.high, counted)

-- ---- a write or a mark

pub step-put : (w : WorldView) (frame : WriteFrame) (at : ℕ) (order : List Placed) →
    at ≡ length w.order + 1 →
    order ≡ w.order ++ record { position = at; entry = Write frame } ∷ [] →
    stays (machine_of (record w { order = order })) (replies.Placed at)
    ≡ world_step w.shape (machine_of w) (events.Put frame)
unfolding world_step
step-put w frame at order at_is order_is =
    ap (λ (o : List Placed). stays (machine_of (record w {
      order =
          o;
    })) (replies.Placed at)) order_is
    ∙ ap (λ n. stays (with_entry (machine_of w) (record {
      position = n;
      entry =
          Write frame;
    })) (replies.Placed n)) at_is

pub step-mark : (w : WorldView) (at e : ℕ) (order : List Placed) →
    at ≡ length w.order + 1 → e ≡ mark_count w.order + 1 →
    order ≡ w.order ++ record { position = at; entry = Mark e } ∷ [] →
    stays (machine_of (record w { order = order })) (replies.Marked at e)
    ≡ world_step w.shape (machine_of w) events.Mark
unfolding world_step
step-mark w at e order at_is e_is order_is =
    ap (λ (o : List Placed). stays (machine_of (record w {
      order =
          o;
    })) (replies.Marked at e)) order_is
    ∙ ap₂ (λ n k. stays (with_entry (machine_of w) (record {
      position = n;
      entry =
          Mark k;
    })) (replies.Marked n k)) at_is e_is

-- ---- an entry applied

applied-at : (rs : List ReplicaView) (i : ℕ) (r : ReplicaView) → i < length rs →
    r ≡ slice_index_or rs i r → slice_index (applied_in rs) i ≡ r.applied
applied-at rs i r low at =
    get_or-map (λ (x : ReplicaView). x.applied) rs i r 0 low
    ∙ ap (λ (x : ReplicaView). x.applied) (sym at)

pub step-up_to_date : (w : WorldView) (server n : ℕ) (r : ReplicaView) →
    server - 1 < length w.replicas → r ≡ slice_index_or w.replicas (server - 1) r →
    n ≡ r.applied → length w.order ≤ n →
    stays (machine_of (record w { replicas = set w.replicas (server - 1) r })) replies.UpToDate
    ≡ world_step w.shape (machine_of w) (events.Apply server)
unfolding world_step
step-up_to_date w server n r low at n_is all =
    let rs = w.replicas in
    let i = server - 1 in
    let same : set rs i r ≡ rs = ap (set rs i) at ∙ set-get_or rs i r in
    let count : applied_by (machine_of w) server ≡ n = applied-at rs i r low at ∙ sym n_is in
    let test : nat_lt (applied_by (machine_of w) server) (length w.order) ≡ false =
    le-ltb (applied_by (machine_of w) server) (length w.order) (omega (arith, count, all))
    in
    ap (λ (xs : List ReplicaView). stays (machine_of (record w {
      replicas =
          xs;
    })) replies.UpToDate) same
    ∙ sym (ap (λ b. cond b (record {
      machine = record (machine_of w) {
        applied =
            set (applied_in rs) i (applied_by (machine_of w) server + 1);
      };
      reply = replies.Applied (applied_by (machine_of w) server + 1);
    }) (stays (machine_of w) replies.UpToDate)) test)

pub step-applied : (w : WorldView) (server n : ℕ) (r new : ReplicaView) →
    server - 1 < length w.replicas → r ≡ slice_index_or w.replicas (server - 1) r →
    n ≡ r.applied → n < length w.order → new.applied ≡ n + 1 →
    stays (machine_of (record w { replicas = set w.replicas (server - 1) new })) (replies.Applied
    (n + 1))
    ≡ world_step w.shape (machine_of w) (events.Apply server)
unfolding world_step
step-applied w server n r new low at n_is more next =
    let rs = w.replicas in
    let i = server - 1 in
    let m = machine_of w in
    let count : applied_by m server ≡ n = applied-at rs i r low at ∙ sym n_is in
    let test : nat_lt (applied_by m server) (length w.order) ≡ true =
    lt-ltb (applied_by m server) (length w.order) (omega (arith, count, more))
    in
    let all : applied_in (set rs i new) ≡ set (applied_in rs) i (n + 1) =
    map-set (λ (x : ReplicaView). x.applied) rs i new ∙ ap (set (applied_in rs) i) next
    in
    ap (λ (xs : List ℕ). stays (record m { applied = xs }) (replies.Applied (n + 1))) all
    ∙ ap (λ k. stays (record m { applied = set (applied_in rs) i (k + 1) }) (replies.Applied
    (k + 1))) (sym count)
    ∙ sym (ap (λ b. cond b (record {
      machine = record m { applied = set (applied_in rs) i (applied_by m server + 1) };
      reply = replies.Applied (applied_by m server + 1);
    }) (stays m replies.UpToDate)) test)

pub may-apply : (w : WorldView) (i n : ℕ) (r : ReplicaView) (p : Placed) → IsWorld w →
    i < length w.replicas → r ≡ slice_index_or w.replicas i r → n ≡ r.applied →
    n < length w.order → p ≡ slice_index_or w.order n p →
    IsNextAt r.shape (r.applied + 1) (r.last + 1) p
may-apply w i n r p is low at n_is more p_is =
    let follows : Follows w.shape w.order w.shown r =
    subst (Follows w.shape w.order w.shown) (sym at) (is.follow i r low)
    in
    let front = take r.applied w.order in
    let long : n ≡ length front = n_is ∙ (follows.stands).applied in
    let next : IsNextAt w.shape (n + 1) (mark_count (take n w.order) + 1) p =
    subst (IsNextAt w.shape (n + 1) (mark_count (take n w.order) + 1)) (sym p_is)
    (order-entry w.shape w.order n p is.order more)
    in
    entry-next w.shape front r p follows.stands
    (subst (λ k. IsNextAt w.shape (k + 1) (mark_count front + 1) p) long
    (subst (λ k. IsNextAt w.shape (n + 1) (mark_count (take k w.order) + 1) p) n_is next))

pub world-next : (w : WorldView) (i n : ℕ) (r new : ReplicaView) (p : Placed) → IsWorld w →
    i < length w.replicas → r ≡ slice_index_or w.replicas i r → n ≡ r.applied →
    n < length w.order → p ≡ slice_index_or w.order n p →
    ((shape : Shape) (E : List Placed) → StandsFor shape E r → StandsFor shape (E ++ p ∷ []) new) →
    new.floor ≡ r.floor →
    (new.applied ≡ n + 1) × IsWorld (record w { replicas = set w.replicas i new })
world-next w i n r new p is low at n_is more p_is takes kept =
    let follows : Follows w.shape w.order w.shown r =
    subst (Follows w.shape w.order w.shown) (sym at) (is.follow i r low)
    in
    let next =
    follows-next w.shape w.order w.shown r new p follows (omega (arith, n_is, more))
    (p_is ∙ ap (λ k. slice_index_or w.order k p) n_is)
    (takes w.shape (take r.applied w.order) follows.stands) kept
    in
    (omega (arith, next.0, n_is), world-applied w i new is low next.1)

-- ---- the next epoch is shown

prefix-map : {X Y : Type 0} (f : X → Y) (test : Y → Bool) (xs : List X) →
    prefix_len (λ y. not (test y)) (map f xs) ≡ prefix_len (λ x. not (test (f x))) xs
prefix-map f test [] = refl
prefix-map f test (x ∷ xs) =
    ap (λ (n : ℕ). cond (not (test (f x))) (1 + n) 0) (prefix-map f test xs)

position-map : {X Y : Type 0} (f : X → Y) (test : Y → Bool) (xs : List X) →
    position test (map f xs) ≡ position (λ x. test (f x)) xs
position-map f test xs =
    ap₂ (λ (a b : ℕ). cond (nat_lt a b) (Some a) None) (prefix-map f test xs) (length-map xs f)

position-low : {X : Type 0} (test : X → Bool) (xs : List X) (j : ℕ) → position test xs ≡ Some j →
    j < length xs
position-low test xs j found =
    by (position_or_len test xs) (nat_lt (position_or_len test xs) (length xs)) refl found
  where
    by : (k : ℕ) (t : Bool) → nat_lt k (length xs) ≡ t → cond t (Some k) None
        ≡ Some j → j < length xs
    by k true less is =
        let same : k ≡ j = cc in let low = ltb-true k (length xs) less in omega (arith, low, same)
    by k false less is = absurd cc

below : (w : WorldView) (at : ℕ) →
    position (λ n. nat_lt n at) (applied_in w.replicas)
    ≡ position (λ (r : ReplicaView). nat_lt r.applied at) w.replicas
below w at = position-map (λ (r : ReplicaView). r.applied) (λ n. nat_lt n at) w.replicas

-- the position of the first mark that isn't shown, as it is searched
pub next-found : (w : WorldView) (order : List Placed) (found : Option ℕ) →
    found ≡ option_map (λ (p : Placed). p.position) (find (is_mark_of (w.shown + 1)) order) →
    order ≡ w.order → found ≡ next_mark (machine_of w)
next-found w order found is same =
    is ∙ ap (λ (o : List Placed).
    option_map (λ (p : Placed). p.position) (find (is_mark_of (w.shown + 1)) o)) same

-- the first replica that is below, as it is searched
pub below-found : (at : ℕ) (rs xs : List ReplicaView) (found : Option ℕ) →
    found ≡ position (λ (r : ReplicaView). nat_lt r.applied at) rs → rs ≡ xs →
    found ≡ position (λ (r : ReplicaView). nat_lt r.applied at) xs
below-found at rs xs found is same =
    is ∙ ap (position (λ (r : ReplicaView). nat_lt r.applied at)) same

pub step-no_mark : (w : WorldView) → next_mark (machine_of w) ≡ None →
    stays (machine_of w) replies.NoMark ≡ world_step w.shape (machine_of w) events.Show
unfolding world_step
step-no_mark w none = sym (ap (show_next (machine_of w)) none)

pub step-not_yet : (w : WorldView) (at j n : ℕ) (r : ReplicaView) →
    next_mark (machine_of w) ≡ Some at →
    position (λ (x : ReplicaView). nat_lt x.applied at) w.replicas ≡ Some j →
    r ≡ slice_index_or w.replicas j r → n ≡ r.applied →
    stays (machine_of w) (replies.NotYet (j + 1) n) ≡ world_step w.shape (machine_of w) events.Show
unfolding world_step
step-not_yet w at j n r next first r_is n_is =
    let m = machine_of w in
    let low = position-low (λ (x : ReplicaView). nat_lt x.applied at) w.replicas j first in
    ap (λ k. stays m (replies.NotYet (j + 1) k)) (n_is ∙ sym (applied-at w.replicas j r low r_is))
    ∙ sym (ap (show_next m) next ∙ ap (show_mark m) (below w at ∙ first))

pub step-shown : (w : WorldView) (at : ℕ) (new : List ReplicaView) →
    next_mark (machine_of w) ≡ Some at →
    position (λ (x : ReplicaView). nat_lt x.applied at) w.replicas ≡ None →
    AreReleased w.shown w.replicas new →
    stays (machine_of (record w {
      replicas = new;
      shown =
          w.shown + 1;
    })) (replies.Shown (w.shown + 1))
    ≡ world_step w.shape (machine_of w) events.Show
unfolding world_step
step-shown w at new next none are =
    let m = machine_of w in
    ap (λ (ns : List ℕ). stays (record m {
      applied = ns;
      shown =
          m.shown + 1;
    }) (replies.Shown (m.shown + 1)))
    (applied-released w.shown w.replicas new are)
    ∙ sym (ap (show_next m) next ∙ ap (show_mark m) (below w at ∙ none))

-- ---- a read

-- the server keeps the epoch that is shown
pub shown-held : (w : WorldView) (i : ℕ) (r : ReplicaView) → IsWorld w → i < length w.replicas →
    r ≡ slice_index_or w.replicas i r → IsHeld r.floor r.last w.shown
shown-held w i r is low at =
    let follows : Follows w.shape w.order w.shown r =
    subst (Follows w.shape w.order w.shown) (sym at) (is.follow i r low)
    in
    record { low = let keeps = follows.keeps in omega (arith, keeps); high = follows.has }

-- it has a block for each bucket
pub shown-blocks : (w : WorldView) (i : ℕ) (r : ReplicaView) (epoch : Epoch) → IsWorld w →
    i < length w.replicas → r ≡ slice_index_or w.replicas i r → epoch.shape ≡ r.shape →
    length epoch.blocks.blocks ≡ w.shape.buckets
shown-blocks w i r epoch is low at same =
    let follows : Follows w.shape w.order w.shown r =
    subst (Follows w.shape w.order w.shown) (sym at) (is.follow i r low)
    in
    epoch.counted ∙ ap (λ (shape : Shape). shape.buckets) (same ∙ (follows.stands).same)

pub step-read : (w : WorldView) (server first second : ℕ) (r : ReplicaView) (epoch : Epoch)
    (x y : List ℕ) → IsWorld w → server - 1 < length w.replicas →
    r ≡ slice_index_or w.replicas (server - 1) r →
    ((shape : Shape) (E : List Placed) → StandsFor shape E r → IsEpochOf shape E w.shown epoch) →
    x ≡ slice_index_or epoch.blocks.blocks first [] →
    y ≡ slice_index_or epoch.blocks.blocks second [] →
    stays (machine_of w) (replies.Blocks w.shown x y)
    ≡ world_step w.shape (machine_of w) (events.Read server first second)
unfolding world_step
step-read w server first second r epoch x y is low at lent x_is y_is =
    let follows : Follows w.shape w.order w.shown r =
    subst (Follows w.shape w.order w.shown) (sym at) (is.follow (server - 1) r low)
    in
    let front = take r.applied w.order in
    let stands = follows.stands in
    let last = stands.last in
    let within = follows.has in
    let same : before front w.shown ≡ before w.order w.shown =
    sym (before-more w.shape front (drop r.applied w.order) w.shown stands.order (omega
    (arith, within, last)))
    ∙ ap (λ E. before E w.shown) (take-append-drop r.applied w.order)
    in
    let blocks : epoch.blocks.blocks ≡ blocks_of (layout w.shape (before w.order w.shown)) =
    (lent w.shape front stands).stands.blocks ∙ ap (λ rs. blocks_of (layout w.shape rs)) same
    in
    ap₂ (λ (a b : List ℕ). stays (machine_of w) (replies.Blocks w.shown a b)) x_is y_is
    ∙ ap (λ (bs : List (List ℕ)). stays (machine_of w) (replies.Blocks w.shown
    (slice_index_or bs first []) (slice_index_or bs second []))) blocks

-- the first block of a run
pub run-first : (width i : ℕ) (blocks : List (List ℕ)) (bytes : List ℕ) → AllSized width blocks →
    i < length blocks → IsRun blocks i bytes → take width bytes ≡ slice_index_or blocks i []
run-first width i blocks bytes sized low run =
    ap (take width) run.joined ∙ by run.count run.some
  where
    front : (k : ℕ) (bs : List (List ℕ)) (j : ℕ) → AllSized width bs → j < length bs →
        take width (concat (take (suc k) (drop j bs))) ≡ slice_index_or bs j []
    front k [] j all inside = absurd (omega (arith, inside))
    front k (b ∷ bs) zero all inside =
        ap (λ n. take n (b ++ concat (take k bs))) (sym all.0)
        ∙ take-append_seam b (concat (take k bs))
    front k (b ∷ bs) (suc j) all inside = front k bs j all.1 (omega (arith, inside))

    by : (n : ℕ) → 0 < n → take width (concat (take n (drop i blocks))) ≡ slice_index_or blocks i []
    by zero some = absurd (omega (arith, some))
    by (suc n) some = front n blocks i sized low
