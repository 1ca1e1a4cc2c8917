-- What an entry does to a server, and to several.
use Rattle.std.proofs.Common.{◌≡◌, ℕ, ◌+◌, ◌<◌, ◌≤◌, ◌∙◌, sym, subst, arith, List, [], ◌∷◌, ◌++◌, length}
use Rattle.std.specs.Prelude.{slice_index_or}
use Rattle.tk_shape.specs.declared.shape.Shape.{Shape}
use Rattle.tk_frames.specs.declared.entry.Placed.{Placed}
use Rattle.tk_frames.specs.Spelling.{placed_frame}
use Rattle.tk_frames.specs.InOrder.{IsNext}
use Rattle.tk_frames.proofs.Offers.{order-push}
use Rattle.tk_report.specs.Displaced.{displaced_in}
use Rattle.tk_run.specs.declared.server.Server.{Server}
use Rattle.tk_run.specs.Servers.{IsServerAt, AreServers, IsReadyServer, AreReady, MayTakeEntry, MayTakeAll, with_more}
use Rattle.tk_lists.proofs.Offers.{ChangedUpTo}

-- a server has seen an entry and taken it
pub record Takes (p : Placed) (old new : Server) : Type 0 where
  pub ready : (shape : Shape) (E : List Placed) → IsReadyServer shape E old → IsNext shape E p →
      IsReadyServer shape (E ++ p ∷ []) new
  pub server : (shape : Shape) (E : List Placed) (bytes : List ℕ) → IsServerAt shape E bytes old →
      IsServerAt shape (E ++ p ∷ []) (bytes ++ placed_frame p) new

pub all_take : (p : Placed) (i : ℕ) (old new : List Server) (shape : Shape) (E : List Placed) →
    length new ≤ i → ChangedUpTo (Takes p) i old new → AreReady shape E old → IsNext shape E p →
    AreReady shape (E ++ p ∷ []) new
all_take p i old new shape E past h are next =
    let same = h.counted in
    record {
      counted = same ∙ are.counted;
      order = order-push shape E p are.order next;
      each = λ k d within.
          let low : k < length old = omega (arith, within, same) in
          (h.done k d (omega (arith, within, past)) low).ready shape E (are.each k d low) next;
    }

pub all_hold : (p : Placed) (i : ℕ) (old new : List Server) (shape : Shape)
    (Es : ℕ → List Placed) (seen : ℕ → List ℕ) → length new ≤ i → ChangedUpTo (Takes p) i old new →
    AreServers shape Es seen old →
    AreServers shape (with_more Es (p ∷ [])) (λ j. seen j ++ placed_frame p) new
all_hold p i old new shape Es seen past h are =
    let same = h.counted in
    record {
      counted = same ∙ are.counted;
      each = λ k d within.
          let low : k < length old = omega (arith, within, same) in
          (h.done k d (omega (arith, within, past)) low).server shape (Es (k + 1)) (seen (k + 1))
          (are.each k d low);
    }

-- a server that has not changed may take what all may
pub one_may_take : (Changes : Server → Server → Type 0) (p : Placed) (i : ℕ)
    (old new : List Server) (d : Server) → MayTakeAll p old → i < length old →
    ChangedUpTo Changes i old new → MayTakeEntry p (slice_index_or new i d)
one_may_take Changes p i old new d may low h =
    record {
      shape = may.shape;
      E = may.E;
      is =
          subst (IsReadyServer may.shape may.E) (sym (h.left i d (omega arith))) (may.are.each i d low);
      next = may.next;
    }

-- the first server counted the displaced writes of what it holds
pub first-displaced : (shape : Shape) (Es : ℕ → List Placed) (seen : ℕ → List ℕ)
    (servers : List Server) (d : Server) → AreServers shape Es seen servers →
    (slice_index_or servers 0 d).displaced ≡ displaced_in shape (Es 1)
first-displaced shape Es seen servers d are =
    let low = shape.in_range.servers_low in
    (are.each 0 d (omega (arith, low, are.counted))).displaced
