-- Servers that go on from a checkpoint.
use Rattle.std.proofs.Common.{◌≡◌, ℕ, ◌+◌, ◌-◌, ◌<◌, ◌≤◌, ◌∙◌, refl, ap, sym, subst, arith, inl, inr, List, [], ◌∷◌, length, set}
use Rattle.std.proofs.Common.{◌⊎◌, get_or-set_other, get_or-set_same, length-set}
use Rattle.std.specs.Prelude.{◌==◌, Some, None, slice_index_or}
use Rattle.std.proofs.lemmas.Bool.{cases_Bool, cases_lt, cond-false, eqb-true}
use Rattle.std.proofs.lemmas.List.{get_or_default}
use Rattle.tk_shape.specs.declared.shape.Shape.{Shape}
use Rattle.tk_frames.specs.declared.entry.Placed.{Placed}
use Rattle.tk_frames.specs.InOrder.{IsOrder}
use Rattle.tk_replica.specs.Replica.{ReplicaView}
use Rattle.tk_replica.specs.Restoring.{EndsWithMark}
use Rattle.tk_checkpoint.specs.declared.error.CheckpointError.TheVariants.{NotAtMark}
use Rattle.tk_checkpoint.specs.Saved.{Saved, saved, saved_of, last_upto}
use Rattle.tk_checkpoint.specs.Reading.{saved_in, applied_in, last_in}
use Rattle.tk_checkpoint.specs.Refusals.{checkpoint_refusal}
use Rattle.tk_checkpoint.specs.Laws.{SavedIsSound, SavedReadsBack}
use Rattle.tk_report.specs.Displaced.{displaced_in}
use Rattle.tk_run.specs.declared.server.Server.{Server}
use Rattle.tk_run.specs.Keeping.{AreAccepted, AreGiven, CheckpointsAccepted, HasBegunAnew, HaveBegunAnew}
use Rattle.tk_run.specs.Keeping.{IsAccepted, OneRefuses, StandIn}
use Rattle.tk_run.specs.Servers.{IsServerAt, AreServers, IsReadyServer, AreReady, alike, nothing_seen}

-- a state that may be written has applied nothing behind its last mark
pub at_mark : (s : ReplicaView) → checkpoint_refusal s ≡ None → last_upto s ≡ s.applied
at_mark s none =
    elim (cases_Bool (last_upto s == s.applied)) [
      | inl same ↦ eqb-true (last_upto s) s.applied same
      | inr other ↦
          let refused = cond-false (last_upto s == s.applied) None (Some (NotAtMark s.applied (last_upto s))) other in
          absurd (none≢some (sym none ∙ refused))
    ]
  where
    none≢some : {X : Type 0} {x : X} → None ≡ Some x → ⊥
    none≢some e = absurd cc

-- a state that was made of bytes has applied as many entries and marks as stand there
module _ (shape : Shape) (bytes : List ℕ) (s : ReplicaView) (parts : saved_of s ≡ saved_in shape bytes)
  where
    pub made-applied : applied_in bytes ≡ s.applied
    unfolding saved_in
    made-applied = sym (ap (λ (x : Saved). x.applied) parts)

    pub made-last : last_in bytes ≡ s.last
    unfolding saved_in
    made-last = sym (ap (λ (x : Saved). x.last) parts)

-- a checkpoint is accepted where as many entries and marks are
pub accepted-where : SavedIsSound → SavedReadsBack → CheckpointsAccepted
unfolding saved_in
accepted-where is_sound reads_back shape E F order ends =
    let back = reads_back shape F order in
    let applied = ap (λ (x : Saved). x.applied) back in
    let last = ap (λ (x : Saved). x.last) back in (
      λ is. (sym applied ∙ is.applied, sym last ∙ is.last),
      λ same. record {
        sound = is_sound shape F order ends;
        applied = applied ∙ same.0;
        last = last ∙ same.1;
      },
    )

-- a server has gone on from bytes
pub record GoesOn (shape : Shape) (bytes : List ℕ) (old new : Server) : Type 0 where
  pub accepted : (E : List Placed) (seen : List ℕ) → IsServerAt shape E seen old → IsAccepted shape E bytes
  pub anew : HasBegunAnew shape bytes new
  pub ready : (E : List Placed) → IsReadyServer shape E old → IsReadyServer shape E new
  pub stands : (E F : List Placed) (seen : List ℕ) → IsServerAt shape E seen old → IsOrder shape F →
      EndsWithMark F → displaced_in shape F ≡ displaced_in shape E → bytes ≡ saved shape F →
      IsServerAt shape F seen new

-- up to a place each has, of what it was given, and from there on none
pub record GoneOnUpTo (shape : Shape) (gives : ℕ → List ℕ) (i : ℕ) (old new : List Server) : Type 0
  where
    pub counted : length new ≡ length old
    pub done : (k : ℕ) (d : Server) → k < i → k < length old →
        GoesOn shape (gives (k + 1)) (slice_index_or old k d) (slice_index_or new k d)
    pub left : (k : ℕ) (d : Server) → i ≤ k → slice_index_or new k d ≡ slice_index_or old k d

pub gone-none : (shape : Shape) (gives : ℕ → List ℕ) (servers : List Server) →
    GoneOnUpTo shape gives 0 servers servers
gone-none shape gives servers =
    record {
      counted = refl;
      done = λ k d low within. absurd (omega (arith, low));
      left = λ k d low. refl;
    }

-- one server further
pub gone-next : (shape : Shape) (gives : ℕ → List ℕ) (i : ℕ) (old now : List Server) (d new : Server) →
    i < length now → GoesOn shape (gives (i + 1)) (slice_index_or now i d) new →
    GoneOnUpTo shape gives i old now → GoneOnUpTo shape gives (i + 1) old (set now i new)
gone-next shape gives i old now d new low goes h =
    record {
      counted = length-set now i new ∙ h.counted;
      done = λ k e below within. elim (cases_lt k i) [
        | inl earlier ↦
            subst (GoesOn shape (gives (k + 1)) (slice_index_or old k e))
            (sym (get_or-set_other now i k new e (omega (arith, earlier)))) (h.done k e earlier within)
        | inr later ↦
            let same : k ≡ i = omega (arith, below, later) in
            let was : slice_index_or now i d ≡ slice_index_or old i e =
            get_or_default now i d e low ∙ h.left i e (omega arith)
            in
            subst (λ n. GoesOn shape (gives (n + 1)) (slice_index_or old n e)
            (slice_index_or (set now i new) n e)) (sym same)
            (subst (GoesOn shape (gives (i + 1)) (slice_index_or old i e))
            (sym (get_or-set_same now i new e low))
            (subst (λ (s : Server). GoesOn shape (gives (i + 1)) s new) was goes))
      ];
      left = λ k e above.
          get_or-set_other now i k new e (omega (arith, above)) ∙ h.left k e (omega (arith, above));
    }

-- one that is next is as it was, and if it refuses, one does
module _ (shape : Shape) (gives : ℕ → List ℕ) (i : ℕ) (old now : List Server) (low : i < length now)
    (h : GoneOnUpTo shape gives i old now) (E : List Placed)
    (are : AreServers shape (alike E) nothing_seen old) where
  pub next-server : (d : Server) → IsServerAt shape E [] (slice_index_or now i d)
  next-server d =
      subst (IsServerAt shape E []) (sym (h.left i d (omega arith)))
      (are.each i d (omega (arith, low, h.counted)))

  pub next-refuses : (bytes : List ℕ) → bytes ≡ gives (i + 1) → ¬ IsAccepted shape E bytes →
      OneRefuses shape E gives
  next-refuses bytes given refuses =
      record {
        server = i + 1;
        low = omega arith;
        high = omega (arith, low, h.counted, are.counted);
        refuses = λ accepts. refuses (subst (IsAccepted shape E) (sym given) accepts);
      }

module _ (shape : Shape) (gives : ℕ → List ℕ) (i : ℕ) (old new : List Server) (past : length new ≤ i)
    (h : GoneOnUpTo shape gives i old new) where
  here : (k : ℕ) (d : Server) → k < length old →
      GoesOn shape (gives (k + 1)) (slice_index_or old k d) (slice_index_or new k d)
  here k d low = h.done k d (omega (arith, low, past, h.counted)) low

  some-server : (servers : List Server) (j : ℕ) → 1 ≤ j → j ≤ length servers → Server
  some-server [] j low high = absurd (omega (arith, low, high))
  some-server (s ∷ servers) j low high = s

  pub all_accepted : (E : List Placed) → AreServers shape (alike E) nothing_seen old →
      AreAccepted shape E gives
  all_accepted E are j low high =
      let there : j - 1 + 1 ≡ j = omega (arith, low) in
      let inside : j ≤ length old = omega (arith, high, are.counted) in
      let d = some-server old j low inside in
      let within : j - 1 < length old = omega (arith, low, inside) in
      subst (λ n. IsAccepted shape E (gives n)) there
      ((here (j - 1) d within).accepted E [] (are.each (j - 1) d within))

  pub all_anew : HaveBegunAnew shape gives new
  all_anew k d within = (here k d (omega (arith, within, h.counted))).anew

  pub all_ready : (E : List Placed) → AreReady shape E old → AreReady shape E new
  all_ready E are =
      record {
        counted = h.counted ∙ are.counted;
        order = are.order;
        each = λ k d within.
            let low : k < length old = omega (arith, within, h.counted) in
            (here k d low).ready E (are.each k d low);
      }

  pub all_stand : (E : List Placed) (given : ℕ → List Placed) →
      AreServers shape (alike E) nothing_seen old → EndsWithMark E → AreGiven shape E gives given →
      AreServers shape given nothing_seen new
  all_stand E given are ends gave =
      record {
        counted = h.counted ∙ are.counted;
        each = λ k d within.
            let low : k < length old = omega (arith, within, h.counted) in
            let is = are.each k d low in
            let one = gave (k + 1) (omega arith) (omega (arith, low, are.counted)) in
            let F = given (k + 1) in
            let in_place = stand-in E F is.state.order ends one.stands in
            (here k d low).stands E F [] is in_place.order in_place.ends in_place.displaced one.saved;
      }
    where
      stand-in : (E F : List Placed) → IsOrder shape E → EndsWithMark E →
          (F ≡ E) ⊎ StandIn shape E F → StandIn shape E F
      stand-in E F order ends (inl same) =
          subst (StandIn shape E) (sym same)
          (record { order = order; ends = ends; displaced = refl })
      stand-in E F order ends (inr other) = other
