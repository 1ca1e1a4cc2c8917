-- Servers that take the entries of a turn, one item after the other.
use Rattle.std.proofs.Common.{◌≡◌, ◌∙◌, ℕ, ◌+◌, ◌-◌, ◌<◌, ◌≤◌, ap, refl, sym, subst, arith, List, [], ◌∷◌, ◌++◌, length}
use Rattle.std.proofs.Common.{append-nil, append_assoc, length-append}
use Rattle.std.proofs.lemmas.Grind.{flat_map-append}
use Rattle.std.specs.Prelude.{slice_index_or}
use Rattle.tk_shape.specs.declared.shape.Shape.{Shape}
use Rattle.tk_frames.specs.declared.entry.Placed.{Placed}
use Rattle.tk_frames.specs.InOrder.{IsOrder}
use Rattle.tk_frames.specs.Spelling.{placed_frame}
use Rattle.tk_run.specs.declared.server.Server.{Server}
use Rattle.tk_run.specs.declared.servers.Servers.{Servers}
use Rattle.tk_run.specs.Servers.{IsServerAt, AreServers, AreReady, TookOn, nothing_seen, taken_seen, with_more}

-- servers of the same entries that saw the same
pub servers-same : (shape : Shape) (Es Fs : ℕ → List Placed) (seen saw : ℕ → List ℕ)
    (servers : List Server) → ((j : ℕ) → 1 ≤ j → j ≤ shape.servers → Es j ≡ Fs j) →
    ((j : ℕ) → 1 ≤ j → j ≤ shape.servers → seen j ≡ saw j) →
    AreServers shape Es seen servers → AreServers shape Fs saw servers
servers-same shape Es Fs seen saw servers entries same are =
    record {
      counted = are.counted;
      each = λ i d within.
          let is = are.each i d within in
          let high : i + 1 ≤ shape.servers = omega (arith, within, are.counted) in
          let now = subst (λ (ps : List Placed). IsServerAt shape ps (seen (i + 1))
          (slice_index_or servers i d)) (entries (i + 1) (omega arith) high) is in
          record {
            state = now.state;
            floor = now.floor;
            seen = now.seen ∙ same (i + 1) (omega arith) high;
            displaced = now.displaced;
          };
    }

pub ready-same : (shape : Shape) (E F : List Placed) (servers : List Server) → E ≡ F →
    AreReady shape E servers → AreReady shape F servers
ready-same shape E F servers same are =
    subst (λ (ps : List Placed). AreReady shape ps servers) same are

-- what servers hold is in order
pub servers-order : (shape : Shape) (Es : ℕ → List Placed) (seen : ℕ → List ℕ)
    (servers : List Server) → AreServers shape Es seen servers →
    (j : ℕ) → 1 ≤ j → j ≤ shape.servers → IsOrder shape (Es j)
servers-order shape Es seen servers are j low high =
    let place : j - 1 < length servers = omega (arith, low, high, are.counted) in
    let there : j - 1 + 1 ≡ j = omega (arith, low) in
    subst (λ (i : ℕ). IsOrder shape (Es i)) there
    (are.each (j - 1) (some-server servers place) place).state.order
  where
    some-server : (servers : List Server) → j - 1 < length servers → Server
    some-server [] some = absurd (omega (arith, some))
    some-server (s ∷ servers) some = s

-- ---- the entries of a turn

-- before any they have taken none
pub taken-none : (shape : Shape) (E : List Placed) (servers : Servers) →
    servers.taken ≡ length E → AreReady shape E servers.list.items → TookOn servers shape E [] servers
taken-none shape E servers counted ready =
    let all = sym (append-nil E) in
    record {
      taken = counted ∙ ap length all;
      ready = ready-same shape E (E ++ []) servers.list.items all ready;
      are = λ Es are.
          servers-same shape Es (with_more Es []) nothing_seen (taken_seen []) servers.list.items
          (λ j low high. sym (append-nil (Es j))) (λ j low high. refl) are;
    }

-- one entry more
pub taken-more : (was : Servers) (shape : Shape) (E F : List Placed) (p : Placed)
    (servers new : Servers) → TookOn was shape E F servers → new.taken ≡ servers.taken + 1 →
    AreReady shape ((E ++ F) ++ p ∷ []) new.list.items →
    ((Es : ℕ → List Placed) → AreServers shape (with_more Es F) (taken_seen F) servers.list.items →
    AreServers shape (with_more (with_more Es F) (p ∷ []))
    (λ j. taken_seen F j ++ placed_frame p) new.list.items) →
    TookOn was shape E (F ++ p ∷ []) new
taken-more was shape E F p servers new have counted ready more =
    let all = append_assoc E F (p ∷ []) in
    record {
      taken =
          counted ∙ ap (λ n. n + 1) have.taken ∙ sym (length-append (E ++ F) (p ∷ []))
          ∙ ap length all;
      ready = ready-same shape ((E ++ F) ++ p ∷ []) (E ++ (F ++ p ∷ [])) new.list.items all ready;
      are = λ Es are.
          servers-same shape (with_more (with_more Es F) (p ∷ [])) (with_more Es (F ++ p ∷ []))
          (λ j. taken_seen F j ++ placed_frame p) (taken_seen (F ++ p ∷ [])) new.list.items
          (λ j low high. append_assoc (Es j) F (p ∷ []))
          (λ j low high.
          ap (λ (bytes : List ℕ). taken_seen F j ++ bytes) (sym (append-nil (placed_frame p)))
          ∙ sym (flat_map-append placed_frame F (p ∷ [])))
          (more Es (have.are Es are));
    }
