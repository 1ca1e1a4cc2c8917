-- What servers give to their taps.
use Rattle.std.proofs.Common.{◌≡◌, ◌≢◌, ap, sym, subst, ◌∙◌, arith, inl, inr, ℕ, ◌+◌, ◌-◌, ◌<◌, ◌≤◌}
use Rattle.std.proofs.Common.{◌⊎◌, List, [], ◌∷◌, length, set}
use Rattle.std.specs.Prelude.{Option, slice_index_or}
use Rattle.std.proofs.lemmas.Bool.{cases_lt}
use Rattle.std.proofs.lemmas.Grind.{get_or-set_at}
use Rattle.std.proofs.lemmas.List.{get_or_default, get_or-set_other, length-set}
use Rattle.tk_shape.specs.declared.shape.Shape.{Shape}
use Rattle.tk_frames.specs.declared.entry.Placed.{Placed}
use Rattle.tk_io.specs.Content.{gained}
use Rattle.tk_run.specs.declared.server.Server.{Server}
use Rattle.tk_run.specs.Servers.{IsServerAt, AreServers, IsReadyServer, AreReady, nothing_seen}
use Rattle.tk_io.specs.Tapped.{GainsFront, TapsGain, TapsGainFronts}
use Rattle.tk_io.proofs.Offers.{fronts-here}

-- a server has what another has, and has seen nothing since
pub record IsGiven (s t : Server) : Type 0 where
  pub ready : (shape : Shape) (E : List Placed) → IsReadyServer shape E s → IsReadyServer shape E t
  pub server : (shape : Shape) (E : List Placed) (bytes : List ℕ) →
      IsServerAt shape E bytes s → IsServerAt shape E [] t

-- the first n servers gave what they saw to their taps, and nothing else came about
pub record GaveTo (n : ℕ) (from to : List Server) (old new : ℕ → Option (List ℕ)) : Type 0 where
  pub counted : length to ≡ length from
  pub given : (k : ℕ) (d : Server) → k < n →
      IsGiven (slice_index_or from k d) (slice_index_or to k d)
  pub left : (k : ℕ) (d : Server) → n ≤ k → slice_index_or to k d ≡ slice_index_or from k d
  pub taps : (k : ℕ) (d : Server) → k < n →
      new (k + 1) ≡ gained (old (k + 1)) (slice_index_or from k d).seen.items
  pub others : (j : ℕ) → (j ≡ 0) ⊎ (n < j) → new j ≡ old j

-- one more server gives what it saw
pub gave-more : {n : ℕ} {from to : List Server} {old mid new : ℕ → Option (List ℕ)} {s : Server} (given : Server) →
    GaveTo n from to old mid → n < length to → s ≡ slice_index_or to n s → IsGiven s given →
    new (n + 1) ≡ gained (mid (n + 1)) s.seen.items →
    ((j : ℕ) → j ≢ n + 1 → new j ≡ mid j) →
    GaveTo (n + 1) from (set to n given) old new
gave-more {n} {from} {to} {old} {mid} {new} {s} next gave within here is tap stay =
    record {
      counted = length-set to n next ∙ gave.counted;
      given = λ k d below. elim (cases_lt k n) [
        | inl before ↦
            subst (IsGiven (slice_index_or from k d))
            (sym (get_or-set_other to n k next d (λ same. omega (arith, same, before))))
            (gave.given k d before)
        | inr at ↦
            let same : k ≡ n = omega (arith, below, at) in
            subst (IsGiven (slice_index_or from k d))
            (sym (get_or-set_at to n k next d same within))
            (subst (λ (x : Server). IsGiven x next) (sym (was k d same)) is)
      ];
      left = λ k d past.
          get_or-set_other to n k next d (λ same. omega (arith, same, past))
          ∙ gave.left k d (omega (arith, past));
      taps = λ k d below. elim (cases_lt k n) [
        | inl before ↦
            stay (k + 1) (λ same. omega (arith, same, before)) ∙ gave.taps k d before
        | inr at ↦
            let same : k ≡ n = omega (arith, below, at) in
            ap (λ (i : ℕ). new (i + 1)) same ∙ tap
            ∙ ap (λ (x : Option (List ℕ)). gained x s.seen.items) (gave.others (n + 1) (inr (omega arith)))
            ∙ ap (λ (i : ℕ). gained (old (i + 1)) s.seen.items) (sym same)
            ∙ ap (λ (x : Server). gained (old (k + 1)) x.seen.items) (sym (was k d same))
      ];
      others = λ j past.
          stay j (not_one j past) ∙ gave.others j (still j past);
    }
  where
    was : (k : ℕ) (d : Server) → k ≡ n → slice_index_or from k d ≡ s
    was k d same =
        ap (λ (i : ℕ). slice_index_or from i d) same ∙ sym (gave.left n d (omega arith))
        ∙ get_or_default to n d s within ∙ sym here

    not_one : (j : ℕ) → (j ≡ 0) ⊎ (n + 1 < j) → j ≢ n + 1
    not_one j (inl e) same = omega (arith, e, same)
    not_one j (inr h) same = omega (arith, h, same)

    still : (j : ℕ) → (j ≡ 0) ⊎ (n + 1 < j) → (j ≡ 0) ⊎ (n < j)
    still j (inl e) = inl e
    still j (inr h) = inr (omega (arith, h))

-- ---- when all gave, or one of them couldn't

server_at : (shape : Shape) (Es : ℕ → List Placed) (seen : ℕ → List ℕ) (from : List Server) →
    AreServers shape Es seen from → (k : ℕ) (d : Server) → k < length from →
    (slice_index_or from k d).seen.items ≡ seen (k + 1)
server_at shape Es seen from are k d within = (are.each k d within).seen

pub gave-servers : {n : ℕ} {from to : List Server} {old new : ℕ → Option (List ℕ)} →
    GaveTo n from to old new → length to ≤ n →
    (shape : Shape) (Es : ℕ → List Placed) (seen : ℕ → List ℕ) →
    AreServers shape Es seen from → AreServers shape Es nothing_seen to
gave-servers gave all shape Es seen are =
    record {
      counted = gave.counted ∙ are.counted;
      each = λ k d within.
          (gave.given k d (omega (arith, within, all))).server shape (Es (k + 1)) (seen (k + 1))
          (are.each k d (omega (arith, within, gave.counted)));
    }

pub gave-ready : {n : ℕ} {from to : List Server} {old new : ℕ → Option (List ℕ)} →
    GaveTo n from to old new → length to ≤ n → (shape : Shape) (E : List Placed) →
    AreReady shape E from → AreReady shape E to
gave-ready gave all shape E are =
    record {
      counted = gave.counted ∙ are.counted;
      order = are.order;
      each = λ k d within.
          (gave.given k d (omega (arith, within, all))).ready shape E
          (are.each k d (omega (arith, within, gave.counted)));
    }

-- the tap of a server by its number
tap_of : {n : ℕ} {from to : List Server} {old new : ℕ → Option (List ℕ)} → GaveTo n from to old new →
    (shape : Shape) (Es : ℕ → List Placed) (seen : ℕ → List ℕ) →
    AreServers shape Es seen from → (d : Server) (j : ℕ) → 1 ≤ j → j ≤ n →
    j ≤ length from → new j ≡ gained (old j) (seen j)
tap_of {n} {from} {to} {old} {new} gave shape Es seen are d j low below high =
    let back : (j - 1) + 1 ≡ j = omega (arith, low) in
    subst (λ (i : ℕ). new i ≡ gained (old i) (seen i)) back
    (gave.taps (j - 1) d (omega (arith, low, below))
    ∙ ap (gained (old ((j - 1) + 1)))
    (server_at shape Es seen from are (j - 1) d (omega (arith, low, high))))

any_server : (from : List Server) (j : ℕ) → 1 ≤ j → j ≤ length from → Server
any_server [] j low high = absurd (omega (arith, low, high))
any_server (s ∷ from) j low high = s

pub gave-taps : {n : ℕ} {from to : List Server} {old new : ℕ → Option (List ℕ)} →
    GaveTo n from to old new → length to ≤ n →
    (shape : Shape) (Es : ℕ → List Placed) (seen : ℕ → List ℕ) →
    AreServers shape Es seen from → TapsGain shape.servers seen old new
gave-taps {n} {from} gave all shape Es seen are j low high =
    let within : j ≤ length from = omega (arith, high, are.counted) in
    tap_of gave shape Es seen are (any_server from j low within) j low
    (omega (arith, within, all, gave.counted)) within

-- one of them gave a front, and those after it nothing
pub gave-fronts : {n : ℕ} {from to : List Server} {old mid : ℕ → Option (List ℕ)} {s : Server}
    (new : ℕ → Option (List ℕ)) →
    GaveTo n from to old mid → n < length to → s ≡ slice_index_or to n s →
    GainsFront (mid (n + 1)) (new (n + 1)) s.seen.items →
    ((j : ℕ) → j ≢ n + 1 → new j ≡ mid j) →
    (shape : Shape) (Es : ℕ → List Placed) (seen : ℕ → List ℕ) →
    AreServers shape Es seen from → TapsGainFronts shape.servers seen old new
gave-fronts {n} {from} {to} {old} {mid} {s} new gave within here front stay shape Es seen are =
    fronts-here n shape.servers seen old mid new
    (λ j low high. tap_of gave shape Es seen are s j low high (omega (arith, high, within, gave.counted)))
    gave.others (subst (GainsFront (mid (n + 1)) (new (n + 1))) saw front) stay
  where
    saw : s.seen.items ≡ seen (n + 1)
    saw =
        ap (λ (x : Server). x.seen.items) (here ∙ gave.left n s (omega arith))
        ∙ server_at shape Es seen from are n s (omega (arith, within, gave.counted))
