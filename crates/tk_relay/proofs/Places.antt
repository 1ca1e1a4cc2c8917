-- What comes from the elements of a list one after the other.
use Rattle.std.proofs.Common.{◌≡◌, ap, ap₂, sym, ◌∙◌, arith, ℕ, ◌+◌, ◌-◌, ◌<◌, ◌≤◌, List, [], ◌∷◌, ◌++◌, length, map, drop, flat_map}
use Rattle.std.proofs.Common.{append_assoc, add-one, drop-cons, cond, ◌≢◌}
use Rattle.std.specs.Prelude.{slice_index_or}
use Rattle.std.specs.List.{range_with_len}
use Rattle.std.proofs.lemmas.Bool.{ne_eqb}
use Rattle.std.proofs.lemmas.List.FromFn.{map-range_with_len_more}
use Rattle.tk_relay.specs.declared.part.Part.{Part}
use Rattle.tk_relay.specs.declared.relayed_read.RelayedRead.{RelayedRead}
use Rattle.tk_relay.specs.Parts.{part_frame, masked_reply_frame}
use Rattle.tk_relay.specs.Reads.{part_of, reply_of, read_seen}

-- what is there with what is left, after one more element
pub seen-next : {X : Type 0} (f : X → List ℕ) (xs : List X) (i : ℕ) (x : X) (old new : List ℕ) →
    i < length xs → x ≡ slice_index_or xs i x → new ≡ old ++ f x →
    new ++ flat_map f (drop (i + 1) xs) ≡ old ++ flat_map f (drop i xs)
seen-next f xs i x old new low is pushed =
    ap (λ (ys : List ℕ). ys ++ flat_map f (drop (i + 1) xs)) pushed
    ∙ append_assoc old (f x) (flat_map f (drop (i + 1) xs))
    ∙ ap (λ ys. old ++ (f ys ++ flat_map f (drop (i + 1) xs))) is
    ∙ ap (λ n. old ++ (f (slice_index_or xs i x) ++ flat_map f (drop n xs))) (add-one i)
    ∙ ap (λ ys. old ++ flat_map f ys) (sym (drop-cons xs i x low))

-- what is made for the numbers from one on, with one more
pub made-next : {X : Type 0} (f : ℕ → X) (server : ℕ) (old new : List X) (x : X) → 1 ≤ server →
    x ≡ f server → new ≡ old ++ x ∷ [] → old ≡ map f (range_with_len 1 (server - 1)) →
    new ≡ map f (range_with_len 1 (server + 1 - 1))
made-next f server old new x low is pushed so_far =
    let next : server - 1 + 1 ≡ server + 1 - 1 = omega (arith, low) in
    pushed
    ∙ ap₂ (λ ys y. ys ++ y ∷ []) so_far is
    ∙ sym (map-range_with_len_more f 1 (server - 1) server (omega (arith, low)))
    ∙ ap (λ n. map f (range_with_len 1 n)) next

-- what another server than the first sees of a read
pub other-seen : (server : ℕ) (r : RelayedRead) (p q : Part) (old mid new : List ℕ) → server ≢ 1 →
    p ≡ part_of r server → q ≡ reply_of r server → mid ≡ old ++ part_frame p →
    new ≡ mid ++ masked_reply_frame q → new ≡ old ++ read_seen server r
other-seen server r p q old mid new other part_is reply_is first second =
    second ∙ ap (λ (xs : List ℕ). xs ++ masked_reply_frame q) first
    ∙ append_assoc old (part_frame p) (masked_reply_frame q)
    ∙ ap₂ (λ (x y : Part). old ++ (part_frame x ++ masked_reply_frame y)) part_is reply_is
    ∙ ap (λ b. old ++ cond b (r.bundle ++ flat_map masked_reply_frame (drop 1 r.replies.items))
    (part_frame (part_of r server) ++ masked_reply_frame (reply_of r server)))
    (sym (ne_eqb server 1 other))
