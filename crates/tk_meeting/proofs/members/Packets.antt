-- Packets to several peers: those for one of them.
use Rattle.tk_meeting.proofs.Terms.{◌≡◌, ℕ, ◌≤◌, ◌<◌, List, [], ◌∷◌, length, map, ◌+◌, ◌==◌, cond, ◌++◌, ◌-◌, false}
use Rattle.tk_meeting.proofs.Terms.{◌∙◌, refl, ap, suc, arith, inl, inr, eq-eqb, ne_eqb, get_or, cases_lt, map-append}
use Rattle.tk_meeting.proofs.Terms.{filter-append, length-map-range_with_len, get_or-map-range_with_len, range_with_len}
use Rattle.tk_meeting.proofs.Terms.{AllByRecursion, PacketView, packet, packets_from, for_peer, frames_for}

pub peer-append : (j : ℕ) (xs ys : List PacketView) →
    for_peer j (xs ++ ys) ≡ for_peer j xs ++ for_peer j ys
peer-append j xs ys = filter-append (λ (p : PacketView). p.peer == j) xs ys

pub frames-append : (j : ℕ) (xs ys : List PacketView) →
    frames_for j (xs ++ ys) ≡ frames_for j xs ++ frames_for j ys
frames-append j xs ys =
    ap (map (λ (p : PacketView). p.bytes)) (peer-append j xs ys)
    ∙ map-append (λ (p : PacketView). p.bytes) (for_peer j xs) (for_peer j ys)

-- none is for a peer below the first
pub none-below : (j a : ℕ) (frames : List (List ℕ)) → j < a → for_peer j (packets_from a frames) ≡ []
none-below j a [] low = refl
none-below j a (x ∷ xs) low =
    let rest = for_peer j (packets_from (a + 1) xs) in
    let other : (a == j) ≡ false = ne_eqb a j (λ e. omega (arith, low, e)) in
    ap (λ b. cond b (packet a x ∷ rest) rest) other ∙ none-below j (a + 1) xs (omega (arith, low))

-- each peer has its own
pub own-at : (a : ℕ) (frames : List (List ℕ)) (j : ℕ) → a ≤ j → j < a + length frames →
    frames_for j (packets_from a frames) ≡ get_or frames (j - a) [] ∷ []
own-at a [] j low high = absurd (omega (arith, low, high))
own-at a (x ∷ xs) j low high =
    let rest = for_peer j (packets_from (a + 1) xs) in
    let bytes = λ (ps : List PacketView). map (λ (p : PacketView). p.bytes) ps in
    elim (cases_lt a j) [
      | inl above ↦
          let other : (a == j) ≡ false = ne_eqb a j (λ e. omega (arith, above, e)) in
          let next : suc (j - (a + 1)) ≡ j - a = omega (arith, above) in
          ap (λ b. bytes (cond b (packet a x ∷ rest) rest)) other
          ∙ own-at (a + 1) xs j (omega (arith, above)) (omega (arith, high))
          ∙ ap (λ i. get_or (x ∷ xs) i [] ∷ []) next
      | inr at ↦
          let same : a ≡ j = omega (arith, low, at) in
          let first : 0 ≡ j - a = omega (arith, same) in
          ap (λ b. bytes (cond b (packet a x ∷ rest) rest)) (eq-eqb a j same)
          ∙ ap (λ ps. bytes (packet a x ∷ ps)) (none-below j (a + 1) xs (omega (arith, same)))
          ∙ ap (λ i. get_or (x ∷ xs) i [] ∷ []) first
    ]

pub own-frame : (f : ℕ → List ℕ) (a n j : ℕ) → a ≤ j → j < a + n →
    frames_for j (packets_from a (map f (range_with_len a n))) ≡ f j ∷ []
own-frame f a n j low high =
    own-at a (map f (range_with_len a n)) j low (omega (arith, high, length-map-range_with_len f a n))
    ∙ ap (λ x. x ∷ [])
    (get_or-map-range_with_len f a n (j - a) j [] (omega (arith, low, high)) (omega (arith, low)))

-- ---- packets to the host

abbrev pub AreToHost : List PacketView → Type 0
AreToHost told = AllByRecursion (λ (p : PacketView). p.peer ≡ 0) told

pub host-own : (told : List PacketView) → AreToHost told → for_peer 0 told ≡ told
host-own [] all = refl
host-own (p ∷ ps) all =
    let rest = for_peer 0 ps in
    ap (λ b. cond b (p ∷ rest) rest) (eq-eqb p.peer 0 all.0)
    ∙ ap (λ (xs : List PacketView). p ∷ xs) (host-own ps all.1)

pub host-alone : (told : List PacketView) (j : ℕ) → 1 ≤ j → AreToHost told → for_peer j told ≡ []
host-alone [] j low all = refl
host-alone (p ∷ ps) j low all =
    let rest = for_peer j ps in
    let at = all.0 in
    ap (λ b. cond b (p ∷ rest) rest) (ne_eqb p.peer j (λ e. omega (arith, low, e, at)))
    ∙ host-alone ps j low all.1
