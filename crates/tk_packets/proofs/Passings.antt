-- What passes over a line, packet after packet.
use Rattle.std.proofs.Common.{◌≡◌, ℕ, ◌+◌, List, [], ◌∷◌, ◌++◌, length, take, map, refl, ap, sym, ◌∙◌}
use Rattle.std.proofs.Common.{append_assoc, append-nil, arith, suc}
use Rattle.std.specs.Prelude.{Option, Some, None}
use Rattle.std.proofs.Math.Seq.{take-append_seam}
use Rattle.tk_io.specs.Content.{gained}
use Rattle.tk_packets.specs.Packets.{PacketView, packets_bytes}
use Rattle.tk_packets.specs.Lines.{Passing, Took, Put, Gone, passed, taken, dealt, after_taking, HasPut, HasPutFront, exchanges}

abbrev Past : Type 0
Past = Option (List Passing)

pub passed-twice : (past : Past) (xs ys : List Passing) → passed (passed past xs) ys ≡ passed past (xs ++ ys)
passed-twice None xs ys = refl
passed-twice (Some past) xs ys = ap Some (append_assoc past xs ys)

pub passed-nothing : (past : Past) → passed past [] ≡ past
passed-nothing None = refl
passed-nothing (Some past) = ap Some (append-nil past)

-- a front of some that came behind others is a front of both
take-behind : {X : Type 0} (xs ys : List X) (k : ℕ) → xs ++ take k ys ≡ take (length xs + k) (xs ++ ys)
take-behind [] ys k = let here : k ≡ 0 + k = omega arith in ap (λ n. take n ys) here
take-behind (x ∷ xs) ys k =
    let here : suc (length xs + k) ≡ suc (length xs) + k = omega arith in
    ap (λ zs. x ∷ zs) (take-behind xs ys k) ∙ ap (λ n. take n (x ∷ (xs ++ ys))) here

-- where all passed a front of it did, and where some passed behind others a front of both did
pub front-whole : (past new : Past) (xs : List Passing) → new ≡ passed past xs →
    (k : ℕ) × (new ≡ passed past (take k xs))
front-whole past new xs all =
    (length xs, all ∙ ap (passed past) (sym (take-append_seam xs []) ∙ ap (take (length xs)) (append-nil xs)))

pub front-second : (past now new : Past) (xs ys : List Passing) (k : ℕ) → now ≡ passed past xs →
    new ≡ passed now (take k ys) → (n : ℕ) × (new ≡ passed past (take n (xs ++ ys)))
front-second past now new xs ys k first second = (
  length xs + k,
  second ∙ ap (λ o. passed o (take k ys)) first ∙ passed-twice past xs (take k ys)
      ∙ ap (passed past) (take-behind xs ys k),
)

-- ---- a packet, and what is put for it

module _ (p : PacketView) (answers : List PacketView) (old now new : Gone) (took : now ≡ after_taking (Some p) old) where
  pub dealt-bytes : HasPut answers now new → new.bytes ≡ gained old.bytes (packets_bytes answers)
  dealt-bytes put = put.bytes ∙ ap (λ (g : Gone). gained g.bytes (packets_bytes answers)) took

  pub dealt-order : HasPut answers now new → new.past ≡ passed old.past (dealt p answers)
  dealt-order put =
      put.order ∙ ap (λ (g : Gone). passed g.past (map Put answers)) took
      ∙ passed-twice old.past (Took p ∷ []) (map Put answers)

  pub dealt-bytes_front : (put : HasPutFront answers now new) →
      new.bytes ≡ gained old.bytes (take put.count (packets_bytes answers))
  dealt-bytes_front put = put.bytes ∙ ap (λ (g : Gone). gained g.bytes (take put.count (packets_bytes answers))) took

  pub dealt-order_front : HasPutFront answers now new →
      (k : ℕ) × (new.past ≡ passed old.past (take k (dealt p answers)))
  dealt-order_front put =
      front-second old.past now.past new.past (Took p ∷ []) (map Put answers) put.so_far
      (ap (λ (g : Gone). g.past) took) put.order

-- where a packet is taken nothing is put
pub taking-order : (o : Option PacketView) (old : Gone) → (after_taking o old).past ≡ passed old.past (taken o)
taking-order None old = sym (passed-nothing old.past)
taking-order (Some p) old = refl

pub taking-bytes : (o : Option PacketView) (old : Gone) → (after_taking o old).bytes ≡ old.bytes
taking-bytes None old = refl
taking-bytes (Some p) old = refl

-- ---- packets behind packets

-- the state after packets
abbrev pub state_after : {X : Type 0} → (X → PacketView → X) → X → List PacketView → X
state_after next x [] = x
state_after next x (p ∷ ps) = state_after next (next x p) ps

pub exchanges-both : {X : Type 0} (next : X → PacketView → X) (answers : X → PacketView → List PacketView) (x : X)
    (ps qs : List PacketView) → exchanges next answers x (ps ++ qs)
    ≡ exchanges next answers x ps ++ exchanges next answers (state_after next x ps) qs
exchanges-both next answers x [] qs = refl
exchanges-both next answers x (p ∷ ps) qs =
    ap (λ xs. dealt p (answers x p) ++ xs) (exchanges-both next answers (next x p) ps qs)
    ∙ sym (append_assoc (dealt p (answers x p)) (exchanges next answers (next x p) ps)
    (exchanges next answers (state_after next (next x p) ps) qs))

pub exchanges-one : {X : Type 0} (next : X → PacketView → X) (answers : X → PacketView → List PacketView) (x : X)
    (ps : List PacketView) (p : PacketView) → exchanges next answers x (ps ++ p ∷ [])
    ≡ exchanges next answers x ps ++ dealt p (answers (state_after next x ps) p)
exchanges-one next answers x ps p =
    exchanges-both next answers x ps (p ∷ [])
    ∙ ap (λ xs. exchanges next answers x ps ++ xs) (append-nil (dealt p (answers (state_after next x ps) p)))
