-- What servers reply to the reads of a turn, server by server.
use Rattle.std.proofs.Common.{◌≡◌, refl, ap, ap₂, sym, subst, ◌∙◌, arith, ℕ, zero, suc, ◌+◌, ◌-◌, ◌<◌, ◌≤◌, List, [], ◌∷◌, ◌++◌}
use Rattle.std.proofs.Common.{length, map, drop, add-one, append_assoc, append-nil}
use Rattle.std.specs.Prelude.{All, slice_index_or}
use Rattle.std.specs.List.{AllByRecursion, range_with_len, zip}
use Rattle.std.proofs.lemmas.List.{length-map}
use Rattle.std.proofs.lemmas.List.Elements.{All-from_recursion, recursion_from_All}
use Rattle.std.proofs.lemmas.List.FromFn.{map-range_with_len_more}
use Rattle.std.proofs.lemmas.Slice.Zip.{get_or-zip, seconds-zip}
use Rattle.tk_shape.specs.declared.shape.Shape.{Shape}
use Rattle.tk_relay.specs.declared.part.Part.{Part}
use Rattle.tk_relay.specs.declared.relayed_read.RelayedRead.{RelayedRead}
use Rattle.tk_relay.specs.Pads.{PadLists, Padding}
use Rattle.tk_relay.specs.Parts.{blank_part}
use Rattle.tk_relay.specs.Reads.{HasAllParts, AreRepliedTo, AreServed, HaveReplies, part_of}
use Rattle.tk_relay.specs.Serving.{IsAsking, served_part, served_parts, reply_to_asked}
use Rattle.tk_relay.proofs.ServedParts.{map-at}

-- ---- replies that are taken one after the other

-- the next one stands at its place
pub next-there : {X : Type 0} (xs : List X) (i : ℕ) (x d : X) (rest : List X) →
    drop i xs ≡ x ∷ rest → slice_index_or xs i d ≡ x
next-there [] zero x d rest left = cc
next-there [] (suc i) x d rest left = cc
next-there (y ∷ ys) zero x d rest left = cc
next-there (y ∷ ys) (suc i) x d rest left = next-there ys i x d rest left

-- and what comes after it is left
next-behind : {X : Type 0} (xs : List X) (i : ℕ) (x : X) (rest : List X) →
    drop i xs ≡ x ∷ rest → drop (suc i) xs ≡ rest
next-behind [] zero x rest left = cc
next-behind [] (suc i) x rest left = cc
next-behind (y ∷ ys) zero x rest left = cc
next-behind (y ∷ ys) (suc i) x rest left = next-behind ys i x rest left

pub next-left : {X : Type 0} (xs : List X) (i : ℕ) (x : X) (rest : List X) →
    drop i xs ≡ x ∷ rest → drop (i + 1) xs ≡ rest
next-left xs i x rest left = ap (λ n. drop n xs) (add-one i) ∙ next-behind xs i x rest left

-- ---- the parts of a server

-- each read has one
pub parts-there : (shape : Shape) (server : ℕ) (reads : List RelayedRead) → server ≤ shape.servers →
    All (HasAllParts shape) reads → All (λ r. server ≤ length r.parts.items) reads
parts-there shape server reads high whole k d low =
    let is = whole k d low in
    omega (arith, high, is.counted)

-- and it is one of the shape
asking-each : (shape : Shape) (server : ℕ) (reads : List RelayedRead) → 1 ≤ server →
    server ≤ shape.servers → AllByRecursion (HasAllParts shape) reads →
    AllByRecursion (IsAsking shape) (map (λ r. part_of r server) reads)
asking-each shape server [] low high whole = tt
asking-each shape server (r ∷ reads) low high whole =
    let counted = whole.0.counted in (
      All-from_recursion (IsAsking shape) r.parts.items whole.0.sized (server - 1) blank_part
          (omega (arith, counted, low, high)),
      asking-each shape server reads low high whole.1,
    )

pub parts-asking : (shape : Shape) (server : ℕ) (reads : List RelayedRead) → 1 ≤ server →
    server ≤ shape.servers → All (HasAllParts shape) reads →
    All (IsAsking shape) (map (λ r. part_of r server) reads)
parts-asking shape server reads low high whole =
    All-from_recursion (IsAsking shape) (map (λ r. part_of r server) reads)
    (asking-each shape server reads low high (recursion_from_All (HasAllParts shape) reads whole))

-- ---- one server's replies

module _ (shape : Shape) (blocks : List (List ℕ)) (server : ℕ) (pads : List Padding)
    (reads new : List RelayedRead) (replies : List Part) (counted : length pads ≡ length reads) where
  -- the reply to the part of a read
  reply-there : (k : ℕ) (p : Padding) (d : RelayedRead) → k < length reads →
      replies ≡ served_parts shape blocks server pads (map (λ r. part_of r server) reads) →
      slice_index_or replies k blank_part
      ≡ served_part shape blocks (slice_index_or pads k p).pads server
      (part_of (slice_index_or reads k d) server)
  reply-there k p d low are =
      let part = λ (r : RelayedRead). part_of r server in
      let parts = map part reads in
      let reply = reply_to_asked shape blocks server in
      let as_many = length-map reads part in
      let both : length (zip pads parts) ≡ length parts =
      sym (length-map (zip pads parts) (λ (x : Padding × Part). x.1))
      ∙ ap length (seconds-zip pads parts (as_many ∙ sym counted))
      in
      let there : k < length parts = omega (arith, low, as_many) in
      ap (λ (ps : List Part). slice_index_or ps k blank_part) are
      ∙ map-at reply (zip pads parts) k (p, blank_part) blank_part (omega (arith, there, both))
      ∙ ap reply (get_or-zip pads parts k (p, blank_part) (omega (arith, low, counted)) there)
      ∙ ap (λ (q : Part). reply (slice_index_or pads k p, q)) (map-at part reads k d blank_part low)

  pub served-by : replies ≡ served_parts shape blocks server pads (map (λ r. part_of r server) reads) →
      HaveReplies replies reads new → AreServed shape blocks pads server 1 reads new
  served-by are have =
      record {
        counted = have.counted;
        each = λ k p d low.
            let is = have.each k blank_part d low in
            let old = slice_index_or reads k d in
            record {
              bundle = is.bundle;
              parts = is.parts;
              replies = is.replies
                  ∙ ap (λ (q : Part). old.replies.items ++ q ∷ []) (reply-there k p d low are);
            };
      }

-- reads that get replies are still whole
pub replied-whole : {shape : Shape} {replies : List Part} {old new : List RelayedRead} →
    HaveReplies replies old new → All (HasAllParts shape) old → All (HasAllParts shape) new
replied-whole {shape} {replies} {old} have whole k d low =
    let within : k < length old = omega (arith, low, have.counted) in
    let is = have.each k blank_part d within in
    let was = whole k d within in
    record {
      counted = ap (λ (ps : _). length ps.items) is.parts ∙ was.counted;
      sized = subst (λ (ps : _). AllByRecursion (IsAsking shape) ps.items) (sym is.parts) was.sized;
    }

-- ---- server by server

module _ (shape : Shape) (blocks : List (List ℕ)) where
  -- no server has replied to a read yet
  pub served-none : (pads : List Padding) (reads : List RelayedRead) →
      AreServed shape blocks pads 1 0 reads reads
  served-none pads reads =
      record {
        counted = refl;
        each = λ k p d low. record {
          bundle = refl;
          parts = refl;
          replies = sym (append-nil (slice_index_or reads k d).replies.items);
        };
      }

  served-next : (pads : PadLists) (n : ℕ) (old mid new : RelayedRead) →
      AreRepliedTo shape blocks pads 1 n old mid → AreRepliedTo shape blocks pads (n + 1) 1 mid new →
      AreRepliedTo shape blocks pads 1 (n + 1) old new
  served-next pads n old mid new first second =
      let reply = λ (j : ℕ). served_part shape blocks pads j (part_of old j) in
      let so_far = map reply (range_with_len 1 n) in
      -- what a server replies doesn't depend on the replies before it
      let same : served_part shape blocks pads (n + 1) (part_of mid (n + 1)) ≡ reply (n + 1) =
      ap (λ (ps : _). served_part shape blocks pads (n + 1)
      (slice_index_or ps.items (n + 1 - 1) blank_part)) first.parts
      in
      record {
        bundle = second.bundle ∙ first.bundle;
        parts = second.parts ∙ first.parts;
        replies =
            second.replies
            ∙ ap₂ (λ (ps : List Part) (p : Part). ps ++ p ∷ []) first.replies same
            ∙ append_assoc old.replies.items so_far (reply (n + 1) ∷ [])
            ∙ ap (λ (ps : List Part). old.replies.items ++ ps)
            (sym (map-range_with_len_more reply 1 n (n + 1) (omega arith)));
      }

  pub all-next : (pads : List Padding) (n : ℕ) (old mid new : List RelayedRead) →
      AreServed shape blocks pads 1 n old mid → AreServed shape blocks pads (n + 1) 1 mid new →
      AreServed shape blocks pads 1 (n + 1) old new
  all-next pads n old mid new first second =
      let same = first.counted in
      record {
        counted = second.counted ∙ same;
        each = λ k p d low.
            served-next (slice_index_or pads k p).pads n (slice_index_or old k d)
            (slice_index_or mid k d) (slice_index_or new k d) (first.each k p d low)
            (second.each k p d (omega (arith, low, same)));
      }
