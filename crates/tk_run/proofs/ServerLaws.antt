-- A server that takes an entry, and one that answers reads.
use Rattle.std.proofs.Common.{◌≡◌, refl, ap, ap₂, sym, subst, ◌∙◌, arith, ℕ, zero, suc, ◌+◌, ◌-◌, ◌<◌, ◌≤◌, List, [], ◌∷◌, ◌++◌}
use Rattle.std.proofs.Common.{length, map, take, flat_map, append_assoc, append-nil, add-one, cond, true, false}
use Rattle.std.specs.Prelude.{slice_index_or}
use Rattle.std.specs.List.{AllByRecursion}
use Rattle.std.proofs.lemmas.List.{length-map}
use Rattle.tk_shape.specs.declared.shape.Shape.{Shape}
use Rattle.tk_frames.specs.declared.entry.Placed.{Placed}
use Rattle.tk_frames.specs.declared.read_frame.ReadFrame.{ReadFrame}
use Rattle.tk_frames.specs.Order.{before, is_mark}
use Rattle.tk_frames.specs.declared.entry.Entry.{Entry}
use Rattle.tk_frames.specs.declared.entry.Entry.TheVariants.{Write, Mark}
use Rattle.tk_frames.specs.Ranges.{IsRead, IsPlaced}
use Rattle.tk_frames.specs.Spelling.{read_frame, reply_frame}
use Rattle.tk_frames.specs.InOrder.{mark_count, IsNext, IsNextAt, HasNumber}
use Rattle.tk_frames.proofs.Offers.{marks-push, read-again}
use Rattle.tk_replica.specs.Replica.{ReplicaView}
use Rattle.tk_replica.specs.Keeping.{Numbers, numbers_of, numbers_with, numbers_behind, Applied}
use Rattle.tk_replica.specs.Replies.{reply_for, reply_due, reply_bytes}
use Rattle.tk_report.specs.Exchange.{bytes_of, with_reply}
use Rattle.tk_run.specs.Rows.{Frame, in_pairs}
use Rattle.tk_report.proofs.Offers.{none-displaced}
use Rattle.tk_run.specs.declared.server.Server.{Server}
use Rattle.tk_run.specs.Servers.{AreReadFrames, IsReadyServer, IsServerAt, answered}

-- ---- an entry

-- where all epochs but the last are let go before a mark, none is kept before the last two
pub floor-next : (E : List Placed) (p : Placed) (floor last : ℕ) → mark_count E - 1 ≤ floor →
    last ≡ mark_count E → mark_count (E ++ p ∷ []) - 1 ≤ cond (is_mark p.entry) last floor
floor-next E p floor last low at =
    elim (is_mark p.entry) as (λ b. mark_count (E ++ p ∷ []) ≡ mark_count E + cond b 1 0 →
    mark_count (E ++ p ∷ []) - 1 ≤ cond b last floor) [
      | true ↦ λ counted. omega (arith, at, counted)
      | false ↦ λ counted. omega (arith, low, counted)
    ] (marks-push E p)

-- a server before any entry
pub ready-opened : (shape : Shape) (s : Server) → IsServerAt shape [] [] s → IsReadyServer shape [] s
ready-opened shape s is =
    record {
      same = is.state.same;
      last = is.state.last;
      some = is.state.some;
      displaced = omega (arith, is.displaced, none-displaced shape);
    }

-- what may stand next for a state of these numbers
pub ready-next : (shape : Shape) (E : List Placed) (s : ReplicaView) (p : Placed) →
    s.shape ≡ shape → s.last ≡ mark_count E → p.position - 1 ≡ s.applied → IsNext shape E p →
    IsNextAt s.shape (s.applied + 1) (s.last + 1) p
ready-next shape E s p same last applied next =
    record {
      at = omega (arith, applied, next.in_range.position_low);
      in_range = subst (λ sh. IsPlaced sh p) (sym same) next.in_range;
      number = subst (λ n. HasNumber (n + 1) p.entry) (sym last) next.number;
    }

last-with : (n : Numbers) (x : Entry) (m : ℕ) → n.last ≡ m → HasNumber (m + 1) x →
    (numbers_with n x).last ≡ m + cond (is_mark x) 1 0
last-with n (Write w) m at due = omega (arith, at)
last-with n (Mark e) m at due = due

-- a state has seen one mark more where the entry is one
pub last-next : (E : List Placed) (p : Placed) (old new : ReplicaView) →
    old.last ≡ mark_count E → HasNumber (mark_count E + 1) p.entry →
    numbers_of new ≡ numbers_behind (numbers_of old) (Applied p) →
    new.last ≡ mark_count (E ++ p ∷ [])
last-next E p old new at due numbers =
    ap (λ (n : Numbers). n.last) numbers
    ∙ last-with (numbers_of old) p.entry (mark_count E) at due ∙ sym (marks-push E p)

-- ---- reads

take-none : (xs : List Frame) → take 0 xs ≡ []
take-none [] = refl
take-none (x ∷ xs) = refl

-- one pair more
pairs-next : (fs rs : List Frame) (i : ℕ) (d e : Frame) → i < length fs → i < length rs →
    in_pairs (take (suc i) fs) (take (suc i) rs)
    ≡ in_pairs (take i fs) (take i rs) ++ (slice_index_or fs i d ++ slice_index_or rs i e)
pairs-next [] rs i d e low below = absurd (omega (arith, low))
pairs-next (f ∷ fs) [] i d e low below = absurd (omega (arith, below))
pairs-next (f ∷ fs) (r ∷ rs) zero d e low below =
    ap₂ (λ (xs ys : List Frame). (f ++ r) ++ in_pairs xs ys) (take-none fs) (take-none rs)
    ∙ append-nil (f ++ r)
pairs-next (f ∷ fs) (r ∷ rs) (suc i) d e low below =
    let so_far = in_pairs (take i fs) (take i rs) in
    let both = slice_index_or fs i d ++ slice_index_or rs i e in
    ap (λ (bytes : List ℕ). (f ++ r) ++ bytes)
    (pairs-next fs rs i d e (omega (arith, low)) (omega (arith, below)))
    ∙ sym (append_assoc (f ++ r) so_far both)

-- a read and its reply are seen after the pairs so far
pub pairs-seen : (fs rs : List Frame) (i : ℕ) (f r : Frame) (first old mid new : List ℕ) →
    i < length fs → i < length rs → f ≡ slice_index_or fs i f → r ≡ slice_index_or rs i r →
    old ≡ first ++ in_pairs (take i fs) (take i rs) → mid ≡ old ++ f → new ≡ mid ++ r →
    new ≡ first ++ in_pairs (take (i + 1) fs) (take (i + 1) rs)
pairs-seen fs rs i f r first old mid new low below here there so_far one two =
    let pairs = in_pairs (take i fs) (take i rs) in
    two ∙ ap (λ (bytes : List ℕ). bytes ++ r) one
    ∙ append_assoc old f r
    ∙ ap (λ (bytes : List ℕ). bytes ++ (f ++ r)) so_far
    ∙ append_assoc first pairs (f ++ r)
    ∙ ap₂ (λ (xs ys : Frame). first ++ (pairs ++ (xs ++ ys))) here there
    ∙ ap (λ (bytes : List ℕ). first ++ bytes) (sym (pairs-next fs rs i f r low below))
    ∙ ap (λ (n : ℕ). first ++ in_pairs (take n fs) (take n rs)) (sym (add-one i))

-- ---- what is answered

one-reply : (shape : Shape) (E : List Placed) (r : ReadFrame) → IsRead shape r →
    reply_bytes shape E (read_frame r) ≡ reply_frame (reply_for shape E r)
unfolding reply_due
one-reply shape E r in_range =
    ap (λ (x : ReadFrame). reply_frame (reply_for shape E x)) (read-again shape r in_range)

each-reply : (shape : Shape) (E : List Placed) (reads : List ReadFrame) →
    AllByRecursion (IsRead shape) reads →
    map (reply_bytes shape E) (map read_frame reads)
    ≡ map reply_frame (map (reply_for shape E) reads)
each-reply shape E [] all = refl
each-reply shape E (r ∷ reads) all =
    ap₂ (λ (x : Frame) (xs : List Frame). x ∷ xs) (one-reply shape E r all.0)
    (each-reply shape E reads all.1)

-- the replies to frames are those to the reads that they spell
pub replies-are : (shape : Shape) (E : List Placed) (reads : List ReadFrame)
    (frames replies : List Frame) → AreReadFrames shape reads frames →
    replies ≡ map (reply_bytes shape E) frames →
    replies ≡ map reply_frame (map (reply_for shape E) reads)
replies-are shape E reads frames replies are is =
    is ∙ ap (map (reply_bytes shape E)) are.spelled ∙ each-reply shape E reads are.in_range

pub replies-counted : (shape : Shape) (E : List Placed) (frames replies : List Frame) →
    replies ≡ map (reply_bytes shape E) frames → length replies ≡ length frames
replies-counted shape E frames replies is = ap length is ∙ length-map frames _

each-pair : (shape : Shape) (E : List Placed) (reads : List ReadFrame) →
    in_pairs (map read_frame reads) (map reply_frame (map (reply_for shape E) reads))
    ≡ flat_map (λ r. bytes_of (with_reply shape (before E r.epoch) r)) reads
unfolding with_reply
each-pair shape E [] = refl
each-pair shape E (r ∷ reads) =
    let read = read_frame r in
    let reply = reply_frame (reply_for shape E r) in
    let rest = flat_map (λ x. bytes_of (with_reply shape (before E x.epoch) x)) reads in
    ap (λ (bytes : List ℕ). (read ++ reply) ++ bytes) (each-pair shape E reads)
    ∙ ap (λ (bytes : List ℕ). (read ++ bytes) ++ rest) (sym (append-nil reply))

-- what is seen of reads and replies is what a server sees of reads that it answers
pub pairs-are : (shape : Shape) (E : List Placed) (reads : List ReadFrame)
    (frames replies : List Frame) (bytes old new : List ℕ) → AreReadFrames shape reads frames →
    replies ≡ map reply_frame (map (reply_for shape E) reads) →
    old ≡ bytes → new ≡ old ++ in_pairs frames replies → new ≡ bytes ++ answered shape E reads
unfolding answered
pairs-are shape E reads frames replies bytes old new are replied was is =
    is ∙ ap₂ (λ (xs ys : List Frame). old ++ in_pairs xs ys) are.spelled replied
    ∙ ap₂ (λ (xs ys : List ℕ). xs ++ ys) was (each-pair shape E reads)
