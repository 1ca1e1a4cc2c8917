-- Desks that are changed one after the other.
use Rattle.std.proofs.Common.{◌≡◌, ℕ, zero, suc, ◌+◌, ◌<◌, ◌≤◌, refl, ap, sym, ◌∙◌, arith, subst, List, [], ◌∷◌, ◌++◌}
use Rattle.std.proofs.Common.{length, map, take, drop, get_or, cond, ◌*◌, append_assoc}
use Rattle.std.specs.Prelude.{slice_index_or, All, nat_le}
use Rattle.std.proofs.lemmas.List.{drop-drop, drop_all, take_all, length-drop, length-take, get_or-take, map_more}
use Rattle.std.proofs.lemmas.List.Elements.{All-get_or}
use Rattle.tk_frames.specs.declared.read_frame.ReadFrame.{ReadFrame}
use Rattle.tk_shape.specs.declared.shape.Shape.{Shape}
use Rattle.tk_frames.specs.declared.write_frame.WriteFrame.{WriteFrame}
use Rattle.tk_frames.specs.declared.entry.Placed.{Placed}
use Rattle.tk_frames.specs.declared.entry.Entry.TheVariants.{Write}
use Rattle.tk_replica.specs.declared.epoch.Epoch.{Epoch}
use Rattle.tk_replica.specs.Replica.{ReplicaView, StandsFor}
use Rattle.tk_report.specs.Turns.{next_placed}
use Rattle.tk_packets.specs.Packets.{PacketView, packet}
use Rattle.tk_packets.specs.Frames.{epoch_frame}
use Rattle.tk_serve.specs.Desks.{DeskView, desk, desk_behind, desk_answered, MayTakeTurn, MayComeNext, with_writes}
use Rattle.tk_serve.specs.Answering.{news_of, news_for, IsAnswerable, packet_over, epoch_of}
use Rattle.tk_serve.proofs.DeskLaws.{first-behind}
use Rattle.tk_serve.proofs.EntryLaws.{writes-next, writes-more}

-- where the first i elements are changed the next one isn't
pub unchanged-at : {X : Type 0} (f : X → X) (xs : List X) (i : ℕ) (d : X) →
    get_or (map f (take i xs) ++ drop i xs) i d ≡ get_or xs i d
unchanged-at f xs zero d = refl
unchanged-at f [] (suc i) d = refl
unchanged-at f (x ∷ xs) (suc i) d = unchanged-at f xs i d

-- ---- the writes of a turn

module _ (shape : Shape) (E : List Placed) (write : ℕ → WriteFrame) (state : ReplicaView) (desks : List DeskView)
    (may : MayTakeTurn shape E write state desks) (i : ℕ) (low : i < length desks) where
  -- the write that is taken off a desk is its client's
  pub taken-write : (w : WriteFrame) (d old new : DeskView) → old ≡ slice_index_or desks i d →
      old ≡ desk (w ∷ new.waiting) new.asking new.asked → w ≡ write i
  taken-write w d old new at taken =
      let first = (may.wait i d low).first in
      let same : w ∷ new.waiting ≡ write i ∷ drop 1 (slice_index_or desks i d).waiting =
      ap (λ (x : DeskView). x.waiting) (sym taken ∙ at) ∙ first
      in
      cc (same)

  pub taken-next : (now : ReplicaView) → StandsFor shape (with_writes E write i) now →
      MayComeNext now (Write (write i))
  taken-next now stands =
      record {
        shape_of = shape;
        entries_of = with_writes E write i;
        stands = stands;
        next =
            writes-next shape E write i stands.order (may.wait i (desk [] [] 0) low).in_range
            (omega (arith, may.room, low));
      }

  pub taken-stands : (w : WriteFrame) (now : ReplicaView) → w ≡ write i →
      StandsFor shape (with_writes E write i ++ next_placed (with_writes E write i) (Write w) ∷ []) now →
      StandsFor shape (with_writes E write (i + 1)) now
  taken-stands w now same stands =
      subst (λ F. StandsFor shape F now)
      (ap (λ x. with_writes E write i ++ next_placed (with_writes E write i) (Write x) ∷ []) same
      ∙ sym (writes-more E write i))
      stands

-- a desk without its first write
pub behind-is : (w : WriteFrame) (old new : DeskView) → old ≡ desk (w ∷ new.waiting) new.asking new.asked →
    new ≡ desk_behind old
behind-is w old new taken = sym (ap desk_behind taken)

-- ---- what an epoch brings to the clients so far

pub news-next : (shape : Shape) (epoch : Epoch) (desks : List DeskView) (i : ℕ) (d : DeskView) → i < length desks →
    news_for shape epoch i (drop i desks)
    ≡ news_of shape epoch i (slice_index_or desks i d) ++ news_for shape epoch (i + 1) (drop (i + 1) desks)
news-next shape epoch desks i d low =
    ap (news_for shape epoch i) (first-behind desks i d low)
    ∙ ap (λ ds. news_of shape epoch i (slice_index_or desks i d) ++ news_for shape epoch (i + 1) ds)
    (drop-drop 1 i desks)

-- ---- reads that are answered

-- where no read waits after the first so many, no more are answered
pub answered-all : (count ticks : ℕ) (d : DeskView) → count ≤ ticks → drop count d.asking ≡ [] →
    desk_answered count d ≡ desk_answered ticks d
answered-all count ticks d within none =
    ap (λ rs. desk d.waiting rs d.asked)
    (none ∙ sym (drop_all ticks d.asking (omega (arith, within, ap length none, length-drop count d.asking))))

pub taken-all : {X : Type 0} (count ticks : ℕ) (xs : List X) → count ≤ ticks → drop count xs ≡ [] →
    take count xs ≡ take ticks xs
taken-all count ticks xs within none =
    let few : length xs ≤ count = omega (arith, ap length none, length-drop count xs) in
    take_all count xs few ∙ sym (take_all ticks xs (omega (arith, few, within)))

-- the element at the front of what is left of a list
pub record IsAtFront {X : Type 0} (xs : List X) (k : ℕ) (x : X) (rest : List X) : Type 0 where
  pub low : k < length xs
  pub here : (d : X) → get_or xs k d ≡ x
  pub behind : rest ≡ drop (k + 1) xs

pub at-front : {X : Type 0} (xs : List X) (k : ℕ) (x : X) (rest : List X) → drop k xs ≡ x ∷ rest →
    IsAtFront xs k x rest
at-front [] zero x rest e = absurd (cc e)
at-front [] (suc k) x rest e = absurd (cc e)
at-front (y ∷ ys) zero x rest e = record { low = omega arith; here = λ d. cc e; behind = cc (sym e) }
at-front (y ∷ ys) (suc k) x rest e =
    let front = at-front ys k x rest e in
    record {
      low = omega (arith, front.low);
      here = front.here;
      behind = front.behind ∙ ap (λ n. drop n (y ∷ ys)) (next k);
    }
  where
    next : (n : ℕ) → suc (n + 1) ≡ suc n + 1
    next n = omega arith

pub read-may : (epoch : Epoch) (ticks k : ℕ) (asking : List ReadFrame) (r : ReadFrame) (rest : List ReadFrame) →
    All (IsAnswerable epoch) (take ticks asking) → k < ticks → drop k asking ≡ r ∷ rest → IsAnswerable epoch r
read-may epoch ticks k asking r rest all low e =
    let front = at-front asking k r rest e in
    let inside : k < length (take ticks asking) = omega (arith, low, front.low, length-take ticks asking) in
    subst (IsAnswerable epoch) (get_or-take ticks asking k r low ∙ front.here r)
    (All-get_or (IsAnswerable epoch) (take ticks asking) k r inside all)

-- a desk from which one more read is taken
pub desk-next_read : (k : ℕ) (old now new : DeskView) (r : ReadFrame) → now ≡ desk_answered k old →
    now ≡ desk new.waiting (r ∷ new.asking) new.asked → new ≡ desk_answered (k + 1) old
desk-next_read k old now new r answered taken =
    let both = sym taken ∙ answered in
    let front = at-front old.asking k r new.asking (sym (ap (λ (d : DeskView). d.asking) both)) in
    let waiting : new.waiting ≡ old.waiting = ap (λ (d : DeskView). d.waiting) both in
    let asked : new.asked ≡ old.asked = ap (λ (d : DeskView). d.asked) both in
    λ i. record { waiting = waiting i; asking = front.behind i; asked = asked i }

pub front-of_desk : (k : ℕ) (old now new : DeskView) (r : ReadFrame) → now ≡ desk_answered k old →
    now ≡ desk new.waiting (r ∷ new.asking) new.asked → drop k old.asking ≡ r ∷ new.asking
front-of_desk k old now new r answered taken = ap (λ (d : DeskView). d.asking) (sym answered ∙ taken)

-- what one more element of a list gives comes behind the others
pub more_told : {X Y : Type 0} (f : X → Y) (first now : List Y) (xs : List X) (k : ℕ) (x : X) → k < length xs →
    get_or xs k x ≡ x → now ≡ first ++ map f (take k xs) →
    now ++ f x ∷ [] ≡ first ++ map f (take (k + 1) xs)
more_told {X} {Y} f first now xs k x low here told =
    ap (λ (ys : List Y). ys ++ f x ∷ []) told
    ∙ append_assoc first (map f (take k xs)) (f x ∷ [])
    ∙ ap (λ (y : X). first ++ (map f (take k xs) ++ f y ∷ [])) (sym here)
    ∙ ap (λ (ys : List Y). first ++ ys) (sym (map_more f xs k x low))

-- what a client is told is what the epoch brings to it
pub news-step : (shape : Shape) (epoch : Epoch) (desks : List DeskView) (i : ℕ) (d item : DeskView)
    (first told all : List PacketView) (asked due : ℕ) (frame : List ℕ) → i < length desks →
    item ≡ slice_index_or desks i d →
    told ≡ first ++ cond (nat_le due asked) (packet (i + 1) frame ∷ []) [] →
    all ≡ told ++ map (packet_over epoch) (take shape.ticks item.asking) → due ≡ epoch.number * shape.ticks →
    asked ≡ item.asked → frame ≡ epoch_frame (epoch_of shape epoch) →
    all ++ news_for shape epoch (i + 1) (drop (i + 1) desks) ≡ first ++ news_for shape epoch i (drop i desks)
news-step shape epoch desks i d item first told all asked due frame low at one two due_is asked_is frame_is =
    let answers = map (packet_over epoch) (take shape.ticks item.asking) in
    let rest = news_for shape epoch (i + 1) (drop (i + 1) desks) in
    let news = λ (k m : ℕ) (bytes : List ℕ). cond (nat_le k m) (packet (i + 1) bytes ∷ []) [] in
    let same : news due asked frame
    ≡ news (epoch.number * shape.ticks) item.asked (epoch_frame (epoch_of shape epoch)) =
    ap (λ k. news k asked frame) due_is ∙ ap (λ m. news (epoch.number * shape.ticks) m frame) asked_is
    ∙ ap (news (epoch.number * shape.ticks) item.asked) frame_is
    in
    ap (λ ps. ps ++ rest)
    (two ∙ ap (λ ps. ps ++ answers) one ∙ append_assoc first (news due asked frame) answers
    ∙ ap (λ ps. first ++ (ps ++ answers)) same)
    ∙ append_assoc first (news_of shape epoch i item) rest
    ∙ ap (λ x. first ++ (news_of shape epoch i x ++ rest)) at
    ∙ ap (λ ps. first ++ ps) (sym (news-next shape epoch desks i d low))
