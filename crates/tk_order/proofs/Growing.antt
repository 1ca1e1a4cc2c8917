-- How the list of a seat grows from call to call.
use Rattle.std.proofs.Common.{◌≡◌, ℕ, zero, suc, List, [], ◌∷◌, ◌++◌, length, Option, Some, None, refl, ap, sym, ◌∙◌, subst, append_assoc, arith, take, drop, map, ◌≤◌, ◌+◌, ◌-◌}
use Rattle.std.proofs.lemmas.List.{take-append-le, drop-take, drop-map, take-map, length-map, append-nil}
use Rattle.atomic_table.specs.Seated.{TableId}
use Rattle.atomic_table.specs.declared.shared.Seat.{Seat}
use Rattle.tk_order.specs.declared.rule.View.{View}
use Rattle.tk_order.specs.Rules.{view, Owned, Sees}
use Rattle.tk_order.specs.Stores.{Gathering, all_claims, AllBegin}
use mathlib.Core.List.{IsPrefix}
use Rattle.tk_frames.specs.declared.entry.Placed.{Placed}
use Rattle.tk_frames.specs.declared.entry.Entry.{Entry}
use Rattle.tk_shape.specs.declared.shape.Shape.{Shape}
use Rattle.tk_order.specs.Legality.{MayFollow, IsLegal, placed}
use Rattle.tk_order.specs.Seats.{Seated, own, own_in, claims_of, IsWhole, SeesMore, Puts, Ordered}
use Rattle.tk_lists.proofs.Offers.{prefix_self, prefix_trans, prefix_whole}

pub sees_self : (a : Seated) → SeesMore a a
sees_self a = record { number = refl; seen = prefix_self a.seen; own = refl }

pub sees_on : (a b c : Seated) → SeesMore a b → SeesMore b c → SeesMore a c
sees_on a b c h k = record { number = k.number ∙ h.number; seen = prefix_trans a.seen b.seen c.seen h.seen k.seen; own = k.own ∙ h.own }

pub puts_on : (a b c : Seated) (stored : List Placed) (e : Entry) →
    SeesMore a b → Puts b stored e c → Ordered a e c
puts_on a b c stored e h k =
    record {
      before = stored;
      puts =
          record {
            number = k.number ∙ h.number;
            seen = prefix_trans a.seen b.seen stored h.seen k.seen;
            after = k.after;
            own = k.own ∙ ap (λ E. E ++ placed stored e ∷ []) h.own;
          };
    }

pub may_still : (shape : Shape) (a b : Seated) (e : Entry) → SeesMore a b →
    MayFollow shape (own a) e → MayFollow shape (own b) e
may_still shape a b e h may = subst (λ E. MayFollow shape E e) (sym h.own) may

all_claims-append : (xs : List Seated) (s : Seated) → all_claims (xs ++ s ∷ []) ≡ all_claims xs ++ claims_of s.number s.seen
all_claims-append [] s = append-nil (claims_of s.number s.seen)
all_claims-append (x ∷ xs) s = ap (λ cs. claims_of x.number x.seen ++ cs) (all_claims-append xs s) ∙ sym (append_assoc (claims_of x.number x.seen) (all_claims xs) (claims_of s.number s.seen))

all_begin_more : (xs : List Seated) (log more : List Placed) → IsPrefix log more → AllBegin xs log → AllBegin xs more
all_begin_more [] log more p h = tt
all_begin_more (x ∷ xs) log more p h = (prefix_trans x.seen log more h.0 p, all_begin_more xs log more p h.1)

all_begin-append : (xs : List Seated) (s : Seated) (log : List Placed) → AllBegin xs log → IsPrefix s.seen log → AllBegin (xs ++ s ∷ []) log
all_begin-append [] s log h p = (p, tt)
all_begin-append (x ∷ xs) s log h p = (h.0, all_begin-append xs s log h.1 p)

-- one more seat was taken in, and what it had seen was seen
pub gathers_on : (table : TableId) (shape : Shape) (entries : List Placed) (seats : List Seated) (s : Seated) (a c : Seat Placed View) (v : View) (found : ℕ) → Gathering table entries seats a
    → v ≡ view a.me.0.seen s.seen (a.me.0.claims ++ claims_of s.number s.seen) → c.table_id ≡ table → Sees shape v found c.me.0 → c.me.1 ≡ [] → Gathering table entries (seats ++ s ∷ []) c
gathers_on table shape entries seats s a c v found h is t sees free =
    let old : IsPrefix a.me.0.seen c.me.0.seen = subst (λ (xs : List Placed). IsPrefix xs c.me.0.seen) (ap (λ u. u.seen) is) sees.seen in
    let new : IsPrefix s.seen c.me.0.seen = subst (λ (xs : List Placed). IsPrefix xs c.me.0.seen) (ap (λ u. u.told) is) sees.told in
    record {
      of_table = t;
      free = free;
      stored = prefix_trans entries a.me.0.seen c.me.0.seen h.stored old;
      begin = all_begin-append seats s c.me.0.seen (all_begin_more seats a.me.0.seen c.me.0.seen old h.begin) new;
      claims = sees.claims ∙ (ap (λ u. u.claims) is ∙ (ap (λ cs. cs ++ claims_of s.number s.seen) h.claims ∙ sym (all_claims-append seats s)));
    }

-- a look adds nothing to what was taken in
pub gathers_still : (table : TableId) (shape : Shape) (entries : List Placed) (seats : List Seated) (a c : Seat Placed View) (found : ℕ) → Gathering table entries seats a → c.table_id ≡ table → Sees shape a.me.0 found c.me.0 → c.me.1 ≡ [] → Gathering table entries seats c
gathers_still table shape entries seats a c found h t sees free =
    record {
      of_table = t;
      free = free;
      stored = prefix_trans entries a.me.0.seen c.me.0.seen h.stored sees.seen;
      begin = all_begin_more seats a.me.0.seen c.me.0.seen sees.seen h.begin;
      claims = sees.claims ∙ h.claims;
    }

owned_head : (n : Option ℕ) (xs log : List Placed) (cs : List (ℕ × List Placed)) → Owned log (claims_of n xs ++ cs) → (own_in n log ≡ own_in n xs) × Owned log cs
owned_head None xs log cs h = (refl, h)
owned_head (Some k) xs log cs h = (h.0, h.1)

owned_each : (seats : List Seated) (log : List Placed) → AllBegin seats log → Owned log (all_claims seats) → IsWhole seats log
owned_each [] log h o k s at = absurd (cc at)
owned_each (x ∷ xs) log h o zero s at =
    let same : x ≡ s = cc at in
    subst (λ (y : Seated). IsPrefix y.seen log × (own_in y.number log ≡ own y)) same (h.0, (owned_head x.number x.seen log (all_claims xs) o).0)
owned_each (x ∷ xs) log h o (suc k) s at = owned_each xs log h.1 (owned_head x.number x.seen log (all_claims xs) o).1 k s at

pub whole : (table : TableId) (shape : Shape) (entries : List Placed) (seats : List Seated) (a c : Seat Placed View) (found : ℕ) → Gathering table entries seats a → Sees shape a.me.0 found c.me.0 → found ≡ length entries → IsWhole seats entries
whole table shape entries seats a c found h sees n =
    let pre = prefix_trans entries a.me.0.seen c.me.0.seen h.stored sees.seen in
    let same : entries ≡ c.me.0.seen = prefix_whole entries c.me.0.seen pre (omega (arith, sees.count, n)) in
    let owned : Owned c.me.0.seen (all_claims seats) = subst (Owned c.me.0.seen) (sees.claims ∙ h.claims) sees.owned in
    subst (IsWhole seats) (sym same) (owned_each seats c.me.0.seen (all_begin_more seats a.me.0.seen c.me.0.seen sees.seen h.begin) owned)

-- two lists that begin one list are alike as far as both go
pub same_part : (n : ℕ) (xs ys zs : List Placed) → IsPrefix xs zs → IsPrefix ys zs → n ≤ length xs → n ≤ length ys → take n xs ≡ take n ys
same_part n xs ys zs p q a b = part n xs zs p a ∙ sym (part n ys zs q b)
  where
    part : (n : ℕ) (xs zs : List Placed) → IsPrefix xs zs → n ≤ length xs → take n xs ≡ take n zs
    part n xs zs p a = sym (take-append-le n xs p.0 a) ∙ ap (take n) p.1

-- a part of what is stored, as the seat's list has it
pub fetched : {A : Type 0} (f : A → Placed) (es : List A) (seen new : List Placed) (k to : ℕ) → IsPrefix (map f es) new → IsPrefix seen new → k ≤ to → to ≤ length es → to ≤ length seen
    → map f (take (to - k) (drop k es)) ≡ drop k (take to seen)
fetched f es seen new k to p q le a b =
    let n : k + (to - k) ≡ to = omega (arith, le) in
    let cut : take (to - k) (drop k es) ≡ drop k (take to es) = sym (drop-take k (to - k) es) ∙ ap (λ m. drop k (take m es)) n in
    let long : to ≤ length (map f es) = omega (arith, length-map es f, a) in
    ap (map f) cut ∙ (sym (drop-map f k (take to es)) ∙ (ap (drop k) (sym (take-map f to es)) ∙ ap (drop k) (same_part to (map f es) seen new p q long b)))

pub whole_legal : (table : TableId) (shape : Shape) (entries : List Placed) (seats : List Seated) (a c : Seat Placed View) (found : ℕ) → Gathering table entries seats a → Sees shape a.me.0 found c.me.0 → found ≡ length entries → IsLegal shape entries
whole_legal table shape entries seats a c found h sees n =
    let pre = prefix_trans entries a.me.0.seen c.me.0.seen h.stored sees.seen in
    let same : entries ≡ c.me.0.seen = prefix_whole entries c.me.0.seen pre (omega (arith, sees.count, n)) in
    subst (IsLegal shape) (sym same) sees.legal
