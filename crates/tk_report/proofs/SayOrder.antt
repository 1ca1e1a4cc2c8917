-- The texts of a script are said in the order of their turns.
use Rattle.std.proofs.Common.{◌≡◌, ◌≢◌, ◌∙◌, ◌⊎◌, inl, inr, refl, ap, sym, arith, tests}
use Rattle.std.proofs.Common.{ℕ, zero, suc, ◌+◌, ◌-◌, ◌*◌, ◌<◌, ◌≤◌, eqb-true, ne_eqb}
use Rattle.std.proofs.Common.{Bool, true, false, cond, List, [], ◌∷◌, length, take, drop, filter}
use Rattle.std.proofs.Common.{count_by, ◌++◌, append-nil, take-append-drop}
use Rattle.std.specs.Prelude.{◌==◌, ◌&&◌, ◌||◌, nat_lt, nat_le, slice_index_or}
use Rattle.std.specs.List.{AllByRecursion, list_all}
use Rattle.std.proofs.lemmas.Nat.{mul-add-lt}
use Rattle.std.proofs.lemmas.Bool.{and_parts as parts, cases_lt, leb-true, ltb-true}
use Rattle.std.proofs.lemmas.Bool.Decides.{nat_tests}
use Rattle.std.proofs.lemmas.List.Elements.{filter-append}
use Rattle.std.proofs.lemmas.List.Sums.{sum_by-cons, count_by-le-length}
use Rattle.tk_shape.specs.declared.shape.Shape.{Shape}
use Rattle.tk_shape.specs.Lengths.{turn_count}
use Rattle.tk_seal.specs.Texts.{is_allowed}
use Rattle.tk_script.specs.declared.script.Script.{Script}
use Rattle.tk_script.specs.declared.say.Say.{Say}
use Rattle.tk_script.specs.SoundScript.{is_say, is_said_by, are_in_order}
use Rattle.tk_frames.proofs.Offers.{each-filter}
use Rattle.tk_report.specs.Queues.{turn_said, says_in, said_before}
use Rattle.tk_report.proofs.EachLaws.{each-weaker, filter-none}

-- the text is said in a phase and a tick of the run, on a log of it
pub record IsSaid (shape : Shape) (y : Say) : Type 0 where
  pub phase_low : 1 ≤ y.phase
  pub phase_high : y.phase ≤ shape.phases
  pub tick_low : 1 ≤ y.tick
  pub tick_high : y.tick ≤ shape.ticks
  pub log_in : y.log < shape.logs

said-from : (shape : Shape) (y : Say) → is_say shape y ≡ true → IsSaid shape y
said-from shape y e =
    let p1 = nat_le 1 y.phase in
    let p2 = nat_le y.phase shape.phases in
    let t1 = nat_le 1 y.tick in
    let t2 = nat_le y.tick shape.ticks in
    let l = nat_lt y.log shape.logs in
    let r = nat_le (length y.text + 18) shape.block in
    let s6 = parts (p1 && p2 && t1 && t2 && l && r) (is_allowed y.text) e in
    let s5 = parts (p1 && p2 && t1 && t2 && l) r s6.0 in
    let s4 = parts (p1 && p2 && t1 && t2) l s5.0 in
    let s3 = parts (p1 && p2 && t1) t2 s4.0 in
    let s2 = parts (p1 && p2) t1 s3.0 in
    let s1 = parts p1 p2 s2.0 in
    record {
      phase_low = leb-true 1 y.phase s1.0;
      phase_high = leb-true y.phase shape.phases s1.1;
      tick_low = leb-true 1 y.tick s2.1;
      tick_high = leb-true y.tick shape.ticks s3.1;
      log_in = ltb-true y.log shape.logs s4.1;
    }

pub all-said : (shape : Shape) (says : List Say) → list_all (is_say shape) says ≡ true →
    AllByRecursion (IsSaid shape) says
all-said shape [] e = tt
all-said shape (y ∷ says) e =
    let split = parts (is_say shape y) (list_all (is_say shape) says) e in
    (said-from shape y split.0, all-said shape says split.1)

-- a place in a row of width w, of h rows
place-in : (a b w h : ℕ) → a < h → b < w → a * w + b < h * w
place-in a b w h row col = omega (arith, mul-add-lt a w b h row col)

pub turn-in : (shape : Shape) (y : Say) → IsSaid shape y → turn_said shape y < turn_count shape
turn-in shape y said =
    let phase_low = said.phase_low in
    let phase_high = said.phase_high in
    let tick_low = said.tick_low in
    let tick_high = said.tick_high in
    place-in (y.phase - 1) (y.tick - 1) shape.ticks shape.phases (omega arith) (omega arith)

place-le-lower : (a b c d w : ℕ) → a < c → b < w → a * w + b ≤ c * w + d
place-le-lower a b c d w row col = omega (arith, mul-add-lt a w b c row col)

place-le-same : (a b c d w : ℕ) → a ≡ c → b ≤ d → a * w + b ≤ c * w + d
place-le-same a b c d w row col = omega (arith, ap (λ n. n * w) row)

said_by-cases : (a b : Say) → is_said_by a b ≡ true →
    (a.phase < b.phase) ⊎ ((a.phase ≡ b.phase) × (a.tick ≤ b.tick))
said_by-cases a b e =
    elim (nat_lt a.phase b.phase)
    as (λ t. nat_lt a.phase b.phase ≡ t →
    (t || ((a.phase == b.phase) && nat_le a.tick b.tick)) ≡ true →
    (a.phase < b.phase) ⊎ ((a.phase ≡ b.phase) × (a.tick ≤ b.tick))) [
      | true ↦ λ lower h. inl (ltb-true a.phase b.phase lower)
      | false ↦ λ same h.
          let both = parts (a.phase == b.phase) (nat_le a.tick b.tick) h in
          inr (eqb-true a.phase b.phase both.0, leb-true a.tick b.tick both.1)
    ]
    refl e

turn-le : (shape : Shape) (a b : Say) → IsSaid shape a → IsSaid shape b → is_said_by a b ≡ true →
    turn_said shape a ≤ turn_said shape b
turn-le shape a b said_a said_b by =
    let phase_a = said_a.phase_low in
    let tick_a = said_a.tick_high in
    let tick_low_a = said_a.tick_low in
    let phase_b = said_b.phase_low in
    elim (said_by-cases a b by) as (λ o. turn_said shape a ≤ turn_said shape b) [
      | inl lower ↦
          place-le-lower (a.phase - 1) (a.tick - 1) (b.phase - 1) (b.tick - 1) shape.ticks
          (omega arith) (omega arith)
      | inr same ↦
          place-le-same (a.phase - 1) (a.tick - 1) (b.phase - 1) (b.tick - 1) shape.ticks
          (ap (λ n. n - 1) same.0) (omega (arith, same.1))
    ]

-- no text is said in an earlier turn than one before it
abbrev pub Rising : Shape → List Say → Type 0
Rising shape [] = Unit {0}
Rising shape (y ∷ says) =
    AllByRecursion (λ (z : Say). turn_said shape y ≤ turn_said shape z) says × Rising shape says

pub rising-from_order : (shape : Shape) (says : List Say) → AllByRecursion (IsSaid shape) says →
    are_in_order says ≡ true → Rising shape says
rising-from_order shape [] said ordered = tt
rising-from_order shape (a ∷ []) said ordered = (tt, tt)
rising-from_order shape (a ∷ b ∷ says) said ordered =
    let split = parts (is_said_by a b) (are_in_order (b ∷ says)) ordered in
    let rest = rising-from_order shape (b ∷ says) said.1 split.1 in
    let here : turn_said shape a ≤ turn_said shape b = turn-le shape a b said.0 said.1.0 split.0 in
    let from_b = λ (z : Say). turn_said shape b ≤ turn_said shape z in
    let from_a = λ (z : Say). turn_said shape a ≤ turn_said shape z in
    ((here, each-weaker from_b from_a says (λ z le. omega (arith, here, le)) rest.0), rest)

rising : (S : Script) → Rising S.shape S.says
rising S =
    let sound = S.sound in
    rising-from_order S.shape S.says (all-said S.shape S.says sound.says_sound) sound.says_ordered

-- ---- how many are said before a turn

abbrev is_before : Shape → ℕ → Say → Bool
is_before shape g y = nat_lt (turn_said shape y) g

abbrev count_before : Shape → ℕ → List Say → ℕ
count_before shape g says = count_by (is_before shape g) says

abbrev is_now : Shape → ℕ → Say → Bool
is_now shape g y = turn_said shape y == g

-- all are said in this turn or later
abbrev AreFrom : Shape → ℕ → List Say → Type 0
AreFrom shape g says = AllByRecursion (λ (y : Say). g ≤ turn_said shape y) says

before-more : (shape : Shape) (g : ℕ) (y : Say) (says : List Say) →
    count_before shape g (y ∷ says) ≡ cond (is_before shape g y) 1 0 + count_before shape g says
before-more shape g y says = sum_by-cons (λ z. cond (is_before shape g z) 1 0) y says

not-before : (n g : ℕ) → g ≤ n → nat_lt n g ≡ false
not-before n g low = grind (arith, tests)

from-test : (n g : ℕ) → nat_lt n g ≡ false → g ≤ n
from-test n g e = grind (arith, tests)

none-before : (shape : Shape) (g : ℕ) (says : List Say) → AreFrom shape g says →
    count_before shape g says ≡ 0
none-before shape g [] from = refl
none-before shape g (y ∷ says) from =
    let more = before-more shape g y says in
    let here : cond {A = ℕ} (is_before shape g y) 1 0 ≡ 0 =
    ap (λ b. cond b 1 0) (not-before (turn_said shape y) g from.0)
    in
    let rest = none-before shape g says from.1 in
    omega (arith, more, here, rest)

-- those after one that is said in this turn or later
from-here : (shape : Shape) (g : ℕ) (y : Say) (says : List Say) → Rising shape (y ∷ says) →
    g ≤ turn_said shape y → AreFrom shape g says
from-here shape g y says rise low =
    each-weaker (λ (z : Say). turn_said shape y ≤ turn_said shape z)
    (λ (z : Say). g ≤ turn_said shape z) says (λ z le. omega (arith, low, le)) rise.0

none-now : (shape : Shape) (g : ℕ) (says : List Say) → AreFrom shape (g + 1) says →
    filter (is_now shape g) says ≡ []
none-now shape g [] from = refl
none-now shape g (y ∷ says) from =
    let late = from.0 in
    ap (λ b. cond b (y ∷ filter (is_now shape g) says) (filter (is_now shape g) says))
    (ne_eqb (turn_said shape y) g (λ e. absurd (omega (arith, late, e))))
    ∙ none-now shape g says from.1

-- whether one stands among those that are said before a turn
abbrev StandsBefore : Shape → ℕ → List Say → ℕ → Say → Type 0
StandsBefore shape g says p y =
    (turn_said shape y < g → p < count_before shape g says)
    × (g ≤ turn_said shape y → count_before shape g says ≤ p)

stands : (shape : Shape) (g : ℕ) (says : List Say) (p : ℕ) (d : Say) → Rising shape says →
    p < length says → StandsBefore shape g says p (slice_index_or says p d)
stands shape g [] p d rise within = absurd (omega (arith, within))
stands shape g (y ∷ says) zero d rise within =
    let more = before-more shape g y says in (
      λ early.
          let one : cond {A = ℕ} (is_before shape g y) 1 0 ≡ 1 =
          ap (λ b. cond b 1 0) (before-test (turn_said shape y) g early)
          in
          omega (arith, more, one),
      λ late.
          let none = none-before shape g (y ∷ says) (late, from-here shape g y says rise late) in
          omega (arith, none),
    )
  where
    before-test : (n k : ℕ) → n < k → nat_lt n k ≡ true
    before-test n k low = grind (arith, tests)
stands shape g (y ∷ says) (suc p) d rise within =
    let more = before-more shape g y says in
    let rest = stands shape g says p d rise.1 (omega (arith, within)) in (
      λ early.
          elim (is_before shape g y) as (λ b. is_before shape g y ≡ b →
          count_before shape g (y ∷ says) ≡ cond b 1 0 + count_before shape g says →
          suc p < count_before shape g (y ∷ says)) [
            | true ↦ λ e m. let low = rest.0 early in omega (arith, m, low)
            | false ↦ λ e m.
                let from = from-here shape g y says rise (from-test (turn_said shape y) g e) in
                let none = none-before shape g says from in
                let low = rest.0 early in
                absurd (omega (arith, none, low))
          ]
          refl more,
      λ late.
          let high = rest.1 late in
          let most : cond {A = ℕ} (is_before shape g y) 1 0 ≤ 1 =
          elim (is_before shape g y) as (λ b. cond {A = ℕ} b 1 0 ≤ 1)
          [ true ↦ omega arith | false ↦ omega arith ]
          in
          omega (arith, more, high, most),
    )

below-none : (shape : Shape) (g : ℕ) (says : List Say) → Rising shape says →
    filter (is_now shape g) (take (count_before shape g says) says) ≡ []
below-none shape g [] rise = refl
below-none shape g (y ∷ says) rise =
    elim (is_before shape g y) as (λ b. is_before shape g y ≡ b →
    count_before shape g (y ∷ says) ≡ cond b 1 0 + count_before shape g says →
    filter (is_now shape g) (take (count_before shape g (y ∷ says)) (y ∷ says)) ≡ []) [
      | true ↦ λ e m.
          let early = ltb-true (turn_said shape y) g e in
          let n = count_before shape g says in
          let next : count_before shape g (y ∷ says) ≡ suc n = omega (arith, m) in
          let front = filter (is_now shape g) (take n says) in
          ap (λ k. filter (is_now shape g) (take k (y ∷ says))) next
          ∙ ap (λ b. cond b (y ∷ front) front)
          (ne_eqb (turn_said shape y) g (λ same. absurd (omega (arith, early, same))))
          ∙ below-none shape g says rise.1
      | false ↦ λ e m.
          let low = from-test (turn_said shape y) g e in
          let none = none-before shape g (y ∷ says) (low, from-here shape g y says rise low) in
          ap (λ k. filter (is_now shape g) (take k (y ∷ says))) none
    ]
    refl (before-more shape g y says)

above-none : (shape : Shape) (g : ℕ) (says : List Say) → Rising shape says →
    filter (is_now shape g) (drop (count_before shape (g + 1) says) says) ≡ []
above-none shape g [] rise = refl
above-none shape g (y ∷ says) rise =
    elim (is_before shape (g + 1) y) as (λ b. is_before shape (g + 1) y ≡ b →
    count_before shape (g + 1) (y ∷ says) ≡ cond b 1 0 + count_before shape (g + 1) says →
    filter (is_now shape g) (drop (count_before shape (g + 1) (y ∷ says)) (y ∷ says)) ≡ []) [
      | true ↦ λ e m.
          let n = count_before shape (g + 1) says in
          let next : count_before shape (g + 1) (y ∷ says) ≡ suc n = omega (arith, m) in
          ap (λ k. filter (is_now shape g) (drop k (y ∷ says))) next
          ∙ above-none shape g says rise.1
      | false ↦ λ e m.
          let low = from-test (turn_said shape y) (g + 1) e in
          let all : AreFrom shape (g + 1) (y ∷ says) =
          (low, from-here shape (g + 1) y says rise low)
          in
          ap (λ k. filter (is_now shape g) (drop k (y ∷ says)))
          (none-before shape (g + 1) (y ∷ says) all)
          ∙ none-now shape g (y ∷ says) all
    ]
    refl (before-more shape (g + 1) y says)

-- ---- the texts of a turn stand between those of earlier turns and those of later ones

-- a text of turn g, from those on that are said before it
pub now-below : (S : Script) (g p : ℕ) (d : Say) → p < length S.says →
    turn_said S.shape (slice_index_or S.says p d) ≡ g → p < said_before S (g + 1)
now-below S g p d within now =
    (stands S.shape (g + 1) S.says p d (rising S) within).0 (omega (arith, now))

-- one of another turn
pub other-above : (S : Script) (g p : ℕ) (d : Say) → said_before S g ≤ p → p < length S.says →
    turn_said S.shape (slice_index_or S.says p d) ≢ g → said_before S (g + 1) ≤ p
other-above S g p d from within other =
    let at = turn_said S.shape (slice_index_or S.says p d) in
    let early = (stands S.shape g S.says p d (rising S) within).0 in
    let later = (stands S.shape (g + 1) S.says p d (rising S) within).1 in
    elim (cases_lt at g) [
      | inl low ↦ let below = early low in absurd (omega (arith, below, from))
      | inr high ↦ later (omega (arith, high, other))
    ]

pub said-rises : (S : Script) (g : ℕ) → said_before S g ≤ said_before S (g + 1)
said-rises S g = rises S.shape g S.says
  where
    rises : (shape : Shape) (k : ℕ) (says : List Say) →
        count_before shape k says ≤ count_before shape (k + 1) says
    rises shape k [] = omega arith
    rises shape k (y ∷ says) =
        let more = before-more shape k y says in
        let next = before-more shape (k + 1) y says in
        let rest = rises shape k says in
        let one : cond {A = ℕ} (is_before shape k y) 1 0
        ≤ cond {A = ℕ} (is_before shape (k + 1) y) 1 0 =
        grind (arith, tests)
        in
        omega (arith, more, next, rest, one)

pub said-within : (S : Script) (g : ℕ) → said_before S g ≤ length S.says
said-within S g = count_by-le-length (is_before S.shape g) S.says

-- none of the turn stands before
pub none-earlier : (S : Script) (g : ℕ) →
    filter (is_now S.shape g) (take (said_before S g) S.says) ≡ []
none-earlier S g = below-none S.shape g S.says (rising S)

-- and none after
pub all-now : (S : Script) (g : ℕ) →
    filter (is_now S.shape g) (take (said_before S (g + 1)) S.says) ≡ says_in S g
all-now S g =
    let now = is_now S.shape g in
    let n = said_before S (g + 1) in
    let front = filter now (take n S.says) in
    sym (ap (filter now) (sym (take-append-drop n S.says))
    ∙ filter-append now (take n S.says) (drop n S.says)
    ∙ ap (λ ys. front ++ ys) (above-none S.shape g S.says (rising S))
    ∙ append-nil front)

-- before the first turn none is said
none_said : (shape : Shape) (says : List Say) →
    count_by (λ y. nat_lt (turn_said shape y) 0) says ≡ 0
none_said shape [] = refl
none_said shape (y ∷ ys) =
    let not : nat_lt (turn_said shape y) 0 ≡ false = grind (arith, nat_tests) in
    let here : ◌≡◌ {A = ℕ} (cond (nat_lt (turn_said shape y) 0) 1 0) 0 = ap (λ b. cond b 1 0) not in
    let more = sum_by-cons (λ z. cond (nat_lt (turn_said shape z) 0) 1 0) y ys in
    omega (arith, here, more, none_said shape ys)

pub said-none : (S : Script) → said_before S 0 ≡ 0
said-none S = none_said S.shape S.says

-- ---- the texts that pass a test, in the order of their turns

pub rising-filter : (shape : Shape) (p : Say → Bool) (says : List Say) → Rising shape says →
    Rising shape (filter p says)
rising-filter shape p [] rising = tt
rising-filter shape p (y ∷ says) rising =
    elim (p y) as (λ b. Rising shape (cond b (y ∷ filter p says) (filter p says))) [
      | true ↦ (
        each-filter (λ (z : Say). turn_said shape y ≤ turn_said shape z) p says rising.0,
        rising-filter shape p says rising.1,
      )
      | false ↦ rising-filter shape p says rising.1
    ]

-- ---- the texts of a turn stand before those of later turns

pub record NowAndLater (shape : Shape) (g : ℕ) (says : List Say) : Type 0 where
  pub later : List Say
  pub is : says ≡ filter (λ (y : Say). turn_said shape y == g) says ++ later
  pub rising : Rising shape later
  pub from : AllByRecursion (λ (y : Say). g + 1 ≤ turn_said shape y) later

above : (g n : ℕ) → g ≤ n → (n == g) ≡ false → g + 1 ≤ n
above g n le other = grind (arith, tests)

pub now-and-later : (shape : Shape) (g : ℕ) (says : List Say) → Rising shape says →
    AllByRecursion (λ (y : Say). g ≤ turn_said shape y) says → NowAndLater shape g says
now-and-later shape g [] rising from = record { later = []; is = refl; rising = tt; from = tt }
now-and-later shape g (y ∷ says) rising from =
    elim (turn_said shape y == g) as (λ b.
    (turn_said shape y == g) ≡ b → NowAndLater shape g (y ∷ says)) [
      | true ↦ λ now.
          let rest = now-and-later shape g says rising.1 from.1 in
          record {
            later = rest.later;
            is = ap (λ zs. y ∷ zs) rest.is
                ∙ ap (λ b. cond b (y ∷ filter (λ (z : Say). turn_said shape z == g) says)
                (filter (λ (z : Say). turn_said shape z == g) says) ++ rest.later) (sym now);
            rising = rest.rising;
            from = rest.from;
          }
      | false ↦ λ not_now.
          let here : g + 1 ≤ turn_said shape y = above g (turn_said shape y) from.0 not_now in
          let others : AllByRecursion (λ (z : Say). g + 1 ≤ turn_said shape z) says =
          each-weaker (λ (z : Say). turn_said shape y ≤ turn_said shape z)
          (λ (z : Say). g + 1 ≤ turn_said shape z) says (λ z le. omega (arith, here, le)) rising.0
          in
          let none : AllByRecursion (λ (z : Say). (turn_said shape z == g) ≡ false) says =
          each-weaker (λ (z : Say). g + 1 ≤ turn_said shape z)
          (λ (z : Say). (turn_said shape z == g) ≡ false) says
          (λ z le. ne_eqb (turn_said shape z) g (λ e. absurd (omega (arith, le, e)))) others
          in
          record {
            later = y ∷ says;
            is = ap (λ zs. zs ++ y ∷ says)
                (sym (filter-none (λ (z : Say). turn_said shape z == g) (y ∷ says)
                (not_now, none)));
            rising = rising;
            from = (here, others);
          }
    ] refl
