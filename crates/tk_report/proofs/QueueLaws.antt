-- A client's queue sends what its script says.
use Rattle.std.proofs.Common.{◌≡◌, ◌<◌, ◌≤◌, ◌+◌, ℕ, zero, suc, true, false, cond, max, List, []}
use Rattle.std.proofs.Common.{◌∷◌, ◌++◌, length, map, filter, find, count_by, drop, refl, sym, ap}
use Rattle.std.proofs.Common.{subst, ◌∙◌, arith, tests, eqb-true, eq-eqb, ne_eqb, append-nil}
use Rattle.std.proofs.Common.{append_assoc, length-append}
use Rattle.std.specs.Prelude.{◌==◌, nat_lt, nat_le, slice_get, Option, Some, None}
use Rattle.std.specs.List.{range_with_len, AllByRecursion}
use Rattle.std.specs.Option.{option_map, ForSome}
use Rattle.std.proofs.lemmas.List.{map-append, length-map}
use Rattle.std.proofs.lemmas.List.Elements.{filter-append}
use Rattle.std.proofs.lemmas.List.Sums.{sum_by-append}
use Rattle.tk_shape.specs.declared.shape.Shape.{Shape}
use Rattle.tk_shape.specs.Lengths.{turn_count}
use Rattle.tk_script.specs.declared.script.Script.{Script}
use Rattle.tk_script.specs.declared.say.Say.{Say}
use Rattle.tk_script.specs.Sent.{Sending, writer_of, sendings_from, sendings, in_run, sent, unsent_count}
use Rattle.tk_client.specs.declared.waiting.Waiting.{Waiting}
use Rattle.tk_client.specs.Writing.{Writing, new_writing, count_of, with_text, first_waiting, after_write}
use Rattle.tk_frames.proofs.Offers.{each-filter}
use Rattle.tk_report.specs.Queues.{QueuesSend, turn_said, writes_of, says_in, with_says, writing_before}
use Rattle.tk_report.specs.Queues.{writing_said, waiting_of}
use Rattle.tk_report.proofs.EachLaws.{each-weaker, each-behind, each-passes, filter-none, filter-swap}
use Rattle.tk_report.proofs.EachLaws.{find-none, find-past, find-filter, count-none, count-all}
use Rattle.tk_report.proofs.CountLaws.{IsCounted, counted-said, written-range, count_of-unwritten}
use Rattle.tk_report.proofs.SendingsLaws.{turn_in}
use Rattle.tk_report.proofs.SayOrder.{IsSaid, all-said, turn-in, Rising, rising-from_order, rising-filter}
use Rattle.tk_report.proofs.SayOrder.{now-and-later}
use Rattle.tk_script.proofs.Offers.{behind, sendings-append, sent-late, number-le-turn, each-append}
use Rattle.tk_script.proofs.Offers.{same_first, same_rest, free_after, free_after-append, of_log, sending_behind}
use Rattle.tk_script.proofs.Offers.{sendings_from-append}

-- the turn in which a text is said
abbrev own : Shape → Say → ℕ
own shape y = turn_said shape y

-- ---- the queue before turn g, where these texts were said

-- of what is sent, some was written in earlier turns, and the rest waits for turn g and those that
-- follow
record IsQueue (shape : Shape) (g : ℕ) (done : List Say) (w : Writing) : Type 0 where
  pub past : List Sending
  pub queue : List Sending
  pub sent_is : sendings_from shape 0 [] done ≡ past ++ queue
  pub gone : AllByRecursion (λ (s : Sending). s.turn + 1 ≤ g) past
  pub turns : map turn_in queue ≡ range_with_len g (length queue)
  pub free : max g (free_after shape 0 done) ≡ g + length queue
  pub waiting : w.waiting ≡ map waiting_of queue

range-push : (g k : ℕ) → range_with_len g k ++ (g + k) ∷ [] ≡ range_with_len g (suc k)
range-push g zero = let e : g + 0 ≡ g = omega arith in ap (λ n. n ∷ []) e
range-push g (suc k) =
    let e : g + suc k ≡ g + 1 + k = omega arith in
    ap (λ n. g ∷ (range_with_len (g + 1) k ++ n ∷ [])) e ∙ ap (λ ns. g ∷ ns) (range-push (g + 1) k)

-- a text of the turn is said
queue-said : (shape : Shape) (g : ℕ) (done : List Say) (w : Writing) (y : Say) → own shape y ≡ g →
    count_of y.log w.logs ≡ of_log y.log done → IsQueue shape g done w →
    IsQueue shape g (done ++ y ∷ []) (with_text y.log y.text w)
queue-said shape g done w y now counted q =
    let next = sending_behind shape 0 [] done y in
    let k = length q.queue in
    let turn_is : next.turn ≡ g + k = ap (λ n. max n (free_after shape 0 done)) now ∙ q.free in
    let number_is : count_of y.log w.logs ≡ next.number = omega (arith, counted) in
    let longer : length (q.queue ++ next ∷ [])
    ≡ suc k = omega (arith, length-append q.queue (next ∷ [])) in
    let last : Waiting = record { log = y.log; number = count_of y.log w.logs; text = y.text } in
    let same : last ≡ waiting_of next = λ i. record
    { log = y.log; number = number_is i; text = y.text } in
    record {
      past = q.past;
      queue = q.queue ++ next ∷ [];
      sent_is = sendings_from-append shape 0 [] done y ∙ ap (λ zs. zs ++ next ∷ []) q.sent_is
          ∙ append_assoc q.past q.queue (next ∷ []);
      gone = q.gone;
      turns = map-append turn_in q.queue (next ∷ []) ∙ ap (λ ns. ns ++ next.turn ∷ []) q.turns
          ∙ ap (λ n. range_with_len g k ++ n ∷ []) turn_is ∙ range-push g k
          ∙ ap (range_with_len g) (sym longer);
      free = ap (max g) (free_after-append shape 0 done y) ∙ omega (arith, turn_is, longer);
      waiting = ap (λ zs. zs ++ last ∷ []) q.waiting
          ∙ ap (λ z. map waiting_of q.queue ++ z ∷ []) same
          ∙ sym (map-append waiting_of q.queue (next ∷ []));
    }

-- the turn's write is made
queue-written : (shape : Shape) (g : ℕ) (done : List Say) (w : Writing) → IsQueue shape g done w →
    IsQueue shape (g + 1) done (after_write w)
queue-written shape g done w q = written q.past q.queue q.sent_is q.gone q.turns q.free q.waiting
  where
    written : (past queue : List Sending) → sendings_from shape 0 [] done ≡ past ++ queue →
        AllByRecursion (λ (s : Sending). s.turn + 1 ≤ g) past →
        map turn_in queue ≡ range_with_len g (length queue) →
        max g (free_after shape 0 done) ≡ g + length queue → w.waiting ≡ map waiting_of queue →
        IsQueue shape (g + 1) done (after_write w)
    written past [] all gone turns free waiting =
        record {
          past = past;
          queue = [];
          sent_is = all;
          gone = each-weaker (λ (s : Sending). s.turn + 1 ≤ g)
              (λ (s : Sending). s.turn + 1 ≤ g + 1) past (λ s h. omega (arith, h)) gone;
          turns = refl;
          free = omega (arith, free);
          waiting = ap (drop 1) waiting;
        }
    written past (y ∷ ys) all gone turns free waiting =
        let first : y.turn ≡ g = same_first y.turn g (map turn_in ys)
        (range_with_len (g + 1) (length ys)) turns in
        record {
          past = past ++ y ∷ [];
          queue = ys;
          sent_is = all ∙ sym (append_assoc past (y ∷ []) ys);
          gone = each-append (λ (s : Sending). s.turn + 1 ≤ g + 1) past (y ∷ [])
              (each-weaker (λ (s : Sending). s.turn + 1 ≤ g)
              (λ (s : Sending). s.turn + 1 ≤ g + 1) past (λ s h. omega (arith, h)) gone)
              (omega (arith, first), tt);
          turns = same_rest y.turn g (map turn_in ys) (range_with_len (g + 1) (length ys)) turns;
          free = omega (arith, free);
          waiting = ap (drop 1) waiting;
        }

-- ---- turn after turn

-- the client's texts, in the script's order
abbrev mine_of : Script → ℕ → List Say
mine_of S c = filter (λ (y : Say). writer_of S y.log == c) S.says

-- before the write of turn g, where the texts said in turns below h were said
record IsReached (S : Script) (c g h : ℕ) (w : Writing) : Type 0 where
  pub done : List Say
  pub later : List Say
  pub mine : mine_of S c ≡ done ++ later
  pub before : AllByRecursion (λ (y : Say). own S.shape y + 1 ≤ h) done
  pub rising : Rising S.shape later
  pub from : AllByRecursion (λ (y : Say). h ≤ own S.shape y) later
  pub queue : IsQueue S.shape g done w
  pub counted : IsCounted S c done w

said_in : (S : Script) → AllByRecursion (IsSaid S.shape) S.says
said_in S = all-said S.shape S.says S.sound.says_sound

reached-start : (S : Script) (c : ℕ) → IsReached S c 0 0 (new_writing (writes_of S c))
unfolding sendings_from
reached-start S c =
    let shape = S.shape in
    record {
      done = [];
      later = mine_of S c;
      mine = refl;
      before = tt;
      rising = rising-filter shape (λ (y : Say). writer_of S y.log == c) S.says
          (rising-from_order shape S.says (said_in S) S.sound.says_ordered);
      from = each-weaker (IsSaid shape) (λ (y : Say). 0 ≤ own shape y) (mine_of S c)
          (λ y said. omega arith)
          (each-filter (IsSaid shape) (λ (y : Say). writer_of S y.log == c) S.says (said_in S));
      queue = record {
        past = [];
        queue = [];
        sent_is = refl;
        gone = tt;
        turns = refl;
        free = omega arith;
        waiting = refl;
      };
      counted = record {
        written = λ log within mine. written-range (λ l. writer_of S l == c) log shape.logs 0
            (omega arith) (omega (arith, within)) mine;
        counts = λ log is. count_of-unwritten log (writes_of S c);
      };
    }

-- the texts of the client, said one after the other
abbrev with_own : List Say → Writing → Writing
with_own [] w = w
with_own (y ∷ says) w = with_own says (with_text y.log y.text w)

-- of all texts the client takes its own
takes-own : (S : Script) (c : ℕ) (says : List Say) (w : Writing) →
    with_own (filter (λ (y : Say). writer_of S y.log == c) says) w ≡ with_says S c says w
unfolding with_says
takes-own S c [] w = refl
takes-own S c (y ∷ says) w =
    let rest = filter (λ (z : Say). writer_of S z.log == c) says in
    elim (writer_of S y.log == c) as (λ b. with_own (cond b (y ∷ rest) rest) w
    ≡ with_says S c says (cond b (with_text y.log y.text w) w)) [
      | true ↦ takes-own S c says (with_text y.log y.text w)
      | false ↦ takes-own S c says w
    ]

-- what is said in turn g on the logs of the client
abbrev says_at : Script → ℕ → ℕ → List Say
says_at S c g = filter (λ (y : Say). writer_of S y.log == c) (says_in S g)

-- a text of the client, said in turn g
record IsNow (S : Script) (c g : ℕ) (y : Say) : Type 0 where
  pub turn : own S.shape y ≡ g
  pub log_in : y.log < S.shape.logs
  pub writer : (writer_of S y.log == c) ≡ true

record IsHeld (S : Script) (c g : ℕ) (done : List Say) (w : Writing) : Type 0 where
  pub queue : IsQueue S.shape g done w
  pub counted : IsCounted S c done w

held-said : (S : Script) (c g : ℕ) (now done : List Say) (w : Writing) →
    AllByRecursion (IsNow S c g) now →
    IsHeld S c g done w → IsHeld S c g (done ++ now) (with_own now w)
held-said S c g [] done w all held = subst (λ d. IsHeld S c g d w) (sym (append-nil done)) held
held-said S c g (y ∷ now) done w all held =
    let y_now = all.0 in
    let counts = held.counted.counts y.log (held.counted.written y.log y_now.log_in y_now.writer) in
    let step : IsHeld S c g (done ++ y ∷ []) (with_text y.log y.text w) =
    record {
      queue = queue-said S.shape g done w y y_now.turn counts held.queue;
      counted = counted-said S c done w y held.counted;
    }
    in
    subst (λ d. IsHeld S c g d (with_own now (with_text y.log y.text w)))
    (append_assoc done (y ∷ []) now)
    (held-said S c g now (done ++ y ∷ []) (with_text y.log y.text w) all.1 step)

-- what is said in the turn stands at the front of what is left
says_at-is : (S : Script) (c g : ℕ) (done later : List Say) → mine_of S c ≡ done ++ later →
    AllByRecursion (λ (y : Say). own S.shape y + 1 ≤ g) done →
    says_at S c g ≡ filter (λ (y : Say). own S.shape y == g) later
says_at-is S c g done later mine before =
    let now = λ (y : Say). own S.shape y == g in
    filter-swap (λ (y : Say). writer_of S y.log == c) now S.says
    ∙ ap (filter now) mine
    ∙ filter-append now done later
    ∙ ap (λ zs. zs ++ filter now later)
    (filter-none now done
    (each-weaker (λ (y : Say). own S.shape y + 1 ≤ g) (λ (y : Say). now y ≡ false) done
    (λ y h. ne_eqb (own S.shape y) g (λ e. absurd (omega (arith, h, e)))) before))

reached-said : (S : Script) (c g : ℕ) (w : Writing) → IsReached S c g g w →
    IsReached S c g (g + 1) (with_says S c (says_in S g) w)
reached-said S c g w r =
    let shape = S.shape in
    let now = filter (λ (y : Say). own shape y == g) r.later in
    let split = now-and-later shape g r.later r.rising r.from in
    let said : AllByRecursion (IsSaid shape) r.later =
    each-behind (IsSaid shape) r.done r.later
    (subst (AllByRecursion (IsSaid shape)) r.mine
    (each-filter (IsSaid shape) (λ (y : Say). writer_of S y.log == c) S.says (said_in S)))
    in
    let writer : AllByRecursion (λ (y : Say). (writer_of S y.log == c) ≡ true) r.later =
    each-behind (λ (y : Say). (writer_of S y.log == c) ≡ true) r.done r.later
    (subst (AllByRecursion (λ (y : Say). (writer_of S y.log == c) ≡ true)) r.mine
    (each-passes (λ (y : Say). writer_of S y.log == c) S.says))
    in
    let all = all-now now (each-passes (λ (y : Say). own shape y == g) r.later)
    (each-filter (IsSaid shape) (λ (y : Say). own shape y == g) r.later said)
    (each-filter (λ (y : Say). (writer_of S y.log == c) ≡ true)
    (λ (y : Say). own shape y == g) r.later writer)
    in
    let held = held-said S c g now r.done w all (record { queue = r.queue; counted = r.counted }) in
    let turns : AllByRecursion (λ (y : Say). own shape y + 1 ≤ g + 1) now =
    each-weaker (IsNow S c g) (λ (y : Say). own shape y + 1 ≤ g + 1) now
    (λ y y_now. omega (arith, y_now.turn)) all
    in
    subst (IsReached S c g (g + 1))
    (ap (λ says. with_own says w) (sym (says_at-is S c g r.done r.later r.mine r.before))
    ∙ takes-own S c (says_in S g) w)
    (record {
      done = r.done ++ now;
      later = split.later;
      mine = r.mine ∙ ap (λ zs. r.done ++ zs) split.is ∙ sym (append_assoc r.done now split.later);
      before = each-append (λ (y : Say). own shape y + 1 ≤ g + 1) r.done now
          (each-weaker (λ (y : Say). own shape y + 1 ≤ g)
          (λ (y : Say). own shape y + 1 ≤ g + 1) r.done (λ y h. omega (arith, h)) r.before)
          turns;
      rising = split.rising;
      from = split.from;
      queue = held.queue;
      counted = held.counted;
    })
  where
    all-now : (says : List Say) → AllByRecursion (λ (y : Say). (own S.shape y == g) ≡ true) says →
        AllByRecursion (IsSaid S.shape) says →
        AllByRecursion (λ (y : Say). (writer_of S y.log == c) ≡ true) says →
        AllByRecursion (IsNow S c g) says
    all-now [] turns said writers = tt
    all-now (y ∷ says) turns said writers = (
      record {
        turn = eqb-true
            (own S.shape y) g turns.0;
        log_in = said.0.log_in;
        writer = writers.0;
      },
      all-now says turns.1 said.1 writers.1,
    )

reached-written : (S : Script) (c g : ℕ) (w : Writing) → IsReached S c g (g + 1) w →
    IsReached S c (g + 1) (g + 1) (after_write w)
reached-written S c g w r =
    record {
      done = r.done;
      later = r.later;
      mine = r.mine;
      before = r.before;
      rising = r.rising;
      from = r.from;
      queue = queue-written S.shape g r.done w r.queue;
      counted = record { written = r.counted.written; counts = r.counted.counts };
    }

reached : (S : Script) (c g : ℕ) → IsReached S c g g (writing_before S c g)
unfolding writing_before
reached S c zero = reached-start S c
reached S c (suc g) =
    let e : g + 1 ≡ suc g = omega arith in
    subst (λ n. IsReached S c n n (after_write (writing_said S c g))) e
    (reached-written S c g (writing_said S c g)
    (reached-said S c g (writing_before S c g) (reached S c g)))

-- ---- the laws

-- what waits first is what is sent in the turn
find-first : (g : ℕ) (queue later : List Sending) →
    map turn_in queue ≡ range_with_len g (length queue) →
    AllByRecursion (λ (s : Sending). g + 1 ≤ s.turn) later →
    option_map waiting_of (find (λ (s : Sending). s.turn == g) (queue ++ later))
    ≡ slice_get (map waiting_of queue) 0
find-first g [] later turns from =
    ap (option_map waiting_of)
    (find-none (λ (s : Sending). s.turn == g) later
    (each-weaker (λ (s : Sending). g + 1 ≤ s.turn) (λ (s : Sending). (s.turn == g) ≡ false) later
    (λ s h. ne_eqb s.turn g (λ e. absurd (omega (arith, h, e)))) from))
find-first g (y ∷ ys) later turns from =
    ap (λ b. option_map waiting_of
    (cond b (Some y) (find (λ (s : Sending). s.turn == g) (ys ++ later))))
    (eq-eqb y.turn g (same_first y.turn g (map turn_in ys)
    (range_with_len (g + 1) (length ys)) turns))

pub queue_is_sent : (S : Script) (c g : ℕ) → g < turn_count S.shape →
    first_waiting (writing_said S c g) ≡ option_map waiting_of (sent S g c)
unfolding sent
queue_is_sent S c g within =
    let shape = S.shape in
    let r = reached-said S c g (writing_before S c g) (reached S c g) in
    let q = r.queue in
    let due = λ (s : Sending). s.turn == g in
    let later = sendings_from shape (free_after shape 0 r.done) (behind r.done []) r.later in
    let all : sendings S c ≡ q.past ++ (q.queue ++ later) =
    ap (sendings_from shape 0 []) r.mine ∙ sendings-append shape 0 [] r.done r.later
    ∙ ap (λ zs. zs ++ later) q.sent_is ∙ append_assoc q.past q.queue later
    in
    let past : AllByRecursion (λ (s : Sending). due s ≡ false) q.past =
    each-weaker (λ (s : Sending). s.turn + 1 ≤ g) (λ (s : Sending). due s ≡ false) q.past
    (λ s h. ne_eqb s.turn g (λ e. absurd (omega (arith, h, e)))) q.gone
    in
    let through : (s : Sending) → due s ≡ true →
    in_run shape s ≡ true = λ s here. lt-to s.turn (turn_count shape)
    (omega (arith, within, eqb-true s.turn g here)) in
    ap (λ ws. slice_get ws 0) q.waiting
    ∙ sym (ap (option_map waiting_of)
    (find-filter due (in_run shape) (sendings S c) through ∙ ap (find due) all
    ∙ find-past due q.past (q.queue ++ later) past)
    ∙ find-first g q.queue later q.turns
    (sent-late shape (free_after shape 0 r.done) (behind r.done []) r.later (g + 1) r.from))
  where
    lt-to : (a b : ℕ) → a < b → nat_lt a b ≡ true
    lt-to a b h = grind (arith, tests)

number-first : (g : ℕ) (queue : List Sending) (y : Waiting) →
    map turn_in queue ≡ range_with_len g (length queue) →
    AllByRecursion (λ (s : Sending). s.number ≤ s.turn) queue →
    slice_get (map waiting_of queue) 0 ≡ Some y → y.number ≤ g
number-first g [] y turns numbers e = absurd (none e)
  where
    none : ◌≡◌ {A = Option Waiting} None (Some y) → ⊥
    none h = cc h
number-first g (s ∷ ss) y turns numbers e =
    let first = same_first s.turn g (map turn_in ss) (range_with_len (g + 1) (length ss)) turns in
    let same : waiting_of s ≡ y = some-same (waiting_of s) y e in
    omega (arith, first, numbers.0, ap (λ (w : Waiting). w.number) same)
  where
    some-same : (a b : Waiting) → Some a ≡ Some b → a ≡ b
    some-same a b h = cc h

pub numbers_are_in_range : (S : Script) (c g : ℕ) → g < turn_count S.shape →
    ForSome (first_waiting (writing_said S c g)) (λ y. y.number < turn_count S.shape)
numbers_are_in_range S c g within = λ y first.
    let r = reached-said S c g (writing_before S c g) (reached S c g) in
    let q = r.queue in
    let numbers = each-behind (λ (s : Sending). s.number ≤ s.turn) q.past q.queue
    (subst (AllByRecursion (λ (s : Sending). s.number ≤ s.turn)) q.sent_is
    (number-le-turn S.shape 0 [] r.done (omega arith)))
    in
    let low = number-first g q.queue y q.turns numbers
    (ap (λ ws. slice_get ws 0) (sym q.waiting) ∙ first) in
    omega (arith, within, low)

turns-from : (g : ℕ) (queue : List Sending) →
    map turn_in queue ≡ range_with_len g (length queue) →
    AllByRecursion (λ (s : Sending). g ≤ s.turn) queue
turns-from g [] turns = tt
turns-from g (s ∷ ss) turns =
    let first = same_first s.turn g (map turn_in ss) (range_with_len (g + 1) (length ss)) turns in
    let rest = turns-from (g + 1) ss
    (same_rest s.turn g (map turn_in ss) (range_with_len (g + 1) (length ss)) turns) in (
      omega (arith, first),
      each-weaker (λ (t : Sending). g + 1 ≤ t.turn)
          (λ (t : Sending). g ≤ t.turn) ss (λ t h. omega (arith, h)) rest,
    )

nothing-left : (n : ℕ) (shape : Shape) (says : List Say) →
    AllByRecursion (λ (y : Say). n ≤ own shape y) says →
    AllByRecursion (λ (y : Say). own shape y < n) says → says ≡ []
nothing-left n shape [] late soon = refl
nothing-left n shape (y ∷ says) late soon = absurd (omega (arith, late.0, soon.0))

pub unsent_waits : (S : Script) (c : ℕ) →
    length (writing_before S c (turn_count S.shape)).waiting ≡ unsent_count S c
unsent_waits S c =
    let shape = S.shape in
    let n = turn_count shape in
    let r = reached S c (turn_count S.shape) in
    let q = r.queue in
    let soon : AllByRecursion (λ (y : Say). own shape y < turn_count shape) r.later =
    each-behind (λ (y : Say). own shape y < turn_count shape) r.done r.later
    (subst (AllByRecursion (λ (y : Say). own shape y < turn_count shape)) r.mine
    (each-filter (λ (y : Say). own shape y < turn_count shape)
    (λ (y : Say). writer_of S y.log == c) S.says
    (each-weaker (IsSaid shape) (λ (y : Say). own shape y < turn_count shape) S.says
    (turn-in shape) (said_in S))))
    in
    let over : r.later ≡ [] = nothing-left (turn_count shape) shape r.later r.from soon in
    let all : sendings S c ≡ q.past ++ q.queue =
    ap (sendings_from shape 0 []) (r.mine ∙ ap (λ zs. r.done ++ zs) over ∙ append-nil r.done)
    ∙ q.sent_is
    in
    let late = λ (s : Sending). nat_le (turn_count shape) s.turn in
    let past = count-none late q.past
    (each-weaker (λ (s : Sending). s.turn + 1 ≤ turn_count shape)
    (λ (s : Sending). late s ≡ false) q.past
    (λ s h. not_late (turn_count shape) s.turn h) q.gone)
    in
    let waits = count-all late q.queue
    (each-weaker (λ (s : Sending). turn_count shape ≤ s.turn)
    (λ (s : Sending). late s ≡ true) q.queue (λ s h. is_late (turn_count shape) s.turn h)
    (turns-from (turn_count shape) q.queue q.turns))
    in
    let counted : count_by late (q.past ++ q.queue) ≡ count_by late q.past + count_by late q.queue =
    sum_by-append (λ s. cond (late s) 1 0) q.past q.queue
    in
    ap length q.waiting ∙ length-map q.queue waiting_of
    ∙ omega (arith, past, waits, counted)
    ∙ ap (count_by late) (sym all)
  where
    not_late : (a b : ℕ) → b + 1 ≤ a → nat_le a b ≡ false
    not_late a b h = grind (arith, tests)

    is_late : (a b : ℕ) → a ≤ b → nat_le a b ≡ true
    is_late a b h = grind (arith, tests)

pub queues-send : QueuesSend
queues-send =
    record { sends = queue_is_sent; in_range = numbers_are_in_range; left_over = unsent_waits }
