-- What a member holds, and that it goes on holding.
use Rattle.std.proofs.Common.{◌≡◌, ◌∙◌, refl, ap, sym, subst, arith, ℕ, zero, suc, ◌+◌, ◌<◌, ◌≤◌, Bool, true, false}
use Rattle.std.proofs.Common.{cond, List, [], ◌∷◌, ◌++◌, map, Option}
use Rattle.std.specs.Prelude.{All, ◌==◌}
use Rattle.std.specs.List.{range_with_len}
use Rattle.std.specs.List.Sorted.{IsStrictlyIncreasing}
use Rattle.std.proofs.lemmas.List.Elements.{All-push}
use Rattle.std.proofs.lemmas.List.FromFn.{get_or-range_with_len, length-range_with_len}
use Rattle.tk_shape.specs.declared.shape.Shape.{Shape}
use Rattle.tk_shape.specs.Lengths.{turn_count}
use Rattle.tk_words.specs.Words.{BookWords}
use Rattle.tk_client.specs.declared.written.Written.{Written}
use Rattle.tk_client.specs.declared.waiting.Waiting.{Waiting}
use Rattle.tk_client.specs.declared.target.Target.{Target}
use Rattle.tk_client.specs.Client.{ClientState, new_client, opened, after_replies}
use Rattle.tk_client.specs.Writing.{Writing, count_of, one_more_of, with_text}
use Rattle.board.specs.Members.{IsMember}
use Rattle.tk_lists.proofs.Offers.{numbers-more}

abbrev AreFew : ℕ → List Written → Type 0
AreFew n logs = All (λ (f : Written). f.count ≤ n) logs

tail : (n : ℕ) (f : Written) (logs : List Written) → AreFew n (f ∷ logs) → AreFew n logs
tail n f logs few k d low = few (suc k) d (omega (arith, low))

either : (x : Bool) (a b n : ℕ) → a ≤ n → b ≤ n → cond x a b ≤ n
either true a b n one other = one
either false a b n one other = other

-- a log was given no more texts than all logs at most
count-few : (n log : ℕ) (logs : List Written) → AreFew n logs → count_of log logs ≤ n
count-few n log [] few = omega arith
count-few n log (f ∷ logs) few =
    either (f.log == log) f.count (count_of log logs) n (few zero f (omega arith))
    (count-few n log logs (tail n f logs few))

one-more : (n log : ℕ) (f : Written) → f.count ≤ n → (one_more_of log f).count ≤ n + 1
one-more n log f low = here (f.log == log)
  where
    here : (x : Bool) → (cond x (record f { count = f.count + 1 }) f).count ≤ n + 1
    here true = omega (arith, low)
    here false = omega (arith, low)

-- so were they after one text more
more-few : (n log : ℕ) (logs : List Written) → AreFew n logs → AreFew (n + 1) (map (one_more_of log) logs)
more-few n log [] few k d low = absurd (omega (arith, low))
more-few n log (f ∷ logs) few zero d low = one-more n log f (few zero f (omega arith))
more-few n log (f ∷ logs) few (suc k) d low =
    more-few n log logs (tail n f logs few) k d (omega (arith, low))

-- the numbers of all texts that wait are below the count
more-numbers : (n log : ℕ) (text : List ℕ) (w : Writing) → AreFew n w.logs →
    All (λ (y : Waiting). y.number < n) w.waiting →
    All (λ (y : Waiting). y.number < n + 1) (with_text log text w).waiting
more-numbers n log text w few below =
    let y : Waiting = record { log = log; number = count_of log w.logs; text = text } in
    All-push (λ (z : Waiting). z.number < n + 1) w.waiting y
    (λ k d low. omega (arith, below k d low)) (omega (arith, count-few n log w.logs few))

pub said_member : (old new : ClientState) (written said log : ℕ) (is_open : Bool) (text : List ℕ) →
    new ≡ record old { writing = with_text log text old.writing } →
    said < turn_count old.shape → IsMember old written said is_open →
    IsMember new written (said + 1) is_open
said_member old new written said log is_open text is low before =
    subst (λ (s : ClientState). IsMember s written (said + 1) is_open) (sym is)
    (record {
      written_in = before.written_in;
      said_in = omega (arith, low);
      counts = more-few said log old.writing.logs before.counts;
      numbers = more-numbers said log text old.writing before.counts before.numbers;
      open_is = before.open_is;
    })

-- a read is open
pub asked_member : (old new : ClientState) (written said g e : ℕ) (t : Option Target) (is_open : Bool) →
    new ≡ opened g e t old → IsMember old written said is_open → IsMember new written said true
asked_member old new written said g e t is_open is before =
    subst (λ (s : ClientState). IsMember s written said true) (sym is)
    (record {
      written_in = before.written_in;
      said_in = before.said_in;
      counts = before.counts;
      numbers = before.numbers;
      open_is = refl;
    })

-- and is no longer
pub taken_member : (old new : ClientState) (written said : ℕ) (w : BookWords)
    (replies : List (List ℕ)) (is_open : Bool) → new ≡ after_replies w replies old →
    IsMember old written said is_open → IsMember new written said false
taken_member old new written said w replies is_open is before =
    subst (λ (s : ClientState). IsMember s written said false) (sym is)
    (record {
      written_in = before.written_in;
      said_in = before.said_in;
      counts = before.counts;
      numbers = before.numbers;
      open_is = refl;
    })

-- nothing was said yet
pub new_member : (shape : Shape) (client : ClientState) (number : ℕ) (follows : List ℕ) →
    client ≡ new_client shape number (number ∷ []) follows → IsMember client 0 0 false
new_member shape client number follows is =
    subst (λ (s : ClientState). IsMember s 0 0 false) (sym is)
    (record {
      written_in = omega arith;
      said_in = omega arith;
      counts = λ k d low. one k d low;
      numbers = λ k d low. absurd (omega (arith, low));
      open_is = refl;
    })
  where
    one : AreFew 0 (record { log = number; count = 0 } ∷ [])
    one zero d low = omega arith
    one (suc k) d low = absurd (omega (arith, low))

-- ---- the logs

pub all_ascend : (logs : List ℕ) (n : ℕ) → logs ≡ range_with_len 0 n → IsStrictlyIncreasing logs
all_ascend logs n is =
    subst IsStrictlyIncreasing (sym is) (λ k low.
    let long = length-range_with_len 0 n in
    let here = get_or-range_with_len 0 n k 0 (omega (arith, low, long)) in
    let next = get_or-range_with_len 0 n (k + 1) 0 (omega (arith, low, long)) in
    omega (arith, here, next))

pub all_below : (logs : List ℕ) (n : ℕ) → logs ≡ range_with_len 0 n → All (λ (log : ℕ). log < n) logs
all_below logs n is =
    subst (All (λ (log : ℕ). log < n)) (sym is) (λ k d low.
    let here = get_or-range_with_len 0 n k d (omega (arith, low, length-range_with_len 0 n)) in
    omega (arith, here, low, length-range_with_len 0 n))

pub numbers_next : (logs next : List ℕ) (n : ℕ) → logs ≡ range_with_len 0 n → next ≡ logs ++ n ∷ [] →
    next ≡ range_with_len 0 (n + 1)
numbers_next logs next n is more =
    more ∙ ap (λ (xs : List ℕ). xs ++ n ∷ []) is ∙ sym (numbers-more n)
