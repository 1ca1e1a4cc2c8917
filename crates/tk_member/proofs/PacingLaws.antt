-- A text's number is no greater than that of the turn in which it is written.
use Rattle.std.proofs.Common.{◌≡◌, refl, ap, sym, subst, arith, ℕ, zero, suc, ◌+◌, ◌≤◌, List, [], ◌∷◌, ◌++◌}
use Rattle.std.proofs.Common.{length, map, true, false, cond, length-append, inl, inr}
use Rattle.std.proofs.Math.ListN.{get_or-append}
use Rattle.std.proofs.Math.Seq.{get_or-append_seam}
use Rattle.std.specs.Prelude.{◌==◌, All, slice_index_or}
use Rattle.std.proofs.lemmas.Bool.{cases_lt}
use Rattle.std.proofs.lemmas.List.Elements.{All-tail}
use Rattle.tk_client.specs.declared.written.Written.{Written}
use Rattle.tk_client.specs.declared.waiting.Waiting.{Waiting}
use Rattle.tk_client.specs.Writing.{Writing, unwritten, count_of, one_more_of, with_text}
use Rattle.tk_client.specs.Client.{ClientState}
use Rattle.tk_member.specs.Pacing.{IsPaced, IsFresh}

abbrev pub IsAtMost : ℕ → Written → Type 0
IsAtMost n f = f.count ≤ n

-- where nothing was said
pub paced-first : (client : ClientState) → IsFresh client → IsPaced 0 client.writing
paced-first client fresh =
    record {
      waits = λ i d low. absurd (omega (arith, low, ap (λ (ws : List Waiting). length ws) fresh.silent));
      counts = λ i f low. omega (arith, fresh.counts i f low);
    }

-- in a new client
pub counts-none : (logs : List ℕ) → All (λ (f : Written). f.count ≡ 0) (map unwritten logs)
counts-none [] i f low = absurd (omega (arith, low))
counts-none (log ∷ logs) zero f low = refl
counts-none (log ∷ logs) (suc i) f low = counts-none logs i f (omega (arith, low))

count-within : (n log : ℕ) (logs : List Written) → All (IsAtMost n) logs → count_of log logs ≤ n
count-within n log [] all = omega arith
count-within n log (f ∷ logs) all =
    let here : f.count ≤ n = all 0 f (omega arith) in
    let later = count-within n log logs (All-tail (IsAtMost n) f logs all) in
    elim (f.log == log) as (λ b. cond b f.count (count_of log logs) ≤ n) [
      | true ↦ here
      | false ↦ later
    ]

one-more : (n log : ℕ) (f : Written) → f.count ≤ n → (one_more_of log f).count ≤ n + 1
one-more n log f low =
    elim (f.log == log) as (λ b. (cond b (record f { count = f.count + 1 }) f).count ≤ n + 1) [
      | true ↦ omega (arith, low)
      | false ↦ omega (arith, low)
    ]

more-within : (n log : ℕ) (logs : List Written) → All (IsAtMost n) logs →
    All (IsAtMost (n + 1)) (map (one_more_of log) logs)
more-within n log [] all i d low = absurd (omega (arith, low))
more-within n log (f ∷ logs) all zero d low = one-more n log f (all 0 f (omega arith))
more-within n log (f ∷ logs) all (suc i) d low =
    more-within n log logs (All-tail (IsAtMost n) f logs all) i d (omega (arith, low))

-- once a text is said
pub paced-said : (turn log : ℕ) (text : List ℕ) (w : Writing) → IsPaced turn w →
    IsPaced turn (with_text log text w)
paced-said turn log text w paced =
    let y : Waiting = record { log = log; number = count_of log w.logs; text = text } in
    let n = turn + length w.waiting in
    let longer : length (w.waiting ++ y ∷ []) ≡ length w.waiting + 1 =
    omega (arith, length-append w.waiting (y ∷ []))
    in
    record {
      waits = λ i d low. elim (cases_lt i (length w.waiting)) [
        | inl near ↦
            subst (λ (z : Waiting). z.number ≤ turn + i)
            (sym (get_or-append w.waiting (y ∷ []) d i near)) (paced.waits i d near)
        | inr far ↦
            let at : length w.waiting ≡ i = omega (arith, low, far, longer) in
            subst (λ (k : ℕ). (slice_index_or (w.waiting ++ y ∷ []) k d).number ≤ turn + k) at
            (subst (λ (z : Waiting). z.number ≤ n) (sym (get_or-append_seam w.waiting y [] d))
            (count-within n log w.logs paced.counts))
      ];
      counts = λ i f low.
          let more : (slice_index_or (map (one_more_of log) w.logs) i f).count ≤ n + 1 =
          more-within n log w.logs paced.counts i f low
          in
          omega (arith, more, longer);
    }
