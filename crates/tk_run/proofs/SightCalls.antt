-- What was seen, if there was memory for each.
use Rattle.std.proofs.Common.{◌≡◌, ℕ, ◌<◌, List, length, map, ap, ◌∙◌, subst, arith}
use Rattle.std.proofs.lemmas.List.{length-map}
use Rattle.std.specs.Prelude.{slice_index_or, Vec, Result, Ok, Err, IfOk}
use Rattle.std.specs.Global.{Global}
use Rattle.tk_shape.specs.declared.memory.Memory.{Memory}
use Rattle.tk_run.specs.Rows.{AreRows}
use Rattle.tk_run.proofs.TalkAll.{map-at}

-- what is true of each is true of all that are seen
pub seen_all : (r : Result (Vec (List ℕ) Global) Memory) (sights : List (Result (List ℕ) Memory))
    (n : ℕ) (at : ℕ → List ℕ) → length sights ≡ n →
    ((i : ℕ) (d : Result (List ℕ) Memory) → i < n →
    IfOk (slice_index_or sights i d) (λ bytes. bytes ≡ at i)) →
    IfOk r (λ v. sights ≡ map Ok v.items) → IfOk r (λ v. AreRows n at v.items)
seen_all (Ok v) sights n at counted each whole =
    let long : length sights ≡ length v.items =
    ap length whole ∙ length-map {B = Result (List ℕ) Memory} v.items Ok
    in
    record {
      counted = omega (arith, long, counted);
      each = λ i d low.
          let here : slice_index_or sights i (Ok d) ≡ Ok (slice_index_or v.items i d) =
          ap (λ (xs : List (Result (List ℕ) Memory)). slice_index_or xs i (Ok d)) whole
          ∙ map-at {Y = Result (List ℕ) Memory} Ok v.items i d low
          in
          subst (λ (s : Result (List ℕ) Memory). IfOk s (λ bytes. bytes ≡ at i)) here
          (each i (Ok d) (omega (arith, low, long, counted)));
    }
seen_all (Err e) sights n at counted each whole = tt
