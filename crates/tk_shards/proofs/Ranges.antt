-- The sums over the ranges of a division.
use Rattle.std.proofs.Common.{◌≡◌, ℕ, ◌+◌, ◌-◌, ◌≤◌, List, [], ◌∷◌, ◌++◌, length, map, take, drop, replicate}
use Rattle.std.proofs.Common.{ap, ap₂, sym, ◌∙◌, arith}
use Rattle.std.specs.Prelude.{None}
use Rattle.std.proofs.lemmas.List.{length-drop, length-take-le, take_all, take-append-drop, drop-drop}
use Rattle.tk_kernel.specs.Xor.{xor_bytes, xor_all}
use Rattle.tk_kernel.specs.Pieces.{AllSized}
use Rattle.tk_kernel.specs.Chosen.{chosen_from, chosen_sum}
use Rattle.tk_kernel.proofs.Offers.{xor_all-append, xor_bytes-zeros, length-xor_all, AllSized-chosen_from}
use Rattle.tk_kernel.proofs.Offers.{chosen_from-append}
use Rattle.tk_answer.proofs.Offers.{AllSized-drop}
use Rattle.tk_shards.specs.Division.{Divided, first_cut, ranges_from, ranges_of}
use Rattle.tk_shards.specs.Laws.{sum_between}
use Rattle.tk_shards.proofs.Dividing.{next-cut}

module _ (width : ℕ) (blocks : List (List ℕ)) (vector : List ℕ) (each : AllSized width blocks) where
  sum-from : (n first buckets : ℕ) (cuts : List ℕ) → first ≤ buckets → buckets ≡ length blocks →
      first_cut n first buckets cuts ≡ None →
      xor_all width (map (sum_between width blocks vector) (ranges_from first buckets cuts))
      ≡ xor_all width (chosen_from first (drop first blocks) vector)
  sum-from n first buckets [] order count kept =
      let rest = drop first blocks in
      let sum = xor_all width (chosen_from first rest vector) in
      let long : length sum ≡ width =
      length-xor_all width (chosen_from first rest vector)
      (AllSized-chosen_from width first rest vector (AllSized-drop width first blocks each)) in
      ap (λ vs. xor_bytes (xor_all width (chosen_from first vs vector)) (replicate width 0))
      (take_all (buckets - first) rest (omega (arith, length-drop first blocks)))
      ∙ ap (λ k. xor_bytes sum (replicate k 0)) (sym long) ∙ xor_bytes-zeros sum
  sum-from n first buckets (c ∷ cs) order count kept =
      let next = next-cut n first buckets c cs kept in
      let rest = drop first blocks in
      let here = take (c - first) rest in
      let upto : first + (c - first) ≡ c = omega (arith, next.order) in
      let long : length here ≡ c - first =
      length-take-le (c - first) rest (omega (arith, next.within, count, length-drop first blocks)) in
      let ends : first + length here ≡ c = omega (arith, long, next.order) in
      let behind : drop (c - first) rest ≡ drop c blocks =
      drop-drop (c - first) first blocks ∙ ap (λ k. drop k blocks) upto in
      let later = chosen_from c (drop c blocks) vector in
      ap (xor_bytes (xor_all width (chosen_from first here vector)))
      (sum-from (n + 1) c buckets cs next.within count next.kept)
      ∙ sym (xor_all-append width (chosen_from first here vector) later
      (AllSized-chosen_from width c (drop c blocks) vector (AllSized-drop width c blocks each)))
      ∙ ap₂ (λ k vs. xor_all width (chosen_from first here vector ++ chosen_from k vs vector)) (sym ends) (sym behind)
      ∙ ap (xor_all width) (sym (chosen_from-append first here (drop (c - first) rest) vector))
      ∙ ap (λ vs. xor_all width (chosen_from first vs vector)) (take-append-drop (c - first) rest)

  pub sum-of-ranges : (d : Divided) → d.buckets ≡ length blocks → first_cut 0 0 d.buckets d.cuts ≡ None →
      xor_all width (map (sum_between width blocks vector) (ranges_of d)) ≡ chosen_sum width blocks vector
  unfolding chosen_sum
  sum-of-ranges d count kept = sum-from 0 0 d.buckets d.cuts (omega arith) count kept
