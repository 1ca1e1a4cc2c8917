-- A run that moves down to the front of its room.
use Rattle.std.proofs.Common.{◌≡◌, ℕ, ◌+◌, ◌-◌, ◌≤◌, List, length, take, drop, ap, ◌∙◌, arith}
use lib.Seq.{paste}
use Rattle.std.specs.List.{copy_within}
use Rattle.std.proofs.lemmas.List.{take_all, length-drop}
use Rattle.std.proofs.lemmas.List.Edits.{take-paste}

pub moved_down : {X : Type 0} (items copied left : List X) (start len count : ℕ) →
    count ≡ length items → start ≤ count → len ≡ count - start →
    copied ≡ copy_within items start count 0 → left ≡ take len copied → left ≡ drop start items
moved_down items copied left start len count all low rest made kept =
    let long = length-drop start items in
    let n : count - start ≡ 0 + (count - start) = omega arith in
    kept ∙ ap (λ n. take n copied) rest ∙ ap (take (count - start)) made
    ∙ ap (λ k. take k (paste items 0 (drop start items) (count - start))) n
    ∙ take-paste items 0 (drop start items) (count - start) (omega arith)
    (omega (arith, long, all))
    ∙ take_all (count - start) (drop start items) (omega (arith, long, all))
