-- One more of the rows, and at the end all of them.
use Rattle.std.proofs.Common.{◌≡◌, ◌∷◌, [], ◌++◌, ℕ, List, Vec, Global, length, map, sym, ap, ap₂, ◌∙◌, append_assoc, append-nil, arith}
use Rattle.std.proofs.lemmas.List.{map-append, nil_from_length}
use Rattle.std.specs.Vec.Iter.{into_iter_items}
use Rattle.tk_shards.proofs.parts.bytes_of.Goals as goal

pub loop-row-preserved : goal.loop-row-preserved
loop-row-preserved c =
    let at = c.loop-row in
    let x = c.in-Some.row in
    let steps : into_iter_items at.row-iterator ≡ x ∷ into_iter_items c.next.new.self = c.in-Some.ensures.steps.0 in (
      append_assoc at.yielded (x ∷ []) _ ∙ rw (← steps) at.invariant.0,
      c.in_ok-push.ensures.items
          ∙ ap₂ (λ (xs : List (List ℕ)) (y : List ℕ). xs ++ y ∷ []) at.invariant.1 c.from_vec.ensures
          ∙ sym (map-append (λ (row : Vec ℕ Global). row.items) at.yielded (x ∷ [])),
      let was = at.invariant.2 in
          let gone = c.in-Some.ensures.steps.1 in
          let short = ap length steps in
          omega arith,
    )

pub returns : goal.returns
returns c =
    let at = c.loop-row in
    let none = c.in-None.ensures.steps in
    let empty : into_iter_items at.row-iterator ≡ [] = nil_from_length _ (sym at.invariant.2 ∙ none.0) in
    let all = sym (append-nil at.yielded) ∙ rw empty at at.invariant.0 ∙ c.into_iter-row-iterator.ensures.into_iter_gives.0 in
    at.invariant.1 ∙ ap (map (λ (row : Vec ℕ Global). row.items)) all
