-- 64 counts more are one number more, and the last number has what is left.
use Rattle.std.proofs.Common.{sym, subst, List, ℕ, [], ◌∷◌, ◌++◌, map, arith}
use Rattle.std.proofs.lemmas.List.{append_assoc}
use Rattle.tk_bloom.specs.Packing.{ArePacked}
use Rattle.tk_bloom.proofs.Packing.{some, packed-more, packed-last}
use Rattle.tk_bloom.proofs.marks.packed.Goals as goal

pub rest-preserved : goal.rest-preserved
rest-preserved c ns are =
    let n = c.number_of.result in
    let all =
    c.rest.invariant (n ∷ ns)
    (packed-more _ _ c.rest.rest.now n ns c.split_at.ensures.front c.split_at.ensures.back c.number_of.ensures are)
    in
    subst (λ (items : List ℕ). ArePacked (items ++ ns) (map some c.args.counts.now))
    (sym c.in_ok-push.ensures.items)
    (subst (λ (items : List ℕ). ArePacked items (map some c.args.counts.now))
    (sym (append_assoc c.rest.numbers.items (n ∷ []) ns)) all)

pub returns : goal.returns
returns c =
    let n = c.number_of-2.result in
    subst (λ (items : List ℕ). ArePacked items (map some c.args.counts.now))
    (sym c.in_ok-push-2.ensures.items)
    (c.rest.invariant (n ∷ [])
    (packed-last c.rest.rest.now n (omega (arith, c.rest-test.false)) c.number_of-2.ensures))
