-- What each saw is what is seen of it.
use Rattle.std.proofs.Common.{◌≡◌, ◌++◌, ◌<◌, arith, length, subst, List, ℕ, map}
use Rattle.std.proofs.lemmas.List.{with_items_is}
use Rattle.std.specs.Prelude.{flat_map, slice_index_or, Result, Ok, IfOk}
use Rattle.tk_shape.specs.declared.memory.Memory.{Memory}
use Rattle.tk_run.specs.Courses.{talk_seen}
use Rattle.tk_run.proofs.SightCalls.{seen_all}
use Rattle.tk_run.proofs.tap_bytes.sights_from.Goals as goal

pub returns : goal.returns
returns g c =
    let saw = λ (i : ℕ). c.args.entries.now ++ flat_map (talk_seen i) c.args.talks.now in
    let first = c.as_mut_slice.result.now in
    let parts = c.for_each_mut.new.s in
    let same : length parts ≡ length first = c.for_each_mut.auto.s in
    let counted : length parts ≡ c.args.servers =
    omega (arith, same, c.as_mut_slice.ensures.len, c.in_ok-sights.ensures)
    in
    let whole = with_items_is c.in_ok-sights.sights parts
    (omega (arith, same, c.as_mut_slice.ensures.len))
    in
    let each : (i : ℕ) (d : Result (List ℕ) Memory) → i < c.args.servers →
    IfOk (slice_index_or parts i d) (λ bytes. bytes ≡ saw i) = λ i d low.
    let k = (c.for_each_mut.ensures i d (omega (arith, low, counted, same))).1 in
    subst (λ (s : Result (List ℕ) Memory). IfOk s (λ bytes. bytes ≡ saw i)) k.left k.call
    in
    seen_all c.all_seen.result parts c.args.servers saw counted each
    (subst (λ (xs : List (Result (List ℕ) Memory)).
    IfOk c.all_seen.result (λ v. xs ≡ map Ok v.items)) whole c.all_seen.ensures)
