use Rattle.std.proofs.Common.{◌≡◌, ◌++◌, length, take, drop, sym, ◌∙◌, arith, rules}
use Rattle.std.proofs.lemmas.List.{length-take-le, length-append, length-drop, drop_at}
use Rattle.tk_worker_tests.proofs.BlockRuns.{first-changed}
use Rattle.tk_worker_tests.proofs.blocks.with_first.Goals as goal

pub slice_bounds-fill-end : goal.slice_bounds-fill-end
slice_bounds-fill-end c =
    let old = c.args.old.now.bytes in
    let long : length old ≡ 328 = search rules in
    sym (length-take-le 41 old (omega (arith, long)))

pub returns : goal.returns
returns c =
    let old = c.args.old.now.bytes in
    let long : length old ≡ 328 = search rules in
    let front : length (take 41 old) ≡ 41 = length-take-le 41 old (omega (arith, long)) in
    let filled : length c.fill.new.self ≡ 41 = c.fill.ensures.len ∙ front in
    let all : length (c.fill.new.self ++ drop 41 old) ≡ 328 =
    omega (arith, length-append c.fill.new.self (drop 41 old), length-drop 41 old, filled, long) in
    first-changed (c.fill.new.self ++ drop 41 old) old all long (drop_at c.fill.new.self (drop 41 old) 41 filled)
