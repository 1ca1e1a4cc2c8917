-- Each write that is appended is the first of those that are left.
use Rattle.std.proofs.Common.{◌∙◌, ◌+◌, ◌*◌, ◌<◌, ◌≤◌, ◌++◌, [], length, ap, ap₂, sym, arith, append-nil}
use Rattle.std.specs.Prelude.{List, ℕ, min}
use Rattle.std.specs.List.{flat_map}
use Rattle.std.proofs.Math.Nat.{mul-le-mul_right}
use Rattle.tk_frames.specs.Spelling.{be32}
use Rattle.tk_bucket.proofs.Offers.{AllSized-get}
use Rattle.tk_checkpoint.proofs.Appending.{writes_next, writes_done}
use Rattle.tk_checkpoint.proofs.save.put_window.Goals as goal

pub put_words-requires : goal.put_words-requires
put_words-requires c =
    let pushes = c.args.window.now.pushes in
    let low : c.loop-i.i < length pushes = omega (arith, c.loop-i-test.true, c.min-count.ensures, c.pushes.ensures) in
    let more : c.loop-i.i + 1 ≤ length pushes = omega (arith, low) in
    let most = mul-le-mul_right (8 + 4 * c.args.window.now.hits) more in
    let long = ap length (c.hits_at.ensures []) ∙ AllSized-get c.args.window.now.hits pushes c.loop-i.i [] c.sized.ensures.each low in
    let was = c.loop-i.invariant in
    omega (arith, long, most, was.len, was.capacity, c.put_u64.ensures.len, c.put_u64.ensures.capacity, c.requires)

pub loop-i-preserved : goal.loop-i-preserved
loop-i-preserved c =
    let pushes = c.args.window.now.pushes in
    let positions = c.args.positions.now in
    let i = c.loop-i.i in
    let low : i < length positions = omega (arith, c.loop-i-test.true, c.min-count.ensures) in
    let in_pushes : i < length pushes = omega (arith, c.loop-i-test.true, c.min-count.ensures, c.pushes.ensures) in
    let hits = c.hits_at.ensures [] in
    let long = ap length hits ∙ AllSized-get c.args.window.now.hits pushes i [] c.sized.ensures.each in_pushes in
    let was = c.loop-i.invariant in
    record {
      items = writes_next positions pushes i [] c.loop-i.out.items c.put_words.new.out.items _ low in_pushes was.items
          (c.put_words.ensures.items
          ∙ ap₂ (λ (xs ys : List ℕ). xs ++ flat_map be32 ys) c.put_u64.ensures.items hits);
      len = omega (arith, c.put_words.ensures.len, c.put_u64.ensures.len, was.len, long);
      capacity = omega (arith, c.put_words.ensures.capacity, c.put_u64.ensures.capacity, was.capacity);
    }

pub returns-clause-items : goal.returns-clause-items
returns-clause-items c =
    let pushes = c.args.window.now.pushes in
    let positions = c.args.positions.now in
    let past : min (length positions) (length pushes) ≤ c.loop-i.i =
    omega (arith, c.loop-i-test.false, c.min-count.ensures, c.pushes.ensures) in
    sym (append-nil c.loop-i.out.items)
    ∙ ap (λ rest. c.loop-i.out.items ++ rest) (sym (writes_done positions pushes c.loop-i.i past))
    ∙ c.loop-i.invariant.items
