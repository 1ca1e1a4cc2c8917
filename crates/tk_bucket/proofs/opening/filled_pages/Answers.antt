use Rattle.std.proofs.Common.{◌≡◌, ◌∙◌, ap, sym, arith, length, take}
use Rattle.std.proofs.lemmas.List.{take_at}
use Rattle.std.proofs.lemmas.Grind.{common_steps}
use Rattle.tk_bucket.proofs.Filled.{filling_more}
use Rattle.tk_bucket.proofs.opening.filled_pages.Goals as goal

pub push_reserved-requires : goal.push_reserved-requires
push_reserved-requires c =
    let low = c.loop-made-test.true in
    let room = c.loop-made.invariant.room in
    let counted = c.loop-made.invariant.pages.counted in
    omega (arith, c.loop-made.pages.ok.0)

pub loop-made-preserved : goal.loop-made-preserved
loop-made-preserved c =
    let size = c.args.page_len in
    let was = c.loop-made.invariant in
    let page_is : length c.take-page.result ≡ size = c.take-page.ensures.page ∙ was.len in
    let part_long : length c.split_at.result.0.now ≡ size = c.split_at.ensures.front_len in
    let copied : c.copy_from_slice.new.self ≡ take size c.loop-made.rest.now =
    c.copy_from_slice.ensures.after ∙ c.split_at.ensures.front in
    let long = ap length c.copy_from_slice.ensures.after ∙ part_long ∙ sym page_is in
    record {
      pages = rw (c.push_reserved.ensures.items, c.split_at.ensures.back)
          (filling_more size c.args.count c.args.bytes.now c.loop-made._made c.loop-made.pages.items
          c.loop-made.rest.now _ c.loop-made-test.true
          (take_at c.copy_from_slice.new.self _ _ long ∙ copied) was.pages);
      room = grind (arith, common_steps, was.room, c.push_reserved.ensures.capacity);
      len = c.take-page.ensures.len ∙ was.len;
      spare = omega (arith, c.take-page.ensures.spare, was.spare);
    }
