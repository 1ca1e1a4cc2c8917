-- The words, the masked pad and the tag are the masked cell.
use Rattle.std.proofs.Common.{◌≡◌, ◌∙◌, length, arith}
use Rattle.std.proofs.lemmas.List.{with_items_is}
use Rattle.tk_privacy.proofs.ExchangingLaws.{masked_parts}
use Rattle.tk_privacy.proofs.exchange.push_masked.Goals as goal

pub returns : goal.returns
returns c =
    let long : length c.mask.new.out ≡ c.in_ok-masked.masked.len =
    omega (arith, c.mask.auto.out, c.as_mut_slice.ensures.len)
    in
    let masked =
    c.as_slice.ensures.value ∙ with_items_is c.in_ok-masked.masked c.mask.new.out long
    ∙ c.mask.ensures
    in
    masked_parts c.args.shape.now c.args.text.now c.args.cell.now c.args.out.now.items
    c.split_at.result.0.now c.split_at.result.1.now c.split_at-2.result.0.now
    c.split_at-2.result.1.now c.as_slice.result.now _ _ _
    c.split_at.ensures.front c.split_at.ensures.back c.split_at-2.ensures.front
    c.split_at-2.ensures.back masked
    c.in_ok-extend_from_slice.ensures.items c.in_ok-extend_from_slice-2.ensures.items
    c.in_ok-extend_from_slice-3.ensures.items
