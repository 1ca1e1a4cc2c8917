use Rattle.std.proofs.Common.{◌≡◌, ◌<◌, [], length, map, get_or, sym, ap, ◌∙◌, arith}
use Rattle.std.specs.Arc.{arc_value}
use Rattle.std.proofs.Math.ListN.{length-set}
use Rattle.std.proofs.lemmas.List.{length-map, map-append, get_or-map}
use Rattle.tk_bucket.specs.Holding.{held_bytes}
use Rattle.tk_bucket.proofs.BecomeShared.{share_bytes, share_grown, share_shared, take_next}
use Rattle.tk_bucket.proofs.sharing.share_all.Goals as goal

pub returns-in_err-share-clause-bytes : goal.returns-in_err-share-clause-bytes
returns-in_err-share-clause-bytes c =
    let i = c.loop-i.invariant in
    let items = c.loop-i.pages.items in
    let lt : c.loop-i.i < length items = omega (arith, c.len-i-end.ensures, c.args.pages.now.ok.0) in
    share_bytes items c.loop-i.i c.index_mut-held.result.now c.share.new.held lt c.index_mut-held.ensures.value c.share.ensures.bytes
    ∙ i.bytes

pub returns-in_err-share-clause-grown : goal.returns-in_err-share-clause-grown
returns-in_err-share-clause-grown c =
    let i = c.loop-i.invariant in
    let items = c.loop-i.pages.items in
    let lt : c.loop-i.i < length items = omega (arith, c.len-i-end.ensures, c.args.pages.now.ok.0) in
    let step = share_grown items c.loop-i.i c.index_mut-held.result.now c.share.new.held lt c.index_mut-held.ensures.value c.share.ensures.bytes c.share.ensures.grown in
    omega (arith, step, i.grown)

pub loop-i-preserved : goal.loop-i-preserved
loop-i-preserved c =
    let i = c.loop-i.invariant in
    let at = c.loop-i.i in
    let items = c.loop-i.pages.items in
    let h = c.index_mut-held.result.now in
    let h' = c.share.new.held in
    let there = c.index_mut-held.ensures.value in
    let same = c.share.ensures.bytes in
    let lt : at < length items = omega (arith, c.len-i-end.ensures, c.args.pages.now.ok.0) in
    let step = share_grown items at h h' lt there same c.share.ensures.grown in
    let wanted = map held_bytes c.args.pages.now.items in
    let here : held_bytes h ≡ get_or wanted at [] =
    ap held_bytes there ∙ sym (get_or-map held_bytes items at h [] lt) ∙ ap (λ xs. get_or xs at []) i.bytes in
    record {
      bytes = share_bytes items at h h' lt there same ∙ i.bytes;
      count = length-set items at h' ∙ i.count;
      grown = omega (arith, step, i.grown);
      shared = share_shared items at h h' lt there same c.in_ok-share.ensures.shared i.shared;
      kept = ap (map arc_value) c.push_reserved.ensures.items
          ∙ map-append arc_value c.loop-i.kept.items _
          ∙ take_next wanted (map arc_value c.loop-i.kept.items) at (arc_value c.in_ok-share.field-0)
          (omega (arith, lt, i.count, length-map c.args.pages.now.items held_bytes)) i.kept (c.in_ok-share.ensures.page ∙ here);
      len = omega (arith, c.push_reserved.ensures.len, i.len);
      room = omega (arith, c.push_reserved.ensures.capacity, i.room);
    }
