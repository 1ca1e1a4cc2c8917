-- The read at the place gets the next reply.
use Rattle.std.proofs.Common.{◌≡◌, ◌∙◌, ◌<◌, ◌≤◌, List, sym, subst, refl, arith, length, length-set}
use Rattle.std.specs.Prelude.{slice_index_or}
use Rattle.std.specs.Vec.Iter.{into_iter_items}
use Rattle.std.proofs.lemmas.List.{get_or_default}
use Rattle.tk_report.proofs.Offers.{split-none, split-next, split-all}
use Rattle.tk_relay.specs.declared.part.Part.{Part}
use Rattle.tk_relay.specs.declared.relayed_read.RelayedRead.{RelayedRead}
use Rattle.tk_relay.specs.Reads.{HasReply}
use Rattle.tk_relay.proofs.AnsweredReads.{next-there, next-left}
use Rattle.tk_relay.proofs.serve_all.take_replies.Goals as goal

pub loop-read-init : goal.loop-read-init
loop-read-init c =
    let reads = c.args.reads.now in
    record {
      counted = refl;
      rest = refl;
      split = split-none (λ k d low. get_or_default reads k d (slice_index_or reads k d) low);
    }

pub loop-read-preserved : goal.loop-read-preserved
loop-read-preserved c =
    let i = c.loop-read.read-index in
    let reads = c.args.reads.now in
    let all = into_iter_items c.into_iter-rest.result in
    let rest = into_iter_items c.next.new.self in
    let r = slice_index_or c.loop-read.reads i c.read-item.result in
    let reply = c.in-Some.reply in
    let new = c.take.new.self in
    let so_far = c.loop-read.invariant in
    let within : i < length c.loop-read.reads = omega (arith, c.loop-read-test.true, so_far.counted) in
    let low : i < length reads = omega (arith, within, so_far.counted) in
    let was : r ≡ slice_index_or reads i r =
    so_far.split.due_are i c.read-item.result (omega arith) within
    in
    let same : r ≡ slice_index_or reads i new = was ∙ get_or_default reads i r new low in
    let left = sym so_far.rest ∙ c.in-Some.ensures.items in
    let took : (p : Part) → HasReply (slice_index_or all i p) (slice_index_or reads i new) new =
    λ p.
    subst (λ (x : Part). HasReply x (slice_index_or reads i new) new)
    (sym (next-there all i reply p rest left))
    (subst (λ (x : RelayedRead). HasReply reply x new) same c.in_ok-take.ensures)
    in
    record {
      counted = length-set c.loop-read.reads i new ∙ so_far.counted;
      rest = sym (next-left all i reply rest left);
      split = split-next new so_far.split within took;
    }

pub returns : goal.returns
returns c =
    let reads = c.args.reads.now in
    let so_far = c.loop-read.invariant in
    let ended : length c.loop-read.reads ≤ c.loop-read.read-index =
    omega (arith, c.loop-read-test.false, so_far.counted)
    in
    record {
      counted = so_far.counted;
      each = λ k p d low.
          let within : k < length c.loop-read.reads = omega (arith, low, so_far.counted) in
          let new = slice_index_or c.loop-read.reads k d in
          subst (λ (xs : List Part). HasReply (slice_index_or xs k p) (slice_index_or reads k d) new)
          c.into_iter-rest.ensures.rest
          (subst (λ (x : RelayedRead). HasReply (slice_index_or (into_iter_items c.into_iter-rest.result) k p) x new)
          (get_or_default reads k new d low) (split-all so_far.split ended k d within p));
    }
