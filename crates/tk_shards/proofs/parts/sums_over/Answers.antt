-- One range after the other is added to the sums.
use Rattle.std.proofs.Common.{◌≡◌, ◌+◌, ◌<◌, ℕ, List, length, map, take, ap, sym, ◌∙◌, subst}
use Rattle.std.specs.Prelude.{slice_index_or, Vec, IfOk}
use Rattle.std.specs.Global.{Global}
use Rattle.std.specs.List.{All}
use Rattle.std.proofs.lemmas.List.{with_items_is}
use Rattle.std.proofs.lemmas.List.Elements.{All-take}
use Rattle.tk_shards.specs.Ranged.{Ranged}
use Rattle.tk_shards.specs.Parts.{IsAsked}
use Rattle.tk_shards.specs.Shards.{IsOfWidth}
use Rattle.tk_shards.proofs.Summed.{AreSums, wide-asked, sums-none, sums-wide, sums-next, sums-all, reach-row}
use Rattle.tk_shards.proofs.parts.sums_over.Goals as goal

pub loop-shard-init : goal.loop-shard-init
loop-shard-init c =
    sums-none c.args.width c.args.rows.now c.in_ok-sums.sums.items c.in_ok-sums.ensures.count
    c.in_ok-sums.ensures.each

-- a range that is one of those that are asked for
one-asked : (width : ℕ) (rows : List (Vec ℕ Global)) (rs : List Ranged) (i : ℕ) (r : Ranged) →
    All (IsAsked width (map (λ (row : Vec ℕ Global). row.items) rows)) rs → r ≡ slice_index_or rs i r →
    i < length rs → IsAsked width (map (λ (row : Vec ℕ Global). row.items) rows) r
one-asked width rows rs i r all at low =
    subst (IsAsked width (map (λ (row : Vec ℕ Global). row.items) rows)) (sym at) (all i r low)

pub add-requires-clause-sized : goal.add-requires-clause-sized
add-requires-clause-sized c k d low =
    let width = c.args.width in
    let rows = c.args.rows.now in
    let rs = c.args.shards.now in
    let i = c.loop-shard.shard-index in
    let sums = c.as_mut_slice.result.now in
    let wide : All (IsOfWidth width) (take i rs) =
    All-take (IsOfWidth width) i rs
    (wide-asked width (map (λ (row : Vec ℕ Global). row.items) rows) rs c.requires)
    in
    let are : AreSums width (take i rs) rows sums =
    subst (AreSums width (take i rs) rows) (sym c.as_mut_slice.ensures.value) c.loop-shard.invariant
    in
    let is = one-asked width rows rs i c.shard-item.result c.requires c.shard-item.is c.loop-shard-test.true in
    (slice_index_or sums k d).ok.0
    ∙ sums-wide width rows (take i rs) sums wide are k d low
    ∙ sym is.wide

pub add-requires-clause-reach : goal.add-requires-clause-reach
add-requires-clause-reach c k d low =
    let rows = c.args.rows.now in
    let is = one-asked c.args.width rows c.args.shards.now c.loop-shard.shard-index
    c.shard-item.result c.requires c.shard-item.is c.loop-shard-test.true in
    reach-row c.shard-item.result rows k d is.reach low

pub loop-shard-preserved : goal.loop-shard-preserved
loop-shard-preserved c =
    let width = c.args.width in
    let rows = c.args.rows.now in
    let rs = c.args.shards.now in
    let i = c.loop-shard.shard-index in
    let old = c.as_mut_slice.result.now in
    let new = c.add.new.sums in
    let r = c.shard-item.result in
    let is = one-asked width rows rs i r c.requires c.shard-item.is c.loop-shard-test.true in
    let same : length new ≡ c.loop-shard.sums.len =
    c.add.ensures.count ∙ ap length c.as_mut_slice.ensures.value ∙ sym c.loop-shard.sums.ok.0 in
    let are : AreSums width (take i rs) rows old =
    subst (AreSums width (take i rs) rows) (sym c.as_mut_slice.ensures.value) c.loop-shard.invariant
    in
    subst (AreSums width (take (i + 1) rs) rows) (sym (with_items_is c.loop-shard.sums new same))
    (sums-next width rows rs i r old new c.loop-shard-test.true c.shard-item.is
    (record { wide = is.wide; sized = is.sized }) c.add.ensures.count c.add.ensures.each are)

pub returns : goal.returns
returns c =
    subst (λ (xs : List (List ℕ)). IfOk c.bytes_of.result (λ sums. sums.items ≡ xs))
    (sums-all c.args.width c.args.shards.now c.loop-shard.shard-index c.args.rows.now
    c.loop-shard.sums.items c.loop-shard-test.false c.loop-shard.invariant)
    c.bytes_of.ensures
