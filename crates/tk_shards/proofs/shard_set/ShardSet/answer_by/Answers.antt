-- The parts of all ranges, added, are the sums over the whole list.
use Rattle.std.proofs.Common.{◌≡◌, ◌*◌, length, List, ℕ, map, ap, sym, subst, ◌∙◌}
use Rattle.std.specs.Prelude.{Vec}
use Rattle.std.specs.Global.{Global}
use Rattle.std.specs.List.{All}
use Rattle.tk_shards.specs.Parts.{IsAsked, HasParts}
use Rattle.tk_shards.specs.Ranged.{Ranged}
use Rattle.tk_shards.specs.Shards.{Sharded}
use Rattle.tk_shards.proofs.Row.{asked-all}
use Rattle.tk_shards.proofs.Totals.{parts-alike, totals-are}
use Rattle.tk_shards.proofs.shard_set.ShardSet.answer_by.Goals as goal

-- the rows are the vectors
rows-are : (rows given : List (Vec ℕ Global)) (vectors : List (List ℕ)) → given ≡ rows →
    map (λ (row : Vec ℕ Global). row.items) rows ≡ vectors →
    map (λ (row : Vec ℕ Global). row.items) given ≡ vectors
rows-are rows given vectors same are = ap (map (λ (row : Vec ℕ Global). row.items)) same ∙ are

pub parts_of-requires-clause-asked : goal.parts_of-requires-clause-asked
parts_of-requires-clause-asked g c κs within =
    let s = c.self.inside in
    rw c.as_slice.ensures.value
    (subst (λ vs. All (IsAsked s.width vs) s.shards.items)
    (sym (rows-are c.in_ok-rows.rows.items c.as_slice-2.result.now c.args.vectors.now
    c.as_slice-2.ensures.value c.in_ok-rows.ensures))
    (asked-all s.width s.count s.shards.items c.args.vectors.now c.self.invariant
    (subst (λ (v : Sharded). All (λ bs. 8 * length bs ≡ length v.blocks) c.args.vectors.now)
    (sym c.self.view_is) c.requires.vectors)))

pub total_of-requires : goal.total_of-requires
total_of-requires g c =
    let s = c.self.inside in
    let vs = map (λ (row : Vec ℕ Global). row.items) c.as_slice-2.result.now in
    parts-alike s.width c.div_ceil-size.result vs s.shards.items c.in_ok-parts.parts.items
    c.self.invariant.any c.self.invariant.sized
    (subst (λ (xs : List Ranged). HasParts s.width c.div_ceil-size.result xs vs c.in_ok-parts.parts.items)
    c.as_slice.ensures.value c.in_ok-parts.ensures)

pub returns-clause-sums : goal.returns-clause-sums
returns-clause-sums g c =
    let s = c.self.inside in
    let size = c.div_ceil-size.result in
    let parts = c.in_ok-parts.parts.items in
    rw (← c.self.view_is)
    (totals-are s.width size c.args.vectors.now s.shards.items parts c.total_of.result
    c.self.invariant.row c.self.invariant.sized
    (subst (λ (xs : List Ranged). HasParts s.width size xs c.args.vectors.now parts)
    c.as_slice.ensures.value
    (subst (λ vs. HasParts s.width size c.as_slice.result.now vs parts)
    (rows-are c.in_ok-rows.rows.items c.as_slice-2.result.now c.args.vectors.now
    c.as_slice-2.ensures.value c.in_ok-rows.ensures) c.in_ok-parts.ensures))
    c.total_of.ensures)
