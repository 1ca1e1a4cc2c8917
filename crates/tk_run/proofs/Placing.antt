-- Where the writes of a turn stand.
use Rattle.std.proofs.Common.{◌≡◌, ap, sym, ◌∙◌, arith, ℕ, ◌+◌, ◌-◌, ◌<◌, List, [], ◌∷◌, ◌++◌, length, take, length-take-le}
use Rattle.std.specs.Prelude.{slice_index_or, slice_set}
use Rattle.tk_schedule.specs.declared.item.Item.{Item}
use Rattle.tk_schedule.specs.declared.item.Item.TheVariants.{Client}
use Rattle.tk_run.specs.declared.pinned_write.PinnedWrite.{PinnedWrite}
use Rattle.tk_run.specs.Ran.{placed_clients}
use Rattle.tk_run.proofs.Cuts.{take_one_more}

-- one more client stands at the place of its write
pub placed-more : (start c : ℕ) (ds : List PinnedWrite) (d : PinnedWrite) (items : List Item) →
    placed_clients start c (ds ++ d ∷ []) items
    ≡ slice_set (placed_clients start c ds items) (d.position - start - 1) (Client (c + length ds))
placed-more start c [] d items =
    let here : c ≡ c + 0 = omega arith in
    ap (λ k. slice_set items (d.position - start - 1) (Client k)) here
placed-more start c (e ∷ ds) d items =
    let next : c + 1 + length ds ≡ c + length (e ∷ ds) = omega arith in
    let placed = slice_set items (e.position - start - 1) (Client c) in
    placed-more start (c + 1) ds d placed
    ∙ ap (λ k. slice_set (placed_clients start (c + 1) ds placed) (d.position - start - 1)
    (Client k))
    next

pub placed-next : (start i : ℕ) (ds : List PinnedWrite) (d : PinnedWrite) (items so_far : List Item) →
    i < length ds → d ≡ slice_index_or ds i d → so_far ≡ placed_clients start 0 (take i ds) items →
    slice_set so_far (d.position - start - 1) (Client i)
    ≡ placed_clients start 0 (take (i + 1) ds) items
placed-next start i ds d items so_far low at placed =
    let counted = length-take-le i ds (omega (arith, low)) in
    let here : i ≡ 0 + length (take i ds) = omega (arith, counted) in
    ap (λ xs. slice_set xs (d.position - start - 1) (Client i)) placed
    ∙ ap (λ k. slice_set (placed_clients start 0 (take i ds) items) (d.position - start - 1)
    (Client k))
    here
    ∙ sym (placed-more start 0 (take i ds) d items)
    ∙ ap (λ xs. placed_clients start 0 xs items) (sym (take_one_more ds i d low at))
