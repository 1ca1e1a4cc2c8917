use Rattle.std.proofs.Common.{ℕ, List, ◌*◌, ◌<◌, ◌≤◌, ◌%◌, ap, sym, ◌∙◌, length, subst, arith}
use Rattle.std.specs.List.{AllByRecursion, All}
use Rattle.std.proofs.Math.Nat.{mul-mod_left, mul-le-mul, mul-le-mul_left}
use Rattle.std.proofs.lemmas.List.Elements.{All-from_recursion}
use Rattle.std.proofs.lemmas.Result.{IfOk-weaker}
use Rattle.tk_table.specs.Stands.{Kept}
use Rattle.tk_table.specs.Restoring.{AreAscending, AreSound, slots_spelled}
use Rattle.tk_checkpoint.specs.Reading.{positions_in, hits_in, count_in, window_part}
use Rattle.tk_checkpoint.proofs.Heads.{few}
use Rattle.tk_checkpoint.proofs.Places.{length-positions}
use Rattle.tk_checkpoint.proofs.Sounds.{sound_in, whole_table, length-hits, latest_low}
use Rattle.tk_checkpoint.proofs.Sounds.{positions_are, hits_are, table_is, window_fits}
use Rattle.tk_checkpoint.proofs.Restored.{table_made, window_made, goes_on, has_left}
use Rattle.tk_checkpoint.proofs.restoring.state_of.Goals as goal

pub head_of-head-requires : goal.head_of-head-requires
head_of-head-requires c =
    let sound = sound_in c.args.shape.now c.args.bytes.now c.requires in
    let long = sound.head.long in
    omega (arith, long)

pub split_at-requires : goal.split_at-requires
split_at-requires c =
    let sound = sound_in c.args.shape.now c.args.bytes.now c.requires in
    let long = sound.head.long in
    omega (arith, long)

pub split_at-requires-2 : goal.split_at-requires-2
split_at-requires-2 c =
    let shape = c.args.shape.now in
    let rest = c.split_at.result.1.now in
    let sound = sound_in shape c.args.bytes.now c.requires in
    let fits = window_fits shape c.args.bytes.now rest rest c.head_of-head.result.applied c.head_of-head.result.count 0
    c.head_of-head.ensures.applied c.head_of-head.ensures.count c.split_at.ensures.back sound.head in
    let len = ap (λ n. c.head_of-head.result.count * n) c.entry_len.ensures in
    omega (arith, fits, len)

pub positions_of-requires : goal.positions_of-requires
positions_of-requires c =
    let shape = c.args.shape.now in
    let rest = c.split_at.result.1.now in
    let sound = sound_in shape c.args.bytes.now c.requires in
    window_fits shape c.args.bytes.now rest rest c.head_of-head.result.applied c.head_of-head.result.count 0
    c.head_of-head.ensures.applied c.head_of-head.ensures.count c.split_at.ensures.back sound.head

pub hits_of-requires : goal.hits_of-requires
hits_of-requires c =
    let shape = c.args.shape.now in
    let rest = c.split_at.result.1.now in
    let sound = sound_in shape c.args.bytes.now c.requires in
    window_fits shape c.args.bytes.now rest rest c.head_of-head.result.applied c.head_of-head.result.count 0
    c.head_of-head.ensures.applied c.head_of-head.ensures.count c.split_at.ensures.back sound.head

pub restore-requires-clause-few : goal.restore-requires-clause-few
restore-requires-clause-few c =
    let shape = c.args.shape.now in
    let bytes = c.args.bytes.now in
    let rest = c.split_at.result.1.now in
    let sound = sound_in shape bytes c.requires in
    let here = c.as_slice.ensures.value ∙ c.in_ok-positions.ensures
    ∙ positions_are shape bytes rest rest c.head_of-head.result.applied c.head_of-head.result.count 0
    c.head_of-head.ensures.applied c.head_of-head.ensures.count c.split_at.ensures.back in
    let long = ap length here ∙ length-positions shape.hits (count_in bytes) (window_part bytes) in
    let most = few shape bytes sound.head in
    omega (arith, long, most)

pub restore-requires-clause-ascending : goal.restore-requires-clause-ascending
restore-requires-clause-ascending c =
    let shape = c.args.shape.now in
    let bytes = c.args.bytes.now in
    let rest = c.split_at.result.1.now in
    let sound = sound_in shape bytes c.requires in
    let here = c.as_slice.ensures.value ∙ c.in_ok-positions.ensures
    ∙ positions_are shape bytes rest rest c.head_of-head.result.applied c.head_of-head.result.count 0
    c.head_of-head.ensures.applied c.head_of-head.ensures.count c.split_at.ensures.back in
    subst (AreAscending 1) (sym here) sound.ascending

pub restore-requires-clause-whole : goal.restore-requires-clause-whole
restore-requires-clause-whole c =
    let shape = c.args.shape.now in
    let bytes = c.args.bytes.now in
    let rest = c.split_at.result.1.now in
    let sound = sound_in shape bytes c.requires in
    let spelled = table_is shape bytes rest c.split_at-2.result.1.now
    c.head_of-head.result.applied c.head_of-head.result.count c.entry_len.result c.head_of-head.ensures.applied
    c.head_of-head.ensures.count c.split_at.ensures.back c.entry_len.ensures c.split_at-2.ensures.back in
    ap length spelled ∙ whole_table shape bytes sound.head

pub restore-requires-clause-sound : goal.restore-requires-clause-sound
restore-requires-clause-sound c =
    let shape = c.args.shape.now in
    let bytes = c.args.bytes.now in
    let rest = c.split_at.result.1.now in
    let sound = sound_in shape bytes c.requires in
    let here = c.as_slice.ensures.value ∙ c.in_ok-positions.ensures
    ∙ positions_are shape bytes rest rest c.head_of-head.result.applied c.head_of-head.result.count 0
    c.head_of-head.ensures.applied c.head_of-head.ensures.count c.split_at.ensures.back in
    let spelled = table_is shape bytes rest c.split_at-2.result.1.now
    c.head_of-head.result.applied c.head_of-head.result.count c.entry_len.result c.head_of-head.ensures.applied
    c.head_of-head.ensures.count c.split_at.ensures.back c.entry_len.ensures c.split_at-2.ensures.back in
    subst (λ (ps : List ℕ). AreSound shape ps (slots_spelled shape c.split_at-2.result.1.now)) (sym here)
    (subst (λ (ys : List ℕ). AreSound shape (positions_in shape bytes) (slots_spelled shape ys)) (sym spelled) sound.slots)

pub restore-requires-2-clause-most_retained : goal.restore-requires-2-clause-most_retained
restore-requires-2-clause-most_retained c =
    let shape = c.args.shape.now in
    let most = shape.in_range.retained_high in
    let size = mul-le-mul shape.in_range.buckets_high shape.in_range.depth_high in
    omega (arith, most, size)

pub restore-requires-2-clause-whole : goal.restore-requires-2-clause-whole
restore-requires-2-clause-whole c =
    let shape = c.args.shape.now in
    let bytes = c.args.bytes.now in
    let rest = c.split_at.result.1.now in
    let here = c.as_slice-2.ensures.value ∙ c.in_ok-hits.ensures
    ∙ hits_are shape bytes rest rest c.head_of-head.result.applied c.head_of-head.result.count 0
    c.head_of-head.ensures.applied c.head_of-head.ensures.count c.split_at.ensures.back in
    ap (λ (hs : List ℕ). length hs % shape.hits) here
    ∙ ap (λ n. n % shape.hits) (length-hits shape.hits (count_in bytes) (window_part bytes))
    ∙ mul-mod_left (count_in bytes) shape.hits

pub restore-requires-2-clause-few : goal.restore-requires-2-clause-few
restore-requires-2-clause-few c =
    let shape = c.args.shape.now in
    let bytes = c.args.bytes.now in
    let rest = c.split_at.result.1.now in
    let sound = sound_in shape bytes c.requires in
    let here = c.as_slice-2.ensures.value ∙ c.in_ok-hits.ensures
    ∙ hits_are shape bytes rest rest c.head_of-head.result.applied c.head_of-head.result.count 0
    c.head_of-head.ensures.applied c.head_of-head.ensures.count c.split_at.ensures.back in
    let long = ap length here ∙ length-hits shape.hits (count_in bytes) (window_part bytes) in
    let most = mul-le-mul_left shape.hits (few shape bytes sound.head) in
    omega (arith, long, most)

pub restore-requires-2-clause-in_range : goal.restore-requires-2-clause-in_range
restore-requires-2-clause-in_range c =
    let shape = c.args.shape.now in
    let bytes = c.args.bytes.now in
    let rest = c.split_at.result.1.now in
    let sound = sound_in shape bytes c.requires in
    let here = c.as_slice-2.ensures.value ∙ c.in_ok-hits.ensures
    ∙ hits_are shape bytes rest rest c.head_of-head.result.applied c.head_of-head.result.count 0
    c.head_of-head.ensures.applied c.head_of-head.ensures.count c.split_at.ensures.back in
    subst (All (λ h. h < shape.filter_bits)) (sym here)
    (All-from_recursion (λ h. h < shape.filter_bits) (hits_in shape bytes) sound.hits)

pub restore-requires-3-clause-latest : goal.restore-requires-3-clause-latest
restore-requires-3-clause-latest c =
    let shape = c.args.shape.now in
    let bytes = c.args.bytes.now in
    let rest = c.split_at.result.1.now in
    let applied = c.head_of-head.result.applied in
    let sound = sound_in shape bytes c.requires in
    let here = c.as_slice.ensures.value ∙ c.in_ok-positions.ensures
    ∙ positions_are shape bytes rest rest applied c.head_of-head.result.count 0
    c.head_of-head.ensures.applied c.head_of-head.ensures.count c.split_at.ensures.back in
    let kept = ap (λ (t : Kept). t.positions) c.in_ok-table.ensures ∙ here in
    let low = subst (λ (a : ℕ). AllByRecursion (λ p. p < a) (positions_in shape bytes))
    (sym c.head_of-head.ensures.applied) sound.low in
    subst (All (λ p. p ≤ applied)) (sym kept)
    (All-from_recursion (λ p. p ≤ applied) (positions_in shape bytes) (latest_low applied (positions_in shape bytes) low))

pub returns-clause-parts : goal.returns-clause-parts
returns-clause-parts c =
    let shape = c.args.shape.now in
    let bytes = c.args.bytes.now in
    let rest = c.split_at.result.1.now in
    let applied = c.head_of-head.result.applied in
    let positions = c.as_slice.ensures.value ∙ c.in_ok-positions.ensures
    ∙ positions_are shape bytes rest rest applied c.head_of-head.result.count 0
    c.head_of-head.ensures.applied c.head_of-head.ensures.count c.split_at.ensures.back in
    let hits = c.as_slice-2.ensures.value ∙ c.in_ok-hits.ensures
    ∙ hits_are shape bytes rest rest applied c.head_of-head.result.count 0
    c.head_of-head.ensures.applied c.head_of-head.ensures.count c.split_at.ensures.back in
    let spelled = table_is shape bytes rest c.split_at-2.result.1.now
    applied c.head_of-head.result.count c.entry_len.result c.head_of-head.ensures.applied
    c.head_of-head.ensures.count c.split_at.ensures.back c.entry_len.ensures c.split_at-2.ensures.back in
    let made = table_made shape bytes c.as_slice.result.now c.split_at-2.result.1.now positions spelled
    c.in_ok-table.table c.in_ok-table.ensures in
    let shown = window_made shape bytes c.as_slice-2.result.now hits c.in_ok-window.window c.in_ok-window.ensures in
    IfOk-weaker c.restore-3.result _ _
    (goes_on shape bytes applied c.head_of-head.result.last c.in_ok-table.table c.in_ok-window.window
    c.head_of-head.ensures.applied c.head_of-head.ensures.last made shown)
    c.restore-3.ensures.restored

pub returns-clause-stands : goal.returns-clause-stands
returns-clause-stands c E order ends is =
    let shape = c.args.shape.now in
    let bytes = c.args.bytes.now in
    let rest = c.split_at.result.1.now in
    let applied = c.head_of-head.result.applied in
    let positions = c.as_slice.ensures.value ∙ c.in_ok-positions.ensures
    ∙ positions_are shape bytes rest rest applied c.head_of-head.result.count 0
    c.head_of-head.ensures.applied c.head_of-head.ensures.count c.split_at.ensures.back in
    let hits = c.as_slice-2.ensures.value ∙ c.in_ok-hits.ensures
    ∙ hits_are shape bytes rest rest applied c.head_of-head.result.count 0
    c.head_of-head.ensures.applied c.head_of-head.ensures.count c.split_at.ensures.back in
    let spelled = table_is shape bytes rest c.split_at-2.result.1.now
    applied c.head_of-head.result.count c.entry_len.result c.head_of-head.ensures.applied
    c.head_of-head.ensures.count c.split_at.ensures.back c.entry_len.ensures c.split_at-2.ensures.back in
    let made = table_made shape bytes c.as_slice.result.now c.split_at-2.result.1.now positions spelled
    c.in_ok-table.table c.in_ok-table.ensures in
    let shown = window_made shape bytes c.as_slice-2.result.now hits c.in_ok-window.window c.in_ok-window.ensures in
    c.restore-3.ensures.stands E
    (has_left shape bytes applied c.head_of-head.result.last c.in_ok-table.table c.in_ok-window.window
    c.head_of-head.ensures.applied c.head_of-head.ensures.last made shown E order ends is)
