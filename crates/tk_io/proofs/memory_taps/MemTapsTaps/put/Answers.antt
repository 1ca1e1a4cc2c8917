-- The server's list has gained the bytes, and the others are as they were.
use Rattle.std.proofs.Common.{◌≡◌, ℕ, ◌-◌, ◌++◌, [], ap, ◌∙◌, ◌∷◌, rules, List, length, ◌≤◌, set, get_or}
use Rattle.std.specs.Prelude.{slice_get}
use Rattle.tk_io.specs.InMemory.{TapsState, tap_of}
use Rattle.tk_io.specs.Content.{gained}
use Rattle.tk_io.proofs.Tapped.{tapped, others_stay}
use Rattle.tk_io.proofs.memory_taps.MemTapsTaps.put.Goals as goal

pub returns-clause-ok : goal.returns-clause-ok
returns-clause-ok c =
    let written : c.append_at.new.taps.items ≡ set c.self.inside.taps.items (c.args.server - 1) (get_or c.self.inside.taps.items (c.args.server - 1) [] ++ c.args.bytes.now) = search rules in
    let in_range : c.args.server ≤ length c.self.inside.taps.items = search rules in
    let was = ap (λ (t : TapsState). gained (tap_of t c.args.server) c.args.bytes.now) c.self.view_is in
    ap (λ (lists : List (List ℕ)). slice_get ([] ∷ lists) c.args.server) written
    ∙ tapped c.self.inside.taps.items c.args.server c.args.bytes.now c.requires.low in_range ∙ was

pub returns-clause-others : goal.returns-clause-others
returns-clause-others c other not_it =
    let written : c.append_at.new.taps.items ≡ set c.self.inside.taps.items (c.args.server - 1) (get_or c.self.inside.taps.items (c.args.server - 1) [] ++ c.args.bytes.now) = search rules in
    let was = ap (λ (t : TapsState). tap_of t other) c.self.view_is in
    ap (λ (lists : List (List ℕ)). slice_get ([] ∷ lists) other) written
    ∙ others_stay c.self.inside.taps.items c.args.server other _ c.requires.low not_it ∙ was
