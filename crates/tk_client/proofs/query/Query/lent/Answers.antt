-- What a server is lent are its pieces of either half.
use Rattle.std.proofs.Common.{◌∙◌, ap, ap₂, List, ℕ, [], ◌++◌, ◌-◌, ◌*◌, take, drop}
use Rattle.std.specs.Prelude.{slice_index_or}
use Rattle.tk_shape.specs.Lengths.{seed_len, vector_len}
use Rattle.tk_kernel.specs.Pieces.{all_pieces}
use Rattle.tk_words.specs.Pieces.{piece}
use Rattle.tk_frames.specs.Lent.{seeds_by_way}
use Rattle.tk_client.specs.Asked.{seeds_told}
use Rattle.tk_client.specs.Framing.{first_cut, second_cut}
use Rattle.tk_client.proofs.AskingLaws.{frame_of_parts}
use Rattle.tk_client.proofs.query.Query.lent.Goals as goal

pub returns : goal.returns
returns c =
    let shape = c.args.shape.now in
    let q = c.args.self.now in
    let place = c.args.server - 1 in
    let others = shape.servers - 1 in
    let size = vector_len shape in
    let seeds_at = ap (λ n. others * n) c.seed_len.ensures in
    let drawn_at = ap (λ n. others * n) c.vector_len-size.ensures in
    let cut_at = λ (s d : List ℕ). slice_index_or (all_pieces size (s ++ d)) place [] in
    let told_of = λ (s d : List ℕ).
    seeds_told shape q.shows c.args.server (piece (seed_len shape) place s ++ piece (seed_len shape) place d) in
    let seeds = c.split_at-seeds.ensures in
    let drawn = c.split_at-drawn.ensures in
    let last = c.split_at-last.ensures in
    frame_of_parts shape q.shows q.asker (first_cut shape q) (second_cut shape q) c.args.server
    c.vector_of.result.now c.vector_of-2.result.now
    (seeds_by_way c.told-way.result.0 (c.told-way.result.1.0.now ++ c.told-way.result.1.1.now))
    (c.vector_of.ensures
    ∙ ap₂ cut_at (drawn.front ∙ ap₂ (λ (n : ℕ) (s : List ℕ). take n s) drawn_at c.as_slice-2.ensures)
    (last.front ∙ ap₂ (λ (n : ℕ) (s : List ℕ). take n s) c.vector_len-size.ensures c.as_slice-3.ensures))
    (c.vector_of-2.ensures
    ∙ ap₂ cut_at (drawn.back ∙ ap₂ (λ (n : ℕ) (s : List ℕ). drop n s) drawn_at c.as_slice-2.ensures)
    (last.back ∙ ap₂ (λ (n : ℕ) (s : List ℕ). drop n s) c.vector_len-size.ensures c.as_slice-3.ensures))
    (c.told-way.ensures
    ∙ ap₂ told_of (seeds.front ∙ ap₂ (λ (n : ℕ) (s : List ℕ). take n s) seeds_at c.as_slice.ensures)
    (seeds.back ∙ ap₂ (λ (n : ℕ) (s : List ℕ). drop n s) seeds_at c.as_slice.ensures))
