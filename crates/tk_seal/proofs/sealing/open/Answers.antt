use Rattle.std.proofs.Common.{◌≡◌, ◌∙◌, ◌+◌, ◌-◌, ◌<◌, ◌≤◌, ◌^◌, replicate, ap, ap₂, sym, List, ℕ, length, arith}
use Rattle.std.proofs.lemmas.List.{length-take-le}
use Rattle.std.proofs.lemmas.Option.{IfSome_then}
use Rattle.tk_handle.specs.Handle.{key_bytes}
use Rattle.tk_handle.proofs.Offers.{length-key_bytes}
use Rattle.tk_seal.specs.Seal.{opened_with, keyed_pad, keyed_tag}
use Rattle.tk_seal.proofs.SealLaws.{closed_by_mark, opened_by_reading, closed_by_reading, IfNone_then, marks_differ, marks_agree}
use Rattle.tk_seal.proofs.sealing.open.Goals as goal

pub returns-then-ne-clause-none : goal.returns-then-ne-clause-none
returns-then-ne-clause-none c =
    let h = c.args.handle.now in
    let block = c.args.block.now in
    let masked = c.split_at.result.0.now in
    let mark = c.split_at.result.1.now in
    let pad = keyed_pad (length block) h c.args.number in
    let tag = keyed_tag h c.args.number in
    let wide : length pad ≡ length block - 16 = length-key_bytes h.key c.args.number 16 (length block - 16) in
    let small : length pad < 2 ^ 16 = omega (arith, c.requires.high) in
    ap (opened_with pad tag) c.split_at.ensures.by_index.0
    ∙ closed_by_mark pad tag masked mark (c.split_at.ensures.front_len ∙ sym wide) small
    (λ e. marks_differ mark c.as_slice.result.now c.if-ne.ensures (e ∙ sym (c.as_slice.ensures ∙ c.tag.ensures)))

pub returns-clause-text : goal.returns-clause-text
returns-clause-text c =
    let h = c.args.handle.now in
    let block = c.args.block.now in
    let masked = c.split_at.result.0.now in
    let mark = c.split_at.result.1.now in
    let pad = c.fill-2.new.out in
    let tag = keyed_tag h c.args.number in
    let room : length masked ≤ length (replicate {A = ℕ} 1008 0) = omega (arith, c.requires.high, c.split_at.ensures.front_len) in
    let whole : length masked + 16 ≡ length block = omega (arith, c.split_at.ensures.front_len, c.requires.low) in
    let rest : length masked ≡ length block - 16 = omega (arith, whole) in
    let is_pad : pad ≡ keyed_pad (length block) h c.args.number =
    (rw c.message_words-words.ensures.words at c.fill-2.ensures.bytes)
    ∙ ap (key_bytes h.key c.args.number 16) (length-take-le (length masked) (replicate {A = ℕ} 1008 0) room ∙ rest) in
    let wide : length masked ≡ length pad =
    c.split_at.ensures.front_len ∙ sym (ap length is_pad ∙ length-key_bytes h.key c.args.number 16 (length block - 16)) in
    IfSome_then c.unmask.result
    (opened_by_reading pad tag masked mark c.unmask.new.out c.unmask.result wide (marks_agree mark c.as_slice.result.now c.if-ne.ensures ∙ c.as_slice.ensures ∙ c.tag.ensures) c.unmask.ensures.text)
    (λ n e. ap₂ (λ (p b : List ℕ). opened_with p tag b) (sym is_pad) c.split_at.ensures.by_index.0 ∙ e)

pub returns-clause-none : goal.returns-clause-none
returns-clause-none c =
    let h = c.args.handle.now in
    let block = c.args.block.now in
    let masked = c.split_at.result.0.now in
    let mark = c.split_at.result.1.now in
    let pad = c.fill-2.new.out in
    let tag = keyed_tag h c.args.number in
    let room : length masked ≤ length (replicate {A = ℕ} 1008 0) = omega (arith, c.requires.high, c.split_at.ensures.front_len) in
    let whole : length masked + 16 ≡ length block = omega (arith, c.split_at.ensures.front_len, c.requires.low) in
    let rest : length masked ≡ length block - 16 = omega (arith, whole) in
    let is_pad : pad ≡ keyed_pad (length block) h c.args.number =
    (rw c.message_words-words.ensures.words at c.fill-2.ensures.bytes)
    ∙ ap (key_bytes h.key c.args.number 16) (length-take-le (length masked) (replicate {A = ℕ} 1008 0) room ∙ rest) in
    let wide : length masked ≡ length pad =
    c.split_at.ensures.front_len ∙ sym (ap length is_pad ∙ length-key_bytes h.key c.args.number 16 (length block - 16)) in
    let small : length pad < 2 ^ 16 = omega (arith, c.requires.high, c.split_at.ensures.front_len) in
    IfNone_then c.unmask.result (closed_by_reading pad tag masked mark c.unmask.result wide small c.unmask.ensures.none)
    (λ e. ap₂ (λ (p b : List ℕ). opened_with p tag b) (sym is_pad) c.split_at.ensures.by_index.0 ∙ e)
