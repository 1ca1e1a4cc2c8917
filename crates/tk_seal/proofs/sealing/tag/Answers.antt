use Rattle.std.proofs.Common.{List, ℕ, ◌++◌, ap, ap₂, ◌∙◌, take}
use Rattle.std.specs.Int.{w64, to_be_bytes}
use Rattle.tk_seal.specs.Seal.{hmac}
use Rattle.tk_seal.proofs.sealing.tag.Goals as goal

pub returns : goal.returns
returns c =
    let id = c.copy_from_slice.ensures.after ∙ c.to_be_bytes.ensures in
    let place = c.copy_from_slice-2.ensures.after ∙ c.to_be_bytes-2.ensures ∙ ap (to_be_bytes w64) c.from.ensures in
    c.copy_from_slice-3.ensures.after
    ∙ ap (take 16)
    (c.hmac.ensures
    ∙ ap₂ (λ (k m : List ℕ). hmac k m) c.requires.key
    (ap₂ (λ (x y : List ℕ). x ++ y ++ c.args.masked.now) id place))
