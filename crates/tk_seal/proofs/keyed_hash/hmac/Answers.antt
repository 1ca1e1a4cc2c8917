use Rattle.std.proofs.Common.{List, ℕ, [], ◌++◌, ap, ap₂, ◌∙◌, append_assoc}
use Rattle.sha2.specs.Sha256.{sha256}
use Rattle.tk_seal.specs.Seal.{hmac, mixed_key}
use Rattle.tk_seal.proofs.keyed_hash.hmac.Goals as goal

pub returns : goal.returns
unfolding hmac
returns c =
    let head = c.args.head.now in
    let body = c.args.body.now in
    let inner = c.finalize.ensures _ (c.update-3.ensures _ (c.update-2.ensures _ (c.update.ensures [] c.new-inner.ensures))) in
    let outer = c.finalize-2.ensures _ (c.update-5.ensures _ (c.update-4.ensures [] c.new-outer.ensures)) in
    outer
    ∙ ap₂ (λ (k d : List ℕ). sha256 (k ++ d)) c.mixed_key-2.ensures
    (inner ∙ ap (λ (k : List ℕ). sha256 (k ++ head ++ body)) c.mixed_key.ensures ∙ ap sha256 (append_assoc (mixed_key 0x36 c.args.key.now) head body))
