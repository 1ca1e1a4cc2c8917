use Rattle.std.proofs.Common.{◌≡◌, ◌+◌, ◌-◌, ◌≤◌, length, arith}
use Rattle.tk_handle.proofs.Offers.{length-key_bytes}
use Rattle.tk_seal.specs.Seal.{keyed_pad, keyed_tag}
use Rattle.tk_seal.proofs.SealLaws.{opened_with-sealed, opened_with-is}
use Rattle.tk_seal.proofs.laws.opens_what_seals.Goals as goal

pub returns : goal.returns
returns c h s block text low high =
    let size = length block in
    let pad = keyed_pad size h s in
    let tag = keyed_tag h s in
    let long : length pad ≡ size - 16 = length-key_bytes h.key s 16 (size - 16) in (
      λ e. let o = opened_with-is pad tag block text e in
          record { allowed = o.0; fits = omega (arith, o.1, long, low); seals = o.2 },
      λ o. let fits : length text + 18 ≤ size = o.fits in
          opened_with-sealed pad tag text block o.allowed (omega (arith, long, fits)) (omega (arith, fits, high)) o.seals,
    )
