-- Bytes without a fault spell the parts that are read from them, and parts are read from their bundle.
use Rattle.std.proofs.Common.{◌≡◌, ◌∙◌, ℕ, List, ap, sym, subst, arith}
use Rattle.std.proofs.lemmas.Option.{none-some}
use Rattle.tk_frames.specs.Faults.{first_fault}
use Rattle.tk_relay.specs.declared.part.Part.{Part}
use Rattle.tk_relay.specs.Bundles.{AreParts, bundle_frame, bundle_len, bundle_checks, parts_in}
use Rattle.tk_frames.proofs.Offers.{asked_stands}
use Rattle.tk_relay.proofs.BundleLaws.{bundle_found, bundle-again, bundle_passes}
use Rattle.tk_relay.proofs.parts_of_bundle.split.Goals as goal

pub parts_of-requires : goal.parts_of-requires
parts_of-requires c =
    let shape = c.args.shape.now in
    let none = rw c.bundle_len.ensures.len at c.in_ok-check_asked.ensures in
    (asked_stands shape (bundle_len shape) 8 c.args.bytes.now (λ i. omega (arith, c.type_inv.bytes i))
    (omega arith) (sym none)).long

pub returns-clause-found : goal.returns-clause-found
returns-clause-found c =
    let shape = c.args.shape.now in
    let bytes = c.args.bytes.now in
    let none = rw c.bundle_len.ensures.len at c.in_ok-check_asked.ensures in
    subst (λ (parts : List Part). AreParts shape parts × (bytes ≡ bundle_frame parts))
    (sym c.in_ok-parts_of.ensures)
    (bundle_found shape bytes (λ i. omega (arith, c.type_inv.bytes i)) (sym none))

pub returns-clause-only : goal.returns-clause-only
returns-clause-only c = λ parts are e.
    c.in_ok-parts_of.ensures ∙ ap (parts_in c.args.shape.now) e ∙ bundle-again c.args.shape.now parts are

pub returns-in_err-check_asked-clause-only : goal.returns-in_err-check_asked-clause-only
returns-in_err-check_asked-clause-only c = λ parts are e.
    let shape = c.args.shape.now in
    let failed = rw c.bundle_len.ensures.len at c.in_err-check_asked.ensures in
    absurd (none-some c.in_err-check_asked.field-0.0
    (sym (failed ∙ ap (λ (xs : List ℕ). first_fault (bundle_checks shape xs)) e
    ∙ bundle_passes shape parts are)))
