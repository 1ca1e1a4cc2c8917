-- One byte more is asked at each turn of the fold.
use Rattle.std.proofs.Common.{◌≡◌, refl, subst, rules}
use Rattle.std.specs.List.{list_all}
use Rattle.std.proofs.lemmas.Fn.{fold_over, slice_gives, fronts}
use Rattle.tk_seal.specs.Texts.{is_printable}
use Rattle.tk_seal.proofs.Fronts.{list_all-push}
use Rattle.tk_seal.proofs.text.all_printable.Goals as goal

pub returns : goal.returns
returns c = subst (λ l. c.fold.result ≡ list_all is_printable l) c.iter.ensures.rest
    (fold_over fronts (λ y. y.now) _ (λ ys all. all ≡ list_all is_printable ys) _
    (λ ys a x b f' j k. let more = list_all-push is_printable ys x.now in search rules)
    _ _ _ _ (slice_gives c.iter.result) refl c.fold.ensures.ran)
