-- A page that was made ahead has the right length, as each of those after it.
use Rattle.std.proofs.Common.{◌≡◌, ℕ, List, length, ◌∷◌, ◌++◌, [], sym, ap, ◌∙◌, arith, length-append}
use Rattle.std.proofs.lemmas.List.Elements.{All-same, All-head, All-rest, All-push}
use Rattle.tk_pool.proofs.pool.make_spare.Goals as goal

pub loop-page-preserved : goal.loop-page-preserved
loop-page-preserved c =
    let at = c.loop-page in
    let page : List ℕ = c.in-Some.page in
    let rest : List (List ℕ) = c.next.new.self.rest.items in
    let IsSpare : List ℕ → Type 0 = λ p. length p ≡ c.args.page_len in
    let steps : at.page-iterator.rest.items ≡ page ∷ rest = c.in-Some.ensures.steps.0 in
    let left = All-same IsSpare (page ∷ rest) _ (sym steps) at.invariant.left in
    let items = c.push_reserved.ensures.items in
    record {
      each = All-same IsSpare c.push_reserved.new.self.items (at.pages.items ++ page ∷ []) items
          (All-push IsSpare at.pages.items page at.invariant.each
          (All-head IsSpare page rest left));
      left = All-rest IsSpare page rest _ steps at.invariant.left;
      counted =
          let long = ap length steps in
          let more = ap length items ∙ length-append at.pages.items (page ∷ []) in
          let counted = at.invariant.counted in
          omega (arith, long, more, counted);
      room = c.push_reserved.ensures.capacity ∙ at.invariant.room;
    }
