-- The numbers that are known of one log more.
use Rattle.std.proofs.Common.{◌∙◌, ◌++◌, ◌∷◌, [], ap, sym, List, ℕ, length, map}
use Rattle.std.specs.List.{range_with_len}
use Rattle.std.proofs.lemmas.List.FromFn.{map-range_with_len_more}
use Rattle.std.proofs.Math.Nat.{zero-add}
use Rattle.tk_client.specs.Reader.{got_in}
use Rattle.tk_member.proofs.news.known_numbers.Goals as goal

pub logs-preserved : goal.logs-preserved
logs-preserved c =
    let follows = c.args.client.now.reader.follows in
    let log = c.logs.log in
    let known = λ (l : ℕ). length (got_in follows l) in
    c.in_ok-push.ensures.items
    ∙ ap (λ (ks : List ℕ). ks ++ length c.log.result.now ∷ []) c.logs.invariant
    ∙ ap (λ (k : ℕ). map known (range_with_len 0 log) ++ k ∷ []) (ap (λ gots. length gots) c.log.ensures)
    ∙ sym (map-range_with_len_more known 0 log log (zero-add log))
