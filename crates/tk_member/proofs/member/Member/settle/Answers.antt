-- As many numbers were known as there are logs.
use Rattle.std.proofs.Common.{◌∙◌, ap, sym, List, ℕ, length}
use Rattle.std.proofs.lemmas.List.FromFn.{length-map-range_with_len}
use Rattle.tk_client.specs.Client.{ClientState}
use Rattle.tk_client.specs.Reader.{got_in}
use Rattle.tk_member.proofs.member.Member.settle.Goals as goal

pub tell_news-requires : goal.tell_news-requires
tell_news-requires g c =
    let client = c.self.inside.client in
    ap (λ (ns : List ℕ). length ns) (c.as_slice.ensures.value ∙ c.in_ok-known.ensures)
    ∙ length-map-range_with_len (λ log. length (got_in client.reader.follows log)) 0 client.shape.logs
    ∙ sym (ap (λ (x : ClientState). x.shape.logs) c.in-Ok.ensures.taken)
