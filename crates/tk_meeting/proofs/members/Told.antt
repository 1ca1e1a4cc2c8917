-- What a member tells its host of its reads: each packet is for its host, and none is of a refused text.
use Rattle.tk_meeting.proofs.Terms.{◌≡◌, ℕ, List, [], ◌∷◌, flat_map, ◌+◌, cond, true, filter, ◌∙◌, refl, ap}
use Rattle.tk_meeting.proofs.Terms.{range_with_len, AllByRecursion, Shape, Reader, Got, Absent, Text, each-append}
use Rattle.tk_meeting.proofs.Terms.{PacketView, news, news_from, got_packet, news_of, tells_read}

-- a packet of a read, for the host
pub record TellsRead (p : PacketView) : Type 0 where
  pub to_host : p.peer ≡ 0
  pub of_read : tells_read p ≡ true

got-tells : (log number : ℕ) (got : Got) → TellsRead (got_packet log number got)
got-tells log number (Text text) = record { to_host = refl; of_read = refl }
got-tells log number Absent = record { to_host = refl; of_read = refl }

from-tells : (log number : ℕ) (gots : List Got) → AllByRecursion TellsRead (news_from log number gots)
from-tells log number [] = tt
from-tells log number (got ∷ gots) = (got-tells log number got, from-tells log (number + 1) gots)

logs-tell : (before after : Reader) (logs : List ℕ) →
    AllByRecursion TellsRead (flat_map (news_of before after) logs)
logs-tell before after [] = tt
logs-tell before after (log ∷ logs) =
    each-append TellsRead (news_of before after log) (flat_map (news_of before after) logs)
    (from-tells log _ _) (logs-tell before after logs)

pub news-tell : (shape : Shape) (before after : Reader) →
    AllByRecursion TellsRead (news shape before after)
news-tell shape before after = logs-tell before after (range_with_len 0 shape.logs)

pub tell-to_host : (told : List PacketView) → AllByRecursion TellsRead told →
    AllByRecursion (λ (p : PacketView). p.peer ≡ 0) told
tell-to_host [] all = tt
tell-to_host (p ∷ ps) all = (all.0.to_host, tell-to_host ps all.1)

pub tell-all : (told : List PacketView) → AllByRecursion TellsRead told → filter tells_read told ≡ told
tell-all [] all = refl
tell-all (p ∷ ps) all =
    let rest = filter tells_read ps in
    ap (λ b. cond b (p ∷ rest) rest) all.0.of_read
    ∙ ap (λ (xs : List PacketView). p ∷ xs) (tell-all ps all.1)
