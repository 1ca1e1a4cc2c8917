-- What was sent, and what is left to be sent, is what it was, once one packet more was sent.
use Rattle.std.proofs.Common.{◌≡◌, refl, ap, sym, ◌∙◌, arith, ℕ, suc, ◌+◌, ◌-◌, ◌<◌, List, [], ◌∷◌, ◌++◌}
use Rattle.std.proofs.Common.{length, take, drop, get_or, append_assoc, add-one, drop-cons}
use Rattle.std.specs.Prelude.{replicate, Option, Some, None, option_map, IfSome}
use Rattle.tk_client.specs.declared.got.Got.{Got}
use Rattle.tk_packets.specs.Packets.{PacketView, packet}
use Rattle.tk_member.specs.Acting.{packets_from}
use Rattle.tk_member.specs.News.{got_packet, news_from}
use Rattle.tk_member.specs.Steps.{all_of}

-- to each the same
pub each-next : (out : List PacketView) (frame : List ℕ) (n i : ℕ) → i < n →
    (out ++ packet (i + 1) frame ∷ []) ++ packets_from (i + 1 + 1) (replicate (n - (i + 1)) frame)
    ≡ out ++ packets_from (i + 1) (replicate (n - i) frame)
each-next out frame n i low =
    let one : n - i ≡ suc (n - (i + 1)) = omega (arith, low) in
    append_assoc out (packet (i + 1) frame ∷ [])
    (packets_from (i + 1 + 1) (replicate (n - (i + 1)) frame))
    ∙ ap (λ (m : ℕ). out ++ packets_from (i + 1) (replicate m frame)) (sym one)

-- one element and those behind it
pub drop-next : {X : Type 0} (xs : List X) (i : ℕ) (x : X) → i < length xs → x ≡ get_or xs i x →
    drop i xs ≡ x ∷ drop (i + 1) xs
drop-next xs i x low here =
    drop-cons xs i x low
    ∙ ap (λ y. y ∷ drop (suc i) xs) (sym here)
    ∙ ap (λ (k : ℕ). x ∷ drop k xs) (sym (add-one i))

-- to each its own
pub frames-next : (out : List PacketView) (frames : List (List ℕ)) (peer i : ℕ) (frame : List ℕ) →
    i < length frames → frame ≡ get_or frames i frame →
    (out ++ packet peer frame ∷ []) ++ packets_from (peer + 1) (drop (i + 1) frames)
    ≡ out ++ packets_from peer (drop i frames)
frames-next out frames peer i frame low here =
    append_assoc out (packet peer frame ∷ []) (packets_from (peer + 1) (drop (i + 1) frames))
    ∙ ap (λ (fs : List (List ℕ)). out ++ packets_from peer fs) (sym (drop-next frames i frame low here))

-- what the next number gave
pub news-next : (told : List PacketView) (log number : ℕ) (gots : List Got) (got : Got) →
    number < length gots → got ≡ get_or gots number got →
    (told ++ got_packet log number got ∷ []) ++ news_from log (number + 1) (drop (number + 1) gots)
    ≡ told ++ news_from log number (drop number gots)
news-next told log number gots got low here =
    append_assoc told (got_packet log number got ∷ [])
    (news_from log (number + 1) (drop (number + 1) gots))
    ∙ ap (λ (gs : List Got). told ++ news_from log number gs) (sym (drop-next gots number got low here))

-- one reply more that is there
all-behind : {X : Type 0} (done : List X) (x : X) (rest : Option (List X)) →
    option_map (λ ys. (done ++ x ∷ []) ++ ys) rest
    ≡ option_map (λ ys. done ++ ys) (option_map (λ ys. x ∷ ys) rest)
all-behind done x None = refl
all-behind done x (Some ys) = ap Some (append_assoc done (x ∷ []) ys)

pub all-next : {X : Type 0} (done : List X) (x : X) (rest : List (Option X)) →
    option_map (λ ys. (done ++ x ∷ []) ++ ys) (all_of rest)
    ≡ option_map (λ ys. done ++ ys) (all_of (Some x ∷ rest))
all-next done x rest = all-behind done x (all_of rest)

one-sized : {X : Type 0} (x : X) (n : ℕ) (o : Option (List X)) → IfSome o (λ ys. length ys ≡ n) →
    IfSome (option_map (λ ys. x ∷ ys) o) (λ ys. length ys ≡ suc n)
one-sized x n None all = tt {0}
one-sized x n (Some ys) all = ap suc all

-- where all are there, they are as many
pub all-sized : {X : Type 0} (xs : List (Option X)) →
    IfSome (all_of xs) (λ ys. length ys ≡ length xs)
all-sized [] = refl
all-sized (None ∷ xs) = tt {0}
all-sized (Some x ∷ xs) = one-sized x (length xs) (all_of xs) (all-sized xs)

-- what is sent whole, and a front of what follows it, is a front of both
pub front-behind : (a b : List ℕ) (k : ℕ) → a ++ take k b ≡ take (length a + k) (a ++ b)
front-behind [] b k = let here : k ≡ 0 + k = omega arith in ap (λ n. take n b) here
front-behind (x ∷ a) b k =
    let here : suc (length a + k) ≡ suc (length a) + k = omega arith in
    ap (λ bs. x ∷ bs) (front-behind a b k) ∙ ap (λ n. take n (x ∷ (a ++ b))) here
