-- What each program took, when one of them did one thing more.
use Rattle.tk_meeting.proofs.Terms.{◌≡◌, ℕ, List, [], ◌∷◌, ◌==◌, cond, ◌++◌, ◌∙◌, refl, ap, append-nil, eqb-true}
use Rattle.tk_meeting.proofs.Terms.{Passing, Took, Put, PacketView, changed, Doing, OfClient, OfServer, of_client}
use Rattle.tk_meeting.proofs.Terms.{of_server, taken_in}
use Rattle.tk_meeting.proofs.courses.Picks.{pick}
use Rattle.tk_meeting.proofs.programs.Moments.{taken-append}

pub client-append : (c : ℕ) (ds es : List Doing) → of_client c (ds ++ es) ≡ of_client c ds ++ of_client c es
client-append c [] es = refl
client-append c (OfClient k x ∷ ds) es =
    let later = of_client c (ds ++ es) in
    let now = of_client c ds in
    let more = of_client c es in
    let same : later ≡ now ++ more = client-append c ds es in
    pick (λ b. cond b (x ∷ later) later ≡ cond b (x ∷ now) now ++ more) (c == k)
    (λ _. ap (λ xs. x ∷ xs) same) (λ _. same)
client-append c (OfServer k x ∷ ds) es = client-append c ds es

pub server-append : (j : ℕ) (ds es : List Doing) → of_server j (ds ++ es) ≡ of_server j ds ++ of_server j es
server-append j [] es = refl
server-append j (OfClient k x ∷ ds) es = server-append j ds es
server-append j (OfServer k x ∷ ds) es =
    let later = of_server j (ds ++ es) in
    let now = of_server j ds in
    let more = of_server j es in
    let same : later ≡ now ++ more = server-append j ds es in
    pick (λ b. cond b (x ∷ later) later ≡ cond b (x ∷ now) now ++ more) (j == k)
    (λ _. ap (λ xs. x ∷ xs) same) (λ _. same)

-- by client, and by server
abbrev pub client_took : List Doing → ℕ → List PacketView
client_took ds c = taken_in (of_client c ds)

abbrev pub server_took : List Doing → ℕ → List PacketView
server_took ds j = taken_in (of_server j ds)

abbrev pub one_more : ℕ → PacketView → (ℕ → List PacketView) → ℕ → List PacketView
one_more c p took = changed c (took c ++ p ∷ []) took

-- a program's list with what it did itself, or what another did
grown : (k c : ℕ) (p : PacketView) (took : ℕ → List PacketView) →
    took k ++ taken_in (cond (k == c) (Took p ∷ []) []) ≡ one_more c p took k
grown k c p took =
    pick (λ b. took k ++ taken_in (cond b (Took p ∷ []) []) ≡ cond b (took c ++ p ∷ []) (took k)) (k == c)
    (λ same. ap (λ n. took n ++ p ∷ []) (eqb-true k c same)) (λ _. append-nil (took k))

still : (k c : ℕ) (p : PacketView) (xs : List PacketView) →
    xs ++ taken_in (cond (k == c) (Put p ∷ []) []) ≡ xs
still k c p xs =
    pick (λ b. xs ++ taken_in (cond b (Put p ∷ []) []) ≡ xs) (k == c) (λ _. append-nil xs) (λ _. append-nil xs)

-- ---- a client does something

client-took : (ds : List Doing) (c k : ℕ) (x : Passing) →
    client_took (ds ++ OfClient c x ∷ []) k ≡ client_took ds k ++ taken_in (cond (k == c) (x ∷ []) [])
client-took ds c k x =
    ap taken_in (client-append k ds (OfClient c x ∷ []))
    ∙ taken-append (of_client k ds) (of_client k (OfClient c x ∷ []))

pub took-own : (ds : List Doing) (c : ℕ) (p : PacketView) →
    client_took (ds ++ OfClient c (Took p) ∷ []) ≡ one_more c p (client_took ds)
took-own ds c p = λ i k. (client-took ds c k (Took p) ∙ grown k c p (client_took ds)) i

pub put-own : (ds : List Doing) (c : ℕ) (p : PacketView) →
    client_took (ds ++ OfClient c (Put p) ∷ []) ≡ client_took ds
put-own ds c p = λ i k. (client-took ds c k (Put p) ∙ still k c p (client_took ds k)) i

pub client-apart : (ds : List Doing) (c : ℕ) (x : Passing) →
    server_took (ds ++ OfClient c x ∷ []) ≡ server_took ds
client-apart ds c x = λ i k. ap taken_in (server-append k ds (OfClient c x ∷ []) ∙ append-nil (of_server k ds)) i

-- ---- a server does

server-took : (ds : List Doing) (j k : ℕ) (x : Passing) →
    server_took (ds ++ OfServer j x ∷ []) k ≡ server_took ds k ++ taken_in (cond (k == j) (x ∷ []) [])
server-took ds j k x =
    ap taken_in (server-append k ds (OfServer j x ∷ []))
    ∙ taken-append (of_server k ds) (of_server k (OfServer j x ∷ []))

pub took-served : (ds : List Doing) (j : ℕ) (p : PacketView) →
    server_took (ds ++ OfServer j (Took p) ∷ []) ≡ one_more j p (server_took ds)
took-served ds j p = λ i k. (server-took ds j k (Took p) ∙ grown k j p (server_took ds)) i

pub put-served : (ds : List Doing) (j : ℕ) (p : PacketView) →
    server_took (ds ++ OfServer j (Put p) ∷ []) ≡ server_took ds
put-served ds j p = λ i k. (server-took ds j k (Put p) ∙ still k j p (server_took ds k)) i

pub server-apart : (ds : List Doing) (j : ℕ) (x : Passing) →
    client_took (ds ++ OfServer j x ∷ []) ≡ client_took ds
server-apart ds j x = λ i k. ap taken_in (client-append k ds (OfServer j x ∷ []) ∙ append-nil (of_client k ds)) i
