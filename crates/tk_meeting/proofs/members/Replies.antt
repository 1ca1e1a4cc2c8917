-- What becomes of a member when a server replies to its read.
use Rattle.tk_meeting.proofs.Terms.{◌≡◌, ℕ, ◌≤◌, ◌<◌, List, [], ◌∷◌, map, ◌+◌, cond, ◌-◌, Bool, true, false, Option}
use Rattle.tk_meeting.proofs.Terms.{Some, None, Result, ◌∙◌, refl, ap, sym, arith, inl, inr, ap₂, slice_index_or}
use Rattle.tk_meeting.proofs.Terms.{slice_set, Err, and_parts, true≢false, and_cases, get_or-map-range_with_len}
use Rattle.tk_meeting.proofs.Terms.{range_with_len, list_all, is_none, is_some, not, option_map, ◌||◌, WordBook}
use Rattle.tk_meeting.proofs.Terms.{words_of, IsBook, Script, refusal_in, Reader, reader_before, PacketView, reply_told}
use Rattle.tk_meeting.proofs.Terms.{ActedMember, MemberState, news, tells_and_acts, served, all_of, settled_by, replied}
use Rattle.tk_meeting.proofs.Terms.{settled as settles, Fault, Peer, Saying}
use Rattle.tk_meeting.proofs.Canonical.{serial, reply_in}
use Rattle.tk_meeting.proofs.Pace.{Pace, IsPace, with_reply_of, all_replied, closed, reply_came}
use Rattle.tk_meeting.proofs.Standing.{IsAt, Readies, read_of, reply_there}
use Rattle.tk_meeting.proofs.members.Members.{member_at, client_at, at-is, is-at, replies_at, all-same-range}
use Rattle.tk_meeting.proofs.members.Asking.{none-open}
use Rattle.tk_meeting.proofs.members.Epochs.{set-one}
use Rattle.tk_meeting.proofs.servers.Bumps.{changed-same, changed-other}
use Rattle.tk_meeting.proofs.members.Answers.{replies_of, IsTurnOf, reader-next, none-refused}
use Rattle.tk_meeting.proofs.members.Told.{news-tell, tell-to_host, tell-all}

-- ---- whether all replies are there

all-there : (f : ℕ → Bool) (r : ℕ → List ℕ) (js : List ℕ) → list_all f js ≡ true →
    all_of (map (λ j. cond (f j) (Some (r j)) None) js) ≡ Some (map r js)
all-there f r [] e = refl
all-there f r (j ∷ js) e =
    let both = and_parts (f j) (list_all f js) e in
    let rest = map (λ i. cond (f i) (Some (r i)) None) js in
    ap (λ x. all_of (cond x (Some (r j)) None ∷ rest)) both.0
    ∙ ap (option_map (λ ys. r j ∷ ys)) (all-there f r js both.1)

one-missing : (x : Bool) (y : List ℕ) (rest : List (Option (List ℕ))) → all_of rest ≡ None →
    all_of (cond x (Some y) None ∷ rest) ≡ None
one-missing true y rest none = ap (option_map (λ ys. y ∷ ys)) none
one-missing false y rest none = refl

not-all : (f : ℕ → Bool) (r : ℕ → List ℕ) (js : List ℕ) → list_all f js ≡ false →
    all_of (map (λ j. cond (f j) (Some (r j)) None) js) ≡ None
not-all f r [] e = absurd (true≢false e)
not-all f r (j ∷ js) e =
    let rest = map (λ i. cond (f i) (Some (r i)) None) js in
    elim (and_cases (f j) (list_all f js) e) [
      | inl first ↦ ap (λ x. all_of (cond x (Some (r j)) None ∷ rest)) first
      | inr later ↦ one-missing (f j) (r j) rest (not-all f r js later)
    ]

-- ---- one reply more

module _ (S : Script) (b : WordBook) (c : ℕ) (p : Pace) (saids : List Saying) (j : ℕ)
    (low : 1 ≤ j) (high : j ≤ S.shape.servers) where
  reply-set : slice_set (replies_at S b c p) (j - 1) (Some (reply_in S b c j (p.asked - 1)))
      ≡ replies_at S b c (with_reply_of j p)
  reply-set =
      let q = with_reply_of j p in
      let there = λ (i : ℕ) (x : Bool). cond x (Some (reply_in S b c i (p.asked - 1))) None in
      set-one (reply_there S b c p) (reply_there S b c q) j (Some (reply_in S b c j (p.asked - 1))) 1
      S.shape.servers low (omega (arith, high))
      (ap (there j) (changed-same j true p.replied))
      (λ k ne. ap (there k) (changed-other j k true p.replied ne))

  served-reply : (m : MemberState) (g : ℕ) →
      served b m j (reply_in S b c j g) ≡ replied b m j (reply_in S b c j g)
  unfolding reply_told
  served-reply m g = refl

  -- it is taken where a read is open and the server has not replied yet
  reply-taken : p.is_open ≡ true → p.replied j ≡ false →
      replied b (member_at S b c p saids) j (reply_in S b c j (p.asked - 1))
      ≡ settled_by b (member_at S b c (with_reply_of j p) saids)
      (all_of (replies_at S b c (with_reply_of j p)))
  reply-taken opens new =
      let g = p.asked - 1 in
      let m = member_at S b c p saids in
      let reply = reply_in S b c j g in
      let open_now : is_none m.client.read ≡ false =
      none-open p.is_open (read_of S b c g) ∙ ap not opens
      in
      let none_yet : is_some (slice_index_or m.replies (j - 1) None) ≡ false =
      ap is_some
      (get_or-map-range_with_len (reply_there S b c p) 1 S.shape.servers (j - 1) j None
      (omega (arith, low, high)) (omega (arith, low))
      ∙ ap (λ x. cond x (Some reply) None) new)
      in
      let after = λ (rs : List (Option (List ℕ))).
      settled_by b (record m { replies = rs }) (all_of rs)
      in
      ap₂ (λ x y. cond (x || y) (Err Peer) (after (slice_set m.replies (j - 1) (Some reply)))) open_now
      none_yet
      ∙ ap after reply-set

  pub served-is : p.is_open ≡ true → p.replied j ≡ false →
      served b (member_at S b c p saids) j (reply_in S b c j (p.asked - 1))
      ≡ settled_by b (member_at S b c (with_reply_of j p) saids)
      (all_of (replies_at S b c (with_reply_of j p)))
  served-is opens new =
      served-reply (member_at S b c p saids) (p.asked - 1) ∙ reply-taken opens new

-- ---- the last reply

-- a read that is open
pub record IsOpen (S : Script) (b : WordBook) (c : ℕ) (p : Pace) : Type 0 where
  pub turn : IsTurnOf S b c (p.asked - 1)
  pub back : p.asked - 1 + 1 ≡ p.asked
  pub opens : p.is_open ≡ true

-- what its host is told of it
abbrev pub news_of_read : Script → WordBook → ℕ → ℕ → ℕ → List PacketView
news_of_read S b c g n =
    let w = words_of S.shape b in
    news S.shape (reader_before S w (serial S) c g) (reader_before S w (serial S) c n)

module _ (S : Script) (b : WordBook) (c : ℕ) (p : Pace) (saids : List Saying)
    (is : IsOpen S b c p) where
  abbrev turn_of : ℕ
  turn_of = p.asked - 1

  -- the member, where its read is open or not
  abbrev as_open : Bool → MemberState
  as_open x =
      record (member_at S b c p saids) {
        client =
            record (client_at S b c p saids) {
              reader =
                  reader_before S (words_of S.shape b) (serial S) c (cond x (p.asked - 1) p.asked);
              read = cond x (Some (read_of S b c turn_of)) None;
            };
      }

  -- the member with this reader and no reply, and what its host is told
  abbrev settling : Reader → List (Option (List ℕ)) → Result ActedMember Fault
  settling r replies =
      tells_and_acts b
      (news S.shape (reader_before S (words_of S.shape b) (serial S) c turn_of) r)
      (record (member_at S b c (closed p) saids) {
        client = record (client_at S b c (closed p) saids) { reader = r };
        replies = replies;
      })

  settles-open : settles b (as_open true) (replies_of S b c turn_of) None
      ≡ settling (reader_before S (words_of S.shape b) (serial S) c p.asked)
      (replies_at S b c (closed p))
  settles-open =
      let w = words_of S.shape b in
      let next = reader-next S b c turn_of is.turn
      ∙ ap (reader_before S w (serial S) c) is.back
      in
      let none = all-same-range (reply_there S b c (closed p)) None (λ k. refl) 1 S.shape.servers in
      ap₂ settling next (sym none)

  settles-all : settles b (member_at S b c p saids) (replies_of S b c turn_of)
      (refusal_in (replies_of S b c turn_of) (client_at S b c p saids))
      ≡ tells_and_acts b (news_of_read S b c turn_of p.asked) (member_at S b c (closed p) saids)
  settles-all =
      let replies = replies_of S b c turn_of in
      ap (λ x. settles b (as_open x) replies (refusal_in replies (as_open x).client)) is.opens
      ∙ ap (settles b (as_open true) replies) (none-refused S b c turn_of is.turn)
      ∙ settles-open

  -- whether it was the last one
  abbrev told_if : Bool → List PacketView
  told_if x = cond x (news_of_read S b c turn_of p.asked) []

  pub settled-readies : (x : Bool) → all_replied S.shape p ≡ x →
      Readies S b c (cond x (closed p) p) saids (told_if x)
      (settled_by b (member_at S b c p saids) (all_of (replies_at S b c p)))
  settled-readies true all =
      let w = words_of S.shape b in
      let r = reader_before S w (serial S) c turn_of in
      let told = news_of_read S b c turn_of p.asked in
      let tells = news-tell S.shape r (reader_before S w (serial S) c p.asked) in
      let js = range_with_len 1 S.shape.servers in
      record {
        member = member_at S b c (closed p) saids;
        told = told;
        is =
            ap (settled_by b (member_at S b c p saids))
            (all-there p.replied (λ i. reply_in S b c i turn_of) js all)
            ∙ settles-all;
        at = is-at S b c (closed p) saids;
        to_host = tell-to_host told tells;
        host = tell-all told tells;
      }
  settled-readies false some =
      let m = member_at S b c p saids in
      let js = range_with_len 1 S.shape.servers in
      record {
        member = m;
        told = [];
        is =
            ap (settled_by b m) (not-all p.replied (λ i. reply_in S b c i turn_of) js some);
        at = is-at S b c p saids;
        to_host = tt;
        host = refl;
      }

-- what comes to the same is as ready
readies-from : {S : Script} {b : WordBook} {c : ℕ} {p : Pace} {saids : List Saying}
    {told : List PacketView} {x y : Result ActedMember Fault} → x ≡ y → Readies S b c p saids told y →
    Readies S b c p saids told x
readies-from same ready =
    record {
      member = ready.member;
      told = ready.told;
      is = same ∙ ready.is;
      at = ready.at;
      to_host = ready.to_host;
      host = ready.host;
    }

-- server j replies to the read that is open, to which it had not replied
pub reply-readies : {S : Script} {b : WordBook} {c : ℕ} {p : Pace} {saids : List Saying}
    {m : MemberState} → IsBook S.shape b → c < S.shape.clients → IsPace S.shape p →
    IsAt S b c p saids m → (j : ℕ) → 1 ≤ j → j ≤ S.shape.servers → p.is_open ≡ true →
    p.replied j ≡ false → let w = words_of S.shape b in
    Readies S b c (reply_came S.shape j p) saids
    (cond (all_replied S.shape (with_reply_of j p))
    (news S.shape (reader_before S w (serial S) c (p.asked - 1))
    (reader_before S w (serial S) c p.asked))
    [])
    (served b m j (reply_in S b c j (p.asked - 1)))
reply-readies {S} {b} {c} {p} {saids} {m} serves client pace at j low high opens new =
    let g = p.asked - 1 in
    let some : 0 < p.asked = pace.open_in opens in
    let reply = reply_in S b c j g in
    let turn : IsTurnOf S b c g =
    record {
      serves = serves;
      client_in = client;
      turn_in = omega (arith, some, pace.asked_in, pace.written_in);
    }
    in
    let is : IsOpen S b c (with_reply_of j p) =
    record { turn = turn; back = omega (arith, some); opens = opens }
    in
    readies-from
    (ap (λ (x : MemberState). served b x j reply) (at-is at)
    ∙ served-is S b c p saids j low high opens new)
    (settled-readies S b c (with_reply_of j p) saids is (all_replied S.shape (with_reply_of j p)) refl)
