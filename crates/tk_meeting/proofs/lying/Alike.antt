-- Two groups in which the same is done but for what is said show the same to all servers but the hidden one.
use Rattle.tk_meeting.proofs.Terms.{◌≡◌, ℕ, ◌≤◌, ◌<◌, List, [], ◌∷◌, length, map, ◌==◌, cond, ◌++◌, Bool, true, false}
use Rattle.tk_meeting.proofs.Terms.{Option, Some, None, Result, Ok, ◌∙◌, refl, ap, sym, suc, arith, subst, drop}
use Rattle.tk_meeting.proofs.Terms.{ltb-true, inl, inr, append_assoc, ap₂, slice_index_or, Err, true≢false, turn_count}
use Rattle.tk_meeting.proofs.Terms.{Shape, WordBook, Script, new_client, SayError, writing_before, Pairs, PacketView}
use Rattle.tk_meeting.proofs.Terms.{ActedMember, acts, behind, MemberState, new_member, Fault, is_client, unless_ended}
use Rattle.tk_meeting.proofs.Terms.{say_fault, HasWhatWasSaid, Deed, Ticks, Claims, Sends, Answers, Hidden, does, after_deeds}
use Rattle.tk_meeting.proofs.Terms.{lied, Says, GoesAhead, doer, deed_shown, member_does, said_more, said_after}
use Rattle.tk_meeting.proofs.Terms.{went_on, DoAlike, StandAlike, HoldsBlocks, Saying, changed, for_peer, frames_for}
use Rattle.tk_meeting.proofs.Terms.{Meeting, opening, stand, Stand}
use Rattle.tk_meeting.proofs.lying.Books.{IsOf, ShowAlike, LiedAlike}
use Rattle.tk_meeting.proofs.Canonical.{with_sayings}
use Rattle.tk_meeting.proofs.telling.Foreseeing.{ForeseesOf, Foresees}
use Rattle.tk_meeting.proofs.courses.Picks.{at-place, pick, itself}
use Rattle.tk_meeting.proofs.members.Packets.{AreToHost}
use Rattle.tk_meeting.proofs.shown.Steps.{EndsOrReadies, ReadiesFrom}
use Rattle.tk_meeting.proofs.lying.Growth.{foresees-deeds}
use Rattle.tk_meeting.proofs.lying.Outcomes.{does_writing, deed-readies, ready-same, doer-shown}
use Rattle.tk_meeting.proofs.members.Writing.{queue}
use Rattle.tk_meeting.proofs.lying.Speaks.{Speaks, Queued, queued, speaks-then}
use Rattle.tk_meeting.proofs.lying.Went.{stands-then, frames-then}

-- ---- results

stand-of : Stand → Result Stand Fault → Stand
stand-of other (Ok s) = s
stand-of other (Err fault) = other

fault-of : Fault → Result Stand Fault → Fault
fault-of other (Ok s) = other
fault-of other (Err fault) = fault

goes-on : Result Stand Fault → Bool
goes-on (Ok s) = true
goes-on (Err fault) = false

stands-same : (s t : Stand) → (let r : Result Stand Fault = Ok s in r ≡ Ok t) → s ≡ t
unfolding stand-of
stands-same s t same = ap (stand-of s) same

-- ---- what was said to others

said-other : (m : Meeting) (d : Deed) (c x : ℕ) → doer d ≡ c → (x == c) ≡ false → said_after m d x ≡ m.said x
said-other m (Says e log text) c x is other = by (say_fault m e log text)
  where
    y : Saying
    y = record { log = log; text = text }

    apart : (x == e) ≡ false
    apart = ap (λ (k : ℕ). x == k) is ∙ other

    by : (o : Option SayError) → said_more m e y o x ≡ m.said x
    by (Some error) = refl
    by None =
        λ i. cond (apart i)
        (changed (m.members e).written (m.said e (m.members e).written ++ y ∷ []) (m.said e)) (m.said x)
said-other m (Ticks e) c x is other = refl
said-other m (GoesAhead e turns) c x is other = refl
said-other m (Claims e count) c x is other = refl
said-other m (Sends e j frame) c x is other = refl
said-other m (Answers e table) c x is other = refl

first-speaks : (S : Script) (c : ℕ) → Speaks S c ((opening S).said c) ((opening S).members c)
unfolding writing_before with_sayings
first-speaks S c =
    record {
      shape = refl;
      number = refl;
      writing = refl;
      within = omega arith;
      later = λ k past. refl;
    }

-- a client that goes on by this, to which that was said
abbrev went_as : Meeting → ℕ → (ℕ → ℕ → List Saying) → ActedMember → Meeting
went_as m c said t =
    record m {
      members = changed c t.member m.members;
      said = said;
      told = changed c (m.told c ++ for_peer 0 t.packets) m.told;
      up = changed c (λ j. m.up c j ++ frames_for j t.packets) m.up;
    }

module _ (A B : Script) (h : Hidden) (a b : WordBook) (pairs others : Pairs)
    (show : ShowAlike A B h a b pairs others) (holds : HoldsBlocks A.shape h) where
  -- groups that are alike so far, and of which each client has to write what its script has
  pub record Goes (m n : Meeting) : Type 0 where
    pub speak : (c : ℕ) → c < A.shape.clients → Speaks A c (m.said c) (m.members c)
    pub other_speak : (c : ℕ) → c < A.shape.clients → Speaks B c (n.said c) (n.members c)
    pub alike : StandAlike A.shape h m n

  -- what is to hold of a group after a deed
  pub record Holds (S : Script) (book : WordBook) (reads : Pairs) (m : Meeting) : Type 0 where
    pub foresees : Foresees S m
    pub asked : (c : ℕ) → c < S.shape.clients → IsOf S.shape book reads c (m.members c).client.read

  others_in : (c : ℕ) → c < A.shape.clients → c < B.shape.clients
  others_in c low = subst (λ (k : Shape). c < k.clients) show.one_shape low

  -- ---- both go on

  module _ (m n : Meeting) (goes : Goes m n) (c : ℕ) (low : c < A.shape.clients)
      (said other_said : ℕ → ℕ → List Saying)
      (apart : (x : ℕ) → (x == c) ≡ false → said x ≡ m.said x)
      (other_apart : (x : ℕ) → (x == c) ≡ false → other_said x ≡ n.said x)
      (first second : MemberState) (same : stand first ≡ stand second) (ready : Speaks A c (said c) first)
      (other_ready : Speaks B c (other_said c) second) (told other_told : List PacketView)
      (host : AreToHost told)
      (other_host : AreToHost other_told) where
    abbrev turned : ActedMember
    turned = behind told (acts a first)

    abbrev other_turned : ActedMember
    other_turned = behind other_told (acts b second)

    both-go : Holds A a pairs (went_as m c said turned) → Holds B b others (went_as n c other_said other_turned) →
        Goes (went_as m c said turned) (went_as n c other_said other_turned)
    both-go holds_then other_holds =
        let own : changed c turned.member m.members c ≡ turned.member =
        λ i. cond (itself c i) turned.member (m.members c)
        in
        let other_own : changed c other_turned.member n.members c ≡ other_turned.member =
        λ i. cond (itself c i) other_turned.member (n.members c)
        in
        let foresees : ForeseesOf A c turned.member.written (said c) =
        subst (λ (x : MemberState). ForeseesOf A c x.written (said c)) own (holds_then.foresees.each c low)
        in
        let other_foresees : ForeseesOf B c other_turned.member.written (other_said c) =
        subst (λ (x : MemberState). ForeseesOf B c x.written (other_said c)) other_own
        (other_holds.foresees.each c (others_in c low))
        in
        let is : IsOf A.shape a pairs c turned.member.client.read =
        subst (λ (x : MemberState). IsOf A.shape a pairs c x.client.read) own (holds_then.asked c low)
        in
        let other_is : IsOf B.shape b others c other_turned.member.client.read =
        subst (λ (x : MemberState). IsOf B.shape b others c x.client.read) other_own
        (other_holds.asked c (others_in c low))
        in
        record {
          speak = λ x within.
              at-place (λ y k. Speaks A y (said y) (cond k turned.member (m.members y))) c x
              (speaks-then A a c low first (said c) ready foresees)
              (λ e. subst (λ (s : ℕ → List Saying). Speaks A x s (m.members x)) (sym (apart x e))
              (goes.speak x within));
          other_speak = λ x within.
              at-place (λ y k. Speaks B y (other_said y) (cond k other_turned.member (n.members y))) c x
              (speaks-then B b c (others_in c low) second (other_said c) other_ready other_foresees)
              (λ e. subst (λ (s : ℕ → List Saying). Speaks B x s (n.members x)) (sym (other_apart x e))
              (goes.other_speak x within));
          alike =
              record {
                stands = λ x within.
                    pick (λ k. stand (cond k turned.member (m.members x))
                    ≡ stand (cond k other_turned.member (n.members x))) (x == c)
                    (λ e. stands-then A B h a b pairs others show c low first second same (said c) (other_said c) ready
                    other_ready foresees other_foresees)
                    (λ e. goes.alike.stands x within);
                ended = λ x within. goes.alike.ended x within;
                sent = λ x j within first_j last_j differ.
                    pick (λ k. cond k (λ i. m.up c i ++ frames_for i turned.packets) (m.up x) j
                    ≡ cond k (λ i. n.up c i ++ frames_for i other_turned.packets) (n.up x) j) (x == c)
                    (λ e. ap₂ (λ (xs ys : List (List ℕ)). xs ++ ys) (goes.alike.sent c j low first_j last_j differ)
                    (frames-then A B h a b pairs others show c low first second same (said c) (other_said c) ready
                    other_ready foresees other_foresees told other_told host other_host j first_j last_j differ is
                    other_is))
                    (λ e. goes.alike.sent x j within first_j last_j differ);
              };
        }

  -- ---- both end

  both-end : (m n : Meeting) → Goes m n → (c e : ℕ) → c ≡ e → (fault other : Fault) → fault ≡ other →
      Goes (record m { ended = changed c (Some fault) m.ended }) (record n { ended = changed e (Some other) n.ended })
  both-end m n goes c e is fault other same =
      record {
        speak = goes.speak;
        other_speak = goes.other_speak;
        alike =
            record {
              stands = goes.alike.stands;
              ended = λ x within i. cond (x == is i) (Some (same i)) (goes.alike.ended x within i);
              sent = goes.alike.sent;
            };
      }

  -- ---- one deed of a client that goes on

  module _ (m n : Meeting) (goes : Goes m n) (d e : Deed) (low : doer d < A.shape.clients) (is : doer d ≡ doer e)
    where
      ready_from : (S : Script) (book : WordBook) (x : Meeting) (f : Deed) (k : ℕ) → Speaks S k (x.said k) (x.members k) →
          doer f ≡ k → (result : Result ActedMember Fault) (ready : Result Stand Fault) →
          (r : ReadiesFrom book (does_writing (x.members k) f) (x.members k) result ready) →
          Speaks S k (said_after x f k) r.first
      ready_from S book x f k speak of result ready r =
          let q : Queued S x k speak (said_after x f k) (does_writing (x.members k) f) = queued S x k speak f of in
          record {
            shape = r.shape_is ∙ speak.shape;
            number = r.number_is ∙ speak.number;
            writing =
                r.writing_is ∙ q.writing_is
                ∙ ap (λ (g : ℕ). queue S k g (said_after x f k g)) (sym r.written_is);
            within = subst (λ (g : ℕ). g ≤ turn_count S.shape) (sym r.written_is) speak.within;
            later = λ g past. q.later g (subst (λ (y : ℕ). y < g) r.written_is past);
          }

      went-alike : (r s : Result ActedMember Fault) (x y : Result Stand Fault) →
          EndsOrReadies a (does_writing (m.members (doer d)) d) (m.members (doer d)) r x →
          EndsOrReadies b (does_writing (n.members (doer d)) e) (n.members (doer d)) s y → x ≡ y →
          Holds A a pairs (went_on m d r) → Holds B b others (went_on n e s) →
          Goes (went_on m d r) (went_on n e s)
      unfolding goes-on fault-of
      went-alike r s x y (inl one) (inl two) same holds_then other_holds =
          let faults : one.fault ≡ two.fault =
          ap (fault-of one.fault) (sym one.ready_is ∙ same ∙ two.ready_is)
          in
          subst (λ (k : Result ActedMember Fault). Goes (went_on m d k) (went_on n e s)) (sym one.is)
          (subst (λ (k : Result ActedMember Fault). Goes (went_on m d (Err one.fault)) (went_on n e k)) (sym two.is)
          (both-end m n goes (doer d) (doer e) is one.fault two.fault faults))
      went-alike r s x y (inl one) (inr two) same holds_then other_holds =
          absurd (true≢false (sym (ap goes-on (sym one.ready_is ∙ same ∙ two.stands))))
      went-alike r s x y (inr one) (inl two) same holds_then other_holds =
          absurd (true≢false (ap goes-on (sym one.stands ∙ same ∙ two.ready_is)))
      went-alike r s x y (inr one) (inr two) same holds_then other_holds =
          let k = doer d in
          let stands : stand one.first ≡ stand two.first =
          stands-same (stand one.first) (stand two.first) (sym one.stands ∙ same ∙ two.stands)
          in
          let first : ActedMember = behind one.told (acts a one.first) in
          let second : ActedMember = behind two.told (acts b two.first) in
          let there : went_on n e s ≡ went_as n k (said_after n e) second =
          ap (went_on n e) two.is ∙ ap (λ (i : ℕ). went_as n i (said_after n e) second) (sym is)
          in
          let went : Goes (went_as m k (said_after m d) first) (went_as n k (said_after n e) second) =
          both-go m n goes k low (said_after m d) (said_after n e)
          (λ z other. said-other m d k z refl other) (λ z other. said-other n e k z (sym is) other) one.first two.first
          stands (ready_from A a m d k (goes.speak k low) refl r x one)
          (ready_from B b n e k (goes.other_speak k low) (sym is) s y two) one.told two.told one.to_host two.to_host
          (subst (λ (i : Result ActedMember Fault). Holds A a pairs (went_on m d i)) one.is holds_then)
          (subst (Holds B b others) there other_holds)
          in
          subst (λ (i : Result ActedMember Fault). Goes (went_on m d i) (went_on n e s)) (sym one.is)
          (subst (Goes (went_as m k (said_after m d) first)) (sym there) went)

  does-is : (S : Script) (book : WordBook) (x : Meeting) (f : Deed) (k : ℕ) → doer f ≡ k → (t : Bool) →
      is_client S.shape k ≡ t → (o : Option Fault) → x.ended k ≡ o →
      does S.shape h book x f
      ≡ cond t (unless_ended o x (went_on x f (member_does h book (x.members k) f))) x
  unfolding does
  does-is S book x f k is t client o ended =
      (λ i. cond (is_client S.shape (is i))
      (unless_ended (x.ended (is i)) x (went_on x f (member_does h book (x.members (is i)) f))) x)
      ∙ ap₂ (λ (t : Bool) (o : Option Fault).
      cond t (unless_ended o x (went_on x f (member_does h book (x.members k) f))) x) client ended

  does-alike : (m n : Meeting) → Goes m n → (d e : Deed) → deed_shown d ≡ deed_shown e →
      Holds A a pairs (does A.shape h a m d) → Holds B b others (does B.shape h b n e) →
      Goes (does A.shape h a m d) (does B.shape h b n e)
  does-alike m n goes d e shown holds_then other_holds =
      either (is_client A.shape (doer d)) refl (m.ended (doer d)) refl
    where
      is : doer d ≡ doer e
      is = sym (doer-shown d) ∙ ap doer shown ∙ doer-shown e

      after : Bool → Option Fault → Meeting
      after t o = cond t (unless_ended o m (went_on m d (member_does h a (m.members (doer d)) d))) m

      other_after : Bool → Option Fault → Meeting
      other_after t o = cond t (unless_ended o n (went_on n e (member_does h b (n.members (doer d)) e))) n

      both : (o : Option Fault) → doer d < A.shape.clients → Holds A a pairs (after true o) →
          Holds B b others (other_after true o) → Goes (after true o) (other_after true o)
      both None low one two =
          let c = doer d in
          let same = goes.alike.stands c low in
          let shape : A.shape ≡ (n.members c).client.shape = show.one_shape ∙ sym (goes.other_speak c low).shape in
          went-alike m n goes d e low is (member_does h a (m.members c) d) (member_does h b (n.members c) e) _ _
          (deed-readies h a (m.members c) d) (deed-readies h b (n.members c) e)
          (ready-same h a b (m.members c) (n.members c) d e same
          (subst (λ (k : Shape). HoldsBlocks k h) shape holds) shown) one two
      both (Some fault) low one two = goes

      brought : (x y : Meeting) → does A.shape h a m d ≡ x → does B.shape h b n e ≡ y →
          (Holds A a pairs x → Holds B b others y → Goes x y) → Goes (does A.shape h a m d) (does B.shape h b n e)
      brought x y one two then =
          subst (λ (k : Meeting). Goes k (does B.shape h b n e)) (sym one)
          (subst (Goes x) (sym two)
          (then (subst (Holds A a pairs) one holds_then) (subst (Holds B b others) two other_holds)))

      other_client : (t : Bool) → is_client A.shape (doer d) ≡ t → is_client B.shape (doer d) ≡ t
      other_client t client = ap (λ (k : Shape). is_client k (doer d)) (sym show.one_shape) ∙ client

      either : (t : Bool) → is_client A.shape (doer d) ≡ t → (o : Option Fault) → m.ended (doer d) ≡ o →
          Goes (does A.shape h a m d) (does B.shape h b n e)
      either true client o ended =
          let c = doer d in
          let low : c < A.shape.clients = ltb-true c A.shape.clients client in
          brought (after true o) (other_after true o) (does-is A a m d c refl true client o ended)
          (does-is B b n e c (sym is) true (other_client true client) o (sym (goes.alike.ended c low) ∙ ended))
          (both o low)
      either false client o ended =
          let c = doer d in
          brought m n (does-is A a m d c refl false client o ended)
          (does-is B b n e c (sym is) false (other_client false client) (n.ended c) refl) (λ one two. goes)

  -- ---- deed after deed

  -- in a run from here on
  abbrev Lasts : Script → WordBook → Pairs → Meeting → List Deed → Type 0
  Lasts S book reads x deeds =
      (front back : List Deed) → deeds ≡ front ++ back → Holds S book reads (after_deeds S.shape h book x front)

  deeds-alike : (ds es : List Deed) → DoAlike ds es → (m n : Meeting) → Goes m n → Lasts A a pairs m ds →
      Lasts B b others n es → Goes (after_deeds A.shape h a m ds) (after_deeds B.shape h b n es)
  unfolding after_deeds
  deeds-alike [] [] same m n goes lasts other_lasts = goes
  deeds-alike [] (e ∷ es) same m n goes lasts other_lasts =
      let none : 0 ≡ suc (length (map deed_shown es)) = ap length same in
      absurd (omega (arith, none))
  deeds-alike (d ∷ ds) [] same m n goes lasts other_lasts =
      let none : suc (length (map deed_shown ds)) ≡ 0 = ap length same in
      absurd (omega (arith, none))
  deeds-alike (d ∷ ds) (e ∷ es) same m n goes lasts other_lasts =
      let first : deed_shown d ≡ deed_shown e = ap (λ (xs : List Deed). slice_index_or xs 0 (Ticks 0)) same in
      let later : DoAlike ds es = ap (drop 1) same in
      let next = does-alike m n goes d e first (lasts (d ∷ []) ds refl) (other_lasts (e ∷ []) es refl) in
      deeds-alike ds es later (does A.shape h a m d) (does B.shape h b n e) next
      (λ front back is. lasts (d ∷ front) back (ap (λ (xs : List Deed). d ∷ xs) is))
      (λ front back is. other_lasts (e ∷ front) back (ap (λ (xs : List Deed). e ∷ xs) is))

  opens : Goes (opening A) (opening B)
  opens =
      record {
        speak = λ c low. first-speaks A c;
        other_speak = λ c low. first-speaks B c;
        alike =
            record {
              stands = λ c low. ap (λ (k : Shape). stand (new_member (new_client k c [] []))) show.one_shape;
              ended = λ c low. refl;
              sent = λ c j low first last differ. refl;
            };
      }

lasts-from : (S : Script) (h : Hidden) (book : WordBook) (deeds more front back : List Deed) →
    HasWhatWasSaid S (lied S h book (deeds ++ more)) → deeds ≡ front ++ back → Foresees S (lied S h book front)
lasts-from S h book deeds more front back tells is =
    let whole : deeds ++ more ≡ front ++ (back ++ more) =
    ap (λ (xs : List Deed). xs ++ more) is ∙ append_assoc front back more
    in
    foresees-deeds S h book front (back ++ more)
    (subst (λ (xs : List Deed). HasWhatWasSaid S (lied S h book xs)) whole tells)

pub lied-alike : LiedAlike
lied-alike A B h a b pairs others show holds deeds more other_deeds rest asked other_asked tells other_tells same =
    (deeds-alike A B h a b pairs others show holds deeds other_deeds same (opening A) (opening B)
    (opens A B h a b pairs others show holds)
    (λ front back is. record {
      foresees = lasts-from A h a deeds more front back tells is;
      asked = asked front back is;
    })
    (λ front back is. record {
      foresees = lasts-from B h b other_deeds rest front back other_tells is;
      asked = other_asked front back is;
    })).alike
