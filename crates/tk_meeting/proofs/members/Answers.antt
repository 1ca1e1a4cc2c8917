-- What the replies of all servers to a client's read give is what is looked up for its target.
use Rattle.tk_meeting.proofs.Terms.{◌≡◌, ℕ, ◌<◌, List, [], ◌∷◌, length, map, ◌+◌, cond, ◌++◌, Option, Some, None, ◌∙◌}
use Rattle.tk_meeting.proofs.Terms.{refl, ap, sym, arith, eq-eqb, ap₂, length-append, range_with_len, AllByRecursion}
use Rattle.tk_meeting.proofs.Terms.{option_or, option_map, chosen_sum, turn_count, width, reply_len, Shape}
use Rattle.tk_meeting.proofs.Terms.{length-chosen_sum, WordBook, words_of, IsBook, fresh_vectors, asked_passes}
use Rattle.tk_meeting.proofs.Terms.{first_fault, reply_checks, Record, IsRead, IsReply, reply_frame, ReadFrame}
use Rattle.tk_meeting.proofs.Terms.{ReplyFrame, reply_to, layout, serial-IsLegal, phases_over, epoch_at, Script}
use Rattle.tk_meeting.proofs.Terms.{frames_in-spelled, asked-in_range, pair-in_range, fresh-whole, frame_with, pair_for}
use Rattle.tk_meeting.proofs.Terms.{asked, AreWhole, reader_after, at_epoch, after_read, answer_in, frames_in}
use Rattle.tk_meeting.proofs.Terms.{first_joined, second_joined, refusal, first_unread, first_other, other_name, Target}
use Rattle.tk_meeting.proofs.Terms.{epochs-ordered, epochs-storable, blocks-whole, map-map, before-next, epoch-most}
use Rattle.tk_meeting.proofs.Terms.{map_same, text-taken, asked-read_at, read_at, reader_before, target_at, read_over}
use Rattle.tk_meeting.proofs.Terms.{answered, reply_told}
use Rattle.tk_table.specs.Ordered.{AreOrdered}
use Rattle.tk_table.specs.Stands.{IsPair}
use Rattle.tk_bucket.specs.Bytes.{blocks_of}
use Rattle.tk_table.specs.Laws.{IsStorable}
use Rattle.tk_meeting.proofs.Canonical.{serial, read_from, reply_in}
use Rattle.tk_meeting.proofs.Standing.{read_of}
use Rattle.tk_meeting.proofs.members.Asking.{serial-epoch}
use Rattle.tk_client.specs.declared.take_error.TakeError.TheVariants as fault

-- so the answer to a read is what is looked up for its target
pub answer-taken : (shape : Shape) (b : WordBook) (R : List Record) (g c e : ℕ) (t : Option Target)
    (replies : List (List ℕ)) → let w = words_of shape b in
    AreOrdered shape R → AllByRecursion (IsStorable shape) R →
    AreWhole shape (fresh_vectors shape b g c) → IsPair shape (pair_for w g c t) →
    AllByRecursion (IsReply shape) (map (reply_to shape R) (asked shape b g c e t)) →
    replies ≡ map reply_frame (map (reply_to shape R) (asked shape b g c e t)) →
    answer_in shape w (frames_in shape replies) t ≡ answered shape w R t
answer-taken shape b R g c e None replies ordered storable whole within in_range are = refl
answer-taken shape b R g c e (Some t) replies ordered storable whole within in_range are =
    let rs = map (reply_to shape R) (asked shape b g c e (Some t)) in
    ap (λ (fs : List ReplyFrame). answer_in shape (words_of shape b) fs (Some t))
    (ap (frames_in shape) are ∙ frames_in-spelled shape rs in_range)
    ∙ text-taken shape b R g c e t (asked shape b g c e (Some t)) rs
    (first_joined shape rs) (second_joined shape rs) _ ordered storable whole within refl refl refl
    refl refl

-- ---- replies in range

sum-long : (shape : Shape) (R : List Record) (vector : List ℕ) → AreOrdered shape R →
    AllByRecursion (IsStorable shape) R →
    length (chosen_sum (width shape) (blocks_of (layout shape R)) vector) ≡ width shape
sum-long shape R vector ordered storable =
    length-chosen_sum (width shape) (blocks_of (layout shape R)) vector (blocks-whole shape R ordered storable).sized

-- a reply to a read in range is in range
reply-in_range : (shape : Shape) (R : List Record) (r : ReadFrame) → AreOrdered shape R →
    AllByRecursion (IsStorable shape) R → IsRead shape r → IsReply shape (reply_to shape R r)
reply-in_range shape R r ordered storable in_range =
    record {
      client = in_range.client;
      turn = in_range.turn;
      epoch = in_range.epoch;
      first_len = sum-long shape R r.first ordered storable;
      second_len = sum-long shape R r.second ordered storable;
    }

each-reply : (shape : Shape) (R : List Record) (reads : List ReadFrame) → AreOrdered shape R →
    AllByRecursion (IsStorable shape) R → AllByRecursion (IsRead shape) reads →
    AllByRecursion (IsReply shape) (map (reply_to shape R) reads)
each-reply shape R [] ordered storable all = tt
each-reply shape R (r ∷ reads) ordered storable all = (
  reply-in_range shape R r ordered storable all.0,
  each-reply shape R reads ordered storable all.1,
)

-- replies in range are read
none-unread : (shape : Shape) (n : ℕ) (rs : List ReplyFrame) → AllByRecursion (IsReply shape) rs →
    first_unread shape n (map reply_frame rs) ≡ None
none-unread shape n [] all = refl
none-unread shape n (r ∷ rs) all =
    let fits = all.0 in
    let long : 14 + length (r.first ++ r.second) ≡ reply_len shape =
    omega (arith, length-append r.first r.second, fits.first_len, fits.second_len)
    in
    let passes : first_fault (reply_checks shape (reply_frame r)) ≡ None =
    asked_passes shape (reply_len shape) 3 r.client r.turn r.epoch (r.first ++ r.second)
    (record { client_fits = fits.client; turn_fits = fits.turn; epoch_fits = fits.epoch }) long
    in
    ap (λ o. option_or (option_map (fault.Frame n) o) (first_unread shape (n + 1) (map reply_frame rs)))
    passes
    ∙ none-unread shape (n + 1) rs all.1

-- ---- in the serial run

-- the replies of all servers to client c's read of turn g
abbrev pub replies_of : Script → WordBook → ℕ → ℕ → List (List ℕ)
replies_of S b c g = map (λ j. reply_in S b c j g) (range_with_len 1 S.shape.servers)

-- a client's read of a turn
pub record IsTurnOf (S : Script) (b : WordBook) (c g : ℕ) : Type 0 where
  pub serves : IsBook S.shape b
  pub client_in : c < S.shape.clients
  pub turn_in : g < turn_count S.shape

module _ (S : Script) (b : WordBook) (c g : ℕ) (turn : IsTurnOf S b c g) where
  abbrev over : List Record
  over = read_over S (words_of S.shape b) (serial S) g c

  abbrev aim : Option Target
  aim = target_at S (words_of S.shape b) (serial S) g c

  abbrev reads : List ReadFrame
  reads = asked S.shape b g c (epoch_at (serial S) g c) aim

  one-reply : (j : ℕ) → reply_in S b c j g ≡ reply_frame (reply_to S.shape over (read_from S b c j g))
  unfolding reply_told read_at frame_with
  one-reply j = refl

  replies-are : replies_of S b c g ≡ map reply_frame (map (reply_to S.shape over) reads)
  replies-are =
      let js = range_with_len 1 S.shape.servers in
      let reply = reply_to S.shape over in
      map_same (λ j. reply_in S b c j g) (λ j. reply_frame (reply (read_from S b c j g))) one-reply js
      ∙ sym (map-map reply_frame (λ j. reply (read_from S b c j g)) js)
      ∙ ap (map reply_frame) (sym (map-map reply (λ j. read_from S b c j g) js))
      ∙ ap (λ (rs : List ReadFrame). map reply_frame (map reply rs)) (sym (asked-read_at S b (serial S) g c))

  all-ordered : AreOrdered S.shape over
  all-ordered = epochs-ordered S b (serial S) (epoch_at (serial S) g c)

  all-storable : AllByRecursion (IsStorable S.shape) over
  all-storable =
      epochs-storable S b (serial S) (epoch_at (serial S) g c) turn.serves (serial-IsLegal S.shape)

  replies-fit : AllByRecursion (IsReply S.shape) (map (reply_to S.shape over) reads)
  replies-fit =
      let most = epoch-most S (serial S) g c (serial-IsLegal S.shape) turn.turn_in turn.client_in in
      each-reply S.shape over reads all-ordered all-storable
      (asked-in_range S.shape b g c (epoch_at (serial S) g c) aim turn.serves turn.turn_in turn.client_in
      most)

  answer-is : answer_in S.shape (words_of S.shape b) (frames_in S.shape (replies_of S b c g)) aim
      ≡ answered S.shape (words_of S.shape b) over aim
  answer-is =
      answer-taken S.shape b over g c (epoch_at (serial S) g c) aim (replies_of S b c g) all-ordered
      all-storable (fresh-whole S.shape b g c turn.serves turn.turn_in turn.client_in)
      (pair-in_range S.shape b g c aim) replies-fit replies-are

  -- what the client knows then
  pub reader-next : let w = words_of S.shape b in
      reader_after S.shape w (replies_of S b c g) (reader_before S w (serial S) c g)
      (Some (read_of S b c g))
      ≡ reader_before S w (serial S) c (g + 1)
  reader-next =
      let w = words_of S.shape b in
      let r = reader_before S w (serial S) c g in
      ap (λ (o : Option (List ℕ)). after_read S.shape (at_epoch (phases_over S.shape g) r) aim o) answer-is
      ∙ ap (λ n. after_read S.shape (at_epoch n r) aim (answered S.shape w over aim))
      (sym (serial-epoch S g c turn.turn_in turn.client_in))
      ∙ sym (before-next S w (serial S) c g)

  -- ---- none of the replies is refused

  none-other : (n : ℕ) (js : List ℕ) →
      first_other c g (epoch_at (serial S) g c) n
      (map (λ j. reply_to S.shape over (read_from S b c j g)) js) ≡ None
  unfolding read_at frame_with
  none-other n [] = refl
  none-other n (j ∷ js) =
      let e = epoch_at (serial S) g c in
      let rest =
      first_other c g e (n + 1) (map (λ i. reply_to S.shape over (read_from S b c i g)) js)
      in
      let same = λ (x : ℕ). eq-eqb x x refl in
      let named : other_name c g e n (reply_to S.shape over (read_from S b c j g)) ≡ None =
      ap₂ option_or (ap (λ x. cond x None (Some (fault.Named n c c))) (same c))
      (ap₂ option_or (ap (λ x. cond x None (Some (fault.Named n g g))) (same g))
      (ap (λ x. cond x None (Some (fault.Named n e e))) (same e)))
      in
      ap (λ o. option_or o rest) named ∙ none-other (n + 1) js

  pub none-refused : refusal S.shape c g (phases_over S.shape g) (replies_of S b c g) ≡ None
  none-refused =
      let rs = map (reply_to S.shape over) reads in
      let frames : frames_in S.shape (replies_of S b c g) ≡ rs =
      ap (frames_in S.shape) replies-are ∙ frames_in-spelled S.shape rs replies-fit
      in
      let listed : rs ≡ map (λ j. reply_to S.shape over (read_from S b c j g))
      (range_with_len 1 S.shape.servers) =
      ap (map (reply_to S.shape over)) (asked-read_at S b (serial S) g c)
      ∙ map-map (reply_to S.shape over) (λ j. read_from S b c j g) (range_with_len 1 S.shape.servers)
      in
      ap₂ option_or
      (ap (first_unread S.shape 1) replies-are ∙ none-unread S.shape 1 rs replies-fit)
      (ap₂ (λ e (xs : List ReplyFrame). first_other c g e 1 xs)
      (sym (serial-epoch S g c turn.turn_in turn.client_in)) (frames ∙ listed)
      ∙ none-other 1 (range_with_len 1 S.shape.servers))
