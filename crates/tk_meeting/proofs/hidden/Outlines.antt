-- The kinds and lengths of frames, which the shape gives.
use Rattle.tk_meeting.proofs.Terms.{◌≡◌, ℕ, ◌≤◌, ◌<◌, List, [], length, ◌+◌, ◌==◌, cond, Bool, true, false, ◌∙◌, refl}
use Rattle.tk_meeting.proofs.Terms.{ap, sym, arith, subst, length-append, length-map-range_with_len, nat_lt, ◌&&◌}
use Rattle.tk_meeting.proofs.Terms.{slice_index, chosen_sum, turn_count, width, reply_len, write_len, Shape}
use Rattle.tk_meeting.proofs.Terms.{length-chosen_sum, WordBook, IsBook, shows_vectors, length-write_frame}
use Rattle.tk_meeting.proofs.Terms.{length-read_frame, read_len_of, before, write_frame, read_frame, be32, read_kind}
use Rattle.tk_meeting.proofs.Terms.{Placed, ReadFrame, Plain, Seeded, Shown, layout, blocks_of, serial-IsLegal, Script}
use Rattle.tk_meeting.proofs.Terms.{frame_with, seeds_told, epochs-ordered, epochs-storable, blocks-whole, read_at}
use Rattle.tk_meeting.proofs.Terms.{marks_len, mark_bytes, mark_byte, reply_told, epoch_told, epoch_bytes, outline}
use Rattle.tk_kernel.specs.Pieces.{AllSized}
use Rattle.tk_replica.specs.Epochs.{filter_of}
use Rattle.tk_meeting.proofs.servers.InRange.{read-in_range, write-in_range}
use Rattle.tk_meeting.proofs.Canonical.{serial, whole, read_from, write_in}

-- ---- replies

-- each block of an epoch has the width of the shape's blocks
pub blocks-sized : (S : Script) (b : WordBook) (e : ℕ) → IsBook S.shape b →
    AllSized (width S.shape) (blocks_of (layout S.shape (before (whole S b) e)))
blocks-sized S b e served =
    (blocks-whole S.shape (before (whole S b) e) (epochs-ordered S b (serial S) e)
    (epochs-storable S b (serial S) e served (serial-IsLegal S.shape))).sized

-- the sum of the blocks that a vector chooses has it too
sum-long : (S : Script) (b : WordBook) (e : ℕ) (vector : List ℕ) → IsBook S.shape b →
    length (chosen_sum (width S.shape) (blocks_of (layout S.shape (before (whole S b) e))) vector)
    ≡ width S.shape
sum-long S b e vector served =
    length-chosen_sum (width S.shape) (blocks_of (layout S.shape (before (whole S b) e))) vector
    (blocks-sized S b e served)

-- a reply of a server to any read
pub length-reply : (S : Script) (b : WordBook) (r : ReadFrame) → IsBook S.shape b →
    length (reply_told S.shape (whole S b) r) ≡ reply_len S.shape
unfolding reply_told
length-reply S b r served =
    let blocks = blocks_of (layout S.shape (before (whole S b) r.epoch)) in
    let first = chosen_sum (width S.shape) blocks r.first in
    let second = chosen_sum (width S.shape) blocks r.second in
    omega (
      arith,
      length-append first second,
      sum-long S b r.epoch r.first served,
      sum-long S b r.epoch r.second served,
    )

-- the two parts of an outline
outline-is : (a b : List ℕ) → slice_index a 0 ≡ slice_index b 0 → length a ≡ length b →
    outline a ≡ outline b
outline-is a b kinds lengths = λ i. (kinds i, lengths i)

kind-reply : (S : Script) (b : WordBook) (r : ReadFrame) →
    slice_index (reply_told S.shape (whole S b) r) 0 ≡ 3
unfolding reply_told
kind-reply S b r = refl

pub same-reply : (A B : Script) (b d : WordBook) (r s : ReadFrame) → A.shape ≡ B.shape →
    IsBook A.shape b → IsBook B.shape d →
    outline (reply_told A.shape (whole A b) r) ≡ outline (reply_told B.shape (whole B d) s)
same-reply A B b d r s shapes served serves =
    outline-is (reply_told A.shape (whole A b) r) (reply_told B.shape (whole B d) s)
    (kind-reply A b r ∙ sym (kind-reply B d s))
    (length-reply A b r served ∙ ap reply_len shapes ∙ sym (length-reply B d s serves))

-- ---- epochs

length-epoch : (shape : Shape) (E : List Placed) (e : ℕ) →
    length (epoch_bytes shape E e) ≡ 6 + marks_len shape
unfolding epoch_bytes mark_bytes
length-epoch shape E e =
    let marks = (epoch_told shape E e).marks in
    let long : length marks ≡ marks_len shape =
    length-map-range_with_len (mark_byte (filter_of shape (before E e))) 0 (marks_len shape)
    in
    omega (arith, length-append (be32 e) marks, long)

pub same-epoch : (shape : Shape) (E F : List Placed) (e : ℕ) →
    outline (epoch_bytes shape E e) ≡ outline (epoch_bytes shape F e)
unfolding epoch_bytes
same-epoch shape E F e =
    outline-is (epoch_bytes shape E e) (epoch_bytes shape F e) refl
    (length-epoch shape E e ∙ sym (length-epoch shape F e))

-- ---- writes

pub same-write_outline : (A B : Script) (b d : WordBook) (c g : ℕ) → A.shape ≡ B.shape →
    IsBook A.shape b → IsBook B.shape d → c < A.shape.clients → g < turn_count A.shape →
    outline (write_frame (write_in A b c g)) ≡ outline (write_frame (write_in B d c g))
same-write_outline A B b d c g shapes served serves client turn =
    outline-is (write_frame (write_in A b c g)) (write_frame (write_in B d c g)) refl
    (length-write_frame A.shape (write_in A b c g) (write-in_range A b c g served client turn)
    ∙ ap write_len shapes
    ∙ sym (length-write_frame B.shape (write_in B d c g) (write-in_range B d c g serves
    (subst (λ (shape : Shape). c < shape.clients) shapes client)
    (subst (λ (shape : Shape). g < turn_count shape) shapes turn))))

-- ---- reads

-- the kind of a server's reads
abbrev kind_to : Shape → Bool → ℕ → ℕ
kind_to shape shows j = read_kind (seeds_told shape shows j [])

kind-told : (shows told : Bool) (s t : List ℕ) →
    read_kind (cond told (cond shows (Shown s) (Seeded s)) Plain)
    ≡ read_kind (cond told (cond shows (Shown t) (Seeded t)) Plain)
kind-told true true s t = refl
kind-told false true s t = refl
kind-told shows false s t = refl

kind-read : (S : Script) (b : WordBook) (c j g : ℕ) →
    read_kind (read_from S b c j g).seeds ≡ kind_to S.shape (shows_vectors b) j
unfolding read_at frame_with
kind-read S b c j g =
    kind-told (shows_vectors b) (nat_lt j S.shape.servers && S.shape.format == 2) _ []

length-read : (S : Script) (b : WordBook) (c j g : ℕ) → IsBook S.shape b → 1 ≤ j →
    j ≤ S.shape.servers → g < turn_count S.shape → c < S.shape.clients →
    length (read_frame (read_from S b c j g))
    ≡ read_len_of S.shape (kind_to S.shape (shows_vectors b) j)
length-read S b c j g served low high turn client =
    length-read_frame S.shape (read_from S b c j g) (read-in_range S b c j g served client low high turn)
    ∙ ap (read_len_of S.shape) (kind-read S b c j g)

-- the reads of two books are of the same kinds
abbrev pub KindsAgree : Shape → WordBook → WordBook → Type 0
KindsAgree shape b d = (j : ℕ) → kind_to shape (shows_vectors b) j ≡ kind_to shape (shows_vectors d) j

-- so they are where both books show their vectors or neither does, and in format 1
pub kinds-shown : (shape : Shape) (b d : WordBook) → shows_vectors b ≡ shows_vectors d → KindsAgree shape b d
kinds-shown shape b d shows j = ap (λ (shown : Bool). kind_to shape shown j) shows

and-false : (x : Bool) → (x && false) ≡ false
and-false true = refl
and-false false = refl

kinds-plain : (shape : Shape) (b : WordBook) → shape.format ≡ 1 → (j : ℕ) →
    kind_to shape (shows_vectors b) j ≡ 2
kinds-plain shape b one j =
    let shows = shows_vectors b in
    let kind = λ (told : Bool). read_kind (cond told (cond shows (Shown []) (Seeded [])) Plain) in
    ap (λ (format : ℕ). kind (nat_lt j shape.servers && format == 2)) one
    ∙ ap kind (and-false (nat_lt j shape.servers))

pub kinds-in_format_1 : (shape : Shape) (b d : WordBook) → shape.format ≡ 1 → KindsAgree shape b d
kinds-in_format_1 shape b d one j = kinds-plain shape b one j ∙ sym (kinds-plain shape d one j)

module _ (A B : Script) (b d : WordBook) (shapes : A.shape ≡ B.shape)
    (kinds_agree : KindsAgree A.shape b d) (served : IsBook A.shape b) (serves : IsBook B.shape d) where
  same-kind : (j : ℕ) → kind_to A.shape (shows_vectors b) j ≡ kind_to B.shape (shows_vectors d) j
  same-kind j = kinds_agree j ∙ ap (λ (shape : Shape). kind_to shape (shows_vectors d) j) shapes

  pub same-read_outline : (c j g : ℕ) → 1 ≤ j → j ≤ A.shape.servers → g < turn_count A.shape →
      c < A.shape.clients →
      outline (read_frame (read_from A b c j g)) ≡ outline (read_frame (read_from B d c j g))
  same-read_outline c j g low high turn client =
      let kinds = same-kind j in
      outline-is (read_frame (read_from A b c j g)) (read_frame (read_from B d c j g))
      (kind-read A b c j g ∙ kinds ∙ sym (kind-read B d c j g))
      (length-read A b c j g served low high turn client
      ∙ (λ i. read_len_of (shapes i) (kinds i))
      ∙ sym (length-read B d c j g serves low
      (subst (λ (shape : Shape). j ≤ shape.servers) shapes high)
      (subst (λ (shape : Shape). g < turn_count shape) shapes turn)
      (subst (λ (shape : Shape). c < shape.clients) shapes client)))
