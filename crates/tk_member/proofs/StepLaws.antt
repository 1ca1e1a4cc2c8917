-- With which faults a packet ends a member.
use Rattle.std.proofs.Common.{◌≡◌, ◌∙◌, ℕ, ◌+◌, ◌-◌, ◌<◌, ◌≤◌, Bool, true, false, cond}
use Rattle.std.proofs.Common.{List, [], ◌∷◌, ◌++◌, length, drop}
use Rattle.std.specs.Prelude.{Option, Some, None, Result, Ok, Err, nat_le, nat_lt, ◌==◌, ◌&&◌, ◌||◌}
use Rattle.std.specs.Prelude.{slice_index, slice_index_or, slice_set}
use Rattle.std.specs.Option.{is_none, is_some}
use Rattle.std.proofs.lemmas.Bool.{cond-true, cond-false, eq-eqb, ne_eqb, le-leb, lt-leb}
use Rattle.tk_frames.specs.Lists.{first_some}
use Rattle.tk_shape.specs.declared.shape.Shape.{Shape}
use Rattle.tk_words.specs.Words.{WordBook}
use Rattle.tk_client.specs.declared.say_error.SayError.{SayError}
use Rattle.tk_client.specs.declared.take_error.TakeError.{TakeError}
use Rattle.tk_client.specs.Saying.{fault_of}
use Rattle.tk_client.specs.Client.{refusal_in}
use Rattle.tk_packets.specs.Packets.{PacketView}
use Rattle.tk_member.specs.declared.fault.Fault.{Fault}
use Rattle.tk_member.specs.declared.fault.Fault.TheVariants.{Memory, Read, Write, Cut, Long, Setup}
use Rattle.tk_member.specs.declared.fault.Fault.TheVariants.{Peer, Differ, Refused, Older}
use Rattle.tk_member.specs.declared.word.HostWord.{HostWord}
use Rattle.tk_member.specs.declared.word.HostWord.TheVariants.{Say, Tick, Ahead, Has}
use Rattle.tk_member.specs.Words.{word_in}
use Rattle.tk_member.specs.Epochs.{ToldMarks, told_by, told_behind, agrees, is_epoch_frame, with_epoch}
use Rattle.tk_member.specs.Members.{MemberState}
use Rattle.tk_member.specs.Acting.{ActedMember}
use Rattle.tk_member.specs.Steps.{tells_and_acts, said, heard, all_of, settled, settled_by, with_reply, replied}
use Rattle.tk_member.specs.Steps.{told_epoch, served, step}

abbrev pub IsOfPacket : Fault → Type 0
IsOfPacket Memory = ⊥
IsOfPacket Read = ⊥
IsOfPacket Write = ⊥
IsOfPacket Cut = ⊥
IsOfPacket Long = ⊥
IsOfPacket Setup = ⊥
IsOfPacket Peer = Unit {0}
IsOfPacket Differ = Unit {0}
IsOfPacket Refused = Unit {0}
IsOfPacket Older = Unit {0}

abbrev pub EndsByPacket : {X : Type 0} → Result X Fault → Type 0
EndsByPacket (Ok x) = Unit {0}
EndsByPacket (Err e) = IsOfPacket e

either : {X : Type 0} (b : Bool) (x y : Result X Fault) → EndsByPacket x → EndsByPacket y →
    EndsByPacket (cond b x y)
either true x y one other = one
either false x y one other = other

epoch-ends : (shape : Shape) (told : List ToldMarks) (j : ℕ) (frame : List ℕ) →
    EndsByPacket (with_epoch shape told j frame)
epoch-ends shape told j frame =
    let before = told_by told j in
    let n = length before in
    let marks = drop 6 frame in
    let next = slice_set told (j - 1) (before ++ marks ∷ []) in
    let same = agrees (first_some (told_behind n) told) marks in
    either {X = List ToldMarks} (nat_lt n shape.phases && is_epoch_frame shape (n + 1) frame)
    (cond same (Ok next) (Err Differ)) (Err Peer)
    (either {X = List ToldMarks} same (Ok next) (Err Differ) (tt {0}) (tt {0})) (tt {0})

told-ends : (b : WordBook) (m : MemberState) (r : Result (List ToldMarks) Fault) → EndsByPacket r →
    EndsByPacket (told_epoch b m r)
told-ends b m (Ok told) ends = tt
told-ends b m (Err e) ends = ends

said-ends : (b : WordBook) (m : MemberState) (log : ℕ) (text : List ℕ) (e : Option SayError) →
    EndsByPacket (said b m log text e)
said-ends b m log text None = tt
said-ends b m log text (Some e) = tt

heard-ends : (b : WordBook) (m : MemberState) (word : Option HostWord) →
    EndsByPacket (heard b m word)
heard-ends b m None = tt
heard-ends b m (Some (Say log text)) =
    said-ends b m log text (fault_of m.client.shape m.client.writing.logs log text)
heard-ends b m (Some Tick) = tt
heard-ends b m (Some (Ahead turns)) = tt
heard-ends b m (Some (Has packets)) =
    either {X = ActedMember} (nat_lt (m.written + m.asked) packets) (Err Older) (tells_and_acts b [] m)
    (tt {0}) (tt {0})

settled-ends : (b : WordBook) (m : MemberState) (replies : List (List ℕ)) (e : Option TakeError) →
    EndsByPacket (settled b m replies e)
settled-ends b m replies None = tt
settled-ends b m replies (Some e) = tt

settled_by-ends : (b : WordBook) (m : MemberState) (replies : Option (List (List ℕ))) →
    EndsByPacket (settled_by b m replies)
settled_by-ends b m None = tt
settled_by-ends b m (Some replies) = settled-ends b m replies (refusal_in replies m.client)

replied-ends : (b : WordBook) (m : MemberState) (j : ℕ) (reply : List ℕ) →
    EndsByPacket (replied b m j reply)
replied-ends b m j reply =
    let now = with_reply m j reply in
    either {X = ActedMember} (is_none m.client.read || is_some (slice_index_or m.replies (j - 1) None))
    (Err Peer) (settled_by b now (all_of now.replies)) (tt {0})
    (settled_by-ends b now (all_of now.replies))

served-ends : (b : WordBook) (m : MemberState) (j : ℕ) (frame : List ℕ) →
    EndsByPacket (served b m j frame)
served-ends b m j frame =
    let kind = slice_index frame 0 in
    let epoch = told_epoch b m (with_epoch m.client.shape m.told j frame) in
    let others = cond (kind == 0x0c) (Err Refused) (Err Peer) in
    either {X = ActedMember} (kind == 3) (replied b m j frame) (cond (kind == 0x0b) epoch others)
    (replied-ends b m j frame)
    (either {X = ActedMember} (kind == 0x0b) epoch others
    (told-ends b m (with_epoch m.client.shape m.told j frame)
    (epoch-ends m.client.shape m.told j frame))
    (either {X = ActedMember} (kind == 0x0c) (Err Refused) (Err Peer) (tt {0}) (tt {0})))

pub step-ends : (b : WordBook) (m : MemberState) (p : PacketView) → EndsByPacket (step b m p)
unfolding step
step-ends b m p =
    let near = nat_le p.peer m.client.shape.servers in
    either {X = ActedMember} (p.peer == 0) (heard b m (word_in p.bytes))
    (cond near (served b m p.peer p.bytes) (Err Peer)) (heard-ends b m (word_in p.bytes))
    (either {X = ActedMember} near (served b m p.peer p.bytes) (Err Peer)
    (served-ends b m p.peer p.bytes) (tt {0}))

-- ---- whom a packet is of

pub step-host : (b : WordBook) (m : MemberState) (p : PacketView) → p.peer ≡ 0 →
    step b m p ≡ heard b m (word_in p.bytes)
unfolding step
step-host b m p host =
    let server = cond (nat_le p.peer m.client.shape.servers) (served b m p.peer p.bytes) (Err Peer) in
    cond-true (p.peer == 0) (heard b m (word_in p.bytes)) server (eq-eqb p.peer 0 host)

pub step-server : (b : WordBook) (m : MemberState) (p : PacketView) → (p.peer ≡ 0 → ⊥) →
    p.peer ≤ m.client.shape.servers → step b m p ≡ served b m p.peer p.bytes
unfolding step
step-server b m p other near =
    let is_near = nat_le p.peer m.client.shape.servers in
    let server = cond is_near (served b m p.peer p.bytes) (Err Peer) in
    cond-false (p.peer == 0) (heard b m (word_in p.bytes)) server (ne_eqb p.peer 0 other)
    ∙ cond-true is_near (served b m p.peer p.bytes) (Err Peer)
    (le-leb p.peer m.client.shape.servers near)

pub step-none : (b : WordBook) (m : MemberState) (p : PacketView) → (p.peer ≡ 0 → ⊥) →
    m.client.shape.servers < p.peer → step b m p ≡ Err Peer
unfolding step
step-none b m p other far =
    let is_near = nat_le p.peer m.client.shape.servers in
    let server = cond is_near (served b m p.peer p.bytes) (Err Peer) in
    cond-false (p.peer == 0) (heard b m (word_in p.bytes)) server (ne_eqb p.peer 0 other)
    ∙ cond-false is_near (served b m p.peer p.bytes) (Err Peer)
    (lt-leb p.peer m.client.shape.servers far)

-- ---- a reply
