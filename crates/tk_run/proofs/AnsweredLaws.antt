-- The reads of a turn of threads, of which some servers have replied.
use Rattle.std.proofs.Common.{◌≡◌, refl, ap, sym, ◌∙◌, subst, arith, ℕ, ◌+◌, ◌<◌, List, [], ◌∷◌, ◌++◌, length, map}
use Rattle.std.proofs.Common.{take, take_all, All, length-append}
use Rattle.std.proofs.lemmas.List.{get_or_default, length-map}
use Rattle.std.proofs.Math.Seq.{get_or-append_seam}
use Rattle.std.specs.Prelude.{slice_index_or, Vec, Ok, IfOk}
use Rattle.std.specs.Global.{Global}
use Rattle.tk_shape.specs.declared.shape.Shape.{Shape}
use Rattle.tk_frames.specs.declared.entry.Placed.{Placed}
use Rattle.tk_cluster.specs.Refusals.{IsAsked}
use Rattle.tk_run.specs.declared.talk.Reading.{Reading}
use Rattle.tk_run.specs.Rows.{Frame}
use Rattle.tk_run.specs.Reading.{EachAt}
use Rattle.tk_run.specs.Answering.{AreAllAsked, IsAnswered, AllStand, MayReply, AreGiven, Replies, AllReply, ReplyDue, set_of}
use Rattle.tk_run.specs.Answering.{frame_of}
use Rattle.tk_run.proofs.Cuts.{map-next}
use Rattle.tk_run.proofs.TalkAll.{map-at}

-- the first servers replied, over the entries that the sets stand for
pub record IsReplied (due : ReplyDue) (stand : Shape → List Placed → Type 0) (n : ℕ) (old new : Reading)
    : Type 0 where
  pub client : new.client ≡ old.client
  pub turn : new.talk.turn ≡ old.talk.turn
  pub set : new.talk.set ≡ old.talk.set
  pub asked : new.talk.asked.items ≡ old.talk.asked.items
  pub replies : (shape : Shape) (E : List Placed) → stand shape E →
      new.talk.replies.items ≡ map (due shape E) (take n old.talk.asked.items)

pub replied-none : (due : ReplyDue) (shape : Shape) (stand : Shape → List Placed → Type 0) (rs : List Reading) →
    All (AreAllAsked shape) rs → EachAt (IsReplied due stand 0) rs rs
replied-none due shape stand rs may k d low =
    record {
      client = refl;
      turn = refl;
      set = refl;
      asked = refl;
      replies = λ other E stands. (may k d low).unreplied;
    }

-- the frames of a server
pub asked-inside : (shape : Shape) (i : ℕ) (rs : List Reading) → All (AreAllAsked shape) rs →
    i < shape.servers → All (λ r. i < length r.talk.asked.items) rs
asked-inside shape i rs may inside k d low = omega (arith, inside, (may k d low).counted)

-- they are reads of the sets
pub replies-due : (shape : Shape) (i : ℕ) (rs : List Reading) (frames : List Frame) →
    All (AreAllAsked shape) rs → i < shape.servers → frames ≡ map (frame_of i) rs →
    MayReply shape (i + 1) rs frames
replies-due shape i rs frames may inside frames_are =
    let long : length frames ≡ length rs =
    ap length frames_are ∙ length-map rs (frame_of i)
    in
    record {
      low = omega arith;
      high = omega (arith, inside);
      counted = long;
      same = λ k d low. (may k d low).same;
      asked = λ k d f low.
          let here : k < length rs = omega (arith, low, long) in
          let r = slice_index_or rs k d in
          let answer = may k d here in
          let frame : slice_index_or frames k f ≡ frame_of i r =
          ap (λ (xs : List Frame). slice_index_or xs k f) frames_are
          ∙ get_or_default (map (frame_of i) rs) k f (frame_of i d)
          (omega (arith, here, length-map rs (frame_of i)))
          ∙ map-at (frame_of i) rs k d here
          in
          subst (IsAsked (set_of r)) (sym frame)
          (answer.asked i [] (omega (arith, inside, answer.counted)));
    }

-- as many replies as there are reads
pub replies-counted : (due : ReplyDue) (shape : Shape) (E : List Placed) (i : ℕ) (rs : List Reading)
    (replies : List Frame) → replies ≡ map (due shape E) (map (frame_of i) rs) →
    length replies ≡ length rs
replies-counted due shape E i rs replies are =
    ap length are ∙ length-map (map (frame_of i) rs) (due shape E)
    ∙ length-map rs (frame_of i)

-- what the next server replied, where these before it are given
module _ (shape : Shape) (rs : List Reading) (answers given rest : List Replies) (x : Replies)
    (whole : given ++ x ∷ rest ≡ answers) where
  pub server-inside : length answers ≡ shape.servers → length given < shape.servers
  server-inside counted =
      omega (arith, counted, ap length whole, length-append given (x ∷ rest))

  pub server-replied : (due : ReplyDue) (replies : Vec Frame Global) → x ≡ Ok replies →
      AllReply due rs answers → (other : Shape) (E : List Placed) → AllStand rs other E →
      replies.items ≡ map (due other E) (map (frame_of (length given)) rs)
  server-replied due replies is all other E stands =
      let i = length given in
      let low : i < length answers =
      omega (arith, ap length whole, length-append given (x ∷ rest))
      in
      let at : slice_index_or answers i x ≡ Ok replies =
      ap (λ (xs : List Replies). slice_index_or xs i x) (sym whole)
      ∙ get_or-append_seam given x rest x
      ∙ is
      in
      subst (λ (r : Replies). IfOk r
      (λ v. v.items ≡ map (due other E) (map (frame_of i) rs))) at
      (all i x low other E stands)

-- one server more has replied
pub replied-next : (due : ReplyDue) (shape : Shape) (i : ℕ) (old now new : List Reading)
    (replies : List Frame) →
    length now ≡ length old → All (AreAllAsked shape) old → i < shape.servers →
    EachAt (IsReplied due (AllStand old) i) old now →
    ((other : Shape) (E : List Placed) → AllStand old other E →
    replies ≡ map (due other E) (map (frame_of i) old)) →
    AreGiven replies now new → EachAt (IsReplied due (AllStand old) (i + 1)) old new
replied-next due shape i old now new replies counted may inside so_far replies_are given k d low =
    let here : k < length now = omega (arith, low, counted) in
    let r = slice_index_or old k d in
    let s = slice_index_or now k d in
    let is = so_far k d low in
    let gift = given k d [] here in
    let within : i < length r.talk.asked.items = omega (arith, inside, (may k d low).counted) in
    record {
      client = gift.client ∙ is.client;
      turn = gift.turn ∙ is.turn;
      set = gift.set ∙ is.set;
      asked = gift.asked ∙ is.asked;
      replies = λ other E stands.
          let owed = due other E in
          let frames = map (frame_of i) old in
          let many : k < length frames = omega (arith, low, length-map old (frame_of i)) in
          let reply : slice_index_or replies k [] ≡ owed (frame_of i r) =
          ap (λ (xs : List Frame). slice_index_or xs k []) (replies_are other E stands)
          ∙ get_or_default (map owed frames) k [] (owed (frame_of i d))
          (omega (arith, many, length-map frames owed))
          ∙ map-at owed frames k (frame_of i d) many
          ∙ ap owed (map-at (frame_of i) old k d low)
          in
          map-next owed r.talk.asked.items i (frame_of i r) s.talk.replies.items
          (slice_index_or new k d).talk.replies.items (slice_index_or replies k []) within
          (get_or_default r.talk.asked.items i [] (frame_of i r) within)
          (is.replies other E stands) reply gift.replies;
    }

-- and at the end all have
pub replied-all : (due : ReplyDue) (shape : Shape) (n : ℕ) (old new : List Reading) →
    All (AreAllAsked shape) old → n ≡ shape.servers →
    EachAt (IsReplied due (AllStand old) n) old new → EachAt (IsAnswered due (AllStand old)) old new
replied-all due shape n old new may all so_far k d low =
    let is = so_far k d low in
    let r = slice_index_or old k d in
    record {
      client = is.client;
      turn = is.turn;
      set = is.set;
      asked = is.asked;
      replies = λ other E stands.
          is.replies other E stands
          ∙ ap (map (due other E))
          (take_all n r.talk.asked.items (omega (arith, all, (may k d low).counted)));
    }
