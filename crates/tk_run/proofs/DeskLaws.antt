-- The desks of the clients, with the frames of their writes of a turn.
use Rattle.std.proofs.Common.{◌≡◌, ap, sym, ◌∙◌, subst, arith, inl, inr, add-one, ℕ, ◌+◌, ◌<◌, ◌≤◌, List, [], ◌∷◌}
use Rattle.std.proofs.Common.{◌++◌, length, length-append, set}
use Rattle.std.specs.Prelude.{slice_index_or}
use Rattle.std.specs.Option.{ForSome}
use Rattle.std.proofs.lemmas.Bool.{cases_lt}
use Rattle.std.proofs.lemmas.List.{map-append, length-map}
use Rattle.std.proofs.Math.ListN.{get_or-append}
use Rattle.std.proofs.Math.Seq.{get_or-append_seam}
use Rattle.tk_shape.specs.declared.shape.Shape.{Shape}
use Rattle.tk_shape.specs.Lengths.{turn_count}
use Rattle.tk_script.specs.declared.script.Script.{Script}
use Rattle.tk_words.specs.Words.{WordBook, BookWords, words_of}
use Rattle.tk_frames.specs.declared.write_frame.WriteFrame.{WriteFrame}
use Rattle.tk_client.specs.Reader.{Reader}
use Rattle.tk_client.specs.Client.{ClientState}
use Rattle.tk_client.specs.Writing.{first_waiting, after_write}
use Rattle.tk_client.specs.Writes.{write_of}
use Rattle.tk_report.specs.Clients.{AreClients, idle, client_told, client_knowing}
use Rattle.tk_report.specs.Entries.{write_at}
use Rattle.tk_report.specs.Queues.{writing_before}
use Rattle.tk_report.proofs.Offers.{queues-send}
use Rattle.tk_cluster.specs.Refusals.{SpellsWrite}
use Rattle.tk_run.specs.declared.actors.Desk.{Desk}
use Rattle.tk_run.specs.Acting.{AreFrames, frames_on}
use Rattle.tk_lists.proofs.Offers.{ChangedUpTo, changed-none, changed-next}

-- ---- a client that was told its texts

module _ (S : Script) (knows : ℕ → Reader) (g c : ℕ) (client : ClientState)
    (said : client ≡ client_told S knows g c) where
  pub told-shape : client.shape ≡ S.shape
  unfolding client_told
  told-shape = ap (λ (s : ClientState). s.shape) said

  -- what waits first has a number of the run
  pub told-number : g < turn_count S.shape →
      ForSome (first_waiting client.writing) (λ y. y.number < turn_count S.shape)
  unfolding client_told
  told-number turn_in =
      subst (λ (s : ClientState).
      ForSome (first_waiting s.writing) (λ y. y.number < turn_count S.shape))
      (sym said) (queues-send.in_range S c g turn_in)

  -- what it writes is what is sent in the turn
  pub told-write : (w : BookWords) → g < turn_count S.shape →
      write_of w g client.number (first_waiting client.writing) ≡ write_at S w g c
  unfolding client_told write_at
  told-write w turn_in =
      ap (λ (s : ClientState). write_of w g s.number (first_waiting s.writing)) said
      ∙ ap (write_of w g c) (queues-send.sends S c g turn_in)

  -- and then it has written
  pub told-then : record client { writing = after_write client.writing }
      ≡ client_knowing S knows (g + 1) c
  unfolding client_told client_knowing writing_before
  told-then =
      ap (λ (s : ClientState). record s { writing = after_write s.writing }) said
      ∙ ap (λ n. idle S.shape c (writing_before S c n) (knows c)) (sym (add-one g))

  -- the frame that spells what it writes
  pub told-spells : (b : WordBook) (frame : List ℕ) → g < turn_count S.shape →
      SpellsWrite client.shape frame
      (write_of (words_of client.shape b) g client.number (first_waiting client.writing)) →
      SpellsWrite S.shape frame (write_at S (words_of S.shape b) g c)
  told-spells b frame turn_in spells =
      subst (SpellsWrite S.shape frame) (told-write (words_of S.shape b) turn_in)
      (subst (λ (shape : Shape). SpellsWrite shape frame
      (write_of (words_of shape b) g client.number (first_waiting client.writing)))
      told-shape spells)

-- ---- clients, one after the other

-- a client has written
abbrev pub Writes : ClientState → ClientState → Type 0
Writes a b = b ≡ record a { writing = after_write a.writing }

-- the first i clients have, and their frames lie on desks
pub record DesksUpTo (shape : Shape) (write : ℕ → WriteFrame) (i : ℕ) (old new : List ClientState)
    (desks : List Desk) : Type 0 where
  pub changed : ChangedUpTo Writes i old new
  pub within : i ≤ length old
  pub counted : length desks ≡ i
  pub each : (k : ℕ) (d : List ℕ) → k < i →
      SpellsWrite shape (slice_index_or (frames_on desks) k d) (write k)

pub desks-none : (shape : Shape) (write : ℕ → WriteFrame) (clients : List ClientState)
    (desks : List Desk) → desks ≡ [] → DesksUpTo shape write 0 clients clients desks
desks-none shape write clients desks none =
    record {
      changed = changed-none Writes clients;
      within = omega arith;
      counted = ap length none;
      each = λ k d low. absurd (omega (arith, low));
    }

-- who hasn't written yet has been told its texts
pub desks-told : (S : Script) (knows : ℕ → Reader) (g i : ℕ) (write : ℕ → WriteFrame)
    (old new : List ClientState) (desks : List Desk) (d : ClientState) →
    AreClients S.shape.clients (client_told S knows g) old → i < length new →
    DesksUpTo S.shape write i old new desks →
    slice_index_or new i d ≡ client_told S knows g i
desks-told S knows g i write old new desks d are low h =
    h.changed.left i d (omega arith)
    ∙ are.each i d (omega (arith, low, h.changed.counted))

-- one client more writes
pub desks-next : (shape : Shape) (write : ℕ → WriteFrame) (i : ℕ) (old mid : List ClientState)
    (desks more : List Desk) (desk : Desk) (next d : ClientState) →
    i < length mid → Writes (slice_index_or mid i d) next →
    SpellsWrite shape desk.frame.items (write i) → more ≡ desks ++ desk ∷ [] →
    DesksUpTo shape write i old mid desks →
    DesksUpTo shape write (i + 1) old (set mid i next) more
desks-next shape write i old mid desks more desk next d low wrote spells pushed h =
    let within : i < length old = omega (arith, low, h.changed.counted) in
    let frames : frames_on more ≡ frames_on desks ++ desk.frame.items ∷ [] =
    ap frames_on pushed ∙ map-append (λ (x : Desk). x.frame.items) desks (desk ∷ [])
    in
    let long : length (frames_on desks) ≡ i =
    length-map desks (λ (x : Desk). x.frame.items) ∙ h.counted
    in
    record {
      changed = changed-next Writes i old mid next d within wrote h.changed;
      within = omega (arith, within);
      counted =
          ap length pushed ∙ length-append desks (desk ∷ []) ∙ omega (arith, h.counted);
      each = λ k e below. elim (cases_lt k i) [
        | inl earlier ↦
            subst (λ (f : List ℕ). SpellsWrite shape f (write k))
            (sym (ap (λ fs. slice_index_or fs k e) frames
            ∙ get_or-append (frames_on desks) (desk.frame.items ∷ []) e k (omega (arith, earlier, long))))
            (h.each k e earlier)
        | inr later ↦
            let same : length (frames_on desks) ≡ k = omega (arith, below, later, long) in
            let last : i ≡ k = omega (arith, below, later) in
            subst (λ (f : List ℕ). SpellsWrite shape f (write k))
            (sym (ap (λ fs. slice_index_or fs k e) frames
            ∙ ap (λ n. slice_index_or (frames_on desks ++ desk.frame.items ∷ []) n e) (sym same)
            ∙ get_or-append_seam (frames_on desks) desk.frame.items [] e))
            (subst (λ n. SpellsWrite shape desk.frame.items (write n)) last spells)
      ];
    }

-- all have written
pub desks-frames : (shape : Shape) (write : ℕ → WriteFrame) (i : ℕ) (old new : List ClientState)
    (desks : List Desk) → length old ≡ shape.clients → length new ≤ i →
    DesksUpTo shape write i old new desks → AreFrames shape write (frames_on desks)
desks-frames shape write i old new desks counted past h =
    let same : i ≡ shape.clients =
    omega (arith, counted, past, h.within, h.changed.counted)
    in
    let long : length (frames_on desks) ≡ i =
    length-map desks (λ (x : Desk). x.frame.items) ∙ h.counted
    in
    record {
      counted = long ∙ same;
      each = λ c d low. h.each c d (omega (arith, low, long));
    }

pub desks-clients : (S : Script) (knows : ℕ → Reader) (g i : ℕ) (write : ℕ → WriteFrame)
    (old new : List ClientState) (desks : List Desk) →
    AreClients S.shape.clients (client_told S knows g) old → length new ≤ i →
    DesksUpTo S.shape write i old new desks →
    AreClients S.shape.clients (client_knowing S knows (g + 1)) new
desks-clients S knows g i write old new desks are past h =
    let same = h.changed.counted in
    record {
      counted = same ∙ are.counted;
      each = λ c d low.
          let inside : c < length old = omega (arith, low, same) in
          h.changed.done c d (omega (arith, low, past)) inside
          ∙ told-then S knows g c (slice_index_or old c d) (are.each c d inside);
    }
