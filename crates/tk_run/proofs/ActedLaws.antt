-- A turn of those who acted in it, told of the deeds that lie on their desks.
use Rattle.std.proofs.Common.{◌≡◌, ℕ, suc, ◌+◌, ◌<◌, List, [], ◌∷◌, length, map, Option, Some, refl, ap, sym, ◌∙◌}
use Rattle.std.proofs.Common.{subst, arith, append-nil}
use Rattle.std.specs.Prelude.{slice_index_or}
use Rattle.std.proofs.lemmas.List.{length-map}
use Rattle.tk_shape.specs.declared.shape.Shape.{Shape}
use Rattle.tk_frames.specs.declared.write_frame.WriteFrame.{WriteFrame}
use Rattle.tk_frames.specs.Ranges.{IsWrite}
use Rattle.tk_frames.specs.Spelling.{write_frame}
use Rattle.tk_frames.specs.Laws.{IsOneSpelling}
use Rattle.tk_schedule.specs.declared.history.TurnOrder.{TurnOrder}
use Rattle.tk_schedule.specs.Schedule.{phases_over}
use Rattle.tk_script.proofs.Offers.{same_first, same_rest}
use Rattle.tk_cluster.specs.Refusals.{SpellsWrite}
use Rattle.tk_cluster.specs.Passes.{Passing, Wrote, Pins, ReadsOnly}
use Rattle.tk_cluster.specs.Tellings.{Telling}
use Rattle.tk_run.specs.declared.pinned_write.PinnedWrite.{PinnedWrite}
use Rattle.tk_run.specs.declared.actors.Desk.{Desk}
use Rattle.tk_run.specs.Ticks.{Done}
use Rattle.tk_run.specs.Ran.{ActsOn, EachBy, HasTurned, PassesAt, Ran, set_on}
use Rattle.tk_run.specs.Acting.{WroteAndPinned, Acted, AreFrames, frames_on, deeds_on}

-- ---- lists and options that are the same

not_longer : {A : Type 0} (x : A) (xs : List A) → x ∷ xs ≡ [] → ⊥
not_longer x xs h = absurd (cc h)

not_shorter : {A : Type 0} (x : A) (xs : List A) → [] ≡ x ∷ xs → ⊥
not_shorter x xs h = absurd (cc h)

same_some : {A : Type 0} (o : Option A) (x y : A) → o ≡ Some x → o ≡ Some y → x ≡ y
same_some o x y h k = cc (h, k)

-- ---- what the clients did

module _ (shape : Shape) (write : ℕ → WriteFrame)
    (one : IsOneSpelling (IsWrite shape) write_frame) (most : ℕ) where
  -- bytes spell one write at most
  same_write : (bytes : List ℕ) (v w : WriteFrame) → SpellsWrite shape bytes v →
      SpellsWrite shape bytes w → v ≡ w
  same_write bytes v w a b =
      (one v w [] a.in_range b.in_range
      (sym b.spelled ∙ (a.spelled ∙ sym (append-nil (write_frame v))))).0

  acts_one : (a : Passing) (d e : Desk) (b : Passing) (s : PinnedWrite) →
      WroteAndPinned shape most a d e b → SpellsWrite shape d.frame.items (write a.client) →
      e.deed ≡ Some s → ActsOn write most a s b
  acts_one a d e b s h spells lies =
      let same : h.deed ≡ s = same_some e.deed h.deed s h.lies lies in
      let frame : h.wrote.write ≡ write a.client =
      same_write d.frame.items h.wrote.write (write a.client) h.wrote.spells spells
      in
      record {
        mid = h.mid;
        wrote = subst (λ w. Wrote a w h.mid) frame h.wrote.wrote;
        position = ap (λ (x : PinnedWrite). x.position) (sym same) ∙ h.position;
        pins = subst (λ (x : PinnedWrite). ReadsOnly (λ r t. Pins r most (set_on x) t) h.mid b) same h.pins;
      }

  -- the frames of the clients from client off on
  abbrev Spelled : ℕ → List Desk → Type 0
  Spelled off ds =
      (k : ℕ) (d : List ℕ) → k < length ds →
      SpellsWrite shape (slice_index_or (frames_on ds) k d) (write (off + k))

  spelled_first : (off : ℕ) (d : Desk) (ds : List Desk) (c : ℕ) → c ≡ off → Spelled off (d ∷ ds) →
      SpellsWrite shape d.frame.items (write c)
  spelled_first off d ds c is h =
      let here : off + 0 ≡ c = omega (arith, is) in
      subst (λ n. SpellsWrite shape d.frame.items (write n)) here (h 0 [] (omega arith))

  spelled_rest : (off : ℕ) (d : Desk) (ds : List Desk) → Spelled off (d ∷ ds) →
      Spelled (off + 1) ds
  spelled_rest off d ds h k x low =
      let next : off + suc k ≡ off + 1 + k = omega arith in
      subst (λ n. SpellsWrite shape (slice_index_or (frames_on ds) k x) (write n)) next
      (h (suc k) x (omega (arith, low)))

  all_acts : (K : List TurnOrder) (p : Telling) (off : ℕ) (xs : List Passing) (ds es : List Desk)
      (ys : List Passing) (deeds : List PinnedWrite) → Done (WroteAndPinned shape most) xs ds es ys →
      PassesAt shape K p off xs → Spelled off ds → deeds_on es ≡ map Some deeds →
      EachBy (ActsOn write most) xs deeds ys
  all_acts K p off [] [] [] [] [] h at spells lie = tt
  all_acts K p off [] [] [] [] (s ∷ deeds) h at spells lie =
      absurd (not_shorter (Some s) (map Some deeds) lie)
  all_acts K p off (a ∷ xs) (d ∷ ds) (e ∷ es) (b ∷ ys) [] h at spells lie =
      absurd (not_longer e.deed (deeds_on es) lie)
  all_acts K p off (a ∷ xs) (d ∷ ds) (e ∷ es) (b ∷ ys) (s ∷ deeds) h at spells lie =
      let here = same_first e.deed (Some s) (deeds_on es) (map Some deeds) lie in
      let rest = same_rest e.deed (Some s) (deeds_on es) (map Some deeds) lie in (
        acts_one a d e b s h.0 (spelled_first off d ds a.client (at.0).client spells) here,
        all_acts K p (off + 1) xs ds es ys deeds h.1 at.1 (spelled_rest off d ds spells) rest,
      )
  all_acts K p off _ _ _ _ deeds h at spells lie = absurd h

-- the frames stay on the desks
all_frames : (shape : Shape) (most : ℕ) (xs : List Passing) (ds es : List Desk) (ys : List Passing) →
    Done (WroteAndPinned shape most) xs ds es ys → frames_on es ≡ frames_on ds
all_frames shape most [] [] [] [] h = refl
all_frames shape most (a ∷ xs) (d ∷ ds) (e ∷ es) (b ∷ ys) h =
    λ i. (h.0).frame i ∷ all_frames shape most xs ds es ys h.1 i
all_frames shape most _ _ _ _ h = absurd h

pub frames_stay : {shape : Shape} {g : ℕ} {xs : List Passing} {p : Telling} {ds es : List Desk}
    {zs : List Passing} {q : Telling} → Acted shape g xs p ds es zs q → frames_on es ≡ frames_on ds
frames_stay {shape} {g} {xs} {p} {ds} {es} h =
    all_frames shape (phases_over shape (g + 1)) xs ds es h.acted h.acts

-- where the desks had the frames of what the clients write, it is a turn of these writes
pub acted_turned : {shape : Shape} {write : ℕ → WriteFrame} {writes : ℕ → ℕ → WriteFrame}
    {K : List TurnOrder} {g : ℕ} {xs : List Passing} {p : Telling} {ds es : List Desk}
    {zs : List Passing} {q : Telling} (deeds : List PinnedWrite) →
    IsOneSpelling (IsWrite shape) write_frame → Ran shape writes K xs p →
    Acted shape g xs p ds es zs q → AreFrames shape write (frames_on ds) →
    deeds_on es ≡ map Some deeds → HasTurned shape write g xs p deeds zs q
acted_turned {shape} {write} {writes} {K} {g} {xs} {p} {ds} {es} deeds one ran h frames lie =
    let spells : (k : ℕ) (d : List ℕ) → k < length ds →
    SpellsWrite shape (slice_index_or (frames_on ds) k d) (write (0 + k)) =
    λ k d low.
    let same : k ≡ 0 + k = omega arith in
    subst (λ n. SpellsWrite shape (slice_index_or (frames_on ds) k d) (write n)) same
    (frames.each k d (omega (arith, low, length-map ds (λ (d : Desk). d.frame.items))))
    in
    record {
      acted = h.acted;
      told = h.told;
      learned = h.learned;
      acts = all_acts shape write one (phases_over shape (g + 1)) K p 0 xs ds es h.acted deeds h.acts
          ran.passes spells lie;
      tells = h.tells;
      learns = h.learns;
      met = h.met;
      shows = h.shows;
    }
