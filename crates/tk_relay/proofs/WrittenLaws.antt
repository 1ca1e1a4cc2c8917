-- A turn of a run when all have written in it, and a run at its end.
use Rattle.std.proofs.Common.{◌≡◌, ℕ, ◌+◌, ◌<◌, List, ◌++◌, length, ap, refl, sym, ◌∙◌, subst, arith, Some, slice_get}
use Rattle.tk_shape.specs.declared.shape.Shape.{Shape}
use Rattle.tk_shape.specs.Lengths.{turn_count}
use Rattle.tk_schedule.specs.declared.history.History.{History}
use Rattle.tk_schedule.specs.Schedule.{IsLegal, epoch_at, serial_history}
use Rattle.tk_script.specs.declared.script.Script.{Script}
use Rattle.tk_words.specs.Words.{WordBook, words_of}
use Rattle.tk_frames.specs.declared.entry.Placed.{Placed}
use Rattle.tk_frames.specs.InOrder.{IsOrder, mark_count}
use Rattle.tk_report.specs.declared.group.Group.{Group}
use Rattle.tk_report.specs.Clients.{AreClients, client_knowing, known_first, known_before}
use Rattle.tk_report.specs.Entries.{write_at, entries_at, entries_before}
use Rattle.tk_report.specs.Groups.{IsGroup}
use Rattle.tk_report.specs.Turns.{placed_before}
use Rattle.tk_report.proofs.Offers.{said-none, clients-first, clients-know, marks-before, turn-done}
use Rattle.tk_cluster.specs.declared.set.EpochSet.{EpochSet}
use Rattle.tk_cluster.specs.Passes.{Passing}
use Rattle.tk_cluster.specs.Tellings.{Telling}
use Rattle.tk_cluster.specs.Clusters.{Opened, HaveMet}
use Rattle.tk_cluster.specs.Sets.{StandsAtMark, AreShown}
use Rattle.tk_cluster.proofs.Offers.{stands-more}
use Rattle.tk_relay.specs.Ordered.{HaveOrdered, OrderedAfter}
use Rattle.tk_relay.specs.Running.{IsRunBefore, HaveWritten}
use Rattle.tk_relay.proofs.OrderedLaws.{ordered-first, ordered-met, met-seen}
use Rattle.tk_relay.proofs.RelayedReads.{serial-epoch}

-- all is opened as it is before the first turn
pub run-first : (shape : Shape) (S : Script) (b : WordBook) (H : History) (group : Group)
    (xs : List Passing) (p : Telling) → S.shape ≡ shape → Opened shape p xs → group.said ≡ 0 →
    AreClients S.shape.clients (client_knowing S (known_first S) 0) group.clients.items →
    IsRunBefore shape S b H 0 group xs p 0
unfolding entries_before
run-first shape S b H group xs p same opened said clients =
    record {
      same = same;
      said = said ∙ sym (said-none S);
      clients = clients-first S (words_of S.shape b) H group.clients.items clients;
      ordered = ordered-first shape xs p opened;
      met = opened.seen;
      counted = refl;
    }

-- the epoch that is read in a turn is that of the last mark before it
pub epoch-last : (S : Script) (b : WordBook) (H : History) (g : ℕ) → IsLegal S.shape H →
    H ≡ serial_history S.shape → g < turn_count S.shape →
    epoch_at H g 0 ≡ mark_count (placed_before S (words_of S.shape b) H g)
epoch-last S b H g legal serial low =
    ap (λ (h : History). epoch_at h g 0) serial
    ∙ serial-epoch S.shape g 0 low (omega (arith, S.shape.in_range.clients_low))
    ∙ sym (marks-before S.shape (write_at S (words_of S.shape b)) H legal g (omega (arith, low)))

-- the clients of a run before a turn
pub group-before : {shape : Shape} {S : Script} {b : WordBook} {H : History} {g : ℕ} {group : Group}
    {xs : List Passing} {p : Telling} {n : ℕ} → IsRunBefore shape S b H g group xs p n →
    IsGroup S (known_before S (words_of S.shape b) H g) g group
group-before {shape} {S} {b} {H} {g} {group} is =
    record {
      said = is.said;
      clients = clients-know S (words_of S.shape b) H g group.clients.items is.clients;
    }

module _ {shape : Shape} {S : Script} {b : WordBook} {H : History} {g : ℕ} {group : Group}
    {xs : List Passing} {p : Telling} {n : ℕ} (run : IsRunBefore shape S b H g group xs p n) where
  -- the entries before the turn, its own, and all up to its end
  abbrev before : List Placed
  before = placed_before S (words_of S.shape b) H g

  abbrev now : List Placed
  now = entries_at (write_at S (words_of S.shape b)) H g

  abbrev after : List Placed
  after = placed_before S (words_of S.shape b) H (g + 1)

  done : before ++ now ≡ after
  done = turn-done S (words_of S.shape b) H g

  -- the last shown set stands for the entries before its mark at the turn's end too
  set-stands : (set : EpochSet) → AreShown shape p.shown p.seen → epoch_at H g 0 ≡ mark_count before →
      slice_get p.shown (epoch_at H g 0) ≡ Some set → IsOrder S.shape after →
      StandsAtMark S.shape after (epoch_at H g 0) set
  set-stands set shows last here order =
      let e = epoch_at H g 0 in
      let at : StandsAtMark S.shape before e set =
      subst (λ (sh : Shape). StandsAtMark sh before e set) (sym run.same)
      (subst (λ (E : List Placed). StandsAtMark shape E e set) run.met (shows e set here))
      in
      stands-more S.shape before after e set (now, done) order at

  pub turn-written : (zs ys : List Passing) (q r : Telling) (m : ℕ) (bytes : List ℕ)
      (set : EpochSet) (wrote : Group) → AreShown shape p.shown p.seen →
      epoch_at H g 0 ≡ mark_count before → slice_get p.shown (epoch_at H g 0) ≡ Some set →
      IsGroup S (known_before S (words_of S.shape b) H g) (g + 1) wrote →
      OrderedAfter shape S.shape before now zs q m bytes → HaveMet shape zs q ys r →
      HaveWritten shape S b H g wrote ys r m set bytes
  turn-written zs ys q r m bytes set wrote shows last here group_is taken met =
      let have : HaveOrdered S.shape after zs q =
      subst (λ (E : List Placed). HaveOrdered S.shape E zs q) done taken.ordered
      in
      let own : HaveOrdered shape after zs q =
      subst (λ (sh : Shape). HaveOrdered sh after zs q) run.same have
      in
      let stands = set-stands set shows last here have.order in
      record {
        said = group_is.said;
        clients = group_is.clients;
        ordered = ordered-met own met;
        met = met-seen own met;
        counted = taken.counted ∙ ap length done;
        stands = subst (λ e. StandsAtMark S.shape after e set) (sym stands.number) stands;
        epoch = stands.number;
        seen = taken.seen;
      }
