-- How a request ends whose input is read.
use Rattle.std.proofs.Common.{◌≡◌, ◌≢◌, ◌∙◌, ◌≤◌, refl, sym, ap, subst, ℕ, List, Option, Some, Ok, Err, [], arith}
use Rattle.std.specs.Prelude.{None, Result, IfOk, IfErr}
use Rattle.tk_io.specs.Content.{TakesUpTo, Rose, before_taking}
use Rattle.tk_schedule.specs.declared.history.History.{History}
use Rattle.tk_schedule.specs.Schedule.{serial_history, IsLegal}
use Rattle.tk_script.specs.declared.form.Form.{Form}
use Rattle.tk_script.specs.declared.form.Form.TheVariants as form
use Rattle.tk_script.specs.declared.script.Script.{Script}
use Rattle.tk_script.specs.Book.{book_from, book_of}
use Rattle.tk_words.specs.declared.book.Book.{Book}
use Rattle.tk_words.specs.Book.{words_in}
use Rattle.tk_words.specs.Words.{WordBook}
use Rattle.tk_run.specs.declared.run_error.RunError.{RunError}
use Rattle.tk_run.specs.declared.run_error.RunError.TheVariants as run_error
use Rattle.tk_cli.specs.Limits.{input_limit}
use Rattle.tk_cli.specs.declared.request.Request.{Request}
use Rattle.tk_cli.specs.declared.request.Request.TheVariants as request
use Rattle.tk_cli.specs.declared.status.Status.{Status}
use Rattle.tk_cli.specs.declared.status.Status.TheVariants as status
use Rattle.tk_cli.specs.declared.ended.Ended.{Ended}
use Rattle.tk_cli.specs.Errors.{run_status}
use Rattle.tk_cli.specs.Puts.{PutsText, PutsNothing, PutsSome}
use Rattle.tk_cli.specs.Texts.{IsTextOf}
use Rattle.tk_cli.specs.Inputs.{IsDoneWith, HasScript, ReadsWhole, Stops, HasBookOfKeys, tape_refusal, phase_refusal}
use Rattle.tk_cli.specs.Outside.{Outside, outside, IsUnwritten, IsUntapped, NoCountFalls}
use Rattle.tk_cli.specs.Endings.{LeavesSource, LeavesTaps, HandsNothing, IsAnswered, StopsInTaps, EndsWith}
use Rattle.tk_cli.specs.Endings.{HowEnds, Ends, WritesText}
use Rattle.tk_cli.proofs.InputLaws.{not_over, over-as, err_same, ok_long, whole-not_refused, run-stops, epoch-refuses}
use Rattle.tk_cli.proofs.EndingLaws.{IsPlain, stopped, run_stopped, made-ends}

-- a request that reads its input ends by its status
pub record ReadsInput (r : Request) : Type 0 where
  pub source : ¬ LeavesSource r
  pub how : (e : Ended) (old new : Outside) → EndsWith e.status r e old new → HowEnds r e old new

pub serial-reads : ReadsInput request.Serial
serial-reads = record { source = λ no. no; how = λ e old new how. how }

pub relay-reads : ReadsInput request.Relay
relay-reads = record { source = λ no. no; how = λ e old new how. how }

pub resume-reads : (epoch : ℕ) → ReadsInput (request.Resume epoch)
resume-reads epoch = record { source = λ no. no; how = λ e old new how. how }

pub run-reads : (n m : ℕ) → ReadsInput (request.Run n m)
run-reads n m = record { source = λ no. no; how = λ e old new how. how }

pub view-reads : (j : ℕ) → ReadsInput (request.View j)
view-reads j = record { source = λ no. no; how = λ e old new how. how }

pub mirror-reads : (h : ℕ) → ReadsInput (request.Mirror h)
mirror-reads h = record { source = λ no. no; how = λ e old new how. how }

pub wrong-reads : (h : ℕ) → ReadsInput (request.Wrong h)
wrong-reads h = record { source = λ no. no; how = λ e old new how. how }

pub lift-reads : ReadsInput request.Lift
lift-reads = record { source = λ no. no; how = λ e old new how. how }

-- ---- how much was taken

abbrev pub Taken : Type 0 → Option (List ℕ) → Option (List ℕ) → Type 0
Taken over left left' = (taken : List ℕ) × TakesUpTo input_limit left left' over taken

abbrev IsOver : (X : Type 0) → Status → Type 0
IsOver X s = let a : Result X Status = Err s in a ≡ Err status.TooLong

abbrev pub IsOverOk : {X : Type 0} → X → Type 0
IsOverOk {X} x = let a : Result X Status = Ok x in a ≡ Err status.TooLong

pub err-taken : {X : Type 0} (e : Ended) (s : Status) (left left' : Option (List ℕ)) →
    e.status ≡ s → Taken (IsOver X s) left left' → Taken (e.status ≡ status.TooLong) left left'
err-taken {X} e s left left' is t = (
  t.0,
  over-as input_limit left left' t.0 t.1
      (λ over. is ∙ err_same {X = X} s status.TooLong over) (λ long. ap Err (sym is ∙ long)),
)

pub ok-taken : {X : Type 0} (x : X) (e : Ended) (left left' : Option (List ℕ)) →
    Taken (IsOverOk x) left left' → e.status ≢ status.TooLong →
    Taken (e.status ≡ status.TooLong) left left'
ok-taken x e left left' t short =
    (t.0, not_over input_limit left left' t.0 t.1 (ok_long x) short)

puts-short : (s : Status) (text : List ℕ) (held held' : Option (List ℕ)) (f f' : ℕ) →
    PutsText s text held held' f f' → s ≢ status.TooLong
puts-short s text held held' f f' puts is =
    absurd (subst (λ x. PutsText x text held held' f f') is puts)

run-short : (error : RunError) (s : Status) → s ≡ run_status error → s ≢ status.TooLong
run-short run_error.Taps s is long = cc
run-short run_error.Memory s is long = cc

-- ---- the ends

module _ (r : Request) (reads : ReadsInput r) (e : Ended) (old new : Outside)
    (counts : NoCountFalls old new) where
  -- an input wasn't had
  pub early : {X : Type 0} (s : Status) → e.status ≡ s → HandsNothing e →
      Taken (IsOver X s) old.left new.left → IsUnwritten old new → IsUntapped old new →
      Stops r s old.left new.left old.source_faults new.source_faults → Ends r e old new
  early {X} s is nothing taken unwritten untapped stops = record {
    taken = err-taken {X = X} e s old.left new.left is taken;
    counts = counts;
    unread = λ leaves. absurd (reads.source leaves);
    untapped = λ leaves. untapped;
    how = reads.how e old new (subst (λ x. EndsWith x r e old new) (sym is)
        (stopped s r e old new stops
        (record { handed = nothing; unwritten = unwritten; untapped = untapped })));
  }

  -- one that was had is refused
  pub late : {X : Type 0} (x : X) (s : Status) → e.status ≡ s → s ≢ status.TooLong →
      HandsNothing e → Taken (IsOverOk x) old.left new.left → IsUnwritten old new →
      IsUntapped old new → Stops r s old.left new.left old.source_faults new.source_faults →
      Ends r e old new
  late x s is short nothing taken unwritten untapped stops = record {
    taken = ok-taken x e old.left new.left taken (λ long. short (sym is ∙ long));
    counts = counts;
    unread = λ leaves. absurd (reads.source leaves);
    untapped = λ leaves. untapped;
    how = reads.how e old new (subst (λ x. EndsWith x r e old new) (sym is)
        (stopped s r e old new stops
        (record { handed = nothing; unwritten = unwritten; untapped = untapped })));
  }

  -- a text was made of it
  pub made : {X : Type 0} (x : X) (text : List ℕ) → IsPlain r old new →
      IsAnswered r old.left new.left text → HandsNothing e → Taken (IsOverOk x) old.left new.left →
      IsUntapped old new →
      PutsText e.status text old.held new.held old.sink_faults new.sink_faults → Ends r e old new
  made x text plain is nothing taken untapped puts = record {
    taken = ok-taken x e old.left new.left taken
        (puts-short e.status text old.held new.held old.sink_faults new.sink_faults puts);
    counts = counts;
    unread = λ leaves. absurd (reads.source leaves);
    untapped = λ leaves. untapped;
    how = reads.how e old new
        (made-ends r e old new text plain is nothing untapped e.status puts);
  }

  module _ {X : Type 0} (x : X) (taken : Taken (IsOverOk x) old.left new.left)
      (taps : ¬ LeavesTaps r) where
    -- a run was stopped
    pub run-early : (error : RunError) → e.status ≡ run_status error → HandsNothing e →
        IsUnwritten old new → StopsInTaps r old new →
        (error ≡ run_error.Taps → Rose old.tap_faults new.tap_faults) → Ends r e old new
    run-early error is nothing unwritten stops rose = record {
      taken = ok-taken x e old.left new.left taken (run-short error e.status is);
      counts = counts;
      unread = λ leaves. absurd (reads.source leaves);
      untapped = λ leaves. absurd (taps leaves);
      how = reads.how e old new (subst (λ s. EndsWith s r e old new) (sym is)
          (run_stopped error r e old new nothing unwritten stops
          (λ failed. record { stopped = stops; unwritten = unwritten; rose = rose failed })));
    }

    -- it was told, or a front of it
    pub run-told : (text : List ℕ) → EndsWith e.status r e old new →
        PutsText e.status text old.held new.held old.sink_faults new.sink_faults → Ends r e old new
    run-told text how puts = record {
      taken = ok-taken x e old.left new.left taken
          (puts-short e.status text old.held new.held old.sink_faults new.sink_faults puts);
      counts = counts;
      unread = λ leaves. absurd (reads.source leaves);
      untapped = λ leaves. absurd (taps leaves);
      how = reads.how e old new how;
    }

-- ---- runs of an input

module _ (f : Form) (left left' : Option (List ℕ)) (script : Script) (book : Book)
    (ready : HasScript f left left' script book) where
  -- what holds of the script and the words holds of the input's
  pub as-input : (P : Script → WordBook → Type 0) → P script (words_in book) →
      P ready.input.first (book_of ready.input)
  as-input P p = subst (λ b. P ready.input.first b) ready.words
      (subst (λ S. P S (words_in book)) ready.of_input p)

  -- its tape refuses nothing
  accepted : (behind : Option Status) →
      tape_refusal ready.input.first.shape ready.input.tape behind ≡ behind
  accepted behind =
      whole-not_refused ready.input.first.shape ready.input.tape behind ready.whole

  pub serial-due : f ≡ form.Run → IsDoneWith request.Serial left left' ready.input
      (serial_history ready.input.first.shape)
  serial-due is = record {
    read = subst (λ k. ReadsWhole k left left' ready.input) is ready.read;
    accepted = accepted None;
    history = refl;
  }

  pub relay-due : f ≡ form.Relay → IsDoneWith request.Relay left left' ready.input
      (serial_history ready.input.first.shape)
  relay-due is = record {
    read = subst (λ k. ReadsWhole k left left' ready.input) is ready.read;
    accepted = accepted None;
    history = refl;
  }

  phases-is : script.shape.phases ≡ ready.input.first.shape.phases
  phases-is = ap (λ (S : Script). S.shape.phases) ready.of_input

  pub resume-due : (e : ℕ) → f ≡ form.Run → phase_refusal e script.shape.phases ≡ None →
      IsDoneWith (request.Resume e) left left' ready.input (serial_history ready.input.first.shape)
  resume-due e is within = record {
    read = subst (λ k. ReadsWhole k left left' ready.input) is ready.read;
    accepted = accepted (phase_refusal e ready.input.first.shape.phases)
        ∙ ap (phase_refusal e) (sym phases-is) ∙ within;
    history = refl;
  }

  pub phase-short : (e : ℕ) (s : Status) → s ≡ status.Phase e script.shape.phases →
      s ≢ status.TooLong
  phase-short e s named long = cc

  -- the epoch is past the last
  pub resume-stops : (e : ℕ) (s : Status) (faults faults' : ℕ) → f ≡ form.Run →
      s ≡ status.Phase e script.shape.phases → phase_refusal e script.shape.phases ≡ Some s →
      Stops (request.Resume e) s left left' faults faults'
  resume-stops e s faults faults' is named refused =
      run-stops f (request.Resume e) s left left' faults faults' ready.input ready.read (sym is)
      (epoch-refuses e s ready.input ready.whole (named ∙ ap (status.Phase e) phases-is)
      (ap (phase_refusal e) (sym phases-is) ∙ refused))

  pub run-due : (n m : ℕ) (H : History) → f ≡ form.Run → IsLegal ready.input.first.shape H →
      IsDoneWith (request.Run n m) left left' ready.input H
  run-due n m H is legal = record {
    read = subst (λ k. ReadsWhole k left left' ready.input) is ready.read;
    accepted = accepted None;
    history = legal;
  }

-- a script that is relayed has keys, which are its book
pub has-book_of_keys : (left left' : Option (List ℕ)) (script : Script) (book : Book) →
    HasScript form.Relay left left' script book → HasBookOfKeys script (words_in book)
has-book_of_keys left left' script book ready =
    let spelled = ready.read.spelled in
    record {
      keys = spelled.keys;
      own = ap (λ (S : Script). S.keys) ready.of_input ∙ spelled.keyed;
      book = ready.words ∙ ap (λ k. book_from k ready.input.tape) spelled.keyed;
    }

-- ---- a text, where there is one

pub plain-view : (j : ℕ) (old new : Outside) → IsPlain (request.View j) old new
plain-view j old new = record { taps = λ input H. tt; back = λ input H e nothing. nothing }

pub plain-mirror : (h : ℕ) (old new : Outside) → IsPlain (request.Mirror h) old new
plain-mirror h old new = record { taps = λ input H. tt; back = λ input H e nothing. nothing }

pub plain-wrong : (h : ℕ) (old new : Outside) → IsPlain (request.Wrong h) old new
plain-wrong h old new = record { taps = λ input H. tt; back = λ input H e nothing. nothing }

pub plain-lift : (old new : Outside) → IsPlain request.Lift old new
plain-lift old new = record { taps = λ input H. tt; back = λ input H e nothing. nothing }

pub text-ends : {X : Type 0} (r : Request) → ReadsInput r → (items : X → List ℕ) (e : Ended)
    (old new : Outside) → NoCountFalls old new → IsPlain r old new → HandsNothing e →
    IsUntapped old new → (res : Result X Status) →
    IfOk res (λ x. IsAnswered r old.left new.left (items x)) →
    IfErr res (λ s. Stops r s old.left new.left old.source_faults new.source_faults) →
    Taken (res ≡ Err status.TooLong) old.left new.left →
    IfOk res (λ x. PutsText e.status (items x) old.held new.held old.sink_faults new.sink_faults) →
    IfErr res (λ s. e.status ≡ s) →
    IfErr res (λ s. PutsNothing old.held new.held old.sink_faults new.sink_faults) →
    Ends r e old new
text-ends r reads items e old new counts plain nothing untapped (Ok x) is stops taken puts same
    quiet =
    made r reads e old new counts x (items x) plain is nothing taken untapped puts
text-ends {X} r reads items e old new counts plain nothing untapped (Err s) is stops taken puts
    same quiet =
    early r reads e old new counts {X = X} s same nothing taken
    (record { held = quiet.same; faults = quiet.none }) untapped stops

-- ---- words that read nothing

before-nothing : (left : Option (List ℕ)) → left ≡ before_taking [] left
before-nothing None = refl
before-nothing (Some rest) = refl

none-taken : (over : Type 0) (left : Option (List ℕ)) → ¬ over → Taken over left left
none-taken over left short = (
  [],
  record {
    bytes = before-nothing left;
    most = omega arith;
    exactly = (λ is. absurd (short is), λ more. absurd (omega (arith, more)));
  },
)

-- a request that reads nothing
pub record ReadsNothing (r : Request) : Type 0 where
  pub how : (e : Ended) (old new : Outside) → WritesText r e old new → HowEnds r e old new

pub handle-reads_nothing : (id : ℕ) (root : List ℕ) → ReadsNothing (request.Handle id root)
handle-reads_nothing id root = record { how = λ e old new how. how }

pub make-reads_nothing : (n : ℕ) → ReadsNothing (request.Make n)
make-reads_nothing n = record { how = λ e old new how. how }

pub tally-reads_nothing : (n : ℕ) → ReadsNothing (request.Tally n)
tally-reads_nothing n = record { how = λ e old new how. how }

-- a text that is put is some text
some-put : (Is : List ℕ → Type 0) (s : Status) (text : List ℕ) (held held' : Option (List ℕ))
    (f f' : ℕ) → Is text → PutsText s text held held' f f' → PutsSome Is s held held' f f'
some-put Is status.Memory text held held' f f' is puts = puts
some-put Is status.Done text held held' f f' is puts = (text, is, puts)
some-put Is status.Write text held held' f f' is puts = (text, is, puts)
some-put Is _ text held held' f f' is puts = absurd puts

some-short : (Is : List ℕ → Type 0) (s : Status) (held held' : Option (List ℕ)) (f f' : ℕ) →
    PutsSome Is s held held' f f' → s ≢ status.TooLong
some-short Is s held held' f f' puts is =
    absurd (subst (λ x. PutsSome Is x held held' f f') is puts).2

-- its text is written, or memory was wanting
pub text-written : {X : Type 0} (r : Request) → ReadsNothing r → (items : X → List ℕ) (e : Ended)
    (left : Option (List ℕ)) (f : ℕ) (held held' : Option (List ℕ)) (sf sf' : ℕ)
    (tap : ℕ → Option (List ℕ)) (tf : ℕ) → sf ≤ sf' → HandsNothing e → (res : Result X Status) →
    IfOk res (λ x. IsTextOf r (items x)) → IfErr res (λ s. s ≡ status.Memory) →
    IfOk res (λ x. PutsText e.status (items x) held held' sf sf') → IfErr res (λ s. e.status ≡ s) →
    IfErr res (λ s. PutsNothing held held' sf sf') →
    Ends r e (outside left f held sf tap tf) (outside left f held' sf' tap tf)
text-written {X} r reads items e left f held held' sf sf' tap tf rises nothing res text memory puts
    same quiet =
    let old = outside left f held sf tap tf in
    let new = outside left f held' sf' tap tf in
    let written = written-by res text memory puts same quiet in
    record {
      taken = none-taken (e.status ≡ status.TooLong) left
          (some-short (IsTextOf r) e.status held held' sf sf' written);
      counts = record { source = omega arith; sink = rises; taps = omega arith };
      unread = λ leaves. record { left = refl; faults = refl };
      untapped = λ leaves. record { tap = λ j. refl; faults = refl };
      how = reads.how e old new (nothing, written);
    }
  where
    written-by : (res : Result X Status) → IfOk res (λ x. IsTextOf r (items x)) →
        IfErr res (λ s. s ≡ status.Memory) →
        IfOk res (λ x. PutsText e.status (items x) held held' sf sf') →
        IfErr res (λ s. e.status ≡ s) → IfErr res (λ s. PutsNothing held held' sf sf') →
        PutsSome (IsTextOf r) e.status held held' sf sf'
    written-by (Ok x) text memory puts same quiet =
        some-put (IsTextOf r) e.status (items x) held held' sf sf' text puts
    written-by (Err s) text memory puts same quiet =
        subst (λ x. PutsSome (IsTextOf r) x held held' sf sf') (sym (same ∙ memory)) quiet

pub usage-ends : (e : Ended) (o : Outside) → e.status ≡ status.Usage → HandsNothing e →
    Ends request.Nothing e o o
usage-ends e o is nothing = record {
  taken = none-taken (e.status ≡ status.TooLong) o.left (λ long. cc);
  counts = record { source = omega arith; sink = omega arith; taps = omega arith };
  unread = λ leaves. record { left = refl; faults = refl };
  untapped = λ leaves. record { tap = λ j. refl; faults = refl };
  how = record {
    status = is;
    quiet = record {
      handed = nothing;
      unwritten = record { held = refl; faults = refl };
      untapped = record { tap = λ j. refl; faults = refl };
    };
  };
}
