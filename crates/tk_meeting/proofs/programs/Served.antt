-- What the clauses of a server say of what passed over its line.
use Rattle.tk_meeting.proofs.Terms.{[], length, ◌++◌, None, refl, sym, inl, inr, take, take-append_seam, taken}
use Rattle.tk_meeting.proofs.Terms.{ServersAct}
use Rattle.tk_serve.specs.Setup.{setup}
use Rattle.tk_serve.specs.Courses.{exchanged}
use Rattle.tk_meeting.proofs.programs.Clauses.{begun}

pub servers-act : ServersAct
servers-act shape left rest gone new none (inl ran) =
    let xs = exchanged shape ran.frames in
    record {
      passed = xs;
      all = begun gone (setup shape) xs new.past none ran.course.order;
      acts =
          record { packets = ran.frames; last = None; count = length xs; order = sym (take-append_seam xs []) };
    }
servers-act shape left rest gone new none (inr ran) =
    let xs = take ran.course.so_far (exchanged shape ran.frames ++ taken ran.course.last) in
    record {
      passed = xs;
      all = begun gone (setup shape) xs new.past none ran.course.order;
      acts =
          record {
            packets = ran.frames;
            last = ran.course.last;
            count = ran.course.so_far;
            order = refl;
          };
    }
