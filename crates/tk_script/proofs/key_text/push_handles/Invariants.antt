-- The lines of the handles so far stand after what was there, and their arrays are of bytes.
use Rattle.std.proofs.Common.{◌≡◌, ◌++◌, map, take}
use Rattle.std.specs.List.{AllByRecursion}
use Rattle.tk_script.specs.Printing.{text_of, handle_line, HasHandle}
use Rattle.tk_script.proofs.key_text.push_handles.Given as goal

abbrev pub invariant-loop-handle : goal.invariant-loop-handle
invariant-loop-handle l = record {
  text : l.out.items ≡ l.fn.out.items ++ text_of (map handle_line (take l.handle-index l.handles));
  has : AllByRecursion HasHandle (take l.handle-index l.handles);
}
