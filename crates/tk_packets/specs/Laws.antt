-- That the marks of a filter can be read out of their bytes again.
use Rattle.std.specs.Prelude.{◌≡◌, Bool, List, length, map}
use Rattle.std.specs.List.{range_with_len}
use Rattle.tk_shape.specs.declared.shape.Shape.{Shape}
use Rattle.tk_kernel.specs.Chosen.{has_bit}
use Rattle.tk_packets.specs.Frames.{marks_len}
use Rattle.tk_packets.specs.Marks.{mark_bytes}

abbrev pub MarksAreReadAgain : Type 0
MarksAreReadAgain =
    (shape : Shape) (marks : List Bool) → length marks ≡ shape.filter_bits →
    map (has_bit (mark_bytes (marks_len shape) marks)) (range_with_len 0 shape.filter_bits) ≡ marks
