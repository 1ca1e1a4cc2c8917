-- A fault of a read is one of a text that is said and read, whatever is wrong with the text.
use Rattle.std.specs.Prelude.{Option}
use Rattle.tk_client.specs.declared.say_error.SayError.{SayError}
use Rattle.embed.specs.declared.fault.Fault.{Fault}
use Rattle.embed.specs.declared.fault.Fault.TheVariants.{Shape, Say, Frame, NotNext, Pin, Serve, Take, Output, Memory}
use Rattle.embed.specs.Faults.{IsReadFault, IsTalkFault}

pub reads-talk : (wrong : Option SayError) (fault : Fault) → IsReadFault fault → IsTalkFault wrong fault
reads-talk wrong (Shape error) is = is
reads-talk wrong (Say error) is = absurd is
reads-talk wrong (Frame error) is = is
reads-talk wrong (NotNext applied) is = is
reads-talk wrong (Pin error) is = is
reads-talk wrong (Serve error) is = is
reads-talk wrong (Take error) is = is
reads-talk wrong (Output error) is = is
reads-talk wrong Memory is = is
