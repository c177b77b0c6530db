-- What the code's values say.
use Rattle.spnego_writer.specs.Writing.{Lens}
use Rattle.spnego_writer.specs.declared.lengths.Lengths.{Lengths}
use Rattle.sspi.specs.declared.fault.Fault.{Fault}
use Rattle.std.specs.Prelude.{Ok, Err, Result}

abbrev pub plain_lens : Lengths → Lens
plain_lens n = record { body = n.body; sequence = n.sequence; content = n.content; token = n.token }

abbrev pub lens_read : Result Lengths Fault → Result Lens Fault
lens_read (Ok n) = Ok (plain_lens n)
lens_read (Err e) = Err e
