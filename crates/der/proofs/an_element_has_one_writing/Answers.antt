use Rattle.der.specs.Reading.{take_of, illegal}
use Rattle.der.proofs.Ways.{only_at}
use Rattle.der.proofs.Taking.{take_written, take_read, refused_take, one_writing}
use Rattle.der.proofs.an_element_has_one_writing.Goals as goal

pub returns : goal.returns
returns c = record { back = take_written; only = take_read; refused = λ xs e p. only_at illegal e (take_of xs) (refused_take xs) p; one = one_writing }
