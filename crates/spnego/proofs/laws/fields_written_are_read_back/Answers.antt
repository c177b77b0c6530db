use Rattle.der.proofs.Promised.{read_back}
use Rattle.mech_types.proofs.Listing.{exact_list}
use Rattle.spnego.proofs.Exactly.{exact_targ, exact_init}
use Rattle.spnego.proofs.laws.fields_written_are_read_back.Goals as goal

pub returns : goal.returns
returns c = record { targ = read_back exact_targ; init = read_back exact_init; list = read_back exact_list }
