use Rattle.der.proofs.Promised.{one_writing, written_again}
use Rattle.mech_types.proofs.Listing.{exact_list}
use Rattle.spnego.proofs.Exactly.{exact_targ, exact_init}
use Rattle.spnego.proofs.laws.a_legal_token_has_no_other_writing.Goals as goal

pub returns : goal.returns
returns c =
    record {
      targ = (one_writing exact_targ, written_again exact_targ);
      init = (one_writing exact_init, written_again exact_init);
      list = (one_writing exact_list, written_again exact_list);
    }
