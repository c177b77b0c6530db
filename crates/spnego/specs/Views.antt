-- What the code's values say, their references read.
use Rattle.spnego.specs.Tokens.{Fields, Targ, Init}
use Rattle.spnego.specs.Reading.{seen}
use Rattle.spnego.specs.declared.fields.TokenFields.{TokenFields}
use Rattle.spnego.specs.declared.neg_token_targ.NegTokenTarg.{NegTokenTarg}
use Rattle.spnego.specs.declared.neg_token_init.NegTokenInit.{NegTokenInit}
use Rattle.sspi.specs.declared.fault.Fault.{Fault}
use Rattle.std.specs.Prelude.{Ok, Err, Result}

abbrev pub plain_fields : TokenFields → Fields
plain_fields f = record { first = seen f.first; second = seen f.second; third = seen f.third; fourth = seen f.fourth }

abbrev pub fields_read : Result TokenFields Fault → Result Fields Fault
fields_read (Ok f) = Ok (plain_fields f)
fields_read (Err e) = Err e

abbrev pub plain_targ : NegTokenTarg → Targ
plain_targ t = record { neg_state = seen t.neg_state; supported_mech = seen t.supported_mech; response_token = seen t.response_token; mech_list_mic = seen t.mech_list_mic }

abbrev pub targ_read : Result NegTokenTarg Fault → Result Targ Fault
targ_read (Ok t) = Ok (plain_targ t)
targ_read (Err e) = Err e

abbrev pub plain_init : NegTokenInit → Init
plain_init t = record { this_mech = t.this_mech.now; mech_types = seen t.mech_types; req_flags = seen t.req_flags; mech_token = seen t.mech_token; mech_list_mic = seen t.mech_list_mic }

abbrev pub init_read : Result NegTokenInit Fault → Result Init Fault
init_read (Ok t) = Ok (plain_init t)
init_read (Err e) = Err e
