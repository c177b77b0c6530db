-- The names and the numbers of the layers.
use Rattle.std.specs.Prelude.{ℕ, List, codes}
use Rattle.sspi.specs.declared.fault.Layer.{Layer}
use Rattle.sspi.specs.declared.fault.Layer.TheVariants.{Token, Negotiation, Mechanism}

-- the bytes of each layer's name
abbrev pub layer_name : Layer → List ℕ
layer_name Token = codes "token"
layer_name Negotiation = codes "negotiation"
layer_name Mechanism = codes "mechanism"

-- a number for each layer, in the order of the declaration
abbrev pub layer_number : Layer → ℕ
layer_number Token = 0
layer_number Negotiation = 1
layer_number Mechanism = 2
