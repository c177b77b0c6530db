-- The two sides of a negotiation.
use Rattle.mechanism.specs.declared.mechanism.Side.{Side}
use Rattle.mechanism.specs.declared.mechanism.Side.TheVariants.{Client, Server}

abbrev pub other_side : Side → Side
other_side Client = Server
other_side Server = Client
