-- Keys are 8 bytes of a secret.
use Rattle.std.specs.Prelude.{ℕ, List}
use Rattle.mechanism.specs.Paddings.{padded}

-- the key of a secret
abbrev pub key_of : List ℕ → List ℕ
key_of secret = padded 8 secret
