-- Some targets, by computation.
use Rattle.std.proofs.Common.{◌≡◌, true, false, codes, refl}
use Rattle.text.specs.Pieces.{pieces}
use Rattle.targets.specs.Addresses.{decimal255, ipv4, hex_group, groups, cut_double, ipv6, target_is_address}

pub with_slash : target_is_address (codes "HTTP/10.0.0.1") ≡ true
unfolding target_is_address ipv4 decimal255 pieces
with_slash = refl

pub any_address : target_is_address (codes "::") ≡ true
unfolding target_is_address ipv4 ipv6 cut_double groups hex_group decimal255 pieces
any_address = refl

pub seven_groups_lem : target_is_address (codes "1:2:3:4:5:6:7::") ≡ true
unfolding target_is_address ipv4 ipv6 cut_double groups hex_group decimal255 pieces
seven_groups_lem = refl

pub zero_in_front_lem : target_is_address (codes "10.0.0.01") ≡ false
unfolding target_is_address ipv4 ipv6 cut_double groups hex_group decimal255 pieces
zero_in_front_lem = refl

pub brackets : target_is_address (codes "[::1]") ≡ false
unfolding target_is_address ipv4 ipv6 cut_double groups hex_group decimal255 pieces
brackets = refl
