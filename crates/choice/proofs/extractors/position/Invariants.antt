use Rattle.std.proofs.Common.{◌≡◌}
use Rattle.std.specs.Iterator.Adapters.{enumerate_source, enumerate_count}
use Rattle.mech_types.specs.Listed.{items}
use Rattle.choice.specs.Choosing.{place_from, place_of}
use Rattle.choice.proofs.extractors.position.Given as goal

abbrev pub invariant-loop-i : goal.invariant-loop-i
invariant-loop-i l =
    (goal.iterator-loop-i).can_next l.i-iterator
    × (goal.iterator-loop-i).is_finite l.i-iterator
    × (place_from (enumerate_count l.i-iterator) l.oid (items (enumerate_source l.i-iterator)) ≡ place_of l.oid (items l.list))
