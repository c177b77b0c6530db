use Rattle.std.proofs.Common.{◌+◌, ◌<◌, arith}
use Rattle.spnego.specs.Reading.{seen}
use Rattle.spnego.specs.declared.part.Kind.TheVariants.{OctetString}
use Rattle.spnego_writer.proofs.Putting.{field_bound}
use Rattle.spnego_writer.proofs.fields.sequence_len.Goals as goal
use Rattle.spnego_writer.proofs.fields.sequence_len.Goals.{In_ok-d}

-- the four lengths together are small
sum_fits : (c : In_ok-d) → c.in_ok-a.a + c.in_ok-b.b + c.in_ok-c.c + c.in_ok-d.d < 262160
sum_fits c =
    omega (
      arith,
      field_bound c.args.layout.first c.in_ok-a.a (seen c.args.fields.first) (rw c.fields.ensures at c.in_ok-a.ensures),
      field_bound c.args.layout.second c.in_ok-b.b (seen c.args.fields.second) (rw c.fields.ensures at c.in_ok-b.ensures),
      field_bound OctetString c.in_ok-c.c (seen c.args.fields.third) (rw c.fields.ensures at c.in_ok-c.ensures),
      field_bound OctetString c.in_ok-d.d (seen c.args.fields.fourth) (rw c.fields.ensures at c.in_ok-d.ensures),
    )

pub overflow_add-body : goal.overflow_add-body
overflow_add-body c = omega (arith, sum_fits c)

pub overflow_add-body-2 : goal.overflow_add-body-2
overflow_add-body-2 c = omega (arith, sum_fits c)

pub overflow_add-body-3 : goal.overflow_add-body-3
overflow_add-body-3 c = omega (arith, sum_fits c)
