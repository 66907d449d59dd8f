use Rattle.std.proofs.Common.{rules, arith}
use Rattle.std.specs.Cmp.Derive.Mapped.{pointwise-map}
use Rattle.std.proofs.lemmas.Bool.Decides.{Decides-at}
use Rattle.ipc_schema.specs.SchemaEq.{same_schema-decides}
use Rattle.ipc_schema.proofs.equality.SchemaPartialEq.eq.Goals as goal

pub returns-then-eq-clause-computes : goal.returns-then-eq-clause-computes
returns-then-eq-clause-computes c = grind (arith, pointwise-map)

pub returns-then-eq-clause-decides : goal.returns-then-eq-clause-decides
returns-then-eq-clause-decides c = Decides-at _ _ (returns-then-eq-clause-computes c) (same_schema-decides _ _)

pub returns-else-eq-clause-computes : goal.returns-else-eq-clause-computes
returns-else-eq-clause-computes c = search (rules, pointwise-map)

pub returns-else-eq-clause-decides : goal.returns-else-eq-clause-decides
returns-else-eq-clause-decides c = Decides-at _ _ (returns-else-eq-clause-computes c) (same_schema-decides _ _)
