use Rattle.nest_model.specs.BuilderComplete.{IsComplete}
use Rattle.bench_array.specs.Trees.{sized_tree}
use Rattle.bench_array.proofs.building.push_sized.Given as goal

abbrev pub invariant-rows : goal.invariant-rows
invariant-rows l = record {
  whole : IsComplete (sized_tree l.builder.data_type l.builder.rows l.builder.values);
}
