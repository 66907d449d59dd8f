use Rattle.nest_model.specs.BuilderComplete.{IsComplete}
use Rattle.bench_array.specs.Trees.{nested_tree}
use Rattle.bench_array.proofs.building.push_all_nested.Given as goal

abbrev pub invariant-rows : goal.invariant-rows
invariant-rows l = record {
  whole : IsComplete (nested_tree l.builder.data_type l.builder.rows l.builder.values.data_type l.builder.values.rows l.builder.values.values);
}
