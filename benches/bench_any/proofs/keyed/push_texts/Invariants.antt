use Rattle.nest_any.specs.Flat.{values_tree}
use Rattle.nest_memory.specs.declared.datatypes.IntegerType.TheVariants as integers
use Rattle.nest_model.specs.BuilderTree.{dictionary}
use Rattle.nest_model.specs.BuilderComplete.{IsComplete}
use Rattle.bench_any.proofs.keyed.push_texts.Given as goal

abbrev pub invariant-texts : goal.invariant-texts
invariant-texts l = record {
  whole : IsComplete (dictionary integers.Int32 l.keyed.data_type l.keyed.rows (values_tree l.keyed.values.values));
}
