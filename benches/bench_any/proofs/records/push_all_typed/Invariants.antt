use Rattle.nest_model.specs.BuilderAddRow.{HasCompleteChildren}
use Rattle.bench_any.proofs.records.push_all_typed.Given as goal

abbrev pub invariant-rows : goal.invariant-rows
invariant-rows l = record {
  whole : HasCompleteChildren l.records;
}
