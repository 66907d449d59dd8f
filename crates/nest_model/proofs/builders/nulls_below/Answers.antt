use Rattle.std.proofs.Common.{ap, sym, ◌∙◌}
use Rattle.std.proofs.Math.Nat.{one-mul}
use Rattle.nest_memory.specs.TypeTree.{size_of}
use Rattle.nest_model.specs.BuilderLevels.{levels}
use Rattle.nest_model.specs.BuilderAppend.{nulls_appended}
use Rattle.nest_model.specs.BuilderAppendLaws.{nulls-all}
use Rattle.nest_model.proofs.builders.nulls_below.Goals as goal

pub returns-clause-fixed_size_list : goal.returns-clause-fixed_size_list
returns-clause-fixed_size_list c = λ k bits d. ap (λ n. levels (nulls_appended n d)) (one-mul (size_of k)) ∙ ap levels (sym (nulls-all (size_of k) d))
