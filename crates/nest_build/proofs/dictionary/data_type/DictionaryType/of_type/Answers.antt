use Rattle.nest_memory.specs.TypeOf.{type_of}
use Rattle.nest_build.proofs.Dictionaries.{keyed-type}
use Rattle.nest_build.proofs.dictionary.data_type.DictionaryType.of_type.Goals as goal

pub invariant_of-result : goal.invariant_of-result
invariant_of-result g c = (keyed-type (type_of c.args.data_type) _ c.requires, c.requires)
