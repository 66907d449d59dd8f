use Rattle.std.proofs.Common.{sym, ◌∙◌}
use Rattle.nest_memory.specs.TypeOf.{type_of}
use Rattle.nest_array.proofs.Keyed.{typed, untyped}
use Rattle.nest_array.proofs.types.is_dictionary.Goals as goal

pub returns-in-None : goal.returns-in-None
returns-in-None c = untyped (type_of c.args.data_type.now) (sym c.key_type.ensures ∙ c.in-None.is)

pub returns-in-Some : goal.returns-in-Some
returns-in-Some c = typed (type_of c.args.data_type.now) _ (sym c.key_type.ensures ∙ c.in-Some.is)
