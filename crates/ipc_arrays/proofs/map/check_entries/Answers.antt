use Rattle.std.proofs.Common.{sym, ap, ◌∙◌}
use Rattle.std.specs.Prelude.{Bool}
use Rattle.ipc_flatbuf.specs.ReadResults.{check}
use Rattle.ipc_flatbuf.specs.declared.error.IpcReadError.TheVariants.{TypeRange}
use Rattle.nest_memory.specs.TypeOf.{type_of, field_of}
use Rattle.ipc_arrays.proofs.Nested.{pairs_are}
use Rattle.ipc_arrays.proofs.map.check_entries.Goals as goal

pub returns-then-has_pairs-clause-checked : goal.returns-then-has_pairs-clause-checked
returns-then-has_pairs-clause-checked c =
    sym (ap (λ (b : Bool). check b TypeRange) (sym (pairs_are (type_of c.args.data_type.now) (field_of c.args.field.now) c.args.sorted c.requires) ∙ sym c.has_pairs.ensures ∙ c.if-has_pairs.true))

pub returns-else-has_pairs-clause-checked : goal.returns-else-has_pairs-clause-checked
returns-else-has_pairs-clause-checked c =
    sym (ap (λ (b : Bool). check b TypeRange) (sym (pairs_are (type_of c.args.data_type.now) (field_of c.args.field.now) c.args.sorted c.requires) ∙ sym c.has_pairs.ensures ∙ c.if-has_pairs.false))
