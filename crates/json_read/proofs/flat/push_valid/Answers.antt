use Rattle.std.proofs.Common.{◌≡◌, ap, sym, ◌∙◌}
use Rattle.json.specs.Value.{value_view}
use Rattle.nest_any.specs.Trees.{tree_of}
use Rattle.nest_any.specs.Words.{builder_type}
use Rattle.nest_array.specs.SeenScalar.{shown_type}
use Rattle.json_read.specs.FlatValues.{flat_error, has_values_format}
use Rattle.json_read.specs.JsonSlots.{values_physical_type}
use Rattle.json_read.proofs.Leaves.{fault_of_valid, on-ok, values-format}
use Rattle.json_write.specs.Formats.{format_of_type}
use Rattle.json_write.specs.declared.format.ValueFormat.{ValueFormat}
use Rattle.nest_memory.specs.Physical.{physical_type}
use Rattle.nest_memory.specs.TypeTree.{TypeTree, size_of}
use Rattle.nest_memory.specs.declared.datatypes.physical_type.PhysicalType.{PhysicalType}
use Rattle.json_read.proofs.flat.push_valid.Goals as goal

pub returns-in-Err-clause-error : goal.returns-in-Err-clause-error
returns-in-Err-clause-error c =
    let t = builder_type (tree_of c.args.builder.now) in
    let j = value_view c.args.value.now in
    let kind : values_physical_type t ≡ c.to_physical_type-physical.result =
    ap (λ (u : TypeTree). physical_type (shown_type u)) (sym c.data_type-data_type.ensures) ∙ ap physical_type (sym c.values_type-values.ensures) ∙ sym c.to_physical_type-physical.ensures in
    let format : format_of_type t ≡ c.of_type-format.result = ap format_of_type (sym c.data_type-data_type.ensures) ∙ sym c.of_type-format.ensures in
    fault_of_valid t j c.requires.valid
    ∙ ap (λ (p : PhysicalType). flat_error p (size_of (shown_type t)) (format_of_type t) j) kind
    ∙ ap (λ (v : ValueFormat). flat_error c.to_physical_type-physical.result (size_of (shown_type t)) v j) format
    ∙ c.in-Err.ensures.error (size_of (shown_type t))

pub plain_of-requires-clause-format : goal.plain_of-requires-clause-format
plain_of-requires-clause-format c =
    let t = builder_type (tree_of c.args.builder.now) in
    let kind : values_physical_type t ≡ c.to_physical_type-physical.result =
    ap (λ (u : TypeTree). physical_type (shown_type u)) (sym c.data_type-data_type.ensures) ∙ ap physical_type (sym c.values_type-values.ensures) ∙ sym c.to_physical_type-physical.ensures in
    let format : format_of_type t ≡ c.of_type-format.result = ap format_of_type (sym c.data_type-data_type.ensures) ∙ sym c.of_type-format.ensures in
    sym (λ i. has_values_format (kind i) (format i)) ∙ values-format t

pub returns-in-Ok-clause-valid : goal.returns-in-Ok-clause-valid
returns-in-Ok-clause-valid c =
    let t = builder_type (tree_of c.args.builder.now) in
    let j = value_view c.args.value.now in
    let kind : values_physical_type t ≡ c.to_physical_type-physical.result =
    ap (λ (u : TypeTree). physical_type (shown_type u)) (sym c.data_type-data_type.ensures) ∙ ap physical_type (sym c.values_type-values.ensures) ∙ sym c.to_physical_type-physical.ensures in
    let format : format_of_type t ≡ c.of_type-format.result = ap format_of_type (sym c.data_type-data_type.ensures) ∙ sym c.of_type-format.ensures in
    on-ok _ (fault_of_valid t j c.requires.valid
    ∙ ap (λ (p : PhysicalType). flat_error p (size_of (shown_type t)) (format_of_type t) j) kind
    ∙ ap (λ (v : ValueFormat). flat_error c.to_physical_type-physical.result (size_of (shown_type t)) v j) format
    ∙ c.in-Ok.ensures.valid (size_of (shown_type t)))
