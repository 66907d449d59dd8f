use Rattle.std.specs.Prelude.{map}
use Rattle.std.proofs.Common.{◌≡◌, length, sym, ◌∙◌, ap, subst, rules}
use Rattle.nest_array.specs.Seen.{layouts_of}
use Rattle.nest_model.specs.Meaning.{first_len}
use Rattle.nest_array.proofs.MadeFields.{names-count-back}
use Rattle.nest_array.specs.Columns.{column_fields}
use Rattle.ipc.specs.NamedColumns.{BatchFits}
use Rattle.ipc.proofs.NamedColumns.{batch-is, schema-is}
use Rattle.ipc.proofs.columns.batch_of_columns.Goals as goal

pub nullable_fields-requires : goal.nullable_fields-requires
nullable_fields-requires c =
    let h : BatchFits (map (λ n. n.now) c.args.names.now) (layouts_of c.deref.result.now) = search rules in
    names-count-back c.args.names.now c.deref.result.now h.0 ∙ ap (λ cs. length cs) (c.deref.ensures.value ∙ sym c.deref-2.ensures.value)

pub returns-in-Ok-clause-schema : goal.returns-in-Ok-clause-schema
returns-in-Ok-clause-schema c =
    let made = c.in-Ok.ensures.ok ∙ ap (λ cs. column_fields (map (λ n. n.now) c.args.names.now) (layouts_of cs)) c.deref-2.ensures.value in
    schema-is (record { fields = c.in-Ok.fields; metadata = c.new-metadata.result }) _ _ made c.new-metadata.ensures.empty

pub returns-in-Ok-clause-batch : goal.returns-in-Ok-clause-batch
returns-in-Ok-clause-batch c =
    batch-is (record { rows = c.first_len-rows.result; columns = c.args.columns }) (c.first_len-rows.ensures ∙ ap (λ cs. first_len (layouts_of cs)) c.deref-in-Ok.ensures.value)
