use Rattle.std.proofs.Common.{rules, ◌≡◌, ◌+◌, ◌++◌, ◌∷◌, [], List, map, take, sym, ap, ◌∙◌}
use Rattle.std.proofs.Output.{has_written_append, has_written_of_eq}
use Rattle.nest_memory.specs.TypeOf.{field_of}
use Rattle.ipc_schema.specs.FieldSupport.{field_support_of}
use Rattle.cli_rows.specs.SupportText.{column_line, fields_after, text_of_columns}
use Rattle.cli_rows.proofs.Support.{rest_of, rest_after_last, text_of_last, next_column}
use Rattle.cli_rows.proofs.text.support.write_columns.Goals as goal

pub loop-column-preserved : goal.loop-column-preserved
loop-column-preserved g c =
    let k = c.loop-column.column-index in
    let before = map field_support_of (take k c.args.columns.now) in
    let column = field_support_of c.column-item.result in
    let fields = map field_of c.args.fields.now in
    let next : map field_support_of (take (k + 1) c.args.columns.now) ≡ before ++ column ∷ [] = next_column c.args.columns.now k c.column-item.result c.column-item.result c.loop-column-test.true (sym c.column-item.is) in
    let rest : map field_of c.loop-column.rest.now ≡ rest_of before fields = c.loop-column.invariant.1 in (
      λ plain.
          let done = c.loop-column.invariant.0 plain in
          let one = c.write_column.ensures done.plain (search rules) in
          let text = ap (λ (fs : List _). text_of_columns before fields ++ column_line column.unsupported fs) rest ∙ sym (text_of_last before column fields) ∙ ap (λ (cs : List _). text_of_columns cs fields) (sym next) in
          has_written_of_eq _ _ _ _ _ text (has_written_append _ _ _ _ _ _ done one),
      c.rest_after-rest.ensures ∙ ap (fields_after column.unsupported) rest ∙ sym (rest_after_last before column fields) ∙ ap (λ (cs : List _). rest_of cs fields) (sym next),
    )
