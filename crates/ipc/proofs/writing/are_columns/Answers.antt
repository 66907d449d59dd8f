use Rattle.std.proofs.Common.{◌+◌, map, drop, sym, ap, ◌∙◌, arith}
use Rattle.std.proofs.lemmas.List.{length-map}
use Rattle.nest_memory.specs.TypeOf.{field_of}
use Rattle.nest_memory.specs.TypeTree.{field_type}
use Rattle.nest_array.specs.Seen.{layout_of}
use Rattle.ipc.specs.EncodedStreams.{spec_are_columns}
use Rattle.ipc.proofs.WriteErrors.{lengths_differ, column_fails, column_passes}
use Rattle.ipc.specs.EncodedBatches.{left}
use Rattle.ipc.proofs.writing.are_columns.Goals as goal

pub returns-then-fields-columns : goal.returns-then-fields-columns
returns-then-fields-columns c =
    let fields = map field_of c.args.fields.now in
    sym (lengths_differ (map field_type fields) c.args.rows (map layout_of c.args.columns.now)
    (λ e. c.if-fields-columns.true (omega (arith, e, length-map c.args.fields.now field_of, length-map fields field_type, length-map c.args.columns.now layout_of))))

pub returns-then-not-is_column : goal.returns-then-not-is_column
returns-then-not-is_column c =
    let i = c.loop-i.i in
    let fields = c.args.fields.now in
    let columns = c.args.columns.now in
    let field = c.index-fields-i.result in
    let column = c.index-columns-i.result in
    let types = left field_of fields i field c.loop-i-test.true c.index-fields-i.is in
    let layouts = left layout_of columns i column (omega (arith, c.loop-i-test.true, c.loop-i.invariant.so_many)) c.index-columns-i.is in
    column_fails (map field_type (map field_of (drop i fields))) (map field_type (map field_of (drop (i + 1) fields))) (map layout_of (drop i columns)) (map layout_of (drop (i + 1) columns)) (field_type (field_of field)) (layout_of column) c.args.rows
    (spec_are_columns (map field_type (map field_of fields)) c.args.rows (map layout_of columns)) (ap (map field_type) types) layouts c.loop-i.invariant.left (sym c.is_column.ensures ∙ c.if-not-is_column.true)

pub loop-i-preserved : goal.loop-i-preserved
loop-i-preserved c =
    let i = c.loop-i.i in
    let fields = c.args.fields.now in
    let columns = c.args.columns.now in
    let field = c.index-fields-i.result in
    let column = c.index-columns-i.result in
    let types = left field_of fields i field c.loop-i-test.true c.index-fields-i.is in
    let layouts = left layout_of columns i column (omega (arith, c.loop-i-test.true, c.loop-i.invariant.so_many)) c.index-columns-i.is in
    record {
      so_many = c.loop-i.invariant.so_many;
      left = column_passes (map field_type (map field_of (drop i fields))) (map field_type (map field_of (drop (i + 1) fields))) (map layout_of (drop i columns)) (map layout_of (drop (i + 1) columns)) (field_type (field_of field)) (layout_of column) c.args.rows
          (spec_are_columns (map field_type (map field_of fields)) c.args.rows (map layout_of columns)) (ap (map field_type) types) layouts c.loop-i.invariant.left (sym c.is_column.ensures ∙ c.if-not-is_column.false);
    }
