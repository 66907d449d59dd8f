use Rattle.std.proofs.Common.{◌+◌, refl, rules, arith}
use Rattle.std.proofs.Output.{has_written_append, has_written_of_eq}
use Rattle.nest_array.specs.Seen.{layouts_of}
use Rattle.nest_array.proofs.SameRows.{struct-known, children-cover, record-shown}
use Rattle.nest_memory.specs.TypeTree.{fields_of}
use Rattle.nest_model.specs.Layout.{layout_type}
use Rattle.json_write.proofs.Nesting.{record-text}
use Rattle.json_write.proofs.struct_rows.write_struct_slot.Goals as goal

pub write_prefixed_members-requires : goal.write_prefixed_members-requires
write_prefixed_members-requires g c =
    let a = c.args.array.now in
    let cs = layouts_of c.values.result.now in
    let x = struct-known a cs c.known.ensures.fits c.known.ensures.kind c.values.ensures in
    children-cover a cs (c.args.i + 1) x c.known.ensures.kind c.values.ensures (omega arith)

pub returns : goal.returns
returns g c plain ok =
    let a = c.args.array.now in
    let fs = fields_of (layout_type a) in
    let cs = layouts_of c.values.result.now in
    let x = struct-known a cs c.known.ensures.fits c.known.ensures.kind c.values.ensures in
    let one = c.write_str-2.ensures.writes plain (search rules) in
    let two = c.write_prefixed_members.ensures fs x.each_type c.requires.prefixes one.plain (search rules) in
    let three = c.write_str-3.ensures.writes two.plain ok in
    has_written_of_eq _ _ _ _ _ (record-text (layout_type a) fs _ _ x.typed refl (record-shown a cs c.args.i _ c.known.ensures.kind c.values.ensures c.is_null.ensures.place c.if-is_null.false))
    (has_written_append _ _ _ _ _ _ (has_written_append _ _ _ _ _ _ one two) three)
