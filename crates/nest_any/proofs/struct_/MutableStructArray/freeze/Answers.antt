use Rattle.std.proofs.Common.{ap, sym, ◌∙◌}
use Rattle.nest_array.specs.Seen.{layouts_of}
use Rattle.nest_memory.specs.TypeOf.{type_of}
use Rattle.nest_model.specs.Accessors.{validity_of}
use Rattle.nest_model.specs.Meaning.{slots_of}
use Rattle.nest_model.specs.Nullness.{null_count}
use Rattle.nest_model.specs.BuilderTree.{builder_len}
use Rattle.nest_any.specs.Refusals.{struct_bits}
use Rattle.nest_any.proofs.Frozen.{array-fits, array-slots, bare-of-nulls, with-validity}
use Rattle.nest_any.proofs.struct_.MutableStructArray.freeze.Goals as goal

pub new-requires : goal.new-requires
new-requires c =
    let b = c.args.self.now in
    let f = c.in-Ok.ensures.ok in
    let w = c.complete.ensures.0 c.if-not-complete.false in
    let g = with-validity b (type_of c.in-Ok.data_type) (layouts_of c.in-Ok.values.items) c.in-Ok.validity c.without_full.result f (c.without_full.ensures.bits (struct_bits b) f.bits) (c.without_full.ensures.fits (builder_len b) f.fits) in
    array-fits b (type_of c.in-Ok.data_type) (layouts_of c.in-Ok.values.items) c.without_full.result c.known.ensures.kind c.known.ensures.records c.known.ensures.some w g

pub returns-in-Ok-clause-slots : goal.returns-in-Ok-clause-slots
returns-in-Ok-clause-slots c =
    let b = c.args.self.now in
    let f = c.in-Ok.ensures.ok in
    let w = c.complete.ensures.0 c.if-not-complete.false in
    let g = with-validity b (type_of c.in-Ok.data_type) (layouts_of c.in-Ok.values.items) c.in-Ok.validity c.without_full.result f (c.without_full.ensures.bits (struct_bits b) f.bits) (c.without_full.ensures.fits (builder_len b) f.fits) in
    ap slots_of c.new.ensures ∙ array-slots b (type_of c.in-Ok.data_type) (layouts_of c.in-Ok.values.items) c.without_full.result c.known.ensures.kind c.known.ensures.some w g

pub returns-in-Ok-clause-bare : goal.returns-in-Ok-clause-bare
returns-in-Ok-clause-bare c = λ z.
    let b = c.args.self.now in
    let f = c.in-Ok.ensures.ok in
    let w = c.complete.ensures.0 c.if-not-complete.false in
    let g = with-validity b (type_of c.in-Ok.data_type) (layouts_of c.in-Ok.values.items) c.in-Ok.validity c.without_full.result f (c.without_full.ensures.bits (struct_bits b) f.bits) (c.without_full.ensures.fits (builder_len b) f.fits) in
    let fits = array-fits b (type_of c.in-Ok.data_type) (layouts_of c.in-Ok.values.items) c.without_full.result c.known.ensures.kind c.known.ensures.records c.known.ensures.some w g in
    ap validity_of c.new.ensures ∙ bare-of-nulls (type_of c.in-Ok.data_type) (layouts_of c.in-Ok.values.items) c.without_full.result fits c.without_full.ensures.null (sym (ap null_count c.new.ensures) ∙ z)
