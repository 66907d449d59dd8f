use Rattle.std.specs.Prelude.{None}
use Rattle.std.proofs.Common.{ap, ◌∙◌}
use Rattle.nest_model.specs.Layout.{fixed_size_binary}
use Rattle.nest_model.specs.Meaning.{slots_of}
use Rattle.nest_array.proofs.FixedSizeBinaries.{rows-fit, rows-slots, fits-along}
use Rattle.nest_array.proofs.fixed_size_binary.FixedSizeBinaryArray.from_slice.Goals as goal

pub new-requires : goal.new-requires
new-requires g c =
    fits-along _ _ g.row.N c.args.rows.now c.default_datatype-data_type.ensures c.in_ok-values.ensures.ok (rows-fit c.args.rows.now g.row.N c.requires c.in_ok-values.ensures.each)

pub returns-clause-slots : goal.returns-clause-slots
returns-clause-slots g c =
    ap slots_of (c.new.ensures ∙ (λ i. fixed_size_binary (c.default_datatype-data_type.ensures i) (c.in_ok-values.ensures.ok i) None))
    ∙ rows-slots c.args.rows.now g.row.N c.requires c.in_ok-values.ensures.each
