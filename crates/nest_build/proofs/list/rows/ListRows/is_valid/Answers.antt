use Rattle.std.proofs.Common.{◌+◌, ◌∙◌, arith}
use Rattle.std.proofs.lemmas.List.{length-map}
use Rattle.nest_model.specs.Part.{count_rows}
use Rattle.nest_model.specs.BuilderRow.{Row}
use Rattle.nest_model.specs.BuilderFreeze.{row_bits}
use Rattle.nest_model.specs.BuilderFreezeLaws.{valid-bits}
use Rattle.nest_build.proofs.Rows.{row_list-bits, row_list-count, covers}
use Rattle.nest_build.proofs.list.rows.ListRows.is_valid.Goals as goal

pub is_valid-requires : goal.is_valid-requires
is_valid-requires g c =
    let a = c.self.inside in
    let e = row_list-count a.offsets a.validity c.args.self.now c.self.view_is c.self.invariant.fits in
    covers a.validity (count_rows a.offsets) (c.args.i + 1) c.self.invariant.fits (omega (arith, e, c.requires))

pub returns : goal.returns
returns g c =
    let a = c.self.inside in
    let bits = row_list-bits a.offsets a.validity c.args.self.now c.self.view_is c.self.invariant.fits in
    c.is_valid.ensures ∙ valid-bits a.validity (row_bits c.args.self.now) c.args.i bits (omega (arith, c.requires, length-map c.args.self.now (λ (r : Row). r.valid)))
