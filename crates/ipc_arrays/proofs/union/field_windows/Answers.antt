use Rattle.std.proofs.Common.{◌+◌, sym, subst}
use Rattle.nest_model.specs.Accessors.{start_of}
use Rattle.nest_model.specs.Fits.{EachCovers}
use Rattle.nest_array.specs.Seen.{layouts_of}
use Rattle.ipc_arrays.specs.Encoding.{sparse_begin}
use Rattle.ipc_arrays.proofs.Covers.{sparse_covers}
use Rattle.ipc_arrays.proofs.union.field_windows.Goals as goal

pub aligned_windows-requires : goal.aligned_windows-requires
aligned_windows-requires c =
    let a = c.args.array.now in
    subst (λ b. EachCovers (layouts_of c.fields-in-None.result.now) (b + c.args.count)) (sym c.sparse_child_offset.ensures)
    (subst (λ cs. EachCovers cs (sparse_begin (start_of a) c.args.offset c.args.count + c.args.count)) (sym c.fields-in-None.ensures) (sparse_covers a c.args.offset c.args.count c.known.ensures.kind c.known.ensures.fits (sym c.in-None.ensures) c.requires))
