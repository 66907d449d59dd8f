use Rattle.std.proofs.Common.{◌+◌, sym, subst}
use Rattle.nest_model.specs.Fits.{EachCovers}
use Rattle.ipc_arrays.proofs.Covers.{record_covers}
use Rattle.ipc_arrays.proofs.struct_.child_windows.Goals as goal

pub aligned_windows-requires : goal.aligned_windows-requires
aligned_windows-requires c = subst (λ cs. EachCovers cs (c.args.offset + c.args.count)) (sym c.values.ensures) (record_covers c.args.array.now c.args.offset c.args.count c.known.ensures.kind c.known.ensures.fits c.requires)
