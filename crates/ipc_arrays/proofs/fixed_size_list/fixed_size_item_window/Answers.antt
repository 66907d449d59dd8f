use Rattle.std.proofs.Common.{◌*◌, ap, arith}
use Rattle.nest_memory.specs.TypeTree.{size_of}
use Rattle.nest_model.specs.Accessors.{child_of}
use Rattle.nest_model.specs.Layout.{layout_type}
use Rattle.nest_model.specs.Meaning.{len}
use Rattle.nest_model.specs.Runs.{product-fits}
use Rattle.ipc_arrays.proofs.fixed_size_list.fixed_size_item_window.Goals as goal

pub new-requires : goal.new-requires
new-requires c =
    let a = c.args.array.now in
    let n = ap len c.known.ensures.kind in
    let b = product-fits c.args.offset c.args.count (len (child_of a)) (size_of (layout_type a)) (omega (arith, c.requires, n)) in
    omega (arith, b, ap len c.values-items.ensures, ap (λ z. c.args.offset * z) c.size-size.ensures.size, ap (λ z. c.args.count * z) c.size-size.ensures.size)
