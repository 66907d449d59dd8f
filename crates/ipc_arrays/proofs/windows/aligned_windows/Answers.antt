use Rattle.std.proofs.Common.{◌+◌, ◌++◌, ◌∷◌, [], ap, sym, ◌∙◌, arith, length, length-append}
use Rattle.std.proofs.lemmas.List.{take_all}
use Rattle.nest_array.specs.Seen.{layouts_of}
use Rattle.ipc_arrays.specs.Encoding.{each_window}
use Rattle.ipc_arrays.proofs.Covers.{each_taken, covers_at}
use Rattle.ipc_arrays.proofs.windows.aligned_windows.Goals as goal

pub new-requires : goal.new-requires
new-requires c = covers_at c.args.arrays.now c.loop-array.array-index c.array-item.result (c.args.offset + c.args.count) c.requires c.loop-array-test.true c.array-item.is

pub loop-array-preserved : goal.loop-array-preserved
loop-array-preserved c =
    let xs = c.args.arrays.now in
    let k = c.loop-array.array-index in
    let old = c.loop-array.windows.items in
    let i = c.loop-array.invariant in
    let e = c.push_reserved.ensures.items in
    record {
      room = omega (arith, c.push_reserved.ensures.capacity, i.room);
      long = omega (arith, ap length e, length-append old (c.new.result ∷ []), i.long);
      taken =
          e
          ∙ (λ w. i.taken w ++ c.new.ensures.parts w ∷ [])
          ∙ sym (each_taken xs k c.array-item.result c.args.offset c.args.count c.loop-array-test.true c.array-item.is);
    }

pub returns : goal.returns
returns c = c.loop-array.invariant.taken ∙ ap (λ xs. each_window (layouts_of xs) c.args.offset c.args.count) (take_all c.loop-array.array-index c.args.arrays.now c.loop-array-test.false)
