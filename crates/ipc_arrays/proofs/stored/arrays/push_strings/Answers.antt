use Rattle.ipc_arrays.specs.Stored.{string_contents, laid_of}
use Rattle.ipc_arrays.proofs.Converting.{three_laid}
use Rattle.ipc_arrays.proofs.stored.arrays.push_strings.Goals as goal

pub returns : goal.returns
unfolding string_contents
returns c = three_laid (laid_of c.args.plain.now) (laid_of c.push_content.new.plain) (laid_of c.push_content-2.new.plain) (laid_of c.push_content-3.new.plain) c.args.bits.now c.args.packed.now.offsets.items c.args.packed.now.values.items
    c.in_ok-push_content.ensures (rw c.deref.ensures.value at c.in_ok-push_content-2.ensures) (rw c.deref-2.ensures.value at c.in_ok-push_content-3.ensures)
