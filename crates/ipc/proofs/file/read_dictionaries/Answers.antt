use Rattle.std.proofs.lemmas.Result.{err_from_is_err_and}
use Rattle.ipc.specs.Streams.{state_of}
use Rattle.ipc.specs.Files.{dictionaries_at}
use Rattle.ipc.proofs.BlockLoops.{dictionary_fails, dictionary_goes_on, dictionaries_end}
use Rattle.ipc.proofs.file.read_dictionaries.Goals as goal

pub returns-in_err-read_dictionary_block : goal.returns-in_err-read_dictionary_block
returns-in_err-read_dictionary_block c =
    let p = err_from_is_err_and c.from_residual.result c.from_residual.ensures.1 in
    let bytes = c.args.bytes.now in
    let blocks = c.args.blocks.now in
    rw (p.1, p.2) (dictionary_fails (state_of c.loop-block.state) bytes blocks c.loop-block.block-index (dictionaries_at (state_of c.args.state.now) bytes blocks) c.in_err-read_dictionary_block.field-0.0 c.loop-block-test.true (rw c.block_bytes.ensures at c.in_err-read_dictionary_block.ensures.known) c.loop-block.invariant)

pub loop-block-preserved : goal.loop-block-preserved
loop-block-preserved c =
    let bytes = c.args.bytes.now in
    let blocks = c.args.blocks.now in
    dictionary_goes_on (state_of c.loop-block.state) bytes blocks c.loop-block.block-index (dictionaries_at (state_of c.args.state.now) bytes blocks) (state_of c.read_dictionary_block.new.state) c.loop-block-test.true (rw c.block_bytes.ensures at c.in_ok-read_dictionary_block.ensures.known) c.loop-block.invariant

pub returns : goal.returns
returns c =
    let bytes = c.args.bytes.now in
    let blocks = c.args.blocks.now in
    dictionaries_end (state_of c.loop-block.state) bytes blocks c.loop-block.block-index (dictionaries_at (state_of c.args.state.now) bytes blocks) c.loop-block-test.false c.loop-block.invariant
