use Rattle.std.proofs.lemmas.Result.{err_from_is_err_and}
use Rattle.ipc.specs.Streams.{state_of}
use Rattle.ipc_io.proofs.Ranges.{kept_on}
use Rattle.ipc_io.proofs.FileSteps.{dictionaries_unread, dictionary_fails, dictionary_goes_on, dictionaries_end}
use Rattle.ipc_io.proofs.file_reader.read_dictionaries.Goals as goal

pub returns-in_err-own-clause-known : goal.returns-in_err-own-clause-known
returns-in_err-own-clause-known g c =
    let p = err_from_is_err_and c.from_residual.result c.from_residual.ensures.1 in
    rw (p.1, p.2) (dictionaries_unread _ (state_of c.args.state.now) (state_of c.loop-block.state) c.args.blocks.now c.in_err-own.field-0.0 c.in_err-own.ensures.err)

pub returns-in_err-own-clause-kept : goal.returns-in_err-own-clause-kept
returns-in_err-own-clause-kept g c = kept_on _ _ _ c.loop-block.invariant.kept c.read_block.ensures.kept

pub returns-in_err-read_dictionary_block-clause-known : goal.returns-in_err-read_dictionary_block-clause-known
returns-in_err-read_dictionary_block-clause-known g c =
    let p = err_from_is_err_and c.from_residual-in_err-read_dictionary_block.result c.from_residual-in_err-read_dictionary_block.ensures.1 in
    rw (p.1, p.2) (dictionary_fails _ _ (state_of c.args.state.now) (state_of c.loop-block.state) c.args.blocks.now c.loop-block.block-index c.in_ok-own.own.items c.in_err-read_dictionary_block.field-0.0 (state_of c.read_dictionary_block.new.state) c.loop-block-test.true c.loop-block.invariant.kept c.in_ok-own.ensures.own
    (rw c.deref.ensures.value at c.in_err-read_dictionary_block.ensures.known) c.loop-block.invariant.on)

pub returns-in_err-read_dictionary_block-clause-kept : goal.returns-in_err-read_dictionary_block-clause-kept
returns-in_err-read_dictionary_block-clause-kept g c = kept_on _ _ _ c.loop-block.invariant.kept c.read_block.ensures.kept

pub loop-block-preserved : goal.loop-block-preserved
loop-block-preserved g c = record {
  kept = kept_on _ _ _ c.loop-block.invariant.kept c.read_block.ensures.kept;
  on = dictionary_goes_on _ _ (state_of c.args.state.now) (state_of c.loop-block.state) c.args.blocks.now c.loop-block.block-index c.in_ok-own.own.items (state_of c.read_dictionary_block.new.state) c.loop-block-test.true c.loop-block.invariant.kept c.in_ok-own.ensures.own
      (rw c.deref.ensures.value at c.in_ok-read_dictionary_block.ensures.known) c.loop-block.invariant.on;
}

pub returns-clause-known : goal.returns-clause-known
returns-clause-known g c = dictionaries_end _ (state_of c.args.state.now) (state_of c.loop-block.state) c.args.blocks.now c.loop-block.block-index c.loop-block-test.false c.loop-block.invariant.on
