use Rattle.std.proofs.Common.{rules, ◌≡◌, ◌+◌, None, List, length, map, take, drop, refl, sym, ap, ◌∙◌, subst}
use Rattle.std.specs.List.{AllByRecursion, flat_map}
use Rattle.std.proofs.lemmas.List.{append-nil, length-append}
use Rattle.std.proofs.lemmas.Result.{err_from_is_err_and}
use Rattle.ipc.specs.FileDictionaries.{DictionaryBatchTree, dictionary_batch_of}
use Rattle.ipc.specs.Streams.{StateTree, state_of}
use Rattle.ipc.specs.EncodedStreams.{dictionary_bytes, DictionaryRoundTrips}
use Rattle.ipc.specs.EncodedFiles.{dictionary_blocks, state_after, dictionary_batch_error, dictionary_batches_error}
use Rattle.ipc.specs.EncodedBatches.{taken, split, all_push, dictionaries_push, dictionary_blocks_more, after_more, from_more, from_refused}
use Rattle.ipc.proofs.writing_files.write_dictionary_blocks.Goals as goal

pub loop-put-init : goal.loop-put-init
unfolding dictionary_blocks
loop-put-init c = record { written = sym (append-nil c.args.out.now.items); blocks = sym (append-nil c.args.blocks.now.items); again = tt; picked = refl; known = refl; form = refl }

pub returns-in_err-block-clause-err : goal.returns-in_err-block-clause-err
returns-in_err-block-clause-err c =
    let x = c.put-item.result in
    let i = c.loop-put.put-index in
    let puts = c.args.puts.now in
    let p = err_from_is_err_and c.from_residual.result c.from_residual.ensures.1 in
    rw (p.1, p.2) (from_refused state_after dictionary_batch_error (state_of c.args.known.now) (state_of c.loop-put.known) (map dictionary_batch_of puts) (map dictionary_batch_of (take i puts)) (map dictionary_batch_of (drop (i + 1) puts)) (dictionary_batch_of x) _
    (split dictionary_batch_of puts i x c.loop-put-test.true c.put-item.is) c.loop-put.invariant.known c.loop-put.invariant.form c.in_err-block.ensures.err)

pub loop-put-preserved : goal.loop-put-preserved
loop-put-preserved c =
    let x = c.put-item.result in
    let i = c.loop-put.put-index in
    let puts = c.args.puts.now in
    let before = map dictionary_batch_of (take i puts) in
    let behind = map dictionary_batch_of (take (i + 1) puts) in
    let old = c.args.out.now.items in
    let first = state_of c.args.known.now in
    let now = state_of c.loop-put.known in
    let kept = c.loop-put.invariant in
    let more = taken dictionary_batch_of puts i x c.loop-put-test.true c.put-item.is in
    let position : length c.loop-put.out.items ≡ length old + length (flat_map dictionary_bytes before) = ap length kept.written ∙ length-append old (flat_map dictionary_bytes before) in
    record {
      written = dictionaries_push old c.loop-put.out.items c.write_dictionary_block.new.out.items before behind (dictionary_batch_of x) more kept.written c.in_ok-block.ensures.bytes;
      blocks = dictionary_blocks_more (length old) (length c.loop-put.out.items) before behind (dictionary_batch_of x) c.args.blocks.now.items c.loop-put.blocks.items c.push.new.self.items c.in_ok-block.block more kept.blocks c.in_ok-push.ensures.items c.in_ok-block.ensures.block position;
      again = subst (AllByRecursion DictionaryRoundTrips) (sym more) (all_push DictionaryRoundTrips before (dictionary_batch_of x) kept.again c.in_ok-block.ensures.again);
      picked = c.write_dictionary_block.ensures.picked ∙ kept.picked;
      known = after_more state_after first now (state_of c.write_dictionary_block.new.known) before behind (dictionary_batch_of x) more kept.known c.in_ok-block.ensures.known;
      form = from_more state_after dictionary_batch_error first now before behind (dictionary_batch_of x) more kept.known kept.form c.in_ok-block.ensures.form;
    }
