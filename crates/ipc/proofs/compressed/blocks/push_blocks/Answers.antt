use Rattle.std.proofs.Common.{◌≡◌, ◌+◌, ◌-◌, length, refl, arith}
use Rattle.std.proofs.lemmas.Result.{err_from_is_err_and}
use Rattle.ipc_flatbuf.specs.Messages.{model_of}
use Rattle.ipc.specs.EncodedFiles.{file_blocks_of}
use Rattle.ipc.proofs.BlockMessages.{none_scanned, rest_is_shorter, ends_inside, body_inside, block_refused, part_scanned, all_scanned, all_short, scan_never_fails}
use Rattle.ipc.proofs.compressed.blocks.push_blocks.Goals as goal

pub messages-init : goal.messages-init
messages-init c = λ parts are. none_scanned parts c.args.position (file_blocks_of c.args.blocks.now) _ c.args.bytes.now _ _ are refl refl refl

pub unreachable-requires : goal.unreachable-requires
unreachable-requires c =
    scan_never_fails c.requires.readable.0 c.args.position (file_blocks_of c.args.blocks.now) (file_blocks_of c.messages.blocks) c.args.bytes.now c.messages.rest.now c.messages.start c.in-Err.field-0 c.in-Err.ensures.parts (c.messages.invariant c.requires.readable.0 c.requires.readable.1)

pub returns-in-Ok-None-default-clause-ok : goal.returns-in-Ok-None-default-clause-ok
returns-in-Ok-None-default-clause-ok c = λ parts are.
    let found = rw c.in-Ok-None-default.field-0-0-is at c.in-Ok-None-default.ensures.parts in
    all_scanned parts c.args.position (file_blocks_of c.args.blocks.now) (file_blocks_of c.messages.blocks) c.args.bytes.now c.messages.rest.now c.in-Ok-None-default.field-0-1.now c.messages.start found (c.messages.invariant parts are)

pub returns-in-Ok-None-default-clause-form : goal.returns-in-Ok-None-default-clause-form
returns-in-Ok-None-default-clause-form c = λ parts are.
    let found = rw c.in-Ok-None-default.field-0-0-is at c.in-Ok-None-default.ensures.parts in
    all_short parts c.args.position (file_blocks_of c.args.blocks.now) (file_blocks_of c.messages.blocks) c.args.bytes.now c.messages.rest.now c.in-Ok-None-default.field-0-1.now c.messages.start found (c.messages.invariant parts are)

pub overflow_sub-size : goal.overflow_sub-size
overflow_sub-size c =
    let found = rw c.in-Ok-Some-default.field-0-0-is at c.in-Ok-Some-default.ensures.parts in
    let shorter = rest_is_shorter c.requires.readable.0 c.args.position (file_blocks_of c.args.blocks.now) (file_blocks_of c.messages.blocks) c.args.bytes.now c.messages.rest.now c.in-Ok-Some-default.behind.now c.messages.start (model_of c.in-Ok-Some-default.message) found (c.messages.invariant c.requires.readable.0 c.requires.readable.1) in
    omega (arith, shorter)

pub overflow_add-end : goal.overflow_add-end
overflow_add-end c =
    let found = rw c.in-Ok-Some-default.field-0-0-is at c.in-Ok-Some-default.ensures.parts in
    let inside = ends_inside c.requires.readable.0 c.args.position (file_blocks_of c.args.blocks.now) (file_blocks_of c.messages.blocks) c.args.bytes.now c.messages.rest.now c.in-Ok-Some-default.behind.now c.messages.start (model_of c.in-Ok-Some-default.message) found (c.messages.invariant c.requires.readable.0 c.requires.readable.1) in
    omega (arith, inside, c.requires.small)

pub push_block-requires-clause-within : goal.push_block-requires-clause-within
push_block-requires-clause-within c =
    let found = rw c.in-Ok-Some-default.field-0-0-is at c.in-Ok-Some-default.ensures.parts in
    let inside = body_inside c.requires.readable.0 c.args.position (file_blocks_of c.args.blocks.now) (file_blocks_of c.messages.blocks) c.args.bytes.now c.messages.rest.now c.in-Ok-Some-default.behind.now c.messages.start (model_of c.in-Ok-Some-default.message) (c.messages.start + (length c.messages.rest.now - length c.in-Ok-Some-default.behind.now)) found (c.messages.invariant c.requires.readable.0 c.requires.readable.1) refl in
    omega (arith, inside)

pub push_block-requires-clause-small : goal.push_block-requires-clause-small
push_block-requires-clause-small c =
    let found = rw c.in-Ok-Some-default.field-0-0-is at c.in-Ok-Some-default.ensures.parts in
    let inside = ends_inside c.requires.readable.0 c.args.position (file_blocks_of c.args.blocks.now) (file_blocks_of c.messages.blocks) c.args.bytes.now c.messages.rest.now c.in-Ok-Some-default.behind.now c.messages.start (model_of c.in-Ok-Some-default.message) found (c.messages.invariant c.requires.readable.0 c.requires.readable.1) in
    omega (arith, inside, c.requires.small)

pub returns-in_err-push_block-in-Ok-Some-default-clause-err : goal.returns-in_err-push_block-in-Ok-Some-default-clause-err
returns-in_err-push_block-in-Ok-Some-default-clause-err c = λ parts are.
    let found = rw c.in-Ok-Some-default.field-0-0-is at c.in-Ok-Some-default.ensures.parts in
    let p = err_from_is_err_and c.from_residual.result c.from_residual.ensures.1 in
    rw (p.1, p.2) (block_refused parts c.args.position (file_blocks_of c.args.blocks.now) (file_blocks_of c.messages.blocks) c.args.bytes.now c.messages.rest.now c.in-Ok-Some-default.behind.now c.messages.start (model_of c.in-Ok-Some-default.message) (c.messages.start + (length c.messages.rest.now - length c.in-Ok-Some-default.behind.now)) _ found (c.messages.invariant parts are) refl
    c.in_err-push_block-in-Ok-Some-default.ensures.err)

pub messages-smaller : goal.messages-smaller
messages-smaller c =
    let found = rw c.in-Ok-Some-default.field-0-0-is at c.in-Ok-Some-default.ensures.parts in
    rest_is_shorter c.requires.readable.0 c.args.position (file_blocks_of c.args.blocks.now) (file_blocks_of c.messages.blocks) c.args.bytes.now c.messages.rest.now c.in-Ok-Some-default.behind.now c.messages.start (model_of c.in-Ok-Some-default.message) found (c.messages.invariant c.requires.readable.0 c.requires.readable.1)

pub messages-preserved : goal.messages-preserved
messages-preserved c = λ parts are.
    let found = rw c.in-Ok-Some-default.field-0-0-is at c.in-Ok-Some-default.ensures.parts in
    let put = c.in_ok-push_block-in-Ok-Some-default.ensures in
    part_scanned parts c.args.position (file_blocks_of c.args.blocks.now) (file_blocks_of c.messages.blocks) c.args.bytes.now c.messages.rest.now c.in-Ok-Some-default.behind.now c.messages.start (file_blocks_of c.push_block.new.blocks) (model_of c.in-Ok-Some-default.message) (c.messages.start + (length c.messages.rest.now - length c.in-Ok-Some-default.behind.now)) found (c.messages.invariant parts are) refl
    put.short put.ok
