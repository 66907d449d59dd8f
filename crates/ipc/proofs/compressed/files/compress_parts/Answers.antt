use Rattle.std.proofs.Common.{◌≡◌, ◌+◌, ◌-◌, ◌∙◌, List, ℕ, length, ap, length-append, arith}
use Rattle.std.proofs.lemmas.Result.{err_from_is_err_and}
use Rattle.ipc.specs.EncodedFiles.{file_blocks_of}
use Rattle.ipc.specs.CompressedMessages.{BatchMessage, AppendsCompressedMessages}
use Rattle.ipc.proofs.Messages.{write_behind}
use Rattle.ipc.proofs.BlockMessages.{parts_of, are_read_back, parts_appended, lengths_refused, lengths_accepted, messages_refused}
use Rattle.ipc.proofs.compressed.files.compress_parts.Goals as goal

pub returns-in_err-compress_messages-clause-err : goal.returns-in_err-compress_messages-clause-err
returns-in_err-compress_messages-clause-err c = λ ms are.
    let p = err_from_is_err_and c.from_residual.result c.from_residual.ensures.1 in
    rw (p.1, p.2) (messages_refused ms _ (c.in_err-compress_messages.ensures.err ms are))

pub push_blocks-requires-clause-readable : goal.push_blocks-requires-clause-readable
push_blocks-requires-clause-readable c =
    let ms : List BatchMessage = c.requires.0 in
    let old : List ℕ = c.args.out.now.items in
    let mid : List ℕ = c.compress_messages.new.out.items in
    let appended : AppendsCompressedMessages ms old mid = c.in_ok-compress_messages.ensures.ok ms c.requires.1 in
    let begins : c.len-start.result ≡ length old = omega (arith, c.len-start.ensures, c.args.out.now.ok) in
    let slice = write_behind old c.deref.result.now appended.0 c.len-start.result (c.deref.ensures.value ∙ appended.2) begins in
    ((parts_of ms old mid _ c.len-start.result appended slice begins).parts, are_read_back ms old mid _ c.len-start.result appended slice begins)

pub push_blocks-requires-clause-small : goal.push_blocks-requires-clause-small
push_blocks-requires-clause-small c =
    let old : List ℕ = c.args.out.now.items in
    let mid : List ℕ = c.compress_messages.new.out.items in
    let appended : AppendsCompressedMessages c.requires.0 old mid = c.in_ok-compress_messages.ensures.ok c.requires.0 c.requires.1 in
    let begins : c.len-start.result ≡ length old = omega (arith, c.len-start.ensures, c.args.out.now.ok) in
    let slice = write_behind old c.deref.result.now appended.0 c.len-start.result (c.deref.ensures.value ∙ appended.2) begins in
    let all : length mid ≡ length old + length appended.0 = ap length appended.2 ∙ length-append old appended.0 in
    omega (arith, ap length slice, all, begins, c.compress_messages.new.out.ok, c.compress_messages.new.out.small)

pub returns-in_err-push_blocks-clause-err : goal.returns-in_err-push_blocks-clause-err
returns-in_err-push_blocks-clause-err c = λ ms are.
    let old : List ℕ = c.args.out.now.items in
    let mid : List ℕ = c.compress_messages.new.out.items in
    let appended : AppendsCompressedMessages ms old mid = c.in_ok-compress_messages.ensures.ok ms are in
    let begins : c.len-start.result ≡ length old = omega (arith, c.len-start.ensures, c.args.out.now.ok) in
    let slice = write_behind old c.deref.result.now appended.0 c.len-start.result (c.deref.ensures.value ∙ appended.2) begins in
    let parts = (parts_of ms old mid _ c.len-start.result appended slice begins).parts in
    let p = err_from_is_err_and c.from_residual-in_err-push_blocks.result c.from_residual-in_err-push_blocks.ensures.1 in
    rw (p.1, p.2) (lengths_refused ms old mid _ c.len-start.result appended slice begins _ (c.in_ok-compress_messages.ensures.form ms are) (c.in_err-push_blocks.ensures.err parts (are_read_back ms old mid _ c.len-start.result appended slice begins)))

pub returns-clause-ok : goal.returns-clause-ok
returns-clause-ok c = λ ms are.
    let old : List ℕ = c.args.out.now.items in
    let mid : List ℕ = c.compress_messages.new.out.items in
    let appended : AppendsCompressedMessages ms old mid = c.in_ok-compress_messages.ensures.ok ms are in
    let begins : c.len-start.result ≡ length old = omega (arith, c.len-start.ensures, c.args.out.now.ok) in
    let slice = write_behind old c.deref.result.now appended.0 c.len-start.result (c.deref.ensures.value ∙ appended.2) begins in
    let parts = (parts_of ms old mid _ c.len-start.result appended slice begins).parts in
    parts_appended ms old mid _ c.len-start.result appended slice begins (file_blocks_of c.args.blocks.now) (file_blocks_of c.push_blocks.new.blocks) (c.in_ok-push_blocks.ensures.ok parts (are_read_back ms old mid _ c.len-start.result appended slice begins))

pub returns-clause-form : goal.returns-clause-form
returns-clause-form c = λ ms are.
    let old : List ℕ = c.args.out.now.items in
    let mid : List ℕ = c.compress_messages.new.out.items in
    let appended : AppendsCompressedMessages ms old mid = c.in_ok-compress_messages.ensures.ok ms are in
    let begins : c.len-start.result ≡ length old = omega (arith, c.len-start.ensures, c.args.out.now.ok) in
    let slice = write_behind old c.deref.result.now appended.0 c.len-start.result (c.deref.ensures.value ∙ appended.2) begins in
    let parts = (parts_of ms old mid _ c.len-start.result appended slice begins).parts in
    lengths_accepted ms old mid _ c.len-start.result appended slice begins (c.in_ok-compress_messages.ensures.form ms are) (c.in_ok-push_blocks.ensures.form parts (are_read_back ms old mid _ c.len-start.result appended slice begins))
