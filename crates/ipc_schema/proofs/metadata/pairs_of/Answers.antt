use Rattle.std.proofs.Common.{◌++◌, ◌∷◌, [], Ok, sym, ap, ◌∙◌}
use Rattle.std.proofs.lemmas.Result.{err_from_is_err_and}
use Rattle.nest_memory.specs.TypeOf.{entries_of}
use Rattle.nest_memory.specs.TypeTree.{Letters, Entries}
use Rattle.ipc_flatbuf.specs.Flatbuffers.{tables_at}
use Rattle.ipc_flatbuf.specs.VectorLoops.{tables_start, table_goes_on, table_lacks_offset, table_fails, tables_are_done}
use Rattle.ipc_schema.specs.Schemas.{spec_pair_at, with_pairs, with_all}
use Rattle.ipc_schema.proofs.Maps.{Texts, with_more}
use Rattle.ipc_schema.proofs.metadata.pairs_of.Goals as goal

pub loop-i-init : goal.loop-i-init
loop-i-init c = ([], ap (λ (es : Texts). entries_of es) (sym c.new-metadata.ensures.empty), tables_start (spec_pair_at c.args.bytes.now) c.args.bytes.now c.args.items.count c.args.items.first c.args.left)

pub returns-in_err-position : goal.returns-in_err-position
returns-in_err-position c =
    let p = err_from_is_err_and c.from_residual.result c.from_residual.ensures.1 in
    let read = spec_pair_at c.args.bytes.now in
    rw (p.1, p.2) (λ known. ap with_all (table_lacks_offset read c.args.bytes.now c.loop-i.invariant.0 c.args.items.count c.args.items.first c.loop-i.i c.loop-i.rest c.in_err-position.field-0.0 (tables_at read c.args.bytes.now c.args.items.count c.args.items.first c.args.left) c.loop-i-test.true (sym c.in_err-position.ensures) c.loop-i.invariant.2))

pub returns-in_err-pair : goal.returns-in_err-pair
returns-in_err-pair c =
    let p = err_from_is_err_and c.from_residual-in_err-pair.result c.from_residual-in_err-pair.ensures.1 in
    let read = spec_pair_at c.args.bytes.now in
    rw (p.1, p.2) (λ known. ap with_all (table_fails c.in_err-pair.field-0.0 read c.args.bytes.now c.loop-i.invariant.0 c.args.items.count c.args.items.first c.loop-i.i c.loop-i.rest c.in_ok-position.position (tables_at read c.args.bytes.now c.args.items.count c.args.items.first c.args.left) c.loop-i-test.true (sym c.in_ok-position.ensures) (λ k. c.in_err-pair.ensures) c.loop-i.invariant.2 known))

pub loop-i-preserved : goal.loop-i-preserved
loop-i-preserved c =
    let read = spec_pair_at c.args.bytes.now in
    let front : Entries = c.loop-i.invariant.0 in
    let pair : Letters × Letters = (c.in_ok-pair.pair.key.now, c.in_ok-pair.pair.value.now) in (
      front ++ pair ∷ [],
      sym (with_more [] front pair) ∙ ap (λ (es : Entries). with_pairs es (pair ∷ [])) c.loop-i.invariant.1 ∙ sym c.in_ok-insert.ensures,
      table_goes_on read c.args.bytes.now front c.args.items.count c.args.items.first c.loop-i.i c.loop-i.rest c.in_ok-position.position pair c.in_ok-pair.after (tables_at read c.args.bytes.now c.args.items.count c.args.items.first c.args.left) c.loop-i-test.true (sym c.in_ok-position.ensures) c.in_ok-pair.ensures c.loop-i.invariant.2,
    )

pub returns : goal.returns
returns c =
    let read = spec_pair_at c.args.bytes.now in
    ap with_all (tables_are_done read c.args.bytes.now c.loop-i.invariant.0 c.args.items.count c.args.items.first c.loop-i.i c.loop-i.rest (tables_at read c.args.bytes.now c.args.items.count c.args.items.first c.args.left) c.loop-i-test.false c.loop-i.invariant.2)
    ∙ ap (λ (es : Entries). Ok (es, c.loop-i.rest)) c.loop-i.invariant.1
