use Rattle.std.proofs.Common.{sym}
use Rattle.std.proofs.lemmas.Result.{err_from_is_err_and}
use Rattle.ipc_schema.specs.Dictionaries.{progress}
use Rattle.ipc_schema.specs.DictionaryModels.{seen_of}
use Rattle.ipc_schema.specs.Projections.{projection_of}
use Rattle.ipc_schema.specs.ProjectedSchemas.{spec_projected_fields_at, item_of, fields_model_of}
use Rattle.ipc_schema.proofs.Chosen.{pick_goes_on, pick_lacks_offset, pick_ends, pick_is_done}
use Rattle.ipc_schema.proofs.projected.projected_fields_at.Goals as goal

pub returns-in_err-position : goal.returns-in_err-position
returns-in_err-position c =
    let p = err_from_is_err_and c.from_residual.result c.from_residual.ensures.1 in
    let picks = projection_of c.args.column_set.now.columns in
    rw (p.1, p.2) (λ known. pick_lacks_offset picks c.args.bytes.now (fields_model_of c.loop-i.parts) c.args.items.count c.args.items.first c.loop-i.i (progress c.loop-i.rest (seen_of c.loop-i.seen)) (spec_projected_fields_at picks c.args.bytes.now 0 c.args.items.count c.args.items.first (progress c.args.left (seen_of c.args.seen.now))) c.in_err-position.field-0.0 c.loop-i-test.true (sym c.in_err-position.ensures) c.loop-i.invariant)

pub returns-in_err-item : goal.returns-in_err-item
returns-in_err-item c =
    let p = err_from_is_err_and c.from_residual-in_err-item.result c.from_residual-in_err-item.ensures.1 in
    let picks = projection_of c.args.column_set.now.columns in
    rw (p.1, p.2) (pick_ends picks c.args.bytes.now (fields_model_of c.loop-i.parts) c.args.items.count c.args.items.first c.loop-i.i (progress c.loop-i.rest (seen_of c.loop-i.seen)) (spec_projected_fields_at picks c.args.bytes.now 0 c.args.items.count c.args.items.first (progress c.args.left (seen_of c.args.seen.now))) c.in_err-item.field-0.0 c.in_ok-position.position c.loop-i-test.true (sym c.in_ok-position.ensures) c.in_err-item.ensures c.loop-i.invariant)

pub loop-i-preserved : goal.loop-i-preserved
loop-i-preserved c =
    let picks = projection_of c.args.column_set.now.columns in
    pick_goes_on picks c.args.bytes.now (fields_model_of c.loop-i.parts) c.args.items.count c.args.items.first c.loop-i.i (progress c.loop-i.rest (seen_of c.loop-i.seen)) (spec_projected_fields_at picks c.args.bytes.now 0 c.args.items.count c.args.items.first (progress c.args.left (seen_of c.args.seen.now)))
    c.in_ok-position.position (item_of c.in_ok-item.item) (progress c.in_ok-item.after (seen_of c.item_at.new.seen)) (fields_model_of c.push.new.parts) c.loop-i-test.true (sym c.in_ok-position.ensures) c.in_ok-item.ensures c.in_ok-push.ensures c.loop-i.invariant

pub returns : goal.returns
returns c =
    let picks = projection_of c.args.column_set.now.columns in
    pick_is_done picks c.args.bytes.now (fields_model_of c.loop-i.parts) c.args.items.count c.args.items.first c.loop-i.i (progress c.loop-i.rest (seen_of c.loop-i.seen)) (spec_projected_fields_at picks c.args.bytes.now 0 c.args.items.count c.args.items.first (progress c.args.left (seen_of c.args.seen.now))) c.loop-i-test.false c.loop-i.invariant
