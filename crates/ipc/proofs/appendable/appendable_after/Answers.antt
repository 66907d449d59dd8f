use mir.Syntax.{w64}
use mir.Val.{to_z, of_z, SFits}
use Rattle.std.proofs.Common.{rules, ◌≡◌, List, get_or, ap, ◌∙◌}
use Rattle.std.proofs.lemmas.Int.{to_z-of_z}
use Rattle.std.proofs.lemmas.List.{take_all}
use Rattle.std.specs.Prelude.{ℤ, pos}
use Rattle.ipc_schema.specs.ProjectedSchemas.{ProjectedSchemaModel, projected_schema_of}
use Rattle.ipc.specs.Streams.{spec_stays_appendable, spec_appendable_after}
use Rattle.ipc.proofs.AppendableLaws.{fresh_more}
use Rattle.ipc.proofs.appendable.appendable_after.Goals as goal

pub loop-other-preserved : goal.loop-other-preserved
loop-other-preserved c =
    let p : ProjectedSchemaModel = projected_schema_of c.args.picked.now in
    let appendable = c.args.appendable.now in
    let i = c.loop-other.other-index in
    let id : ℤ = to_z w64 (of_z w64 c.args.id) in
    let other : ℤ = get_or appendable i (pos 0) in
    let fits : SFits w64 other = search rules in
    let same_other : to_z w64 (of_z w64 other) ≡ other = to_z-of_z w64 other fits in
    let stays : c.stays_appendable-stays.result ≡ spec_stays_appendable p id other = c.stays_appendable-stays.ensures ∙ ap (spec_stays_appendable p id) same_other in
    fresh_more p id appendable i c.loop-other.ids.items c.push_if.new.ids.items c.stays_appendable-stays.result (to_z w64 (of_z w64 other)) c.loop-other-test.true same_other stays c.in_ok-push_if.ensures c.loop-other.invariant

pub returns : goal.returns
returns c =
    let p : ProjectedSchemaModel = projected_schema_of c.args.picked.now in
    let appendable = c.args.appendable.now in
    let id : ℤ = to_z w64 (of_z w64 c.args.id) in
    let same : id ≡ c.args.id = to_z-of_z w64 c.args.id c.ranges.id in
    c.loop-other.invariant ∙ ap (λ (xs : List ℤ). spec_appendable_after p id xs) (take_all c.loop-other.other-index appendable c.loop-other-test.false) ∙ ap (λ (k : ℤ). spec_appendable_after p k appendable) same
