use mir.Syntax.{w64}
use mir.Val.{to_z, of_z, SFits}
use Rattle.std.proofs.Common.{◌≡◌, List, get_or, rules, arith}
use Rattle.std.specs.Prelude.{ℤ, pos}
use Rattle.std.proofs.lemmas.Int.{to_z-of_z}
use Rattle.ipc_schema.specs.DictionaryModels.{seen_of}
use Rattle.ipc_schema.specs.OutermostIds.{ValueTypes, spec_outermost_ids}
use Rattle.ipc_schema.proofs.Passed.{one_passed, one_kept, all_kept}
use Rattle.ipc_schema.proofs.dictionary_ids.outermost_ids.Goals.{then-inside-gt0, else-inside-gt0+in_ok-push}
use Rattle.ipc_schema.proofs.dictionary_ids.outermost_ids.Goals as goal

pub loop-id-preserved : goal.loop-id-preserved
loop-id-preserved c =
    let l = c.loop-id in
    let named : ValueTypes = (seen_of c.args.dictionaries.now).named in
    let ids : List ℤ = c.args.ids.now in
    elim c.if-inside-gt0.branch [
      | then-inside-gt0 w ↦ rw (w.outer-is, w.inside-is) (one_passed named l.outer.items ids l.id-index l.inside (spec_outermost_ids named ids) l.invariant c.loop-id-test.true w.if-inside-gt0.true)
      | else-inside-gt0+in_ok-push w ↦
          let fits : SFits w64 (get_or ids l.id-index (pos 0)) = search rules in
          let same : to_z w64 (of_z w64 (get_or ids l.id-index (pos 0))) ≡ get_or ids l.id-index (pos 0) = to_z-of_z w64 (get_or ids l.id-index (pos 0)) fits in
          rw (w.outer-is, w.inside-is, w.in_ok-push.ensures.items, w.count_nested-inside.ensures, same) (one_kept named l.outer.items ids l.id-index l.inside (spec_outermost_ids named ids) l.invariant c.loop-id-test.true (omega (arith, w.if-inside-gt0.false)))
    ]

pub returns : goal.returns
returns c =
    let l = c.loop-id in
    let named : ValueTypes = (seen_of c.args.dictionaries.now).named in
    all_kept named l.outer.items c.args.ids.now l.id-index l.inside (spec_outermost_ids named c.args.ids.now) l.invariant c.loop-id-test.false
