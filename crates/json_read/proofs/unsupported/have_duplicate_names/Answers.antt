use Rattle.std.proofs.Common.{◌≡◌, ◌∙◌, ◌<◌, ◌-◌, length, ap, sym, arith, drop}
use Rattle.nest_memory.specs.TypeOf.{field_of, field_list_of}
use Rattle.json_read.specs.JsonSlots.{is_named}
use Rattle.json_write.specs.JsonText.{field_name}
use Rattle.json_read.proofs.Twins.{twin-found, no-twin, names-grow, was-named, was-new}
use Rattle.json_read.proofs.unsupported.have_duplicate_names.Goals as goal

pub returns-then-not-branch-clause-duplicates : goal.returns-then-not-branch-clause-duplicates
returns-then-not-branch-clause-duplicates c =
    let fs = c.args.fields.now.items in
    let x = c.index.result.now in
    let rest = field_list_of (drop c.fields.i fs) in
    let lt : c.fields.i - 1 < length fs = omega arith in
    let name : c.name_of.result.now ≡ field_name (field_of x) = c.name_of.ensures in
    sym (twin-found fs c.fields.i (c.fields.i - 1) x lt (omega arith) c.index.ensures
    (ap (λ n. is_named n rest) (sym name) ∙ sym (c.fields.invariant.names c.name_of.result) ∙ was-named _ _ c.in_ok-insert.ensures.added c.if-not-branch.true))

pub fields-preserved : goal.fields-preserved
fields-preserved c =
    let fs = c.args.fields.now.items in
    let x = c.index.result.now in
    let rest = field_list_of (drop c.fields.i fs) in
    let lt : c.fields.i - 1 < length fs = omega arith in
    let name : c.name_of.result.now ≡ field_name (field_of x) = c.name_of.ensures in
    record {
      within = omega arith;
      distinct = no-twin fs c.fields.i (c.fields.i - 1) x lt (omega arith) c.index.ensures
          (ap (λ n. is_named n rest) (sym name) ∙ sym (c.fields.invariant.names c.name_of.result) ∙ was-new _ _ c.in_ok-insert.ensures.added c.if-not-branch.false)
          c.fields.invariant.distinct;
      names = names-grow fs c.fields.i (c.fields.i - 1) x c.name_of.result _ _ lt (omega arith) c.index.ensures name c.fields.invariant.names c.in_ok-insert.ensures.updates;
    }
