-- Laws of truths and of comparisons.
use Rattle.std.proofs.Common.{◌≡◌, Bool, true, false, Option, Some, None, option_map, refl, ap}
use Rattle.std.specs.Option.{option_and_then}
use Rattle.nest_memory.specs.TypeTree.{TypeTree}
use Rattle.nest_model.specs.Slot as slots
use Rattle.nest_model.specs.Slot.{Slot}
use Rattle.cli_args.specs.Conditions as literals
use Rattle.cli_args.specs.Conditions.{LiteralTree, NumberTree}
use Rattle.cli_args.specs.declared.condition.Comparison.{Comparison}
use Rattle.cli_rows.specs.Comparisons.{spec_number_order, spec_order, spec_ordered}
use Rattle.cli_rows.specs.Conditions.{spec_compared}
use Rattle.cli_rows.specs.Kinds.{spec_column_kind}
use Rattle.cli_rows.specs.TimeLiterals.{spec_number_of_text}
use Rattle.cli_rows.specs.Truth.{truth_and, truth_not, truth_or}
use Rattle.cli_rows.specs.declared.select.kinds.ValueKind.{ValueKind}
use Rattle.cli_rows.specs.declared.select.kinds.ValueKind.TheVariants as kinds
use Rattle.cli_rows.specs.Comparisons.{spec_holds_of}

pub not-and : (t u : Option Bool) → truth_not (truth_and t u) ≡ truth_or (truth_not t) (truth_not u)
not-and (Some true) (Some true) = refl
not-and (Some true) (Some false) = refl
not-and (Some true) None = refl
not-and (Some false) (Some true) = refl
not-and (Some false) (Some false) = refl
not-and (Some false) None = refl
not-and None (Some true) = refl
not-and None (Some false) = refl
not-and None None = refl

pub not-or : (t u : Option Bool) → truth_not (truth_or t u) ≡ truth_and (truth_not t) (truth_not u)
not-or (Some true) (Some true) = refl
not-or (Some true) (Some false) = refl
not-or (Some true) None = refl
not-or (Some false) (Some true) = refl
not-or (Some false) (Some false) = refl
not-or (Some false) None = refl
not-or None (Some true) = refl
not-or None (Some false) = refl
not-or None None = refl

pub not-not : (t : Option Bool) → truth_not (truth_not t) ≡ t
not-not (Some true) = refl
not-not (Some false) = refl
not-not None = refl

pub no-order : (kind : Option ValueKind) (literal : LiteralTree) → spec_order kind literal slots.null ≡ None
no-order None (literals.number n) = refl
no-order None (literals.text bs) = refl
no-order None (literals.boolean b) = refl
no-order (Some (kinds.Number s)) (literals.number n) = refl
no-order (Some (kinds.Number s)) (literals.text bs) = refl
no-order (Some (kinds.Number s)) (literals.boolean b) = refl
no-order (Some (kinds.Float p)) (literals.number n) = refl
no-order (Some (kinds.Float p)) (literals.text bs) = refl
no-order (Some (kinds.Float p)) (literals.boolean b) = refl
no-order (Some (kinds.Temporal u)) (literals.number n) = refl
no-order (Some (kinds.Temporal u)) (literals.text bs) = by (spec_number_of_text u bs)
  where
    by : (o : Option NumberTree) → spec_ordered (option_and_then (spec_number_order 0 slots.null) o) ≡ None
    by None = refl
    by (Some n) = refl
no-order (Some (kinds.Temporal u)) (literals.boolean b) = refl
no-order (Some kinds.String) (literals.number n) = refl
no-order (Some kinds.String) (literals.text bs) = refl
no-order (Some kinds.String) (literals.boolean b) = refl
no-order (Some kinds.Boolean) (literals.number n) = refl
no-order (Some kinds.Boolean) (literals.text bs) = refl
no-order (Some kinds.Boolean) (literals.boolean b) = refl

pub no-kind : (literal : LiteralTree) (v : Slot) → spec_order None literal v ≡ None
no-kind (literals.number n) v = refl
no-kind (literals.text bs) v = refl
no-kind (literals.boolean b) v = refl

pub null-unknown : (op : Comparison) (literal : LiteralTree) (t : TypeTree) → spec_compared op literal (t, slots.null) ≡ None
null-unknown op literal t = ap (option_map (spec_holds_of op)) (no-order (spec_column_kind t) literal)
