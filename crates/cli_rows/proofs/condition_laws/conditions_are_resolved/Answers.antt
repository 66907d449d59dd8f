use Rattle.std.proofs.Common.{codes, pos, refl, ap, arith}
use Rattle.json_write.specs.Calendar.{date_of, year_of, month_of, first_day, days_of_months}
use Rattle.json_write.specs.Digits.{last_digits, number_text}
use Rattle.cli_args.specs.Columns.{indexed}
use Rattle.cli_args.specs.Conditions.{compare}
use Rattle.cli_args.specs.declared.condition.Comparison.TheVariants.{Less}
use Rattle.cli_rows.specs.ConditionErrors.{number_or_text}
use Rattle.cli_rows.specs.TimeLiterals.{whole_number}
use Rattle.std.specs.Option.{option_map}
use Rattle.cli_rows.proofs.TimeExamples.{day-of}
use Rattle.cli_rows.proofs.condition_laws.conditions_are_resolved.Goals as goal

pub returns-clause-literal : goal.returns-clause-literal
unfolding date_of year_of month_of first_day days_of_months last_digits number_text
returns-clause-literal c = ap (λ o. compare (indexed 4) 0 Less (number_or_text (codes "2000-02-29") (option_map whole_number o))) (day-of (codes "2000-02-29") (pos 11_016) (record { sfits = omega arith }) refl)
