use Rattle.std.proofs.Common.{[], ◌∷◌, ◌++◌, ◌∙◌, w32, w64, rules}
use Rattle.std.specs.Fmt.{signed_decimal}
use Rattle.std.proofs.Output.{has_written_append, has_written_of_eq}
use Rattle.std.proofs.lemmas.Int.{to_z-of_z}
use Rattle.json_write.proofs.Escapes.{three-text}
use Rattle.json_write.proofs.flat.write_month_day_nano.Goals as goal

pub returns : goal.returns
returns g c plain ok =
    let one = c.write.ensures.writes plain (search rules) in
    let two = c.write-2.ensures.writes one.plain ok in
    let p = to_z-of_z w32 c.args.months c.ranges.months in
    let q = to_z-of_z w32 c.args.days c.ranges.days in
    let r = to_z-of_z w64 c.args.ns c.ranges.ns in
    has_written_of_eq _ _ _ _ _
    ((λ i. (91 ∷ (signed_decimal (p i) ++ 44 ∷ signed_decimal (q i))) ++ (44 ∷ (signed_decimal (r i) ++ 93 ∷ [])))
    ∙ three-text (signed_decimal c.args.months) (signed_decimal c.args.days) (signed_decimal c.args.ns))
    (has_written_append _ _ _ _ _ _ one two)
