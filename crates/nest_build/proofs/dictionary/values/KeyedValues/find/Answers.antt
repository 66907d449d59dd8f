use Rattle.std.proofs.Common.{of_calls, rules, ◌≡◌, ℕ}
use Rattle.std.specs.Prelude.{◌↔◌, IfSome, IfNone, IsTrue, slice_get, Some, true, false}
use Rattle.nest_flat.specs.Plain.{plain_value}
use Rattle.nest_model.specs.BuilderItem.{Holds}
use Rattle.nest_build.proofs.Keyed.{found_place}
use Rattle.nest_build.proofs.dictionary.values.KeyedValues.find.Goals as goal

pub returns : goal.returns
returns g c =
    let tree = g.M.MutableArray.model c.args.self.now.values in
    let v = plain_value c.args.value.now in
    let hashes = c.args.self.now.table in
    let some : IfSome c.find.result (λ k. (slice_get hashes k ≡ Some c.args.hash) × (IsTrue true ↔ Holds tree k v)) = search (rules, of_calls) in
    let none : IfNone c.find.result ((k : ℕ) → slice_get hashes k ≡ Some c.args.hash → IsTrue false ↔ Holds tree k v) = search (rules, of_calls) in
    found_place c.find.result hashes tree v c.args.hash c.args.self.now.keyed c.requires some none
