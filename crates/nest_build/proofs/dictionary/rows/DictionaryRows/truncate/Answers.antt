use Rattle.std.proofs.Common.{◌∙◌, ap, take, arith}
use Rattle.nest_model.specs.BuilderRow.{values_needed}
use Rattle.nest_model.specs.BuilderRowLaws.{values_needed-front}
use Rattle.nest_build.specs.Keys.{encoded_keys}
use Rattle.nest_build.proofs.Keys.{told_take, raw_take, rows_left}
use Rattle.nest_build.proofs.dictionary.rows.DictionaryRows.truncate.Goals as goal

pub needed_by-self-inside-requires-clause-raw : goal.needed_by-self-inside-requires-clause-raw
needed_by-self-inside-requires-clause-raw g c =
    let a = c.self.inside.keys in
    raw_take a c.truncate.new.self _ _ _ _ c.args.n c.known.ensures.kind c.self.invariant.raw c.truncate.ensures.parts (told_take a c.truncate.new.self c.args.n c.truncate.ensures.slots)

pub needed_by-self-inside-requires-clause-fits : goal.needed_by-self-inside-requires-clause-fits
needed_by-self-inside-requires-clause-fits g c =
    let a = c.self.inside.keys in
    let e = ap values_needed (told_take a c.truncate.new.self c.args.n c.truncate.ensures.slots) in
    let front = values_needed-front (encoded_keys a) c.args.n in
    omega (arith, e, front, c.self.invariant.count)

pub invariant_of-self : goal.invariant_of-self
invariant_of-self g c =
    let a = c.self.inside.keys in
    record {
      raw = raw_take a c.truncate.new.self _ _ _ _ c.args.n c.known.ensures.kind c.self.invariant.raw c.truncate.ensures.parts (told_take a c.truncate.new.self c.args.n c.truncate.ensures.slots);
      count = c.needed_by-self-inside.ensures;
      bare = λ z. absurd (let l = rows_left a c.truncate.new.self c.args.n (told_take a c.truncate.new.self c.args.n c.truncate.ensures.slots) (omega arith) (omega arith) in omega arith);
    }

pub returns : goal.returns
returns g c = told_take c.self.inside.keys c.truncate.new.self c.args.n c.truncate.ensures.slots ∙ ap (take c.args.n) c.self.view_is
