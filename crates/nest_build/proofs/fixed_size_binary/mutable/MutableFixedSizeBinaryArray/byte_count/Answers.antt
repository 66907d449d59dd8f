use Rattle.std.proofs.Common.{◌≡◌, length, ◌∙◌, rules}
use Rattle.nest_array.specs.FixedBytesLaws.{bytes-counted}
use Rattle.nest_build.proofs.fixed_size_binary.mutable.MutableFixedSizeBinaryArray.byte_count.Goals as goal

pub returns : goal.returns
returns c =
    let h : c.len.result ≡ length c.self.inside.values.items = search rules in
    h ∙ bytes-counted _ c.self.inside.values.items c.self.inside.validity _ c.self.view_is c.self.invariant.0
