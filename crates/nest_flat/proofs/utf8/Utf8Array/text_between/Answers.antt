use Rattle.std.specs.Prelude.{◌+◌, ◌-◌, ◌≤◌, List, get_or}
use Rattle.std.specs.Str.{IsUtf8}
use Rattle.std.proofs.Common.{◌≡◌, ◌∙◌, ℕ, ap, sym, subst, arith}
use Rattle.nest_memory.specs.Sublist.{sublist}
use Rattle.nest_memory.specs.TypeOf.{type_of}
use Rattle.nest_model.specs.Layout.{Layout}
use Rattle.nest_model.specs.Meaning.{len}
use Rattle.nest_model.specs.Part.{count_rows}
use Rattle.nest_flat.specs.Texts.{IsTextOf, bytes_between}
use Rattle.nest_flat.proofs.Texts.{between-bytes, between-text, offset-at}
use Rattle.nest_flat.proofs.utf8.Utf8Array.text_between.Goals as goal

pub long_text_of-requires : goal.long_text_of-requires
long_text_of-requires g c =
    let within : c.args.end ≤ count_rows c.self.inside.offsets = omega (arith, ap len c.self.view_is, c.requires.within) in
    let a = offset-at c.self.inside.offsets c.args.first c.start_end-start.result.0 c.start_end-start.ensures.first in
    let e : c.args.end - 1 + 1 ≡ c.args.end = omega (arith, c.requires.some) in
    let b = sym (ap (λ k. get_or c.self.inside.offsets k 0) e) ∙ offset-at c.self.inside.offsets (c.args.end - 1 + 1) c.start_end-stop.result.1 c.start_end-stop.ensures.second in
    let s = between-bytes g.O.Offset.IS_LARGE (type_of c.self.inside.data_type) c.self.inside.offsets c.self.inside.values c.self.inside.validity c.args.first c.args.end c.self.invariant (omega (arith, c.requires.some)) within in
    let p : bytes_between c.self.inside.offsets c.self.inside.values c.args.first c.args.end ≡ sublist c.as_slice.result.now c.start_end-start.result.0 (c.start_end-stop.result.1 - c.start_end-start.result.0) = s ∙ λ i. sublist (sym c.as_slice.ensures i) (a i) (b i - a i) in
    subst (λ (x : List ℕ). IsUtf8 x) p (between-text g.O.Offset.IS_LARGE (type_of c.self.inside.data_type) c.self.inside.offsets c.self.inside.values c.self.inside.validity c.args.first c.args.end c.self.invariant (omega (arith, c.requires.some)) within)

pub returns : goal.returns
returns g c =
    let within : c.args.end ≤ count_rows c.self.inside.offsets = omega (arith, ap len c.self.view_is, c.requires.within) in
    let a = offset-at c.self.inside.offsets c.args.first c.start_end-start.result.0 c.start_end-start.ensures.first in
    let e : c.args.end - 1 + 1 ≡ c.args.end = omega (arith, c.requires.some) in
    let b = sym (ap (λ k. get_or c.self.inside.offsets k 0) e) ∙ offset-at c.self.inside.offsets (c.args.end - 1 + 1) c.start_end-stop.result.1 c.start_end-stop.ensures.second in
    let s = between-bytes g.O.Offset.IS_LARGE (type_of c.self.inside.data_type) c.self.inside.offsets c.self.inside.values c.self.inside.validity c.args.first c.args.end c.self.invariant (omega (arith, c.requires.some)) within in
    let p : bytes_between c.self.inside.offsets c.self.inside.values c.args.first c.args.end ≡ sublist c.as_slice.result.now c.start_end-start.result.0 (c.start_end-stop.result.1 - c.start_end-start.result.0) = s ∙ λ i. sublist (sym c.as_slice.ensures i) (a i) (b i - a i) in
    subst (λ (x : Layout). IsTextOf x c.args.first c.args.end c.long_text_of.result.now) c.self.view_is (within, c.long_text_of.ensures ∙ sym p)
