use Rattle.std.proofs.Common.{◌≡◌, ℕ, zero, suc, ◌<◌, refl, ap, ◌∙◌, arith}
use Rattle.nest_model.specs.Accessors.{start_of, union_offsets_of}
use Rattle.nest_model.specs.Meaning.{union_index}
use Rattle.nest_concat.specs.Parts.{picks_in}
use Rattle.nest_concat.proofs.Picked.{lowest-behind, none-offsets, part-inside, picks-bound, sparse-part}
use Rattle.nest_concat.proofs.union.part.Goals as goal

pub overflow_sub-result : goal.overflow_sub-result
overflow_sub-result c = omega (arith, c.span-first.ensures.first, c.span-first.ensures.end, lowest-behind (picks_in c.args.f c.args.array.now c.args.o c.args.n))

pub returns-then-is_some-clause-within : goal.returns-then-is_some-clause-within
returns-then-is_some-clause-within c =
    let ps = picks_in c.args.f c.args.array.now c.args.o c.args.n in
    omega (arith, c.span-first.ensures.first, c.span-first.ensures.end, lowest-behind ps, picks-bound c.args.f c.args.array.now c.args.o c.args.n c.known.ensures.fits c.known.ensures.kind c.requires.within)

pub returns-clause-within : goal.returns-clause-within
returns-clause-within c =
    let a = c.args.array.now in
    let f = c.args.f in
    let s = none-offsets (λ b. b.now) c.offsets.result (union_offsets_of a) c.is_some.result c.is_some.ensures c.if-is_some.false c.offsets.ensures in
    let x = sparse-part f a c.args.o c.args.n c.known.ensures.kind s (positive c.args.n c.if-n-eq0.false) in
    let y = c.index.ensures.place ∙ ap (λ z. union_index z (start_of a) c.args.o) s in
    let b = part-inside f a c.args.o c.args.n c.known.ensures.fits c.known.ensures.kind c.requires.field c.requires.within in
    omega (arith, b, ap (λ z. z.0) x, ap (λ z. z.1) x, y)
  where
    positive : (n : ℕ) → (n ≡ 0 → ⊥) → 0 < n
    positive zero h = absurd (h refl)
    positive (suc n) h = omega arith
