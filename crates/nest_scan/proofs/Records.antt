-- The children of a struct array have its length.
use Rattle.std.proofs.Common.{◌≡◌, ℕ, ◌≤◌, sym, ap, subst, arith}
use Rattle.nest_model.specs.Accessors.{children_of, validity_of}
use Rattle.nest_model.specs.Array.{TopFits}
use Rattle.nest_model.specs.FactLaws.{struct-facts}
use Rattle.nest_model.specs.Fits.{EachCovers, EachLen}
use Rattle.nest_model.specs.Layout.{Layout, Layouts, struct, no_layouts, more_layouts, layout_type}
use Rattle.nest_model.specs.Meaning.{len, first_len}

covers : (cs : Layouts) (m n : ℕ) → EachLen cs m → n ≤ m → EachCovers cs n
covers no_layouts m n h k = tt
covers (more_layouts c cs) m n h k = (omega (arith, h.0, k), covers cs m n h.1 k)

pub children-cover : (a : Layout) (cs : Layouts) (n : ℕ) → TopFits a → a ≡ struct (layout_type a) (children_of a) (validity_of a) → cs ≡ children_of a → n ≤ len a → EachCovers cs n
children-cover a cs n h e f k =
    let all = struct-facts (layout_type a) (children_of a) (validity_of a) (subst TopFits e h) in
    subst (λ ds. EachCovers ds n) (sym f) (covers (children_of a) (first_len (children_of a)) n all.each_len (omega (arith, k, ap len e)))
