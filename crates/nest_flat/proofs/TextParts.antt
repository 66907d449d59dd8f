-- Parts that form a UTF-8 array, transported along equations.
use Rattle.std.specs.Prelude.{Bool}
use Rattle.std.proofs.Common.{◌≡◌, ℕ, ◌+◌, ◌≤◌, List, sym, subst}
use Rattle.nest_memory.specs.TypeTree.{TypeTree}
use Rattle.nest_memory.specs.Sublist.{sublist}
use Rattle.nest_model.specs.Part.{Validity, sliced_validity, count_rows}
use Rattle.nest_model.specs.Layout.{Layout, utf8}
use Rattle.nest_model.specs.Array.{TopFits}
use Rattle.nest_model.specs.FitsLaws.{top-fits-cut}

pub text-same : (l : Bool) (t t' : TypeTree) (os os' bs bs' : List ℕ) (va va' : Validity) → t' ≡ t → os' ≡ os → bs' ≡ bs → va' ≡ va
    → TopFits (utf8 l t os bs va) → TopFits (utf8 l t' os' bs' va')
text-same l t t' os os' bs bs' va va' e f h k p = subst (λ (a : Layout). TopFits a) (λ i. utf8 l (sym e i) (sym f i) (sym h i) (sym k i)) p

pub text-cut : (l : Bool) (t : TypeTree) (os os' bs : List ℕ) (va va' : Validity) (o n : ℕ) → os' ≡ sublist os o (n + 1) → va' ≡ sliced_validity va o n
    → TopFits (utf8 l t os bs va) → o + n ≤ count_rows os → TopFits (utf8 l t os' bs va')
text-cut l t os os' bs va va' o n e f p h = subst (λ (a : Layout). TopFits a) (λ i. utf8 l t (sym e i) bs (sym f i)) (top-fits-cut (utf8 l t os bs va) o n p h)
