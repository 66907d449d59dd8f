use Rattle.std.specs.Prelude.{false, List}
use Rattle.std.specs.Str.{IsUtf8}
use Rattle.std.proofs.Common.{ℕ, ◌∙◌, subst, refl}
use Rattle.nest_flat.proofs.Texts.{no-texts, texts-by-edges}
use Rattle.nest_flat.proofs.spans.are_texts.Goals as goal

pub returns-in-Ok : goal.returns-in-Ok
returns-in-Ok g c =
    texts-by-edges c.args.offsets.now c.args.bytes.now c.in-Ok.text.now c.are_edges.result (c.known.ensures.some, c.known.ensures.rising) c.requires
    (c.in-Ok.ensures.cases.0 ∙ c.covered.ensures) (subst (λ (x : List ℕ). IsUtf8 x) c.covered.ensures c.in-Ok.ensures.cases.1) c.are_edges.ensures

pub returns-in-Err : goal.returns-in-Err
returns-in-Err g c =
    no-texts c.args.offsets.now c.args.bytes.now false (c.known.ensures.some, c.known.ensures.rising) c.requires
    (subst (λ (x : List ℕ). ¬ (IsUtf8 x)) c.covered.ensures c.in-Err.ensures.cases.0) refl
