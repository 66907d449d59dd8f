-- The levels of a condition.
use Rattle.std.proofs.Common.{◌≡◌, ℕ, suc, ◌-◌, ◌<◌, List, Err, refl, ap, arith}
use Rattle.cli_args.specs.ConditionParser.{is_and, is_or, read_and, read_joined, read_not, read_not_with, read_or}
use Rattle.cli_args.specs.ConditionResults.{error_at}
use Rattle.cli_args.specs.Conditions.{both, either}
use Rattle.cli_args.specs.declared.condition_error.SyntaxErrorKind.TheVariants.{TooDeep}

pub no-or : (len levels : ℕ) (bs : List ℕ) → levels ≡ 0 → read_or len levels bs ≡ Err (error_at len bs TooDeep)
unfolding read_or
no-or len levels bs e = rw e refl

pub some-or : (len levels : ℕ) (bs : List ℕ) → 0 < levels → read_or len levels bs ≡ read_joined len is_or either (read_and len (levels - 1)) (read_or len (levels - 1)) bs
unfolding read_or
some-or len levels bs some = let k : levels ≡ suc (levels - 1) = omega arith in ap (λ n. read_or len n bs) k

pub no-and : (len levels : ℕ) (bs : List ℕ) → levels ≡ 0 → read_and len levels bs ≡ Err (error_at len bs TooDeep)
unfolding read_and
no-and len levels bs e = rw e refl

pub some-and : (len levels : ℕ) (bs : List ℕ) → 0 < levels → read_and len levels bs ≡ read_joined len is_and both (read_not len (levels - 1)) (read_and len (levels - 1)) bs
unfolding read_and
some-and len levels bs some = let k : levels ≡ suc (levels - 1) = omega arith in ap (λ n. read_and len n bs) k

pub no-not : (len levels : ℕ) (bs : List ℕ) → levels ≡ 0 → read_not len levels bs ≡ Err (error_at len bs TooDeep)
unfolding read_not
no-not len levels bs e = rw e refl

pub some-not : (len levels : ℕ) (bs : List ℕ) → 0 < levels → read_not len levels bs ≡ read_not_with len (read_not len (levels - 1)) (read_or len (levels - 1)) bs
unfolding read_not
some-not len levels bs some = let k : levels ≡ suc (levels - 1) = omega arith in ap (λ n. read_not len n bs) k
