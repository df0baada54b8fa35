-- `sheet_rows::limits::limit` takes what the others are kept off the 512, and no more than 128.
use native.Mathlib.Omega.{arith}
use mathlib.Core.Path.{ap, ◌∙◌}
use mathlib.Core.List.{List}
use Prim.Native.Nat.{ℕ}
use Rattle.foil_spec.specs.Sheet.{counts_ok, limit_of}
use Rattle.sheet_laws.proofs.Counts.{ok-few}
use Rattle.sheet_rows.proofs.Tables.{own_in, others-fit, limited}
use Rattle.sheet_rows.proofs.limits.limit.Goals as goal

pub reserved-requires : goal.reserved-requires
reserved-requires c = ok-few _ (ap counts_ok c.counts_of-counts.ensures ∙ c.requires.1)

pub overflow_sub-reserved : goal.overflow_sub-reserved
overflow_sub-reserved c =
    own_in _ (ap counts_ok c.counts_of-counts.ensures ∙ c.requires.1) c.args.k (omega arith) _ _ c.reserved.ensures
    c.max.ensures

pub overflow_sub-reserved-2 : goal.overflow_sub-reserved-2
overflow_sub-reserved-2 c =
    others-fit _ (ap counts_ok c.counts_of-counts.ensures ∙ c.requires.1) c.args.k (omega arith) _ _ c.reserved.ensures
    c.max.ensures

pub returns : goal.returns
returns c =
    c.min.ensures
    ∙ limited _ (ap counts_ok c.counts_of-counts.ensures ∙ c.requires.1) c.args.k (omega arith) _ _ c.reserved.ensures
    c.max.ensures
    ∙ ap (λ (ns : List ℕ). limit_of ns c.args.k) c.counts_of-counts.ensures
