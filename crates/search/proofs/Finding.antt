-- What the search answers where there is a path.
use Prim.Native.Nat.{ℕ}
use mathlib.Core.Path.{sym, ap, subst}
use mathlib.Core.List.{List}
use mathlib.Core.Option.{Option}
use Rattle.std.specs.Prelude.{Some, None, unwrap_or}
use Rattle.std.proofs.lemmas.Option.{none-some}
use Rattle.std.specs.Prelude as std
use Rattle.foil_spec.specs.Foil.{Point}
use Rattle.search.specs.Search.{CornersFound, PathFound}

pub some-corners : {o : Option (List Point)} {out out' : List ℕ} {k : ℕ} → CornersFound o out out' k
    → PathFound o out out' (Some k)
some-corners {o} {out} {out'} {k} F =
    record {
      nowhere = λ z. absurd (none-some k (sym z));
      found = λ n z. subst (λ (i : ℕ). CornersFound o out out' i) (ap (λ (r : std.Option ℕ). unwrap_or r k) z) F;
    }
