-- From a target the first path is there already: one corner.
use Prim.Native.Nat.{ℕ, ◌≤◌}
use native.Mathlib.Omega.{arith}
use mathlib.Core.Path.{◌≡◌, refl, ◌∙◌}
use mathlib.Core.Bool.{Bool, true, false}
use mathlib.Core.List.{List, [], ◌∷◌}
use mathlib.Core.Option.{some}
use Rattle.std.specs.Prelude.{Some}
use Rattle.std.specs.Prelude as std
use lib.ListN.{length}
use lib.Seq.{sets}
use Rattle.foil_spec.specs.Foil.{Point}
use Rattle.foil_spec.specs.Corners.{point_numbers}
use Rattle.foil_spec.specs.Paths.{goings, shortest, first_from, first_path_to}
use Rattle.list_laws.proofs.Tests.{and_i}
use Rattle.grid.specs.Targets.{in_boxes, target}
use Rattle.sowing.specs.Seeds.{boxed}
use Rattle.search.specs.Grid.{free_of, target_of, start_of, path_to, Aimed}
use Rattle.search.specs.Search.{PathFound}
use Rattle.search.specs.declared.Aim.{Aim}
use Rattle.search.proofs.Written.{corner-written}
use Rattle.search.proofs.Finding.{some-corners}

-- where the corner fits
pub stay-put : (p : Point) (out out' : List ℕ) → 2 ≤ length out → out' ≡ sets out 0 (point_numbers p)
    → PathFound (some (p ∷ [])) out out' (Some 1)
stay-put p out out' fit e =
    some-corners (record {
      some = omega arith;
      count = refl;
      corners = λ room. e ∙ corner-written p.x p.y out fit;
      untouched = λ many. absurd (omega arith);
    })

-- the first path from a target
target_first : (f : ℕ → ℕ → Bool) (W H : ℕ) (S : Point) (T : Point → Bool) → f S.x S.y ≡ true → T S ≡ true
    → first_path_to f W H S T ≡ some (S ∷ [])
unfolding first_path_to first_from goings shortest
target_first f W H S T e t = rw e (rw (t, first_from) refl)

pub found_here : {z t : List ℕ} {a : Aim} → Aimed z t a → boxed a.k t false a.from.x a.from.y ≡ true
    → {out out' : List ℕ} {r : std.Option ℕ} → PathFound (some (start_of a ∷ [])) out out' r
    → PathFound (path_to z t a) out out' r
unfolding target in_boxes boxed
found_here {z} {t} {a} A b F =
    rw (target_first (free_of z a) a.w a.h (start_of a) (target_of z t a) A.s-free
    (and_i {a = in_boxes a.k t a.from.x a.from.y} b A.s-free)) F
