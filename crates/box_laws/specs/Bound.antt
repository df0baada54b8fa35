-- How bent a path of fewest bends can get, by the number of strips, as it is stated (document 02, P13).
use Rattle.std.specs.Prelude.{ℕ, ◌-◌, ◌*◌, ◌≤◌, ◌<◌, ◌≡◌, Bool, true, cond, List, eqb, length}
use Rattle.foil_spec.specs.Foil.{Point}
use Rattle.foil_spec.specs.Strips.{strips}
use Rattle.foil_spec.specs.Paths.{is_path_to, bends}

-- on a foil with K strips: one bend at most if K is 1, else 2K − 2
unfoldable pub bend_bound : ℕ → ℕ
bend_bound K = cond (eqb K 1) 1 (2 * K - 2)

-- the test f of free points passes on the foil of width W and height H only
abbrev pub OnFoil : (ℕ → ℕ → Bool) → ℕ → ℕ → Type 0
OnFoil f W H = (x y : ℕ) → f x y ≡ true → (x < W) × (y < H)

-- any path of fewest bends to the target T, whatever the order among those
abbrev pub FewestBends : Type 0
FewestBends =
    (f : ℕ → ℕ → Bool) (W H : ℕ) → OnFoil f W H → (S : Point) (T : Point → Bool) (cs : List Point)
    → is_path_to f S T cs ≡ true → ((ds : List Point) → is_path_to f S T ds ≡ true → bends cs ≤ bends ds)
    → bends cs ≤ bend_bound (length (strips f W H))
